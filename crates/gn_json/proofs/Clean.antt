-- What is known of a value with no misfit, and of what stands under its keys.
use Rattle.std.proofs.Common.{◌≡◌, Bool, true, false, not, ◌&&◌, ◌||◌, List, [], ◌∷◌, Option, Some, None, option_map, is_some, bytes_eq, cond, refl, sym, ap, ◌∙◌, subst, true≢false, if◌then◌else◌}
use Rattle.std.specs.Option.{unwrap_or}
use Rattle.std.specs.declared.cmp.Ordering.{Ordering}
use Rattle.std.specs.declared.cmp.Ordering.TheVariants.{Less, Equal, Greater}
use Rattle.std.specs.Ordering.{nat_cmp, match_ordering, is_eq}
use Rattle.std.specs.Cmp.Lexicographic.{slice_cmp}
use Rattle.std.proofs.lemmas.Map.Text.{is_eq-slice_cmp}
use Rattle.std.proofs.lemmas.Slice.Eq.{bytes_eq-Decides}
use Rattle.serde_json.specs.Data.{Data, null, boolean, number, string, array, object, Items, Members, no_members, member}
use Rattle.serde_json.specs.Find.{get, get_member}
use Rattle.gn_kinds.specs.Row.{Text}
use Rattle.gn_pointers.specs.Pointers.{Step, key, Pointer, IsFirst, joined}
use Rattle.gn_form.specs.Form.{Form, Key, fits, are_there, named, item_form, member_form, row_in_node}
use Rattle.gn_form.specs.Walk.{if_asked, first_in, first_item, first_member}

-- ---- tests and options

pub both_left : (a b : Bool) → (a && b) ≡ true → a ≡ true
both_left true b e = refl
both_left false b e = absurd (cc)

pub both_right : (a b : Bool) → (a && b) ≡ true → b ≡ true
both_right true b e = e
both_right false b e = absurd (cc)

pub some_or : {A : Type 0} (o : Option A) (a : A) → is_some o ≡ true → o ≡ Some (unwrap_or o a)
some_or None a e = absurd (true≢false (sym e))
some_or (Some b) a e = refl

pub same_some : {A : Type 0} (x y : A) → ◌≡◌ {A = Option A} (Some x) (Some y) → x ≡ y
same_some x y e = cc

pub same_bytes : (k l : Text) → bytes_eq k l ≡ true → k ≡ l
same_bytes k l e = (bytes_eq-Decides k l).0 e

-- ---- the walk found nothing

-- the value is of its form, and so is what stands in it
abbrev pub IsClean : Form → Data → Type 0
IsClean form d = first_in form d ≡ None

pub none_of : (b : Bool) (found : Option Pointer) → (if b then found else Some []) ≡ None → (b ≡ true) × (found ≡ None)
none_of true found e = (refl, e)
none_of false found e = absurd (cc)

pub none_joined : (s : Step) (here rest : Option Pointer) → joined s here rest ≡ None → (here ≡ None) × (rest ≡ None)
none_joined s None rest e = (refl, e)
none_joined s (Some p) rest e = absurd (cc)

pub none_first : (P : Pointer → Type 0) (found : Option Pointer) → IsFirst P found → IsFirst P None → found ≡ None
none_first P None h none = refl
none_first P (Some p) h none = absurd (none p h.0)

pub fit : (form : Form) (d : Data) → IsClean form d → fits form d ≡ true
fit form null e = (none_of (fits form null) _ e).0
fit form (boolean b) e = (none_of (fits form (boolean b)) _ e).0
fit form (number n) e = (none_of (fits form (number n)) _ e).0
fit form (string s) e = (none_of (fits form (string s)) _ e).0
fit form (array ds) e = (none_of (fits form (array ds)) _ e).0
fit form (object ms) e = (none_of (fits form (object ms)) _ e).0

pub items_clean : (form : Form) (ds : Items) → IsClean form (array ds) → if_asked (item_form form ds) (λ g. first_item g 0 ds) ≡ None
items_clean form ds e = (none_of (fits form (array ds)) _ e).1

pub members_clean : (form : Form) (ms : Members) → IsClean form (object ms) → first_member (member_form form (row_in_node (object ms))) ms ≡ None
members_clean form ms e = (none_of (fits form (object ms)) _ e).1

-- ---- what stands under a key

pub asked_clean : (o : Option Form) (form : Form) (d : Data) → o ≡ Some form → if_asked o (λ g. first_in g d) ≡ None → IsClean form d
asked_clean None form d e h = absurd (cc)
asked_clean (Some g) form d e h = subst (λ x. IsClean x d) (same_some g form e) h

found_clean : (forms : Text → Option Form) (form : Form) (k l : Text) (d e : Data) (rest : Option Data) (o : Ordering) → slice_cmp nat_cmp k l ≡ o → forms k ≡ Some form
    → if_asked (forms l) (λ g. first_in g d) ≡ None → (rest ≡ Some e → IsClean form e) → match_ordering o rest (Some d) rest ≡ Some e → IsClean form e
found_clean forms form k l d e rest Less c a h more m = more m
found_clean forms form k l d e rest Greater c a h more m = more m
found_clean forms form k l d e rest Equal c a h more m =
    let same : k ≡ l = same_bytes k l (sym (is_eq-slice_cmp k l) ∙ ap is_eq c) in
    subst (λ x. IsClean form x) (same_some d e m) (asked_clean (forms l) form d (ap forms (sym same) ∙ a) h)

pub member_clean : (forms : Text → Option Form) (form : Form) (k : Text) (ms : Members) (e : Data) → forms k ≡ Some form → first_member forms ms ≡ None → get_member k ms ≡ Some e → IsClean form e
member_clean forms form k no_members e a n m = absurd (cc)
member_clean forms form k (member l d ms) e a n m =
    let none = none_joined (key l) (if_asked (forms l) (λ g. first_in g d)) (first_member forms ms) n in
    found_clean forms form k l d e (get_member k ms) (slice_cmp nat_cmp k l) refl a none.0 (λ q. member_clean forms form k ms e a none.1 q) m

-- what stands under the key, if anything does, is of the form
abbrev pub IsCleanUnder : Form → Text → Data → Type 0
IsCleanUnder form k d = (e : Data) → get k d ≡ Some e → IsClean form e

-- the key is there
abbrev pub IsThere : Text → Data → Type 0
IsThere k d = is_some (get k d) ≡ true

-- a key that is passed over
passed : (o : Ordering) (rest : Option Data) (d : Data) → is_eq o ≡ false → is_some (match_ordering o rest (Some d) rest) ≡ true → is_some rest ≡ true
passed Less rest d e h = h
passed Greater rest d e h = h
passed Equal rest d e h = absurd (true≢false e)

pub there_later : (k l : Text) (d : Data) (ms : Members) → bytes_eq k l ≡ false → IsThere k (object (member l d ms)) → IsThere k (object ms)
there_later k l d ms e h = passed (slice_cmp nat_cmp k l) (get_member k ms) d (is_eq-slice_cmp k l ∙ e) h

-- ---- an object with its keys

-- each key that must be there is, and what stands under each key is of its form
abbrev pub HasKeys : List Key → Members → Type 0
HasKeys keys ms = (are_there keys (object ms) ≡ true) × (first_member (λ k. option_map (λ key. key.form) (named keys k)) ms ≡ None)

pub has_keys_if : (known : Bool) (keys : List Key) (ms : Members) → (if known && are_there keys (object ms) then first_member (λ k. option_map (λ key. key.form) (named keys k)) ms else Some []) ≡ None → HasKeys keys ms
has_keys_if known keys ms e =
    let both = none_of (known && are_there keys (object ms)) (first_member (λ k. option_map (λ key. key.form) (named keys k)) ms) e in
    (both_right known (are_there keys (object ms)) both.0, both.1)

pub clean_under : (keys : List Key) (ms : Members) (k : Text) (it : Key) → HasKeys keys ms → named keys k ≡ Some it → IsCleanUnder it.form k (object ms)
clean_under keys ms k it h e = λ d m. member_clean (λ k. option_map (λ key. key.form) (named keys k)) it.form k ms d (ap (option_map (λ key. key.form)) e) h.1 m

there_at : (b : Bool) (x it : Key) (rest : Option Key) (k : Text) (d : Data) (others : Bool) → bytes_eq x.name k ≡ b → cond b (Some x) rest ≡ Some it → it.needed ≡ true
    → ((not x.needed || is_some (get x.name d)) && others) ≡ true → (rest ≡ Some it → others ≡ true → IsThere k d) → IsThere k d
there_at true x it rest k d others same e n h more =
    let equal : x ≡ it = same_some x it e in
    let first = both_left (not x.needed || is_some (get x.name d)) others h in
    let needed : x.needed ≡ true = ap (λ key. key.needed) equal ∙ n in
    let named : is_some (get x.name d) ≡ true = subst (λ b. (not b || is_some (get x.name d)) ≡ true) needed first in
    subst (λ name. IsThere name d) (same_bytes x.name k same) named
there_at false x it rest k d others same e n h more = more e (both_right (not x.needed || is_some (get x.name d)) others h)

there_among : (keys : List Key) (d : Data) (k : Text) (it : Key) → named keys k ≡ Some it → it.needed ≡ true → are_there keys d ≡ true → IsThere k d
there_among [] d k it e n h = absurd (cc)
there_among (x ∷ keys) d k it e n h =
    there_at (bytes_eq x.name k) x it (named keys k) k d (are_there keys d) refl e n h (λ m more. there_among keys d k it m n more)

pub there_in : (keys : List Key) (ms : Members) (k : Text) (it : Key) → HasKeys keys ms → named keys k ≡ Some it → it.needed ≡ true → IsThere k (object ms)
there_in keys ms k it h e n = there_among keys (object ms) k it e n h.0
