-- Writing through a page.
use Rattle.std.proofs.Common.{◌≡◌, ℕ, ◌<◌, get_or, ◌+◌, ◌^◌, ◌≤◌, List, [], ◌∷◌, ◌++◌, length, take, drop, Option, Some, None, Result, Ok, Err, refl, sym, ap, ◌∙◌, subst, arith, append_assoc, append-nil}
use Rattle.std.proofs.Math.Seq.{take-append-add}
use Rattle.std.proofs.lemmas.List.{take-append-le, length-append, at_drop_more}
use Rattle.std.specs.Result.{IsErr}
use Rattle.gn_io.specs.Outside.{stopped, with_bytes}
use Rattle.gn_obj.specs.declared.page.Unwritten.{Unwritten}
use Rattle.gn_obj.specs.Pages.{Writer, Grown, Cut, Writes}

pub with_nothing : (held : Option (List ℕ)) → held ≡ with_bytes held []
with_nothing None = refl
with_nothing (Some h) = ap Some (sym (append-nil h))

pub with_both : (held : Option (List ℕ)) (a b : List ℕ) → with_bytes (with_bytes held a) b ≡ with_bytes held (a ++ b)
with_both None a b = refl
with_both (Some h) a b = ap Some (append_assoc h a b)

pub count_both : (a b m n : ℕ) → stopped b ≡ stopped (a + m) → stopped (b + n) ≡ stopped (a + (m + n))
count_both a b m n e = omega (arith, e)

-- nothing was written
pub kept : (w : Writer) → Grown [] w w
kept w = record { put = []; output = with_nothing w.held; whole = sym (append-nil w.page.waiting); sent = omega arith; faults = omega arith }

-- a text, and then another
pub grown_both : (a b : List ℕ) (w w' w'' : Writer) → Grown a w w' → Grown b w' w'' → Grown (a ++ b) w w''
grown_both a b w w' w'' g k = record {
  put = g.put ++ k.put;
  output = k.output ∙ ap (λ h. with_bytes h k.put) g.output ∙ with_both w.held g.put k.put;
  whole = append_assoc g.put k.put w''.page.waiting ∙ ap (λ l. g.put ++ l) k.whole ∙ sym (append_assoc g.put w'.page.waiting b)
      ∙ ap (λ l. l ++ b) g.whole ∙ append_assoc w.page.waiting a b;
  sent = k.sent ∙ count_both w.page.sent w'.page.sent (length g.put) (length k.put) g.sent ∙ ap (λ n. stopped (w.page.sent + n)) (sym (length-append g.put k.put));
  faults = omega (arith, g.faults, k.faults);
}

-- a text, and then the output fails
pub grown_cut : (a b : List ℕ) (w w' w'' : Writer) → Grown a w w' → Cut b w' w'' → Cut (a ++ b) w w''
grown_cut a b w w' w'' g k =
    let whole : g.put ++ (w'.page.waiting ++ b) ≡ w.page.waiting ++ (a ++ b) =
    sym (append_assoc g.put w'.page.waiting b) ∙ ap (λ l. l ++ b) g.whole ∙ append_assoc w.page.waiting a b in
    let part : g.put ++ take k.count (w'.page.waiting ++ b) ≡ take (length g.put + k.count) (w.page.waiting ++ (a ++ b)) =
    sym (take-append-add g.put (w'.page.waiting ++ b) k.count) ∙ ap (take (length g.put + k.count)) whole in
    record {
      count = length g.put + k.count;
      within = omega (arith, k.within, ap length whole, length-append g.put (w'.page.waiting ++ b));
      output = k.output ∙ ap (λ h. with_bytes h (take k.count (w'.page.waiting ++ b))) g.output ∙ with_both w.held g.put (take k.count (w'.page.waiting ++ b)) ∙ ap (with_bytes w.held) part;
      sent = k.sent ∙ count_both w.page.sent w'.page.sent (length g.put) k.count g.sent;
      rose = omega (arith, g.faults, k.rose);
      faults = omega (arith, g.faults, k.faults);
    }

-- more text that was to follow
pub cut_before : (a b : List ℕ) (w w' : Writer) → Cut a w w' → Cut (a ++ b) w w'
cut_before a b w w' k =
    let part : take k.count (w.page.waiting ++ (a ++ b)) ≡ take k.count (w.page.waiting ++ a) =
    ap (take k.count) (sym (append_assoc w.page.waiting a b)) ∙ take-append-le k.count (w.page.waiting ++ a) b k.within in
    record {
      count = k.count;
      within = omega (arith, k.within, length-append w.page.waiting a, length-append w.page.waiting (a ++ b), length-append a b);
      output = k.output ∙ ap (with_bytes w.held) (sym part);
      sent = k.sent;
      rose = k.rose;
      faults = k.faults;
    }

pub grown_writes : (r : Result (Unit {0}) Unwritten) (a b : List ℕ) (w w' w'' : Writer) → Grown a w w' → Writes b w' w'' r → Writes (a ++ b) w w'' r
grown_writes (Ok u) a b w w' w'' g k = grown_both a b w w' w'' g k
grown_writes (Err e) a b w w' w'' g k = grown_cut a b w w' w'' g k

-- the output failed, and so does the call
pub cut_fails : (r : Result (Unit {0}) Unwritten) (text : List ℕ) (w w' : Writer) → IsErr r → Cut text w w' → Writes text w w' r
cut_fails (Ok u) text w w' failed k = cc
cut_fails (Err e) text w w' failed k = k

-- a front part of the whole text was written, and the rest is left
abbrev pub IsLeft : List ℕ → List ℕ → Writer → Writer → Type 0
IsLeft whole rest before now = (done : List ℕ) × Grown done before now × (done ++ rest ≡ whole)

pub all_left : (whole : List ℕ) (w : Writer) → IsLeft whole whole w w
all_left whole w = ([], kept w, refl)

pub one_written : (whole text rest : List ℕ) (w w' w'' : Writer) → IsLeft whole (text ++ rest) w w' → Grown text w' w'' → IsLeft whole rest w w''
one_written whole text rest w w' w'' left g =
    (left.0 ++ text, grown_both left.0 text w w' w'' left.1 g, append_assoc left.0 text rest ∙ left.2)

pub one_cut : (whole text rest : List ℕ) (w w' w'' : Writer) → IsLeft whole (text ++ rest) w w' → Cut text w' w'' → Cut whole w w''
one_cut whole text rest w w' w'' left k =
    subst (λ t. Cut t w w'') (append_assoc left.0 text rest ∙ left.2) (cut_before (left.0 ++ text) rest w w'' (grown_cut left.0 text w w' w'' left.1 k))

pub none_left : (whole : List ℕ) (w w' : Writer) → IsLeft whole [] w w' → Grown whole w w'
none_left whole w w' left = subst (λ t. Grown t w w') (sym (append-nil left.0) ∙ left.2) left.1

-- a step of a loop over a list, where what is left is the text of the elements from i on
pub more_written : {X : Type 0} (rest_of : List X → List ℕ) (xs : List X) (i : ℕ) (d : X) (whole text rest : List ℕ) (w w' w'' : Writer) → i < length xs
    → rest_of (get_or xs i d ∷ drop (i + 1) xs) ≡ text ++ rest → IsLeft whole (rest_of (drop i xs)) w w' → Grown text w' w'' → IsLeft whole rest w w''
more_written rest_of xs i d whole text rest w w' w'' within e left g =
    one_written whole text rest w w' w'' (subst (λ r. IsLeft whole r w w') (at_drop_more rest_of xs i d within ∙ e) left) g

pub more_cut : {X : Type 0} (rest_of : List X → List ℕ) (xs : List X) (i : ℕ) (d : X) (whole text rest : List ℕ) (w w' w'' : Writer) → i < length xs
    → rest_of (get_or xs i d ∷ drop (i + 1) xs) ≡ text ++ rest → IsLeft whole (rest_of (drop i xs)) w w' → Cut text w' w'' → Cut whole w w''
more_cut rest_of xs i d whole text rest w w' w'' within e left k =
    one_cut whole text rest w w' w'' (subst (λ r. IsLeft whole r w w') (at_drop_more rest_of xs i d within ∙ e) left) k

-- what went in of a text, where nothing waited and nothing was handed on before
pub cut_taken : (text : List ℕ) (w w' : Writer) (taken : ℕ) → w.page.waiting ≡ [] → w.page.sent ≡ 0 → Cut text w w' → taken ≡ w'.page.sent → taken < 2 ^ 64
    → (count : ℕ) × (count ≤ length text) × (w'.held ≡ with_bytes w.held (take count text)) × (taken ≡ stopped count)
cut_taken text w w' taken waiting sent k e fits = (
  k.count,
  omega (arith, k.within, ap (λ l. length (l ++ text)) waiting),
  k.output ∙ ap (λ l. with_bytes w.held (take k.count (l ++ text))) waiting,
  omega (arith, e, k.sent, sent),
)

-- the same where the whole text was written and the page is handed on
pub last_cut : (text : List ℕ) (w w' w'' : Writer) (taken : ℕ) → w.page.waiting ≡ [] → w.page.sent ≡ 0 → Grown text w w' → Cut [] w' w'' → taken ≡ w''.page.sent → taken < 2 ^ 64
    → (count : ℕ) × (count ≤ length text) × (w''.held ≡ with_bytes w.held (take count text)) × (taken ≡ stopped count)
last_cut text w w' w'' taken waiting sent g k e fits =
    cut_taken text w w'' taken waiting sent (subst (λ t. Cut t w w'') (append-nil text) (grown_cut text [] w w' w'' g k)) e fits
