-- In what `serde_json` reads, the keys of each object rise by their bytes.
use Rattle.std.proofs.Common.{◌≡◌, Option, Some, None, option_map, option_and_then, refl, ap, ◌∙◌}
use Rattle.std.specs.Prelude.{ℕ, List}
use Rattle.std.specs.declared.cmp.Ordering.{Ordering}
use Rattle.std.specs.declared.cmp.Ordering.TheVariants.{Less, Equal, Greater}
use Rattle.std.specs.Ordering.{nat_cmp, match_ordering, ordering_reverse}
use Rattle.std.specs.Cmp.Lexicographic.{slice_cmp}
use Rattle.std.proofs.lemmas.Cmp.{nat_list_cmp_total}
use Rattle.json.specs.Json as json
use Rattle.json.specs.Lex.{tokens}
use Rattle.serde_json.specs.Data.{Data, number, array, object, item, Members, no_members, member, put}
use Rattle.serde_json.specs.Read.{of_json, of_items, of_members, number_of, read, max_depth}
use Rattle.gn_kinds.specs.Row.{Text}
use Rattle.gn_form.specs.Order.{Precedes, InOrder, ItemsInOrder, MembersInOrder}

abbrev order : Text → Text → Ordering
order = slice_cmp nat_cmp

earlier : (k l : Text) (ms : Members) → order k l ≡ Less → Precedes l ms → Precedes k ms
earlier k l no_members e h = tt
earlier k l (member m d ms) e h = (nat_list_cmp_total.trans k l m e h.0, earlier k l ms e h.1)

turned : (k l : Text) → order k l ≡ Greater → order l k ≡ Less
turned k l e = nat_list_cmp_total.antisymm l k ∙ ap ordering_reverse e

precedes_put_at : (j k l : Text) (d x : Data) (ms : Members) (o : Ordering) → order j k ≡ Less → Precedes j (member l x ms) → Precedes j (put k d ms) → Precedes j (match_ordering o (member k d (member l x ms)) (member l d ms) (member l x (put k d ms)))
precedes_put_at j k l d x ms Less e h more = (e, h)
precedes_put_at j k l d x ms Equal e h more = h
precedes_put_at j k l d x ms Greater e h more = (h.0, more)

precedes_put : (j k : Text) (d : Data) (ms : Members) → order j k ≡ Less → Precedes j ms → Precedes j (put k d ms)
precedes_put j k d no_members e h = (e, tt)
precedes_put j k d (member l x ms) e h = precedes_put_at j k l d x ms (order k l) e h (precedes_put j k d ms e h.1)

put_in_order_at : (k l : Text) (d x : Data) (ms : Members) (o : Ordering) → order k l ≡ o → InOrder d → MembersInOrder (member l x ms) → MembersInOrder (put k d ms)
    → MembersInOrder (match_ordering o (member k d (member l x ms)) (member l d ms) (member l x (put k d ms)))
put_in_order_at k l d x ms Less e i h more = ((e, earlier k l ms e h.0), i, h)
put_in_order_at k l d x ms Equal e i h more = (h.0, i, h.2)
put_in_order_at k l d x ms Greater e i h more = (precedes_put l k d ms (turned k l e) h.0, h.1, more)

put_in_order : (k : Text) (d : Data) (ms : Members) → InOrder d → MembersInOrder ms → MembersInOrder (put k d ms)
put_in_order k d no_members i h = (tt, i, tt)
put_in_order k d (member l x ms) i h = put_in_order_at k l d x ms (order k l) refl i h (put_in_order k d ms i h.2)

-- P of what an option has
abbrev If : {A : Type 0} → (A → Type 0) → Option A → Type 0
If P None = Unit {0}
If P (Some a) = P a

if_map : {A B : Type 0} (P : A → Type 0) (Q : B → Type 0) (f : A → B) → ((a : A) → P a → Q (f a)) → (o : Option A) → If P o → If Q (option_map f o)
if_map P Q f h None i = tt
if_map P Q f h (Some a) i = h a i

if_then : {A B : Type 0} (P : A → Type 0) (Q : B → Type 0) (f : A → Option B) → ((a : A) → P a → If Q (f a)) → (o : Option A) → If P o → If Q (option_and_then f o)
if_then P Q f h None i = tt
if_then P Q f h (Some a) i = h a i

always : {A : Type 0} (o : Option A) → If (λ _. Unit {0}) o
always None = tt
always (Some a) = tt

mutual
  of_json_in_order : (j : json.Json) → If InOrder (of_json j)
  of_json_in_order json.null = tt
  of_json_in_order (json.boolean b) = tt
  of_json_in_order (json.number s) = if_map (λ _. Unit {0}) InOrder number (λ n _. tt) (number_of s) (always (number_of s))
  of_json_in_order (json.string s) = tt
  of_json_in_order (json.array js) = if_map ItemsInOrder InOrder array (λ ds h. h) (of_items js) (of_items_in_order js)
  of_json_in_order (json.object ms) = if_map MembersInOrder InOrder object (λ ds h. h) (of_members ms no_members) (of_members_in_order ms no_members tt)

  of_items_in_order : (js : json.Items) → If ItemsInOrder (of_items js)
  of_items_in_order json.no_items = tt
  of_items_in_order (json.item j js) =
      if_then InOrder ItemsInOrder (λ d. option_map (item d) (of_items js)) (λ d i. if_map ItemsInOrder ItemsInOrder (item d) (λ ds h. (i, h)) (of_items js) (of_items_in_order js)) (of_json j) (of_json_in_order j)

  of_members_in_order : (ms : json.Members) (found : Members) → MembersInOrder found → If MembersInOrder (of_members ms found)
  of_members_in_order json.no_members found h = h
  of_members_in_order (json.member k j ms) found h =
      if_then InOrder MembersInOrder (λ d. of_members ms (put k d found)) (λ d i. of_members_in_order ms (put k d found) (put_in_order k d found i h)) (of_json j) (of_json_in_order j)

if_some : {A : Type 0} (P : A → Type 0) (o : Option A) (a : A) → If P o → o ≡ Some a → P a
if_some P None a i e = absurd (cc)
if_some P (Some b) a i e = let same : b ≡ a = cc in rw (← same) i

pub read_in_order : (text : List ℕ) (d : Data) → read text ≡ Some d → InOrder d
read_in_order text d e =
    let parsed = option_and_then (λ p. json.if_last p.0 p.1) (json.value max_depth (tokens text)) in
    if_some InOrder (read text) d (if_then (λ _. Unit {0}) InOrder of_json (λ j _. of_json_in_order j) parsed (always parsed)) e
