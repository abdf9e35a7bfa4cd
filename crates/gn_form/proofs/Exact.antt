-- Going through a value finds the first pointer where it is not of its form.
use Rattle.std.proofs.Common.{◌≡◌, ℕ, suc, ◌<◌, Bool, true, false, List, [], Option, Some, None, Result, Ok, Err, IfOk, option_map, refl, sym, ◌∙◌, subst, arith, if◌then◌else◌, true≢false}
use Rattle.std.specs.declared.cmp.Ordering.TheVariants.{Less}
use Rattle.std.specs.Ordering.{nat_cmp}
use Rattle.std.specs.declared.alloc.Global.{Global}
use Rattle.std.specs.declared.collections.VecDeque.{VecDeque}
use Rattle.std.proofs.lemmas.Bool.Decides.{nat_tests}
use Rattle.serde_json.specs.Data.{Data, null, boolean, number, string, array, object, Items, no_items, item, Members, no_members, member}
use Rattle.gn_kinds.specs.Row.{Text}
use Rattle.gn_pointers.specs.Pointers.{Step, index, key, Pointer, IsFirst, IsBadAt, joined}
use Rattle.gn_memory.specs.declared.Memory.{Memory}
use Rattle.gn_pointers.specs.Seen.{pointer_of}
use Rattle.gn_pointers.specs.declared.step.Step.{Step as CodeStep}
use Rattle.gn_pointers.proofs.First as first
use Rattle.gn_form.specs.Form.{Form, a_tree, Asked, fits, IsMisfit, BreaksForm, parts, numbered, numbered_if, under_key, members_asked, item_form, member_form, row_in_node}
use Rattle.gn_form.specs.Walk.{if_asked, first_in, first_item, first_member}
use Rattle.gn_form.specs.Order.{Precedes, InOrder, ItemsInOrder, MembersInOrder}

abbrev Bad : Asked → Pointer → Type 0
Bad = IsBadAt parts IsMisfit

abbrev Among : List (Step × Asked) → Pointer → Type 0
Among = first.Among parts IsMisfit

abbrev Before : Step → List (Step × Asked) → Type 0
Before = first.Before parts IsMisfit

by_fit : (form : Form) (d : Data) (b : Bool) (found : Option Pointer) → fits form d ≡ b → IsFirst (Among (parts (form, d))) found → IsFirst (Bad (form, d)) (if b then found else Some [])
by_fit form d true found e h = first.first_below parts IsMisfit (form, d) found (λ bad. true≢false (sym e ∙ bad)) h
by_fit form d false found e h = first.first_here parts IsMisfit (form, d) e

nat_less : (i j : ℕ) → i < j → nat_cmp i j ≡ Less
nat_less i j h = grind (arith, nat_tests)

index_before : (form : Form) (i j : ℕ) (ds : Items) → i < j → Before (index i) (numbered form j ds)
index_before form i j no_items h = tt
index_before form i j (item d ds) h = (nat_less i j h, index_before form i (suc j) ds (omega arith))

key_before_at : (form : Text → Option Form) (k l : Text) (d : Data) (ms : Members) (o : Option Form) → Precedes k (member l d ms) → Before (key k) (members_asked form ms) → Before (key k) (under_key l d o (members_asked form ms))
key_before_at form k l d ms None h more = more
key_before_at form k l d ms (Some g) h more = (h.0, more)

key_before : (form : Text → Option Form) (k : Text) (ms : Members) → Precedes k ms → Before (key k) (members_asked form ms)
key_before form k no_members h = tt
key_before form k (member l d ms) h = key_before_at form k l d ms (form l) h (key_before form k ms h.1)

member_next : (k : Text) (d : Data) (o : Option Form) (rest : List (Step × Asked)) (found : Option Pointer) → Before (key k) rest → ((g : Form) → IsFirst (Bad (g, d)) (first_in g d))
    → IsFirst (Among rest) found → IsFirst (Among (under_key k d o rest)) (joined (key k) (if_asked o (λ g. first_in g d)) found)
member_next k d None rest found above f h = h
member_next k d (Some g) rest found above f h = first.first_of_parts parts IsMisfit (key k) (g, d) rest (first_in g d) found above (f g) h

items_if : (o : Option Form) (ds : Items) → ((g : Form) → IsFirst (Among (numbered g 0 ds)) (first_item g 0 ds)) → IsFirst (Among (numbered_if o ds)) (if_asked o (λ g. first_item g 0 ds))
items_if None ds f = first.first_of_none parts IsMisfit
items_if (Some g) ds f = f g

mutual
  first_in_is_first : (form : Form) (d : Data) → InOrder d → IsFirst (Bad (form, d)) (first_in form d)
  first_in_is_first form null h = by_fit form null (fits form null) None refl (first.first_of_none parts IsMisfit)
  first_in_is_first form (boolean b) h = by_fit form (boolean b) (fits form (boolean b)) None refl (first.first_of_none parts IsMisfit)
  first_in_is_first form (number n) h = by_fit form (number n) (fits form (number n)) None refl (first.first_of_none parts IsMisfit)
  first_in_is_first form (string s) h = by_fit form (string s) (fits form (string s)) None refl (first.first_of_none parts IsMisfit)
  first_in_is_first form (array ds) h =
      by_fit form (array ds) (fits form (array ds)) (if_asked (item_form form ds) (λ g. first_item g 0 ds)) refl (items_if (item_form form ds) ds (λ g. items_first g 0 ds h))
  first_in_is_first form (object ms) h =
      by_fit form (object ms) (fits form (object ms)) (first_member (member_form form (row_in_node (object ms))) ms) refl (members_first (member_form form (row_in_node (object ms))) ms h)

  items_first : (form : Form) (i : ℕ) (ds : Items) → ItemsInOrder ds → IsFirst (Among (numbered form i ds)) (first_item form i ds)
  items_first form i no_items h = first.first_of_none parts IsMisfit
  items_first form i (item d ds) h =
      first.first_of_parts parts IsMisfit (index i) (form, d) (numbered form (suc i) ds) (first_in form d) (first_item form (suc i) ds) (index_before form i (suc i) ds (omega arith)) (first_in_is_first form d h.0) (items_first form (suc i) ds h.1)

  members_first : (form : Text → Option Form) (ms : Members) → MembersInOrder ms → IsFirst (Among (members_asked form ms)) (first_member form ms)
  members_first form no_members h = first.first_of_none parts IsMisfit
  members_first form (member k d ms) h =
      member_next k d (form k) (members_asked form ms) (first_member form ms) (key_before form k ms h.0) (λ g. first_in_is_first g d h.1) (members_first form ms h.2)

pub tree_is_first : (d : Data) → InOrder d → IsFirst (BreaksForm d) (first_in a_tree d)
tree_is_first d h = first_in_is_first a_tree d h

-- what the walk answers, if it had memory
pub misfit_is_first : (d : Data) (found : Result (Option (VecDeque CodeStep Global)) Memory) → InOrder d → IfOk found (λ f. option_map pointer_of f ≡ first_in a_tree d)
    → IfOk found (λ f. IsFirst (BreaksForm d) (option_map pointer_of f))
misfit_is_first d (Ok f) h e = subst (λ pointer. IsFirst (BreaksForm d) pointer) (sym e) (tree_is_first d h)
misfit_is_first d (Err x) h e = tt
