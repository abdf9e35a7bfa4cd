-- The first pointer where a value is not of its form, as it is found by going through the value once.
use Rattle.std.specs.Prelude.{ℕ, suc, Option, Some, None, [], if◌then◌else◌}
use Rattle.serde_json.specs.Data.{Data, null, boolean, number, string, array, object, Items, no_items, item, Members, no_members, member}
use Rattle.gn_kinds.specs.Row.{Text}
use Rattle.gn_pointers.specs.Pointers.{index, key, Pointer, joined}
use Rattle.gn_form.specs.Form.{Form, fits, item_form, member_form, row_in_node}

abbrev pub if_asked : Option Form → (Form → Option Pointer) → Option Pointer
if_asked None f = None
if_asked (Some form) f = f form

abbrev mutual
  pub first_in : Form → Data → Option Pointer
  first_in form (array ds) = if fits form (array ds) then if_asked (item_form form ds) (λ g. first_item g 0 ds) else Some []
  first_in form (object ms) = if fits form (object ms) then first_member (member_form form (row_in_node (object ms))) ms else Some []
  first_in form null = if fits form null then None else Some []
  first_in form (boolean b) = if fits form (boolean b) then None else Some []
  first_in form (number n) = if fits form (number n) then None else Some []
  first_in form (string s) = if fits form (string s) then None else Some []

  pub first_item : Form → ℕ → Items → Option Pointer
  first_item form i no_items = None
  first_item form i (item d ds) = joined (index i) (first_in form d) (first_item form (suc i) ds)

  pub first_member : (Text → Option Form) → Members → Option Pointer
  first_member form no_members = None
  first_member form (member k d ms) = joined (key k) (if_asked (form k) (λ g. first_in g d)) (first_member form ms)
