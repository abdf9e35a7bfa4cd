-- Arrays and objects, element by element.
use Rattle.std.proofs.Common.{◌≡◌, ◌<◌, Bool, ◌||◌, ◌&&◌, List, [], ◌∷◌, length, String, string_bytes, bytes_eq, map, refl, ap, arith}
use Rattle.std.specs.List.{list_any, list_all}
use Rattle.std.specs.declared.alloc.Global.{Global}
use Rattle.serde_json.specs.View.{view, items_view, members_view}
use Rattle.serde_json.specs.declared.value.Value.{Value}
use Rattle.gn_kinds.specs.Row.{Text, input_name, has_input}
use Rattle.gn_kinds.specs.Seen.{input_of}
use Rattle.gn_kinds.specs.declared.row.InputRow.{InputRow}
use Rattle.gn_form.specs.Form as is

any_object : (vs : List Value) → is.has_object (items_view vs) ≡ list_any (λ v. is.is_object (view v)) vs
any_object [] = refl
any_object (v ∷ vs) = ap (λ b. is.is_object (view v) || b) (any_object vs)

pub some_links : (vs : List Value) → 0 < length vs → is.are_links (items_view vs) ≡ list_any (λ v. is.is_object (view v)) vs
some_links [] h = absurd (omega arith)
some_links (v ∷ vs) h = any_object (v ∷ vs)

pub each_key : (good : Text → Bool) (ms : List (String Global × Value)) → is.all_keys good (members_view ms) ≡ list_all (λ m. good (string_bytes m.0)) ms
each_key good [] = refl
each_key good (m ∷ ms) = ap (λ b. good (string_bytes m.0) && b) (each_key good ms)

any_input : (inputs : List InputRow) (k : Text) → has_input (map input_of inputs) k ≡ list_any (λ x. bytes_eq (input_name (input_of x)) k) inputs
any_input [] k = refl
any_input (x ∷ xs) k = ap (λ b. bytes_eq (input_name (input_of x)) k || b) (any_input xs k)

pub each_input : (inputs : List InputRow) (ms : List (String Global × Value))
    → is.all_keys (has_input (map input_of inputs)) (members_view ms) ≡ list_all (λ m. list_any (λ x. bytes_eq (input_name (input_of x)) (string_bytes m.0)) inputs) ms
each_input inputs [] = refl
each_input inputs (m ∷ ms) = rw (any_input inputs (string_bytes m.0), each_input inputs ms)
