-- What was made of the value, as what is said of the bytes.
use Rattle.std.proofs.Common.{◌≡◌, ℕ, Bool, true, false, List, Option, Some, None, Result, Ok, Err, option_map, IfOk, IsUtf8, is_some, refl, sym, ap, ◌∙◌, if◌then◌else◌}
use Rattle.std.specs.declared.alloc.Global.{Global}
use Rattle.std.specs.declared.collections.VecDeque.{VecDeque}
use Rattle.std.specs.Str.{is_utf8}
use Rattle.std.proofs.lemmas.Str.{is_utf8-from_IsUtf8, IsUtf8-from_is_utf8}
use Rattle.serde_json.specs.Data.{Data}
use Rattle.serde_json.specs.Read.{read}
use Rattle.gn_memory.specs.declared.Memory.{Memory}
use Rattle.gn_pointers.specs.Pointers.{IsFirst}
use Rattle.gn_pointers.specs.Seen.{pointer_of}
use Rattle.gn_pointers.specs.declared.step.Step.{Step}
use Rattle.gn_form.specs.Form.{BreaksForm}
use Rattle.gn_form.specs.Order.{InOrder}
use Rattle.gn_form.proofs.Sorted.{read_in_order}
use Rattle.gn_tree.specs.declared.tree.Tree.{Tree}
use Rattle.gn_json.specs.Answers.{json, Answers, IsTreeWhereFit, Judged}
use Rattle.gn_json.specs.declared.fault.JsonFault.{JsonFault}
use Rattle.gn_json.specs.declared.fault.JsonFault.TheVariants as fault
use Rattle.gn_json.proofs.Whole.{tree_is_whole}

json_is : (bytes : List ℕ) (d : Data) → IsUtf8 bytes → read bytes ≡ Some d → json bytes ≡ Some d
json_is bytes d utf8 e = rw (is_utf8-from_IsUtf8 bytes utf8) e

abbrev Found : Type 0
Found = Result (Option (VecDeque Step Global)) Memory

answers_from : (bytes : List ℕ) (d : Data) (found : Found) (r : Result Tree JsonFault) → json bytes ≡ Some d → InOrder d
    → IfOk found (λ f. IsFirst (BreaksForm d) (option_map pointer_of f)) → Judged d found r → Answers bytes r
answers_from bytes d (Ok None) (Ok t) e o h j = (d, (e, h), tree_is_whole d o h ∙ ap (λ x. Some x) (sym j))
answers_from bytes d (Ok (Some pointer)) (Err (fault.Form text)) e o h j = (d, pointer_of pointer, (e, h), j)
answers_from bytes d (Ok None) (Err fault.Memory) e o h j = tt
answers_from bytes d (Ok (Some pointer)) (Err fault.Memory) e o h j = tt
answers_from bytes d (Err x) (Err fault.Memory) e o h j = tt
answers_from bytes d (Ok None) (Err fault.Text) e o h j = elim j [ ]
answers_from bytes d (Ok None) (Err (fault.Form text)) e o h j = elim j [ ]
answers_from bytes d (Ok (Some pointer)) (Ok t) e o h j = elim j [ ]
answers_from bytes d (Ok (Some pointer)) (Err fault.Text) e o h j = elim j [ ]
answers_from bytes d (Err x) (Ok t) e o h j = elim j [ ]
answers_from bytes d (Err x) (Err fault.Text) e o h j = elim j [ ]
answers_from bytes d (Err x) (Err (fault.Form text)) e o h j = elim j [ ]

pub judged_answers : (bytes : List ℕ) (d : Data) (found : Found) (r : Result Tree JsonFault) → IsUtf8 bytes → read bytes ≡ Some d
    → (InOrder d → IfOk found (λ f. IsFirst (BreaksForm d) (option_map pointer_of f))) → Judged d found r → Answers bytes r
judged_answers bytes d found r utf8 e h j = answers_from bytes d found r (json_is bytes d utf8 e) (read_in_order bytes d e) (h (read_in_order bytes d e)) j

if_not : (bytes : List ℕ) (b : Bool) → is_utf8 bytes ≡ b → (IsUtf8 bytes → read bytes ≡ None) → (if b then read bytes else None) ≡ None
if_not bytes true e h = h (IsUtf8-from_is_utf8 bytes e)
if_not bytes false e h = refl

pub no_json : (bytes : List ℕ) → (IsUtf8 bytes → read bytes ≡ None) → json bytes ≡ None
no_json bytes h = if_not bytes (is_utf8 bytes) refl h

read_if : (bytes : List ℕ) (d : Data) (b : Bool) → (if b then read bytes else None) ≡ Some d → read bytes ≡ Some d
read_if bytes d true e = e
read_if bytes d false e = absurd (cc)

-- the keys of what the bytes are rise
pub json_in_order : (bytes : List ℕ) (d : Data) → json bytes ≡ Some d → InOrder d
json_in_order bytes d e = read_in_order bytes d (read_if bytes d (is_utf8 bytes) e)

pub is_tree_where_fit : (bytes : List ℕ) → IsTreeWhereFit bytes
is_tree_where_fit bytes = λ d h. ap is_some (tree_is_whole d (json_in_order bytes d h.0) h.1)
