-- What reading the bytes of a tree says.
use Rattle.std.specs.Prelude.{◌≡◌, ℕ, List, Option, Some, None, IsSome, Result, Ok, Err, string_bytes, if◌then◌else◌}
use Rattle.std.specs.declared.alloc.Global.{Global}
use Rattle.std.specs.declared.collections.VecDeque.{VecDeque}
use Rattle.std.specs.Str.{is_utf8}
use Rattle.serde_json.specs.Data.{Data}
use Rattle.serde_json.specs.Read.{read}
use Rattle.gn_memory.specs.declared.Memory.{Memory}
use Rattle.gn_pointers.specs.Seen.{pointer_of}
use Rattle.gn_pointers.specs.declared.step.Step.{Step}
use Rattle.gn_pointers.specs.Pointers.{Pointer, IsFirst}
use Rattle.gn_pointers.specs.Texts.{pointer_text}
use Rattle.gn_form.specs.Form.{BreaksForm}
use Rattle.gn_tree.specs.Seen.{tree_of}
use Rattle.gn_tree.specs.declared.tree.Tree.{Tree}
use Rattle.gn_json.specs.Exact.{tree_from}
use Rattle.gn_json.specs.Typed.{tree_in}
use Rattle.gn_json.specs.declared.fault.JsonFault.{JsonFault}
use Rattle.gn_json.specs.declared.fault.JsonFault.TheVariants as fault

-- the JSON value that the bytes are
abbrev pub json : List ℕ → Option Data
json bytes = if is_utf8 bytes then read bytes else None

-- the bytes are a JSON value, and this is the first pointer where it is not of a tree's form
abbrev pub FirstMisfit : List ℕ → Data → Option Pointer → Type 0
FirstMisfit bytes d found = (json bytes ≡ Some d) × IsFirst (BreaksForm d) found

-- the tree that the value is; or its first misfit; or there is no JSON value
abbrev pub Answers : List ℕ → Result Tree JsonFault → Type 0
Answers bytes (Ok t) = (d : Data) × FirstMisfit bytes d None × (tree_from d ≡ Some (tree_of t))
Answers bytes (Err (fault.Form text)) = (d : Data) × (pointer : Pointer) × FirstMisfit bytes d (Some pointer) × (string_bytes text ≡ pointer_text pointer)
Answers bytes (Err fault.Text) = json bytes ≡ None
Answers bytes (Err fault.Memory) = Unit {0}

-- a JSON value that is everywhere of its form is a tree, so that there is no answer besides these
abbrev pub IsTreeWhereFit : List ℕ → Type 0
IsTreeWhereFit bytes = (d : Data) → FirstMisfit bytes d None → IsSome (tree_from d)

-- what is made of the value and the pointer that was found in it
abbrev pub Judged : Data → Result (Option (VecDeque Step Global)) Memory → Result Tree JsonFault → Type 0
Judged d (Ok None) (Ok t) = tree_of t ≡ tree_in d
Judged d (Ok (Some pointer)) (Err (fault.Form text)) = string_bytes text ≡ pointer_text (pointer_of pointer)
Judged d found (Err fault.Memory) = Unit {0}
Judged d _ _ = ⊥
