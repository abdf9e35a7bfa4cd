-- The same of members, by their number.
use Rattle.std.proofs.Common.{◌≡◌, ℕ, suc, ◌+◌, List, [], ◌∷◌, ◌++◌, map, slice_get, Some, None, option_map, ap, ◌∙◌, add-one}
use Rattle.std.proofs.lemmas.Option.{slice_get-map}
use Rattle.std.specs.List.{AllZip, IsDistinct}
use Rattle.std.specs.Map.{keys_of}
use Rattle.indexmap.specs.IndexMap.{insert_entry, set_value_at}
use Rattle.gn_shared.specs.Count.{Count}
use Rattle.gn_plain.specs.Columns.{Entry, entry_named}
use Rattle.gn_attr.specs.Names.{plain_name}
use Rattle.gn_attr.specs.Handles.{noted_if}
use Rattle.gn_attr.specs.Columns.{KeepsEntry, IsTwinEntry, NotesSome, one_part}
use Rattle.gn_attr.specs.Members.{entry_of}
use Rattle.gn_attr.specs.declared.name.Name.{Name}
use Rattle.gn_attr.specs.declared.column.Column.{Column}
use Rattle.gn_attr.specs.declared.columns.Member.{Member}
use Rattle.gn_attr.proofs.NameEquality.{equal}
use Rattle.gn_attr.proofs.Entries.{Members, inserted_is, is_new_at, goes_last, set_is}
use Rattle.gn_attr.proofs.Twins.{IsOn, still_kept, noted_through, one_more, is_no_twin}

module _ (before : List (Entry Column)) (es twins : Members) (i : ℕ) (start count : Count) (k : Name) (m w : Member)
    (on : IsOn before (map entry_of es) (map entry_of twins) i start count) (at : slice_get es i ≡ Some (k, m)) (keeps : KeepsEntry (entry_of (k, m)) (entry_of (k, w))) where
  entry_at : slice_get (map entry_of es) i ≡ Some (entry_of (k, m))
  entry_at = slice_get-map entry_of es i ∙ ap (option_map entry_of) at

  pub member_kept : AllZip KeepsEntry before (map entry_of (set_value_at es i w))
  member_kept = rw (set_is es i k m w at) (still_kept before (map entry_of es) (map entry_of twins) i start count (entry_of (k, m)) (entry_of (k, w)) on entry_at keeps)

  pub member_noted : (count' : Count) → count' ≡ noted_if (one_part m.column) count → NotesSome before start count'
  member_noted count' counts = (suc i, noted_through before (map entry_of es) (map entry_of twins) i start count (entry_of (k, m)) (entry_of (k, w)) on entry_at keeps count' counts)

  pub one_more_member : (count' : Count) (twin : Name × Member) → IsDistinct equal (keys_of es) → IsTwinEntry (entry_of (k, m)) (entry_of twin) → count' ≡ noted_if (one_part m.column) count
      → IsOn before (map entry_of (set_value_at es i w)) (map entry_of (insert_entry equal twins twin.0 twin.1)) (i + 1) start count'
  one_more_member count' twin differ is_twin counts =
      let new : entry_named (plain_name k) (map entry_of twins) ≡ None = is_no_twin (plain_name k) before (map entry_of es) (map entry_of twins) i start count on (is_new_at es i k m differ at) in
      let new_twin : entry_named (plain_name twin.0) (map entry_of twins) ≡ None = ap (λ n. entry_named n (map entry_of twins)) is_twin.0 ∙ new in
      let last : map entry_of (insert_entry equal twins twin.0 twin.1) ≡ map entry_of twins ++ entry_of twin ∷ [] = inserted_is twin.0 twin.1 twins ∙ goes_last (entry_of twin) (map entry_of twins) new_twin in
      rw (set_is es i k m w at, last, add-one) (one_more before (map entry_of es) (map entry_of twins) i start count (entry_of (k, m)) (entry_of (k, w)) on entry_at keeps count' (entry_of twin) is_twin counts)
