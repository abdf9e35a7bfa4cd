-- What nodes are, by their kinds and their settings.
use Rattle.std.proofs.Common.{◌≡◌, ◌<◌, ◌+◌, ℕ, suc, true, false, List, [], ◌∷◌, Bool, Option, Some, None, codes, refl, sym, ap, ◌∙◌, subst, arith, if◌then◌else◌}
use Rattle.std.specs.Prelude.{bytes_eq, length, map, option_map, option_and_then, slice_get}
use Rattle.std.proofs.lemmas.List.{length-map}
use Rattle.std.proofs.lemmas.Slice.Eq.{bytes_eq-Decides}
use Rattle.gn_kinds.specs.Row.{Text}
use Rattle.gn_names.specs.First.{first_of}
use Rattle.gn_tree.specs.Trees.{Node, node, Settings, no_settings, and_setting, and_zone, Group, of_group}
use Rattle.gn_rules.specs.Sockets.{group_in, group_names, outputs_of}
use Rattle.gn_rules.specs.Scopes.{Scope}
use Rattle.gn_meaning.specs.Sites.{Way}
use Rattle.gn_meaning.specs.Bodies.{Body, body_in, body_named, group_body}
use Rattle.gn_meaning.specs.Forms.{NodeHasForm, SettingsHaveForm}
use Rattle.gn_meaning.specs.Reads.{Run, Part, a_group, part_by, part_in, run_in, node_reads}
use Rattle.gn_meaning.proofs.Options.{then_some}
use Rattle.gn_meaning.proofs.Lists.{get_below}
use Rattle.gn_table.specs.Tables.{group_at, run_at, IsPart}
use Rattle.gn_table.proofs.Finding.{first_within}
use Rattle.gn_table.specs.declared.table.Part.TheVariants as part

-- a group node has the body of the group that it names
named_body : (s : Scope) (kind : Text) (set : Settings) → SettingsHaveForm kind set → kind ≡ codes "group" → body_in s kind set ≡ option_and_then (body_named s.groups) (group_in set)
named_body s kind no_settings form is = refl
named_body s kind (and_setting (of_group name) rest) form is = refl
named_body s kind (and_zone items nodes output rest) form is = absurd (let bad : codes "group" ≡ codes "repeat" = sym is ∙ form.0 in cc)
named_body s kind (and_setting x rest) form is = named_body s kind rest form is

is_group : (kind : Text) → bytes_eq kind (codes "group") ≡ true → kind ≡ codes "group"
is_group kind e = (bytes_eq-Decides kind (codes "group")).0 e

group_by : (kind : Text) (o : Option Body) (b : Body) (run : Run) → bytes_eq kind (codes "group") ≡ true → o ≡ Some b → part_by kind o run ≡ a_group b run.reads
group_by kind o b run e at = rw at (rw e refl)

run_by : (kind : Text) (o : Option Body) (run : Run) → bytes_eq kind (codes "group") ≡ false → run_in (part_by kind o run) ≡ Some run
run_by kind None run e = refl
run_by kind (Some b) run e = rw e refl

no_body : (kind : Text) (o : Option Body) (run : Run) → o ≡ None → run_in (part_by kind o run) ≡ Some run
no_body kind o run at = rw at refl

-- ---- by the number of the group

module _ (s : Scope) where
  body_by : (name : Text) (i : ℕ) (g : Group) → first_of (group_names s.groups) name ≡ Some i → slice_get s.groups i ≡ Some g → body_named s.groups name ≡ Some (group_body s.groups i g)
  body_by name i g e f = rw e (rw f refl)

  lost_by : (name : Text) → first_of (group_names s.groups) name ≡ None → body_named s.groups name ≡ None
  lost_by name e = rw e refl

  pub a_group_node : (x : Node) (i : ℕ) → NodeHasForm x → group_at s.groups x ≡ Some i → IsPart s x (part.Group i)
  a_group_node (node id kind set inputs) i form e = by_test (bytes_eq kind (codes "group")) refl e
    where
      by_test : (b : Bool) → bytes_eq kind (codes "group") ≡ b → (if b then option_and_then (λ name. first_of (group_names s.groups) name) (group_in set) else None) ≡ Some i → IsPart s (node id kind set inputs) (part.Group i)
      by_test false is h = cc
      by_test true is h =
          let name : (name : Text) × (group_in set ≡ Some name) × (first_of (group_names s.groups) name ≡ Some i) = then_some (λ name. first_of (group_names s.groups) name) (group_in set) i h in
          let inside : i < length s.groups = subst (λ count. i < count) (length-map s.groups (λ g. g.name)) (first_within name.0 i (group_names s.groups) name.2) in
          let g : (g : Group) × (slice_get s.groups i ≡ Some g) = get_below s.groups i inside in
          let body : body_in s kind set ≡ Some (group_body s.groups i g.0) =
          named_body s kind set form (is_group kind is) ∙ (ap (option_and_then (body_named s.groups)) name.1 ∙ body_by name.0 i g.0 name.2 g.1) in
          (g.0, g.1, λ way n. group_by kind (body_in s kind set) (group_body s.groups i g.0) (run_at s way n (node id kind set inputs)) is body)

  pub a_run_node : (x : Node) (outputs : ℕ) → NodeHasForm x → group_at s.groups x ≡ None → outputs ≡ length (outputs_of s.groups x) → IsPart s x (part.Run outputs)
  a_run_node (node id kind set inputs) outputs form e count = by_test (bytes_eq kind (codes "group")) refl e
    where
      no_group : (o : Option Text) → option_and_then (λ name. first_of (group_names s.groups) name) o ≡ None → option_and_then (body_named s.groups) o ≡ None
      no_group None h = refl
      no_group (Some name) h = lost_by name h

      by_test : (b : Bool) → bytes_eq kind (codes "group") ≡ b → (if b then option_and_then (λ name. first_of (group_names s.groups) name) (group_in set) else None) ≡ None → IsPart s (node id kind set inputs) (part.Run outputs)
      by_test false is h = (λ way n. run_by kind (body_in s kind set) (run_at s way n (node id kind set inputs)) is, count)
      by_test true is h =
          let body : body_in s kind set ≡ None = named_body s kind set form (is_group kind is) ∙ no_group (group_in set) h in
          (λ way n. no_body kind (body_in s kind set) (run_at s way n (node id kind set inputs)) body, count)
