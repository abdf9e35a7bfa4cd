-- Nodes that are neither a group node nor a Set Position that is run.
use Rattle.std.proofs.Common.{◌≡◌, ℕ, Some, None, codes, sym, ◌∙◌, ap, subst}
use Rattle.std.specs.Prelude.{bytes_eq, true, false}
use Rattle.std.proofs.lemmas.Slice.Eq.{bytes_eq-Decides}
use Rattle.gn_kinds.specs.Row.{Text}
use Rattle.gn_tree.specs.Trees.{Node, node}
use Rattle.gn_rules.specs.Scopes.{Scope}
use Rattle.gn_tree.specs.Nodes.{kind_in, settings_in}
use Rattle.gn_meaning.specs.Sites.{Way}
use Rattle.gn_meaning.specs.Bodies.{Body, body_in}
use Rattle.gn_meaning.specs.Reads.{part_in}
use Rattle.gn_meaning.specs.Forms.{NodeHasForm, SettingsHaveForm}
use Rattle.gn_origin.specs.Nodes.{IsOther}
use Rattle.gn_origin.proofs.Steps.{name_of_kind, run_part}

pub settings_form : (x : Node) → NodeHasForm x → SettingsHaveForm (kind_in x) (settings_in x)
settings_form (node id kind set inputs) form = form

pub not_group : (s : Scope) (way : Way) (n : ℕ) (x : Node) (b : Body) → bytes_eq (kind_in x) (codes "group") ≡ false → body_in s (kind_in x) (settings_in x) ≡ Some b → IsOther (part_in s way n x)
not_group s way n (node id kind set inputs) b e f = rw f (rw e tt)

pub a_zone : (s : Scope) (way : Way) (n : ℕ) (x : Node) (b : Body) → kind_in x ≡ codes "repeat" → body_in s (kind_in x) (settings_in x) ≡ Some b → IsOther (part_in s way n x)
a_zone s way n x b e f = not_group s way n x b (ap (λ k. bytes_eq k (codes "group")) e) f

pub no_move : (s : Scope) (way : Way) (n : ℕ) (x : Node) → bytes_eq (kind_in x) (codes "set_position") ≡ false → body_in s (kind_in x) (settings_in x) ≡ None → IsOther (part_in s way n x)
no_move s way n x e f = subst IsOther (sym (run_part s way n x f)) (λ named.
    let same : bytes_eq (kind_in x) (codes "set_position") ≡ true = ap (λ k. bytes_eq k (codes "set_position")) (sym (name_of_kind s x) ∙ named) in
    cc)

pub is_text : (k name : Text) → bytes_eq k name ≡ true → k ≡ name
is_text k name e = (bytes_eq-Decides k name).0 e
