use Rattle.std.proofs.Common.{◌≡◌, ◌∙◌, List, None, true, false, true≢false, map, sym, ap, subst}
use Rattle.std.specs.Prelude.{is_some, option_map}
use Rattle.std.specs.Arc.{arc_value}
use Rattle.gn_tree.specs.Nodes.{kind_in, settings_in}
use Rattle.gn_tree.specs.Seen.{group_of}
use Rattle.gn_tree.specs.Trees.{Group}
use Rattle.gn_node_kind.specs.Kinds.{kind_with}
use Rattle.gn_node_kind.specs.Seen.{seen}
use Rattle.gn_node_kind.proofs.Covered.{node_covered}
use Rattle.gn_lower.proofs.Typed.{kind_written}
use Rattle.gn_lower.proofs.unfold.Unfolding.kind.Goals as goal

pub unreachable-requires : goal.unreachable-requires
unreachable-requires c =
    let known : List Group = map group_of (arc_value c.args.self.now.groups).items in
    let x = c.args.node.now in
    let none : kind_with known (kind_in x) (settings_in x) ≡ None = sym c.in_ok-kind.ensures ∙ ap (option_map seen) c.in_default.is in
    let bad : false ≡ true = subst (λ o. is_some o ≡ true) none (node_covered known x c.requires.fits c.requires.run) in
    true≢false (sym bad)

pub returns : goal.returns
returns c = λ s same. kind_written (map group_of (arc_value c.args.self.now.groups).items) c.args.node.now c.in-Some.kind s (sym c.in_ok-kind.ensures ∙ ap (option_map seen) c.in-Some.is) same
