use Rattle.std.proofs.Common.{refl, sym, subst, map, length}
use Rattle.gn_tree.specs.Seen.{nodes_of, tree_of}
use Rattle.gn_rules.specs.Sockets.{one_of}
use Rattle.gn_meaning.specs.Bodies.{tree_body}
use Rattle.gn_meaning.specs.Forms.{NodesHaveForm}
use Rattle.gn_origin.proofs.groups.Lists.own.Goals as goal

pub returns : goal.returns
returns c = (
  refl,
  record {
    body = tree_body (tree_of c.args.self.now.tree.now);
    leads = refl;
    above = length (tree_of c.args.self.now.tree.now).groups;
    scope = λ j. record { nodes = nodes_of (sym c.deref.ensures.value j); entries = map one_of (sym c.args.self.now.with_entries j); groups = (tree_of c.args.self.now.tree.now).groups; above = length (tree_of c.args.self.now.tree.now).groups };
    entries = c.args.self.now.with_entries;
    form = subst (λ xs. NodesHaveForm (nodes_of xs)) (sym c.deref.ensures.value) c.requires.0.1;
    groups = c.requires.1;
  },
)
