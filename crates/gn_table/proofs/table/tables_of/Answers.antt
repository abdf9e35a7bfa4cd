use Rattle.std.proofs.Common.{◌≡◌, map, sym, ap, ◌∙◌, subst}
use Rattle.gn_tree.specs.Seen.{group_of, tree_of}
use Rattle.gn_table.specs.Tables.{AreOrdered, HoldTables}
use Rattle.gn_table.proofs.Ordered.{groups_ordered}
use Rattle.gn_table.proofs.table.tables_of.Goals as goal

pub group_tables-requires : goal.group_tables-requires
group_tables-requires c = subst AreOrdered (ap (map group_of) (sym (c.in_ok-list.ensures ∙ c.deref.ensures.value))) (groups_ordered (tree_of c.args.tree.now) c.requires.0 c.requires.1)

pub returns : goal.returns
returns c = record {
  tree = c.in_ok-own.ensures;
  groups = subst (λ gs. HoldTables gs c.in_ok-groups.groups.items) (ap (map group_of) (c.in_ok-list.ensures ∙ c.deref.ensures.value)) c.in_ok-groups.ensures;
}
