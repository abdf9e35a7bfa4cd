use Rattle.std.proofs.Common.{◌≡◌, List, map, ap, ◌∙◌}
use Rattle.gn_tree.specs.Seen.{group_of, nodes_of, socket_of}
use Rattle.gn_tree.specs.declared.tree.Socket.{Socket as CodeSocket}
use Rattle.gn_rules.specs.Sockets.{one_of}
use Rattle.gn_rules.specs.Scopes.{Scope}
use Rattle.gn_scopes.specs.Seen.{groups_in, scope_of}
use Rattle.gn_meaning.specs.Bodies.{Body, group_body}
use Rattle.gn_table.proofs.Made.{table_made}
use Rattle.gn_table.proofs.table.group_table.Goals as goal

pub returns : goal.returns
returns c =
    let b : Body = group_body (groups_in c.args.groups.now) c.args.number (group_of c.args.group.now) in
    let s : Scope = scope_of c.in_ok-scope.scope in
    let with_inputs : List CodeSocket → Scope = λ xs. record { nodes = nodes_of c.args.group.now.nodes.items; entries = map one_of (map socket_of xs); groups = groups_in c.args.groups.now; above = c.args.number } in
    let same : s ≡ b.scope = c.in_ok-scope.ensures.seen ∙ ap with_inputs (c.in_ok-inputs.ensures ∙ c.deref.ensures.value) in
    table_made b s c.in_ok-given.given.items same c.in_ok-given.ensures c.table_of.result c.table_of.ensures
