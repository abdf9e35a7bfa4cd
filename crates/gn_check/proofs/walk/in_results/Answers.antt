use Rattle.std.proofs.Common.{◌≡◌, None, map, codes, option_map, sym, ap, ◌∙◌}
use Rattle.gn_pointers.specs.Pointers.{key, joined}
use Rattle.gn_pointers.specs.Seen.{pointer_of}
use Rattle.gn_tree.specs.Seen.{socket_of, named_of}
use Rattle.gn_rules.specs.Walk.{breaks, in_sockets, in_given_out}
use Rattle.gn_scopes.specs.Seen.{scope_of}
use Rattle.gn_check.proofs.Walking.{in_first, in_rest, in_last}
use Rattle.gn_check.proofs.walk.in_results.Goals as goal

pub returns-then-is_some : goal.returns-then-is_some
returns-then-is_some c =
    let r = c.args.scope.now.sought in
    let sc = scope_of c.args.scope.now in
    let sockets = map socket_of c.args.group.now.outputs.items in
    let output = map named_of c.args.group.now.output.items in
    let first = in_given_out (breaks r) sc sockets output in
    let rest = joined (key (codes "outputs")) (in_sockets (breaks r) sockets) None in
    let same : map socket_of c.in_ok-outputs.outputs.list.now ≡ sockets = ap (map socket_of) (c.in_ok-outputs.ensures ∙ c.deref.ensures.value) in
    let found : option_map pointer_of c.in_ok-found.found ≡ first =
    c.in_ok-found.ensures ∙ (ap (λ xs. in_given_out (breaks r) sc xs (map named_of c.deref-2.result.now)) same ∙ ap (λ xs. in_given_out (breaks r) sc sockets (map named_of xs)) c.deref-2.ensures.value) in
    in_first (key (codes "output")) c.in_ok-found.found first rest (joined (key (codes "output")) first rest) c.at_key.result (sym c.is_some.ensures ∙ c.if-is_some.true) found (λ _. joined (key (codes "output")) first rest) c.at_key.ensures

pub returns : goal.returns
returns c =
    let r = c.args.scope.now.sought in
    let sc = scope_of c.args.scope.now in
    let sockets = map socket_of c.args.group.now.outputs.items in
    let output = map named_of c.args.group.now.output.items in
    let first = in_given_out (breaks r) sc sockets output in
    let last = in_sockets (breaks r) sockets in
    let rest = joined (key (codes "outputs")) last None in
    let same : map socket_of c.in_ok-outputs.outputs.list.now ≡ sockets = ap (map socket_of) (c.in_ok-outputs.ensures ∙ c.deref.ensures.value) in
    let found : option_map pointer_of c.in_ok-found.found ≡ first =
    c.in_ok-found.ensures ∙ (ap (λ xs. in_given_out (breaks r) sc xs (map named_of c.deref-2.result.now)) same ∙ ap (λ xs. in_given_out (breaks r) sc sockets (map named_of xs)) c.deref-2.ensures.value) in
    let later : option_map pointer_of c.in_ok-found-2.found ≡ last = c.in_ok-found-2.ensures ∙ ap (in_sockets (breaks r)) same in
    in_rest (key (codes "output")) c.in_ok-found.found first rest (joined (key (codes "output")) first rest) c.at_key-2.result (sym c.is_some.ensures ∙ c.if-is_some.false) found (λ _. joined (key (codes "output")) first rest)
    (in_last (key (codes "outputs")) c.in_ok-found-2.found last c.at_key-2.result later c.at_key-2.ensures)
