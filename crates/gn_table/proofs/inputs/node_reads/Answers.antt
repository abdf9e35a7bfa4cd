use Rattle.std.proofs.Common.{map, ap, ◌∙◌}
use Rattle.gn_kinds.specs.Seen.{input_of}
use Rattle.gn_tree.specs.Seen.{named_of, socket_of}
use Rattle.gn_rules.specs.Sockets.{chosen, further, inputs_of_kind}
use Rattle.gn_scopes.specs.Seen.{groups_in, scope_of}
use Rattle.gn_table.specs.Reads.{reads_in}
use Rattle.gn_table.proofs.Reading.{all_reads}
use Rattle.gn_table.proofs.inputs.node_reads.Goals as goal

pub returns : goal.returns
returns c = λ way. all_reads
    (scope_of c.args.scope.now) way c.args.node.now
    (map named_of c.in_ok-written.written.list.now) c.chosen.result (map input_of c.input_rows-rows.result.now) (map socket_of c.further-others.result.now.list.now)
    (reads_in way c.in_ok-reads.reads.items) (reads_in way c.push_rows.new.reads.items) (reads_in way c.push_sockets.new.reads.items)
    (ap (map named_of) c.in_ok-written.ensures ∙ c.inputs.ensures)
    (c.chosen.ensures ∙ ap chosen c.settings-settings.ensures)
    (c.input_rows-rows.ensures ∙ ap inputs_of_kind c.kind.ensures)
    (c.further-others.ensures ∙ ap (further (λ g. g.inputs) (groups_in c.args.scope.now.groups.now)) c.settings-settings.ensures)
    (ap (reads_in way) c.in_ok-reads.ensures.items)
    (c.in_ok-push_rows.ensures way)
    (c.in_ok-push_sockets.ensures way)
