use Rattle.std.proofs.Common.{◌≡◌, ◌++◌, drop, map}
use Rattle.gn_tree.specs.Seen.{link_of}
use Rattle.gn_scopes.specs.Seen.{scope_of}
use Rattle.gn_meaning.specs.Sites.{Way}
use Rattle.gn_meaning.specs.Reads.{link_read}
use Rattle.gn_table.specs.Reads.{reads_in}
use Rattle.gn_table.proofs.inputs.push_links.Given as goal

abbrev pub invariant-loop-link : goal.invariant-loop-link
invariant-loop-link l =
    (way : Way) → reads_in way l.reads.items ++ map (link_read (scope_of l.scope) way l.kind) (map link_of (drop l.link-index l.links)) ≡ reads_in way l.fn.reads.items ++ map (link_read (scope_of l.scope) way l.kind) (map link_of l.links)
