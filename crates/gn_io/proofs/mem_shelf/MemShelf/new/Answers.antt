use Rattle.std.specs.Prelude.{string_bytes, vec_items}
use Rattle.gn_io.proofs.Lookups.{lookup_by_bytes}
use Rattle.gn_io.proofs.mem_shelf.MemShelf.new.Goals as goal

pub returns-clause-files : goal.returns-clause-files
returns-clause-files c = λ name. lookup_by_bytes string_bytes vec_items name c.args.files.entries
