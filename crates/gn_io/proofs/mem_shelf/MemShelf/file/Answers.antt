use Rattle.std.specs.Prelude.{string_bytes, vec_items}
use Rattle.std.proofs.Common.{sym}
use Rattle.gn_io.proofs.Lookups.{lookup_by_bytes}
use Rattle.gn_io.proofs.mem_shelf.MemShelf.file.Goals as goal

pub returns : goal.returns
returns c =
    rw (c.get.ensures.value, ← c.self.view_is)
    (sym (lookup_by_bytes string_bytes vec_items c.args.name.now c.self.inside.files.entries))
