use Rattle.std.specs.Prelude.{refl}
use Rattle.gn_io.proofs.Untold.{asks_untold, misses_untold, misses_rose, faults_rose}
use Rattle.gn_io.proofs.folder_shelf.FolderShelfShelf.TheImpl.Goals as goal

pub fetch-tells : goal.fetch-tells
fetch-tells g c = record {
  serves = c.ensures.serves;
  absent = rw c.ensures.counted (misses_rose c.args.self.now c.result);
  failed = rw c.ensures.counted (faults_rose c.args.self.now c.result);
  holds = refl;
  asked = asks_untold c.args.name.now c.result;
  missed = misses_untold c.args.name.now c.result;
  faults = c.ensures.faults;
  misses = c.ensures.misses;
}
