use Rattle.std.proofs.Common.{sym, ◌∙◌}
use Rattle.gn_geometry.specs.Geometries.{plain_geometry}
use Rattle.gn_pieces.proofs.Placed.{count_placed}
use Rattle.gn_pieces.proofs.view.View.elements.Goals as goal

pub returns : goal.returns
returns c = c.count.ensures ∙ sym (count_placed c.args.self.now.placing (plain_geometry c.args.self.now.geometry.now) c.args.place)
