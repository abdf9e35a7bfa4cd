use Rattle.std.proofs.Common.{◌∙◌, sym, ap}
use Rattle.gn_mask.specs.Segments.{covers}
use Rattle.gn_mask.proofs.Segments.{covers_is}
use Rattle.gn_mask.proofs.mask.Mask.has.Goals as goal

pub returns : goal.returns
returns c =
    rw (← c.self.view_is)
    (c.covers.ensures ∙ ap (λ ss. covers ss c.args.element) c.deref.ensures.value ∙ sym (covers_is c.self.inside.segments.items c.args.element))
