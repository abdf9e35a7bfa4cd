use Rattle.std.proofs.Common.{ap}
use Rattle.gn_obj.proofs.PageLemmas.{last_cut}
use Rattle.gn_obj.proofs.write.write_obj.Goals as goal

pub returns-in-Err-flush-clause-takes : goal.returns-in-Err-flush-clause-takes
returns-in-Err-flush-clause-takes g c =
    rw (← c.geometry.view_is) (last_cut _ _ _ _ _ (ap (λ p. p.waiting) c.new-page.ensures) (ap (λ p. p.sent) c.new-page.ensures) c.in-Ok.ensures c.in-Err-flush.ensures.writes c.sent-in-Err-flush.ensures c.sent-in-Err-flush.type_inv)
