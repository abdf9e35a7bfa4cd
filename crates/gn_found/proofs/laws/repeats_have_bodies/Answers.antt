use Rattle.gn_found.proofs.Bodies.{no_lone_repeat}
use Rattle.gn_found.proofs.laws.repeats_have_bodies.Goals as goal

pub returns : goal.returns
returns c t form keeps way b n run leads e = no_lone_repeat t form keeps way b n run leads e
