use Rattle.gn_meaning.proofs.Found.{links_lead}
use Rattle.gn_meaning.proofs.laws.links_lead.Goals as goal

pub returns : goal.returns
returns c s way l shape e = let there : _ = links_lead s way (λ _. Unit {0}) l shape (λ m h. tt) e in (there.0, there.1)
