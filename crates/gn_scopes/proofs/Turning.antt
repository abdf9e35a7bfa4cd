-- What the search for a cycle returns is what the rules say of the node.
use Rattle.std.proofs.Common.{◌≡◌, ℕ, Bool, Result, Ok, Err, IfOk, Decides, subst}
use Rattle.std.proofs.lemmas.Bool.Decides.{same_from_decides}
use Rattle.gn_memory.specs.declared.Memory.{Memory}
use Rattle.gn_cycle.specs.Graph.{Graph, Leads}
use Rattle.gn_cycle.specs.Ways.{is_on_cycle}
use Rattle.gn_cycle.proofs.Ways.{tells_cycle}

pub cycle_seen : (r : Result Bool Memory) (one other : Graph) (i : ℕ) → one ≡ other → IfOk r (λ found. Decides found (Leads one i i)) → IfOk r (λ found. found ≡ is_on_cycle other i)
cycle_seen (Ok b) one other i e h = same_from_decides b (is_on_cycle other i) (subst (λ g. Decides b (Leads g i i)) e h) (tells_cycle other i)
cycle_seen (Err x) one other i e h = tt
