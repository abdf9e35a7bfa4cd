-- What a finish leaves, and what is kept so that it can hand outputs on.
use Rattle.std.specs.Prelude.{◌≡◌, ◌≢◌, ℕ, List, ◌∷◌, map, Option, option_map, if◌then◌else◌}
use Rattle.gn_node_set.specs.Meanings.{Has, Node, Zone, Meanings}
use Rattle.gn_exec_laws.specs.Machine.{Take, Finish, HasNumber, run_now}
use Rattle.gn_exec_laws.specs.Claims.{finishes}
use Rattle.gn_uses.specs.Sets.{has}
use Rattle.gn_readers.specs.declared.place.Reader.{Reader}
use Rattle.gn_readers.specs.Readers.{HaveReaders}
use Rattle.gn_nodes.specs.declared.values.Done.{Done}
use Rattle.gn_nodes.specs.Values.{done_of}
use Rattle.gn_exec_core.specs.States.{State, job, now}
use Rattle.gn_exec_core.specs.Holds.{value_now}

-- one finish more, where there is none yet
abbrev pub finished_by : {K V : Type 0} → State K V → ℕ → ℕ → List V → State K V
finished_by s worker n outputs = if has (finishes s.events) n then s else record s { events = Finish worker n ∷ s.events; handed = outputs ∷ s.handed }

module _ {G H K V S T : Type 0} (m : Meanings K V S T) (kind_of : G → K) (content : H → V) where
  -- the worker took the node, which is no zone, and hands in what its run gives
  pub record MayFinish (s : State G H) (worker n : ℕ) (done : Done H) : Type 0 where
    pub taken : Has s.events (Take worker n)
    pub no_zone : (node : Node K V) → HasNumber (now m kind_of content s) n node → m.rows.role node.kind ≢ Zone
    pub row : (node : Node K V) → HasNumber (now m kind_of content s) n node → done_of content done ≡ run_now m (now m kind_of content s) node

  -- the readers of each node, and the values of the roots
  pub record HandsOn (s : State G H) (lists : List (List Reader)) (values : List (Option H)) : Type 0 where
    pub readers : HaveReaders s.graph lists
    pub roots : map (option_map content) values ≡ map (value_now m (now m kind_of content s)) (job m kind_of content s).roots
