-- Which nodes have to run.
use Rattle.std.specs.Prelude.{◌≡◌, ◌↔◌, ℕ, zero, suc, List, Some}
use Rattle.gn_tree.specs.NodeKinds.{Kind}
use Rattle.gn_tree.specs.Trees.{Tree}
use Rattle.gn_node_set.specs.Paths.{Path}
use Rattle.gn_node_set.specs.Meanings.{Has, AllDiffer, Choice, Rows, first_read, then_read}
use Rattle.gn_meaning.specs.Sites.{Way, the_tree, into, plain_step, turn_step, Site, at_output, at_input, at_item, Read}
use Rattle.gn_meaning.specs.Bodies.{Body}
use Rattle.gn_meaning.specs.Reads.{read_at, Run, a_group, a_repeat, part_at, out_of, run_of}
use Rattle.gn_meaning.specs.Denotation.{Given, Chooses, Gives}

module _ {V : Type 0} (rows : Rows Kind V) (given : Given V) (t : Tree) (roots : List Read) where
  -- the least set of sites that holds what is asked for, and with a site those that its value comes from
  pub data Wanted : Site → Type 0 where
    a_root : (r : Read) → Has roots r → Wanted r.from
    -- a run brings what it reads whatever it chooses, and then what it chooses
    an_input : {site : Site} (run : Run) (r : Read) → Wanted site → run_of t site ≡ Some run → Has (first_read (rows.role run.kind) run.reads) r → Wanted r.from
    a_case : {site : Site} (run : Run) (choice : Choice) (r : Read) → Wanted site → run_of t site ≡ Some run → Chooses rows given t run choice → Has (then_read (rows.role run.kind) choice run.reads) r → Wanted r.from
    -- an output of a group node is what the group gives out, and an input of a group is the group node's
    a_group_output : {way : Way} {n s : ℕ} (b : Body) (reads : List Read) → Wanted (at_output way n s) → part_at t way n ≡ Some (a_group b reads) → Wanted (out_of t (into way (plain_step n)) s).from
    a_group_input : {way : Way} {n i : ℕ} (b : Body) (reads : List Read) → Wanted (at_input (into way (plain_step n)) i) → part_at t way n ≡ Some (a_group b reads) → Wanted (read_at reads i).from
    -- an output of a repeat is its item after the last turn, and an item after a turn is what that turn gives out
    a_result : {way : Way} {n s : ℕ} (run : Run) (b : Body) (v : V) → Wanted (at_output way n s) → part_at t way n ≡ Some (a_repeat run b) → Gives rows given t run 0 v → Wanted (at_item way n (rows.turns run.kind v) s)
    a_first_item : {way : Way} {n i : ℕ} (run : Run) (b : Body) → Wanted (at_item way n zero i) → part_at t way n ≡ Some (a_repeat run b) → Wanted (read_at run.reads (suc i)).from
    a_later_item : {way : Way} {n k i : ℕ} → Wanted (at_item way n (suc k) i) → Wanted (out_of t (into way (turn_step n k)) i).from
    an_item : {way : Way} {n k i : ℕ} (run : Run) (b : Body) → Wanted (at_input (into way (turn_step n k)) (suc i)) → part_at t way n ≡ Some (a_repeat run b) → Wanted (at_item way n k i)

  -- the path is that of a run that a wanted value comes from
  abbrev pub Demanded : Path → Type 0
  Demanded p = (site : Site) × Wanted site × (run : Run) × (run_of t site ≡ Some run) × (run.path ≡ p)

  -- the list has the demanded paths, each once
  pub record ListsDemand (paths : List Path) : Type 0 where
    pub members : (p : Path) → Has paths p ↔ Demanded p
    pub differ : AllDiffer paths

-- what is asked of a tree: what it gives out
abbrev pub output_read : Tree → Read
output_read t = out_of t the_tree 0
