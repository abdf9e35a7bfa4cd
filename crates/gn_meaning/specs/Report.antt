-- The demanded paths in order, and the warnings of their runs.
use Rattle.std.specs.Prelude.{◌≡◌, ◌↔◌, List, [], ◌∷◌, ◌++◌, Some, IsTrue}
use Rattle.gn_tree.specs.NodeKinds.{Kind}
use Rattle.gn_tree.specs.Trees.{Tree}
use Rattle.gn_node_set.specs.Paths.{Path, path_before}
use Rattle.gn_node_set.specs.Meanings.{Has, Warning, Done, Rows}
use Rattle.gn_meaning.specs.Sites.{Site, Read}
use Rattle.gn_meaning.specs.Reads.{Run, run_of}
use Rattle.gn_meaning.specs.Denotation.{Given, Ends}
use Rattle.gn_meaning.specs.Demand.{Demanded}

-- each path comes before those behind it
abbrev pub Rises : List Path → Type 0
Rises [] = Unit {0}
Rises (p ∷ ps) = ((q : Path) → Has ps q → IsTrue (path_before p q)) × Rises ps

module _ {V : Type 0} (rows : Rows Kind V) (given : Given V) (t : Tree) where
  -- the warnings of the runs at these paths, one after another
  pub data Warns : List Path → List Warning → Type 0 where
    no_run : Warns [] []
    and_run : {paths : List Path} {warnings : List Warning} (site : Site) (run : Run) (done : Done V) → run_of t site ≡ Some run → Ends rows given t run done → Warns paths warnings → Warns (run.path ∷ paths) (done.warnings ++ warnings)

  -- the demanded paths in path order, and the warnings of the demanded runs in that order
  pub record IsReport (roots : List Read) (paths : List Path) (warnings : List Warning) : Type 0 where
    pub members : (p : Path) → Has paths p ↔ Demanded rows given t roots p
    pub rise : Rises paths
    pub warn : Warns paths warnings
