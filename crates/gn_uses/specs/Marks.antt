-- What is marked by now: outputs that are wanted, nodes that are used, and nodes that stand in line to be
-- run, each in the order in which they came.
use Rattle.std.specs.Prelude.{◌≡◌, ℕ, ◌+◌, ◌≤◌, Bool, List, [], ◌∷◌, ◌++◌, length, Option, Some, None, IsTrue, take, fold, if◌then◌else◌}
use Rattle.gn_node_set.specs.Meanings.{Has, AllDiffer}
use Rattle.gn_uses.specs.declared.outputs.Out.{Out}
use Rattle.gn_uses.specs.Sets.{OutputSet, has, with_number, has_out, with_out, IsIn}
use Rattle.gn_uses.specs.Nodes as nodes
use Rattle.gn_uses.specs.Nodes.{Nodes, needs, is_full, result_at, Wanted}

pub record Marks : Type 0 where
  pub wanted : List Out
  pub used : List ℕ
  pub line : List ℕ

abbrev pub no_marks : Marks
no_marks = record { wanted = []; used = []; line = [] }

-- where an input comes from is wanted, unless it is a value
abbrev pub with_input : List Out → Option Out → List Out
with_input xs None = xs
with_input xs (Some x) = with_out xs x

abbrev pub with_inputs : List Out → List (Option Out) → List Out
with_inputs xs inputs = fold with_input xs inputs

abbrev pub with_all : OutputSet → List (Option Out) → OutputSet
with_all s inputs = record { sizes = s.sizes; total = s.total; items = with_inputs s.items inputs }

-- where the outputs of a zone come from, from a number on, is wanted where they are
abbrev pub with_results_of : ℕ → ℕ → List (Option Out) → List Out → List Out
with_results_of zone s [] xs = xs
with_results_of zone s (result ∷ results) xs =
    with_results_of zone (s + 1) results (if has_out xs (record { node = zone; output = s }) then with_input xs result else xs)

-- a used node stands in line once it is full
abbrev pub lined : Nodes → Marks → ℕ → Marks
lined g m n = record m { line = if is_full g n then with_number m.line n else m.line }

abbrev pub looked_at : Nodes → Marks → ℕ → Marks
looked_at g m n = if has m.used n then lined g m n else m

-- what a used node needs is wanted
abbrev pub fed : Nodes → Marks → ℕ → Marks
fed g m n = record m { wanted = with_inputs m.wanted (needs g n) }

-- where the node is used, what it needs by now is wanted
abbrev pub fed_again : Nodes → Marks → ℕ → Marks
fed_again g m n = if has m.used n then lined g (fed g m n) n else m

-- the node of a wanted output is used
abbrev pub entered : Nodes → Marks → ℕ → Marks
entered g m n = if has m.used n then m else lined g (fed g (record m { used = m.used ++ n ∷ [] }) n) n

-- a wanted output is followed to its node, and to where it comes from
abbrev pub followed : Nodes → Marks → Out → Marks
followed g m x = let e = entered g m x.node in record e { wanted = with_input e.wanted (result_at g x) }

-- an output is wanted
abbrev pub rooted : Marks → Out → Marks
rooted m x = record m { wanted = with_out m.wanted x }

-- what the wanted outputs of a zone come from is wanted
abbrev pub opened : Nodes → Marks → ℕ → Marks
opened g m zone = record m { wanted = with_results_of zone 0 (nodes.results g zone) m.wanted }

-- the marks are right, where the outputs in `done` were followed
pub record AreRight (g : Nodes) (m : Marks) (done : List Out) : Type 0 where
  pub sound : (x : Out) → Has m.wanted x → Wanted g x
  pub roots : (x : Out) → Has g.roots x → Has m.wanted x
  pub inside : (x : Out) → Has m.wanted x → IsIn g.sizes x
  pub used : (n : ℕ) → Has m.used n → (s : ℕ) × Has m.wanted (record { node = n; output = s })
  pub fed : (n : ℕ) → Has m.used n → (y : Out) → Has (needs g n) (Some y) → Has m.wanted y
  pub entered : (x : Out) → Has done x → Has m.used x.node
  pub led : (x : Out) → Has done x → (y : Out) → result_at g x ≡ Some y → Has m.wanted y
  pub in_line : (n : ℕ) → Has m.line n → Has m.used n × IsTrue (is_full g n)
  pub all_in_line : (n : ℕ) → Has m.used n → IsTrue (is_full g n) → Has m.line n
  pub used_differ : AllDiffer m.used
  pub line_differ : AllDiffer m.line

-- all that the lists name is there, and they are as long as there are nodes
pub record AreWhole (g : Nodes) : Type 0 where
  pub roles : length g.roles ≡ length g.sizes
  pub inputs : length g.inputs ≡ length g.sizes
  pub choices : length g.choices ≡ length g.sizes
  pub results : length g.results ≡ length g.sizes
  pub filled : length g.filled ≡ length g.sizes
  pub answered : length g.answered ≡ length g.sizes
  pub inputs_in : (n : ℕ) (x : Out) → Has (nodes.inputs g n) (Some x) → IsIn g.sizes x
  pub results_in : (x y : Out) → result_at g x ≡ Some y → IsIn g.sizes y
  pub roots_in : (x : Out) → Has g.roots x → IsIn g.sizes x
