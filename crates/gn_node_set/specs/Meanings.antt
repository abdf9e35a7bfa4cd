-- Links and nodes, and what the kinds of nodes do.
use Rattle.std.specs.Prelude.{◌≡◌, ◌⊎◌, ℕ, zero, suc, List, [], ◌∷◌, ◌++◌, Option, Some, None, Bool}
use Rattle.gn_node_set.specs.Paths.{Path}

-- one of the members is x
abbrev pub Has : {X : Type 0} → List X → X → Type 0
Has [] x = ⊥
Has (y ∷ ys) x = (x ≡ y) ⊎ Has ys x

-- no member stands in the list twice
abbrev pub AllDiffer : {X : Type 0} → List X → Type 0
AllDiffer [] = Unit {0}
AllDiffer (x ∷ xs) = (¬ Has xs x) × AllDiffer xs

-- a source of values: a value itself, or an output of the node at a path; inside a zone also one of the zone's items, by its number
pub data Source (V : Type 0) : Type 0 where
  a_value : V → Source V
  an_item : ℕ → Source V
  an_output : Path → ℕ → Source V

-- a link carries the value of a source, converted to each of some kinds in turn
pub record Link (V : Type 0) : Type 0 where
  pub from : Source V
  pub through : List ℕ

abbrev pub plain_link : {V : Type 0} → Source V → Link V
plain_link x = record { from = x; through = [] }

-- the link with further conversions behind its own
abbrev pub along : {V : Type 0} → Link V → List ℕ → Link V
along l kinds = record { from = l.from; through = l.through ++ kinds }

pub record Node (K V : Type 0) : Type 0 where
  pub path : Path
  pub kind : K
  pub links : List (Link V)

-- what a zone adds when it is opened: the nodes of all its turns, and a link for each of its outputs
pub record Opened (K V : Type 0) : Type 0 where
  pub nodes : List (Node K V)
  pub outputs : List (Link V)

pub data Role : Type 0 where
  Plain Switch File Zone : Role

-- what a switch reads behind its index: the case of a number, all cases, or none
pub data Choice : Type 0 where
  one_case : ℕ → Choice
  all_cases no_case : Choice

-- the first member, and the others
abbrev pub head_of : {A : Type 0} → List A → List A
head_of [] = []
head_of (x ∷ xs) = x ∷ []

abbrev pub tail_of : {A : Type 0} → List A → List A
tail_of [] = []
tail_of (x ∷ xs) = xs

-- the member of a number from 0, as a list; past the end it is empty
abbrev pub member : {A : Type 0} → List A → ℕ → List A
member [] n = []
member (x ∷ xs) zero = x ∷ []
member (x ∷ xs) (suc n) = member xs n

-- of a switch's cases those that it reads
abbrev pub chosen : {A : Type 0} → Choice → List A → List A
chosen (one_case n) xs = member xs n
chosen all_cases xs = xs
chosen no_case xs = []

-- of a node's inputs those that its run gets: of a switch the index and what it chooses, of a zone the head
abbrev pub selected : {A : Type 0} → Role → Choice → List A → List A
selected Switch choice [] = []
selected Switch choice (x ∷ xs) = x ∷ chosen choice xs
selected Zone choice xs = head_of xs
selected _ choice xs = xs

-- of these the ones that the run gets whatever is chosen, and the ones that a choice adds
abbrev pub first_read : {A : Type 0} → Role → List A → List A
first_read Switch xs = head_of xs
first_read Zone xs = head_of xs
first_read _ xs = xs

abbrev pub then_read : {A : Type 0} → Role → Choice → List A → List A
then_read Switch choice xs = chosen choice (tail_of xs)
then_read _ choice xs = []

-- what an import gets for its file
pub data Answer : Type 0 where
  Whole : List ℕ → Answer
  Absent TooLong : Answer

pub record Warning : Type 0 where
  pub path : Path
  pub text : List ℕ

-- an import gets an answer, no other node does
abbrev pub answer_for : Role → Answer → Option Answer
answer_for File answer = Some answer
answer_for _ answer = None

-- what a node hands in when it was run
pub record Done (V : Type 0) : Type 0 where
  pub outputs : List V
  pub warnings : List Warning

-- what the kinds of nodes do, over kinds K and values V
pub record Rows (K V : Type 0) : Type 0 where
  pub role : K → Role
  -- the file that an import reads
  pub file : K → List ℕ
  -- what a switch reads, by its index
  pub choice : K → V → Choice
  -- the outputs and warnings of the node at a path, for its inputs and for its file's answer
  pub row : Path → K → List V → Option Answer → Done V
  -- how often a zone turns, by the output of its run
  pub turns : K → V → ℕ
  -- a value that a link converts to a kind
  pub convert : V → ℕ → V

-- what a set of nodes means to an executor, over sorts of values S, and sources T of sampled fields
pub record Meanings (K V S T : Type 0) : Type 0 where
  pub rows : Rows K V
  -- what a zone at a path opens, by the output of its run
  pub opens : Path → K → V → Opened K V
  pub sort : V → S
  -- the sort after a conversion to a kind
  pub shift : S → ℕ → Option S
  -- may the inputs of a node have these sorts in order?
  pub fits : K → List S → Bool
  -- the sorts of a node's outputs
  pub gives : K → List S
  -- nodes that a zone opens are less high than the zone
  pub height : K → ℕ
  -- the source of the sampled steps that the node at a path made, where the value has some
  pub tag : V → Path → Option T
  -- read where there is no output; no graph that fits reads it
  pub nothing : V

module _ {K V : Type 0} (rows : Rows K V) where
  -- a value after conversions to these kinds in turn
  abbrev pub converted : V → List ℕ → V
  converted v [] = v
  converted v (kind ∷ kinds) = converted (rows.convert v kind) kinds
