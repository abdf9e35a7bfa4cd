-- How a list of steps takes in further steps, each once.
use Rattle.std.specs.Prelude.{◌≡◌, ◌≢◌, ◌⊎◌, ℕ, ◌+◌, ◌*◌, ◌<◌, ◌≤◌, List, [], ◌∷◌, ◌++◌, length, map, Option, Some, None, slice_get, slice_index, flat_map, unwrap_or}
use Rattle.gn_node_set.specs.Meanings.{Has, AllDiffer}
use Rattle.gn_node_set.specs.Paths.{Path}
use Rattle.gn_value.specs.declared.value.ValueKind.{ValueKind}
use Rattle.gn_plain.specs.Fields.{Expr, Sources}
use Rattle.gn_plain.specs.Subtrees.{subtrees}
use Rattle.gn_field.specs.declared.step.FieldStep.{FieldStep}
use Rattle.gn_field.specs.Steps.{Key, of_constant, of_input, of_apply, of_elsewhere, of_sampled, names, AreBelow, LeadBack, exprs_of, named, built, last_of, key_of, keys}
use Rattle.gn_field.specs.Trees.{Tree, bare, formed, trees, SameMembers, AgreesOnSources, HasSources, HaveSources, IsSourced, AreSourced}
use Rattle.gn_field.specs.Kinds.{HasKinds, HaveKinds}

-- the same step, but for the places that it names
abbrev pub moved : List ℕ → Key → Key
moved places (of_constant v) = of_constant v
moved places (of_input x) = of_input x
moved places (of_apply op args) = of_apply op (map (λ k. slice_index places k) args)
moved places (of_elsewhere x args) = of_elsewhere x (map (λ k. slice_index places k) args)
moved places (of_sampled path arg) = of_sampled path (slice_index places arg)

-- a place behind those of a list, and not further behind than it must be
abbrev pub IsBehind : ℕ → List ℕ → Type 0
IsBehind n ks = (n ≡ 0) ⊎ ((k : ℕ) × Has ks k × (n ≡ k + 1))

module _ {S : Type 0} where
  abbrev pub IsMoved : List ℕ → FieldStep S → FieldStep S → Type 0
  IsMoved places x y = (key_of y ≡ moved places (key_of x)) × ((table : Path → Option S) → IsSourced table x → IsSourced table y)

  -- a step is at a place already, or it comes behind the others
  abbrev pub Adds : List (FieldStep S) → FieldStep S → ℕ → List (FieldStep S) → Type 0
  Adds before x place after = ((after ≡ before) × (slice_get (keys before) place ≡ Some (key_of x))) ⊎ ((after ≡ before ++ x ∷ []) × (place ≡ length before) × (¬ Has (keys before) (key_of x)))

  -- steps lead back, and no two make the same
  pub record IsMerged (xs : List (FieldStep S)) : Type 0 where
    pub back : LeadBack (keys xs)
    pub differ : AllDiffer (trees (keys xs))

  -- what stays of a list of steps that grows
  pub record Grows (before after : List (FieldStep S)) : Type 0 where
    pub longer : length before ≤ length after
    pub extends : (k : ℕ) → k < length before → named (trees (keys after)) k ≡ named (trees (keys before)) k
    pub stays : (t : Tree) → Has (trees (keys before)) t → Has (trees (keys after)) t

  -- the steps behind are those that others lack, and each of the others is at its place
  pub record Merges (before others after : List (FieldStep S)) (places : List ℕ) : Type 0 where
    pub merged : IsMerged after
    pub grows : Grows before after
    pub formed : map (named (trees (keys after))) places ≡ trees (keys others)
    pub within : AreBelow (length after) places
    pub members : (t : Tree) → Has (trees (keys after)) t → Has (trees (keys before)) t ⊎ Has (trees (keys others)) t
    pub sourced : (table : Path → Option S) → AreSourced table before → AreSourced table others → AreSourced table after
    pub few : length after ≤ length before + length others

-- a field is the last of at most 4,096 steps, and the others are its subtrees; arguments have the kinds that are taken
pub record IsField {S : Type 0} (sources : Sources S) (taken : S → ValueKind) (xs : List (FieldStep S)) : Type 0 where
  pub some : 0 < length xs
  pub few : length xs ≤ 4096
  pub merged : IsMerged xs
  pub reached : (e : Expr S) → Has (built xs) e → Has (subtrees (last_of (built xs))) e
  pub kinds : HasKinds sources taken (last_of (built xs))

module _ {S : Type 0} (sources : Sources S) (taken : S → ValueKind) where
  -- the steps of a field are merged into others, and the field is at a place
  pub record Joins (before : List (FieldStep S)) (e : Expr S) (root : ℕ) (after : List (FieldStep S)) : Type 0 where
    pub merged : IsMerged after
    pub grows : Grows before after
    pub root_is : named (trees (keys after)) root ≡ bare e
    pub within : root < length after
    pub members : (t : Tree) → Has (trees (keys after)) t → Has (trees (keys before)) t ⊎ Has (subtrees (bare e)) t
    pub subtrees_in : (t : Tree) → Has (subtrees (bare e)) t → Has (trees (keys after)) t
    pub sourced : (table : Path → Option S) → AreSourced table before → HasSources table e → AreSourced table after
    pub few : length after ≤ length before + 4096
    pub kinds : HasKinds sources taken e

  -- the steps are those of all fields, each once, and each field is at its place
  pub record Gathers (es : List (Expr S)) (xs : List (FieldStep S)) (roots : List ℕ) : Type 0 where
    pub merged : IsMerged xs
    pub formed : map (named (trees (keys xs))) roots ≡ map bare es
    pub within : AreBelow (length xs) roots
    pub members : SameMembers (trees (keys xs)) (flat_map subtrees (map bare es))
    pub sourced : (table : Path → Option S) → HaveSources table (exprs_of es) → AreSourced table xs
    pub few : length xs ≤ (length es + 1) * 4096
    pub kinds : HaveKinds sources taken (exprs_of es)

module _ {S : Type 0} (sources : Sources S) (taken : S → ValueKind) where
  -- nothing is left of a field whose tree is that of a base
  abbrev pub IsLeft : Expr S → Expr S → Option (Expr S) → Type 0
  IsLeft base e None = (bare e ≡ bare base) × HasKinds sources taken e
  IsLeft base e (Some f) = f ≡ e

  abbrev pub AreLeft : Expr S → List (Expr S) → List (Option (Expr S)) → Type 0
  AreLeft base [] [] = Unit {0}
  AreLeft base (e ∷ es) (o ∷ os) = IsLeft base e o × AreLeft base es os
  AreLeft base _ _ = ⊥

  -- the steps of what is left of a field are merged into others
  abbrev pub JoinsLeft : List (FieldStep S) → Option (Expr S) → ℕ → ℕ → List (FieldStep S) → Type 0
  JoinsLeft before None root place after = (after ≡ before) × (place ≡ root)
  JoinsLeft before (Some f) root place after = Joins sources taken before f place after

  -- the first fields are gathered into the steps of a base
  pub record IsGathering (base : Expr S) (root : ℕ) (es : List (Expr S)) (xs : List (FieldStep S)) (roots : List ℕ) : Type 0 where
    pub merged : IsMerged xs
    pub root_is : named (trees (keys xs)) root ≡ bare base
    pub root_within : root < length xs
    pub formed : map (named (trees (keys xs))) roots ≡ map bare es
    pub within : AreBelow (length xs) roots
    pub members : (t : Tree) → Has (trees (keys xs)) t → Has (subtrees (bare base)) t ⊎ Has (flat_map subtrees (map bare es)) t
    pub base_in : (t : Tree) → Has (subtrees (bare base)) t → Has (trees (keys xs)) t
    pub all_in : (t : Tree) → Has (flat_map subtrees (map bare es)) t → Has (trees (keys xs)) t
    pub sourced : (table : Path → Option S) → HasSources table base → HaveSources table (exprs_of es) → AreSourced table xs
    pub few : length xs ≤ (length es + 1) * 4096
    pub kinds : HaveKinds sources taken (exprs_of es)
    pub base_kinds : HasKinds sources taken base

-- the fields that are left, and the base in place of the others
abbrev pub filled : {S : Type 0} → Expr S → List (Option (Expr S)) → List (Expr S)
filled base [] = []
filled base (o ∷ os) = unwrap_or o base ∷ filled base os

-- a step makes a field of the fields that are gathered
pub record Makes {S : Type 0} (sources : Sources S) (taken : S → ValueKind) (es : List (Expr S)) (xs : List (FieldStep S)) (x : FieldStep S) (e : Expr S) : Type 0 where
  pub merged : IsMerged xs
  pub members : SameMembers (trees (keys xs)) (flat_map subtrees (map bare es))
  pub below : AreBelow (length xs) (names (key_of x))
  pub forms : formed (trees (keys xs)) (key_of x) ≡ bare e
  pub parts : subtrees (bare e) ≡ flat_map subtrees (map bare es) ++ bare e ∷ []
  pub larger : (t : Tree) → Has (flat_map subtrees (map bare es)) t → t ≢ bare e
  pub sourced : (table : Path → Option S) → HasSources table e → AreSourced table xs × IsSourced table x
  pub kinds : HasKinds sources taken e

-- some fields make one, any two sampled parts of which have one source if their path is one
pub record Finishes {S : Type 0} (sources : Sources S) (taken : S → ValueKind) (xs : List (FieldStep S)) (x : FieldStep S) : Type 0 where
  pub args : List (Expr S)
  pub field : Expr S
  pub makes : Makes sources taken args xs x field
  pub one_source : AgreesOnSources field
