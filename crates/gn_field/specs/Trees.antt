-- Fields without their sources, which is what makes two of them the same.
use Rattle.std.specs.Prelude.{◌≡◌, List, [], ◌∷◌, ◌++◌, map, Option, Some}
use Rattle.gn_node_set.specs.Meanings.{Has}
use Rattle.gn_node_set.specs.Paths.{Path}
use Rattle.gn_plain.specs.Fields.{Expr, constant, input, apply, elsewhere, sampled, Exprs, none, and_one}
use Rattle.gn_field.specs.declared.step.FieldStep.{FieldStep}
use Rattle.gn_field.specs.declared.step.FieldStep.TheVariants.{Sampled}
use Rattle.gn_field.specs.Steps.{Key, of_constant, of_input, of_apply, of_elsewhere, of_sampled, exprs_of, named}

abbrev pub Tree : Type 0
Tree = Expr (Unit {0})

module _ {S : Type 0} where
  abbrev mutual
    pub bare : Expr S → Tree
    bare (constant v) = constant v
    bare (input x) = input x
    bare (apply op es) = apply op (bares es)
    bare (elsewhere x es) = elsewhere x (bares es)
    bare (sampled path source e) = sampled path tt (bare e)

    pub bares : Exprs S → Exprs (Unit {0})
    bares none = none
    bares (and_one e es) = and_one (bare e) (bares es)

  abbrev mutual
    -- each sampled part has the source that a table has for the path of its node
    pub HasSources : (Path → Option S) → Expr S → Type 0
    HasSources table (apply op es) = HaveSources table es
    HasSources table (elsewhere x es) = HaveSources table es
    HasSources table (sampled path source e) = (table path ≡ Some source) × HasSources table e
    HasSources table _ = Unit {0}

    pub HaveSources : (Path → Option S) → Exprs S → Type 0
    HaveSources table none = Unit {0}
    HaveSources table (and_one e es) = HasSources table e × HaveSources table es

  -- any two sampled parts of one node's path have one source
  abbrev pub AgreesOnSources : Expr S → Type 0
  AgreesOnSources e = (table : Path → Option S) × HasSources table e

  -- a sampled step has the source of its path
  abbrev pub IsSourced : (Path → Option S) → FieldStep S → Type 0
  IsSourced table (Sampled tag source arg) = table tag.steps.items ≡ Some source
  IsSourced table _ = Unit {0}

  abbrev pub AreSourced : (Path → Option S) → List (FieldStep S) → Type 0
  AreSourced table [] = Unit {0}
  AreSourced table (x ∷ xs) = IsSourced table x × AreSourced table xs

-- ---- the trees that keys form

abbrev pub formed : List Tree → Key → Tree
formed ts (of_constant v) = constant v
formed ts (of_input x) = input x
formed ts (of_apply op args) = apply op (exprs_of (map (named ts) args))
formed ts (of_elsewhere x args) = elsewhere x (exprs_of (map (named ts) args))
formed ts (of_sampled path arg) = sampled path tt (named ts arg)

abbrev pub grown : List Tree → List Key → List Tree
grown ts [] = ts
grown ts (k ∷ ks) = grown (ts ++ formed ts k ∷ []) ks

-- the trees of keys, each at its key's place
abbrev pub trees : List Key → List Tree
trees ks = grown [] ks

abbrev pub SameMembers : {A : Type 0} → List A → List A → Type 0
SameMembers {A = A} xs ys = (a : A) → (Has xs a → Has ys a) × (Has ys a → Has xs a)
