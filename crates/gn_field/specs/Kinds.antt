-- Fields whose arguments have the kinds that operations, steps and sources take.
use Rattle.std.specs.Prelude.{◌≡◌, List, [], ◌∷◌}
use Rattle.gn_value.specs.declared.value.ValueKind.{ValueKind}
use Rattle.gn_value.specs.declared.value.ValueKind.TheVariants.{Int}
use Rattle.gn_value.specs.Operations.{Takes}
use Rattle.gn_plain.specs.Fields.{Step, accumulate, at_index, on_domain, Expr, apply, elsewhere, sampled, Exprs, none, and_one, Sources, kind_of_field}

-- a value and a group, a value and an index, or a value
abbrev pub step_takes : Step → List ValueKind
step_takes (accumulate kind place part) = kind ∷ Int ∷ []
step_takes (at_index kind place) = kind ∷ Int ∷ []
step_takes (on_domain kind place) = kind ∷ []

abbrev pub kinds_in : {S : Type 0} → Sources S → Exprs S → List ValueKind
kinds_in sources none = []
kinds_in sources (and_one e es) = kind_of_field sources e ∷ kinds_in sources es

module _ {S : Type 0} (sources : Sources S) (taken : S → ValueKind) where
  abbrev mutual
    pub HasKinds : Expr S → Type 0
    HasKinds (apply op es) = Takes op (kinds_in sources es) × HaveKinds es
    HasKinds (elsewhere x es) = (kinds_in sources es ≡ step_takes x) × HaveKinds es
    HasKinds (sampled path source e) = (kind_of_field sources e ≡ taken source) × HasKinds e
    HasKinds _ = Unit {0}

    pub HaveKinds : Exprs S → Type 0
    HaveKinds none = Unit {0}
    HaveKinds (and_one e es) = HasKinds e × HaveKinds es
