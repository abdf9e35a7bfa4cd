use Rattle.std.proofs.Common.{◌≡◌, ℕ, false, Result, Ok, Err, subst, ◌∙◌, sym}
use Rattle.std.specs.Result.{IfOk}
use Rattle.gn_plain.specs.Equality.{same_place}
use Rattle.gn_plain.specs.Interpolation.{one_suffices}
use Rattle.gn_attr.specs.Columns.{values_of}
use Rattle.gn_interp.specs.Takings.{topology_of, unplaced}
use Rattle.gn_interp.specs.Gathered.{count_on, ValuesAreGathered}
use Rattle.gn_interp.proofs.Within.{is_adapted}
use Rattle.gn_interp.proofs.interpolation.adapt.Goals as goal

if_ok : {A E : Type 0} (P Q R : A → Type 0) (r : Result A E) → IfOk r P → IfOk r Q → ((a : A) → P a → Q a → R a) → IfOk r R
if_ok P Q R (Ok a) p q all = all a p q
if_ok P Q R (Err e) p q all = tt

pub returns-clause-values : goal.returns-clause-values
returns-clause-values c =
    let from = c.args.from in
    let to = c.args.to in
    let t = topology_of c.args.topology.now in
    let before = values_of c.args.column.now in
    let differ : same_place from to ≡ false = sym c.eq.ensures ∙ c.if-eq.false in
    let pairs = c.deref.ensures.value ∙ c.in_ok-takings.ensures in
    if_ok _ _ _ c.interpolate.result c.interpolate.ensures.count c.interpolate.ensures.values (λ a many gathered.
    is_adapted t from to before (values_of a) c.requires.valid differ c.requires.count (many ∙ c.count_on-count.ensures)
    (subst (λ ts. ValuesAreGathered (one_suffices from to) ts before (values_of a)) pairs (subst (λ b. ValuesAreGathered b c.deref.result.now before (values_of a)) c.one_suffices.ensures gathered)))
