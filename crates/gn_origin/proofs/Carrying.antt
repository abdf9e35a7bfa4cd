-- The constants of a Set Position, by where the walks from its inputs end.
use Rattle.std.proofs.Common.{◌≡◌, ◌+◌, ◌≤◌, ◌⊎◌, inl, inr, ℕ, Bool, List, [], ◌∷◌, map, Option, Some, None, refl, sym, ◌∙◌, ap, subst}
use Rattle.std.specs.Prelude.{option_map, option_and_then}
use Rattle.gn_value.specs.declared.vector.V3.{V3}
use Rattle.gn_value.specs.declared.value.Value.{Value}
use Rattle.gn_value.specs.declared.value.Value.TheVariants.{Truth as truth, Int as int, Fixed as fixed, Vector as vector}
use Rattle.gn_tree.specs.Trees.{Tree}
use Rattle.gn_meaning.specs.Sites as sites
use Rattle.gn_meaning.specs.Sites.{Way, a_value, a_leaf, its_position, at_constant, Read, plain_read}
use Rattle.gn_meaning.specs.Reads.{kind_number, read_at, Run}
use Rattle.gn_meaning.specs.Origins.{IsReadFrom}
use Rattle.gn_meaning.proofs.Options.{some_same}
use Rattle.gn_plans.specs.declared.plans.Plan.{Plan as CodePlan}
use Rattle.gn_origin.specs.declared.walk.Walk.{Walk}
use Rattle.gn_origin.specs.declared.read.Site.{Site}
use Rattle.gn_origin.specs.declared.read.Site.TheVariants as site
use Rattle.gn_origin.specs.declared.read.Constant.TheVariants as constant
use Rattle.gn_origin.specs.Frames.{way_of, site_of}
use Rattle.gn_origin.specs.Reading.{IsElsewhere}
use Rattle.gn_plans.specs.Plans.{conversion_limit, Carries, MovesTo}
use Rattle.gn_origin.specs.Moves.{EndsAt, carried_at, carried_by, truth_in, vector_in, own_position, position_at, position_by, ConstantsAre, Limits}
use Rattle.gn_origin.proofs.Ending.{ends_from, ends_only, carries, carries_only}

pub none_carried : (t : Tree) (r : Read) → IsElsewhere t r → (v : Value) (n : ℕ) → ¬ Carries t r v n
none_carried t r h v n (c, kinds, from, e, f) = h (record { from = at_constant (a_value c); through = kinds }) from tt

pub none_moved : (t : Tree) (r : Read) → IsElsewhere t r → (to : Option V3) (n : ℕ) → ¬ MovesTo t r to n
none_moved t r h None n (from, e) = h (plain_read (at_constant (a_leaf its_position))) from tt
none_moved t r h (Some p) n c = none_carried t r h (vector p) n c

truth_there : (o : Option (Value × ℕ)) (b : Bool) (n : ℕ) → option_and_then truth_in o ≡ Some (b, n) → o ≡ Some (truth b, n)
truth_there None b n e = cc
truth_there (Some (truth c, m)) b n e = λ i. Some (truth (truth_pair (e i)).0, (truth_pair (e i)).1)
  where
    truth_pair : Option (Bool × ℕ) → Bool × ℕ
    truth_pair None = (c, m)
    truth_pair (Some p) = p
truth_there (Some (int c, m)) b n e = cc
truth_there (Some (fixed c, m)) b n e = cc
truth_there (Some (vector c, m)) b n e = cc

vector_there : (o : Option (Value × ℕ)) (v : V3) (n : ℕ) → option_and_then vector_in o ≡ Some (v, n) → o ≡ Some (vector v, n)
vector_there None v n e = cc
vector_there (Some (truth c, m)) v n e = cc
vector_there (Some (int c, m)) v n e = cc
vector_there (Some (fixed c, m)) v n e = cc
vector_there (Some (vector c, m)) v n e = λ i. Some (vector (vector_pair (e i)).0, (vector_pair (e i)).1)
  where
    vector_pair : Option (V3 × ℕ) → V3 × ℕ
    vector_pair None = (c, m)
    vector_pair (Some p) = p

-- ---- positions

abbrev kinds_of : Walk → List ℕ
kinds_of w = map kind_number w.conversions.items

own_here : (way : Way) (s : Site) (kinds : List ℕ) → at_constant (a_leaf its_position) ≡ site_of way s → [] ≡ kinds → position_at s kinds ≡ Some (None, 0)
own_here way (site.Group f o x) kinds e through = let bad : at_constant (a_leaf its_position) ≡ sites.at_output way f.number o = e in cc
own_here way (site.Moved n x) kinds e through = let bad : at_constant (a_leaf its_position) ≡ sites.at_output way n 0 = e in cc
own_here way (site.Entry i x) kinds e through = let bad : at_constant (a_leaf its_position) ≡ sites.at_input way i = e in cc
own_here way (site.Constant (constant.Value v)) kinds e through = let bad : at_constant (a_leaf its_position) ≡ at_constant (a_value v) = e in cc
own_here way (site.Constant constant.Position) kinds e through = ap own_position (sym through)
own_here way (site.Constant constant.NoGeometry) kinds e through = let bad : at_constant (a_leaf its_position) ≡ at_constant sites.no_geometry = e in cc

by_constant : (s : Site) (kinds : List ℕ) (p : V3) (n : ℕ) → option_and_then vector_in (carried_at s kinds) ≡ Some (p, n) → position_at s kinds ≡ Some (Some p, n)
by_constant (site.Group f o x) kinds p n e = cc
by_constant (site.Moved m x) kinds p n e = cc
by_constant (site.Entry i x) kinds p n e = cc
by_constant (site.Constant (constant.Value v)) kinds p n e = ap (option_map (λ x. (Some x.0, x.1))) e
by_constant (site.Constant constant.Position) kinds p n e = cc
by_constant (site.Constant constant.NoGeometry) kinds p n e = cc

-- each point's own position, read without conversions
record IsOwn (way : Way) (s : Site) (kinds : List ℕ) (to : Option V3) (n : ℕ) : Type 0 where
  pub from : site_of way s ≡ at_constant (a_leaf its_position)
  pub plain : kinds ≡ []
  pub own : to ≡ None
  pub count : n ≡ 0

abbrev IsVector : Site → List ℕ → Option V3 → ℕ → Type 0
IsVector s kinds to n = (p : V3) × (to ≡ Some p) × (option_and_then vector_in (carried_at s kinds) ≡ Some (p, n))

pair_or : Option V3 × ℕ → Option (Option V3 × ℕ) → Option V3 × ℕ
pair_or p None = p
pair_or p (Some q) = q

by_vector : (o : Option (V3 × ℕ)) (to : Option V3) (n : ℕ) → option_map {U = Option V3 × ℕ} (λ x. (Some x.0, x.1)) o ≡ Some (to, n) → (p : V3) × (to ≡ Some p) × (o ≡ Some (p, n))
unfolding pair_or
by_vector None to n e = cc
by_vector (Some (p, m)) to n e = (p, ap (λ q. (pair_or (Some p, m) q).0) (sym e), λ i. Some (p, (pair_or (Some p, m) (e i)).1))

own_there : (way : Way) (to : Option V3) (n : ℕ) → own_position [] ≡ Some (to, n) → IsOwn way (site.Constant constant.Position) [] to n
unfolding pair_or
own_there way to n e = record {
  from = refl;
  plain = refl;
  own = ap (λ q. (pair_or (None, 0) q).0) (sym e);
  count = ap (λ q. (pair_or (None, 0) q).1) (sym e);
}

own_or : (way : Way) (s : Site) (kinds : List ℕ) (to : Option V3) (n : ℕ) → position_at s kinds ≡ Some (to, n) → IsOwn way s kinds to n ⊎ IsVector s kinds to n
own_or way (site.Group f o x) kinds to n e = cc
own_or way (site.Moved m x) kinds to n e = cc
own_or way (site.Entry i x) kinds to n e = cc
own_or way (site.Constant (constant.Value v)) kinds to n e = inr (by_vector (option_and_then vector_in (carried_at (site.Constant (constant.Value v)) kinds)) to n e)
own_or way (site.Constant constant.Position) [] to n e = inl (own_there way to n e)
own_or way (site.Constant constant.Position) (k ∷ kinds) to n e = cc
own_or way (site.Constant constant.NoGeometry) kinds to n e = cc

module _ (t : Tree) (r : Read) (w : Walk) (ends : EndsAt t r (Some w)) where
  pub truth_carried : (b : Bool) (n : ℕ) → option_and_then truth_in (carried_by w) ≡ Some (b, n) → Carries t r (truth b) n
  truth_carried b n e = carries t r w ends (truth b) n (truth_there (carried_by w) b n e)

  pub truth_only : (b : Bool) (n : ℕ) → Carries t r (truth b) n → option_and_then truth_in (carried_by w) ≡ Some (b, n)
  truth_only b n c = ap (option_and_then truth_in) (carries_only t r w ends (truth b) n c)

  pub vector_carried : (v : V3) (n : ℕ) → option_and_then vector_in (carried_by w) ≡ Some (v, n) → Carries t r (vector v) n
  vector_carried v n e = carries t r w ends (vector v) n (vector_there (carried_by w) v n e)

  pub vector_only : (v : V3) (n : ℕ) → Carries t r (vector v) n → option_and_then vector_in (carried_by w) ≡ Some (v, n)
  vector_only v n c = ap (option_and_then vector_in) (carries_only t r w ends (vector v) n c)

  pub position_only : (to : Option V3) (n : ℕ) → MovesTo t r to n → position_by w ≡ Some (to, n)
  position_only None n (from, count) =
      let there = ends_only t r w ends (plain_read (at_constant (a_leaf its_position))) from in
      own_here (way_of w.frames.items) w.site (kinds_of w) (ap (λ q. q.from) there) (ap (λ q. q.through) there) ∙ (λ i. Some (None, sym count i))
  position_only (Some p) n c = by_constant w.site (kinds_of w) p n (vector_only p n c)

  pub position_carried : (to : Option V3) (n : ℕ) → position_by w ≡ Some (to, n) → MovesTo t r to n
  position_carried to n e = by_case (own_or (way_of w.frames.items) w.site (kinds_of w) to n e)
    where
      by_case : IsOwn (way_of w.frames.items) w.site (kinds_of w) to n ⊎ IsVector w.site (kinds_of w) to n → MovesTo t r to n
      by_case (inl own) =
          let from : IsReadFrom t r (plain_read (at_constant (a_leaf its_position))) = subst (IsReadFrom t r) (λ i. record { from = own.from i; through = own.plain i }) (ends_from t r w ends) in
          subst (λ o. MovesTo t r o n) (sym own.own) (from, own.count)
      by_case (inr (p, same, there)) = subst (λ o. MovesTo t r o n) (sym same) (vector_carried p n there)

pub both_ways : {A : Type 0} {o : Option A} {x : A} → o ≡ None → o ≡ Some x → ⊥
both_ways e f = let bad = sym e ∙ f in cc

-- ---- the constants of a run

same_pair : {A : Type 0} (p : A × ℕ) (a : A) (n : ℕ) (o : Option (A × ℕ)) → o ≡ Some p → o ≡ Some (a, n) → p ≡ (a, n)
same_pair p a n o e f = some_same (sym e ∙ f)

module _ (t : Tree) (run : Run) (s p o : Walk) (selection : EndsAt t (read_at run.reads 1) (Some s)) (position : EndsAt t (read_at run.reads 2) (Some p)) (offset : EndsAt t (read_at run.reads 3) (Some o)) where
  pub constants_are : (x : Bool × ℕ) (y : Option V3 × ℕ) (z : V3 × ℕ) → option_and_then truth_in (carried_by s) ≡ Some x → position_by p ≡ Some y → option_and_then vector_in (carried_by o) ≡ Some z
      → (found : Option CodePlan) → Limits x y z found → ConstantsAre t run found
  constants_are x y z first second third None many = λ selected to by has.
      let same_x = same_pair x selected has.selections (option_and_then truth_in (carried_by s)) first (truth_only t (read_at run.reads 1) s selection selected has.selections has.selection) in
      let same_y = same_pair y to has.positions (position_by p) second (position_only t (read_at run.reads 2) p position to has.positions has.position) in
      let same_z = same_pair z by has.offsets (option_and_then vector_in (carried_by o)) third (vector_only t (read_at run.reads 3) o offset by has.offsets has.offset) in
      many (subst (λ n. n ≤ conversion_limit) (λ i. (sym same_x i).1 + (sym same_y i).1 + (sym same_z i).1) has.few)
  constants_are x y z first second third (Some plan) (same, few) = (
    x.0,
    y.0,
    z.0,
    same,
    record {
      selections = x.1;
      positions = y.1;
      offsets = z.1;
      selection = truth_carried t (read_at run.reads 1) s selection x.0 x.1 first;
      position = position_carried t (read_at run.reads 2) p position y.0 y.1 second;
      offset = vector_carried t (read_at run.reads 3) o offset z.0 z.1 third;
      few = few;
    },
  )
