-- The machine value of a name, and names as ghost state. Assumes `Logic`.
use Rattle.std.proofs.Common.{◌≡◌, ℕ, List, [], ◌∷◌, refl}
use seplogic.Ra.Ura.{Ura}
use mir.Val.{Val, vstruct, vnil}
use mathlib.Mathlib.Data.Part.{◌∈◌}
use seplogic.Ra.Constructions.Prod
use seplogic.Ra.Instances.Ag
use base.Share
use base.Stored.{coded_ℕ}
use base.SetCodes.{coded, SetCoded-set}
use base.Fraction.{full_share}
use ghost.Rules.{Halves}
use base.FractionLaws.{not-OpDef-full_share}
use base.Logic.{ent, sep, emp, ex, via, guard}
use base.Fml.{GName, Share}
use types.Logic.{Logic, sem}
use types.Kit.{Item, Goal, Seq, Step, step, ‵, ◌$◌, ◌∵◌, !, qed, some, later, move, drop, fsplit, fjoin, fpick, fpack, feq_l, use0, pick, updating, await, now, done}
use types.Owned.{basic, own_new, own_glued, own_join}
use denote.RattleType.{RattleType}
use denote.Shadow.{makes_shadow}
use denote.Struct.Struct.{Struct}
use denote.Struct.Owning.{shape}
use Rattle.counted_slot.specs.Counting.{rounds, tag, idle}
use Rattle.gn_block.specs.contracts.name.Name as C

abbrev pub name_val : Val
name_val = vstruct vnil

abbrev pub Row : RattleType
Row = C.the_row

abbrev pub Fields : RattleType
Fields = Struct (shape C.the_type)

made : {M : Type 1} {𝓤 : Ura M} (𝓛 : Logic 𝓤) → ent 𝓤 (emp 𝓤) (sem 𝓛 (Fields.own_val tt (name_val ∷ [])))
made 𝓛 = makes_shadow 𝓛 (Fields.own_val tt (name_val ∷ [])) (λ vss. (tt, tt)) (tt, (refl, tt))

module _ {M : Type 1} {𝓤 : Ura M} {𝓛 : Logic 𝓤} {K : Type 0} {Γ : List (Item 𝓤)} {G : Goal 𝓤 𝓛.H} where
  pub name_in : K → (δ : GName) → Step K 𝓛 (‵ (Row.own_val (record { block = δ }) (name_val ∷ [])) ∷ Γ) G (‵ (idle δ) ∷ Γ) G
  name_in t δ = step (λ s. use0 𝓛 (‵ (Fields.own_val tt (name_val ∷ []))) (made 𝓛) $ fjoin t $ s)

  pub name_out : K → (d : Row.Denot) (vs : List Val) → (vs ≡ name_val ∷ [] → Seq K 𝓛 (‵ (idle d.block) ∷ Γ) G) → Seq K 𝓛 (‵ (Row.own_val d vs) ∷ Γ) G
  name_out t d vs k = fsplit t $ fpick t (λ vss. fsplit t $ feq_l t (λ e. drop t $ k e))

module _ {M : Type 1} {𝓤 : Ura M} (𝓛 : Logic 𝓤) where
  open 𝓛 use {H, A}

  -- a new name
  pub fresh_name : ent 𝓤 (emp 𝓤) (H.⇛ (ex 𝓤 (λ (δ : GName). sem 𝓛 (idle δ))))
  fresh_name = qed 𝓛 [] ∵ updating ! $ use0 𝓛 (later (some (λ (δ : GName). ‵ (tag δ full_share 0)))) (via 𝓤 _ (own_new 𝓛 rounds (full_share, 0)) (basic 𝓛 (ex 𝓤 (λ (δ : GName). sem 𝓛 (tag δ full_share 0))))) $ await ! tt $ pick ! (λ δ.
      fpack ! ℕ (tag δ full_share) 0 $ now ! $ types.Kit.show ! (λ (d : GName). sem 𝓛 (idle d)) δ $ done !)

  -- a name that is owned stands beside no share of it
  pub none_beside : (δ : GName) (c a : ℕ) (q : Share) → ent 𝓤 (sep 𝓤 (sem 𝓛 (tag δ full_share c)) (sem 𝓛 (tag δ q a))) (guard 𝓤 ⊥ (emp 𝓤))
  none_beside δ c a q = own_glued 𝓛 rounds δ (full_share, c) (q, a) (guard 𝓤 ⊥ (emp 𝓤)) (λ x m. absurd (not-OpDef-full_share q m.0.0))

  -- what is owned of a name, in two halves at the same round
  half_and_half : (c : ℕ) (q : Share) → ◌∈◌ {α = Share × ℕ} (q, c) (rounds.op (Share.left q, c) (Share.right q, c))
  half_and_half c q = let same = SetCoded-set (coded coded_ℕ) in
      Prod.mk-mem-op Share.op (Ag.op same) {a = Share.left q} {a' = Share.right q} {x = q} {b = c} {b' = c} {y = c} (Share.halves q) (Ag.idem same c)

  -- a share of a name in two halves, and back
  pub halves : (δ : GName) (c : ℕ) → Halves 𝓤 H A (λ q. tag δ q c)
  halves δ c = record {
    cut = λ q. 𝓛.algebras.own_cut rounds δ (Share.left q, c) (Share.right q, c) (q, c) (half_and_half c q);
    join = λ q. own_join 𝓛 rounds δ (Share.left q, c) (Share.right q, c) (q, c) (half_and_half c q);
  }
