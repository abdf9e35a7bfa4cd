-- The machine values of a raw box, and of pairs. Assumes `Logic`.
use Rattle.gn_block.proofs.Names.{◌≡◌, ◌&&◌, T, true, List, [], ◌∷◌, ◌++◌, refl, ◌∙◌, lit<, Ura, ty_ptr, tnil, dnil, Val, vstruct, vcons, vnil, of_list, has_ty, WT, Fml, fsep, fex, feq, Logic, ‵, ◌$◌, move, drop, fsplit, fjoin, fjoin3, fpick, fpack, feq_i, feq_l, RattleType, Valss, owns, Ptr, block_ptr, null_ptr, ptr_val, nothing, layout, Laws, RawPtr}
use mir.Syntax.{impl}
use types.Kit.{Item, Goal, Seq, Step, step}
use Rattle.core.specs.declared.alloc.Allocator.{Ghosts}
use Rattle.core.proofs.alloc.Calls.{Al, handle_tells}
use Rattle.core.proofs.cell.Inside.{Good}
use Rattle.std_alloc.proofs.ResultValues.{and_tt}

abbrev pub both : Val → Val → Val
both v w = vstruct (vcons v (vcons w vnil))

-- two rows' fields, side by side in a struct of any name
abbrev pub Fields : (P Q : RattleType) → P.Denot → Q.Denot → List Val → Fml
Fields P Q x y vs = fex (Valss (P ∷ Q ∷ [])) (λ vss. fsep (feq (List Val) vs (vstruct (of_list (vss.0 ++ (vss.1.0 ++ []))) ∷ [])) (owns (P ∷ Q ∷ []) (x, (y, tt)) vss))

-- a row with its laws, as the steps on an allocator's handle take one
abbrev pub lawful_row : (Z : RattleType) → Laws Z → Ghosts Z.Denot → Al
lawful_row Z L g = record { row = Z; laws = L; g = g; d = impl [] tnil dnil; drops = impl [] tnil dnil }

pub ptr_fits : (p : Ptr) → Good ty_ptr (ptr_val p)
ptr_fits (block_ptr b o) = (tt, tt)
ptr_fits null_ptr = (tt, record { fits = lit< tt })

-- a pointer beside a value that fits, wherever the pointer leads
pub both_fit : (Z : RattleType) (p : Ptr) (h : Val) → Good (layout Z) h → T (has_ty ty_ptr (ptr_val p) && (has_ty (layout Z) h && true)) × WT (both (ptr_val p) h)
both_fit Z (block_ptr b o) h fits = (and_tt (has_ty (layout Z) h) fits.0, (tt, (fits.1, tt)))
both_fit Z null_ptr h fits = (and_tt (has_ty (layout Z) h) fits.0, (record { fits = lit< tt }, (fits.1, tt)))

module _ {M : Type 1} {𝓤 : Ura M} {𝓛 : Logic 𝓤} {K : Type 0} {Γ : List (Item 𝓤)} {G : Goal 𝓤 𝓛.H} where
  pub fields_in : K → (P Q : RattleType) (x : P.Denot) (y : Q.Denot) (v w : Val) → Step K 𝓛 (‵ (Fields P Q x y (both v w ∷ [])) ∷ Γ) G (‵ (P.own_val x (v ∷ [])) ∷ ‵ (Q.own_val y (w ∷ [])) ∷ Γ) G
  fields_in t P Q x y v w = step (λ s. nothing t $ move t (1 ∷ 2 ∷ 0 ∷ []) $ fjoin3 t $ feq_i t (List Val) (both v w ∷ []) (both v w ∷ []) refl $ fjoin t $
      fpack t (Valss (P ∷ Q ∷ [])) (λ vss. fsep (feq (List Val) (both v w ∷ []) (vstruct (of_list (vss.0 ++ (vss.1.0 ++ []))) ∷ [])) (owns (P ∷ Q ∷ []) (x, (y, tt)) vss)) (v ∷ [], (w ∷ [], tt)) $ s)

  -- a pointer and a handle, as the words of both
  pub fields_out : K → (Z : RattleType) (L : Laws Z) (g : Ghosts Z.Denot) (p : Ptr) (a : Z.Denot) (vs : List Val)
      → ((h : Val) → vs ≡ both (ptr_val p) h ∷ [] → Good (layout Z) h → Seq K 𝓛 (‵ (Z.own_val a (h ∷ [])) ∷ Γ) G) → Seq K 𝓛 (‵ (Fields RawPtr Z p a vs) ∷ Γ) G
  fields_out t Z L g p a vs k =
      fpick t (λ vss. fsplit t $ feq_l t (λ es. fsplit t $ feq_l t (λ ep. fsplit t $ handle_tells (lawful_row Z L g) t a vss.1.0 (λ h eh fits. move t (1 ∷ []) $ drop t $
      k h (es ∙ (λ j. vstruct (of_list (ep j ++ (eh j ++ []))) ∷ [])) fits))))
