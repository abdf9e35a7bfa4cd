-- The machine values of a handle and of a loose block. Assumes `Logic`.
use Rattle.gn_block.proofs.Names.{◌≡◌, ℕ, T, List, [], ◌∷◌, ◌++◌, refl, ap, ◌∙◌, lit<, Ura, ty_ptr, ty_struct, tcons, tnil, Val, vstruct, vcons, vnil, of_list, has_ty, WT, ent, emp, never_e, fact, fact_i, Logic, sem, RattleType, Is, Ptr, InBlock, block_ptr, null_ptr, ptr_val, Opens, GName, Fml, handle_owns}
use denote.Shadow.{makes_shadow}
use denote.Copied.{Struct-Copied}
use denote.Struct.Laws.{RawPtr-copy}
use denote.Struct.Struct.{Struct}
use denote.Struct.Owning.{shape}
use Rattle.gn_block.specs.contracts.counted.Counted as C
use Rattle.gn_block.specs.contracts.block.Loose as D

abbrev pub val_of : Ptr → Val
val_of p = vstruct (vcons (ptr_val p) vnil)

pub typed : (p : Ptr) → T (has_ty (ty_struct [] (tcons ty_ptr tnil)) (val_of p)) × WT (val_of p)
typed (block_ptr b o) = (tt, (tt, tt))
typed null_ptr = (tt, (record { fits = lit< tt }, tt))

module _ (R : RattleType) where
  abbrev pub Words : RattleType
  Words = Struct (shape (C.the_type R))

  pub told : (p : Ptr) (vs : List Val) → Is Words (p, tt) vs → vs ≡ val_of p ∷ []
  told p vs is = is.1.0 ∙ ap (λ (ws : List Val). vstruct (of_list (ws ++ [])) ∷ []) is.1.1.0

  pub made : {M : Type 1} {𝓤 : Ura M} (𝓛 : Logic 𝓤) (p : Ptr) → ent 𝓤 (emp 𝓤) (sem 𝓛 (Words.own_val (p, tt) (val_of p ∷ [])))
  made 𝓛 p = makes_shadow 𝓛 (Words.own_val (p, tt) (val_of p ∷ [])) (λ vss. (tt, (tt, tt))) ((ptr_val p ∷ [], tt), (refl, (refl, tt)))

  pub opened : {M : Type 1} {𝓤 : Ura M} (𝓛 : Logic 𝓤) → Opens 𝓛 Words
  opened {M} {𝓤 = 𝓤} 𝓛 = (Struct-Copied 𝓛 (shape (C.the_type R)) (refl, tt) (RawPtr-copy.copied M 𝓤 𝓛, tt)).opens

  pub owns_placed : {M : Type 1} {𝓤 : Ura M} (𝓛 : Logic 𝓤) (whole : Ptr → ℕ → R.Denot → Fml) (p : Ptr) (x : R.Denot) (limit k : ℕ) (δ : GName) → ent 𝓤 (sem 𝓛 (handle_owns R whole p x limit k δ)) (fact 𝓤 (InBlock p))
  owns_placed {𝓤 = 𝓤} 𝓛 whole (block_ptr b o) x limit k δ = fact_i 𝓤 (Unit {0}) _ tt
  owns_placed {𝓤 = 𝓤} 𝓛 whole null_ptr x limit k δ = never_e 𝓤 _

  abbrev pub LooseWords : RattleType
  LooseWords = Struct (shape (D.the_type R))

  pub loose_told : (p : Ptr) (vs : List Val) → Is LooseWords (p, tt) vs → vs ≡ val_of p ∷ []
  loose_told p vs is = is.1.0 ∙ ap (λ (ws : List Val). vstruct (of_list (ws ++ [])) ∷ []) is.1.1.0

  pub loose_made : {M : Type 1} {𝓤 : Ura M} (𝓛 : Logic 𝓤) (p : Ptr) → ent 𝓤 (emp 𝓤) (sem 𝓛 (LooseWords.own_val (p, tt) (val_of p ∷ [])))
  loose_made 𝓛 p = makes_shadow 𝓛 (LooseWords.own_val (p, tt) (val_of p ∷ [])) (λ vss. (tt, (tt, tt))) ((ptr_val p ∷ [], tt), (refl, (refl, tt)))
