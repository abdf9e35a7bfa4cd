-- A name that is owned stands beside no handle that shows it.
use Rattle.gn_block.proofs.Names.{◌≡◌, ◌≢◌, ℕ, List, [], ◌∷◌, sym, refl, a_type, named, Val, vptr, inst_fn, SProp, emp, Lft, Fml, ftrue, fsep, flft, fhide, ‵, raw, ◌⊛◌, given, ◌$◌, ◌∵◌, !, qed, by, move, keep, split, join, fsplit, fjoin, fpick, learn, use0, use1, use2, rewrite, of_opd, returns, enter, alloc_all, pass_all, free_all, look_at, get, sets, env, tables, fact, fact_i, yes, RattleType, owns, types_at, plain, Ptr, nothing, unhide, hidden_shr, param, layouts, param_laws, RefOf, shr_vals, shr_Tells, Stays, stay_dropped, walk_of, Goes-dropped, proved, leaves, handle_shares, whole}
use mathlib.Core.Logic.{dite}
use native.Mathlib.Decide.{ℕ_discrete}
use types.Tokens.{shr_bor-open}
use denote.Sharing.{one}
use denote.Struct.Lending.{lent_out}
use Rattle.counted_slot.specs.Counting.{tag}
use Rattle.gn_block.specs.Names.{name_shares}
use Rattle.gn_block.proofs.Naming.{Row as N, name_val, name_in, name_out, none_beside, halves}
use Rattle.gn_block.proofs.Lending.{sees_name}
use Rattle.gn_block.proofs.Fields.{Words}
use Rattle.gn_block.specs.contracts.counted.Counted as C
use Rattle.gn_block.specs.contracts.name.Name.beside_handle.{ended, clauses}
use Rattle.gn_block.specs.contracts.name.Name.beside_handle.Key.{name as #self}
use Rattle.gn_block.proofs.name.Name.beside_handle.Statement.{statement}
use Rattle.gn_block.proofs.name.Name.beside_handle.Code as code

pub beside_handle_spec : {M : Type 1} → statement M
beside_handle_spec 𝓤 𝓛 𝓜 𝓡 wired X L =
    let H = 𝓛.H in let 𝓣 = tables 𝓤 H 𝓜 𝓡 𝓡.env in let R : RattleType = param 0 X in let LR = param_laws 0 X L in let En = ended X in let c = clauses X 𝓛 𝓜.mem 𝓡.returns in
    let inst = layouts (a_type ∷ []) (X, tt) in let fn = inst_fn inst code.function in let Row : RattleType = C.the_row R in
    let self = plain (λ _. N) in let other = RefOf (0 ∷ []) tt (plain (λ _. Row)) (λ _. tt) in let hs : Stays En.signature.params En.kept = (stay_dropped self yes, (stay_dropped other yes, tt)) in
    proved 𝓛 En hs c 𝓜 𝓡 (Goes-dropped 𝓛 2 self yes (λ κs x f. refl), (Goes-dropped 𝓛 2 other yes (λ κs x f. refl), tt)) (#self inst) fn (code.unfolded 𝓤 H 𝓜 𝓡 wired (X, tt))
    (λ κs. ((λ x. name_val ∷ []), (shr_vals, tt))) (λ κs. ((λ x vs so. so.0.1.0), (shr_Tells (named 0) κs.0 Row, tt))) (λ κs qs bounds a gh are.
    let v : N.Denot = a.0 in let δ : ℕ = v.block in let h : Row.Denot = a.1.0.now in let other_name : ℕ = h.block in let b : ℕ = a.1.0.ref_ptr.0 in let o : ℕ = a.1.0.ref_ptr.1 in let κ : Lft = κs.0 in let W : Ptr → ℕ → X.Denot → Fml = whole R in
    let rest : Fml = fsep (flft κs.1.0 qs.1.0) ftrue in let us : List Val = name_val ∷ vptr b o ∷ [] in
    let y : (walk_of 𝓛 En hs c).Ghost = ((κs, qs, bounds, a, (name_val ∷ [], (vptr b o ∷ [], tt))), gh) in let Post : Val → SProp 𝓤 = (walk_of 𝓛 En hs c).post y in
    qed 𝓛 (((‵ (flft κ qs.0) ⊛ ‵ rest) ⊛ ‵ (owns (types_at En.signature.params κs) a y.0.4)) ∷ raw (fact 𝓤 _) ∷ ‵ ftrue ∷ []) ∵
    keep ! (0 ∷ []) $ split ! $ split ! $ move ! (2 ∷ []) $ fsplit ! $ name_out ! v (name_val ∷ []) (λ _. move ! (1 ∷ []) $ fsplit ! $ fsplit ! $
    -- [the reference's value; what it shows; nothing; the name; tokens]
    keep ! (1 ∷ 3 ∷ 4 ∷ 5 ∷ []) $
    enter ! 𝓣.C 𝓣.Λ fn us Post $ alloc_all ! (λ l. pass_all ! refl ((tt, tt), ((tt, tt), tt)) $ let Ev = env fn.locals l in dite (ℕ_discrete δ other_name)
    (λ same. use1 𝓛 (‵ (hidden_shr (Words R) κ (h.at, tt) b o) ⊛ ‵ (fhide (handle_shares R W h.at h.value h.limit other_name κ))) (lent_out 𝓛 (C.struct R) (C.the_codes X.Denot R.coded) (C.the_heap R) (C.the_lent R) κ h b o) $
    split ! $ move ! (1 ∷ []) $ unhide ! $ use1 𝓛 (‵ (name_shares other_name κ)) (sees_name 𝓛 R W LR.shr_laws h.at h.value h.limit other_name κ) $
    fpick ! (λ c'. rewrite ! 0 (λ (d : ℕ). ‵ (one (λ q. tag d q c') κ)) (sym same) refl $ move ! (2 ∷ []) $ fpick ! (λ k. move ! (1 ∷ 3 ∷ []) $ shr_bor-open ! tt (halves 𝓛 δ c') (λ q'. move ! (2 ∷ 1 ∷ []) $
    use2 𝓛 (given ⊥ (raw (emp 𝓤))) (none_beside 𝓛 δ k c' q') $ learn ! (λ none. absurd none)))))
    (λ apart. move ! (1 ∷ []) $ name_in ! δ $ move ! (2 ∷ 3 ∷ []) $ join ! $ move ! (1 ∷ []) $
    sets ! (of_opd ! (get ! refl)) refl (tt, tt) $ let Told : Type 0 = (v ≡ v) × (δ ≢ other_name) in
    use0 𝓛 (raw (fact 𝓤 Told)) (fact_i 𝓤 Told (emp 𝓤) (refl, apart)) $ nothing ! $ nothing ! $ fjoin ! $ nothing ! $ fjoin ! $
    returns ! (look_at ! 0 refl) $ free_all ! refl $ keep ! (3 ∷ 0 ∷ 2 ∷ 1 ∷ []) $ by ! (leaves 𝓛 En hs c y name_val v (tt, (tt, tt)) (tt, (tt, tt)))))))
