-- A name that is owned stands beside no other.
use Rattle.gn_block.proofs.Names.{◌≡◌, ◌≢◌, ℕ, List, [], ◌∷◌, sym, refl, named, Val, vptr, SProp, emp, Lft, Fml, ftrue, flft, fhide, ‵, raw, ◌⊛◌, given, ◌$◌, ◌∵◌, !, qed, by, move, keep, split, join, fsplit, fjoin, fpick, learn, use0, use1, use2, rewrite, of_opd, returns, enter, alloc_all, pass_all, free_all, look_at, get, sets, env, tables, fact, fact_i, yes, RattleType, owns, types_at, plain, nothing, unhide, hidden_shr, RefOf, shr_vals, shr_Tells, Stays, stay_dropped, walk_of, Goes-dropped, proved, leaves}
use mathlib.Core.Logic.{dite}
use native.Mathlib.Decide.{ℕ_discrete}
use types.Tokens.{shr_bor-open}
use denote.Sharing.{one}
use denote.Struct.Lending.{lent_out}
use Rattle.counted_slot.specs.Counting.{tag}
use Rattle.gn_block.specs.Names.{name_shares}
use Rattle.gn_block.proofs.Naming.{Row as N, name_val, name_in, name_out, none_beside, halves, Fields}
use Rattle.gn_block.specs.contracts.name.Name as C
use Rattle.gn_block.specs.contracts.name.Name.beside.{ended, clauses}
use Rattle.gn_block.specs.contracts.name.Name.beside.Key.{name as #self}
use Rattle.gn_block.proofs.name.Name.beside.Statement.{statement}
use Rattle.gn_block.proofs.name.Name.beside.Code as code

pub beside_spec : {M : Type 1} → statement M
beside_spec 𝓤 𝓛 𝓜 𝓡 wired =
    let H = 𝓛.H in let 𝓣 = tables 𝓤 H 𝓜 𝓡 𝓡.env in let En = ended in let c = clauses 𝓛 𝓜.mem 𝓡.returns in
    let fn = code.function in let Row : RattleType = C.the_row in
    let self = plain (λ _. N) in let other = RefOf (0 ∷ []) tt (plain (λ _. Row)) (λ _. tt) in let hs : Stays En.signature.params En.kept = (stay_dropped self yes, (stay_dropped other yes, tt)) in
    proved 𝓛 En hs c 𝓜 𝓡 (Goes-dropped 𝓛 1 self yes (λ κs x f. refl), (Goes-dropped 𝓛 1 other yes (λ κs x f. refl), tt)) #self fn (code.unfolded 𝓤 H 𝓜 𝓡 wired)
    (λ κs. ((λ x. name_val ∷ []), (shr_vals, tt))) (λ κs. ((λ x vs so. so.0.1.0), (shr_Tells (named 0) κs.0 Row, tt))) (λ κs qs bounds a gh are.
    let v : N.Denot = a.0 in let δ : ℕ = v.block in let h : Row.Denot = a.1.0.now in let other_name : ℕ = h.block in let b : ℕ = a.1.0.ref_ptr.0 in let o : ℕ = a.1.0.ref_ptr.1 in let κ : Lft = κs.0 in
    let rest : Fml = ftrue in let us : List Val = name_val ∷ vptr b o ∷ [] in
    let y : (walk_of 𝓛 En hs c).Ghost = ((κs, qs, bounds, a, (name_val ∷ [], (vptr b o ∷ [], tt))), gh) in let Post : Val → SProp 𝓤 = (walk_of 𝓛 En hs c).post y in
    qed 𝓛 (((‵ (flft κ qs.0) ⊛ ‵ rest) ⊛ ‵ (owns (types_at En.signature.params κs) a y.0.4)) ∷ ‵ ftrue ∷ []) ∵
    keep ! (0 ∷ []) $ split ! $ split ! $ move ! (2 ∷ []) $ fsplit ! $ name_out ! v (name_val ∷ []) (λ _. move ! (1 ∷ []) $ fsplit ! $ fsplit ! $
    -- [the reference's value; what it shows; nothing; the name; tokens]
    keep ! (1 ∷ 3 ∷ 4 ∷ 5 ∷ []) $
    enter ! 𝓣.C 𝓣.Λ fn us Post $ alloc_all ! (λ l. pass_all ! refl ((tt, tt), ((tt, tt), tt)) $ let Ev = env fn.locals l in dite (ℕ_discrete δ other_name)
    (λ same. use1 𝓛 (‵ (hidden_shr Fields κ tt b o) ⊛ ‵ (fhide (name_shares other_name κ))) (lent_out 𝓛 C.struct C.the_codes C.the_heap C.the_lent κ h b o) $
    split ! $ move ! (1 ∷ []) $ unhide ! $
    fpick ! (λ c'. rewrite ! 0 (λ (d : ℕ). ‵ (one (λ q. tag d q c') κ)) (sym same) refl $ move ! (2 ∷ []) $ fpick ! (λ k. move ! (1 ∷ 3 ∷ []) $ shr_bor-open ! tt (halves 𝓛 δ c') (λ q'. move ! (2 ∷ 1 ∷ []) $
    use2 𝓛 (given ⊥ (raw (emp 𝓤))) (none_beside 𝓛 δ k c' q') $ learn ! (λ none. absurd none)))))
    (λ apart. move ! (1 ∷ []) $ name_in ! δ $ move ! (2 ∷ 3 ∷ []) $ join ! $ move ! (1 ∷ []) $
    sets ! (of_opd ! (get ! refl)) refl (tt, tt) $ let Told : Type 0 = (v ≡ v) × (δ ≢ other_name) in
    use0 𝓛 (raw (fact 𝓤 Told)) (fact_i 𝓤 Told (emp 𝓤) (refl, apart)) $ nothing ! $ nothing ! $ fjoin ! $ nothing ! $ fjoin ! $
    returns ! (look_at ! 0 refl) $ free_all ! refl $ keep ! (3 ∷ 0 ∷ 2 ∷ 1 ∷ []) $ by ! (leaves 𝓛 En hs c y name_val v (tt, (tt, tt)) (tt, (tt, tt)))))))
