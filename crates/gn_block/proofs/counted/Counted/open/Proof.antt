-- `open` lends all but the word, and makes the first handle.
use Rattle.gn_block.proofs.Names.{◌≡◌, ℕ, ◌+◌, ◌^◌, ◌<◌, ◌≤◌, List, [], ◌∷◌, refl, ap, w64, arith, a_type, Val, vint, inst_fn, SProp, emp, guard_i, Lft, Share, Fml, ftrue, fex, flft, sem, ‵, raw, ◌⊛◌, given, later, ◌$◌, ◌∵◌, !, qed, by, move, keep, split, join, fsplit, fjoin, fpack, learn, use0, use1, group, await, rewrite, stop, fld, of_opd, no_more, and_then, returns, enter, alloc_all, pass_all, free_all, look_at, get, get_in, sets, is, env, agg, sub, entire, tables, fact, fact_i, fact_use, ◌⊑◌, yes, no, RattleType, owns, types_at, plain, Ptr, InBlock, block_ptr, ptr_val, block_of, count_of, at_block, nothing, heard, param, layout, layouts, param_laws, u64, uint_vals, uint_Tells, Stays, stay_dropped, walk_of, Goes-dropped, proved, leaves, word, IsPart, Round, lent, handle, whole}
use Rattle.gn_block.proofs.Halves.{loose_placed, halves}
use Rattle.gn_block.proofs.Opening.{opens_up}
use Rattle.gn_block.proofs.Fields.{val_of, typed, Words, made, loose_told}
use denote.Struct.Members.{Member}
use Rattle.gn_block.specs.Whole.{loose_owns}
use Rattle.gn_block.specs.contracts.counted.Counted as C
use Rattle.gn_block.specs.contracts.block.Loose as D
use Rattle.gn_block.specs.contracts.counted.Counted.open.{ended, clauses}
use Rattle.gn_block.specs.contracts.counted.Counted.open.Key.{name as #self}
use Rattle.gn_block.proofs.counted.Counted.open.Statement.{statement}
use Rattle.gn_block.proofs.counted.Counted.open.Code as code

pub open_spec : {M : Type 1} → statement M
open_spec 𝓤 𝓛 𝓜 𝓡 wired X L =
    let H = 𝓛.H in let 𝓣 = tables 𝓤 H 𝓜 𝓡 𝓡.env in let R : RattleType = param 0 X in let En = ended X in let c = clauses X 𝓛 𝓜.mem 𝓡.returns in
    let inst = layouts (a_type ∷ []) (X, tt) in let fn = inst_fn inst code.function in let closed = code.unfolded 𝓤 H 𝓜 𝓡 wired (X, tt) in let Row : RattleType = C.the_row R in let Free : RattleType = D.the_row R in let LR = param_laws 0 X L in let m : Member = record { row = R; ty = layout X } in
    let self = plain (λ _. Free) in let number = plain (λ _. u64) in let hs : Stays En.signature.params En.kept = (stay_dropped self no, (stay_dropped number yes, tt)) in
    proved 𝓛 En hs c 𝓜 𝓡 (Goes-dropped 𝓛 1 self no (λ κs x f. refl), (Goes-dropped 𝓛 1 number yes (λ κs x f. refl), tt)) (#self inst) fn closed
    (λ κs. ((λ x. val_of x.at ∷ []), (uint_vals w64, tt))) (λ κs. ((λ x vs so. loose_told R x.at vs so.0), (uint_Tells w64, tt))) (λ κs qs bounds a gh are.
    let s : Free.Denot = a.0 in let limit : ℕ = a.1.0 in let p : Ptr = s.at in let b : ℕ = block_of p in let o : ℕ = count_of p in let x : X.Denot = s.value in let δ : ℕ = s.block in let μ : Lft = κs.0 in let q : Share = qs.0 in
    let Wb : ℕ → X.Denot → Fml = whole R (block_ptr b o) in let us : List Val = val_of p ∷ vint w64 limit ∷ [] in let Asked : Type 0 = (s.users ≡ 1) × (0 < limit) × (limit ≤ 2 ^ 62) in
    let y : (walk_of 𝓛 En hs c).Ghost = ((κs, qs, bounds, a, (val_of p ∷ [], (vint w64 limit ∷ [], tt))), gh) in let Post : Val → SProp 𝓤 = (walk_of 𝓛 En hs c).post y in
    qed 𝓛 (((‵ (flft μ q) ⊛ ‵ ftrue) ⊛ ‵ (owns (types_at En.signature.params κs) a y.0.4)) ∷ raw (fact 𝓤 (μ ⊑ X.lives)) ∷ raw (fact 𝓤 Asked) ∷ []) ∵
    move ! (1 ∷ 2 ∷ []) $ heard ! (μ ⊑ X.lives) (λ le. heard ! Asked (λ asked. split ! $ split ! $ move ! (2 ∷ []) $ fsplit ! $ fsplit ! $ keep ! (1 ∷ 3 ∷ 4 ∷ []) $
    use1 𝓛 (given (InBlock p) (‵ (loose_owns R p s.users x δ))) (fact_use 𝓤 _ (loose_placed 𝓛 R p s.users x δ) (guard_i 𝓤 (InBlock p) (sem 𝓛 (loose_owns R p s.users x δ)))) $ learn ! (λ inb. let at : p ≡ block_ptr b o = at_block p inb in
    rewrite ! 0 (λ (z : Ptr × ℕ). ‵ (loose_owns R z.0 z.1 x δ)) (λ i. (at i, asked.0 i)) refl $
    enter ! 𝓣.C 𝓣.Λ fn us Post $ alloc_all ! (λ l. pass_all ! refl (typed p, ((tt, record { fits = are.1.0.1 }), tt)) $ let Ev = env fn.locals l in
    fsplit ! $ use1 𝓛 (‵ (word b (o + 0) 1) ⊛ ‵ (lent R Wb b o x)) (halves 𝓛 m (LR.lawful 𝓛) b o 1 x) $ split ! $ move ! (0 ∷ 1 ∷ 2 ∷ 3 ∷ []) $ group ! 4 $
    use1 𝓛 (later (‵ (fex Round (handle R Wb b o x limit δ limit)) ⊛ ‵ (flft μ q))) (opens_up 𝓛 R Wb b o x limit δ asked.1 asked.2 X.lives (LR.shares 𝓛) μ q le) $ await ! tt $ split ! $
    sets ! (is ! (of_opd ! (get_in ! (fld ! refl (stop !)) (sub ! 0 refl (entire !)))) (ap ptr_val at)) refl (tt, tt) $ sets ! (agg ! (and_then ! (get ! refl) (no_more !))) refl (tt, (tt, tt)) $
    let p' : Ptr = block_ptr b o in let v : Val = val_of p' in let one : Row.Denot = record { at = p'; value = x; limit = limit; parts = limit; block = δ } in
    nothing ! $ fpack ! (IsPart limit limit) (λ _. ftrue) (asked.1, omega arith, asked.2) $ fjoin ! $ use0 𝓛 (‵ ((Words R).own_val (p', tt) (v ∷ []))) (made R 𝓛 p') $ fjoin ! $
    move ! (1 ∷ 2 ∷ []) $ join ! $ move ! (1 ∷ []) $
    let Told : Type 0 = (x ≡ x) × (δ ≡ δ) × (limit ≡ limit) × (limit ≡ limit) in
    use0 𝓛 (raw (fact 𝓤 Told)) (fact_i 𝓤 Told (emp 𝓤) (refl, refl, refl, refl)) $ nothing ! $ nothing ! $ fjoin ! $ nothing ! $ fjoin ! $
    returns ! (look_at ! 0 refl) $ free_all ! refl $ keep ! (3 ∷ 0 ∷ 2 ∷ 1 ∷ []) $ by ! (leaves 𝓛 En hs c y v one (tt, (tt, tt)) (tt, (tt, tt))))))))
