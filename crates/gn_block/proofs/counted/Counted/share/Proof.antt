-- `share` is one fetch-add, with which the parts are divided.
use Rattle.gn_block.proofs.Names.{◌≡◌, ℕ, ◌+◌, ◌-◌, ◌<◌, List, [], ◌∷◌, ◌++◌, refl, ap, lit<, w64, arith, a_type, Val, vint, vptr, vstruct, vcons, vnil, of_list, inst_fn, SProp, emp, via, guard_i, Lft, Fml, ftrue, fsep, feq, finv, sem, ‵, raw, ◌⊛◌, given, mean, at_ret, ◌$◌, ◌∵◌, !, qed, by, move, keep, drop, split, join, fsplit, fsplit3, fjoin, fjoin3, fpick, fpack, learn, use0, use1, use2, rewrite, feq_i, stop, fld, addr, lit, of_opd, no_more, and_then, first, blocks, exec, Calls-last, returns, enter, alloc_all, pass_all, free_all, look_at, get, get_in, through, sets, lands_last, is, env, agg, sub, entire, tables, fact, fact_i, fact_use, yes, no, RattleType, Valss, owns, types_at, plain, Ptr, InBlock, block_ptr, ptr_val, block_of, count_of, at_block, nothing, heard, contraction, param, layouts, param_laws, u64, uint_vals, uint_Tells, alive, Stays, stay_dropped, walk_of, Goes-dropped, tail, proved, leaves, fm, seq_cst, found, finds, adds, IsPart, Round, after_add, offset, lent, common, seen, handle, handle_owns, whole}
use Rattle.gn_block.proofs.Fields.{val_of, typed, Words, told, made, owns_placed}
use Rattle.gn_block.proofs.Steps.{adds_one}
use Rattle.gn_block.specs.contracts.counted.Counted as C
use Rattle.gn_block.specs.contracts.counted.Counted.share.{ended, clauses}
use Rattle.gn_block.specs.contracts.counted.Counted.share.Key.{name as #self}
use Rattle.gn_block.proofs.counted.Counted.share.Statement.{statement}
use Rattle.gn_block.proofs.counted.Counted.share.Code as code

pub share_spec : {M : Type 1} → statement M
share_spec 𝓤 𝓛 𝓜 𝓡 wired X L =
    let H = 𝓛.H in let 𝓣 = tables 𝓤 H 𝓜 𝓡 𝓡.env in let R : RattleType = param 0 X in let En = ended X in let c = clauses X 𝓛 𝓜.mem 𝓡.returns in
    let inst = layouts (a_type ∷ []) (X, tt) in let fn = inst_fn inst code.function in let closed = code.unfolded 𝓤 H 𝓜 𝓡 wired (X, tt) in let Row : RattleType = C.the_row R in let LR = param_laws 0 X L in
    let self = plain (λ _. Row) in let number = plain (λ _. u64) in let hs : Stays En.signature.params En.kept = (stay_dropped self no, (stay_dropped number yes, tt)) in
    proved 𝓛 En hs c 𝓜 𝓡 (Goes-dropped 𝓛 1 self no (λ κs x f. refl), (Goes-dropped 𝓛 1 number yes (λ κs x f. refl), tt)) (#self inst) fn closed
    (λ κs. ((λ x. val_of x.at ∷ []), (uint_vals w64, tt))) (λ κs. ((λ x vs so. told R x.at vs so.0), (uint_Tells w64, tt))) (λ κs qs bounds a gh are.
    let h : Row.Denot = a.0 in let k : ℕ = a.1.0 in let p : Ptr = h.at in let b : ℕ = block_of p in let o : ℕ = count_of p in let x : X.Denot = h.value in let limit : ℕ = h.limit in let parts : ℕ = h.parts in let δ : ℕ = h.block in
    let W : Ptr → ℕ → X.Denot → Fml = whole R in let Wb = W (block_ptr b o) in let us : List Val = val_of p ∷ vint w64 k ∷ [] in let Toks : SProp 𝓤 = alive 𝓛 En.signature κs qs in let Asked : Type 0 = (0 < k) × (k < parts) in
    let y : (walk_of 𝓛 En hs c).Ghost = ((κs, qs, bounds, a, (val_of p ∷ [], (vint w64 k ∷ [], tt))), gh) in let Post : Val → SProp 𝓤 = (walk_of 𝓛 En hs c).post y in
    qed 𝓛 ((raw Toks ⊛ ‵ (owns (types_at En.signature.params κs) a y.0.4)) ∷ raw (fact 𝓤 _) ∷ raw (fact 𝓤 Asked) ∷ []) ∵
    keep ! (2 ∷ 0 ∷ []) $ heard ! Asked (λ asked. split ! $ move ! (1 ∷ []) $ fsplit ! $ fsplit ! $ keep ! (1 ∷ 3 ∷ []) $
    use1 𝓛 (given (InBlock p) (‵ (handle_owns R W p x limit parts δ))) (fact_use 𝓤 _ (owns_placed R 𝓛 W p x limit parts δ) (guard_i 𝓤 (InBlock p) (sem 𝓛 (handle_owns R W p x limit parts δ)))) $ learn ! (λ inb. let at : p ≡ block_ptr b o = at_block p inb in
    rewrite ! 0 (λ (z : Ptr). ‵ (handle_owns R W z x limit parts δ)) at refl $
    enter ! 𝓣.C 𝓣.Λ fn us Post $ alloc_all ! (λ l. pass_all ! refl (typed p, ((tt, record { fits = are.1.0.1 }), tt)) $ let Ev = env fn.locals l in
    fsplit ! $ fpick ! (λ part. drop ! $ fpick ! (λ t. fsplit3 ! $ let I : Fml = common R Wb b o x limit δ t in let s : Lft → Fml = seen R Wb b o x limit δ in let P : Fml = lent R Wb b o x in let after : ℕ → Fml = after_add P b (o + 0) limit δ t parts k in
    use1 𝓛 (‵ (finv I) ⊛ ‵ (finv I)) (𝓛.invs.inv_dup I) $ split ! $ use1 𝓛 (‵ (finv I) ⊛ ‵ (finv I)) (𝓛.invs.inv_dup I) $ split ! $
    move ! (3 ∷ []) $ use1 𝓛 (‵ (s (t.0 ∷ [])) ⊛ ‵ (s (t.0 ∷ []))) (contraction 𝓛 s (LR.shr_laws x b (o + offset R)) (t.0 ∷ [])) $ split ! $
    -- [seen; seen; inv; inv; inv; held; tokens]
    sets ! (is ! (of_opd ! (get_in ! (fld ! refl (stop !)) (sub ! 0 refl (entire !)))) (ap ptr_val at)) refl (tt, tt) $ first ! $ blocks ! $ sets ! (addr ! (through ! refl (fld ! refl (stop !)))) refl (tt, tt) $
    move ! (4 ∷ 5 ∷ []) $ use2 𝓛 (raw (𝓣.C _ (vptr b (o + 0) ∷ vint w64 1 ∷ seq_cst ∷ []) (λ r. mean 𝓛 (found after r))))
    (via 𝓤 _ (adds_one 𝓛 P b (o + 0) limit δ t part.2 parts part.0 k asked.0 asked.1) (adds 𝓛 𝓜 𝓡 (code.calls-core::raw_atomic::fetch_add 𝓡.env wired) (block_ptr b (o + 0)) 1 (lit< tt) after)) $
    sets ! (agg ! (and_then ! (lit ! tt) (no_more !))) refl (tt, (record { fits = lit< tt }, tt)) $
    Calls-last ! (fm 𝓛 𝓜 𝓡) (found after) (and_then ! (get ! refl) (and_then ! (lit ! tt) (and_then ! (get ! refl) (no_more !)))) (λ r. finds ! after (λ n fits.
    lands_last ! refl (tt, record { fits = fits }) $ exec ! 𝓣.C 𝓣.Λ Ev (tail (tail fn.body)) (at_ret Ev Post) $
    sets ! (of_opd ! (get ! refl)) refl (tt, record { fits = fits }) $ sets ! (agg ! (and_then ! (get ! refl) (no_more !))) refl (tt, (tt, tt)) $ sets ! (agg ! (and_then ! (get ! refl) (no_more !))) refl (tt, (tt, tt)) $
    sets ! (agg ! (and_then ! (get ! refl) (and_then ! (get ! refl) (no_more !)))) refl (tt, ((tt, tt), ((tt, tt), tt))) $
    let p' : Ptr = block_ptr b o in let v : Val = val_of p' in let r : Val = vstruct (vcons v (vcons v vnil)) in
    let one : Row.Denot = record { at = p'; value = x; limit = limit; parts = parts - k; block = δ } in let two : Row.Denot = record { at = p'; value = x; limit = limit; parts = k; block = δ } in
    -- [what the step gave; seen; seen; inv; inv; tokens]
    fsplit ! $ move ! (4 ∷ 2 ∷ 0 ∷ []) $ fjoin3 ! $ fpack ! Round (handle R Wb b o x limit δ (parts - k)) t $ nothing ! $ fpack ! (IsPart limit (parts - k)) (λ _. ftrue) (let e = part.1 in let f = asked.1 in omega (arith, f), let e = part.1 in omega (arith, e), part.2) $ fjoin ! $
    use0 𝓛 (‵ ((Words R).own_val (p', tt) (v ∷ []))) (made R 𝓛 p') $ fjoin ! $
    move ! (3 ∷ 2 ∷ 1 ∷ []) $ fjoin3 ! $ fpack ! Round (handle R Wb b o x limit δ k) t $ nothing ! $ fpack ! (IsPart limit k) (λ _. ftrue) (asked.0, let e = part.1 in let f = asked.1 in omega (arith, e, f), part.2) $ fjoin ! $
    use0 𝓛 (‵ ((Words R).own_val (p', tt) (v ∷ []))) (made R 𝓛 p') $ fjoin ! $
    nothing ! $ move ! (2 ∷ 1 ∷ 0 ∷ []) $ fjoin3 ! $ feq_i ! (List Val) (r ∷ []) (r ∷ []) refl $ fjoin ! $
    fpack ! (Valss (Row ∷ Row ∷ [])) (λ uss. fsep (feq (List Val) (r ∷ []) (vstruct (of_list (uss.0 ++ (uss.1.0 ++ []))) ∷ [])) (owns (Row ∷ Row ∷ []) (one, (two, tt)) uss)) (v ∷ [], (v ∷ [], tt)) $
    let First : Type 0 = (x ≡ x) × (δ ≡ δ) × (limit ≡ limit) × (parts - k ≡ parts - k) in let Second : Type 0 = (x ≡ x) × (δ ≡ δ) × (limit ≡ limit) × (k ≡ k) in
    use0 𝓛 (raw (fact 𝓤 Second)) (fact_i 𝓤 Second (emp 𝓤) (refl, refl, refl, refl)) $ use0 𝓛 (raw (fact 𝓤 First)) (fact_i 𝓤 First (emp 𝓤) (refl, refl, refl, refl)) $ join ! $
    nothing ! $ nothing ! $ fjoin ! $ nothing ! $ fjoin ! $
    returns ! (look_at ! 0 refl) $ free_all ! refl $ keep ! (3 ∷ 0 ∷ 2 ∷ 1 ∷ []) $ by ! (leaves 𝓛 En hs c y r (one, two) (tt, (tt, tt)) (tt, (tt, tt)))))))))))
