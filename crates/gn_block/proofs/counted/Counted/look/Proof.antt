-- `look` is one load, and a handle that finds 1 gets the block.
use Rattle.gn_block.proofs.Names.{◌≡◌, ℕ, ◌+◌, ◌^◌, ◌≤◌, List, [], ◌∷◌, ◌++◌, sym, refl, ap, lit<, w64, arith, a_type, Val, vint, vptr, vstruct, vcons, vnil, of_list, inst_fn, SProp, emp, via, guard_i, all_e, Lft, Fml, ftrue, fsep, feq, finv, sem, ‵, raw, ◌⊛◌, given, later, mean, at_ret, ◌$◌, ◌∵◌, !, qed, by, move, keep, drop, split, fsplit, fsplit3, fjoin, fjoin3, fpick, fpack, learn, use0, use1, use2, await, rewrite, feq_i, flt_i, stop, fld, addr, lit, of_opd, bin, no_more, and_then, first, blocks, branches, skips, exec, Calls-last, returns, returns_within, enter, alloc_all, pass_all, free_all, look_at, get, get_in, through, sets, lands_last, is, env, agg, sub, entire, live, tables, fact, fact_i, fact_use, no, RattleType, Valss, owns, types_at, plain, Ptr, InBlock, block_ptr, ptr_val, block_of, count_of, at_block, nothing, param, layouts, u64, alive, Stays, stay_dropped, walk_of, Goes-dropped, tail, proved, leaves, fm, seq_cst, found, finds, loads, IsPart, Round, held, all_of_it, after_look, lent, common, seen, handle, handle_owns, whole}
use Rattle.core.specs.contracts.result.Result as RS
use Rattle.core.specs.declared.result.Result.TheVariants.{Ok, Err}
use denote.Struct.Tuple.{Tuple}
use Rattle.std_alloc.proofs.ResultValues.{ok_of, err_of}
use Rattle.std_alloc.proofs.RcSteps.{is_not, is_so}
use Rattle.std_alloc.proofs.VecSteps.Shapes.{after as after_k}
use Rattle.gn_block.proofs.Halves.{whole_again}
use Rattle.gn_block.proofs.Fields.{val_of, typed, Words, told, made, owns_placed, loose_made, LooseWords}
use Rattle.gn_block.proofs.Steps.{looks_in}
use Rattle.gn_block.specs.Whole.{loose_owns}
use Rattle.gn_block.specs.contracts.counted.Counted as C
use Rattle.gn_block.specs.contracts.block.Loose as D
use Rattle.gn_block.specs.contracts.counted.Counted.look.{ended, clauses}
use Rattle.gn_block.specs.contracts.counted.Counted.look.Key.{name as #self}
use Rattle.gn_block.proofs.counted.Counted.look.Statement.{statement}
use Rattle.gn_block.proofs.counted.Counted.look.Code as code

pub look_spec : {M : Type 1} → statement M
look_spec 𝓤 𝓛 𝓜 𝓡 wired X L =
    let H = 𝓛.H in let 𝓣 = tables 𝓤 H 𝓜 𝓡 𝓡.env in let R : RattleType = param 0 X in let En = ended X in let c = clauses X 𝓛 𝓜.mem 𝓡.returns in
    let inst = layouts (a_type ∷ []) (X, tt) in let fn = inst_fn inst code.function in let closed = code.unfolded 𝓤 H 𝓜 𝓡 wired (X, tt) in let Row : RattleType = C.the_row R in let Free : RattleType = D.the_row R in
    let self = plain (λ _. Row) in let hs : Stays En.signature.params En.kept = (stay_dropped self no, tt) in
    proved 𝓛 En hs c 𝓜 𝓡 (Goes-dropped 𝓛 1 self no (λ κs x f. refl), tt) (#self inst) fn closed
    (λ κs. ((λ x. val_of x.at ∷ []), tt)) (λ κs. ((λ x vs so. told R x.at vs so.0), tt)) (λ κs qs bounds a gh are.
    let h : Row.Denot = a.0 in let p : Ptr = h.at in let b : ℕ = block_of p in let o : ℕ = count_of p in let x : X.Denot = h.value in let limit : ℕ = h.limit in let parts : ℕ = h.parts in let δ : ℕ = h.block in
    let W : Ptr → ℕ → X.Denot → Fml = whole R in let Wb = W (block_ptr b o) in let us : List Val = val_of p ∷ [] in let Toks : SProp 𝓤 = alive 𝓛 En.signature κs qs in
    let y : (walk_of 𝓛 En hs c).Ghost = ((κs, qs, bounds, a, (val_of p ∷ [], tt)), gh) in let Post : Val → SProp 𝓤 = (walk_of 𝓛 En hs c).post y in
    qed 𝓛 ((raw Toks ⊛ ‵ (owns (types_at En.signature.params κs) a y.0.4)) ∷ raw (fact 𝓤 _) ∷ ‵ ftrue ∷ []) ∵
    keep ! (0 ∷ []) $ split ! $ move ! (1 ∷ []) $ fsplit ! $ fsplit ! $ keep ! (1 ∷ 3 ∷ []) $
    use1 𝓛 (given (InBlock p) (‵ (handle_owns R W p x limit parts δ))) (fact_use 𝓤 _ (owns_placed R 𝓛 W p x limit parts δ) (guard_i 𝓤 (InBlock p) (sem 𝓛 (handle_owns R W p x limit parts δ)))) $ learn ! (λ inb. let at : p ≡ block_ptr b o = at_block p inb in
    rewrite ! 0 (λ (z : Ptr). ‵ (handle_owns R W z x limit parts δ)) at refl $
    enter ! 𝓣.C 𝓣.Λ fn us Post $ alloc_all ! (λ l. pass_all ! refl (typed p, tt) $ let Ev = env fn.locals l in
    fsplit ! $ fpick ! (λ part. drop ! $ fpick ! (λ t. fsplit3 ! $ let P : Fml = lent R Wb b o x in let after : ℕ → Fml = after_look P b (o + 0) limit δ t parts in let I : Fml = common R Wb b o x limit δ t in let s : Lft → Fml = seen R Wb b o x limit δ in
    use1 𝓛 (‵ (finv I) ⊛ ‵ (finv I)) (𝓛.invs.inv_dup I) $ split ! $ move ! (0 ∷ 3 ∷ 2 ∷ 1 ∷ []) $
    -- [inv; held; seen; inv; tokens]
    sets ! (is ! (of_opd ! (get_in ! (fld ! refl (stop !)) (sub ! 0 refl (entire !)))) (ap ptr_val at)) refl (tt, tt) $ first ! $ blocks ! $ sets ! (addr ! (through ! refl (fld ! refl (stop !)))) refl (tt, tt) $
    use2 𝓛 (raw (𝓣.C _ (vptr b (o + 0) ∷ seq_cst ∷ []) (λ r. mean 𝓛 (found after r))))
    (via 𝓤 _ (looks_in 𝓛 P b (o + 0) limit δ t part.2 parts part.0) (loads 𝓛 𝓜 𝓡 (code.calls-core::raw_atomic::load 𝓡.env wired) (block_ptr b (o + 0)) after)) $
    sets ! (agg ! (and_then ! (lit ! tt) (no_more !))) refl (tt, (record { fits = lit< tt }, tt)) $
    Calls-last ! (fm 𝓛 𝓜 𝓡) (found after) (and_then ! (get ! refl) (and_then ! (get ! refl) (no_more !))) (λ r. finds ! after (λ n fits.
    lands_last ! refl (tt, record { fits = fits }) $ exec ! 𝓣.C 𝓣.Λ Ev (tail (tail fn.body)) (at_ret Ev Post) $
    fsplit3 ! $ fpick ! (λ so. drop ! $ let p' : Ptr = block_ptr b o in let v : Val = val_of p' in let me : Row.Denot = record { at = p'; value = x; limit = limit; parts = parts; block = δ } in
    let Pair : RattleType = Tuple (Row ∷ u64 ∷ []) in let w : Val = vstruct (vcons v (vcons (vint w64 n) vnil)) in let one : Free.Denot = record { at = p'; users = 1; value = x; block = δ } in
    -- [all of it, where n is 1; else held; seen; inv; tokens]
    sets ! (of_opd ! (get ! refl)) refl (tt, record { fits = fits }) $ sets ! (bin ! (get ! refl) (lit ! tt) tt) refl (tt, tt) $ first ! $ branches ! (get ! refl)
    (λ more. let other = is_not n 1 more in sets ! (agg ! (and_then ! (get ! refl) (no_more !))) refl (tt, (tt, tt)) $
    sets ! (agg ! (and_then ! (get ! refl) (and_then ! (get ! refl) (no_more !)))) refl (tt, ((tt, tt), (record { fits = fits }, tt))) $
    sets ! (agg ! (and_then ! (lit ! tt) (and_then ! (get ! refl) (no_more !)))) refl (tt, (record { fits = lit< tt }, (((tt, tt), (record { fits = fits }, tt)), tt))) $
    drop ! $ use1 𝓛 (‵ (held P b (o + 0) limit δ t parts)) (all_e 𝓤 (λ (_ : n ≡ 1 → ⊥). sem 𝓛 (held P b (o + 0) limit δ t parts)) other) $ move ! (2 ∷ 1 ∷ 0 ∷ []) $ fjoin3 ! $ fpack ! Round (handle R Wb b o x limit δ parts) t $
    nothing ! $ fpack ! (IsPart limit parts) (λ _. ftrue) part $ fjoin ! $ use0 𝓛 (‵ ((Words R).own_val (p', tt) (v ∷ []))) (made R 𝓛 p') $ fjoin ! $
    nothing ! $ flt_i ! n (2 ^ 64) fits $ feq_i ! (List Val) (vint w64 n ∷ []) (vint w64 n ∷ []) refl $ fjoin ! $ move ! (2 ∷ 0 ∷ 1 ∷ []) $ fjoin3 ! $ feq_i ! (List Val) (w ∷ []) (w ∷ []) refl $ fjoin ! $
    fpack ! (Valss (Row ∷ u64 ∷ [])) (λ uss. fsep (feq (List Val) (w ∷ []) (vstruct (of_list (uss.0 ++ (uss.1.0 ++ []))) ∷ [])) (owns (Row ∷ u64 ∷ []) (me, (n, tt)) uss)) (v ∷ [], (vint w64 n ∷ [], tt)) $
    use1 𝓛 (‵ ((RS.the_row Free Pair).own_val (Err (me, n)) (live 1 (vcons w vnil) ∷ []))) (err_of 𝓛 Free Pair (me, n) w) $
    let Told : Type 0 = (me ≡ h) × (2 ≤ n) × (parts ≡ limit → ⊥) in use0 𝓛 (raw (fact 𝓤 Told)) (fact_i 𝓤 Told (emp 𝓤) ((λ i. record { at = sym at i; value = x; limit = limit; parts = parts; block = δ }), (let e = so.0 in omega (arith, other, e)), λ e. other (so.1 e))) $ nothing ! $ nothing ! $ fjoin ! $
    returns_within ! Post refl (look_at ! 0 refl) $ free_all ! refl $ keep ! (3 ∷ 0 ∷ 2 ∷ 1 ∷ []) $ by ! (leaves 𝓛 En hs c y (live 1 (vcons w vnil)) (Err (me, n)) (tt, tt) (tt, tt)))
    (λ last. skips ! $ exec ! 𝓣.C 𝓣.Λ Ev (after_k 5 fn.body) (at_ret Ev Post) $
    use1 𝓛 (‵ (all_of_it P b (o + 0) limit δ t 1)) (all_e 𝓤 (λ (_ : n ≡ 1). sem 𝓛 (all_of_it P b (o + 0) limit δ t 1)) (is_so n 1 last)) $ use1 𝓛 (later (‵ (loose_owns R (block_ptr b o) 1 x δ))) (whole_again 𝓛 R b o limit 1 x δ t) $ await ! tt $
    use0 𝓛 (‵ ((LooseWords R).own_val (p', tt) (v ∷ []))) (loose_made R 𝓛 p') $ fjoin ! $ use1 𝓛 (‵ ((RS.the_row Free Pair).own_val (Ok one) (live 0 (vcons v vnil) ∷ []))) (ok_of 𝓛 Free Pair one v) $
    sets ! (agg ! (and_then ! (get ! refl) (no_more !))) refl (tt, (tt, tt)) $ sets ! (agg ! (and_then ! (lit ! tt) (and_then ! (get ! refl) (no_more !)))) refl (tt, (record { fits = lit< tt }, ((tt, tt), tt))) $
    let Told : Type 0 = (1 ≡ 1) × (x ≡ x) × (δ ≡ δ) in use0 𝓛 (raw (fact 𝓤 Told)) (fact_i 𝓤 Told (emp 𝓤) (refl, refl, refl)) $ nothing ! $ nothing ! $ fjoin ! $
    returns ! (look_at ! 0 refl) $ free_all ! refl $ keep ! (6 ∷ 0 ∷ 2 ∷ 1 ∷ []) $ by ! (leaves 𝓛 En hs c y (live 0 (vcons v vnil)) (Ok one) (tt, tt) (tt, tt)))))))))))
