-- `leave` is one fetch-sub, and the last handle gets the block.
use Rattle.gn_block.proofs.Names.{◌≡◌, ℕ, ◌+◌, List, [], ◌∷◌, refl, ap, lit<, w64, a_type, Val, vint, vptr, vcons, vnil, inst_fn, SProp, emp, via, guard_i, all_e, Fml, ftrue, sem, ‵, raw, ◌⊛◌, given, later, mean, at_ret, ◌$◌, ◌∵◌, !, qed, by, move, keep, drop, split, fsplit, fsplit3, fjoin, fpick, learn, use0, use1, use2, await, rewrite, stop, fld, addr, lit, of_opd, bin, no_more, and_then, first, blocks, branches, skips, exec, Calls-last, returns, returns_within, enter, alloc_all, pass_all, free_all, look_at, get, get_in, through, sets, lands_last, is, env, agg, sub, entire, live, tables, fact, fact_i, fact_use, no, RattleType, owns, types_at, plain, Ptr, InBlock, block_ptr, ptr_val, block_of, count_of, at_block, nothing, param, layouts, alive, Stays, stay_dropped, walk_of, Goes-dropped, tail, proved, leaves, fm, seq_cst, found, finds, subs, all_of_it, after_go, lent, handle_owns, whole}
use Rattle.core.specs.contracts.option.Option as Opt
use Rattle.core.specs.declared.option.Option.TheVariants.{None, Some}
use Rattle.std_alloc.proofs.RcSteps.{is_so, Some-of, none_of}
use Rattle.std_alloc.proofs.VecSteps.Shapes.{after as after_k}
use Rattle.gn_block.proofs.Halves.{whole_again}
use Rattle.gn_block.proofs.Fields.{val_of, typed, told, owns_placed, loose_made, LooseWords}
use Rattle.gn_block.proofs.Steps.{goes}
use Rattle.gn_block.specs.Whole.{loose_owns}
use Rattle.gn_block.specs.contracts.counted.Counted as C
use Rattle.gn_block.specs.contracts.block.Loose as D
use Rattle.gn_block.specs.contracts.counted.Counted.leave.{ended, clauses}
use Rattle.gn_block.specs.contracts.counted.Counted.leave.Key.{name as #self}
use Rattle.gn_block.proofs.counted.Counted.leave.Statement.{statement}
use Rattle.gn_block.proofs.counted.Counted.leave.Code as code

pub leave_spec : {M : Type 1} → statement M
leave_spec 𝓤 𝓛 𝓜 𝓡 wired X L =
    let H = 𝓛.H in let 𝓣 = tables 𝓤 H 𝓜 𝓡 𝓡.env in let R : RattleType = param 0 X in let En = ended X in let c = clauses X 𝓛 𝓜.mem 𝓡.returns in
    let inst = layouts (a_type ∷ []) (X, tt) in let fn = inst_fn inst code.function in let closed = code.unfolded 𝓤 H 𝓜 𝓡 wired (X, tt) in let Row : RattleType = C.the_row R in let Free : RattleType = D.the_row R in
    let self = plain (λ _. Row) in let hs : Stays En.signature.params En.kept = (stay_dropped self no, tt) in
    proved 𝓛 En hs c 𝓜 𝓡 (Goes-dropped 𝓛 1 self no (λ κs x f. refl), tt) (#self inst) fn closed
    (λ κs. ((λ x. val_of x.at ∷ []), tt)) (λ κs. ((λ x vs so. told R x.at vs so.0), tt)) (λ κs qs bounds a gh are.
    let h : Row.Denot = a.0 in let p : Ptr = h.at in let b : ℕ = block_of p in let o : ℕ = count_of p in let x : X.Denot = h.value in let limit : ℕ = h.limit in let parts : ℕ = h.parts in let δ : ℕ = h.block in
    let W : Ptr → ℕ → X.Denot → Fml = whole R in let Wb = W (block_ptr b o) in let us : List Val = val_of p ∷ [] in let Toks : SProp 𝓤 = alive 𝓛 En.signature κs qs in
    let y : (walk_of 𝓛 En hs c).Ghost = ((κs, qs, bounds, a, (val_of p ∷ [], tt)), gh) in let Post : Val → SProp 𝓤 = (walk_of 𝓛 En hs c).post y in
    qed 𝓛 ((raw Toks ⊛ ‵ (owns (types_at En.signature.params κs) a y.0.4)) ∷ raw (fact 𝓤 _) ∷ ‵ ftrue ∷ []) ∵
    keep ! (0 ∷ []) $ split ! $ move ! (1 ∷ []) $ fsplit ! $ fsplit ! $ keep ! (1 ∷ 3 ∷ []) $
    use1 𝓛 (given (InBlock p) (‵ (handle_owns R W p x limit parts δ))) (fact_use 𝓤 _ (owns_placed R 𝓛 W p x limit parts δ) (guard_i 𝓤 (InBlock p) (sem 𝓛 (handle_owns R W p x limit parts δ)))) $ learn ! (λ inb. let at : p ≡ block_ptr b o = at_block p inb in
    rewrite ! 0 (λ (z : Ptr). ‵ (handle_owns R W z x limit parts δ)) at refl $
    enter ! 𝓣.C 𝓣.Λ fn us Post $ alloc_all ! (λ l. pass_all ! refl (typed p, tt) $ let Ev = env fn.locals l in
    fsplit ! $ fpick ! (λ part. drop ! $ fpick ! (λ t. fsplit3 ! $ let P : Fml = lent R Wb b o x in let after : ℕ → Fml = after_go P b (o + 0) limit δ t in
    -- [inv; seen; held; tokens]
    sets ! (is ! (of_opd ! (get_in ! (fld ! refl (stop !)) (sub ! 0 refl (entire !)))) (ap ptr_val at)) refl (tt, tt) $ first ! $ blocks ! $ sets ! (addr ! (through ! refl (fld ! refl (stop !)))) refl (tt, tt) $
    move ! (0 ∷ 2 ∷ []) $ use2 𝓛 (raw (𝓣.C _ (vptr b (o + 0) ∷ vint w64 1 ∷ seq_cst ∷ []) (λ r. mean 𝓛 (found after r))))
    (via 𝓤 _ (goes 𝓛 P b (o + 0) limit δ t part.2 parts part.0) (subs 𝓛 𝓜 𝓡 (code.calls-core::raw_atomic::fetch_sub 𝓡.env wired) (block_ptr b (o + 0)) 1 (lit< tt) after)) $
    sets ! (agg ! (and_then ! (lit ! tt) (no_more !))) refl (tt, (record { fits = lit< tt }, tt)) $
    Calls-last ! (fm 𝓛 𝓜 𝓡) (found after) (and_then ! (get ! refl) (and_then ! (lit ! tt) (and_then ! (get ! refl) (no_more !)))) (λ r. finds ! after (λ n fits.
    lands_last ! refl (tt, record { fits = fits }) $ exec ! 𝓣.C 𝓣.Λ Ev (tail (tail fn.body)) (at_ret Ev Post) $
    sets ! (of_opd ! (get ! refl)) refl (tt, record { fits = fits }) $ sets ! (bin ! (get ! refl) (lit ! tt) tt) refl (tt, tt) $ first ! $ branches ! (get ! refl)
    (λ more. sets ! (agg ! (and_then ! (lit ! tt) (no_more !))) refl (tt, (record { fits = lit< tt }, tt)) $ use0 𝓛 (‵ ((Opt.the_row Free).own_val None (live 0 vnil ∷ []))) (none_of 𝓛 Free) $
    use0 𝓛 (raw (fact 𝓤 (Unit {0}))) (fact_i 𝓤 (Unit {0}) (emp 𝓤) tt) $ nothing ! $ nothing ! $ fjoin ! $
    returns_within ! Post refl (look_at ! 0 refl) $ free_all ! refl $ keep ! (5 ∷ 0 ∷ 2 ∷ 1 ∷ []) $ by ! (leaves 𝓛 En hs c y (live 0 vnil) None (tt, tt) (tt, tt)))
    (λ last. skips ! $ exec ! 𝓣.C 𝓣.Λ Ev (after_k 5 fn.body) (at_ret Ev Post) $
    use1 𝓛 (‵ (all_of_it P b (o + 0) limit δ t 0)) (all_e 𝓤 (λ (_ : n ≡ 1). sem 𝓛 (all_of_it P b (o + 0) limit δ t 0)) (is_so n 1 last)) $ use1 𝓛 (later (‵ (loose_owns R (block_ptr b o) 0 x δ))) (whole_again 𝓛 R b o limit 0 x δ t) $ await ! tt $
    let p' : Ptr = block_ptr b o in let v : Val = val_of p' in let one : Free.Denot = record { at = p'; users = 0; value = x; block = δ } in
    use0 𝓛 (‵ ((LooseWords R).own_val (p', tt) (v ∷ []))) (loose_made R 𝓛 p') $ fjoin ! $ use1 𝓛 (‵ ((Opt.the_row Free).own_val (Some one) (live 1 (vcons v vnil) ∷ []))) (Some-of 𝓛 Free one v) $
    sets ! (agg ! (and_then ! (get ! refl) (no_more !))) refl (tt, (tt, tt)) $ sets ! (agg ! (and_then ! (lit ! tt) (and_then ! (get ! refl) (no_more !)))) refl (tt, (record { fits = lit< tt }, ((tt, tt), tt))) $
    let Told : Type 0 = (0 ≡ 0) × (x ≡ x) × (δ ≡ δ) in use0 𝓛 (raw (fact 𝓤 Told)) (fact_i 𝓤 Told (emp 𝓤) (refl, refl, refl)) $ nothing ! $ nothing ! $ fjoin ! $
    returns ! (look_at ! 0 refl) $ free_all ! refl $ keep ! (4 ∷ 0 ∷ 2 ∷ 1 ∷ []) $ by ! (leaves 𝓛 En hs c y (live 1 (vcons v vnil)) (Some one) (tt, tt) (tt, tt))))))))))
