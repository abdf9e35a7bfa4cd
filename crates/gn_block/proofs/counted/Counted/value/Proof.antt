-- `value` shows the value for as long as the handle is borrowed.
use Rattle.gn_block.proofs.Names.{◌≡◌, ℕ, ◌+◌, List, [], ◌∷◌, sym, refl, ap, ◌∙◌, a_type, named, Val, vptr, inst_fn, SProp, emp, guard_i, Lft, Fml, ftrue, fsep, flft, fhide, sem, ‵, raw, ◌⊛◌, given, at_ret, ◌$◌, ◌∵◌, !, qed, by, move, keep, split, join, fsplit, fjoin, learn, use0, use1, rewrite, feq_i, stop, fld, hop, addr, of_opd, first, blocks, exec, returns, enter, alloc_all, pass_all, free_all, look_at, get, through, sets, sets_last, env, sub, entire, look_in, tables, fact, fact_i, fact_use, yes, RattleType, owns, types_at, plain, Ptr, InBlock, block_ptr, block_of, count_of, at_block, Is, shows, nothing, peeks, looks, shuts, unhide, cell_at, hidden_shr, param, layouts, param_laws, RefOf, shr_vals, shr_Tells, Stays, stay_dropped, walk_of, Goes-dropped, tail, proved, leaves, offset, handle_shares, whole}
use types.Kit.{Item}
use denote.Ref.{Bor}
use denote.Struct.Lending.{lent_out}
use Rattle.gn_block.proofs.Fields.{val_of, Words, told, opened}
use Rattle.gn_block.proofs.Lending.{sees, shares_placed}
use Rattle.gn_block.specs.contracts.counted.Counted as C
use Rattle.gn_block.specs.contracts.counted.Counted.value.{ended, clauses}
use Rattle.gn_block.specs.contracts.counted.Counted.value.Key.{name as #self}
use Rattle.gn_block.proofs.counted.Counted.value.Statement.{statement}
use Rattle.gn_block.proofs.counted.Counted.value.Code as code

pub value_spec : {M : Type 1} → statement M
value_spec 𝓤 𝓛 𝓜 𝓡 wired X L =
    let H = 𝓛.H in let 𝓣 = tables 𝓤 H 𝓜 𝓡 𝓡.env in let R : RattleType = param 0 X in let En = ended X in let c = clauses X 𝓛 𝓜.mem 𝓡.returns in
    let inst = layouts (a_type ∷ []) (X, tt) in let fn = inst_fn inst code.function in let closed = code.unfolded 𝓤 H 𝓜 𝓡 wired (X, tt) in let Row : RattleType = C.the_row R in let LR = param_laws 0 X L in let D : RattleType = Words R in
    let self = RefOf (0 ∷ []) tt (plain (λ _. Row)) (λ _. tt) in let hs : Stays En.signature.params En.kept = (stay_dropped self yes, tt) in
    proved 𝓛 En hs c 𝓜 𝓡 (Goes-dropped 𝓛 2 self yes (λ κs x f. refl), tt) (#self inst) fn closed
    (λ κs. (shr_vals, tt)) (λ κs. (shr_Tells (named 0) κs.0 Row, tt)) (λ κs qs bounds a gh are.
    let b : ℕ = a.0.ref_ptr.0 in let o : ℕ = a.0.ref_ptr.1 in let κ : Lft = κs.0 in let h : Row.Denot = a.0.now in let p : Ptr = h.at in let x : X.Denot = h.value in let limit : ℕ = h.limit in let δ : ℕ = h.block in
    let W : Ptr → ℕ → X.Denot → Fml = whole R in let others : Fml = fsep (flft κs.1.0 qs.1.0) ftrue in let pb : ℕ = block_of p in let po : ℕ = count_of p in let e : ℕ = po + offset R in let Shown : Ptr → Fml = λ z. handle_shares R W z x limit δ κ in
    let y : (walk_of 𝓛 En hs c).Ghost = ((κs, qs, bounds, a, (vptr b o ∷ [], tt)), gh) in let Post : Val → SProp 𝓤 = (walk_of 𝓛 En hs c).post y in
    qed 𝓛 (((‵ (flft κ qs.0) ⊛ ‵ others) ⊛ ‵ (owns (types_at En.signature.params κs) a y.0.4)) ∷ raw (fact 𝓤 _) ∷ ‵ ftrue ∷ []) ∵
    keep ! (0 ∷ []) $ split ! $ split ! $ move ! (2 ∷ []) $ fsplit ! $ fsplit ! $ keep ! (1 ∷ 3 ∷ 4 ∷ []) $
    enter ! 𝓣.C 𝓣.Λ fn (vptr b o ∷ []) Post $ alloc_all ! (λ l. pass_all ! refl ((tt, tt), tt) $ let Ev = env fn.locals l in
    use1 𝓛 (‵ (hidden_shr D κ (p, tt) b o) ⊛ ‵ (fhide (Shown p))) (lent_out 𝓛 (C.struct R) (C.the_codes X.Denot R.coded) (C.the_heap R) (C.the_lent R) κ h b o) $
    split ! $ move ! (1 ∷ []) $ unhide ! $
    use1 𝓛 (given (InBlock p) (‵ (Shown p))) (fact_use 𝓤 _ (shares_placed 𝓛 R W LR.shr_laws p x limit δ κ) (guard_i 𝓤 (InBlock p) (sem 𝓛 (Shown p)))) $ learn ! (λ so.
    let at : p ≡ block_ptr pb po = at_block p so in let out : Val = vptr pb e in let word : List Val = val_of (block_ptr pb po) ∷ [] in
    rewrite ! 0 (λ (z : Ptr). ‵ (Shown z)) at refl $ use1 𝓛 (‵ (hidden_shr R κ x pb e)) (sees 𝓛 R W LR.shr_laws pb po x limit δ κ) $ move ! (1 ∷ 2 ∷ []) $
    -- [the handle's word; its borrow; the value in the block; tokens]
    looks ! tt D (opened R 𝓛) (p, tt) b o (λ part vs. let Here : List Val → Item 𝓤 = λ ws. ‵ (cell_at part D.mir ws b o) in
    move ! (1 ∷ []) $ peeks ! D (Is D) (shows 𝓛 D) (p, tt) vs (λ is_so. let is_word : vs ≡ word = told R p vs is_so ∙ ap (λ (z : Ptr). val_of z ∷ []) at in
    rewrite ! 1 Here is_word refl $ first ! $ blocks ! $ sets_last ! (addr ! (through ! refl (fld ! refl (hop ! (look_in ! 1 (sub ! 0 refl (entire !))) (fld ! refl (stop !)))))) refl (tt, tt) $
    exec ! 𝓣.C 𝓣.Λ Ev (tail fn.body) (at_ret Ev Post) $ sets ! (of_opd ! (get ! refl)) refl (tt, tt) $ rewrite ! 1 Here (sym is_word) refl $ move ! (1 ∷ 0 ∷ 2 ∷ []) $ shuts ! tt D part (p, tt) vs b o $
    -- [κ's token; the other token; nothing; the value in the block]
    let r : Bor X.Denot = record { ref_ptr = (pb, e); now = x } in
    move ! (0 ∷ 3 ∷ []) $ join ! $ move ! (2 ∷ []) $ feq_i ! (List Val) (out ∷ []) (out ∷ []) refl $ fjoin ! $ use0 𝓛 (raw (fact 𝓤 (r.now ≡ x))) (fact_i 𝓤 (r.now ≡ x) (emp 𝓤) refl) $
    nothing ! $ nothing ! $ fjoin ! $ returns ! (look_at ! 0 refl) $ free_all ! refl $ keep ! (3 ∷ 0 ∷ 2 ∷ 1 ∷ []) $ by ! (leaves 𝓛 En hs c y out r (tt, tt) (tt, tt)))))))
