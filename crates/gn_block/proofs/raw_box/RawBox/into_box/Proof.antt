-- `into_box` is one call, which makes a box of a pointer and an allocator.
use Rattle.gn_block.proofs.Names.{◌≡◌, List, [], ◌∷◌, ◌++◌, sym, refl, subst, a_type, dcons, dnil, Val, inst_fn, SProp, ent, id⊢, ftrue, flft, WpFn, ‵, raw, ◌⊛◌, some, later, at_ret, ◌$◌, ◌∵◌, !, qed, by, move, keep, drop, split, split3, join, fsplit, fjoin, pick, suffices, use1, await, feq_i, stop, fld, of_opd, no_more, and_then, first, blocks, exec, returns, enter, alloc_all, pass_all, free_all, look_at, get, get_in, sets, lands_last, env, sub, entire, tables, fact, ◌⊑◌, no, RattleType, owns, types_at, plain, Is, shows, Ptr, ptr_val, nothing, peeks, param, layout, bounded, param_laws, Stays, stay_dropped, walk_of, proved_at, leaves, fm}
use denote.Triple.Clauses.{Lasts, lasts}
use denote.Triple.Spec.{triple_of}
use denote.Triple.Call.{calls_at_last}
use Rattle.core.proofs.alloc.Calls.{Goes-blank}
use Rattle.core.proofs.alloc.Shapes.{after}
use Rattle.core.proofs.cell.Inside.{Good}
use Rattle.std_alloc.specs.contracts.boxed.Box as box
use Rattle.std_alloc.proofs.boxed.Box.TheLaws as box_laws
use Rattle.std_alloc.specs.contracts.boxed.Box.from_raw as callee
use Rattle.std_alloc.proofs.boxed.Box.from_raw.Met.{met}
use Rattle.gn_block.specs.contracts.raw_box.RawBox as C
use Rattle.gn_block.proofs.RawValues.{both, ptr_fits, both_fit, fields_out}
use Rattle.gn_block.specs.contracts.raw_box.RawBox.into_box.{ended, clauses}
use Rattle.gn_block.specs.contracts.raw_box.RawBox.into_box.Key.{name as #self}
use Rattle.gn_block.proofs.raw_box.RawBox.into_box.Statement.{statement}
use Rattle.gn_block.proofs.raw_box.RawBox.into_box.Code as code

pub into_box_spec : {M : Type 1} → statement M
into_box_spec 𝓤 𝓛 𝓜 𝓡 wired T A L LA g d dx dd allocator glue glued =
    let H = 𝓛.H in let 𝓣 = tables 𝓤 H 𝓜 𝓡 𝓡.env in let R : RattleType = param 0 T in let Z : RattleType = param 1 A in let LZ = param_laws 1 A LA in let Whole : RattleType = box.the_row R Z g in let LW = box_laws.the_row_laws R Z g (param_laws 0 T L) LZ in let Raw : RattleType = C.the_row R Z g in
    let En = ended T A g d dx dd in let c = clauses T A g d dx dd 𝓛 𝓜.mem 𝓡.returns in let inst = bounded (a_type ∷ a_type ∷ []) (T, (A, tt)) (dcons d (dcons dx (dcons dd dnil))) in let fn = inst_fn inst code.function in
    let k = triple_of 𝓛 (callee.signature T A g d dd) (callee.spec T A g d dd 𝓛 𝓜.mem 𝓡.returns) in let called = met 𝓤 𝓛 𝓜 𝓡 (code.calls-std_alloc::boxed::Box::from_raw 𝓡.env wired) T A L LA g d dd allocator glued in
    let self = plain (λ _. Raw) in let hs : Stays En.signature.params En.kept = (stay_dropped self no, tt) in
    proved_at 𝓛 En hs c 𝓜 𝓡 (Goes-blank 𝓛 2 self no (λ κs x f. tt), tt) (#self inst) fn (code.unfolded 𝓤 H 𝓜 𝓡 wired (T, (A, tt)) d dx dd) (λ z are.
    let κs = z.0.0 in let qs = z.0.1 in let memory : Raw.Denot = z.0.3.0 in let p : Ptr = memory.at in let a : A.Denot = memory.alloc in let Post : Val → SProp 𝓤 = (walk_of 𝓛 En hs c).post z in let Run : List Val → SProp 𝓤 = λ ws. WpFn 𝓤 H 𝓣.C 𝓣.Λ fn ws Post in
    let Toks = ‵ (flft κs.0 qs.0) ⊛ ‵ (flft κs.1.0 qs.1.0) ⊛ ‵ ftrue in let F1 = κs.0 ⊑ T.lives in let F2 = κs.1.0 ⊑ A.lives in
    qed 𝓛 ((Toks ⊛ ‵ (owns (types_at En.signature.params κs) z.0.3 z.0.4)) ∷ raw ((c κs z.0.3).requires z.1) ∷ []) ∵ split ! $ move ! (1 ∷ []) $ fsplit ! $ fsplit ! $ fields_out ! Z LZ g p a z.0.4.0 (λ h ws fits.
    -- [the allocator; the block; nothing; tokens; what is asked]
    let w : Val = both (ptr_val p) h in let typed = both_fit Z p h fits in let y : k.Ghost = ((κs, qs, tt, (a, (p, tt)), (h ∷ [], (ptr_val p ∷ [], tt))), memory.value) in
    move ! (4 ∷ []) $ use1 𝓛 (raw (fact 𝓤 F1) ⊛ raw (fact 𝓤 F2) ⊛ ‵ ftrue) (id⊢ 𝓤 _) $ split3 ! $ move ! (2 ∷ []) $ drop ! $
    -- [both lives; the allocator; the block; nothing; tokens]
    move ! (1 ∷ 3 ∷ []) $ join ! $ move ! (1 ∷ 0 ∷ []) $ join ! $ move ! (2 ∷ []) $ feq_i ! (List Val) (ptr_val p ∷ []) (ptr_val p ∷ []) refl $ fjoin ! $ move ! (2 ∷ 0 ∷ []) $ fjoin ! $ move ! (2 ∷ 0 ∷ []) $ join ! $ join ! $ use1 𝓛 (raw (k.pre y)) (id⊢ 𝓤 _) $
    suffices ! (Run (w ∷ [])) (subst (λ (us : List Val). ent 𝓤 (Run (w ∷ [])) (Run us)) (sym (λ i. ws i ++ [])) (id⊢ 𝓤 (Run (w ∷ [])))) $
    enter ! 𝓣.C 𝓣.Λ fn (w ∷ []) Post $ alloc_all ! (λ l. pass_all ! refl (typed, tt) $ let Ev = env fn.locals l in
    sets ! (of_opd ! (get_in ! (fld ! refl (stop !)) (sub ! 0 refl (entire !)))) refl (ptr_fits p) $ sets ! (of_opd ! (get_in ! (fld ! refl (stop !)) (sub ! 1 refl (entire !)))) refl fits $
    first ! $ blocks ! $ sets ! (of_opd ! (get ! refl)) refl fits $ calls_at_last ! (fm 𝓛 𝓜 𝓡) k called y (and_then ! (get ! refl) (and_then ! (get ! refl) (no_more !))) (λ u.
    use1 𝓛 (later (some (λ (r : Whole.Denot). (Toks ⊛ ‵ (Whole.own_val r (u ∷ []))) ⊛ some (λ (ls : Lasts (callee.ended T A g d dd) κs y.0.3). ‵ (lasts (callee.ended T A g d dd) κs y.0.3 ls) ⊛ (raw (fact 𝓤 (r.value ≡ memory.value)) ⊛ raw (fact 𝓤 (r.alloc ≡ a))))))) (id⊢ 𝓤 (k.post y u)) $
    await ! tt $ pick ! (λ r. split ! $ move ! (1 ∷ []) $ pick ! (λ _. split3 ! $ drop ! $ move ! (2 ∷ []) $ split ! $ move ! (1 ∷ []) $
    -- [the box; tokens; its value; its allocator]
    peeks ! Whole (Is Whole) (shows 𝓛 Whole) r (u ∷ []) (λ is. let good : Good (layout Whole) u = ((LW.lawful 𝓛).typed r (u ∷ []) is).0 in
    lands_last ! refl good $ exec ! 𝓣.C 𝓣.Λ Ev (after 3 fn.body) (at_ret Ev Post) $ sets ! (of_opd ! (get ! refl)) refl good $ nothing ! $ nothing ! $ fjoin ! $
    returns ! (look_at ! 0 refl) $ free_all ! refl $ keep ! (2 ∷ 0 ∷ 1 ∷ 3 ∷ []) $ by ! (leaves 𝓛 En hs c z u r ((tt, (tt, tt)), tt) (tt, tt)))))))))
