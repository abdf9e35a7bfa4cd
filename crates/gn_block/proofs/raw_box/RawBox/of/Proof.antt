-- `of` is one call, which gives the pointer and the allocator of a box.
use Rattle.gn_block.proofs.Names.{◌≡◌, List, [], ◌∷◌, ◌++◌, sym, refl, ap, subst, a_type, dcons, dnil, Val, inst_fn, SProp, ent, emp, id⊢, ftrue, fsep, flft, WpFn, ‵, raw, ◌⊛◌, some, later, ◌$◌, ◌∵◌, !, qed, by, move, keep, drop, split, split3, join, fsplit, fjoin, pick, suffices, use0, use1, await, rewrite, feq_i, stop, fld, of_opd, no_more, and_then, returns, enter, alloc_all, pass_all, free_all, look_at, get, get_in, sets, lands_as, agg, sub, entire, tables, fact, fact_i, no, RattleType, owns, types_at, plain, Ptr, ptr_val, nothing, only, heard, param, bounded, param_laws, RawPtr, Stays, stay_dropped, walk_of, proved_at, leaves, fm}
use denote.Struct.Tuple.{Tuple}
use denote.Triple.Spec.{triple_of}
use denote.Triple.Call.{calls_at}
use Rattle.core.proofs.alloc.Calls.{Goes-blank, handle_tells}
use Rattle.std_alloc.specs.Box.Ownership.{box_owns}
use Rattle.std_alloc.specs.contracts.boxed.Box as box
use Rattle.std_alloc.proofs.boxed.Box.TheLaws as box_laws
use Rattle.std_alloc.specs.contracts.boxed.Box.into_raw_with_allocator as callee
use Rattle.std_alloc.proofs.boxed.Box.into_raw_with_allocator.Met.{met}
use Rattle.gn_block.proofs.RawValues.{both, ptr_fits, both_fit, lawful_row, fields_in, fields_out}
use Rattle.gn_block.specs.contracts.raw_box.RawBox.of.{ended, clauses}
use Rattle.gn_block.specs.contracts.raw_box.RawBox.of.Key.{name as #self}
use Rattle.gn_block.proofs.raw_box.RawBox.of.Statement.{statement}
use Rattle.gn_block.proofs.raw_box.RawBox.of.Code as code

pub of_spec : {M : Type 1} → statement M
of_spec 𝓤 𝓛 𝓜 𝓡 wired T A L LA g d dx dd allocator glue glued =
    let H = 𝓛.H in let 𝓣 = tables 𝓤 H 𝓜 𝓡 𝓡.env in let R : RattleType = param 0 T in let Z : RattleType = param 1 A in let LZ = param_laws 1 A LA in let Whole : RattleType = box.the_row R Z g in
    let Pair : RattleType = Tuple (RawPtr ∷ Z ∷ []) in let En = ended T A g d dx dd in let c = clauses T A g d dx dd 𝓛 𝓜.mem 𝓡.returns in let inst = bounded (a_type ∷ a_type ∷ []) (T, (A, tt)) (dcons d (dcons dx (dcons dd dnil))) in let fn = inst_fn inst code.function in
    let k = triple_of 𝓛 (callee.signature T A g d dd dx) (callee.spec T A g d dd dx 𝓛 𝓜.mem 𝓡.returns) in let called = met 𝓤 𝓛 𝓜 𝓡 (code.calls-std_alloc::boxed::Box::into_raw_with_allocator 𝓡.env wired) T A L LA g d dd dx allocator glued glue in
    let self = plain (λ _. Whole) in let hs : Stays En.signature.params En.kept = (stay_dropped self no, tt) in
    proved_at 𝓛 En hs c 𝓜 𝓡 (Goes-blank 𝓛 2 self no (λ κs x f. tt), tt) (#self inst) fn (code.unfolded 𝓤 H 𝓜 𝓡 wired (T, (A, tt)) d dx dd) (λ z are.
    let κs = z.0.0 in let qs = z.0.1 in let whole : Whole.Denot = z.0.3.0 in let a : A.Denot = whole.alloc in let Post : Val → SProp 𝓤 = (walk_of 𝓛 En hs c).post z in let Run : List Val → SProp 𝓤 = λ ws. WpFn 𝓤 H 𝓣.C 𝓣.Λ fn ws Post in
    let Toks = ‵ (flft κs.0 qs.0) ⊛ ‵ (flft κs.1.0 qs.1.0) ⊛ ‵ ftrue in let Holds : Ptr → base.Fml.Fml = λ p. box_owns (g.dealloc_token a) R p whole.value in
    qed 𝓛 ((Toks ⊛ ‵ (owns (types_at En.signature.params κs) z.0.3 z.0.4)) ∷ raw ((c κs z.0.3).requires z.1) ∷ []) ∵ split ! $ move ! (1 ∷ []) $ fsplit ! $
    handle_tells (lawful_row Whole (box_laws.the_row_laws R Z g (param_laws 0 T L) LZ) (record { dealloc_token = λ _ σ p. ftrue })) ! whole z.0.4.0 (λ w ws typed.
    -- [the box; nothing; tokens; what is asked]
    let y : k.Ghost = ((κs, qs, tt, (whole, tt), (w ∷ [], tt)), tt) in fjoin ! $ move ! (1 ∷ 0 ∷ []) $ join ! $ join ! $ use1 𝓛 (raw (k.pre y)) (id⊢ 𝓤 _) $
    suffices ! (Run (w ∷ [])) (subst (λ (us : List Val). ent 𝓤 (Run (w ∷ [])) (Run us)) (sym (λ i. ws i ++ [])) (id⊢ 𝓤 (Run (w ∷ [])))) $
    enter ! 𝓣.C 𝓣.Λ fn (w ∷ []) Post $ alloc_all ! (λ l. pass_all ! refl (typed, tt) $ sets ! (of_opd ! (get ! refl)) refl typed $ calls_at ! (fm 𝓛 𝓜 𝓡) k called y (and_then ! (get ! refl) (no_more !)) (λ u.
    use1 𝓛 (later (some (λ (r : Ptr × A.Denot). (Toks ⊛ ‵ (Pair.own_val r (u ∷ []))) ⊛ some (λ (_ : (Unit {0} × (Unit {0} × Unit {0})) × Unit {0}). ‵ (fsep (fsep ftrue (fsep ftrue ftrue)) ftrue) ⊛ (raw (fact 𝓤 (r.1 ≡ a)) ⊛ ‵ (Holds r.0)))))) (id⊢ 𝓤 (k.post y u)) $
    await ! tt $ pick ! (λ r. split ! $ move ! (1 ∷ []) $ pick ! (λ _. split3 ! $ drop ! $ heard ! (r.1 ≡ a) (λ same. move ! (1 ∷ []) $ split ! $ move ! (1 ∷ []) $ fields_out ! Z LZ g r.0 r.1 (u ∷ []) (λ h is fits.
    -- [the allocator; tokens; the block]
    let p : Ptr = r.0 in let out : Val = both (ptr_val p) h in let made = both_fit Z p h fits in rewrite ! 0 (λ (s : A.Denot). ‵ (A.own_val s (h ∷ []))) same refl $
    lands_as ! (ap only is) refl made $ sets ! (of_opd ! (get_in ! (fld ! refl (stop !)) (sub ! 0 refl (entire !)))) refl (ptr_fits p) $ sets ! (of_opd ! (get_in ! (fld ! refl (stop !)) (sub ! 1 refl (entire !)))) refl fits $
    sets ! (of_opd ! (get ! refl)) refl fits $ sets ! (agg ! (and_then ! (get ! refl) (and_then ! (get ! refl) (no_more !)))) refl made $
    feq_i ! (List Val) (ptr_val p ∷ []) (ptr_val p ∷ []) refl $ fields_in ! RawPtr Z p a (ptr_val p) h $ move ! (0 ∷ 2 ∷ []) $ fjoin ! $
    use0 𝓛 (raw (fact 𝓤 (whole.value ≡ whole.value))) (fact_i 𝓤 (whole.value ≡ whole.value) (emp 𝓤) refl) $ nothing ! $ nothing ! $ fjoin ! $
    returns ! (look_at ! 0 refl) $ free_all ! refl $ keep ! (3 ∷ 0 ∷ 2 ∷ 1 ∷ []) $ by ! (leaves 𝓛 En hs c z out (record { at = p; alloc = a; value = whole.value }) ((tt, (tt, tt)), tt) (tt, tt))))))))))
