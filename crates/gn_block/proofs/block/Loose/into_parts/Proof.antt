-- `into_parts` takes a block's memory and its name apart.
use Rattle.gn_block.proofs.Names.{◌≡◌, ℕ, List, [], ◌∷◌, ◌++◌, sym, refl, subst, a_type, Val, inst_fn, SProp, ent, emp, id⊢, WpFn, ‵, raw, ◌⊛◌, ◌$◌, ◌∵◌, !, qed, by, move, keep, drop, split, fsplit, fjoin, feq_i, suffices, use0, stop, fld, of_opd, no_more, and_then, returns, enter, alloc_all, pass_all, free_all, look_at, get, get_in, sets, agg, sub, entire, tables, fact, fact_i, yes, no, RattleType, owns, types_at, plain, Is, shows, Ptr, ptr_val, nothing, RawPtr, peeks, param, layouts, alive, Stays, stay_dropped, walk_of, Goes-dropped, proved_at, leaves}
use Rattle.std.specs.contracts.alloc.Global as heap
use Rattle.std.proofs.alloc.Global.TheLaws as heap_laws
use Rattle.std.specs.contracts.impls.GlobalAllocator.TheImpl.{ghosts}
use Rattle.core.proofs.alloc.Calls.{handle_tells}
use Rattle.std_alloc.proofs.ResultValues.{and_tt}
use Rattle.gn_block.specs.contracts.block.Core as core
use Rattle.gn_block.specs.contracts.block.Loose as D
use Rattle.gn_block.proofs.RawValues.{both, lawful_row, ptr_fits, both_fit, fields_in}
use Rattle.gn_block.specs.contracts.raw_box.RawBox as raw_box
use Rattle.gn_block.proofs.Naming.{Row as N, name_val, name_in}
use Rattle.gn_block.proofs.Fields.{val_of, typed, LooseWords, loose_told}
use Rattle.gn_block.specs.contracts.block.Loose.into_parts.{ended, clauses}
use Rattle.gn_block.specs.contracts.block.Loose.into_parts.Key.{name as #self}
use Rattle.gn_block.proofs.block.Loose.into_parts.Statement.{statement}
use Rattle.gn_block.proofs.block.Loose.into_parts.Code as code

pub into_parts_spec : {M : Type 1} → statement M
into_parts_spec 𝓤 𝓛 𝓜 𝓡 wired X L =
    let H = 𝓛.H in let 𝓣 = tables 𝓤 H 𝓜 𝓡 𝓡.env in let R : RattleType = param 0 X in let Z : RattleType = heap.the_row in let LZ = heap_laws.the_row_laws in let K : RattleType = core.the_row R in let Free : RattleType = D.the_row R in
    let En = ended X in let c = clauses X 𝓛 𝓜.mem 𝓡.returns in let inst = layouts (a_type ∷ []) (X, tt) in let fn = inst_fn inst code.function in let B : RattleType = raw_box.the_row K Z ghosts in
    let hs : Stays En.signature.params En.kept = (stay_dropped (plain (λ _. Free)) no, (stay_dropped (plain (λ _. Z)) yes, tt)) in
    proved_at 𝓛 En hs c 𝓜 𝓡 (Goes-dropped 𝓛 1 (plain (λ _. Free)) no (λ κs x f. refl), (Goes-dropped 𝓛 1 (plain (λ _. Z)) yes (λ κs x f. refl), tt)) (#self inst) fn (code.unfolded 𝓤 H 𝓜 𝓡 wired (X, tt)) (λ z are.
    let κs = z.0.0 in let qs = z.0.1 in let s : Free.Denot = z.0.3.0 in let a : Z.Denot = z.0.3.1.0 in let δ : ℕ = s.block in let n : ℕ = s.users in let x : X.Denot = s.value in let p : Ptr = s.at in
    let Post : Val → SProp 𝓤 = (walk_of 𝓛 En hs c).post z in let Run : List Val → SProp 𝓤 = λ ws. WpFn 𝓤 H 𝓣.C 𝓣.Λ fn ws Post in
    qed 𝓛 ((raw (alive 𝓛 En.signature κs qs) ⊛ ‵ (owns (types_at En.signature.params κs) z.0.3 z.0.4)) ∷ raw ((c κs z.0.3).requires z.1) ∷ []) ∵ split ! $ keep ! (1 ∷ 0 ∷ []) $ fsplit ! $ fsplit ! $
    -- [the pointer; what it owns; the allocator; tokens]
    peeks ! (LooseWords R) (Is (LooseWords R)) (shows 𝓛 (LooseWords R)) (p, tt) z.0.4.0 (λ is_so. let ws = loose_told R p z.0.4.0 is_so in drop ! $
    move ! (1 ∷ []) $ fsplit ! $ handle_tells (lawful_row Z LZ ghosts) ! a z.0.4.1.0 (λ h eh fits.
    -- [the allocator; nothing; the block and its name; tokens]
    move ! (2 ∷ []) $ fsplit ! $ move ! (2 ∷ 0 ∷ 1 ∷ 4 ∷ []) $
    let us : List Val = val_of p ∷ h ∷ [] in let w : Val = both (ptr_val p) h in let out : Val = both w name_val in let good = both_fit Z p h fits in
    let memory : B.Denot = record { at = p; alloc = a; value = record { users = n; value = x } } in let nm : N.Denot = record { block = δ } in
    suffices ! (Run us) (subst (λ (vs : List Val). ent 𝓤 (Run us) (Run vs)) (sym (λ i. ws i ++ (eh i ++ []))) (id⊢ 𝓤 (Run us))) $
    enter ! 𝓣.C 𝓣.Λ fn us Post $ alloc_all ! (λ l. pass_all ! refl (typed p, (fits, tt)) $
    sets ! (of_opd ! (get_in ! (fld ! refl (stop !)) (sub ! 0 refl (entire !)))) refl (ptr_fits p) $ sets ! (agg ! (and_then ! (get ! refl) (and_then ! (get ! refl) (no_more !)))) refl good $
    sets ! (agg ! (no_more !)) refl (tt, tt) $ sets ! (agg ! (and_then ! (get ! refl) (and_then ! (get ! refl) (no_more !)))) refl (and_tt _ good.0, (good.1, (tt, tt))) $
    feq_i ! (List Val) (ptr_val p ∷ []) (ptr_val p ∷ []) refl $ fields_in ! RawPtr Z p a (ptr_val p) h $ fjoin ! $ move ! (1 ∷ []) $ name_in ! δ $ move ! (1 ∷ 0 ∷ []) $ fields_in ! B N memory nm w name_val $
    let Told : Type 0 = (memory.value ≡ record { users = n; value = x }) × (δ ≡ δ) in use0 𝓛 (raw (fact 𝓤 Told)) (fact_i 𝓤 Told (emp 𝓤) (refl, refl)) $ nothing ! $ nothing ! $ fjoin ! $ nothing ! $ fjoin ! $
    returns ! (look_at ! 0 refl) $ free_all ! refl $ keep ! (3 ∷ 0 ∷ 2 ∷ 1 ∷ []) $ by ! (leaves 𝓛 En hs c z out (memory, nm) (tt, (tt, tt)) (tt, (tt, tt)))))))
