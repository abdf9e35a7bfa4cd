-- `of` puts a box's memory and a name together.
use Rattle.gn_block.proofs.Names.{◌≡◌, ℕ, List, [], ◌∷◌, ◌++◌, sym, refl, subst, a_type, Val, inst_fn, SProp, ent, emp, id⊢, WpFn, ‵, raw, ◌⊛◌, ◌$◌, ◌∵◌, !, qed, by, move, keep, split, fsplit, fjoin, suffices, use0, stop, fld, of_opd, no_more, and_then, returns, enter, alloc_all, pass_all, free_all, look_at, get, get_in, sets, agg, sub, entire, tables, fact, fact_i, yes, no, RattleType, owns, types_at, plain, Ptr, ptr_val, nothing, param, layouts, alive, Stays, stay_dropped, walk_of, Goes-dropped, proved_at, leaves}
use Rattle.std.specs.contracts.alloc.Global as heap
use Rattle.std.proofs.alloc.Global.TheLaws as heap_laws
use Rattle.std.specs.contracts.impls.GlobalAllocator.TheImpl.{ghosts}
use Rattle.gn_block.specs.contracts.block.Core as core
use Rattle.gn_block.specs.contracts.block.Loose as D
use Rattle.gn_block.proofs.RawValues.{both, ptr_fits, both_fit, fields_out}
use Rattle.gn_block.specs.contracts.raw_box.RawBox as raw_box
use Rattle.gn_block.proofs.Naming.{Row as N, name_val, name_out}
use Rattle.gn_block.proofs.Fields.{val_of, typed, LooseWords, loose_made}
use Rattle.gn_block.specs.contracts.block.Loose.of.{ended, clauses}
use Rattle.gn_block.specs.contracts.block.Loose.of.Key.{name as #self}
use Rattle.gn_block.proofs.block.Loose.of.Statement.{statement}
use Rattle.gn_block.proofs.block.Loose.of.Code as code

pub of_spec : {M : Type 1} → statement M
of_spec 𝓤 𝓛 𝓜 𝓡 wired X L =
    let H = 𝓛.H in let 𝓣 = tables 𝓤 H 𝓜 𝓡 𝓡.env in let R : RattleType = param 0 X in let Z : RattleType = heap.the_row in let LZ = heap_laws.the_row_laws in let K : RattleType = core.the_row R in let Free : RattleType = D.the_row R in
    let En = ended X in let c = clauses X 𝓛 𝓜.mem 𝓡.returns in let inst = layouts (a_type ∷ []) (X, tt) in let fn = inst_fn inst code.function in let B : RattleType = raw_box.the_row K Z ghosts in
    let hs : Stays En.signature.params En.kept = (stay_dropped (plain (λ _. B)) no, (stay_dropped (plain (λ _. N)) yes, tt)) in
    proved_at 𝓛 En hs c 𝓜 𝓡 (Goes-dropped 𝓛 1 (plain (λ _. B)) no (λ κs x f. refl), (Goes-dropped 𝓛 1 (plain (λ _. N)) yes (λ κs x f. refl), tt)) (#self inst) fn (code.unfolded 𝓤 H 𝓜 𝓡 wired (X, tt)) (λ z are.
    let κs = z.0.0 in let qs = z.0.1 in let v : B.Denot = z.0.3.0 in let nm : N.Denot = z.0.3.1.0 in let δ : ℕ = nm.block in let Post : Val → SProp 𝓤 = (walk_of 𝓛 En hs c).post z in let Run : List Val → SProp 𝓤 = λ ws. WpFn 𝓤 H 𝓣.C 𝓣.Λ fn ws Post in
    qed 𝓛 ((raw (alive 𝓛 En.signature κs qs) ⊛ ‵ (owns (types_at En.signature.params κs) z.0.3 z.0.4)) ∷ raw ((c κs z.0.3).requires z.1) ∷ []) ∵ split ! $ keep ! (1 ∷ 0 ∷ []) $ fsplit ! $ fsplit ! $ fields_out ! Z LZ ghosts v.at v.alloc z.0.4.0 (λ h ws fits.
    -- [the allocator; the block; the name; tokens]
    move ! (2 ∷ []) $ fsplit ! $ name_out ! nm z.0.4.1.0 (λ wn. move ! (3 ∷ 0 ∷ 4 ∷ []) $
    let p : Ptr = v.at in let w : Val = both (ptr_val p) h in let good = both_fit Z p h fits in let out : Val = val_of p in let r : Free.Denot = record { at = p; users = v.value.users; value = v.value.value; block = δ } in
    suffices ! (Run (w ∷ name_val ∷ [])) (subst (λ (us : List Val). ent 𝓤 (Run (w ∷ name_val ∷ [])) (Run us)) (sym (λ i. ws i ++ (wn i ++ []))) (id⊢ 𝓤 (Run (w ∷ name_val ∷ [])))) $
    enter ! 𝓣.C 𝓣.Λ fn (w ∷ name_val ∷ []) Post $ alloc_all ! (λ l. pass_all ! refl (good, ((tt, tt), tt)) $
    sets ! (of_opd ! (get_in ! (fld ! refl (stop !)) (sub ! 0 refl (entire !)))) refl (ptr_fits p) $ sets ! (agg ! (and_then ! (get ! refl) (no_more !))) refl (typed p) $
    fjoin ! $ use0 𝓛 (‵ ((LooseWords R).own_val (p, tt) (out ∷ []))) (loose_made R 𝓛 p) $ fjoin ! $
    let Told : Type 0 = (v.value.users ≡ v.value.users) × (v.value.value ≡ v.value.value) × (δ ≡ δ) in use0 𝓛 (raw (fact 𝓤 Told)) (fact_i 𝓤 Told (emp 𝓤) (refl, refl, refl)) $ nothing ! $ nothing ! $ fjoin ! $ nothing ! $ fjoin ! $
    returns ! (look_at ! 0 refl) $ free_all ! refl $ keep ! (3 ∷ 0 ∷ 2 ∷ 1 ∷ []) $ by ! (leaves 𝓛 En hs c z out r (tt, (tt, tt)) (tt, (tt, tt)))))))
