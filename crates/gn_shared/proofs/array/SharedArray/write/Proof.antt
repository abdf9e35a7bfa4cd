-- `write` takes what `claimed` gives, and lends the items where the handle is sole. Assumes `Logic`.
use Rattle.std.proofs.Common.{◌≡◌, ◌≢◌, ℕ, ◌^◌, ◌<◌, ◌≤◌, ◌*◌, List, [], ◌∷◌, ◌++◌, length, refl, ap, ◌∙◌, lit<}
use mir.Syntax.{a_type, a_number, named, dcons, dnil}
use mir.Val.{Val, vptr, vstruct, vcons, vnil, of_list}
use mir.MapTy.{inst_fn}
use base.Logic.{SProp, emp, id⊢}
use base.Fml.{Lft, ftrue, fres}
use types.Kit.{‵, raw, ◌⊛◌, some, later, at_ret, ◌$◌, ◌∵◌, !, qed, by, move, keep, drop, split, split3, join, fsplit, fsplit3, fjoin, fjoin3, fpick, pick, use0, use1, await, rewrite, feq_i, feq_l, flt_i, flt_l}
use types.Run.{stop, fld, addr, lit, of_opd, bin, no_more, and_then, first, branches, skips, exec, returns, returns_within, enter}
use types.ByLocal.{alloc_all, pass_all, free_all, look_at, get, get_in, through, sets, lands_as, env}
use types.Part.{agg, sub, whole as entire}
use types.Match.{live}
use contract.Monad.{fact, fact_i}
use contract.BorrowLft.{◌⊑◌}
use contract.Running.{tables}
use denote.Exit.{no}
use denote.RattleType.{RattleType, owns}
use denote.Array.{Array}
use denote.MutBor.{MutBor}
use denote.Ref.{MutRef, mut_vals, mut_Tells}
use denote.Slice.{MutSlice, slice_val}
use denote.Memory.{mem}
use denote.Builtin.{u64}
use denote.Signature.{types_at, plain, mut_ref_to}
use denote.Steps.{nothing, only, heard}
use denote.Param.{param, number, bounded}
use denote.Follow.{follows, follows_by}
use denote.Struct.Tuple.{Tuple}
use denote.Triple.Clauses.{Lasts, lasts}
use denote.Triple.Entry.{alive}
use denote.Triple.Spec.{triple_of}
use denote.Triple.Call.{calls_at}
use denote.Triple.Walked.{Stays, stay_dropped, walk_of, Goes-spent_ref}
use Rattle.core.specs.contracts.result.Result as RS
use Rattle.core.specs.declared.result.Result.TheVariants.{Ok, Err}
use Rattle.core.proofs.atomic.Steps.{fm}
use Rattle.std_alloc.proofs.ResultValues.{ok_of, err_of}
use Rattle.std_alloc.proofs.RcSteps.{is_not, is_so}
use Rattle.std_alloc.proofs.VecSteps.Shapes.{after}
use Rattle.std.proofs.raw_atomic.Walks.{proved, leaves}
use Rattle.gn_shared.specs.Writing.{with_written, written}
use Rattle.gn_shared.proofs.Writing.{refused_val, refused}
use Rattle.gn_shared.specs.contracts.array.SharedArray as C
use Rattle.gn_shared.specs.contracts.array.InUse as refusal
use Rattle.gn_shared.specs.contracts.array.SharedArray.claimed as G
use Rattle.gn_shared.proofs.array.SharedArray.claimed.Met as claimed
use Rattle.gn_shared.specs.contracts.array.SharedArray.sole_items as K
use Rattle.gn_shared.proofs.array.SharedArray.sole_items.Met as sole_items
use Rattle.gn_shared.specs.contracts.array.SharedArray.write.{ended, clauses}
use Rattle.gn_shared.specs.contracts.array.SharedArray.write.Key.{name as #self}
use Rattle.gn_shared.proofs.array.SharedArray.write.Statement.{statement}
use Rattle.gn_shared.proofs.array.SharedArray.write.Code as code

pub write_spec : {M : Type 1} → statement M
unfolding follows_by
write_spec 𝓤 𝓛 𝓜 𝓡 wired T N L LN d met =
    let H = 𝓛.H in let 𝓣 = tables 𝓤 H 𝓜 𝓡 𝓡.env in let NN : RattleType = number N in let R : RattleType = param 0 T in let Row : RattleType = C.the_row R (param 1 NN) in let En = ended T NN d in let c = clauses T NN d 𝓛 𝓜.mem 𝓡.returns in
    let inst = bounded (a_type ∷ a_number ∷ []) (T, (NN, tt)) (dcons d dnil) in let fn = inst_fn inst code.function in let closed = code.unfolded 𝓤 H 𝓜 𝓡 wired (T, (NN, tt)) d in
    let self = plain (λ _. Row) in let hs : Stays En.signature.params En.kept = (stay_dropped (mut_ref_to (0 ∷ []) tt self) no, tt) in
    proved 𝓛 En hs c 𝓜 𝓡 (Goes-spent_ref 𝓛 3 (0 ∷ []) tt self, tt) (#self inst) fn closed (λ κs. (mut_vals, tt)) (λ κs. (mut_Tells (named 0) κs.0 Row, tt)) (λ κs qs bounds a gh are.
    let s : MutBor Row.Denot = a.0 in let b : ℕ = s.ref_ptr.0 in let o : ℕ = s.ref_ptr.1 in let γ : ℕ = s.ghost_name in let κ : Lft = κs.0 in let Toks : SProp 𝓤 = alive 𝓛 En.signature κs qs in
    let F1 = κs.1.0 ⊑ T.lives in let F2 = κs.1.1.0 ⊑ [] in let F3 : Type 0 = 24 < 2 ^ 63 in
    let Ref : RattleType = MutRef (named 0) κ Row in let Pair : RattleType = Tuple (Ref ∷ u64 ∷ []) in let Slice : RattleType = MutSlice (named 0) κ R in
    let kg = triple_of 𝓛 (G.signature T NN) (G.spec T NN d 𝓛 𝓜.mem 𝓡.returns) in let yg : kg.Ghost = ((κs, qs, bounds, (s, tt), (vptr b o ∷ [], tt)), tt) in
    let Same : Pair.Denot → Type 0 = λ r. r.0.ghost_name ≡ γ in let Sole : Pair.Denot → Type 0 = λ r. r.1 ≡ 0 → (r.0.now.parts ≡ N) × (r.0.now.items ≡ s.now.items) × (r.0.now.block ≡ s.now.block) in
    let Refused : Pair.Denot → Type 0 = λ r. r.1 ≢ 0 → (2 ≤ r.1) × (s.now.parts ≢ N) × (r.0.now ≡ s.now) in
    let y : (walk_of 𝓛 En hs c).Ghost = ((κs, qs, bounds, a, (vptr b o ∷ [], tt)), gh) in let Post : Val → SProp 𝓤 = (walk_of 𝓛 En hs c).post y in
    qed 𝓛 ((raw Toks ⊛ ‵ (owns (types_at En.signature.params κs) a y.0.4)) ∷ raw (fact 𝓤 F1) ∷ raw (fact 𝓤 F2) ∷ raw (fact 𝓤 F3) ∷ ‵ ftrue ∷ []) ∵
    move ! (1 ∷ 2 ∷ 3 ∷ []) $ heard ! F1 (λ f1. heard ! F2 (λ f2. heard ! F3 (λ f3. move ! (1 ∷ []) $
    use0 𝓛 (raw (fact 𝓤 F3)) (fact_i 𝓤 F3 (emp 𝓤) f3) $ join ! $ use0 𝓛 (raw (fact 𝓤 F2)) (fact_i 𝓤 F2 (emp 𝓤) f2) $ join ! $ use0 𝓛 (raw (fact 𝓤 F1)) (fact_i 𝓤 F1 (emp 𝓤) f1) $ join ! $ move ! (1 ∷ 0 ∷ []) $ join ! $
    use1 𝓛 (raw (kg.pre yg)) (id⊢ 𝓤 _) $
    enter ! 𝓣.C 𝓣.Λ fn (vptr b o ∷ []) Post $ alloc_all ! (λ l. pass_all ! refl ((tt, tt), tt) $ let Ev = env fn.locals l in
    sets ! (addr ! (through ! refl (stop !))) refl (tt, tt) $
    calls_at ! (fm 𝓛 𝓜 𝓡) kg (claimed.met 𝓤 𝓛 𝓜 𝓡 (code.calls-gn_shared::array::SharedArray::claimed 𝓡.env wired) T N L LN d met) yg (and_then ! (get ! refl) (no_more !)) (λ u.
    use1 𝓛 (later (some (λ (r : Pair.Denot). (raw Toks ⊛ ‵ (Pair.own_val r (u ∷ []))) ⊛ some (λ (ls : Lasts (G.ended T NN d) κs yg.0.3). ‵ (lasts (G.ended T NN d) κs yg.0.3 ls) ⊛ (raw (fact 𝓤 (Same r)) ⊛ (raw (fact 𝓤 (Sole r)) ⊛ raw (fact 𝓤 (Refused r)))))))) (id⊢ 𝓤 (kg.post yg u)) $
    await ! tt $ pick ! (λ r. let me : MutBor Row.Denot = r.0 in let n : ℕ = r.1 in split ! $ move ! (1 ∷ []) $ pick ! (λ ls. split ! $ drop ! $ split3 ! $
    heard ! (Same r) (λ same. heard ! (Sole r) (λ sole. heard ! (Refused r) (λ busy. split ! $ move ! (1 ∷ []) $ fpick ! (λ vss. fsplit ! $ feq_l ! (λ eu. fsplit3 ! $ fsplit3 ! $ feq_l ! (λ er. move ! (2 ∷ []) $ fsplit ! $ feq_l ! (λ en. flt_l ! (λ fits.
    -- [what is seen through the handle; the borrow; nothing; tokens]
    lands_as ! (ap only (eu ∙ (λ j. vstruct (of_list (er j ++ (en j ++ []))) ∷ []))) refl (tt, (tt, (record { fits = fits }, tt))) $
    sets ! (of_opd ! (get_in ! (fld ! refl (stop !)) (sub ! 0 refl (entire !)))) refl (tt, tt) $ sets ! (of_opd ! (get_in ! (fld ! refl (stop !)) (sub ! 1 refl (entire !)))) refl (tt, record { fits = fits }) $
    sets ! (bin ! (get ! refl) (lit ! tt) tt) refl (tt, tt) $ first ! $ branches ! (get ! refl)
    (λ more. let told = busy (is_not n 0 more) in let v : Val = live 1 (vcons (refused_val n) vnil) in let Told : Type 0 = (2 ≤ n) × (s.now.parts ≢ N) in
    sets ! (agg ! (and_then ! (get ! refl) (no_more !))) refl (tt, (record { fits = fits }, tt)) $ sets ! (agg ! (and_then ! (lit ! tt) (and_then ! (get ! refl) (no_more !)))) refl (tt, (record { fits = lit< tt }, ((record { fits = fits }, tt), tt))) $
    use1 𝓛 (‵ (fres me.ghost_name (Row.coded.code me.now))) (𝓛.names.obs-res me.ghost_name (Row.coded.code me.now)) $ rewrite ! 0 (λ (z : ℕ × Row.Denot). ‵ (fres z.0 (Row.coded.code z.1))) (λ i. (same i, told.2 i)) refl $
    use0 𝓛 (raw (fact 𝓤 Told)) (fact_i 𝓤 Told (emp 𝓤) (told.0, told.1)) $ use0 𝓛 (raw (fact 𝓤 (Unit {0}))) (fact_i 𝓤 (Unit {0}) (emp 𝓤) tt) $ join ! $ move ! (1 ∷ 0 ∷ []) $ join ! $
    use0 𝓛 (‵ (refusal.the_row.own_val (record { users = n }) (refused_val n ∷ []))) (refused 𝓛 n fits) $ use1 𝓛 (‵ ((RS.the_row Slice refusal.the_row).own_val (Err (record { users = n })) (v ∷ []))) (err_of 𝓛 Slice refusal.the_row (record { users = n }) (refused_val n)) $
    -- [the result; what is said of it; the borrow; nothing; tokens]
    nothing ! $ nothing ! $ fjoin ! $ returns_within ! Post refl (look_at ! 0 refl) $ free_all ! refl $ keep ! (5 ∷ 0 ∷ 1 ∷ 2 ∷ []) $ by ! (leaves 𝓛 En hs c y v (Err (record { users = n })) (tt, tt) (tt, tt)))
    (λ zero. let got = sole (is_so n 0 zero) in let kk = triple_of 𝓛 (K.signature T NN) (K.spec T NN d 𝓛 𝓜.mem 𝓡.returns) in let at : List Val = mut_vals me in let yk : kk.Ghost = ((κs, qs, bounds, (me, tt), (at, tt)), tt) in let P : Type 0 = me.now.parts ≡ N in
    skips ! $ exec ! 𝓣.C 𝓣.Λ Ev (after 6 fn.body) (at_ret Ev Post) $ sets ! (addr ! (through ! refl (stop !))) refl (tt, tt) $
    feq_i ! (List Val) at at refl $ fjoin3 ! $ fjoin ! $ move ! (1 ∷ 0 ∷ []) $ join ! $
    use0 𝓛 (raw (fact 𝓤 P)) (fact_i 𝓤 P (emp 𝓤) got.0) $ use0 𝓛 (raw (fact 𝓤 F3)) (fact_i 𝓤 F3 (emp 𝓤) f3) $ join ! $ use0 𝓛 (raw (fact 𝓤 F2)) (fact_i 𝓤 F2 (emp 𝓤) f2) $ join ! $ use0 𝓛 (raw (fact 𝓤 F1)) (fact_i 𝓤 F1 (emp 𝓤) f1) $ join ! $ move ! (1 ∷ 0 ∷ []) $ join ! $
    use1 𝓛 (raw (kk.pre yk)) (id⊢ 𝓤 _) $
    calls_at ! (fm 𝓛 𝓜 𝓡) kk (sole_items.met 𝓤 𝓛 𝓜 𝓡 (code.calls-gn_shared::array::SharedArray::sole_items 𝓡.env wired) T N L LN d met) yk (and_then ! (get ! refl) (no_more !)) (λ v.
    use1 𝓛 (later (some (λ (q : Slice.Denot). (raw Toks ⊛ ‵ (Slice.own_val q (v ∷ []))) ⊛ some (λ (ls : Lasts (K.ended T NN d) κs yk.0.3). ‵ (lasts (K.ended T NN d) κs yk.0.3 ls) ⊛ (‵ (follows Row (Array R 0) me.ghost_name q.ghost_name (with_written N me.now)) ⊛ raw (fact 𝓤 (q.now ≡ me.now.items))))))) (id⊢ 𝓤 (kk.post yk v)) $
    await ! tt $ pick ! (λ q. split ! $ move ! (1 ∷ []) $ pick ! (λ ls. split3 ! $ drop ! $ move ! (1 ∷ []) $ heard ! (q.now ≡ me.now.items) (λ is. move ! (1 ∷ []) $ split ! $ move ! (1 ∷ []) $
    -- [the slice; tokens; what follows]
    fsplit ! $ fsplit ! $ feq_l ! (λ ev. fsplit ! $ flt_l ! (λ few. flt_l ! (λ small. let count : ℕ = length q.now in let w : Val = slice_val q.ref_ptr count in let r : Val = live 0 (vcons w vnil) in
    flt_i ! (count * (mem R).size) (2 ^ 63) small $ flt_i ! count (2 ^ 64) few $ fjoin ! $ feq_i ! (List Val) (w ∷ []) (w ∷ []) refl $ fjoin ! $ fjoin ! $
    lands_as ! (ap only ev) refl (tt, (tt, (record { fits = few }, tt))) $ sets ! (agg ! (and_then ! (lit ! tt) (and_then ! (get ! refl) (no_more !)))) refl (tt, (record { fits = lit< tt }, ((tt, (record { fits = few }, tt)), tt))) $
    use1 𝓛 (‵ ((RS.the_row Slice refusal.the_row).own_val (Ok q) (r ∷ []))) (ok_of 𝓛 Slice refusal.the_row q w) $ move ! (2 ∷ []) $
    rewrite ! 0 (λ (z : ℕ × (List R.Denot → Row.Denot)). ‵ (follows Row (Array R 0) z.0 q.ghost_name z.1)) (λ i. (same i, λ ws. record { items = written (got.1 i) ws; parts = N; block = got.2 i })) refl $
    use0 𝓛 (raw (fact 𝓤 (Unit {0}))) (fact_i 𝓤 (Unit {0}) (emp 𝓤) tt) $ use0 𝓛 (raw (fact 𝓤 (q.now ≡ s.now.items))) (fact_i 𝓤 (q.now ≡ s.now.items) (emp 𝓤) (is ∙ got.1)) $ join ! $ move ! (1 ∷ 0 ∷ []) $ join ! $
    nothing ! $ nothing ! $ fjoin ! $ returns ! (look_at ! 0 refl) $ free_all ! refl $ keep ! (3 ∷ 0 ∷ 2 ∷ 1 ∷ []) $ by ! (leaves 𝓛 En hs c y r (Ok q) (tt, tt) (tt, tt))))))))))))))))))))))))))
