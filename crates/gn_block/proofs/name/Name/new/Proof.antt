-- `new` makes a name.
use Rattle.gn_block.proofs.Names.{[], ◌∷◌, refl, Val, SProp, emp, id⊢, GName, ‵, raw, ◌⊛◌, some, later, ◌$◌, ◌∵◌, !, qed, by, keep, split, pick, use0, await, no_more, returns, enter, alloc_all, pass_all, free_all, look_at, sets, agg, tables, owns, types_at, nothing, alive, Stays, walk_of, proved, leaves}
use Rattle.gn_block.proofs.Naming.{Row as N, name_val, name_in, fresh_name}
use Rattle.gn_block.specs.contracts.name.Name.new.{ended, clauses}
use Rattle.gn_block.specs.contracts.name.Name.new.Key.{name as #self}
use Rattle.gn_block.proofs.name.Name.new.Statement.{statement}
use Rattle.gn_block.proofs.name.Name.new.Code as code
use Rattle.counted_slot.specs.Counting.{idle}

pub new_spec : {M : Type 1} → statement M
new_spec 𝓤 𝓛 𝓜 𝓡 wired =
    let H = 𝓛.H in let 𝓣 = tables 𝓤 H 𝓜 𝓡 𝓡.env in let En = ended in let c = clauses 𝓛 𝓜.mem 𝓡.returns in let fn = code.function in
    let hs : Stays En.signature.params En.kept = tt in
    proved 𝓛 En hs c 𝓜 𝓡 tt #self fn (code.unfolded 𝓤 H 𝓜 𝓡 wired) (λ κs. tt) (λ κs. tt) (λ κs qs bounds a gh are.
    let y : (walk_of 𝓛 En hs c).Ghost = ((κs, qs, bounds, a, tt), gh) in let Post : Val → SProp 𝓤 = (walk_of 𝓛 En hs c).post y in
    qed 𝓛 ((raw (alive 𝓛 En.signature κs qs) ⊛ ‵ (owns (types_at En.signature.params κs) a y.0.4)) ∷ raw ((c κs a).requires gh) ∷ []) ∵
    split ! $ keep ! (0 ∷ []) $
    enter ! 𝓣.C 𝓣.Λ fn [] Post $ alloc_all ! (λ l. pass_all ! refl tt $
    use0 𝓛 (later (some (λ (δ : GName). ‵ (idle δ)))) (fresh_name 𝓛) $ await ! tt $ pick ! (λ δ. let r : N.Denot = record { block = δ } in
    sets ! (agg ! (no_more !)) refl (tt, tt) $ name_in ! δ $ use0 𝓛 (raw (emp 𝓤)) (id⊢ 𝓤 (emp 𝓤)) $ nothing ! $
    returns ! (look_at ! 0 refl) $ free_all ! refl $ keep ! (3 ∷ 0 ∷ 2 ∷ 1 ∷ []) $ by ! (leaves 𝓛 En hs c y name_val r tt tt))))
