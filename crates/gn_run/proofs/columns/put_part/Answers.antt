use Rattle.std.proofs.Common.{◌≡◌, ◌<◌, ◌≤◌, length, set, get_or, Some, refl, ap, sym, ◌∙◌, subst, arith, add-one}
use Rattle.std.specs.Prelude.{slice_get, All}
use Rattle.std.proofs.lemmas.Option.{slice_get_read, slice_get-get_or}
use Rattle.gn_value.specs.Registers.{register_len}
use Rattle.gn_run.specs.Putting.{CanPut, PutsAt}
use Rattle.gn_run.proofs.Putting.{SomePut, put_none, put_all, put_long, put_next, put_one}
use Rattle.gn_run.proofs.columns.put_part.Goals as goal

pub loop-k-init : goal.loop-k-init
loop-k-init c = put_none c.args.part.now.elements.items c.args.part.now.registers.items c.args.registers.now c.requires

pub bounds-registers-k : goal.bounds-registers-k
bounds-registers-k c =
    let part = c.args.part.now in
    let l = c.loop-k in
    omega (arith, c.loop-k-test.true, ap length c.deref-values-items.ensures.value, put_long part.elements.items l.k part.registers.items c.args.registers.now l.registers l.invariant)

pub put-requires : goal.put-requires
put-requires c =
    let part = c.args.part.now in
    let l = c.loop-k in
    let values = c.deref-values-items in
    let v = c.values-item.result in
    let into = get_or l.registers l.k c.index-registers-k.result in
    let long = put_long part.elements.items l.k part.registers.items c.args.registers.now l.registers l.invariant in
    let within : l.k < length l.registers = omega (arith, c.loop-k-test.true, ap length values.ensures.value, long) in
    let there : slice_get part.registers.items l.k ≡ Some v = subst (λ xs. slice_get xs l.k ≡ Some v) values.ensures.value (slice_get_read values.result.now (length values.result.now) l.k v refl c.loop-k-test.true c.values-item.is) in
    let can : CanPut part.elements.items v into = put_next part.elements.items l.k part.registers.items c.args.registers.now l.registers v into there (slice_get-get_or l.registers l.k c.index-registers-k.result within) c.requires l.invariant in
    record {
      kind = can.kind;
      long = can.len ∙ ap length (sym c.deref.ensures.value);
      within = subst (λ ns. All (λ n. n < register_len into) ns) (sym c.deref.ensures.value) can.within;
    }

pub loop-k-preserved : goal.loop-k-preserved
loop-k-preserved c =
    let part = c.args.part.now in
    let l = c.loop-k in
    let values = c.deref-values-items in
    let v = c.values-item.result in
    let into = get_or l.registers l.k c.index-registers-k.result in
    let long = put_long part.elements.items l.k part.registers.items c.args.registers.now l.registers l.invariant in
    let within : l.k < length l.registers = omega (arith, c.loop-k-test.true, ap length values.ensures.value, long) in
    let there : slice_get part.registers.items l.k ≡ Some v = subst (λ xs. slice_get xs l.k ≡ Some v) values.ensures.value (slice_get_read values.result.now (length values.result.now) l.k v refl c.loop-k-test.true c.values-item.is) in
    let here : PutsAt c.deref.result.now v into c.put.new.into = record { kind = c.put.ensures.kind; len = c.put.ensures.len; values = c.put.ensures.values } in
    let one : PutsAt part.elements.items v into c.put.new.into = subst (λ ns. PutsAt ns v into c.put.new.into) c.deref.ensures.value here in
    subst (λ n. SomePut part.elements.items n part.registers.items c.args.registers.now (set l.registers l.k c.put.new.into)) (sym (add-one l.k))
    (put_one part.elements.items l.k part.registers.items c.args.registers.now l.registers v into c.put.new.into there (slice_get-get_or l.registers l.k c.index-registers-k.result within) one l.invariant)

pub returns : goal.returns
returns c =
    let part = c.args.part.now in
    let l = c.loop-k in
    let all : length part.registers.items ≤ l.k = subst (λ xs. length xs ≤ l.k) c.deref-values-items.ensures.value c.loop-k-test.false in
    put_all part.elements.items l.k part.registers.items c.args.registers.now l.registers all l.invariant
