-- Steps are in a total order, and a pointer stands before all that is below it.
use Rattle.std.proofs.Common.{◌≡◌, false, [], ◌∷◌, refl}
use Rattle.std.specs.declared.cmp.Ordering.{Ordering}
use Rattle.std.specs.declared.cmp.Ordering.TheVariants.{Less, Equal, Greater}
use Rattle.std.specs.Ordering.{is_eq, is_gt, ordering_reverse}
use Rattle.std.specs.Cmp.{IsTotalOrder}
use Rattle.std.proofs.lemmas.Cmp.{nat_cmp_total, nat_list_cmp_total}
use Rattle.std.specs.Prelude.{true}
use Rattle.gn_pointers.specs.Pointers.{Step, index, key, Pointer, step_cmp, pointer_cmp}

step_antisymm : (s t : Step) → step_cmp s t ≡ ordering_reverse (step_cmp t s)
step_antisymm (index i) (index j) = nat_cmp_total.antisymm i j
step_antisymm (key k) (key l) = nat_list_cmp_total.antisymm k l
step_antisymm (index i) (key l) = refl
step_antisymm (key k) (index j) = refl

step_trans : (s t u : Step) → step_cmp s t ≡ Less → step_cmp t u ≡ Less → step_cmp s u ≡ Less
step_trans (index i) (index j) (index k) e f = nat_cmp_total.trans i j k e f
step_trans (key i) (key j) (key k) e f = nat_list_cmp_total.trans i j k e f
step_trans (index i) (index j) (key k) e f = refl
step_trans (index i) (key j) (key k) e f = refl
step_trans (index i) (key j) (index k) e f = cc
step_trans (key i) (key j) (index k) e f = cc
step_trans (key i) (index j) u e f = cc

step_congr : (s t u : Step) → step_cmp s t ≡ Equal → step_cmp s u ≡ step_cmp t u
step_congr (index i) (index j) (index k) e = nat_cmp_total.congr i j k e
step_congr (key i) (key j) (key k) e = nat_list_cmp_total.congr i j k e
step_congr (index i) (index j) (key k) e = refl
step_congr (key i) (key j) (index k) e = refl
step_congr (index i) (key j) u e = cc
step_congr (key i) (index j) u e = cc

pub step_total : IsTotalOrder step_cmp
step_total = record { antisymm = step_antisymm; trans = step_trans; congr = step_congr }

pub tied : (o : Ordering) → is_eq o ≡ true → o ≡ Equal
tied Less e = cc
tied Equal e = refl
tied Greater e = cc

pub top_first : (q : Pointer) → is_gt (pointer_cmp [] q) ≡ false
top_first [] = refl
top_first (s ∷ q) = refl
