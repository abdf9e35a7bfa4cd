use Rattle.std.proofs.Common.{◌≡◌, length, sym, arith}
use Rattle.gn_atom.proofs.Counts.{not_three}
use Rattle.gn_atom.proofs.constant.three_numbers.Goals as goal

pub returns-in_default : goal.returns-in_default
returns-in_default c = sym (not_three c.args.items.now (λ (e : length c.args.items.now ≡ 3). omega arith))

pub returns-in_default-2 : goal.returns-in_default-2
returns-in_default-2 c = sym (not_three c.args.items.now (λ (e : length c.args.items.now ≡ 3). omega arith))
