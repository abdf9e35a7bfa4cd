use Rattle.std.proofs.Common.{◌+ℤ◌, ◌∙◌, FitsSigned, w64}
use Rattle.gn_transform.proofs.Sums.{shift_fits, shifted_sum}
use Rattle.gn_transform.proofs.transform.exact_along.Goals as goal

pub overflow_add-result-3 : goal.overflow_add-result-3
overflow_add-result-3 c =
    shift_fits c.exact_product-x.result c.exact_product-y.result c.exact_product-z.result c.args.shift.0
    c.exact_product-x.ensures.bound c.exact_product-y.ensures.bound c.exact_product-z.ensures.bound

pub returns : goal.returns
returns c =
    let fits : FitsSigned w64 c.args.shift.0 = search in
    shifted_sum c.exact_product-x.result c.exact_product-y.result c.exact_product-z.result c.args.shift.0
    c.exact_product-x.ensures.bound c.exact_product-y.ensures.bound c.exact_product-z.ensures.bound fits
    ∙ (λ i. c.exact_product-x.ensures.value i +ℤ c.exact_product-y.ensures.value i +ℤ c.exact_product-z.ensures.value i +ℤ c.args.shift.0)
