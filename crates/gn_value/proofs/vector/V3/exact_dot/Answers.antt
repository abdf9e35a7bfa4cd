use Rattle.std.proofs.Common.{◌+ℤ◌, ◌∙◌}
use Rattle.gn_value.proofs.Bounded.{sum_fits}
use Rattle.gn_value.proofs.vector.V3.exact_dot.Goals as goal

pub returns : goal.returns
returns c =
    sum_fits c.exact_product.result c.exact_product-2.result c.exact_product-3.result c.exact_product.ensures.bound c.exact_product-2.ensures.bound c.exact_product-3.ensures.bound
    ∙ (λ i. c.exact_product.ensures.value i +ℤ c.exact_product-2.ensures.value i +ℤ c.exact_product-3.ensures.value i)
