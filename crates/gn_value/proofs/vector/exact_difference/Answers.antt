use Rattle.std.proofs.Common.{◌-ℤ◌, ◌∙◌}
use Rattle.gn_value.proofs.Bounded.{difference_fits}
use Rattle.gn_value.proofs.vector.exact_difference.Goals as goal

pub returns : goal.returns
returns c =
    difference_fits c.exact_product.result c.exact_product-2.result c.exact_product.ensures.bound c.exact_product-2.ensures.bound
    ∙ (λ i. c.exact_product.ensures.value i -ℤ c.exact_product-2.ensures.value i)
