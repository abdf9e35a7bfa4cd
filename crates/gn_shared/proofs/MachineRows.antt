use Rattle.std.specs.Prelude.{◌≡◌, true, false, [], ◌∷◌, refl}
use Rattle.gn_shared.specs.Machine.{Make, Add, Go, Look, Change, Allows, world}
use Rattle.gn_shared.proofs.Lists.{never_true}

-- two handles on one block: the first one looks, and finds that it is not alone
shared_by_two : world (Look 1 ∷ Add 2 1 ∷ Make 1 (7 ∷ []) ∷ []) ≡ record {
  blocks = record { items = 7 ∷ []; users = 2; alive = true } ∷ [];
  handles = record { holder = 1; block = 0; marked = false } ∷ record { holder = 2; block = 0; marked = false } ∷ [];
  used = 1 ∷ 2 ∷ [];
}
shared_by_two = refl

-- and so it may not write
may_not_write : ¬ Allows (world (Look 1 ∷ Add 2 1 ∷ Make 1 (7 ∷ []) ∷ [])) (Change 1 0 9)
may_not_write allowed = never_true allowed.1

-- once the second one has gone it may
alone_again : world (Change 1 0 9 ∷ Look 1 ∷ Go 2 ∷ Add 2 1 ∷ Make 1 (7 ∷ []) ∷ []) ≡ record {
  blocks = record { items = 9 ∷ []; users = 1; alive = true } ∷ [];
  handles = record { holder = 1; block = 0; marked = true } ∷ [];
  used = 1 ∷ 2 ∷ [];
}
alone_again = refl

-- with its last handle a block ends
ended : world (Go 1 ∷ Make 1 (7 ∷ []) ∷ []) ≡ record { blocks = record { items = 7 ∷ []; users = 0; alive = false } ∷ []; handles = []; used = 1 ∷ [] }
ended = refl
