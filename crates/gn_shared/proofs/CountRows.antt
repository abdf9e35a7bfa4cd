use Rattle.std.specs.Prelude.{◌≡◌, ◌-◌, ◌^◌, refl}
use Rattle.gn_shared.specs.Count.{nothing_noted, with_run, with_copy, both}

-- two runs, and one copy between them
noted : with_run (with_copy (with_run nothing_noted)) ≡ record { runs = 2; copies = 1 }
noted = refl

joined : both (record { runs = 3; copies = 4 }) (record { runs = 10; copies = 20 }) ≡ record { runs = 13; copies = 24 }
joined = refl

-- the number of copies stands still at its end, and runs are counted on
at_the_end : with_copy (record { runs = 5; copies = 2 ^ 64 - 1 }) ≡ record { runs = 5; copies = 2 ^ 64 - 1 }
at_the_end = refl

past_the_end : both (record { runs = 1; copies = 2 ^ 64 - 2 }) (record { runs = 1; copies = 7 }) ≡ record { runs = 2; copies = 2 ^ 64 - 1 }
past_the_end = refl
