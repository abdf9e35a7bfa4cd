use Rattle.std.specs.Prelude.{ℕ, ◌+◌, ◌-◌, ◌^◌, min}

-- what a meter has noted: the runs of nodes, and the copies of arrays
pub record Count : Type 0 where
  pub runs : ℕ
  pub copies : ℕ

abbrev pub nothing_noted : Count
nothing_noted = record { runs = 0; copies = 0 }

-- copies are counted up to the largest number of 64 bits, and stand there
abbrev pub counted : ℕ → ℕ
counted copies = min copies (2 ^ 64 - 1)

-- one more run
abbrev pub with_run : Count → Count
with_run c = record { runs = c.runs + 1; copies = c.copies }

-- one more copy
abbrev pub with_copy : Count → Count
with_copy c = record { runs = c.runs; copies = counted (c.copies + 1) }

-- what two meters noted together
abbrev pub both : Count → Count → Count
both a b = record { runs = a.runs + b.runs; copies = counted (a.copies + b.copies) }
