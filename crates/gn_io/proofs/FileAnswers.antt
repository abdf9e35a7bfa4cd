-- What a shelf that shows its files serves is what fetching by name returns.
use Rattle.std.specs.Prelude.{◌≡◌, ℕ, ◌<◌, true, false, List, length, Option, Some, None, IsSomeAnd}
use Rattle.std.proofs.Common.{arith}
use Rattle.gn_io.specs.declared.shelf.Fetched.TheVariants.{Whole, TooLong}
use Rattle.gn_io.specs.Files.{absent, too_long, whole, file_answer, file_within, is_among}
use Rattle.gn_io.specs.Outside.{Files, Names}
use Rattle.gn_io.specs.Shelf.{Serves}

module _ (files : Files) (missed : Names) (limit : ℕ) (name : List ℕ) where
  -- a whole file is the one that the name gives
  pub whole_is_given : (bytes : List ℕ) → is_among name missed ≡ false
      → Serves (Some files) name limit bytes Whole → file_answer files missed limit name ≡ whole bytes
  whole_is_given bytes kept served = rw (kept, served.1) (grind arith)

  -- and so is the length of one that is too long
  pub length_is_given : (bytes : List ℕ) (size : ℕ) → is_among name missed ≡ false
      → Serves (Some files) name limit bytes (TooLong size) → file_answer files missed limit name ≡ too_long size
  length_is_given bytes size kept served =
      rw kept (of_held (files name) served.1 served.2)
    where
      of_held : (file : Option (List ℕ)) → limit < size → IsSomeAnd file (λ held. length held ≡ size) → file_within limit file ≡ too_long size
      of_held None above held = absurd held
      of_held (Some bytes') above held = grind (arith)

  -- a name that was missed gives nothing
  pub nothing_is_given : is_among name missed ≡ true → file_answer files missed limit name ≡ absent
  nothing_is_given gone = rw gone
