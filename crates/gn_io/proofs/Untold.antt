-- What a shelf that shows nothing owes by its counts alone.
use Rattle.std.specs.Prelude.{ℕ, List, None, refl}
use Rattle.std.proofs.Common.{inl, arith}
use Rattle.gn_io.specs.declared.shelf.Fetched.{Fetched}
use Rattle.gn_io.specs.declared.shelf.Fetched.TheVariants.{Whole, Absent, TooLong, Failed, Memory}
use Rattle.gn_io.specs.FolderShelf.{FileCounts, counted}
use Rattle.gn_io.specs.Outside.{Rose}
use Rattle.gn_io.specs.Shelf.{AsksFor, Misses, OnAbsent, OnFailedFetch}

pub asks_untold : (name : List ℕ) (answer : Fetched) → AsksFor name answer None None
asks_untold name Whole = refl
asks_untold name Absent = refl
asks_untold name (TooLong size) = refl
asks_untold name Failed = refl
asks_untold name Memory = inl refl

pub misses_untold : (name : List ℕ) (answer : Fetched) → Misses name answer None None
misses_untold name Absent = refl
misses_untold name _ = refl

pub misses_rose : (before : FileCounts) (answer : Fetched) → OnAbsent answer (Rose before.misses (counted before answer).misses)
misses_rose before Absent = omega arith
misses_rose before _ = tt

pub faults_rose : (before : FileCounts) (answer : Fetched) → OnFailedFetch answer (Rose before.faults (counted before answer).faults)
faults_rose before Failed = omega arith
faults_rose before _ = tt
