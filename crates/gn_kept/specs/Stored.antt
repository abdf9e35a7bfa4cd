-- What a kept answer says of its file.
use Rattle.std.specs.Prelude.{ℕ, List, String, string_bytes}
use Rattle.gn_io.specs.Files.{FileAnswer, whole, absent, too_long}
use Rattle.gn_kept.specs.declared.kept.Answer.{Answer}
use Rattle.gn_kept.specs.declared.kept.Answer.TheVariants.{Whole, Absent, TooLong}

abbrev pub stored : Answer → FileAnswer
stored (Whole bytes) = whole bytes.items
stored Absent = absent
stored (TooLong size) = too_long size

abbrev pub entry_of : {A : Type 0} → String A × Answer → List ℕ × FileAnswer
entry_of e = (string_bytes e.0, stored e.1)
