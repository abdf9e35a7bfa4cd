-- Where the first of a name stands in a list.
use Rattle.std.specs.Prelude.{◌≡◌, ℕ, List, Option, bytes_eq}
use Rattle.std.specs.List.{position_from}
use Rattle.std.specs.BTreeMap.{BTreeMap, get_by}
use Rattle.std.specs.Cmp.Lexicographic.{slice_cmp}
use Rattle.std.specs.Ordering.{nat_cmp}
use denote.Ref.{Bor}

abbrev pub Text : Type 0
Text = List ℕ

-- the number, from 0, of the first of the names that is this one
abbrev pub first_of : List Text → Text → Option ℕ
first_of names name = position_from (bytes_eq name) 0 names

-- what the map has for a name
abbrev pub number_in : BTreeMap (Bor Text) ℕ → Text → Option ℕ
number_in numbers name = get_by (λ k. slice_cmp nat_cmp name k.now) numbers

-- the map has the number of the first of each name
abbrev pub AreFirst : BTreeMap (Bor Text) ℕ → List Text → Type 0
AreFirst numbers names = (name : Text) → number_in numbers name ≡ first_of names name
