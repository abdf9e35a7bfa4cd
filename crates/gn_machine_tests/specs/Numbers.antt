-- A small set of nodes over numbers: a sum, a choice of two cases, the length of a file, and a zone that hands on its item.
use Rattle.std.proofs.Common.{subst}
use Rattle.std.specs.Prelude.{◌≡◌, ℕ, zero, suc, ◌+◌, ◌-◌, ◌^◌, min, refl, List, [], ◌∷◌, Option, Some, None, Bool, true, false, length, slice_index_or}
use Rattle.gn_node_set.specs.Meanings.{an_item, plain_link, Role, Plain, Switch, File, Zone, Choice, one_case, Answer, Whole, Rows, Meanings}
use Rattle.gn_exec_laws.specs.Fits.{IsLawful}
use Rattle.gn_machine_tests.specs.declared.numbers.NumberKind.{NumberKind}
use Rattle.gn_machine_tests.specs.declared.numbers.NumberKind.TheVariants.{Add, Choose, Measure, Repeat}

abbrev pub role_of : NumberKind → Role
role_of Add = Plain
role_of Choose = Switch
role_of Measure = File
role_of Repeat = Zone

-- a condition of 0 chooses the first case, any other the second
abbrev pub choice_by : ℕ → Choice
choice_by zero = one_case 0
choice_by (suc n) = one_case 1

-- sums stop at the largest number of 64 bits
abbrev pub sum : ℕ → ℕ → ℕ
sum a b = min (a + b) (2 ^ 64 - 1)

abbrev pub length_of : Option Answer → ℕ
length_of (Some (Whole bytes)) = length bytes
length_of _ = 0

abbrev pub number_of : NumberKind → List ℕ → Option Answer → ℕ
number_of Add inputs answer = sum (slice_index_or inputs 0 0) (slice_index_or inputs 1 0)
number_of Choose inputs answer = slice_index_or inputs 1 0
number_of Measure inputs answer = length_of answer
number_of Repeat inputs answer = slice_index_or inputs 0 0

abbrev pub rows : Rows NumberKind ℕ
rows = record {
  role = role_of;
  file = λ kind. [];
  choice = λ kind condition. choice_by condition;
  row = λ path kind inputs answer. record { outputs = number_of kind inputs answer ∷ []; warnings = [] };
  turns = λ kind count. 0;
  -- a conversion to a kind adds its number
  convert = λ number kind. sum number kind;
}

abbrev pub numbers : Meanings NumberKind ℕ (Unit {0}) ⊥
numbers = record {
  rows = rows;
  -- the turns of a zone do nothing
  opens = λ path kind count. record { nodes = []; outputs = plain_link (an_item 0) ∷ [] };
  sort = λ number. tt;
  shift = λ sort kind. Some tt;
  fits = λ kind sorts. true;
  gives = λ kind. tt ∷ [];
  height = λ kind. 0;
  tag = λ number path. None;
  nothing = 0;
}

abbrev pub numbers_are_lawful : IsLawful numbers
numbers_are_lawful = record {
  rows = λ path kind inputs answer can. record {
    sorts = λ plain. refl;
    count = λ zone. (number_of kind inputs answer, refl);
    tags = λ v h q t. absurd t;
    agree = λ u v h k q s. absurd s;
    warns = λ x h. absurd h;
  };
  opens = λ path kind count sorts ends zone fits. record {
    lower = λ node h. absurd h;
    in_turns = λ node h. absurd h;
    differ = tt;
    fit = tt;
    outputs = ((tt, refl, refl), tt);
  };
  conversion_sorts = λ v kind s e. refl;
  conversion_tags = λ v kind s e p. refl;
}

abbrev IsNotSet : Bool → Type 0
IsNotSet false = Unit {0}
IsNotSet true = ⊥

-- no number can be shared
abbrev pub not_shared : {A : Type 0} → false ≡ true → A
not_shared e = absurd (subst IsNotSet e tt)
