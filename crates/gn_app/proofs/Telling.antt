-- What fetching a name returns, for a shelf that shows its files.
use Rattle.std.proofs.Common.{◌≡◌, ℕ, ◌<◌, ◌≤◌, true, false, List, [], ◌∷◌, ◌++◌, length, Option, Some, None, refl, sym, subst, arith, IfSome}
use Rattle.std.specs.Prelude.{IsSomeAnd, bytes_eq, nat_le}
use Rattle.gn_io.specs.Outside.{Files, Names, with_name}
use Rattle.gn_io.specs.Files.{FileAnswer, whole, absent, too_long, file_answer, file_within}
use Rattle.gn_kinds.specs.Row.{Text}
use Rattle.gn_app.specs.Command.{Command, eval, check, help, version}
use Rattle.gn_app.specs.Job.{Giving}
use Rattle.gn_app.specs.Outcome.{Seen}
use Rattle.gn_app.specs.Run.{WhereTold, Told}
use Rattle.gn_app.specs.Load.{IsWhole, IsLong}
use Rattle.std.proofs.lemmas.Bool.Decides.{nat_tests}
use Rattle.std.proofs.lemmas.Slice.Eq.{bytes_eq-Decides}
use Rattle.std.proofs.lemmas.List.{drop_all}
use Rattle.std.proofs.Math.Seq.{drop-append_seam}

pub same_bytes : (name : Text) → bytes_eq name name ≡ true
same_bytes name = (bytes_eq-Decides name name).1 refl

-- a test of two texts that held
pub same_text : (a b : Text) → true ≡ bytes_eq a b → a ≡ b
same_text a b e = (bytes_eq-Decides a b).0 (sym e)

-- ---- facts of what fetching returns

pub where_both : (holds : Option Files) (before after : Option Names) (P Q R : Giving → Type 0) → ((files : Giving) → P files → Q files → R files) → WhereTold holds before after P → WhereTold holds before after Q → WhereTold holds before after R
where_both None before after P Q R f h k = tt
where_both (Some files) None after P Q R f h k = tt
where_both (Some files) (Some before) None P Q R f h k = tt
where_both (Some files) (Some before) (Some after) P Q R f h k = f _ h k

pub where_told : (holds : Option Files) (before after : Option Names) (P Q : Giving → Type 0) → ((files : Giving) → P files → Q files) → WhereTold holds before after P → WhereTold holds before after Q
where_told holds before after P Q f h = where_both holds before after P P Q (λ files p q. f files p) h h

-- a fact of what fetching returns, from another
pub told_map : (c : Command) (before now : Seen) (P Q : Giving → Type 0) → ((files : Giving) → P files → Q files) → Told c before now P → Told c before now Q
told_map (eval t o) before now P Q f h = where_told before.holds before.missed now.missed P Q f h
told_map (check t) before now P Q f h = where_told before.holds before.missed now.missed P Q f h
told_map help before now P Q f h = λ files. f files (h files)
told_map version before now P Q f h = λ files. f files (h files)

-- ---- what the name of a file gives

-- where nothing was missed
told_same : (holds : Option Files) (before now : Option Names) (P : Giving → Type 0) → now ≡ before → IfSome holds (λ files. P (file_answer files [])) → WhereTold holds before now P
told_same None before now P e h = tt
told_same (Some files) None now P e h = tt
told_same (Some files) (Some before) None P e h = tt
told_same (Some files) (Some before) (Some now) P e h =
    let Q : Names → Type 0 = λ names. P (file_answer files names) in
    let same : now ≡ before = cc in
    rw same (subst Q (sym (drop_all (length before) before (omega arith))) h)

-- where one name was missed
told_more : (holds : Option Files) (before now : Option Names) (name : Text) (P : Giving → Type 0) → now ≡ with_name before name → IfSome holds (λ files. P (file_answer files (name ∷ []))) → WhereTold holds before now P
told_more None before now name P e h = tt
told_more (Some files) None now name P e h = tt
told_more (Some files) (Some before) None name P e h = tt
told_more (Some files) (Some before) (Some now) name P e h =
    let Q : Names → Type 0 = λ names. P (file_answer files names) in
    let same : now ≡ before ++ name ∷ [] = cc in
    rw same (subst Q (sym (drop-append_seam before (name ∷ []))) h)

whole_within : (limit : ℕ) (bytes : List ℕ) (file : Option (List ℕ)) → length bytes ≤ limit → file ≡ Some bytes → file_within limit file ≡ whole bytes
whole_within limit bytes file h e =
    let fits : nat_le (length bytes) limit ≡ true = grind (arith, nat_tests) in
    rw (e, fits) refl

long_within : (limit size : ℕ) (file : Option (List ℕ)) → limit < size → IsSomeAnd file (λ bytes. length bytes ≡ size) → file_within limit file ≡ too_long size
long_within limit size None over k = absurd k
long_within limit size (Some bytes) over k =
    let long : nat_le (length bytes) limit ≡ false = grind (arith, nat_tests) in
    rw (long, k) refl

module _ (holds : Option Files) (before now : Option Names) (name : Text) (limit : ℕ) where
  -- the name gives this, as far as the shelf tells
  abbrev pub Gives : FileAnswer → Type 0
  Gives a = WhereTold holds before now (λ files. files limit name ≡ a)

  pub given_whole : (bytes : List ℕ) → now ≡ before → IsWhole holds name limit bytes → Gives (whole bytes)
  given_whole bytes e h = told_same holds before now (λ files. files limit name ≡ whole bytes) e (held holds h)
    where
      held : (o : Option Files) → IsWhole o name limit bytes → IfSome o (λ files. file_answer files [] limit name ≡ whole bytes)
      held None h = tt
      held (Some files) h = whole_within limit bytes (files name) h.fits h.held

  pub given_long : (size : ℕ) → now ≡ before → IsLong holds name limit size → Gives (too_long size)
  given_long size e h = told_same holds before now (λ files. files limit name ≡ too_long size) e (held holds h)
    where
      held : (o : Option Files) → IsLong o name limit size → IfSome o (λ files. file_answer files [] limit name ≡ too_long size)
      held None h = tt
      held (Some files) h = long_within limit size (files name) h.over h.held

  pub given_absent : now ≡ with_name before name → Gives absent
  given_absent e = told_more holds before now name (λ files. files limit name ≡ absent) e (missed holds)
    where
      missed : (o : Option Files) → IfSome o (λ files. file_answer files (name ∷ []) limit name ≡ absent)
      missed None = tt
      missed (Some files) = rw (same_bytes name) refl

  -- where another name was missed
  pub given_beside : (other : Text) (bytes : List ℕ) → bytes_eq name other ≡ false → now ≡ with_name before other → IsWhole holds name limit bytes → Gives (whole bytes)
  given_beside other bytes d e h = told_more holds before now other (λ files. files limit name ≡ whole bytes) e (held holds h)
    where
      held : (o : Option Files) → IsWhole o name limit bytes → IfSome o (λ files. file_answer files (other ∷ []) limit name ≡ whole bytes)
      held None h = tt
      held (Some files) h = rw d (whole_within limit bytes (files name) h.fits h.held)
