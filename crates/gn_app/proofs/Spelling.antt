-- Words that spell a command.
use Rattle.std.proofs.Common.{◌≡◌, ◌<◌, true, false, List, [], ◌∷◌, length, map, Option, Some, None, Result, Ok, Err, String, string_bytes, refl, sym, ap, ◌∙◌, subst, arith, codes, Bor, append-nil, option_map}
use Rattle.std.specs.declared.alloc.Global.{Global}
use Rattle.std.specs.Prelude.{bytes_eq}
use Rattle.gn_kinds.specs.Row.{Text}
use Rattle.gn_app.specs.Command.{Command, eval, check, help, version, Spells, SpellsNone, Begins, IsMisfit, Misfits}
use Rattle.gn_app.specs.declared.request.Request.{Request}
use Rattle.gn_app.specs.declared.request.Request.TheVariants.{Eval, Check, Help, Version}
use Rattle.gn_app.specs.Seen.{command_of}
use Rattle.gn_app.specs.Steps.{Reads, ReadsOperands, ReadsOperand, ReadsAlone}
use Rattle.std.proofs.lemmas.Slice.Eq.{bytes_eq-Decides}
use Rattle.gn_app.proofs.Telling.{same_text}

-- no words
pub no_words : Reads [] (Err None)
no_words = (elim [ eval t o ↦ λ h. cc | check t ↦ λ h. cc | help ↦ λ h. cc | version ↦ λ h. cc ], record { command = help; more = codes "--help" ∷ []; spelled = refl })

-- ---- behind `eval`

few : (t o : Text) (rest : List Text) (c : Command) → Spells (codes "eval" ∷ t ∷ o ∷ rest) c → rest ≡ []
few t o rest (eval t' o') h = cc
few t o rest (check t') h = cc
few t o rest help h = cc
few t o rest version h = cc

too_few : (rest : List Text) → length rest < 2 → SpellsNone (codes "eval" ∷ rest)
too_few rest e (eval t o) h = let e' : rest ≡ t ∷ o ∷ [] = cc in absurd (omega (arith, subst (λ l. length l < 2) e' e))
too_few rest e (check t) h = cc
too_few rest e help h = cc
too_few rest e version h = cc

begins_eval : (rest : List Text) → length rest < 2 → Begins (codes "eval" ∷ rest)
begins_eval [] e = record { command = eval [] []; more = [] ∷ [] ∷ []; spelled = refl }
begins_eval (t ∷ []) e = record { command = eval t []; more = [] ∷ []; spelled = refl }
begins_eval (t ∷ o ∷ rest) e = absurd (omega arith)

pub after_eval : (rest : List Text) (r : Result Request (Option (Bor Text))) → ReadsOperands rest r → Reads (codes "eval" ∷ rest) r
after_eval rest (Ok (Eval t o)) h = ap (λ l. codes "eval" ∷ l) h
after_eval rest (Ok (Check t)) h = absurd h
after_eval rest (Ok Help) h = absurd h
after_eval rest (Ok Version) h = absurd h
after_eval rest (Err None) h = (too_few rest h, begins_eval rest h)
after_eval rest (Err (Some word)) (t, o, more, e) =
    let P : List Text → Type 0 = λ l. SpellsNone (codes "eval" ∷ l) × IsMisfit (codes "eval" ∷ l) word.now in
    subst P (sym e) (
      λ c h. behind more (few t o (word.now ∷ more) c h),
      record {
        front = codes "eval" ∷ t ∷ o ∷ [];
        back = more;
        parts = refl;
        fits = record { command = eval t o; more = []; spelled = refl };
        unfit = λ b. behind b.more (few t o (word.now ∷ b.more) b.command b.spelled);
      },
    )
  where
    behind : (l : List Text) → word.now ∷ l ≡ [] → ⊥
    behind l e = cc

-- ---- behind `check`

no_operand : (c : Command) → Spells (codes "check" ∷ []) c → ⊥
no_operand (eval t o) h = cc
no_operand (check t) h = cc
no_operand help h = cc
no_operand version h = cc

two_operands : (t w : Text) (rest : List Text) (c : Command) → Spells (codes "check" ∷ t ∷ w ∷ rest) c → ⊥
two_operands t w rest (eval t' o) h = cc
two_operands t w rest (check t') h = cc
two_operands t w rest help h = cc
two_operands t w rest version h = cc

pub after_check : (rest : List Text) (r : Result Request (Option (Bor Text))) → ReadsOperand rest r → Reads (codes "check" ∷ rest) r
after_check rest (Ok (Check t)) h = ap (λ l. codes "check" ∷ l) h
after_check rest (Ok (Eval t o)) h = absurd h
after_check rest (Ok Help) h = absurd h
after_check rest (Ok Version) h = absurd h
after_check rest (Err None) h =
    subst (λ l. SpellsNone (codes "check" ∷ l) × Begins (codes "check" ∷ l)) (sym h) (
      no_operand,
      record { command = check []; more = [] ∷ []; spelled = refl },
    )
after_check rest (Err (Some word)) (t, more, e) =
    let P : List Text → Type 0 = λ l. SpellsNone (codes "check" ∷ l) × IsMisfit (codes "check" ∷ l) word.now in
    subst P (sym e) (
      two_operands t word.now more,
      record {
        front = codes "check" ∷ t ∷ [];
        back = more;
        parts = refl;
        fits = record { command = check t; more = []; spelled = refl };
        unfit = λ b. two_operands t word.now b.more b.command b.spelled;
      },
    )

-- ---- a command of one word

module _ (first : Text) (request : Request) (spells : Spells (first ∷ []) (command_of request)) (two : (w : Text) (l : List Text) → SpellsNone (first ∷ w ∷ l)) where
  after_alone : (rest : List Text) (r : Result Request (Option (Bor Text))) → ReadsAlone request rest r → Reads (first ∷ rest) r
  after_alone rest (Ok x) h =
      subst (λ y. Spells (first ∷ rest) (command_of y)) (sym h.1) (subst (λ l. Spells (first ∷ l) (command_of request)) (sym h.0) spells)
  after_alone rest (Err None) h = absurd h
  after_alone rest (Err (Some word)) h =
      let P : List Text → Type 0 = λ l. SpellsNone (first ∷ l) × IsMisfit (first ∷ l) word.now in
      subst P (sym h.1) (
        two word.now h.0,
        record {
          front = first ∷ [];
          back = h.0;
          parts = refl;
          fits = record { command = command_of request; more = []; spelled = spells };
          unfit = λ b. two word.now b.more b.command b.spelled;
        },
      )

behind_help : (w : Text) (l : List Text) → SpellsNone (codes "--help" ∷ w ∷ l)
behind_help w l = elim [ eval t o ↦ λ h. cc | check t ↦ λ h. cc | help ↦ λ h. cc | version ↦ λ h. cc ]

behind_version : (w : Text) (l : List Text) → SpellsNone (codes "--version" ∷ w ∷ l)
behind_version w l = elim [ eval t o ↦ λ h. cc | check t ↦ λ h. cc | help ↦ λ h. cc | version ↦ λ h. cc ]

pub after_help : (rest : List Text) (r : Result Request (Option (Bor Text))) → ReadsAlone Help rest r → Reads (codes "--help" ∷ rest) r
after_help = after_alone (codes "--help") Help refl behind_help

pub after_version : (rest : List Text) (r : Result Request (Option (Bor Text))) → ReadsAlone Version rest r → Reads (codes "--version" ∷ rest) r
after_version = after_alone (codes "--version") Version refl behind_version

-- ---- a first word that no command has

differs : (a b : Text) → bytes_eq a b ≡ false → a ≡ b → ⊥
differs a b e same = let yes = (bytes_eq-Decides a b).1 same in cc

other_first : (word : Text) (rest : List Text) → bytes_eq word (codes "eval") ≡ false → bytes_eq word (codes "check") ≡ false → bytes_eq word (codes "--help") ≡ false → bytes_eq word (codes "--version") ≡ false → SpellsNone (word ∷ rest)
other_first word rest e d f g (eval t o) h = differs word (codes "eval") e cc
other_first word rest e d f g (check t) h = differs word (codes "check") d cc
other_first word rest e d f g help h = differs word (codes "--help") f cc
other_first word rest e d f g version h = differs word (codes "--version") g cc

unknown_first : (word : Bor Text) (rest : List Text) → bytes_eq word.now (codes "eval") ≡ false → bytes_eq word.now (codes "check") ≡ false → bytes_eq word.now (codes "--help") ≡ false → bytes_eq word.now (codes "--version") ≡ false → Reads (word.now ∷ rest) (Err (Some word))
unknown_first word rest e d f g = (
  other_first word.now rest e d f g,
  record {
    front = [];
    back = rest;
    parts = refl;
    fits = record { command = help; more = codes "--help" ∷ []; spelled = refl };
    unfit = λ b. other_first word.now b.more e d f g b.command b.spelled;
  },
)

-- ---- words as strings

pub three_words : (ws rest more last : List (String Global)) (a b w : String Global) (word : Text) → ws ≡ a ∷ rest → rest ≡ b ∷ more → more ≡ w ∷ last → word ≡ string_bytes w → map string_bytes ws ≡ string_bytes a ∷ string_bytes b ∷ word ∷ map string_bytes last
three_words ws rest more last a b w word e f h k = rw (e, f, h, k) refl

pub two_words : (ws rest last : List (String Global)) (a w : String Global) (word : Text) → ws ≡ a ∷ rest → rest ≡ w ∷ last → word ≡ string_bytes w → map string_bytes ws ≡ string_bytes a ∷ word ∷ map string_bytes last
two_words ws rest last a w word e f k = rw (e, f, k) refl

pub a_word : (ws rest : List (String Global)) (w : String Global) (word : Text) → ws ≡ w ∷ rest → word ≡ string_bytes w → map string_bytes ws ≡ word ∷ map string_bytes rest
a_word ws rest w word e f = rw (e, f) refl

pub nothing_said : (ws : List (String Global)) → length ws ≡ 0 → Reads (map string_bytes ws) (Err None)
nothing_said [] e = no_words
nothing_said (w ∷ ws) e = absurd (omega (arith, e))

-- the first word is a text that begins a command
module _ (ws rest : List (String Global)) (k : String Global) (text : Text) (r : Result Request (Option (Bor Text))) (e : ws ≡ k ∷ rest) (f : text ≡ string_bytes k) where
  with_first : (first : Text) → true ≡ bytes_eq text first → Reads (first ∷ map string_bytes rest) r → Reads (map string_bytes ws) r
  with_first first same h =
      let word : first ≡ string_bytes k = sym (same_text text first same) ∙ f in
      let all : first ∷ map string_bytes rest ≡ map string_bytes ws = rw e (ap (λ w. w ∷ map string_bytes rest) word) in
      subst (λ words. Reads words r) all h

  pub first_eval : true ≡ bytes_eq text (codes "eval") → ReadsOperands (map string_bytes rest) r → Reads (map string_bytes ws) r
  first_eval same h = with_first (codes "eval") same (after_eval (map string_bytes rest) r h)

  pub first_check : true ≡ bytes_eq text (codes "check") → ReadsOperand (map string_bytes rest) r → Reads (map string_bytes ws) r
  first_check same h = with_first (codes "check") same (after_check (map string_bytes rest) r h)

  pub first_help : true ≡ bytes_eq text (codes "--help") → ReadsAlone Help (map string_bytes rest) r → Reads (map string_bytes ws) r
  first_help same h = with_first (codes "--help") same (after_help (map string_bytes rest) r h)

  pub first_version : true ≡ bytes_eq text (codes "--version") → ReadsAlone Version (map string_bytes rest) r → Reads (map string_bytes ws) r
  first_version same h = with_first (codes "--version") same (after_version (map string_bytes rest) r h)

pub first_unknown : (ws rest : List (String Global)) (k : String Global) (a x b d : Text) (word : Bor Text) → ws ≡ k ∷ rest → a ≡ string_bytes k → x ≡ string_bytes k → b ≡ string_bytes k → d ≡ string_bytes k → word.now ≡ string_bytes k → bytes_eq a (codes "eval") ≡ false → bytes_eq x (codes "check") ≡ false → bytes_eq b (codes "--help") ≡ false → bytes_eq d (codes "--version") ≡ false → Reads (map string_bytes ws) (Err (Some word))
first_unknown ws rest k a x b d word e ka kx kb kd kw ea ex eb ed =
    let all : word.now ∷ map string_bytes rest ≡ map string_bytes ws = rw e (ap (λ w. w ∷ map string_bytes rest) kw) in
    let not_eval : bytes_eq word.now (codes "eval") ≡ false = ap (λ t. bytes_eq t (codes "eval")) (kw ∙ sym ka) ∙ ea in
    let not_check : bytes_eq word.now (codes "check") ≡ false = ap (λ t. bytes_eq t (codes "check")) (kw ∙ sym kx) ∙ ex in
    let not_help : bytes_eq word.now (codes "--help") ≡ false = ap (λ t. bytes_eq t (codes "--help")) (kw ∙ sym kb) ∙ eb in
    let not_version : bytes_eq word.now (codes "--version") ≡ false = ap (λ t. bytes_eq t (codes "--version")) (kw ∙ sym kd) ∙ ed in
    subst (λ words. Reads words (Err (Some word))) all (unknown_first word (map string_bytes rest) not_eval not_check not_help not_version)

-- a command begins with words that spell one
pub begins_whole : (words : List Text) (c : Command) → Spells words c → Begins words
begins_whole words c h =
    record { command = c; more = []; spelled = subst (λ l. Spells l c) (sym (append-nil words)) h }

-- where no word is named, a command begins with the words
pub begins_unnamed : (words : List Text) (word : Option (Bor Text)) → word ≡ None → Misfits words (option_map (λ w. w.now) word) → Begins words
begins_unnamed words word e = subst (λ o. Misfits words (option_map (λ w. w.now) o) → Begins words) (sym e) (λ h. h)
