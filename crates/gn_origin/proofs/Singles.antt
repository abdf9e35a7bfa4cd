-- In a tree that keeps the rules, a socket that takes one reads what is written under its name, or its default.
use Rattle.std.proofs.Common.{◌≡◌, ◌++◌, ℕ, zero, suc, List, [], ◌∷◌, Option, Some, None, refl, sym, ◌∙◌, ap}
use Rattle.std.specs.Prelude.{Bool, true, false, not, ◌||◌, IsTrue, find, bytes_eq, slice_get, option_map, if◌then◌else◌}
use Rattle.std.specs.Option.{option_map_or}
use Rattle.std.specs.List.{list_any}
use Rattle.gn_kinds.specs.declared.row.SocketKind.{SocketKind}
use Rattle.gn_kinds.specs.declared.row.DefaultValue.{DefaultValue}
use Rattle.gn_kinds.specs.declared.row.DefaultValue.TheVariants.{Zero}
use Rattle.gn_kinds.specs.Row.{Text}
use Rattle.gn_tree.specs.Trees.{Input, constant, link, links, Link, Named, Tree}
use Rattle.gn_rules.specs.declared.rule.Rule.TheVariants as rule
use Rattle.gn_rules.specs.declared.shape.Shape.{Shape}
use Rattle.gn_rules.specs.Sockets.{Declared, declared}
use Rattle.gn_rules.specs.Scopes.{Scope}
use Rattle.gn_rules.specs.Things.{an_input}
use Rattle.gn_rules.specs.Rules.{KeepsRules, link_clashes}
use Rattle.gn_meaning.specs.Sites.{Way, at_constant, default_at, plain_read}
use Rattle.gn_meaning.specs.Reads.{input_reads, unwritten, socket_reads, reads_of, read_at}
use Rattle.gn_meaning.proofs.Reached.{Reached, keeps_rule}
use Rattle.gn_meaning.proofs.Inputs.{AllSingle, InputsReached}
use Rattle.gn_origin.specs.Reading.{one_read, named_read}

single_of : (ds : List Declared) (name : Text) (shape : Shape) → AllSingle ds → declared ds name ≡ Some shape → shape.many ≡ false
single_of [] name shape all e = cc
single_of (d ∷ ds) name shape all e = by_test (bytes_eq name d.name) (single_of ds name shape all.1) e
  where
    by_test : (b : Bool) → (declared ds name ≡ Some shape → shape.many ≡ false) → option_map (λ x. x.shape) (if b then Some d else find (λ x. bytes_eq name x.name) ds) ≡ Some shape → shape.many ≡ false
    by_test true rest h = let same : d.shape ≡ shape = cc in ap (λ x. x.many) (sym same) ∙ all.0
    by_test false rest h = rest h

breaks : (b c : Bool) → b ≡ false → ¬ IsTrue (not b || c) → ⊥
breaks true c e n = cc
breaks false c e n = n refl

-- what stands behind the defaults has zero
abbrev pub default_in : List DefaultValue → ℕ → DefaultValue
default_in [] i = Zero
default_in (x ∷ xs) zero = x
default_in (x ∷ xs) (suc i) = default_in xs i

module _ (t : Tree) (keeps : KeepsRules t) (s : Scope) (way : Way) (all : List Declared) (xs : List Named) (there : InputsReached t s all xs) (single : AllSingle all) where
  no_list : (o : Option Shape) (ls : List Link) → ((shape : Shape) → o ≡ Some shape → shape.many ≡ false) → Reached t (an_input s o (links ls)) → ⊥
  no_list None ls one h = keeps_rule t rule.Links keeps h refl
  no_list (Some shape) ls one h = breaks shape.many (list_any (link_clashes s shape.kind) ls) (one shape refl) (keeps_rule t rule.Kinds keeps h)

  input_is : (o : Option Shape) (x : Input) (kind : SocketKind) → ((shape : Shape) → o ≡ Some shape → shape.many ≡ false) → Reached t (an_input s o x) → input_reads s way kind x ≡ one_read s way kind x ∷ []
  input_is o (constant v) kind one h = refl
  input_is o (link l) kind one h = refl
  input_is o (links ls) kind one h = absurd (no_list o ls one h)

  unwritten_is : (shape : Shape) (default : DefaultValue) → shape.many ≡ false → unwritten shape default ≡ plain_read (at_constant (default_at shape.kind default)) ∷ []
  unwritten_is shape default e = rw e refl

  socket_is : (d : Declared) (default : DefaultValue) → d.shape.many ≡ false → socket_reads s way xs d default ≡ named_read s way xs d.name d.shape.kind (default_at d.shape.kind default) ∷ []
  socket_is d default one = by_found (find (λ x. bytes_eq d.name x.name) xs) refl
    where
      by_found : (o : Option Named) → find (λ x. bytes_eq d.name x.name) xs ≡ o
          → option_map_or (λ x. input_reads s way d.shape.kind x.input) o (unwritten d.shape default) ≡ option_map_or (λ x. one_read s way d.shape.kind x.input) o (plain_read (at_constant (default_at d.shape.kind default))) ∷ []
      by_found None e = unwritten_is d.shape default one
      by_found (Some x) e = input_is (declared all x.name) x.input d.shape.kind (λ shape. single_of all x.name shape single) (there d.name x e)

  pub read_of_socket : (ds : List Declared) (defaults : List DefaultValue) (i : ℕ) (d : Declared) → AllSingle ds → slice_get ds i ≡ Some d
      → read_at (reads_of s way xs ds defaults) i ≡ named_read s way xs d.name d.shape.kind (default_at d.shape.kind (default_in defaults i))
  read_of_socket [] defaults i d one e = cc
  read_of_socket (y ∷ ds) [] zero d one e =
      let same : y ≡ d = cc in
      ap (λ reads. read_at (reads ++ reads_of s way xs ds []) 0) (socket_is y Zero one.0) ∙ ap (λ z. named_read s way xs z.name z.shape.kind (default_at z.shape.kind Zero)) same
  read_of_socket (y ∷ ds) (x ∷ more) zero d one e =
      let same : y ≡ d = cc in
      ap (λ reads. read_at (reads ++ reads_of s way xs ds more) 0) (socket_is y x one.0) ∙ ap (λ z. named_read s way xs z.name z.shape.kind (default_at z.shape.kind x)) same
  read_of_socket (y ∷ ds) [] (suc i) d one e = ap (λ reads. read_at (reads ++ reads_of s way xs ds []) (suc i)) (socket_is y Zero one.0) ∙ read_of_socket ds [] i d one.1 e
  read_of_socket (y ∷ ds) (x ∷ more) (suc i) d one e = ap (λ reads. read_at (reads ++ reads_of s way xs ds more) (suc i)) (socket_is y x one.0) ∙ read_of_socket ds more i d one.1 e
