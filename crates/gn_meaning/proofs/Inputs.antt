-- In a tree that keeps the rules, what the inputs of nodes and of outputs read is near.
use Rattle.std.proofs.Common.{◌≡◌, ◌<◌, ◌+◌, inl, inr, ℕ, suc, List, [], ◌∷◌, ◌++◌, length, Option, Some, None, refl, sym, ◌∙◌, ap, subst, arith}
use Rattle.std.specs.Prelude.{Bool, true, false, not, ◌||◌, IsTrue, find, bytes_eq, is_none, slice_get, option_map, if◌then◌else◌}
use Rattle.std.specs.Option.{option_map_or}
use Rattle.std.specs.List.{list_any}
use Rattle.std.proofs.lemmas.List.{length-append}
use Rattle.std.proofs.lemmas.Slice.Eq.{bytes_eq-Decides}
use Rattle.gn_kinds.specs.declared.row.SocketKind.{SocketKind}
use Rattle.gn_kinds.specs.declared.row.DefaultValue.{DefaultValue}
use Rattle.gn_kinds.specs.declared.row.DefaultValue.TheVariants.{Zero}
use Rattle.gn_kinds.specs.Row.{Text}
use Rattle.gn_names.specs.First.{first_of}
use Rattle.gn_pointers.specs.Pointers.{index, key}
use Rattle.gn_tree.specs.Trees.{Link, Input, constant, link, links, Named, Tree}
use Rattle.gn_rules.specs.declared.rule.Rule.TheVariants as rule
use Rattle.gn_rules.specs.declared.shape.Shape.{Shape}
use Rattle.gn_rules.specs.Sockets.{Declared, declared, ids}
use Rattle.gn_rules.specs.Scopes.{Scope, source}
use Rattle.gn_rules.specs.Things.{the_inputs, an_input, a_link}
use Rattle.gn_rules.specs.Rules.{KeepsRules, links_of_input, links_of, link_clashes}
use Rattle.gn_node_set.specs.Meanings.{Has}
use Rattle.gn_meaning.specs.Sites.{Way, at_constant, a_value, default_at, Read, plain_read, nowhere}
use Rattle.gn_meaning.specs.Reads.{input_reads, unwritten, socket_reads, reads_of, link_read, read_at}
use Rattle.gn_meaning.proofs.Found.{Near, constant as near_constant, link_near}
use Rattle.gn_meaning.proofs.Options.{some_same}
use Rattle.gn_meaning.proofs.Lists.{has_either, has_first, has_second, has_found, passes, has_at, image_of, number_of}
use Rattle.gn_meaning.proofs.Reached.{Reached, part, keeps_rule, link_part, input_part}

not_true : (b : Bool) → ¬ IsTrue b → b ≡ false
not_true true n = absurd (n refl)
not_true false n = refl

neither : (b c : Bool) → ¬ IsTrue (b || c) → (b ≡ false) × (c ≡ false)
neither true c n = absurd (n refl)
neither false c n = (refl, not_true c n)

-- none of these takes a list
abbrev pub AllSingle : List Declared → Type 0
AllSingle [] = Unit {0}
AllSingle (d ∷ ds) = (d.shape.many ≡ false) × AllSingle ds

declared_single : (ds : List Declared) (name : Text) (shape : Shape) → AllSingle ds → declared ds name ≡ Some shape → shape.many ≡ false
declared_single [] name shape all e = cc
declared_single (d ∷ ds) name shape all e = by_test (bytes_eq name d.name) (declared_single ds name shape all.1) e
  where
    by_test : (b : Bool) → (declared ds name ≡ Some shape → shape.many ≡ false) → option_map (λ x. x.shape) (if b then Some d else find (λ x. bytes_eq name x.name) ds) ≡ Some shape → shape.many ≡ false
    by_test true rest h = let same : d.shape ≡ shape = cc in ap (λ x. x.many) (sym same) ∙ all.0
    by_test false rest h = rest h

-- the input that counts for each name stands in the tree
abbrev pub InputsReached : Tree → Scope → List Declared → List Named → Type 0
InputsReached t s ds xs = (name : Text) (x : Named) → find (λ y. bytes_eq name y.name) xs ≡ Some x → Reached t (an_input s (declared ds x.name) x.input)

pub inputs_reached : (t : Tree) (s : Scope) (ds : List Declared) (xs : List Named) → Reached t (the_inputs s ds xs) → InputsReached t s ds xs
inputs_reached t s ds xs there name x e = part (key name) (an_input s (declared ds x.name) x.input) there (input_part s ds name xs x e)

module _ (t : Tree) (keeps : KeepsRules t) (s : Scope) (way : Way) where
  module _ (P : ℕ → Type 0) where
    -- the nodes that these links come from have P
    abbrev pub From : List Link → Type 0
    From ls = (l : Link) → Has ls l → (m : ℕ) → first_of (ids s.nodes) l.from ≡ Some m → P m

    abbrev pub AllNear : List Read → Type 0
    AllNear reads = (r : Read) → Has reads r → Near s way P r.from

    constant_near : (c : _) (r : Read) → r ≡ plain_read (at_constant c) → Near s way P r.from
    constant_near c r e = subst (λ q. Near s way P q.from) (sym e) (near_constant c)

    input_near : (o : Option Shape) (x : Input) (kind : SocketKind) → Reached t (an_input s o x) → From (links_of_input x) → AllNear (input_reads s way kind x)
    input_near o (constant v) kind there from r (inl e) = constant_near (a_value v) r e
    input_near o (constant v) kind there from r (inr h) = absurd h
    input_near o (link l) kind there from r (inl e) =
        let leads : (is_none o ≡ false) × (is_none (source s l) ≡ false) = neither (is_none o) (is_none (source s l)) (keeps_rule t rule.Links keeps there) in
        subst (λ q. Near s way P q.from) (sym e) (link_near s way P l kind (from l (inl refl)) leads.1)
    input_near o (link l) kind there from r (inr h) = absurd h
    input_near o (links ls) kind there from r h =
        let of : (l : Link) × Has ls l × (r ≡ link_read s way kind l) = image_of (link_read s way kind) ls r h in
        let number : (n : ℕ) × (slice_get ls n ≡ Some of.0) = number_of ls of.0 of.1 in
        let reached : Reached t (a_link s of.0) = part (index (0 + number.0)) (a_link s of.0) there (link_part s 0 number.0 ls of.0 number.1) in
        subst (λ q. Near s way P q.from) (sym of.2) (link_near s way P of.0 kind (from of.0 of.1) (not_true (is_none (source s of.0)) (keeps_rule t rule.Links keeps reached)))

    unwritten_near : (shape : Shape) (default : DefaultValue) (many : Bool) → shape.many ≡ many → AllNear (unwritten shape default)
    unwritten_near shape default true e = rw e (λ r h. absurd h)
    unwritten_near shape default false e = rw e (λ r h. elim h [ inl same ↦ constant_near (default_at shape.kind default) r same | inr none ↦ absurd none ])

  has_link : (xs : List Named) (x : Named) (l : Link) → Has xs x → Has (links_of_input x.input) l → Has (links_of xs) l
  has_link [] x l h k = absurd h
  has_link (y ∷ xs) x l (inl e) k = has_first (links_of_input y.input) (links_of xs) l (subst (λ z. Has (links_of_input z.input) l) e k)
  has_link (y ∷ xs) x l (inr h) k = has_second (links_of_input y.input) (links_of xs) l (has_link xs x l h k)

  module _ (all : List Declared) (xs : List Named) (there : InputsReached t s all xs) where
    module _ (P : ℕ → Type 0) (from : From P (links_of xs)) where
      socket_near : (d : Declared) (default : DefaultValue) → AllNear P (socket_reads s way xs d default)
      socket_near d default = by_found (find (λ x. bytes_eq d.name x.name) xs) refl
        where
          by_found : (o : Option Named) → find (λ x. bytes_eq d.name x.name) xs ≡ o → AllNear P (option_map_or (λ x. input_reads s way d.shape.kind x.input) o (unwritten d.shape default))
          by_found None e = unwritten_near P d.shape default d.shape.many refl
          by_found (Some x) e =
              input_near P (declared all x.name) x.input d.shape.kind (there d.name x e) (λ l h. from l (has_link xs x l (has_found (λ y. bytes_eq d.name y.name) xs x e) h))

      both_near : (before after : List Read) → AllNear P before → AllNear P after → AllNear P (before ++ after)
      both_near before after h k r there = elim (has_either before after r there) [ inl a ↦ h r a | inr b ↦ k r b ]

      pub reads_near : (ds : List Declared) (defaults : List DefaultValue) → AllNear P (reads_of s way xs ds defaults)
      reads_near [] defaults = λ r h. absurd h
      reads_near (d ∷ ds) [] = both_near (socket_reads s way xs d Zero) (reads_of s way xs ds []) (socket_near d Zero) (reads_near ds [])
      reads_near (d ∷ ds) (x ∷ more) = both_near (socket_reads s way xs d x) (reads_of s way xs ds more) (socket_near d x) (reads_near ds more)

    -- ---- a socket that takes no list reads once

    input_once : (o : Option Shape) (x : Input) (kind : SocketKind) → ((shape : Shape) → o ≡ Some shape → shape.many ≡ false) → Reached t (an_input s o x) → length (input_reads s way kind x) ≡ 1
    input_once o (constant v) kind one h = refl
    input_once o (link l) kind one h = refl
    input_once None (links ls) kind one h = absurd (keeps_rule t rule.Links keeps h refl)
    input_once (Some shape) (links ls) kind one h =
        let fits : (not shape.many ≡ false) × (list_any (link_clashes s shape.kind) ls ≡ false) = neither (not shape.many) (list_any (link_clashes s shape.kind) ls) (keeps_rule t rule.Kinds keeps h) in
        let no : not false ≡ false = subst (λ b. not b ≡ false) (one shape refl) fits.0 in
        cc

    unwritten_once : (shape : Shape) (default : DefaultValue) → shape.many ≡ false → length (unwritten shape default) ≡ 1
    unwritten_once shape default e = rw e refl

    one_or_more : (before after : List Read) → length before ≡ 1 → 0 < length (before ++ after)
    one_or_more before after e = subst (λ n. 0 < n) (sym (length-append before after)) (let sum : 0 < length before + length after = omega (arith, e) in sum)

    -- a list of sockets of which the first takes no list reads something
    first_socket : (d : Declared) (rest : List Declared) (default : DefaultValue) → all ≡ d ∷ rest → d.shape.many ≡ false → length (socket_reads s way xs d default) ≡ 1
    first_socket d rest default e one = by_found (find (λ x. bytes_eq d.name x.name) xs) refl
      where
        first_shape : (shape : Shape) → declared (d ∷ rest) d.name ≡ Some shape → shape.many ≡ false
        first_shape shape h =
            let same : d.shape ≡ shape = some_same (sym (ap (λ b. option_map (λ y. y.shape) (if b then Some d else find (λ y. bytes_eq d.name y.name) rest)) ((bytes_eq-Decides d.name d.name).1 refl)) ∙ h) in
            ap (λ y. y.many) (sym same) ∙ one

        by_found : (o : Option Named) → find (λ x. bytes_eq d.name x.name) xs ≡ o → length (option_map_or (λ x. input_reads s way d.shape.kind x.input) o (unwritten d.shape default)) ≡ 1
        by_found None f = unwritten_once d.shape default one
        by_found (Some x) f =
            let named : d.name ≡ x.name = (bytes_eq-Decides d.name x.name).0 (passes (λ y. bytes_eq d.name y.name) xs x f) in
            input_once (declared all x.name) x.input d.shape.kind (λ shape h. first_shape shape (sym (λ i. declared (e i) (sym named i)) ∙ h)) (there d.name x f)

    pub first_reads : (d : Declared) (rest : List Declared) (defaults : List DefaultValue) → all ≡ d ∷ rest → d.shape.many ≡ false → 0 < length (reads_of s way xs (d ∷ rest) defaults)
    first_reads d rest [] e one = one_or_more (socket_reads s way xs d Zero) (reads_of s way xs rest []) (first_socket d rest Zero e one)
    first_reads d rest (x ∷ more) e one = one_or_more (socket_reads s way xs d x) (reads_of s way xs rest more) (first_socket d rest x e one)

    module _ (single : AllSingle all) where
      socket_once : (d : Declared) (default : DefaultValue) → d.shape.many ≡ false → length (socket_reads s way xs d default) ≡ 1
      socket_once d default one = by_found (find (λ x. bytes_eq d.name x.name) xs) refl
        where
          by_found : (o : Option Named) → find (λ x. bytes_eq d.name x.name) xs ≡ o → length (option_map_or (λ x. input_reads s way d.shape.kind x.input) o (unwritten d.shape default)) ≡ 1
          by_found None e = unwritten_once d.shape default one
          by_found (Some x) e = input_once (declared all x.name) x.input d.shape.kind (λ shape. declared_single all x.name shape single) (there d.name x e)

      one_more : (reads rest : List Read) (n : ℕ) → length reads ≡ 1 → length rest ≡ n → length (reads ++ rest) ≡ suc n
      one_more reads rest n e f = length-append reads rest ∙ (let sum : length reads + length rest ≡ suc n = omega (arith, e, f) in sum)

      pub reads_once : (ds : List Declared) (defaults : List DefaultValue) → AllSingle ds → length (reads_of s way xs ds defaults) ≡ length ds
      reads_once [] defaults one = refl
      reads_once (d ∷ ds) [] one = one_more (socket_reads s way xs d Zero) (reads_of s way xs ds []) (length ds) (socket_once d Zero one.0) (reads_once ds [] one.1)
      reads_once (d ∷ ds) (x ∷ more) one = one_more (socket_reads s way xs d x) (reads_of s way xs ds more) (length ds) (socket_once d x one.0) (reads_once ds more one.1)

      pub has_read : (ds : List Declared) (defaults : List DefaultValue) (i : ℕ) → AllSingle ds → i < length ds → Has (reads_of s way xs ds defaults) (read_at (reads_of s way xs ds defaults) i)
      has_read ds defaults i one h = has_at (reads_of s way xs ds defaults) i (plain_read nowhere) (subst (λ n. i < n) (sym (reads_once ds defaults one)) h)
