-- Sockets and nodes that are looked up by their names.
use Rattle.std.proofs.Common.{◌≡◌, ℕ, List, [], ◌∷◌, map, get_or, Some, None, codes, refl, sym, ◌∙◌, ap}
use Rattle.std.specs.Prelude.{bytes_eq, true, false, slice_get, option_map}
use Rattle.std.proofs.lemmas.Option.{slice_get-get_or}
use Rattle.gn_kinds.specs.declared.row.SocketKind.{SocketKind}
use Rattle.gn_kinds.specs.Row.{Text}
use Rattle.gn_names.specs.First.{first_of}
use Rattle.gn_tree.specs.Trees.{Socket, Link, Node}
use Rattle.gn_rules.specs.Sockets.{single, one_of, declared, ids, node_at}
use Rattle.gn_rules.specs.Scopes.{Scope}
use Rattle.gn_rules.specs.Things.{socket_names}
use Rattle.gn_scopes.proofs.Finding.{found_by_number, not_found}
use Rattle.gn_meaning.specs.Sites.{Way, Site, at_input, nowhere, plain_read}
use Rattle.gn_meaning.specs.Reads.{passed, number_in, read_from, link_read}
use Rattle.gn_origin.specs.Reading.{node_read}

names_of : (xs : List Socket) → map (λ d. d.name) (map one_of xs) ≡ socket_names xs
names_of [] = refl
names_of (x ∷ xs) = ap (λ names. x.name ∷ names) (names_of xs)

pub number_of : (xs : List Socket) (name : Text) → number_in (map one_of xs) name ≡ first_of (socket_names xs) name
number_of xs name = ap (λ names. first_of names name) (names_of xs)

-- the first socket of the name, and the kind of what it carries
pub declared_at : (xs : List Socket) (name : Text) (i : ℕ) (x : Socket) → first_of (socket_names xs) name ≡ Some i → slice_get xs i ≡ Some x → declared (map one_of xs) name ≡ Some (single x.kind)
declared_at xs name i x e f =
    let found = found_by_number xs name i x e in
    let same : Some (get_or xs i x) ≡ Some x = sym (slice_get-get_or xs i x found.0) ∙ f in
    let there : get_or xs i x ≡ x = cc in
    found.1 ∙ ap (λ y. Some (single y.kind)) there

module _ (to : ℕ → Site) (kind : SocketKind) (xs : List Socket) (name : Text) where
  -- what is read from one of these sockets, at the site of its number
  pub read_at_socket : (i : ℕ) (x : Socket) → first_of (socket_names xs) name ≡ Some i → slice_get xs i ≡ Some x
      → read_from kind (declared (map one_of xs) name) (option_map to (number_in (map one_of xs) name)) ≡ record { from = to i; through = passed x.kind kind }
  read_at_socket i x e f =
      ap (λ shape. read_from kind shape (option_map to (number_in (map one_of xs) name))) (declared_at xs name i x e f)
      ∙ ap (λ number. read_from kind (Some (single x.kind)) (option_map to number)) (number_of xs name ∙ e)

  pub read_at_none : first_of (socket_names xs) name ≡ None → read_from kind (declared (map one_of xs) name) (option_map to (number_in (map one_of xs) name)) ≡ plain_read nowhere
  read_at_none e = ap (λ shape. read_from kind shape (option_map to (number_in (map one_of xs) name))) (not_found xs name e)

module _ (s : Scope) (way : Way) (kind : SocketKind) (l : Link) where
  pub entry_link : bytes_eq l.from (codes "input") ≡ true → link_read s way kind l ≡ read_from kind (declared s.entries l.socket) (option_map (at_input way) (number_in s.entries l.socket))
  entry_link e = rw e refl

  pub node_link : (n : ℕ) (x : Node) → bytes_eq l.from (codes "input") ≡ false → first_of (ids s.nodes) l.from ≡ Some n → node_at s.nodes n ≡ Some x → link_read s way kind l ≡ node_read s way kind n x l.socket
  node_link n x e f g = rw e (rw f (rw g refl))

  pub loose_link : bytes_eq l.from (codes "input") ≡ false → first_of (ids s.nodes) l.from ≡ None → link_read s way kind l ≡ plain_read nowhere
  loose_link e f = rw e (rw f refl)
