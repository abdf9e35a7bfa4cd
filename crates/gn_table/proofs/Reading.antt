-- What links, sockets and nodes read.
use Rattle.std.proofs.Common.{◌≡◌, ◌<◌, ◌+◌, ℕ, List, [], ◌∷◌, ◌++◌, length, map, drop, get_or, true, false, Option, Some, None, codes, refl, sym, ap, ◌∙◌, append_assoc}
use Rattle.std.specs.Prelude.{bytes_eq, option_map, option_and_then, slice_get}
use Rattle.std.specs.Option.{option_map_or}
use Rattle.std.proofs.lemmas.List.{drop_more}
use Rattle.gn_kinds.specs.declared.row.SocketKind.{SocketKind}
use Rattle.gn_kinds.specs.Row as row
use Rattle.gn_kinds.specs.Row.{Text}
use Rattle.gn_names.specs.First.{first_of}
use Rattle.gn_tree.specs.Trees.{Group, Link, Named, Node, node, Socket}
use Rattle.gn_tree.specs.Nodes.{kind_in, settings_in, inputs_in}
use Rattle.gn_rules.specs.Sockets.{Declared, declared, one_of, chosen, further, input_of_row, inputs_of_kind, ids, node_at, outputs_of, output_of_row, outputs_of_kind}
use Rattle.gn_rules.specs.Scopes.{Scope}
use Rattle.gn_meaning.specs.Sites.{Way, Read, at_output, at_input, nowhere, plain_read}
use Rattle.gn_meaning.specs.Reads.{default_of, link_read, node_reads, number_in, read_from, reads_of, socket_reads}
use Rattle.gn_table.specs.Finding.{find_in, read_found}
use Rattle.gn_table.proofs.Finding.{found_read}

-- ---- links

module _ (s : Scope) (way : Way) (kind : SocketKind) (l : Link) where
  pub entry_link : bytes_eq l.from (codes "input") ≡ true → link_read s way kind l ≡ read_found (at_input way) kind (find_in s.entries l.socket)
  entry_link e = rw e (found_read (at_input way) kind s.entries l.socket)

  pub node_link : (n : ℕ) → bytes_eq l.from (codes "input") ≡ false → first_of (ids s.nodes) l.from ≡ Some n
      → link_read s way kind l ≡ option_map_or (λ x. read_found (at_output way n) kind (find_in (outputs_of s.groups x) l.socket)) (node_at s.nodes n) (plain_read nowhere)
  node_link n e f = rw e (rw f (by_node (node_at s.nodes n)))
    where
      by_node : (o : Option Node) → read_from kind (option_and_then (λ x. declared (outputs_of s.groups x) l.socket) o) (option_and_then (λ x. option_map (at_output way n) (number_in (outputs_of s.groups x) l.socket)) o)
          ≡ option_map_or (λ x. read_found (at_output way n) kind (find_in (outputs_of s.groups x) l.socket)) o (plain_read nowhere)
      by_node None = refl
      by_node (Some x) = found_read (at_output way n) kind (outputs_of s.groups x) l.socket

  pub loose_link : bytes_eq l.from (codes "input") ≡ false → first_of (ids s.nodes) l.from ≡ None → link_read s way kind l ≡ plain_read nowhere
  loose_link e f = rw e (rw f refl)

-- ---- nodes

module _ (s : Scope) (way : Way) (inputs : List Named) (of : SocketKind) where
  rows_then : (rows : List row.Input) (ds : List Declared)
      → reads_of s way inputs (map (input_of_row of) rows ++ ds) (map default_of rows) ≡ reads_of s way inputs (map (input_of_row of) rows) (map default_of rows) ++ reads_of s way inputs ds []
  rows_then [] ds = refl
  rows_then (r ∷ rows) ds =
      ap (λ rs. socket_reads s way inputs (input_of_row of r) (default_of r) ++ rs) (rows_then rows ds)
      ∙ sym (append_assoc (socket_reads s way inputs (input_of_row of r) (default_of r)) (reads_of s way inputs (map (input_of_row of) rows) (map default_of rows)) (reads_of s way inputs ds []))

pub reads_in_turn : (s : Scope) (way : Way) (x : Node)
    → node_reads s way x ≡ reads_of s way (inputs_in x) (map (input_of_row (chosen (settings_in x))) (inputs_of_kind (kind_in x))) (map default_of (inputs_of_kind (kind_in x))) ++ reads_of s way (inputs_in x) (map one_of (further (λ g. g.inputs) s.groups (settings_in x))) []
reads_in_turn s way (node id kind set inputs) = rows_then s way inputs (chosen set) (inputs_of_kind kind) (map one_of (further (λ g. g.inputs) s.groups set))

-- what was read for the rows of a node's kind, and then for its further sockets, is all that it reads
pub all_reads : (s : Scope) (way : Way) (x : Node) (inputs : List Named) (of : SocketKind) (rows : List row.Input) (others : List Socket) (before between after : List Read)
    → inputs ≡ inputs_in x → of ≡ chosen (settings_in x) → rows ≡ inputs_of_kind (kind_in x) → others ≡ further (λ g. g.inputs) s.groups (settings_in x)
    → before ≡ [] → between ≡ before ++ reads_of s way inputs (map (input_of_row of) rows) (map default_of rows) → after ≡ between ++ reads_of s way inputs (map one_of others) [] → after ≡ node_reads s way x
all_reads s way x inputs of rows others before between after i o r f b e g =
    let first : between ≡ reads_of s way inputs (map (input_of_row of) rows) (map default_of rows) = e ∙ ap (λ rs. rs ++ reads_of s way inputs (map (input_of_row of) rows) (map default_of rows)) b in
    let both : after ≡ reads_of s way inputs (map (input_of_row of) rows) (map default_of rows) ++ reads_of s way inputs (map one_of others) [] = g ∙ ap (λ rs. rs ++ reads_of s way inputs (map one_of others) []) first in
    both
    ∙ (ap (λ xs. reads_of s way xs (map (input_of_row of) rows) (map default_of rows) ++ reads_of s way xs (map one_of others) []) i
    ∙ (ap (λ k. reads_of s way (inputs_in x) (map (input_of_row k) rows) (map default_of rows) ++ reads_of s way (inputs_in x) (map one_of others) []) o
    ∙ (ap (λ rs. reads_of s way (inputs_in x) (map (input_of_row (chosen (settings_in x))) rs) (map default_of rs) ++ reads_of s way (inputs_in x) (map one_of others) []) r
    ∙ (ap (λ os. reads_of s way (inputs_in x) (map (input_of_row (chosen (settings_in x))) (inputs_of_kind (kind_in x))) (map default_of (inputs_of_kind (kind_in x))) ++ reads_of s way (inputs_in x) (map one_of os) []) f
    ∙ sym (reads_in_turn s way x)))))

pub outputs_seen : (gs : List Group) (x : Node) → outputs_of gs x ≡ map (output_of_row (chosen (settings_in x))) (outputs_of_kind (kind_in x)) ++ map one_of (further (λ g. g.outputs) gs (settings_in x))
outputs_seen gs (node id kind set inputs) = refl
