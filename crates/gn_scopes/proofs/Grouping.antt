-- The sockets of groups, by the numbers of the groups.
use Rattle.std.proofs.Common.{◌≡◌, ℕ, zero, suc, ◌<◌, ◌≤◌, List, [], ◌∷◌, map, length, get_or, Option, Some, None, refl, sym, ap, ◌∙◌}
use Rattle.std.specs.Prelude.{option_map, slice_get}
use Rattle.std.specs.Option.{option_map_or}
use Rattle.std.proofs.lemmas.Option.{slice_get-get_or, slice_get-map, slice_get_past}
use Rattle.gn_tree.specs.Trees as trees
use Rattle.gn_tree.specs.Seen.{socket_of, nodes_of}
use Rattle.gn_rules.specs.Sockets.{node_at}
use Rattle.gn_scopes.specs.Groups.{lists_in}
use Rattle.gn_scopes.specs.declared.sockets.Sockets.{Sockets}

list_of : Sockets → List trees.Socket
list_of x = map socket_of x.list.now

has_one : {A B : Type 0} (f : A → List B) (o : Option A) (y : List B) → option_map f o ≡ Some y → y ≡ option_map_or f o []
has_one f None y e = absurd (cc)
has_one f (Some a) y e = cc

has_none : {A B : Type 0} (f : A → List B) (o : Option A) → option_map f o ≡ None → [] ≡ option_map_or f o []
has_none f None e = refl
has_none f (Some a) e = absurd (cc)

module _ {G : Type 0} (f : G → List trees.Socket) where
  same_position : (all : List Sockets) (gs : List G) (i : ℕ) → lists_in all ≡ map f gs → option_map f (slice_get gs i) ≡ option_map list_of (slice_get all i)
  unfolding list_of
  same_position all gs i e = sym (slice_get-map f gs i) ∙ (ap (λ xs. slice_get xs i) (sym e) ∙ slice_get-map list_of all i)

  pub at_position : (all : List Sockets) (gs : List G) (i : ℕ) (x : Sockets) → lists_in all ≡ map f gs → i < length all → x ≡ get_or all i x → map socket_of x.list.now ≡ option_map_or f (slice_get gs i) []
  unfolding list_of
  at_position all gs i x e h r = has_one f (slice_get gs i) (list_of x) (same_position all gs i e ∙ (ap (option_map list_of) (slice_get-get_or all i x h) ∙ ap (λ y. Some (list_of y)) (sym r)))

  pub past_position : (all : List Sockets) (gs : List G) (i : ℕ) (none : Sockets) → lists_in all ≡ map f gs → length all ≤ i → none.list.now ≡ [] → map socket_of none.list.now ≡ option_map_or f (slice_get gs i) []
  past_position all gs i none e h r = ap (map socket_of) r ∙ has_none f (slice_get gs i) (same_position all gs i e ∙ ap (option_map list_of) (slice_get_past all i h))

-- a node by its number, in both ways of writing lists of nodes
pub node_at_seen : (xs : List trees.Node) (i : ℕ) → node_at (nodes_of xs) i ≡ slice_get xs i
node_at_seen xs i = node_seen xs i
  where
    node_seen : (xs : List trees.Node) (i : ℕ) → node_at (nodes_of xs) i ≡ slice_get xs i
    node_seen [] zero = refl
    node_seen [] (suc i) = refl
    node_seen (x ∷ xs) zero = refl
    node_seen (x ∷ xs) (suc i) = node_seen xs i
