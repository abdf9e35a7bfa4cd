-- What stands for the nodes of a list, one by one.
use Rattle.std.proofs.Common.{◌≡◌, ◌<◌, ◌+◌, ℕ, zero, suc, List, [], ◌∷◌, ◌++◌, map, length, take, get_or, Option, Some, None, refl, sym, ◌∙◌, ap}
use Rattle.std.specs.Prelude.{IsSome, option_map, option_and_then, slice_get}
use Rattle.std.proofs.lemmas.List.{take_more}
use Rattle.std.proofs.lemmas.Option.{slice_get_within}
use Rattle.gn_node_set.specs.Lists.{all_of}
use Rattle.gn_table.specs.declared.read.Read.{Read}
use Rattle.gn_lower.specs.declared.carried.Carried.{Carried}
use Rattle.gn_lower.specs.declared.visit.Made.{Made}
use Rattle.gn_lower.specs.declared.visit.Made.TheVariants as made
use Rattle.gn_lower.specs.declared.visit.Visit.{Visit}
use Rattle.gn_lower.specs.Carried.{came_in, came_of, output_by, output_in}
use Rattle.gn_lower.proofs.Lists.{all_with}
use Rattle.gn_node_set.proofs.Lists.{map_append}

pub nothing_more : (all : List Made) → ((node socket : ℕ) → output_in all node socket ≡ None) → (node socket : ℕ) → output_in (all ++ made.Nothing ∷ []) node socket ≡ None
nothing_more [] h zero socket = refl
nothing_more [] h (suc node) socket = refl
nothing_more (x ∷ all) h zero socket = h zero socket
nothing_more (x ∷ all) h (suc node) socket = nothing_more all (λ n s. h (suc n) s) node socket

-- an output that is there is one of a node that is there
pub node_within : (all : List Made) (node socket : ℕ) → IsSome (output_in all node socket) → node < length all
node_within all node socket h = by_node (slice_get all node) refl h
  where
    by_node : (o : Option Made) → slice_get all node ≡ o → IsSome (option_and_then (output_by socket) o) → node < length all
    by_node None at k = cc
    by_node (Some x) at k = slice_get_within all node x at

pub came_within : (all : List Carried) (n : ℕ) → IsSome (option_map came_of (slice_get all n)) → n < length all
came_within all n h = by_item (slice_get all n) refl h
  where
    by_item : (o : Option Carried) → slice_get all n ≡ o → IsSome (option_map came_of o) → n < length all
    by_item None at k = cc
    by_item (Some x) at k = slice_get_within all n x at

pub next_carried : (visit : Visit) (reads : List Read) (i : ℕ) (all more : List Carried) (d : Read) (c : Carried) → all_of (map (came_in visit) (take i reads)) ≡ Some (map came_of all) → i < length reads
    → came_in visit (get_or reads i d) ≡ Some (came_of c) → more ≡ all ++ c ∷ [] → all_of (map (came_in visit) (take (i + 1) reads)) ≡ Some (map came_of more)
next_carried visit reads i all more d c so_far less is pushed =
    ap (λ rs. all_of (map (came_in visit) rs)) (take_more reads i d less)
    ∙ (all_with (came_in visit) (take i reads) (map came_of all) (get_or reads i d) (came_of c) so_far is ∙ ap Some (sym (ap (map came_of) pushed ∙ map_append came_of all (c ∷ []))))
