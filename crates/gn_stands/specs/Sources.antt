-- Where the values of a tree come from in a graph.
use Rattle.std.specs.Prelude.{◌≡◌, ℕ, List, [], ◌∷◌, Option, Some, None, slice_get, option_map, option_and_then}
use Rattle.gn_tree.specs.Trees.{Tree}
use Rattle.gn_node_set.specs.Meanings.{Source, a_value, an_output, Link}
use Rattle.gn_meaning.specs.Sites.{the_tree, path_of, Site, at_output, at_input, at_constant, Read}
use Rattle.gn_meaning.specs.Origins.{read_origin, origin_within}
use Rattle.gn_meaning.specs.Denotation.{Given}

module _ {V : Type 0} (given : Given V) where
  -- the source of a value that goes no further back: an output of a node, or a given value
  abbrev pub source_at : Site → Option (Source V)
  source_at (at_output way n s) = Some (an_output (path_of way n) s)
  source_at (at_input the_tree i) = option_map a_value (slice_get given.inputs i)
  source_at (at_constant c) = Some (a_value (given.constant c))
  source_at _ = None

  -- the link that an origin is carried over, with its conversions
  abbrev pub link_at : Read → Option (Link V)
  link_at origin = option_map (λ x. record { from = x; through = origin.through }) (source_at origin.from)

  module _ (t : Tree) where
    -- the link that carries what stands at a site, where its origin is found in at most k steps
    abbrev pub source_within : ℕ → Site → Option (Link V)
    source_within k site = option_and_then link_at (origin_within t k site)

    abbrev pub read_within : ℕ → Read → Option (Link V)
    read_within k r = option_and_then link_at (read_origin t (origin_within t k) r)

    -- the link carries what stands at the site, and what an input reads
    abbrev pub CarriesSite : Site → Link V → Type 0
    CarriesSite site link = (k : ℕ) × (source_within k site ≡ Some link)

    abbrev pub Carries : Read → Link V → Type 0
    Carries r link = (k : ℕ) × (read_within k r ≡ Some link)

    abbrev pub CarryAll : List Read → List (Link V) → Type 0
    CarryAll [] [] = Unit {0}
    CarryAll (r ∷ rs) (link ∷ links) = Carries r link × CarryAll rs links
    CarryAll _ _ = ⊥
