-- A walk from what is read to where its value comes from.
use Rattle.std.specs.Prelude.{◌≡◌, ◌≤◌, ◌++◌, ℕ, true, map, Option, Some, None, is_some, ◌↔◌}
use Rattle.gn_tree.specs.Trees.{Tree}
use Rattle.gn_tree.specs.Seen.{tree_of}
use Rattle.gn_meaning.specs.Sites as sites
use Rattle.gn_meaning.specs.Forms.{HasForm}
use Rattle.gn_rules.specs.Rules.{KeepsRules}
use Rattle.gn_meaning.specs.Sites.{Read, plain_read}
use Rattle.gn_meaning.specs.Reads.{kind_number}
use Rattle.gn_meaning.specs.Origins.{Origins, read_origin, next_origin, origin_within, IsReadFrom}
use Rattle.gn_origin.specs.declared.walk.Walk.{Walk}
use Rattle.gn_origin.specs.declared.walk.Progress.{Progress}
use Rattle.gn_origin.specs.declared.walk.Progress.TheVariants.{Moved, Arrived, Lost}
use Rattle.gn_origin.specs.Frames.{way_of, site_of, AreOpen, IsThere}
use Rattle.gn_origin.specs.Reading.{IsElsewhere}
use Rattle.gn_origin.specs.Constants.{kinds_of}
use Rattle.gn_origin.specs.Nodes.{HasGroups}
use Rattle.gn_origin.specs.declared.read.Read.{Read as CodeRead}

abbrev pub tree_by : Walk → Tree
tree_by w = tree_of w.lists.now.tree.now

-- what the walk has still to follow
abbrev pub read_by : Walk → Read
read_by w = record { from = site_of (way_of w.frames.items) w.site; through = map kind_number w.conversions.items }

-- what the walk knows of its way and its site
pub record Stands (w : Walk) : Type 0 where
  pub keeps : KeepsRules (tree_by w)
  pub form : HasForm (tree_by w)
  pub groups : HasGroups w.lists.now
  pub ways : AreOpen (tree_by w) w.frames.items
  pub there : IsThere (tree_by w) w.frames.items w.site

module _ (t : Tree) where
  -- one step back: the origin of what the first reads is that of what the second reads
  abbrev pub Leads : Read → Read → Type 0
  Leads r q = (x : Read) × ((origin : Origins t) → next_origin t origin r.from ≡ read_origin t origin x) × (q ≡ record { from = x.from; through = x.through ++ r.through })

  -- the value comes from there itself
  abbrev pub IsOrigin : sites.Site → Type 0
  IsOrigin site = (origin : Origins t) → next_origin t origin site ≡ Some (plain_read site)

  -- both come from the same
  abbrev pub AreSame : Read → Read → Type 0
  AreSame r q = (o : Read) → IsReadFrom t r o ↔ IsReadFrom t q o

-- the walk has gone on to what is read, in the list where it is; or nothing is read
abbrev pub GoesOn : Walk → Walk → Option CodeRead → Progress → Type 0
GoesOn old new None progress = progress ≡ Lost
GoesOn old new (Some x) progress = (progress ≡ Moved) × (new.lists ≡ old.lists) × (new.frames.items ≡ old.frames.items) × (new.site ≡ x.site) × (map kind_number new.conversions.items ≡ kinds_of x.conversion ++ map kind_number old.conversions.items)

abbrev pub Steps : Walk → Walk → Progress → Type 0
Steps old new Moved = (new.lists ≡ old.lists) × Leads (tree_by old) (read_by old) (read_by new) × Stands new
Steps old new Arrived = (new.lists ≡ old.lists) × (read_by new ≡ read_by old) × IsOrigin (tree_by old) (read_by old).from × Stands new
Steps old new Lost = IsElsewhere (tree_by old) (read_by old)

-- an origin is found in some number of steps, and in no more than that
abbrev pub IsFoundBelow : Tree → ℕ → sites.Site → Type 0
IsFoundBelow t n site = (k : ℕ) × (k ≤ n) × (is_some (origin_within t k site) ≡ true)

-- where the walk ended, if it did at an origin that a plan may have
abbrev pub Ends : Walk → Option Walk → Type 0
Ends start None = IsElsewhere (tree_by start) (read_by start)
Ends start (Some w) = (w.lists ≡ start.lists) × AreSame (tree_by start) (read_by start) (read_by w) × IsOrigin (tree_by start) (read_by w).from × Stands w
