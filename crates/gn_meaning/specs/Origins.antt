-- Where the value of a site comes from: through groups and turns back to a constant, an input of the tree, or an output of a node that is run.
use Rattle.std.specs.Prelude.{◌≡◌, ℕ, zero, suc, pos, ◌++◌, Option, Some, None, option_map}
use Rattle.gn_value.specs.declared.value.Value.TheVariants.{Int as int}
use Rattle.gn_lazy.specs.declared.path.PathStep.{PathStep}
use Rattle.gn_tree.specs.Trees.{Tree}
use Rattle.gn_meaning.specs.Sites.{a_value, Way, the_tree, into, plain_step, turn_step, Site, at_output, at_input, at_item, at_constant, nowhere, Read, plain_read}
use Rattle.gn_meaning.specs.Reads.{read_at, Part, a_node, a_group, a_repeat, part_at, out_of}

module _ (t : Tree) where
  -- the origins of some sites so far: a site, with the conversions on the way from it
  abbrev pub Origins : Type 0
  Origins = Site → Option Read

  -- the origin of what an input reads: the conversion at its socket comes last
  abbrev pub read_origin : Origins → Read → Option Read
  read_origin origin r = option_map (λ o. record { from = o.from; through = o.through ++ r.through }) (origin r.from)

  -- an output of a group node comes from what the group gives out, an output of any other node from its run
  abbrev pub output_origin : Origins → Way → ℕ → ℕ → Option Part → Option Read
  output_origin origin way n s None = None
  output_origin origin way n s (Some (a_node run)) = Some (plain_read (at_output way n s))
  output_origin origin way n s (Some (a_group b reads)) = read_origin origin (out_of t (into way (plain_step n)) s)
  output_origin origin way n s (Some (a_repeat run b)) = Some (plain_read (at_output way n s))

  -- an input of a zone's body is the turn's number, or an item
  abbrev pub turn_origin : Origins → Way → ℕ → Option ℕ → ℕ → Option Read
  turn_origin origin way n None i = None
  turn_origin origin way n (Some k) zero = Some (plain_read (at_constant (a_value (int (pos k)))))
  turn_origin origin way n (Some k) (suc i) = origin (at_item way n k i)

  -- an input of a group is what the group node reads
  abbrev pub input_origin : Origins → Way → PathStep → ℕ → Option Part → Option Read
  input_origin origin way step i None = None
  input_origin origin way step i (Some (a_node run)) = None
  input_origin origin way step i (Some (a_group b reads)) = read_origin origin (read_at reads i)
  input_origin origin way step i (Some (a_repeat run b)) = turn_origin origin way step.node step.turn i

  -- an item before the first turn is what the zone reads behind its head
  abbrev pub first_origin : Origins → ℕ → Option Part → Option Read
  first_origin origin i (Some (a_repeat run b)) = read_origin origin (read_at run.reads (suc i))
  first_origin origin i _ = None

  abbrev pub next_origin : Origins → Origins
  next_origin origin (at_output way n s) = output_origin origin way n s (part_at t way n)
  next_origin origin (at_input the_tree i) = Some (plain_read (at_input the_tree i))
  next_origin origin (at_input (into way step) i) = input_origin origin way step i (part_at t way step.node)
  next_origin origin (at_item way n zero i) = first_origin origin i (part_at t way n)
  next_origin origin (at_item way n (suc k) i) = read_origin origin (out_of t (into way (turn_step n k)) i)
  next_origin origin (at_constant c) = Some (plain_read (at_constant c))
  next_origin origin nowhere = None

  -- an origin that is found in at most k steps
  abbrev pub origin_within : ℕ → Origins
  origin_within zero site = None
  origin_within (suc k) site = next_origin (origin_within k) site

  -- the site's value comes from there
  abbrev pub ComesFrom : Site → Read → Type 0
  ComesFrom site origin = (k : ℕ) × (origin_within k site ≡ Some origin)

  -- and so does what an input reads
  abbrev pub IsReadFrom : Read → Read → Type 0
  IsReadFrom r origin = (k : ℕ) × (read_origin (origin_within k) r ≡ Some origin)
