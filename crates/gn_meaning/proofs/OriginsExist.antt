-- A site that goes back to constants and inputs of the tree has an origin.
use Rattle.std.proofs.Common.{◌≡◌, ◌++◌, ℕ, suc, pos, Some, refl, ◌∙◌, ap}
use Rattle.std.specs.Prelude.{option_map}
use Rattle.gn_value.specs.declared.value.Value.TheVariants.{Int as int}
use Rattle.gn_tree.specs.Trees.{Tree}
use Rattle.gn_rules.specs.Rules.{KeepsRules}
use Rattle.gn_meaning.specs.Sites.{a_value, the_tree, into, plain_step, turn_step, Site, at_output, at_input, at_item, at_constant, Read, plain_read}
use Rattle.gn_meaning.specs.Reads.{read_at, out_of}
use Rattle.gn_meaning.specs.Forms.{HasForm}
use Rattle.gn_meaning.specs.There.{IsThere}
use Rattle.gn_meaning.specs.Origins.{read_origin, output_origin, input_origin, first_origin, origin_within, ComesFrom}
use Rattle.gn_meaning.proofs.Grounded.{Grounded, of_constant, of_tree_input, of_node, of_group, of_repeat, of_group_input, of_turn_number, of_turn_item, of_first_item, of_later_item, all_grounded}

module _ (t : Tree) where
  abbrev HasOrigin : Site → Type 0
  HasOrigin site = (origin : Read) × ComesFrom t site origin

  -- what is read at a site that has one
  abbrev ReadHas : Read → Type 0
  ReadHas r = (k : ℕ) × (origin : Read) × (read_origin t (origin_within t k) r ≡ Some origin)

  read_on : (r : Read) → HasOrigin r.from → ReadHas r
  read_on r (origin, (k, e)) = (k, record { from = origin.from; through = origin.through ++ r.through }, ap (option_map (λ o. record { from = o.from; through = o.through ++ r.through })) e)

  has_origin : {site : Site} → Grounded t site → HasOrigin site
  has_origin (of_constant c) = (plain_read (at_constant c), (1, refl))
  has_origin (of_tree_input i h) = (plain_read (at_input the_tree i), (1, refl))
  has_origin (of_node {way} {n} {s} run e there reads) = (plain_read (at_output way n s), (1, ap (output_origin t (origin_within t 0) way n s) e))
  has_origin (of_repeat {way} {n} {s} run b e there reads items) = (plain_read (at_output way n s), (1, ap (output_origin t (origin_within t 0) way n s) e))
  has_origin (of_group {way} {n} {s} b reads e out) =
      let there : ReadHas (out_of t (into way (plain_step n)) s) = read_on (out_of t (into way (plain_step n)) s) (has_origin out) in
      (there.1, (suc there.0, ap (output_origin t (origin_within t there.0) way n s) e ∙ there.2))
  has_origin (of_group_input {way} {n} {i} b reads e read) =
      let there : ReadHas (read_at reads i) = read_on (read_at reads i) (has_origin read) in
      (there.1, (suc there.0, ap (input_origin t (origin_within t there.0) way (plain_step n) i) e ∙ there.2))
  has_origin (of_turn_number {way} {n} {k} run b e) = (plain_read (at_constant (a_value (int (pos k)))), (1, ap (input_origin t (origin_within t 0) way (turn_step n k) 0) e))
  has_origin (of_turn_item {way} {n} {k} {i} run b e item) =
      let there : HasOrigin (at_item way n k i) = has_origin item in
      (there.0, (suc there.1.0, ap (input_origin t (origin_within t there.1.0) way (turn_step n k) (suc i)) e ∙ there.1.1))
  has_origin (of_first_item {way} {n} {i} run b e read) =
      let there : ReadHas (read_at run.reads (suc i)) = read_on (read_at run.reads (suc i)) (has_origin read) in
      (there.1, (suc there.0, ap (first_origin t (origin_within t there.0) i) e ∙ there.2))
  has_origin (of_later_item {way} {n} {k} {i} out) =
      let there : ReadHas (out_of t (into way (turn_step n k)) i) = read_on (out_of t (into way (turn_step n k)) i) (has_origin out) in
      (there.1, (suc there.0, there.2))

  pub origin_exists : HasForm t → KeepsRules t → (site : Site) → IsThere t site → HasOrigin site
  origin_exists form keeps site there = has_origin (all_grounded t keeps form site there)
