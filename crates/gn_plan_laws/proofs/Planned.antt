-- What a tree with a plan gives out, and what it demands.
use Rattle.std.proofs.Common.{◌≡◌, inl, inr, ℕ, List, [], ◌∷◌, Option, Some, None, codes, refl, sym, ◌∙◌, ap, subst}
use Rattle.std.specs.Prelude.{slice_get, false}
use Rattle.gn_value.specs.declared.vector.V3.{V3}
use Rattle.gn_value.specs.declared.value.Value.{Value}
use Rattle.gn_value.specs.declared.value.Value.TheVariants.{Truth as truth, Vector as vector}
use Rattle.gn_plain.specs.Geometry.{Shape, of_shape, empty}
use Rattle.gn_plain.specs.Contexts.{position}
use Rattle.gn_plain.specs.Fields.{Expr, constant, input}
use Rattle.gn_tree.specs.NodeKinds.{Kind}
use Rattle.gn_tree.specs.Trees.{Tree}
use Rattle.gn_rules.specs.Rules.{KeepsRules}
use Rattle.gn_node_set.specs.Meanings.{Has, Answer, Plain, answer_for}
use Rattle.gn_meaning.specs.Sites.{Way, the_tree, Site, at_output, at_input, at_constant, a_value, a_leaf, its_position, no_geometry, Read, plain_read}
use Rattle.gn_meaning.specs.Reads.{read_at, Run, a_node, part_at}
use Rattle.gn_meaning.specs.Forms.{HasForm}
use Rattle.gn_meaning.specs.Denotation.{Given, StandsAt}
use Rattle.gn_meaning.specs.Demand.{output_read}
use Rattle.gn_meaning.specs.Origins.{IsReadFrom}
use Rattle.gn_plans.specs.Plans.{Plan, Carries, MovesTo, Moves, IsPlan, gives_nothing, gives_input, gives_moved}
use Rattle.gn_rows.specs.Carried.{a_geometry, a_field, field_through}
use Rattle.gn_rows.specs.Moves.{moved_shape, IsWorth, IsTarget}
use Rattle.gn_rows.specs.Limits.{is_large}
use Rattle.gn_rows.proofs.Constants.{through_links}
use Rattle.gn_rows.proofs.Moving.{moving_row}
use Rattle.gn_plan_laws.specs.Made.{made, runs_of, no_sources, Value as Carried, rows, given_with, Denotes, CountsDemand}
use Rattle.gn_plan_laws.proofs.Reading.{Inside, inside, Reads, reads_value, reads_site, AllRead}
use Rattle.gn_plan_laws.proofs.Ways.{Fits, out_fits}
use Rattle.gn_plan_laws.proofs.Inputs.{four_read}
use Rattle.gn_plan_laws.proofs.Standing.{four_reads, output_stands}
use Rattle.gn_plan_laws.proofs.Demanding.{EndsAt, OneOrNone, demands_none, demands_one, root_opens}

plain_kind : (kind : Kind) → kind.name ≡ codes "set_position" → rows.role kind ≡ Plain
plain_kind kind e = rw e refl

module _ (files : List ℕ → Answer) (t : Tree) (s : Shape) where
  abbrev given : Given Carried
  given = given_with files s

  abbrev Stands : Site → Carried → Type 0
  Stands = StandsAt rows given t

  abbrev Gives : Read → Carried → Type 0
  Gives = Reads rows given t

  output_fits : Fits t (output_read t).from
  output_fits = out_fits t the_tree 0 tt

  -- ---- what the inputs of a Set Position read

  reads_constant : (r : Read) (v : Value) (n : ℕ) → Carries t r v n → (e : Expr ⊥) × Gives r (a_field e) × IsWorth e v n
  reads_constant r v n (c, kinds, h, same, count) =
      let read = reads_value rows given t r (record { from = at_constant (a_value c); through = kinds }) (a_field (constant c)) h (1, refl) in
      (field_through (constant c) kinds, (read.0, read.1 ∙ ap (λ x. Some x) (through_links no_sources (constant c) kinds)), (c, kinds, refl, same, count))

  reads_target : (r : Read) (to : Option V3) (n : ℕ) → MovesTo t r to n → (e : Expr ⊥) × Gives r (a_field e) × IsTarget e to n
  reads_target r None n h =
      (input position, reads_value rows given t r (plain_read (at_constant (a_leaf its_position))) (a_field (input position)) h.0 (1, refl), (refl, h.1))
  reads_target r (Some p) n h = reads_constant r (vector p) n h

  -- ---- the value

  module _ (keeps : KeepsRules t) (form : HasForm t) (small : is_large (of_shape s) ≡ false) (way : Way) (n : ℕ) (run : Run) (selected : _) (to : Option V3) (by : V3) (h : IsReadFrom t (output_read t) (plain_read (at_output way n 0))) (at : part_at t way n ≡ Some (a_node run)) (m : Moves t run selected to by) where
    abbrev four : run.reads ≡ read_at run.reads 0 ∷ read_at run.reads 1 ∷ read_at run.reads 2 ∷ read_at run.reads 3 ∷ []
    four = four_reads run.reads (four_read t keeps form way n run (root_opens rows given t (output_read t) way n h output_fits) at m.kind)

    move_stands : Stands (at_output way n 0) (a_geometry (of_shape (moved_shape selected to by s)))
    move_stands =
        let geometry : Gives (read_at run.reads 0) (a_geometry (of_shape s)) = reads_value rows given t (read_at run.reads 0) (plain_read (at_input the_tree 0)) (a_geometry (of_shape s)) m.geometry (1, refl) in
        let selection = reads_constant (read_at run.reads 1) (truth selected) m.selections m.selection in
        let target = reads_target (read_at run.reads 2) to m.positions m.position in
        let offset = reads_constant (read_at run.reads 3) (vector by) m.offsets m.offset in
        let vs : List Carried = a_geometry (of_shape s) ∷ a_field selection.0 ∷ a_field target.0 ∷ a_field offset.0 ∷ [] in
        let read : AllRead rows given t run.reads vs = subst (λ reads. AllRead rows given t reads vs) (sym four) (geometry, (selection.1, (target.1, (offset.1, tt)))) in
        let row = moving_row no_sources run.path run.kind (answer_for (rows.role run.kind) (files (rows.file run.kind))) s selection.0 target.0 offset.0 selected to by m.selections m.positions m.offsets m.kind small selection.2 target.2 offset.2 m.few in
        output_stands rows given t run (plain_kind run.kind m.kind) way n vs (a_geometry (of_shape (moved_shape selected to by s))) at read (ap (λ d. slice_get d.outputs 0) row)

    moved_stands : Stands (output_read t).from (a_geometry (of_shape (moved_shape selected to by s)))
    moved_stands = reads_site rows given t (output_read t) (at_output way n 0) (a_geometry (of_shape (moved_shape selected to by s))) h move_stands

    -- ---- the demand

    abbrev Ends : Read → Type 0
    Ends r = EndsAt t (OneOrNone rows given t (output_read t) way n run at (plain_kind run.kind m.kind)) r.from

    ends_at : (r o : Read) → IsReadFrom t r o → OneOrNone rows given t (output_read t) way n run at (plain_kind run.kind m.kind) o.from → Ends r
    ends_at r o e h =
        let i : Inside t r o = inside t r o e in
        (i.inner, i.comes, subst (OneOrNone rows given t (output_read t) way n run at (plain_kind run.kind m.kind)) (sym i.from) h)

    constant_ends : (r : Read) (v : Value) (n : ℕ) → Carries t r v n → Ends r
    constant_ends r v n (c, kinds, e, same, count) = ends_at r (record { from = at_constant (a_value c); through = kinds }) e tt

    target_ends : (r : Read) (to : Option V3) (n : ℕ) → MovesTo t r to n → Ends r
    target_ends r None n e = ends_at r (plain_read (at_constant (a_leaf its_position))) e.0 tt
    target_ends r (Some p) n e = constant_ends r (vector p) n e

    all_end : (r : Read) → Has (read_at run.reads 0 ∷ read_at run.reads 1 ∷ read_at run.reads 2 ∷ read_at run.reads 3 ∷ []) r → Ends r
    all_end r (inl e) = subst Ends (sym e) (ends_at (read_at run.reads 0) (plain_read (at_input the_tree 0)) m.geometry tt)
    all_end r (inr (inl e)) = subst Ends (sym e) (constant_ends (read_at run.reads 1) (truth selected) m.selections m.selection)
    all_end r (inr (inr (inl e))) = subst Ends (sym e) (target_ends (read_at run.reads 2) to m.positions m.position)
    all_end r (inr (inr (inr (inl e)))) = subst Ends (sym e) (constant_ends (read_at run.reads 3) (vector by) m.offsets m.offset)
    all_end r (inr (inr (inr (inr e)))) = absurd e

    move_demands : CountsDemand files t s 1
    move_demands =
        (run.path ∷ [], demands_one rows given t (output_read t) way n run at (plain_kind run.kind m.kind) (λ r e. all_end r (subst (λ reads. Has reads r) four e)) h output_fits, refl)

  pub plan_stands : (plan : Plan) → KeepsRules t → HasForm t → is_large (of_shape s) ≡ false → IsPlan t plan → Denotes files t s (made plan s)
  plan_stands plan keeps form small (gives_nothing h) = reads_site rows given t (output_read t) (at_constant no_geometry) (a_geometry empty) h (1, refl)
  plan_stands plan keeps form small (gives_input h) = reads_site rows given t (output_read t) (at_input the_tree 0) (a_geometry (of_shape s)) h (1, refl)
  plan_stands plan keeps form small (gives_moved way n run selected to by h at m) = moved_stands keeps form small way n run selected to by h at m

  pub plan_demands : (plan : Plan) → KeepsRules t → HasForm t → is_large (of_shape s) ≡ false → IsPlan t plan → CountsDemand files t s (runs_of plan)
  plan_demands plan keeps form small (gives_nothing h) = ([], demands_none rows given t (output_read t) (at_constant no_geometry) tt h, refl)
  plan_demands plan keeps form small (gives_input h) = ([], demands_none rows given t (output_read t) (at_input the_tree 0) tt h, refl)
  plan_demands plan keeps form small (gives_moved way n run selected to by h at m) = move_demands keeps form small way n run selected to by h at m
