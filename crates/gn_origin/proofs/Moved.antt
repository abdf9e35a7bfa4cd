-- What a Set Position that is run moves, by what its inputs read.
use Rattle.std.proofs.Common.{◌≡◌, ◌==◌, ◌∷◌, ℕ, zero, suc, List, [], map, length, Option, Some, None, true, false, inl, inr, codes, refl, sym, ◌∙◌, ap, subst, arith}
use Rattle.std.proofs.lemmas.Bool.Decides.{eqb_tells}
use Rattle.std.specs.Prelude.{slice_get}
use Rattle.gn_value.specs.declared.value.Value.TheVariants.{Truth as truth}
use Rattle.gn_kinds.specs.declared.row.DefaultValue.{DefaultValue}
use Rattle.gn_kinds.specs.declared.row.DefaultValue.TheVariants.{Zero, Constant as Written, Position}
use Rattle.gn_kinds.specs.Table.{row_of_kind, table, values, functions, elsewhere, attributes, geometry_kinds, instance_kinds, groups}
use Rattle.gn_tree.specs.Trees.{Node, Tree}
use Rattle.gn_tree.specs.Seen.{socket_of}
use Rattle.gn_tree.specs.declared.tree.Socket.{Socket as CodeSocket}
use Rattle.gn_rules.specs.Sockets.{Declared, inputs_of, inputs_of_kind}
use Rattle.gn_rules.specs.Rules.{KeepsRules}
use Rattle.gn_tree.specs.Nodes.{kind_in, inputs_in}
use Rattle.gn_meaning.specs.Sites as sites
use Rattle.gn_meaning.specs.Sites.{Way, the_tree, into, plain_step, at_output, at_input, at_constant, default_at, Read, plain_read}
use Rattle.gn_meaning.specs.Bodies as meant
use Rattle.gn_meaning.specs.Bodies.{Body, body_at}
use Rattle.gn_meaning.specs.Reads.{default_of, kind_number, node_reads, reads_of, read_at, Run, a_node}
use Rattle.gn_meaning.specs.Origins.{IsReadFrom}
use Rattle.gn_meaning.specs.Forms.{HasForm}
use Rattle.gn_meaning.proofs.Inputs.{InputsReached}
use Rattle.gn_meaning.proofs.Opened.{at_way}
use Rattle.gn_meaning.proofs.Options.{some_same}
use Rattle.gn_origin.specs.declared.list.List.{List as CodeList}
use Rattle.gn_origin.specs.declared.plans.Inputs.{Inputs}
use Rattle.gn_plans.specs.declared.plans.Plan.{Plan as CodePlan}
use Rattle.gn_origin.specs.declared.read.Site.{Site}
use Rattle.gn_origin.specs.declared.read.Site.TheVariants as site
use Rattle.gn_origin.specs.declared.read.Constant.TheVariants as constant
use Rattle.gn_origin.specs.declared.walk.Walk.{Walk}
use Rattle.gn_origin.specs.Frames.{Frames, way_of, site_of, AreOpen, IsThere}
use Rattle.gn_origin.specs.Looking.{own_sockets}
use Rattle.gn_origin.specs.Moves.{EndsAt, AreRead, NamesRead, IsMoveOf, input_at, ConstantsAre, MovesAs}
use Rattle.gn_plans.specs.Plans.{ReadsInput}
use Rattle.gn_origin.specs.Reading as by_list
use Rattle.gn_origin.specs.Reading.{IsAt, IsRead, named_read}
use Rattle.gn_origin.specs.Walking.{IsOrigin}
use Rattle.gn_origin.proofs.Bounds.{all_single, move_inputs, move_sockets, node_reads_by}
use Rattle.gn_origin.proofs.Ending.{ends_from, ends_only}
use Rattle.gn_origin.proofs.Singles.{default_in, read_of_socket}
use Rattle.gn_origin.proofs.Steps.{move_name, move_part}
use Rattle.gn_origin.proofs.Ways.{goes_out, leads_to, node_inputs}
use denote.Ref.{Bor}

abbrev move_defaults : List DefaultValue
move_defaults = Zero ∷ Written (truth true) ∷ Position ∷ Zero ∷ []

defaults_in : (x : Node) → kind_in x ≡ codes "set_position" → map default_of (inputs_of_kind (kind_in x)) ≡ move_defaults
unfolding row_of_kind table values functions elsewhere attributes geometry_kinds instance_kinds groups
defaults_in x e = ap (λ kind. map default_of (inputs_of_kind kind)) e

-- ---- the inputs of a Set Position

module _ (t : Tree) (keeps : KeepsRules t) (form : HasForm t) (fs : Frames) (ways : AreOpen t fs) (n : ℕ) (x : Node) (run : Run) (is : IsMoveOf t fs n x run) where
  read_is : (i : ℕ) (d : Declared) → slice_get move_sockets i ≡ Some d → read_at run.reads i ≡ named_read is.0.outer.scope (way_of fs) (inputs_in x) d.name d.shape.kind (default_at d.shape.kind (default_in move_defaults i))
  read_is i d at =
      let mo = is.0 in
      let sc = mo.outer.scope in
      let way = way_of fs in
      let holds = (at_way t keeps form (leads_to t fs mo.outer ways mo.leads)).1 in
      let sockets : inputs_of sc.groups x ≡ move_sockets = move_inputs sc.groups x mo.part.0 ((mo.part.1).1 (λ g. g.inputs)) in
      let there : InputsReached t sc move_sockets (inputs_in x) = subst (λ ds. InputsReached t sc ds (inputs_in x)) sockets (node_inputs t sc n x (holds.nodes n x mo.node)) in
      let reads : node_reads sc way x ≡ reads_of sc way (inputs_in x) move_sockets move_defaults =
      node_reads_by sc way x ∙ (λ i. reads_of sc way (inputs_in x) (sockets i) (defaults_in x mo.part.0 i)) in
      let both : Some (a_node _) ≡ Some (a_node run) = sym (move_part t way n x mo) ∙ is.1 in
      let same : node_reads sc way x ≡ run.reads = cc in
      ap (λ rs. read_at rs i) (sym same ∙ reads) ∙ read_of_socket t keeps sc way move_sockets (inputs_in x) there all_single move_sockets move_defaults i d all_single at

  pub are_read : (l : CodeList) → by_list.tree_by l ≡ t → (at : IsAt l fs) (inputs : Inputs) → NamesRead (by_list.tree_by l) fs at.body.scope (inputs_in x) inputs → AreRead t fs run inputs
  are_read l lists at inputs names =
      let leads : body_at t (way_of fs) ≡ Some at.body = subst (λ u. body_at u (way_of fs) ≡ Some at.body) lists at.leads in
      let same : at.body ≡ is.0.outer = some_same (sym leads ∙ is.0.leads) in
      let here : NamesRead t fs is.0.outer.scope (inputs_in x) inputs = subst (λ b. NamesRead t fs b.scope (inputs_in x) inputs) same (subst (λ u. NamesRead u fs at.body.scope (inputs_in x) inputs) lists names) in
      record {
        geometry = subst (IsRead t fs inputs.geometry) (sym (read_is 0 _ refl)) here.geometry;
        selection = subst (IsRead t fs inputs.selection) (sym (read_is 1 _ refl)) here.selection;
        position = subst (IsRead t fs inputs.position) (sym (read_is 2 _ refl)) here.position;
        offset = subst (IsRead t fs inputs.offset) (sym (read_is 3 _ refl)) here.offset;
      }

  pub move_kind : run.kind.name ≡ codes "set_position"
  move_kind =
      let both : Some (a_node _) ≡ Some (a_node run) = sym (move_part t (way_of fs) n x is.0) ∙ is.1 in
      let same : meant.kind_in is.0.outer.scope x ≡ run.kind = cc in
      ap (λ k. k.name) (sym same) ∙ move_name t (way_of fs) n x is.0

-- ---- the tree's input

entry_here : (way : Way) (s : Site) (kinds : List ℕ) → at_input the_tree 0 ≡ site_of way s → [] ≡ kinds → input_at s kinds ≡ true
entry_here way (site.Group f o x) kinds e through = let bad : at_input the_tree 0 ≡ sites.at_output way f.number o = e in cc
entry_here way (site.Moved n x) kinds e through = let bad : at_input the_tree 0 ≡ sites.at_output way n 0 = e in cc
entry_here way (site.Entry i x) kinds e through = ap (λ ks. length ks == 0) (sym through)
entry_here way (site.Constant (constant.Value v)) kinds e through = let bad : at_input the_tree 0 ≡ at_constant (sites.a_value v) = e in cc
entry_here way (site.Constant constant.Position) kinds e through = let bad : at_input the_tree 0 ≡ at_constant (sites.a_leaf sites.its_position) = e in cc
entry_here way (site.Constant constant.NoGeometry) kinds e through = let bad : at_input the_tree 0 ≡ at_constant sites.no_geometry = e in cc

only_one : (i : ℕ) (x : _) → slice_get own_sockets i ≡ Some x → i ≡ 0
only_one zero x e = refl
only_one (suc i) x e = cc

-- an input that is an origin is the tree's own
entry_of_tree : (t : Tree) (fs : Frames) (i : ℕ) (x : Bor CodeSocket) → AreOpen t fs → IsThere t fs (site.Entry i x) → IsOrigin t (at_input (way_of fs) i) → at_input (way_of fs) i ≡ at_input the_tree 0
entry_of_tree t [] i x ways there origin = ap (at_input the_tree) (only_one i (socket_of x.now) there)
entry_of_tree t (f ∷ fs) i x ways there origin =
    let bad = sym (goes_out t (way_of fs) f ways.0 i (λ s. None)) ∙ origin (λ s. None) in
    cc

pub none_left : {A : Type 0} (kinds : List A) → (length kinds == 0) ≡ true → kinds ≡ []
none_left [] e = refl
none_left (k ∷ kinds) e = elim (eqb_tells (length (k ∷ kinds)) 0) [ inl t ↦ let bad : suc (length kinds) ≡ 0 = t.1 in absurd (omega (arith, bad)) | inr t ↦ let bad : true ≡ false = sym e ∙ t.0 in cc ]

module _ (t : Tree) (r : Read) (w : Walk) (ends : EndsAt t r (Some w)) where
  pub input_only : ReadsInput t r → input_at w.site (map kind_number w.conversions.items) ≡ true
  input_only from =
      let there = ends_only t r w ends (plain_read (at_input the_tree 0)) from in
      entry_here (way_of w.frames.items) w.site (map kind_number w.conversions.items) (ap (λ q. q.from) there) (ap (λ q. q.through) there)

  pub ways_open : AreOpen t w.frames.items
  ways_open = subst (λ u. AreOpen u w.frames.items) ends.0 ends.3.ways

  pub site_there : IsThere t w.frames.items w.site
  site_there = subst (λ u. IsThere u w.frames.items w.site) ends.0 ends.3.there

  pub input_from : input_at w.site (map kind_number w.conversions.items) ≡ true → ReadsInput t r
  input_from e = by_site w.site refl e
    where
      by_site : (s : Site) → w.site ≡ s → input_at s (map kind_number w.conversions.items) ≡ true → ReadsInput t r
      by_site (site.Entry i x) is e =
          let way = way_of w.frames.items in
          let origin : IsOrigin t (at_input way i) = subst (λ s. IsOrigin t (site_of way s)) is ends.2 in
          let here : site_of way w.site ≡ at_input the_tree 0 = ap (site_of way) is ∙ entry_of_tree t w.frames.items i x ways_open (subst (IsThere t w.frames.items) is site_there) origin in
          subst (IsReadFrom t r) (λ j. record { from = here j; through = none_left (map kind_number w.conversions.items) e j }) (ends_from t r w ends)
      by_site (site.Group f o x) is e = cc
      by_site (site.Moved n x) is e = cc
      by_site (site.Constant c) is e = cc

-- ---- the run

module _ (t : Tree) (run : Run) (kind : run.kind.name ≡ codes "set_position") where
  pub moves_are : (found : Option CodePlan) → ReadsInput t (read_at run.reads 0) → ConstantsAre t run found → MovesAs t run found
  moves_are None geometry none = λ selected to by moves. none selected to by (record {
    selections = moves.selections;
    positions = moves.positions;
    offsets = moves.offsets;
    selection = moves.selection;
    position = moves.position;
    offset = moves.offset;
    few = moves.few;
  })
  moves_are (Some plan) geometry (selected, to, by, same, has) = (
    selected,
    to,
    by,
    same,
    record {
      kind = kind;
      geometry = geometry;
      selections = has.selections;
      positions = has.positions;
      offsets = has.offsets;
      selection = has.selection;
      position = has.position;
      offset = has.offset;
      few = has.few;
    },
  )
