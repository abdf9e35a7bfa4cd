-- The plan of a tree, by where the walk from its output ended.
use Rattle.std.proofs.Common.{◌≡◌, ◌==◌, ℕ, List, [], ◌∷◌, map, length, Option, Some, None, true, false, refl, sym, ◌∙◌, ap, subst}
use Rattle.gn_kinds.specs.declared.row.SocketKind.{SocketKind}
use Rattle.gn_tree.specs.Trees.{Tree}
use Rattle.gn_tree.specs.declared.tree.Socket.{Socket as CodeSocket}
use Rattle.gn_tree.specs.declared.tree.Node.{Node as CodeNode}
use Rattle.gn_meaning.specs.Sites as sites
use Rattle.gn_meaning.specs.Sites.{Way, the_tree, into, plain_step, at_output, at_input, at_constant, no_geometry, Read, plain_read}
use Rattle.gn_meaning.specs.Reads.{kind_number, Run, a_node, part_at}
use Rattle.gn_meaning.specs.Demand.{output_read}
use Rattle.gn_meaning.specs.Origins.{IsReadFrom}
use Rattle.gn_plans.specs.declared.plans.Plan.{Plan as CodePlan}
use Rattle.gn_origin.specs.declared.read.Constant.{Constant}
use Rattle.gn_origin.specs.declared.read.Constant.TheVariants as constant
use Rattle.gn_origin.specs.declared.read.Site.TheVariants as site
use Rattle.gn_origin.specs.declared.walk.Frame.{Frame}
use Rattle.gn_origin.specs.declared.walk.Walk.{Walk}
use Rattle.gn_plans.specs.Answers.{Answers}
use Rattle.gn_origin.specs.Frames.{way_of, site_of, IsMove, IsThere}
use Rattle.gn_origin.specs.Moves.{EndsAt, MovesAs, constant_plan, input_at}
use Rattle.gn_plans.specs.Plans.{the_input, Moves, IsPlan, HasNoPlan, gives_nothing, gives_input, gives_moved}
use Rattle.gn_origin.specs.Walking.{IsOrigin}
use Rattle.gn_origin.proofs.Ending.{ends_from, ends_only}
use Rattle.gn_origin.proofs.Moved.{none_left, input_from, site_there}
use Rattle.gn_origin.proofs.Steps.{move_part}
use Rattle.gn_origin.proofs.Ways.{goes_in}
use denote.Ref.{Bor}

pub no_conversions : (items : List SocketKind) → (length items == 0) ≡ true → map kind_number items ≡ []
no_conversions [] e = refl
no_conversions (kind ∷ items) e = let bad = none_left (kind ∷ items) e in cc

pub some_conversions : (items : List SocketKind) → (length items == 0) ≡ false → ¬ (map kind_number items ≡ [])
some_conversions [] e same = cc
some_conversions (kind ∷ items) e same = cc

module _ (t : Tree) (w : Walk) (ends : EndsAt t (output_read t) (Some w)) where
  abbrev kinds : List ℕ
  kinds = map kind_number w.conversions.items

  abbrev way : Way
  way = way_of w.frames.items

  -- a plan that the output reads is where the walk ended
  same_site : (site : sites.Site) → IsReadFrom t (output_read t) (plain_read site) → site ≡ site_of way w.site
  same_site site from = ap (λ r. r.from) (ends_only t (output_read t) w ends (plain_read site) from)

  read_here : (site : sites.Site) → site_of way w.site ≡ site → kinds ≡ [] → IsReadFrom t (output_read t) (plain_read site)
  read_here site is plain = subst (IsReadFrom t (output_read t)) (λ i. record { from = is i; through = plain i }) (ends_from t (output_read t) w ends)

  -- ---- conversions on the way

  no_conversion : (site : sites.Site) → IsReadFrom t (output_read t) (plain_read site) → kinds ≡ []
  no_conversion site from = sym (ap (λ r. r.through) (ends_only t (output_read t) w ends (plain_read site) from))

  pub none_converted : ¬ (kinds ≡ []) → HasNoPlan t
  none_converted some plan (gives_nothing from) = some (no_conversion (at_constant no_geometry) from)
  none_converted some plan (gives_input from) = some (no_conversion (at_input the_tree 0) from)
  none_converted some plan (gives_moved other n run selected to by from at moves) = some (no_conversion (at_output other n 0) from)

  -- ---- a constant, the tree's input

  none_constant : (c : sites.Constant) → site_of way w.site ≡ at_constant c → ¬ (c ≡ no_geometry) → HasNoPlan t
  none_constant c is other plan (gives_nothing from) =
      let same : at_constant no_geometry ≡ at_constant c = same_site (at_constant no_geometry) from ∙ is in
      other (let back : c ≡ no_geometry = cc in back)
  none_constant c is other plan (gives_input from) = let bad : at_input the_tree 0 ≡ at_constant c = same_site (at_input the_tree 0) from ∙ is in cc
  none_constant c is other plan (gives_moved before n run selected to by from at moves) = let bad : at_output before n 0 ≡ at_constant c = same_site (at_output before n 0) from ∙ is in cc

  pub constant_answers : (c : Constant) → w.site ≡ site.Constant c → kinds ≡ [] → Answers t (constant_plan c)
  constant_answers constant.NoGeometry is plain = gives_nothing (read_here (at_constant no_geometry) (ap (site_of way) is) plain)
  constant_answers (constant.Value v) is plain = none_constant (sites.a_value v) (ap (site_of way) is) (λ e. let bad : sites.a_value v ≡ no_geometry = e in cc)
  constant_answers constant.Position is plain = none_constant (sites.a_leaf sites.its_position) (ap (site_of way) is) (λ e. let bad : sites.a_leaf sites.its_position ≡ no_geometry = e in cc)

  pub input_answers : (i : ℕ) (x : Bor CodeSocket) → w.site ≡ site.Entry i x → kinds ≡ [] → IsPlan t the_input
  input_answers i x is plain = gives_input (input_from t (output_read t) w ends (ap (λ s. input_at s kinds) is ∙ ap (λ ks. length ks == 0) plain))

  -- ---- an output of a group node is no origin

  pub not_group : (f : Frame) (o : ℕ) (x : Bor CodeSocket) → w.site ≡ site.Group f o x → ⊥
  not_group f o x is =
      let there : IsThere t w.frames.items (site.Group f o x) = subst (IsThere t w.frames.items) is (site_there t (output_read t) w ends) in
      let origin : IsOrigin t (at_output way f.number o) = subst (λ s. IsOrigin t (site_of way s)) is ends.2 in
      let bad = sym (goes_in t way f there.0 o (λ s. None)) ∙ origin (λ s. None) in
      cc

  -- ---- what a Set Position makes

  module _ (n : ℕ) (x : Bor CodeNode) (is : w.site ≡ site.Moved n x) where
    pub move_there : IsMove t way n x.now
    move_there = subst (IsThere t w.frames.items) is (site_there t (output_read t) w ends)

    pub move_run : (run : Run) × (part_at t way n ≡ Some (a_node run))
    move_run = (_, move_part t way n x.now move_there)

    pub from_move : kinds ≡ [] → IsReadFrom t (output_read t) (plain_read (at_output way n 0))
    from_move plain = read_here (at_output way n 0) (ap (site_of way) is) plain

    pub move_answers : kinds ≡ [] → (run : Run) → part_at t way n ≡ Some (a_node run) → (found : Option CodePlan) → MovesAs t run found → Answers t found
    move_answers plain run at (Some plan) (selected, to, by, same, moves) = subst (IsPlan t) (sym same) (gives_moved way n run selected to by (from_move plain) at moves)
    move_answers plain run at None none = none_moved
      where
        same_run : (other : Way) (m : ℕ) (run_there : Run) → at_output other m 0 ≡ at_output way n 0 → part_at t other m ≡ Some (a_node run_there) → run_there ≡ run
        same_run other m run_there e there =
            let ways : other ≡ way = cc in
            let numbers : m ≡ n = cc in
            let both : Some (a_node run_there) ≡ Some (a_node run) = sym there ∙ ((λ i. part_at t (ways i) (numbers i)) ∙ at) in
            cc

        none_moved : HasNoPlan t
        none_moved plan (gives_nothing from) = let bad : at_constant no_geometry ≡ at_output way n 0 = same_site (at_constant no_geometry) from ∙ ap (site_of way) is in cc
        none_moved plan (gives_input from) = let bad : at_input the_tree 0 ≡ at_output way n 0 = same_site (at_input the_tree 0) from ∙ ap (site_of way) is in cc
        none_moved plan (gives_moved other m run_there selected to by from there moves) =
            none selected to by (subst (λ r. Moves t r selected to by) (same_run other m run_there (same_site (at_output other m 0) from ∙ ap (site_of way) is) there) moves)
