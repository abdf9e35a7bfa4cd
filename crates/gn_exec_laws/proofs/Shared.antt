-- What is shared comes without conversions.
use Rattle.std.proofs.Common.{◌≡◌, ℕ, List, [], ◌∷◌, ◌++◌, Some, None, Bool, refl, sym, ◌∙◌, ap, subst}
use Rattle.std.specs.Prelude.{IsTrue, option_and_then, slice_get}
use Rattle.gn_node_set.specs.Meanings.{Source, a_value, an_item, an_output, Meanings}
use Rattle.gn_exec_laws.specs.Graphs.{Task}
use Rattle.gn_exec_laws.specs.Fits.{shifted, SourceSort, LinkSort, CanStart, IsLawful, SharedStay}
use Rattle.gn_exec_laws.specs.Machine.{Event, World, world, IsRun}
use Rattle.gn_exec_laws.specs.Claims.{SharedArePlain}
use Rattle.gn_node_set.proofs.Lists.{some_same, known_by}
use Rattle.gn_exec_laws.proofs.Sorts.{shifted_joined}
use Rattle.gn_exec_laws.proofs.Shapes.{Shape}
use Rattle.gn_exec_laws.proofs.Kept.{kept}

module _ {K V S T : Type 0} (m : Meanings K V S T) (lawful : IsLawful m) (shareable : S → Bool) (stay : SharedStay m shareable) where
  no_shift : (t : S) → IsTrue (shareable t) → (kinds : List ℕ) (s : S) → shifted m t kinds ≡ Some s → kinds ≡ []
  no_shift t can [] s e = refl
  no_shift t can (kind ∷ kinds) s e = let bad : None ≡ Some s = ap (option_and_then (λ u. shifted m u kinds)) (sym (stay t kind can)) ∙ e in cc

  module _ (task : Task K V) (c : CanStart m task) (es : List Event) (r : IsRun m task es) where
    abbrev w : World K V
    w = world m task es

    shape : Shape m lawful task w
    shape = (kept m lawful task c es r).shape

    one_sort : (x : Source V) (s t : S) → SourceSort m [] w.graph x s → SourceSort m [] w.graph x t → s ≡ t
    one_sort (a_value v) s t a b = sym a.0 ∙ b.0
    one_sort (an_item i) s t a b = cc
    one_sort (an_output p k) s t a b = some_same (sym a.3 ∙ ap (λ n. slice_get (m.gives n.kind) k) (known_by (λ n. n.path) w.graph shape.differ a.0 b.0 a.1 b.1 (a.2 ∙ sym b.2)) ∙ b.3)

    pub are_plain : SharedArePlain m task es shareable
    are_plain link s t h origin can =
        let l : LinkSort m [] w.graph (w.leads link.from) h.0 = shape.leads link.from h.0 h.1 in
        let kinds : List ℕ = (w.leads link.from).through ++ link.through in
        let shift : shifted m l.0 kinds ≡ Some s = shifted_joined m l.0 h.0 s (w.leads link.from).through link.through l.2 h.2 in
        no_shift t can kinds s (subst (λ u. shifted m u kinds ≡ Some s) (one_sort (w.leads link.from).from l.0 t l.1 origin) shift)
