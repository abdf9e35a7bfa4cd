-- Groups by their names, and their lists of nodes.
use Rattle.std.proofs.Common.{◌≡◌, ◌<◌, ◌+◌, ℕ, zero, suc, Bool, true, false, cond, List, [], ◌∷◌, length, map, get_or, Some, refl, sym, ◌∙◌, ap, subst, arith}
use Rattle.std.specs.Prelude.{bytes_eq, slice_get, option_map}
use Rattle.std.specs.List.{position_from}
use Rattle.std.proofs.lemmas.Option.{slice_get-map}
use Rattle.gn_kinds.specs.Row.{Text}
use Rattle.gn_names.specs.First.{first_of}
use Rattle.gn_tree.specs.Trees.{Group}
use Rattle.gn_tree.specs.Seen.{group_of, nodes_of, socket_of}
use Rattle.gn_tree.specs.declared.tree.Group.{Group as CodeGroup}
use Rattle.gn_tree.specs.Trees.{Node as CodeNode}
use Rattle.gn_rules.specs.Sockets.{one_of, ids}
use Rattle.gn_meaning.specs.Forms.{NodesHaveForm, GroupsHaveForm, HasForm}
use Rattle.gn_origin.specs.declared.groups.GroupList.{GroupList}
use Rattle.gn_origin.specs.declared.list.List.{List as CodeList}
use Rattle.gn_origin.specs.declared.walk.Frame.{Frame}
use Rattle.gn_origin.specs.Nodes.{group_in, HasGroups}
use Rattle.gn_origin.specs.Frames.{Frames, way_of, AreOpen}
use Rattle.gn_origin.specs.Reading.{tree_by, IsAt}
use Rattle.gn_origin.proofs.Ways.{inner, opened_body}

pub group_at : (gs : List CodeGroup) (ls : List GroupList) (i : ℕ) (x : GroupList) → map (λ l. l.group.now) ls ≡ gs → slice_get ls i ≡ Some x → slice_get (map group_of gs) i ≡ Some (group_in x)
group_at gs ls i x e h =
    ap (λ xs. slice_get (map group_of xs) i) (sym e)
    ∙ (slice_get-map group_of (map (λ l. l.group.now) ls) i ∙ ap (option_map group_of) (slice_get-map (λ l. l.group.now) ls i ∙ ap (option_map (λ l. l.group.now)) h))

within : (name : Text) (i n : ℕ) (xs : List Text) → position_from (bytes_eq name) i xs ≡ Some n → n < i + length xs
within name i n [] e = cc
within name i n (x ∷ xs) e = by_test (bytes_eq name x) e (λ h. within name (i + 1) n xs h)
  where
    by_test : (b : Bool) → cond b (Some i) (position_from (bytes_eq name) (i + 1) xs) ≡ Some n → (position_from (bytes_eq name) (i + 1) xs ≡ Some n → n < (i + 1) + length xs) → n < i + length (x ∷ xs)
    by_test true h go = let same : i ≡ n = cc in omega (arith, same)
    by_test false h go = omega (arith, go h)

-- a first one of the name is one of them
pub first_within : (name : Text) (n : ℕ) (xs : List Text) → first_of xs name ≡ Some n → n < length xs
first_within name n xs e = omega (arith, within name 0 n xs e)

pub group_form : (gs : List Group) (i : ℕ) (g : Group) → GroupsHaveForm gs → slice_get gs i ≡ Some g → NodesHaveForm g.nodes
group_form [] i g form e = cc
group_form (x ∷ gs) zero g form e = let same : x ≡ g = cc in subst (λ y. NodesHaveForm y.nodes) same form.0
group_form (x ∷ gs) (suc i) g form e = group_form gs i g form.1 e

pub inside_at : (l : CodeList) (f : Frame) (fs : Frames) → AreOpen (tree_by l) (f ∷ fs) → HasForm (tree_by l) → HasGroups l.lists.now
    → l.nodes.now ≡ f.group.now.group.now.nodes.items → l.entries.now.list.now ≡ f.group.now.group.now.inputs.items → IsAt l (f ∷ fs)
unfolding inner
inside_at l f fs ways form groups nodes entries =
    let o = ways.0 in
    let b = inner (tree_by l) (way_of fs) f o in
    record {
      body = b;
      leads = opened_body (tree_by l) (way_of fs) f o;
      above = (o.part.1).0;
      scope = λ j. record { nodes = nodes_of (sym nodes j); entries = map one_of (map socket_of (sym entries j)); groups = o.same_groups j; above = (o.part.1).0 };
      entries = ap (map socket_of) entries;
      form = subst (λ xs. NodesHaveForm (nodes_of xs)) (sym nodes) (group_form (tree_by l).groups (o.part.1).0 (group_in f.group.now) form.0 (subst (λ gs. slice_get gs (o.part.1).0 ≡ Some (group_in f.group.now)) o.same_groups (o.part.1).1));
      groups = groups;
    }

pub front_of : (xs : Frames) (f : Frame) → 0 < length xs → get_or xs 0 f ≡ f → (rest : Frames) × (xs ≡ f ∷ rest)
front_of [] f h e = absurd (omega (arith, h))
front_of (x ∷ xs) f h e = (xs, ap (λ y. y ∷ xs) e)

ids_of_nodes : (xs : List CodeNode) → length (ids (nodes_of xs)) ≡ length xs
ids_of_nodes [] = refl
ids_of_nodes (x ∷ xs) = ap suc (ids_of_nodes xs)

pub first_node_within : (xs : List CodeNode) (name : Text) (n : ℕ) → first_of (ids (nodes_of xs)) name ≡ Some n → n < length xs
first_node_within xs name n e = omega (arith, first_within name n (ids (nodes_of xs)) e, ids_of_nodes xs)
