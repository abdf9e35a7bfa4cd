-- Sorts of links and values, and how they go through conversions and into zones.
use Rattle.std.proofs.Common.{◌≡◌, inl, inr, ℕ, zero, suc, List, [], ◌∷◌, ◌++◌, map, Option, Some, None, refl, sym, ◌∙◌, ap, subst}
use Rattle.std.specs.Prelude.{slice_get, slice_index_or, option_and_then}
use Rattle.gn_node_set.specs.Paths.{Path}
use Rattle.gn_node_set.specs.Meanings.{Has, Source, a_value, an_item, an_output, Link, plain_link, along, Node, Role, Plain, Switch, File, Zone, Choice, one_case, all_cases, no_case, member, Meanings, head_of, tail_of, chosen, selected, converted}
use Rattle.gn_exec_laws.specs.Graphs.{outer_source, outer_link, outer_node}
use Rattle.gn_exec_laws.specs.Fits.{shifted, SourceSort, LinkSort, LinkSorts, HasItems, NodeFits, NodesFit, IsLawful}
use Rattle.gn_node_set.proofs.Lists.{some_same, append_assoc, has_first, has_second, has_image, index_at, append_nil, map_append}

-- ---- lists side by side

module _ {A B : Type 0} (R : A → B → Type 0) where
  -- the members of two lists are related in order
  abbrev pub Beside : List A → List B → Type 0
  Beside [] [] = Unit {0}
  Beside (x ∷ xs) (y ∷ ys) = R x y × Beside xs ys
  Beside _ _ = ⊥

  beside_head : (xs : List A) (ys : List B) → Beside xs ys → Beside (head_of xs) (head_of ys)
  beside_head [] [] b = b
  beside_head (x ∷ xs) (y ∷ ys) b = (b.0, tt)
  beside_head [] (y ∷ ys) b = absurd b
  beside_head (x ∷ xs) [] b = absurd b

  beside_member : (n : ℕ) (xs : List A) (ys : List B) → Beside xs ys → Beside (member xs n) (member ys n)
  beside_member n [] [] b = tt
  beside_member zero (x ∷ xs) (y ∷ ys) b = (b.0, tt)
  beside_member (suc n) (x ∷ xs) (y ∷ ys) b = beside_member n xs ys b.1
  beside_member n [] (y ∷ ys) b = absurd b
  beside_member n (x ∷ xs) [] b = absurd b

  beside_chosen : (choice : Choice) (xs : List A) (ys : List B) → Beside xs ys → Beside (chosen choice xs) (chosen choice ys)
  beside_chosen (one_case n) xs ys b = beside_member n xs ys b
  beside_chosen all_cases xs ys b = b
  beside_chosen no_case xs ys b = tt

  pub beside_selected : (role : Role) (choice : Choice) (xs : List A) (ys : List B) → Beside xs ys → Beside (selected role choice xs) (selected role choice ys)
  beside_selected Plain choice xs ys b = b
  beside_selected File choice xs ys b = b
  beside_selected Zone choice xs ys b = beside_head xs ys b
  beside_selected Switch choice [] [] b = b
  beside_selected Switch choice (x ∷ xs) (y ∷ ys) b = (b.0, beside_chosen choice xs ys b.1)
  beside_selected Switch choice [] (y ∷ ys) b = absurd b
  beside_selected Switch choice (x ∷ xs) [] b = absurd b

  -- each member has one beside it
  pub beside_of : (xs : List A) (ys : List B) → Beside xs ys → (x : A) → Has xs x → (y : B) × R x y
  beside_of [] ys b x h = absurd h
  beside_of (z ∷ xs) [] b x h = absurd b
  beside_of (z ∷ xs) (y ∷ ys) b x (inl e) = (y, subst (λ a. R a y) (sym e) b.0)
  beside_of (z ∷ xs) (y ∷ ys) b x (inr h) = beside_of xs ys b.1 x h

  -- at each place of the second list the first one has a member
  pub beside_at : (xs : List A) (ys : List B) → Beside xs ys → (n : ℕ) (y : B) → slice_get ys n ≡ Some y → (x : A) × (slice_get xs n ≡ Some x) × R x y
  beside_at [] [] b n y e = cc
  beside_at (x ∷ xs) [] b n y e = absurd b
  beside_at [] (z ∷ ys) b n y e = absurd b
  beside_at (x ∷ xs) (z ∷ ys) b zero y e = (x, refl, subst (R x) (some_same e) b.0)
  beside_at (x ∷ xs) (z ∷ ys) b (suc n) y e = beside_at xs ys b.1 n y e

-- where related members are equal under f, so are the lists
pub beside_equal : {A B : Type 0} (f : A → B) (R : A → B → Type 0) (xs : List A) (ys : List B) → Beside R xs ys → ((x : A) (y : B) → Has xs x → R x y → f x ≡ y) → map f xs ≡ ys
beside_equal f R [] [] b h = refl
beside_equal f R (x ∷ xs) [] b h = absurd b
beside_equal f R [] (y ∷ ys) b h = absurd b
beside_equal f R (x ∷ xs) (y ∷ ys) b h = λ i. h x y (inl refl) b.0 i ∷ beside_equal f R xs ys b.1 (λ z u z_in r. h z u (inr z_in) r) i

pub head_from : {A : Type 0} (xs : List A) (x : A) → Has (head_of xs) x → Has xs x
head_from [] x h = h
head_from (y ∷ xs) x (inl e) = inl e
head_from (y ∷ xs) x (inr h) = absurd h

pub tail_from : {A : Type 0} (xs : List A) (x : A) → Has (tail_of xs) x → Has xs x
tail_from [] x h = h
tail_from (y ∷ xs) x h = inr h

member_from : {A : Type 0} (n : ℕ) (xs : List A) (x : A) → Has (member xs n) x → Has xs x
member_from n [] x h = absurd h
member_from zero (y ∷ xs) x (inl e) = inl e
member_from zero (y ∷ xs) x (inr h) = absurd h
member_from (suc n) (y ∷ xs) x h = inr (member_from n xs x h)

chosen_from : {A : Type 0} (choice : Choice) (xs : List A) (x : A) → Has (chosen choice xs) x → Has xs x
chosen_from (one_case n) xs x h = member_from n xs x h
chosen_from all_cases xs x h = h
chosen_from no_case xs x h = absurd h

-- what is selected stands in the list
pub selected_from : {A : Type 0} (role : Role) (choice : Choice) (xs : List A) (x : A) → Has (selected role choice xs) x → Has xs x
selected_from Plain choice xs x h = h
selected_from File choice xs x h = h
selected_from Zone choice xs x h = head_from xs x h
selected_from Switch choice [] x h = h
selected_from Switch choice (y ∷ xs) x (inl e) = inl e
selected_from Switch choice (y ∷ xs) x (inr h) = inr (chosen_from choice xs x h)

module _ {K V S T : Type 0} (m : Meanings K V S T) where
  -- ---- conversions

  pub converted_joined : (v : V) (ks ls : List ℕ) → converted m.rows v (ks ++ ls) ≡ converted m.rows (converted m.rows v ks) ls
  converted_joined v [] ls = refl
  converted_joined v (k ∷ ks) ls = converted_joined (m.rows.convert v k) ks ls

  -- a step of a conversion that has a sort has one
  first_shift : (o : Option S) (ks : List ℕ) (t : S) → option_and_then (λ u. shifted m u ks) o ≡ Some t → (u : S) × (o ≡ Some u) × (shifted m u ks ≡ Some t)
  first_shift None ks t e = cc
  first_shift (Some u) ks t e = (u, refl, e)

  pub shifted_joined : (r s t : S) (ks ls : List ℕ) → shifted m r ks ≡ Some s → shifted m s ls ≡ Some t → shifted m r (ks ++ ls) ≡ Some t
  shifted_joined r s t [] ls e f = subst (λ u. shifted m u ls ≡ Some t) (sym (some_same e)) f
  shifted_joined r s t (k ∷ ks) ls e f =
      let u : (u : S) × (m.shift r k ≡ Some u) × (shifted m u ks ≡ Some s) = first_shift (m.shift r k) ks s e in
      subst (λ o. option_and_then (λ u. shifted m u (ks ++ ls)) o ≡ Some t) (sym u.1) (shifted_joined u.0 s t ks ls u.2 f)

  module _ (lawful : IsLawful m) where
    pub converted_sort : (v : V) (s : S) (ks : List ℕ) → shifted m (m.sort v) ks ≡ Some s → m.sort (converted m.rows v ks) ≡ s
    converted_sort v s [] e = some_same e
    converted_sort v s (k ∷ ks) e =
        let f : (u : S) × (m.shift (m.sort v) k ≡ Some u) × (shifted m u ks ≡ Some s) = first_shift (m.shift (m.sort v) k) ks s e in
        converted_sort (m.rows.convert v k) s ks (subst (λ u. shifted m u ks ≡ Some s) (sym (lawful.conversion_sorts v k f.0 f.1)) f.2)

    pub converted_tags : (v : V) (s : S) (ks : List ℕ) → shifted m (m.sort v) ks ≡ Some s → (p : Path) → m.tag (converted m.rows v ks) p ≡ m.tag v p
    converted_tags v s [] e p = refl
    converted_tags v s (k ∷ ks) e p =
        let f : (u : S) × (m.shift (m.sort v) k ≡ Some u) × (shifted m u ks ≡ Some s) = first_shift (m.shift (m.sort v) k) ks s e in
        converted_tags (m.rows.convert v k) s ks (subst (λ u. shifted m u ks ≡ Some s) (sym (lawful.conversion_sorts v k f.0 f.1)) f.2) p ∙ lawful.conversion_tags v k f.0 f.1 p

  -- ---- sorts where there are more nodes

  pub more_source : (items : List S) (ns ms : List (Node K V)) → ((n : Node K V) → Has ns n → Has ms n) → (x : Source V) (s : S) → SourceSort m items ns x s → SourceSort m items ms x s
  more_source items ns ms more (a_value v) s h = h
  more_source items ns ms more (an_item i) s h = h
  more_source items ns ms more (an_output p k) s h = (h.0, more h.0 h.1, h.2, h.3)

  pub more_link : (items : List S) (ns ms : List (Node K V)) → ((n : Node K V) → Has ns n → Has ms n) → (link : Link V) (s : S) → LinkSort m items ns link s → LinkSort m items ms link s
  more_link items ns ms more link s h = (h.0, more_source items ns ms more link.from h.0 h.1, h.2)

  pub more_links : (items : List S) (ns ms : List (Node K V)) → ((n : Node K V) → Has ns n → Has ms n) → (links : List (Link V)) (sorts : List S) → LinkSorts m items ns links sorts → LinkSorts m items ms links sorts
  more_links items ns ms more [] [] h = h
  more_links items ns ms more (link ∷ links) (s ∷ sorts) h = (more_link items ns ms more link s h.0, more_links items ns ms more links sorts h.1)
  more_links items ns ms more [] (s ∷ sorts) h = absurd h
  more_links items ns ms more (link ∷ links) [] h = absurd h

  pub more_fits : (items : List S) (ns ms : List (Node K V)) → ((n : Node K V) → Has ns n → Has ms n) → (node : Node K V) → NodeFits m items ns node → NodeFits m items ms node
  more_fits items ns ms more node f = record { sorts = f.sorts; links = more_links items ns ms more node.links f.sorts f.links; kind = f.kind }

  -- each node of a list that fits does so among all of them
  pub each_fits : (items : List S) (before ns : List (Node K V)) → NodesFit m items before ns → (node : Node K V) → Has ns node → NodeFits m items (before ++ ns) node
  each_fits items before [] f node h = absurd h
  each_fits items before (n ∷ ns) f node (inl e) =
      subst (NodeFits m items (before ++ n ∷ ns)) (sym e) (more_fits items before (before ++ n ∷ ns) (λ x h. has_first before (n ∷ ns) x h) n f.0)
  each_fits items before (n ∷ ns) f node (inr h) =
      subst (λ xs. NodeFits m items xs node) (append_assoc before (n ∷ []) ns) (each_fits items (before ++ n ∷ []) ns f.1 node h)

  -- links beside their sorts
  pub links_beside : (items : List S) (ns : List (Node K V)) (links : List (Link V)) (sorts : List S) → LinkSorts m items ns links sorts → Beside (LinkSort m items ns) links sorts
  links_beside items ns [] [] h = h
  links_beside items ns (link ∷ links) (s ∷ sorts) h = (h.0, links_beside items ns links sorts h.1)
  links_beside items ns [] (s ∷ sorts) h = absurd h
  links_beside items ns (link ∷ links) [] h = absurd h

  pub beside_links : (items : List S) (ns : List (Node K V)) (links : List (Link V)) (sorts : List S) → Beside (LinkSort m items ns) links sorts → LinkSorts m items ns links sorts
  beside_links items ns [] [] h = h
  beside_links items ns (link ∷ links) (s ∷ sorts) h = (h.0, beside_links items ns links sorts h.1)
  beside_links items ns [] (s ∷ sorts) h = absurd h
  beside_links items ns (link ∷ links) [] h = absurd h

  -- a link that goes on
  pub along_sort : (ns : List (Node K V)) (l : Link V) (t s : S) (ks : List ℕ) → LinkSort m [] ns l t → shifted m t ks ≡ Some s → LinkSort m [] ns (along l ks) s
  along_sort ns l t s ks h e = (h.0, h.1, shifted_joined h.0 t s l.through ks h.2 e)

  -- ---- inside a zone

  -- a zone's items have the sorts of its outputs
  item_sort : (ns : List (Node K V)) (zone : Node K V) → m.rows.role zone.kind ≡ Zone → NodeFits m [] ns zone → (i : ℕ) (s : S) → slice_get (m.gives zone.kind) i ≡ Some s → LinkSort m [] ns (outer_source m zone (an_item i)) s
  item_sort ns zone role f i s at = by_links zone.links f.sorts f.links (subst (λ r. HasItems m r zone.kind f.sorts) role f.kind.items)
    where
      by_links : (links : List (Link V)) (sorts : List S) → LinkSorts m [] ns links sorts → (head : S) × (sorts ≡ head ∷ m.gives zone.kind) → LinkSort m [] ns (slice_index_or (tail_of links) i (plain_link (a_value m.nothing))) s
      by_links [] [] h shape = let bad : [] ≡ shape.0 ∷ m.gives zone.kind = shape.1 in cc
      by_links [] (t ∷ sorts) h shape = absurd h
      by_links (link ∷ links) [] h shape = absurd h
      by_links (link ∷ links) (t ∷ sorts) h shape =
          let same : sorts ≡ m.gives zone.kind = ap tail_of shape.1 in
          let found : (l : Link V) × (slice_get links i ≡ Some l) × LinkSort m [] ns l s =
          beside_at (LinkSort m [] ns) links sorts (links_beside [] ns links sorts h.1) i s (subst (λ ss. slice_get ss i ≡ Some s) (sym same) at) in
          subst (λ l. LinkSort m [] ns l s) (sym (index_at links i (plain_link (a_value m.nothing)) found.0 found.1)) found.2

  module _ (ns : List (Node K V)) (zone : Node K V) (role : m.rows.role zone.kind ≡ Zone) (f : NodeFits m [] ns zone) (inner : List (Node K V)) where
    abbrev pub grown : List (Node K V)
    grown = ns ++ map (outer_node m zone) inner

    led_sort : (x : Source V) (s : S) → SourceSort m (m.gives zone.kind) inner x s → LinkSort m [] grown (outer_source m zone x) s
    led_sort (a_value v) s h = (s, h, refl)
    led_sort (an_item i) s h = more_link [] ns grown (λ n k. has_first ns (map (outer_node m zone) inner) n k) (outer_source m zone (an_item i)) s (item_sort ns zone role f i s h)
    led_sort (an_output p k) s h =
        (s, (outer_node m zone h.0, has_second ns (map (outer_node m zone) inner) (outer_node m zone h.0) (has_image (outer_node m zone) inner h.0 h.1), h.2, h.3), refl)

    pub outer_link_sort : (link : Link V) (s : S) → LinkSort m (m.gives zone.kind) inner link s → LinkSort m [] grown (outer_link m zone link) s
    outer_link_sort link s h = along_sort grown (outer_source m zone link.from) h.0 s link.through (led_sort link.from h.0 h.1) h.2

    pub outer_link_sorts : (links : List (Link V)) (sorts : List S) → LinkSorts m (m.gives zone.kind) inner links sorts → LinkSorts m [] grown (map (outer_link m zone) links) sorts
    outer_link_sorts [] [] h = h
    outer_link_sorts (link ∷ links) (s ∷ sorts) h = (outer_link_sort link s h.0, outer_link_sorts links sorts h.1)
    outer_link_sorts [] (s ∷ sorts) h = absurd h
    outer_link_sorts (link ∷ links) [] h = absurd h

    pub outer_node_fits : (node : Node K V) → NodeFits m (m.gives zone.kind) inner node → NodeFits m [] grown (outer_node m zone node)
    outer_node_fits node g = record { sorts = g.sorts; links = outer_link_sorts node.links g.sorts g.links; kind = g.kind }

  -- the nodes inside a zone fit behind those of the graph
  pub outer_nodes_fit : (ds : List (Node K V)) (zone : Node K V) → m.rows.role zone.kind ≡ Zone → NodeFits m [] ds zone → (inner rest : List (Node K V)) → NodesFit m (m.gives zone.kind) inner rest → NodesFit m [] (ds ++ map (outer_node m zone) inner) (map (outer_node m zone) rest)
  outer_nodes_fit ds zone role fit inner [] g = tt
  outer_nodes_fit ds zone role fit inner (n ∷ rest) g = (
    outer_node_fits ds zone role fit inner n g.0,
    subst (λ xs. NodesFit m [] xs (map (outer_node m zone) rest))
        (ap (λ ys. ds ++ ys) (map_append (outer_node m zone) inner (n ∷ [])) ∙ sym (append_assoc ds (map (outer_node m zone) inner) (outer_node m zone n ∷ [])))
        (outer_nodes_fit ds zone role fit (inner ++ n ∷ []) rest g.1),
  )

  -- nodes that fit behind nodes that fit
  pub fit_joined : (items : List S) (before xs ys : List (Node K V)) → NodesFit m items before xs → NodesFit m items (before ++ xs) ys → NodesFit m items before (xs ++ ys)
  fit_joined items before [] ys f g = subst (λ ns. NodesFit m items ns ys) (append_nil before) g
  fit_joined items before (x ∷ xs) ys f g = (f.0, fit_joined items (before ++ x ∷ []) xs ys f.1 (subst (λ ns. NodesFit m items ns ys) (sym (append_assoc before (x ∷ []) xs)) g))
