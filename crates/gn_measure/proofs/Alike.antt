-- A measure that is capped at each step is the capped measure.
use Rattle.std.proofs.Common.{◌≡◌, ℕ, suc, ◌+◌, ◌<◌, ◌-◌, ◌^◌, max, Bool, List, [], ◌∷◌, ◌++◌, map, length, get_or, Option, Some, None, nat_lt, refl, sym, ap, ◌∙◌, arith, if◌then◌else◌, true, false}
use Rattle.std.specs.Option.{option_map_or}
use Rattle.std.proofs.lemmas.List.{map-append, length-map}
use Rattle.std.proofs.lemmas.Bool.Decides.{nat_tests}
use Rattle.std.proofs.Math.ListN.{get_or-map}
use Rattle.gn_kinds.specs.Row.{Text}
use Rattle.gn_names.specs.First.{first_of}
use Rattle.gn_tree.specs.Trees.{Node, node, Setting, of_group, Settings, no_settings, and_setting, and_zone, Nodes, no_nodes, and_node, Group}
use Rattle.gn_rules.specs.Sockets.{group_names}
use Rattle.gn_rules.specs.Measures.{by_group, height, height_in, heights, count, count_in, counts, number_among, group_by_group, of_groups, known_above}
use Rattle.gn_measure.specs.Capped.{capped}
use Rattle.gn_measure.specs.Measures.{heights_capped, counts_capped}

abbrev pub Alike : (Text → ℕ) → (Text → ℕ) → Type 0
Alike f g = (name : Text) → capped (f name) ≡ capped (g name)

cap_suc : (a b : ℕ) → capped a ≡ capped b → capped (suc a) ≡ capped (suc b)
cap_suc a b h = omega arith

cap_max : (a b c d : ℕ) → capped a ≡ capped b → capped c ≡ capped d → capped (max a c) ≡ capped (max b d)
cap_max a b c d h g = omega arith

cap_add : (a b c d : ℕ) → capped a ≡ capped b → capped c ≡ capped d → capped (a + c) ≡ capped (b + d)
cap_add a b c d h g = omega arith

cap_twice : (a : ℕ) → capped (capped a) ≡ capped a
cap_twice a = omega arith

module _ (f g : Text → ℕ) (h : Alike f g) where
  group_alike : (x : Setting) → capped (by_group f x) ≡ capped (by_group g x)
  group_alike (of_group name) = h name
  group_alike _ = refl

  mutual
    height_alike : (n : Node) → capped (height f n) ≡ capped (height g n)
    height_alike (node id kind set inputs) = height_in_alike set

    height_in_alike : (xs : Settings) → capped (height_in f xs) ≡ capped (height_in g xs)
    height_in_alike no_settings = refl
    height_in_alike (and_setting x rest) = cap_max (by_group f x) (by_group g x) (height_in f rest) (height_in g rest) (group_alike x) (height_in_alike rest)
    height_in_alike (and_zone items nodes output rest) =
        cap_max (suc (heights f nodes)) (suc (heights g nodes)) (height_in f rest) (height_in g rest) (cap_suc (heights f nodes) (heights g nodes) (heights_alike nodes)) (height_in_alike rest)

    heights_alike : (ns : Nodes) → capped (heights f ns) ≡ capped (heights g ns)
    heights_alike no_nodes = refl
    heights_alike (and_node n ns) = cap_max (height f n) (height g n) (heights f ns) (heights g ns) (height_alike n) (heights_alike ns)

  mutual
    count_alike : (n : Node) → capped (count f n) ≡ capped (count g n)
    count_alike (node id kind set inputs) = cap_suc (count_in f set) (count_in g set) (count_in_alike set)

    count_in_alike : (xs : Settings) → capped (count_in f xs) ≡ capped (count_in g xs)
    count_in_alike no_settings = refl
    count_in_alike (and_setting x rest) = cap_add (by_group f x) (by_group g x) (count_in f rest) (count_in g rest) (group_alike x) (count_in_alike rest)
    count_in_alike (and_zone items nodes output rest) = cap_add (counts f nodes) (counts g nodes) (count_in f rest) (count_in g rest) (counts_alike nodes) (count_in_alike rest)

    counts_alike : (ns : Nodes) → capped (counts f ns) ≡ capped (counts g ns)
    counts_alike no_nodes = refl
    counts_alike (and_node n ns) = cap_add (count f n) (count g n) (counts f ns) (counts g ns) (count_alike n) (counts_alike ns)

-- ---- groups

below_alike : (es : List ℕ) (a i : ℕ) (b : Bool) → capped (if b then get_or es i 0 else 0) ≡ capped (if b then get_or (map capped es) i 0 else 0)
below_alike es a i true = sym (ap capped (get_or-map capped es i 0) ∙ cap_twice (get_or es i 0))
below_alike es a i false = refl

position_alike : (es : List ℕ) (a : ℕ) (o : Option ℕ)
    → capped (option_map_or (λ i. if nat_lt i a then get_or es i 0 else 0) o 0) ≡ capped (option_map_or (λ i. if nat_lt i a then get_or (map capped es) i 0 else 0) o 0)
position_alike es a None = refl
position_alike es a (Some i) = below_alike es a i (nat_lt i a)

pub number_alike : (names : List Text) (es : List ℕ) (a : ℕ) → Alike (number_among names es a) (number_among names (map capped es) a)
number_alike names es a name = position_alike es a (first_of names name)

module _ (m : (Text → ℕ) → Nodes → ℕ) (respects : (f g : Text → ℕ) → Alike f g → (ns : Nodes) → capped (m f ns) ≡ capped (m g ns)) where
  abbrev capped_m : (Text → ℕ) → Nodes → ℕ
  capped_m f ns = capped (m f ns)

  pushed : (names : List Text) (es : List ℕ) (ns : Nodes) → map capped (es ++ m (number_among names es (length es)) ns ∷ []) ≡ map capped es ++ capped_m (number_among names (map capped es) (length (map capped es))) ns ∷ []
  pushed names es ns =
      let same : length (map capped es) ≡ length es = simp length-map in
      map-append capped es (m (number_among names es (length es)) ns ∷ [])
      ∙ (ap (λ x. map capped es ++ x ∷ []) (respects (number_among names es (length es)) (number_among names (map capped es) (length es)) (number_alike names es (length es)) ns)
      ∙ ap (λ n. map capped es ++ capped_m (number_among names (map capped es) n) ns ∷ []) (sym same))

  numbers_alike : (names : List Text) (es : List ℕ) (gs : List Group) → map capped (group_by_group m names es gs) ≡ group_by_group capped_m names (map capped es) gs
  numbers_alike names es [] = refl
  numbers_alike names es (g ∷ gs) =
      numbers_alike names (es ++ m (number_among names es (length es)) g.nodes ∷ []) gs
      ∙ ap (λ ds. group_by_group capped_m names ds gs) (pushed names es g.nodes)

  known_alike : (gs : List Group) (a : ℕ) → Alike (number_among (group_names gs) (of_groups m gs) a) (number_among (group_names gs) (of_groups capped_m gs) a)
  known_alike gs a name =
      number_alike (group_names gs) (of_groups m gs) a name
      ∙ ap (λ ds. capped (number_among (group_names gs) ds a name)) (numbers_alike (group_names gs) [] gs)

-- ---- comparisons

less_capped : (k a : ℕ) → k < 2 ^ 64 - 1 → nat_lt k (capped a) ≡ nat_lt k a
less_capped k a h = grind (arith, nat_tests)

pub same_test : (k a b : ℕ) → k < 2 ^ 64 - 1 → capped a ≡ capped b → nat_lt k a ≡ nat_lt k b
same_test k a b h e = sym (less_capped k a h) ∙ (ap (nat_lt k) e ∙ less_capped k b h)

pub height_known : (gs : List Group) (a : ℕ) (n : Node) → capped (height (known_above heights gs a) n) ≡ capped (height (number_among (group_names gs) (heights_capped gs) a) n)
height_known gs a n = height_alike (known_above heights gs a) (number_among (group_names gs) (heights_capped gs) a) (known_alike heights heights_alike gs a) n

pub counts_known : (gs : List Group) (a : ℕ) (ns : Nodes) → capped (counts (known_above counts gs a) ns) ≡ capped (counts (number_among (group_names gs) (counts_capped gs) a) ns)
counts_known gs a ns = counts_alike (known_above counts gs a) (number_among (group_names gs) (counts_capped gs) a) (known_alike counts counts_alike gs a) ns

height_same : (gs : List Group) (a : ℕ) (n : Node) (result : ℕ) (names : List Text) (numbers : List ℕ) → names ≡ group_names gs → numbers ≡ heights_capped gs → result ≡ capped (height (number_among names numbers a) n)
    → capped result ≡ capped (height (known_above heights gs a) n)
height_same gs a n result names numbers e f r =
    ap capped r ∙ (cap_twice (height (number_among names numbers a) n)
    ∙ (ap (λ x. capped (height (number_among x numbers a) n)) e ∙ (ap (λ x. capped (height (number_among (group_names gs) x a) n)) f ∙ sym (height_known gs a n))))

pub higher_seen : (gs : List Group) (a : ℕ) (n : Node) (limit result : ℕ) (names : List Text) (numbers : List ℕ) → limit < 2 ^ 64 - 1 → names ≡ group_names gs → numbers ≡ heights_capped gs
    → result ≡ capped (height (number_among names numbers a) n) → nat_lt limit result ≡ nat_lt limit (height (known_above heights gs a) n)
higher_seen gs a n limit result names numbers h e f r = same_test limit result (height (known_above heights gs a) n) h (height_same gs a n result names numbers e f r)

count_same : (gs : List Group) (a : ℕ) (ns : Nodes) (result : ℕ) (names : List Text) (numbers : List ℕ) → names ≡ group_names gs → numbers ≡ counts_capped gs → result ≡ capped (counts (number_among names numbers a) ns)
    → capped result ≡ capped (counts (known_above counts gs a) ns)
count_same gs a ns result names numbers e f r =
    ap capped r ∙ (cap_twice (counts (number_among names numbers a) ns)
    ∙ (ap (λ x. capped (counts (number_among x numbers a) ns)) e ∙ (ap (λ x. capped (counts (number_among (group_names gs) x a) ns)) f ∙ sym (counts_known gs a ns))))

pub more_seen : (gs hs : List Group) (a : ℕ) (ns : Nodes) (limit result : ℕ) (names : List Text) (numbers : List ℕ) → limit < 2 ^ 64 - 1 → names ≡ group_names gs → numbers ≡ counts_capped gs → gs ≡ hs → a ≡ length gs
    → result ≡ capped (counts (number_among names numbers a) ns) → nat_lt limit result ≡ nat_lt limit (counts (known_above counts hs (length hs)) ns)
more_seen gs hs a ns limit result names numbers h e f g n r =
    same_test limit result (counts (known_above counts gs a) ns) h (count_same gs a ns result names numbers e f r)
    ∙ (ap (λ x. nat_lt limit (counts (known_above counts gs x) ns)) n ∙ ap (λ xs. nat_lt limit (counts (known_above counts xs (length xs)) ns)) g)
