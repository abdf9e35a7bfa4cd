-- Meanings under which the zones of a small tree are known, and open for their turns.
use Rattle.std.proofs.Common.{◌≡◌, ◌≢◌, ◌⊎◌, inl, inr, ℕ, zero, suc, [], ◌∷◌, Option, Some, None, pos, codes, refl, sym, ◌∙◌, ap, subst}
use Rattle.std.specs.Prelude.{Bool, true, false, is_some, unwrap_or, bytes_eq, option_map, option_and_then, if◌then◌else◌}
use Rattle.gn_value.specs.declared.value.Value.{Value}
use Rattle.gn_value.specs.declared.value.Value.TheVariants.{Int as int}
use Rattle.gn_lazy.specs.declared.path.PathStep.{PathStep}
use Rattle.gn_kinds.specs.Table.{row_of_kind, table, values, functions, elsewhere, attributes, geometry_kinds, instance_kinds, groups}
use Rattle.gn_tree.specs.NodeKinds.{Kind}
use Rattle.gn_node_set.specs.Meanings.{Role, Plain, Zone, no_case, Opened, Meanings}
use Rattle.gn_meaning.specs.Sites.{Way, the_tree, into, plain_step}
use Rattle.gn_meaning.specs.Bodies.{Body, body_of, body_at}
use Rattle.gn_rules.specs.Sockets.{node_at}
use Rattle.gn_meaning.specs.Reads.{Run, Part, a_node, a_repeat, part_in, part_at}
use Rattle.gn_meaning.specs.There.{LeadsTo}
use Rattle.gn_stands.specs.Stands.{KnowsZones}
use Rattle.gn_stands.specs.Zones.{opened_within}
use Rattle.gn_stands.specs.Claims.{OpenAsFound}
use Rattle.gn_stands.proofs.Examples.{small, nothing_given}

abbrev role_of : Kind → Role
role_of kind = if bytes_eq kind.name (codes "repeat") then Zone else Plain

abbrev no_more : Opened Kind Value
no_more = record { nodes = []; outputs = [] }

-- each zone turns twice, and opens what is found for its kind
abbrev pub two_turns : Meanings Kind Value (Unit {0}) ⊥
two_turns = record {
  rows = record {
    role = role_of;
    file = λ kind. [];
    choice = λ kind v. no_case;
    row = λ p kind inputs answer. record { outputs = int (pos 2) ∷ []; warnings = [] };
    turns = λ kind v. 2;
    convert = λ v kind. v;
  };
  opens = λ p kind v. unwrap_or (opened_within kind p nothing_given 9 2) no_more;
  sort = λ v. tt;
  shift = λ s kind. None;
  fits = λ kind sorts. true;
  gives = λ kind. tt ∷ [];
  height = λ kind. 0;
  tag = λ v p. None;
  nothing = int (pos 0);
}

abbrev list_of : Option Body → Way → ℕ → Option Part
list_of o way n = option_and_then (λ b. option_map (part_in b.scope way n) (node_at b.scope.nodes n)) o

abbrev inner_of : Option Body → PathStep → Option Body
inner_of o step = option_and_then (λ b. option_and_then (body_of b.scope) (node_at b.scope.nodes step.node)) o

-- the lists of the group and of the zone
abbrev group_list : Option Body
group_list = body_at small (into the_tree (plain_step 1))

abbrev zone_list : Option Body
zone_list = body_at small (into the_tree (plain_step 3))

abbrev Known : Way → Option Body → Type 0
Known way o = (o ≡ None) ⊎ ((o ≡ group_list) ⊎ ((o ≡ zone_list) ⊎ (way ≡ the_tree)))

-- the lists in the tree's own one
below_tree : (way : Way) (step : PathStep) (n : ℕ) → step.node ≡ n → Known way (inner_of (body_at small the_tree) (record { node = n; turn = step.turn }))
below_tree way step zero e = inl refl
below_tree way step (suc zero) e = inr (inl refl)
below_tree way step (suc (suc zero)) e = inl refl
below_tree way step (suc (suc (suc zero))) e = inr (inr (inl refl))
below_tree way step (suc (suc (suc (suc n)))) e = inl refl

nothing_in_group : (n : ℕ) (step : PathStep) → step.node ≡ n → inner_of group_list (record { node = n; turn = step.turn }) ≡ None
nothing_in_group zero step e = refl
nothing_in_group (suc n) step e = refl

nothing_in_zone : (n : ℕ) (step : PathStep) → step.node ≡ n → inner_of zone_list (record { node = n; turn = step.turn }) ≡ None
nothing_in_zone zero step e = refl
nothing_in_zone (suc n) step e = refl

known : (way : Way) → Known way (body_at small way)
known the_tree = inr (inr (inr refl))
known (into way step) = elim (known way) [
  | inl none ↦ inl (ap (λ o. inner_of o step) none)
  | inr (inl group) ↦ inl (ap (λ o. inner_of o step) group ∙ nothing_in_group step.node step refl)
  | inr (inr (inl zone)) ↦ inl (ap (λ o. inner_of o step) zone ∙ nothing_in_zone step.node step refl)
  | inr (inr (inr top)) ↦ subst (λ w. Known (into way step) (inner_of (body_at small w) step)) (sym top) (below_tree (into way step) step step.node refl)
]

-- so the one zone is that of the tree's own list

one_zone : (way : Way) (n : ℕ) (run : Run) (b : Body) → part_at small way n ≡ Some (a_repeat run b) → (way ≡ the_tree) × (n ≡ 3)
one_zone way n run b e = elim (known way) [
  | inl none ↦ absurd (in_none (body_at small way) none e)
  | inr (inl group) ↦ absurd (in_group n (sym (ap (λ o. list_of o way n) group) ∙ e))
  | inr (inr (inl zone)) ↦ absurd (in_zone n (sym (ap (λ o. list_of o way n) zone) ∙ e))
  | inr (inr (inr top)) ↦ (top, in_tree n (sym (ap (λ w. list_of (body_at small w) way n) top) ∙ e))
]
  where
    in_none : (o : Option Body) → o ≡ None → list_of o way n ≡ Some (a_repeat run b) → ⊥
    in_none None f g = cc
    in_none (Some x) f g = cc

    in_group : (k : ℕ) → list_of group_list way k ≡ Some (a_repeat run b) → ⊥
    in_group zero f = cc
    in_group (suc k) f = cc

    in_zone : (k : ℕ) → list_of zone_list way k ≡ Some (a_repeat run b) → ⊥
    in_zone zero f = cc
    in_zone (suc k) f = cc

    in_tree : (k : ℕ) → list_of (body_at small the_tree) way k ≡ Some (a_repeat run b) → k ≡ 3
    in_tree zero f = cc
    in_tree (suc zero) f = cc
    in_tree (suc (suc zero)) f = cc
    in_tree (suc (suc (suc zero))) f = refl
    in_tree (suc (suc (suc (suc k)))) f = cc

abbrev FoundFor : Option Part → Bool
FoundFor (Some (a_repeat run b)) = is_some (opened_within run.kind run.path nothing_given 9 2)
FoundFor _ = false

abbrev role_at : Option Part → Role
role_at (Some (a_repeat run b)) = role_of run.kind
role_at (Some (a_node run)) = role_of run.kind
role_at _ = Plain

held : {A : Type 0} (o : Option A) (d : A) → is_some o ≡ true → o ≡ Some (unwrap_or o d)
held None d e = cc
held (Some a) d e = refl

found_there : FoundFor (part_at small the_tree 3) ≡ true
unfolding row_of_kind table values functions elsewhere attributes geometry_kinds instance_kinds groups
found_there = refl

pub opens_as_found : OpenAsFound two_turns nothing_given small
opens_as_found way outer n run b head leads e =
    let place : (way ≡ the_tree) × (n ≡ 3) = one_zone way n run b e in
    let at : part_at small the_tree 3 ≡ Some (a_repeat run b) = sym (λ i. part_at small (place.0 i) (place.1 i)) ∙ e in
    (9, held (opened_within run.kind run.path nothing_given 9 2) no_more (sym (ap FoundFor at) ∙ found_there))

pub knows_zones : KnowsZones two_turns.rows small
knows_zones = record { zones = zones; others = others }
  where
    zones : (way : Way) (outer : Body) (n : ℕ) (run : Run) (b : Body) → LeadsTo small way outer → part_at small way n ≡ Some (a_repeat run b) → role_of run.kind ≡ Zone
    zones way outer n run b leads e =
        let place : (way ≡ the_tree) × (n ≡ 3) = one_zone way n run b e in
        let at : part_at small the_tree 3 ≡ Some (a_repeat run b) = sym (λ i. part_at small (place.0 i) (place.1 i)) ∙ e in
        sym (ap role_at at)

    others : (way : Way) (outer : Body) (n : ℕ) (run : Run) → LeadsTo small way outer → part_at small way n ≡ Some (a_node run) → role_of run.kind ≢ Zone
    others way outer n run leads e zone = elim (known way) [
      | inl none ↦ in_none (body_at small way) none e
      | inr (inl group) ↦ in_group n (sym (ap (λ o. list_of o way n) group) ∙ e)
      | inr (inr (inl inner)) ↦ in_zone n (sym (ap (λ o. list_of o way n) inner) ∙ e)
      | inr (inr (inr top)) ↦ in_tree n (sym (ap (λ w. list_of (body_at small w) way n) top) ∙ e)
    ]
      where
        no_zone : (o : Option Part) → o ≡ Some (a_node run) → role_at o ≡ Plain → ⊥
        no_zone o f g = let bad : Plain ≡ Zone = sym g ∙ ap role_at f ∙ zone in cc

        in_none : (o : Option Body) → o ≡ None → list_of o way n ≡ Some (a_node run) → ⊥
        in_none None f g = cc
        in_none (Some x) f g = cc

        in_group : (k : ℕ) → list_of group_list way k ≡ Some (a_node run) → ⊥
        in_group zero f = no_zone (list_of group_list way 0) f refl
        in_group (suc k) f = cc

        in_zone : (k : ℕ) → list_of zone_list way k ≡ Some (a_node run) → ⊥
        in_zone zero f = no_zone (list_of zone_list way 0) f refl
        in_zone (suc k) f = cc

        in_tree : (k : ℕ) → list_of (body_at small the_tree) way k ≡ Some (a_node run) → ⊥
        in_tree zero f = no_zone (list_of (body_at small the_tree) way 0) f refl
        in_tree (suc zero) f = cc
        in_tree (suc (suc zero)) f = no_zone (list_of (body_at small the_tree) way 2) f refl
        in_tree (suc (suc (suc zero))) f = cc
        in_tree (suc (suc (suc (suc k)))) f = cc
