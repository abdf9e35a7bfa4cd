-- What a node is, by its settings one by one, and what its sockets are.
use Rattle.std.proofs.lemmas.List.{drop_more}
use Rattle.std.proofs.Common.{◌≡◌, ◌<◌, ◌+◌, drop, get_or, length, ℕ, List, map, Option, Some, None, Global, refl, sym, ◌∙◌, ap, subst}
use Rattle.std.specs.Prelude.{String}
use Rattle.gn_kinds.specs.Row.{Text}
use Rattle.gn_tree.specs.Trees.{Settings, Socket, Group}
use Rattle.gn_tree.specs.Seen.{setting_then, settings_of, socket_of, nodes_of, named_of}
use Rattle.gn_tree.specs.declared.tree.Setting.{Setting as CodeSetting}
use Rattle.gn_tree.specs.declared.tree.Setting.TheVariants as s
use Rattle.gn_rules.specs.Sockets.{one, further, group_in, items_in}
use Rattle.gn_rules.specs.Scopes.{Scope}
use Rattle.gn_meaning.specs.Bodies.{zone_body, body_in}
use Rattle.gn_meaning.specs.Forms.{SettingsHaveForm}
use Rattle.gn_origin.specs.declared.list.Inside.{Inside}
use Rattle.gn_origin.specs.declared.list.Inside.TheVariants as inside
use Rattle.gn_origin.specs.Nodes.{Holds}
use Rattle.gn_tree.specs.declared.tree.Zone.{Zone}

-- ---- settings one by one

module _ (side : Group → List Socket) (gs : List Group) where
  further_by : (one other : Settings) (o : Option Text) → group_in one ≡ o → group_in other ≡ o → items_in one ≡ items_in other → further side gs one ≡ further side gs other
  further_by one other None e f g = rw e (rw f g)
  further_by one other (Some name) e f g = rw e (rw f refl)

module _ (sc : Scope) (kind : Text) where
  passes : (one other : Settings) (found : Inside) → body_in sc kind one ≡ body_in sc kind other → (SettingsHaveForm kind one → SettingsHaveForm kind other)
      → ((side : Group → List Socket) → further side sc.groups one ≡ further side sc.groups other) → Holds sc kind other found → Holds sc kind one found
  passes one other inside.Nothing e f g (a, b) = (e ∙ a, λ side. g side ∙ b side)
  passes one other (inside.Group list) e f g (i, is, a, b) = (i, is, e ∙ a, λ side. g side ∙ b side)
  passes one other inside.Zone e f g (b, a, c) = (b, e ∙ a, λ form. c (f form))

pub zone_holds : (sc : Scope) (x : CodeSetting) (z : Zone) → x ≡ s.Zone z → (kind : Text) (rest : Settings) → Holds sc kind (setting_then x rest) inside.Zone
zone_holds sc x z e kind rest =
    subst (λ y. Holds sc kind (setting_then y rest) inside.Zone) (sym e)
    (zone_body sc kind (map socket_of z.items.items) (nodes_of z.nodes.items) (map named_of z.output.items), refl, λ form. form.0)

pub passes_on : (sc : Scope) (x : CodeSetting) → ((n : String Global) → ¬ (x ≡ s.Group n)) → ((z : Zone) → ¬ (x ≡ s.Zone z)) → (kind : Text) (rest : Settings) (found : Inside) → Holds sc kind rest found → Holds sc kind (setting_then x rest) found
passes_on sc (s.Of k) no_group no_zone kind rest found h = passes sc kind (setting_then (s.Of k) rest) rest found refl (λ f. f) (λ side. further_by side sc.groups (setting_then (s.Of k) rest) rest (group_in rest) refl refl refl) h
passes_on sc (s.Op k) no_group no_zone kind rest found h = passes sc kind (setting_then (s.Op k) rest) rest found refl (λ f. f) (λ side. further_by side sc.groups (setting_then (s.Op k) rest) rest (group_in rest) refl refl refl) h
passes_on sc (s.Place k) no_group no_zone kind rest found h = passes sc kind (setting_then (s.Place k) rest) rest found refl (λ f. f) (λ side. further_by side sc.groups (setting_then (s.Place k) rest) rest (group_in rest) refl refl refl) h
passes_on sc (s.Clamp k) no_group no_zone kind rest found h = passes sc kind (setting_then (s.Clamp k) rest) rest found refl (λ f. f) (λ side. further_by side sc.groups (setting_then (s.Clamp k) rest) rest (group_in rest) refl refl refl) h
passes_on sc (s.Name k) no_group no_zone kind rest found h = passes sc kind (setting_then (s.Name k) rest) rest found refl (λ f. f) (λ side. further_by side sc.groups (setting_then (s.Name k) rest) rest (group_in rest) refl refl refl) h
passes_on sc (s.File k) no_group no_zone kind rest found h = passes sc kind (setting_then (s.File k) rest) rest found refl (λ f. f) (λ side. further_by side sc.groups (setting_then (s.File k) rest) rest (group_in rest) refl refl refl) h
passes_on sc (s.Value k) no_group no_zone kind rest found h = passes sc kind (setting_then (s.Value k) rest) rest found refl (λ f. f) (λ side. further_by side sc.groups (setting_then (s.Value k) rest) rest (group_in rest) refl refl refl) h
passes_on sc (s.Group n) no_group no_zone kind rest found h = absurd (no_group n refl)
passes_on sc (s.Zone z) no_group no_zone kind rest found h = absurd (no_zone z refl)

pub settings_next : (xs : List CodeSetting) (i : ℕ) (x : CodeSetting) → i < length xs → x ≡ get_or xs i x → settings_of (drop i xs) ≡ setting_then x (settings_of (drop (i + 1) xs))
settings_next xs i x h e = ap settings_of (drop_more xs i x h) ∙ ap (λ y. setting_then y (settings_of (drop (i + 1) xs))) (sym e)
