-- A geometry that is kept, its twin, and the copies that are noted of it.
use Rattle.std.proofs.Common.{◌≡◌, ℕ, ◌<◌, ◌^◌, Bool, List, [], ◌∷◌, ◌++◌, length, refl, ap, sym, subst, ◌∙◌}
use Rattle.std.specs.List.{All, AllZip}
use Rattle.gn_shared.specs.Count.{Count}
use Rattle.gn_plain.specs.Columns.{Entry}
use Rattle.gn_attr.specs.Columns.{KeepsEntry, IsTwinEntry}
use Rattle.gn_attr.specs.declared.column.Column.{Column}
use Rattle.gn_attr.proofs.Twins.{keeps_all}
use Rattle.gn_geom.specs.Meshes.{MeshArrays}
use Rattle.gn_geometry.specs.declared.geometry.Transform.{Transform}
use Rattle.gn_geometry.specs.Notes.{noted_each, NotesFirst}
use Rattle.gn_geometry.specs.Meshes.{MeshView, KeepsShape, KeepsMesh}
use Rattle.gn_geometry.specs.Clouds.{CloudView, KeepsCloud}
use Rattle.gn_geometry.specs.Geometries.{GeometryView, geometry, InstancesView, instances, Parts, no_parts, part, ArePlaced, KeepsGeometry, KeepsInstances, KeepsParts, instance_count}
use Rattle.gn_geometry.proofs.Fitting.{fit_kept, fit_twins}
use Rattle.gn_geometry.proofs.Noted.{noted_append, first_of, then_first}

-- ---- what did not change is kept

keeps_shape : (m : MeshArrays) → KeepsShape m m
keeps_shape m = record { points = (refl, refl); edges = (refl, refl); faces = (refl, refl); corner_points = (refl, refl); corner_edges = (refl, refl); loose = (refl, refl) }

pub keeps_mesh : (m : MeshView) → KeepsMesh m m
keeps_mesh m = record { shape = keeps_shape m.shape; columns = keeps_all m.columns }

pub keeps_cloud : (c : CloudView) → KeepsCloud c c
keeps_cloud c = record { points = (refl, refl); columns = keeps_all c.columns }

mutual
  pub keeps_geometry : (g : GeometryView) → KeepsGeometry g g
  keeps_geometry (geometry m c is) = (keeps_mesh m, keeps_cloud c, keeps_instances is)

  pub keeps_instances : (is : InstancesView) → KeepsInstances is is
  keeps_instances (instances ps items es) = (keeps_same ps, refl, keeps_all es)

  keeps_same : (ps : Parts) → KeepsParts ps ps
  keeps_same no_parts = tt
  keeps_same (part g gs) = (keeps_geometry g, keeps_same gs)

pub all_kept : (gs : List GeometryView) → AllZip KeepsGeometry gs gs
all_kept [] = tt
all_kept (g ∷ gs) = (keeps_geometry g, all_kept gs)

-- ---- instances stay so

abbrev AreNamed : List (Transform × ℕ) → ℕ → Type 0
AreNamed items n = All (λ (i : Transform × ℕ). i.1 < n) items

pub placed_kept : (n n' : ℕ) (items : List (Transform × ℕ)) (es fs : List (Entry Column)) → n ≡ n' → AllZip KeepsEntry es fs → ArePlaced n items es → ArePlaced n' items fs
placed_kept n n' items es fs same kept placed = record {
  named = subst (AreNamed items) same placed.named;
  few_parts = subst (λ k. k < 2 ^ 32) same placed.few_parts;
  few_items = placed.few_items;
  fit = fit_kept (instance_count (length items)) es fs kept placed.fit;
}

pub placed_twin : (n n' : ℕ) (items : List (Transform × ℕ)) (es fs : List (Entry Column)) → n ≡ n' → AllZip IsTwinEntry es fs → ArePlaced n items es → ArePlaced n' items fs
placed_twin n n' items es fs same twins placed = record {
  named = subst (AreNamed items) same placed.named;
  few_parts = subst (λ k. k < 2 ^ 32) same placed.few_parts;
  few_items = placed.few_items;
  fit = fit_twins (instance_count (length items)) es fs twins placed.fit;
}

-- ---- copies of three lists of arrays, one after another

module _ (xs ys zs : List Bool) (start one two last : Count) (first : one ≡ noted_each xs start) where
  pub all_noted : two ≡ noted_each ys one → last ≡ noted_each zs two → last ≡ noted_each (xs ++ (ys ++ zs)) start
  all_noted second third =
      third ∙ (ap (noted_each zs) second ∙ (sym (noted_append ys zs one) ∙ (ap (noted_each (ys ++ zs)) first ∙ sym (noted_append xs (ys ++ zs) start))))

  pub stopped_second : NotesFirst ys one last → NotesFirst (xs ++ (ys ++ zs)) start last
  stopped_second some = then_first xs (ys ++ zs) start one last first (first_of ys zs one last some)

  pub stopped_third : two ≡ noted_each ys one → NotesFirst zs two last → NotesFirst (xs ++ (ys ++ zs)) start last
  stopped_third second some = then_first xs (ys ++ zs) start one last first (then_first ys zs one two last second some)
