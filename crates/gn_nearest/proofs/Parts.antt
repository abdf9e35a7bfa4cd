-- Candidates and the entries of parts.
use Rattle.std.proofs.Common.{◌≡◌, ℕ, ◌<◌, ◌≤◌, List, length, get_or, sym, subst, Option, Some, inl, inr, arith}
use Rattle.std.specs.Prelude.{◌⊎◌}
use Rattle.std.proofs.lemmas.Bool.{cases_order}
use Rattle.std.proofs.lemmas.List.{get_or_default}
use Rattle.gn_value.specs.declared.vector.V3.{V3}
use Rattle.gn_nearest.specs.Boxes.{IsBox, IsFirst, IsHalved, AreHalves, rank, candidate, bound, part_at}
use Rattle.gn_nearest.specs.declared.candidate.Entry.{Entry}
use Rattle.gn_nearest.specs.declared.candidate.Candidate.{Candidate}
use Rattle.gn_nearest.specs.declared.grow.Part.{Part}
use Rattle.gn_nearest.specs.declared.grow.Halves.{Halves}
use Rattle.gn_nearest.proofs.Ranks.{bound_is_first}

-- what the box of a part bounds
pub box_bounds : (entries : List Entry) (parts : List Part) (k : ℕ) (part : Part) (to : V3) → IsBox entries parts k part → IsFirst entries part to (bound to part.bounds)
box_bounds entries parts k part to box p d from below = bound_is_first to part.bounds (get_or entries p d) (box.inside p d from below)

-- a candidate that comes before another that comes behind none
pub first_before : (entries : List Entry) (part : Part) (to : V3) (a c : Candidate) → rank c ≤ rank a → IsFirst entries part to a → IsFirst entries part to c
first_before entries part to a c h first p d from below =
    let there = first p d from below in
    omega arith

-- what comes behind none of the entries of both halves, nor behind the one between them
pub halves_first : (entries : List Entry) (parts : List Part) (k : ℕ) (part : Part) (halves : Halves) (to : V3) (c : Candidate) → AreHalves parts k part.from part.to halves → IsFirst entries (part_at parts halves.front) to c → ((d : Entry) → rank c ≤ rank (candidate to (get_or entries (part_at parts halves.front).to d))) → IsFirst entries (part_at parts halves.back) to c → IsFirst entries part to c
halves_first entries parts k part halves to c h front middle back p d from below = by (cases_order p (part_at parts halves.front).to)
  where
    by : (p ≡ (part_at parts halves.front).to) ⊎ ((p < (part_at parts halves.front).to) ⊎ ((part_at parts halves.front).to < p)) → rank c ≤ rank (candidate to (get_or entries p d))
    by (inl e) = subst (λ (j : ℕ). rank c ≤ rank (candidate to (get_or entries j d))) (sym e) (middle d)
    by (inr (inl l)) = front p d (omega (arith, h.begin)) l
    by (inr (inr l)) = back p d (omega (arith, h.middle)) (omega (arith, h.end))

-- the halves of a part that has some
pub opened : (entries : List Entry) (parts : List Part) (k : ℕ) (part : Part) (halves : Halves) → IsBox entries parts k part → part.halves ≡ Some halves → AreHalves parts k part.from part.to halves
opened entries parts k part halves box e = subst (λ (o : Option Halves). IsHalved parts k part o) e box.halved

-- what a candidate comes behind none of
pub none_before : (entries : List Entry) (parts : List Part) (k : ℕ) (part : Part) (to : V3) (c : Candidate) → IsBox entries parts k part → c ≡ bound to part.bounds → IsFirst entries part to c
none_before entries parts k part to c box e = subst (λ (x : Candidate). IsFirst entries part to x) (sym e) (box_bounds entries parts k part to box)

-- the entry at a position, by whatever it is read
pub at_position : (entries : List Entry) (p : ℕ) (to : V3) (e : Entry) (c seen : Candidate) → p < length entries → seen ≡ candidate to (get_or entries p e) → rank c ≤ rank seen → (d : Entry) → rank c ≤ rank (candidate to (get_or entries p d))
at_position entries p to e c seen within is h d = subst (λ (x : Entry). rank c ≤ rank (candidate to x)) (get_or_default entries p e d within) (subst (λ (x : Candidate). rank c ≤ rank x) is h)
