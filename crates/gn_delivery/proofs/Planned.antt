-- What is carried out of a plan delivers what is due.
use Rattle.std.proofs.Common.{◌≡◌, ◌⊎◌, inl, inr, ℕ, zero, suc, ◌<◌, List, [], ◌∷◌, map, length, Some, refl, sym, ap, ◌∙◌, arith}
use Rattle.std.specs.Prelude.{slice_get, slice_index_or}
use Rattle.std.proofs.lemmas.List.{length-map}
use Rattle.gn_lazy.specs.Graphs.{Nodes}
use Rattle.gn_node_set.specs.Meanings.{Has, Meanings}
use Rattle.gn_node_set.proofs.Lists.{some_same}
use Rattle.gn_readers.specs.declared.place.Place.{Place}
use Rattle.gn_readers.specs.declared.place.Reader.{Reader}
use Rattle.gn_readers.specs.Readers.{AreReaders}
use Rattle.gn_delivery.specs.declared.plan.Second.{Second}
use Rattle.gn_delivery.specs.declared.plan.Plan.{Plan}
use Rattle.gn_delivery.specs.Slots.{Slots, with_seconds, with_outputs, Delivers}
use Rattle.gn_delivery.specs.Plans.{due, CanRead, IsPlanFor}
use Rattle.gn_delivery.proofs.Slotting.{all_delivered}
use Rattle.gn_delivery.proofs.Planning.{reader_due}

pub index_map : {A B : Type 0} (f : A → B) (xs : List A) (n : ℕ) (d : B) (x : A) → slice_get xs n ≡ Some x → slice_index_or (map f xs) n d ≡ f x
index_map f [] n d x e = cc
index_map f (y ∷ xs) zero d x e = ap f (some_same e)
index_map f (y ∷ xs) (suc n) d x e = index_map f xs n d x e

pub one_there : {A : Type 0} (xs : List A) (n : ℕ) → n < length xs → (x : A) × (slice_get xs n ≡ Some x)
one_there [] n h = absurd (omega (arith, h))
one_there (x ∷ xs) zero h = (x, refl)
one_there (x ∷ xs) (suc n) h = one_there xs n (omega (arith, h))

module _ {G H K V S T : Type 0} (m : Meanings K V S T) (kind_of : G → K) (content : H → V) (g : Nodes G) (n : ℕ) (outputs : List H) (outs : List V) (same : map content outputs ≡ outs) (rs : List Reader) (readers : AreReaders g n rs)
    (can : (r : Reader) → Has rs r → CanRead m kind_of g outs r) (plan : Plan H) (planned : IsPlanFor m kind_of g outs n content rs plan) where
  output_for : (k : ℕ) (p : Place) (v : H) → slice_get plan.itself.items k ≡ Some (Some p) → slice_get outputs k ≡ Some v → due m kind_of g outs n p ≡ Some (content v)
  output_for k p v e f = planned.itself k p e ∙ ap (λ xs. Some (slice_index_or xs k m.nothing)) (sym same) ∙ ap Some (index_map content outputs k m.nothing v f)

  each_due : (p : Place) (w : V) → due m kind_of g outs n p ≡ Some w → ((x : Second H) × Has plan.seconds.items x × (x.place ≡ p)) ⊎ ((k : ℕ) × (v : H) × (slice_get plan.itself.items k ≡ Some (Some p)) × (slice_get outputs k ≡ Some v))
  each_due p w e =
      let leads = reader_due m kind_of g outs n p w e in
      let r : Reader = record { output = leads.0; place = p } in
      let has : Has rs r = (readers.each r).1 leads.1 in
      let there : leads.0 < length outs = (can r has).there in
      let count : length outs ≡ length outputs = ap length (sym same) ∙ length-map outputs content in
      let v = one_there outputs leads.0 (omega (arith, there, count)) in
      elim (planned.all r has) [
        | inl x ↦ inl x
        | inr i ↦ inr (leads.0, v.0, i, v.1)
      ]

  pub plan_delivers : (s : Slots H) → Delivers content (due m kind_of g outs n) s (with_outputs (with_seconds s plan.seconds.items) plan.itself.items outputs)
  plan_delivers s = all_delivered content (due m kind_of g outs n) s plan.seconds.items plan.itself.items outputs planned.seconds output_for each_due
