-- Pointers and their texts, by computation.
use Rattle.std.proofs.Common.{◌≡◌, [], ◌∷◌, codes, refl}
use Rattle.std.specs.declared.cmp.Ordering.TheVariants.{Less, Greater}
use Rattle.gn_pointers.specs.Pointers.{index, key, pointer_cmp}
use Rattle.gn_pointers.specs.Texts.{pointer_text}

the_top : pointer_text [] ≡ codes "/"
the_top = refl

keys_in_turn : pointer_text (key (codes "output") ∷ key (codes "from") ∷ []) ≡ codes "/output/from"
keys_in_turn = refl

a_key_with_both_signs : pointer_text (key (codes "a/b~c") ∷ []) ≡ codes "/a~1b~0c"
a_key_with_both_signs = refl

an_object_before_its_members : pointer_cmp (key (codes "nodes") ∷ []) (key (codes "nodes") ∷ index 0 ∷ []) ≡ Less
an_object_before_its_members = refl

elements_by_number : pointer_cmp (index 10 ∷ []) (index 9 ∷ key (codes "in") ∷ []) ≡ Greater
elements_by_number = refl

members_by_the_bytes_of_keys : pointer_cmp (key (codes "in") ∷ key (codes "z") ∷ []) (key (codes "kind") ∷ []) ≡ Less
members_by_the_bytes_of_keys = refl
