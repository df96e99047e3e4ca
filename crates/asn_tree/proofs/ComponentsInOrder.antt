-- Sorting components one by one sorts them all.
use Rattle.std.proofs.Common.{◌≡◌, List, [], ◌∷◌, ◌++◌, Bool, map, sym, ◌∙◌, append_assoc, append-nil, length-append, refl}
use Rattle.asn_tree.specs.MakingComponents.{part_of, with_components, with_part, with_parts}
use Rattle.asn_tree.specs.declared.making.components.Part.{Part}
use Rattle.asn_tree.specs.declared.making.components.Sorted.{Sorted}
use Rattle.asn_tree.specs.declared.types.SequenceComponent.{SequenceComponent}
use Rattle.asn_tree.specs.declared.types.SequenceComponent.TheVariants.{Member, ComponentsOf}
use Rattle.asn_tree.specs.declared.types.SequenceOrSetMember.{SequenceOrSetMember}

-- one more component behind others
pub one_more_part : {C M : Type 0} (part : C → Part M) (additions : Bool) (sorted : Sorted M) (components : List C) (one : C) → with_parts additions sorted (map part (components ++ one ∷ [])) ≡ with_part additions (with_parts additions sorted (map part components)) (part one)
one_more_part part additions sorted [] one = refl
one_more_part part additions sorted (c ∷ cs) one = one_more_part part additions (with_part additions sorted (part c)) cs one

-- the parts of components, one by one, are the components at once
pub parts_are : (additions : Bool) (sorted : Sorted SequenceOrSetMember) (components : List SequenceComponent) → with_parts additions sorted (map part_of components) ≡ with_components additions sorted components
parts_are additions sorted [] =
    sym (simp append-nil refl)
parts_are additions sorted (Member member ∷ components) =
    parts_are additions (with_part additions sorted (part_of (Member member))) components
    ∙ simp (append_assoc, length-append) refl
parts_are additions sorted (ComponentsOf name ∷ components) =
    parts_are additions (with_part additions sorted (part_of (ComponentsOf name))) components
    ∙ simp append_assoc refl
