-- Items and named numbers by their names.
use Rattle.std.proofs.Common.{◌≡◌, ℕ, List, Option, Some, None, refl}
use Rattle.std.specs.Prelude.{ℤ, is_some}
use Rattle.asn_tree_kinds.specs.declared.types.DistinguishedValue.{DistinguishedValue}
use Rattle.asn_tree_kinds.specs.declared.types.Enumeral.{Enumeral}
use Rattle.asn_meaning.specs.Answers.{once}
use Rattle.asn_meaning.specs.Denotes.{own_in}
use Rattle.asn_meaning.specs.Kinds.{EnumeratedKind, IntegerKind}
use Rattle.asn_meaning.specs.Members.{item_named, named, number_named}
use Rattle.asn_meaning.specs.ValueTrees.{ValueTree, ItemNumber, WholeNumber}

made : (f : ℤ → ValueTree) (o : Option ℤ) → is_some (once None o (λ i. Some (f i))) ≡ is_some o
made f None = refl
made f (Some i) = refl

pub item_is_own : (items : List Enumeral) (name : List ℕ) → is_some (own_in name (EnumeratedKind items)) ≡ is_some (item_named items name)
item_is_own items name = made (λ i. ItemNumber i) (item_named items name)

pub number_is_own : (numbers : Option (List DistinguishedValue)) (name : List ℕ) →
    is_some (own_in name (IntegerKind numbers)) ≡ is_some (number_named (named numbers) name)
number_is_own numbers name = made (λ i. WholeNumber i) (number_named (named numbers) name)
