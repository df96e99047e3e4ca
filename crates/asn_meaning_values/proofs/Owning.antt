-- Items and named numbers by their names.
use Rattle.std.proofs.Common.{◌≡◌, ℕ, List, Option, Some, None, ap}
use Rattle.std.specs.Prelude.{ℤ}
use Rattle.asn_tree_kinds.specs.declared.types.DistinguishedValue.{DistinguishedValue}
use Rattle.asn_tree_kinds.specs.declared.types.Enumeral.{Enumeral}
use Rattle.asn_meaning.specs.Answers.{once}
use Rattle.asn_meaning.specs.Denotes.{item_in, own_in}
use Rattle.asn_meaning.specs.Kinds.{EnumeratedKind, IntegerKind}
use Rattle.asn_meaning.specs.Members.{item_named, named, number_named}
use Rattle.asn_meaning.specs.ValueTrees.{ItemNumber, WholeNumber}

pub no_item : (items : List Enumeral) (name : List ℕ) → item_named items name ≡ None → item_in name (EnumeratedKind items) ≡ None
no_item items name e = ap (λ i. once None i (λ i. Some (ItemNumber i))) e

pub some_item : (items : List Enumeral) (name : List ℕ) (i : ℤ) → item_named items name ≡ Some i → item_in name (EnumeratedKind items) ≡ Some (ItemNumber i)
some_item items name i e = ap (λ i. once None i (λ i. Some (ItemNumber i))) e

pub no_number : (numbers : Option (List DistinguishedValue)) (name : List ℕ) → number_named (named numbers) name ≡ None → own_in name (IntegerKind numbers) ≡ None
no_number numbers name e = ap (λ i. once None i (λ i. Some (WholeNumber i))) e

pub some_number : (numbers : Option (List DistinguishedValue)) (name : List ℕ) (i : ℤ) → number_named (named numbers) name ≡ Some i →
    own_in name (IntegerKind numbers) ≡ Some (WholeNumber i)
some_number numbers name i e = ap (λ i. once None i (λ i. Some (WholeNumber i))) e
