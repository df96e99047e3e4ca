-- Items by their numbers.
use Rattle.std.proofs.Common.{◌≡◌, ℕ, ◌+◌, ◌<◌, ◌≤◌, List, ◌∷◌, drop, length, get_or, if◌then◌else◌, Some, None, sym, ap, ◌∙◌}
use Rattle.std.specs.Prelude.{ℤ}
use Rattle.std.proofs.lemmas.List.{drop_more, drop_all}
use Rattle.asn_tree_kinds.specs.declared.types.Enumeral.{Enumeral}
use Rattle.asn_tree.specs.declared.values.ASN1Value.TheVariants.{ElsewhereDeclaredValue}
use Rattle.asn_link_instance.specs.Literals.{item_numbered, written}
use Rattle.asn_meaning.specs.Answers.{once}
use Rattle.asn_meaning.specs.Kinds.{EnumeratedKind}
use Rattle.asn_meaning.specs.Members.{item_named}
use Rattle.asn_meaning.specs.ValueTrees.{ItemNumber, same_number}
use Rattle.asn_link_values.specs.inner.Numbered.{first_numbered, numbered_by}

pub item_first : (items : List Enumeral) (i : ℕ) (item : Enumeral) (number : ℤ) → i < length items → item ≡ get_or items i item →
    first_numbered (drop i items) number ≡ (if same_number item.index number then Some item else first_numbered (drop (i + 1) items) number)
item_first items i item number lt e =
    ap (λ xs. first_numbered xs number) (drop_more items i item lt ∙ ap (λ x. x ∷ drop (i + 1) items) (sym e))

pub no_item_left : (items : List Enumeral) (i : ℕ) (number : ℤ) → length items ≤ i → first_numbered (drop i items) number ≡ None
no_item_left items i number le = ap (λ xs. first_numbered xs number) (drop_all i items le)

pub not_numbered : (items : List Enumeral) (number : ℤ) → first_numbered items number ≡ None → item_numbered items number ≡ None
not_numbered items number e = ap (λ o. once None o (numbered_by items number)) e

pub numbered : (items : List Enumeral) (number : ℤ) (item : Enumeral) → first_numbered items number ≡ Some item → item_numbered items number ≡ numbered_by items number item
numbered items number item e = ap (λ o. once None o (numbered_by items number)) e

pub unnamed : (items : List Enumeral) (number : ℤ) (item : Enumeral) → item_named items item.name ≡ None → numbered_by items number item ≡ None
unnamed items number item e = ap (λ o. once None o (λ k. if same_number k number then Some item.name else None)) e

pub named_so : (items : List Enumeral) (number k : ℤ) (item : Enumeral) → item_named items item.name ≡ Some k →
    numbered_by items number item ≡ (if same_number k number then Some item.name else None)
named_so items number k item e = ap (λ o. once None o (λ k. if same_number k number then Some item.name else None)) e

pub no_name : (items : List Enumeral) (number : ℤ) → item_numbered items number ≡ None → written (EnumeratedKind items) (ItemNumber number) ≡ None
no_name items number e = ap (λ o. once None o (λ name. Some (ElsewhereDeclaredValue None name))) e

pub some_name : (items : List Enumeral) (number : ℤ) (name : List ℕ) → item_numbered items number ≡ Some name →
    written (EnumeratedKind items) (ItemNumber number) ≡ Some (ElsewhereDeclaredValue None name)
some_name items number name e = ap (λ o. once None o (λ name. Some (ElsewhereDeclaredValue None name))) e
