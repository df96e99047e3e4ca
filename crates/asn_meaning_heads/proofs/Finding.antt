-- Options, items and named numbers one by one.
use Rattle.std.proofs.Common.{◌≡◌, ℕ, ◌+◌, ◌<◌, List, ◌∷◌, drop, length, get_or, Bool, true, false, if◌then◌else◌, Option, Some, None, refl, sym, ap, ◌∙◌}
use Rattle.std.specs.Prelude.{ℤ}
use Rattle.std.specs.List.{find}
use Rattle.std.specs.Str.{bytes_eq}
use Rattle.std.proofs.lemmas.List.{drop_more}
use Rattle.asn_tree.specs.declared.types.ChoiceOption.{ChoiceOption, out-ChoiceOption}
use Rattle.asn_tree_kinds.specs.declared.types.DistinguishedValue.{DistinguishedValue}
use Rattle.asn_tree_kinds.specs.declared.types.Enumeral.{Enumeral}
use Rattle.asn_meaning.specs.Answers.{once}
use Rattle.asn_meaning.specs.Members.{item_named, number_named}
use Rattle.asn_meaning.specs.Names.{option_named}

pub option_first : (os : List ChoiceOption) (i : ℕ) (o : ChoiceOption) (name : List ℕ) → i < length os → o ≡ get_or os i o →
    option_named (drop i os) name ≡ (if bytes_eq (out-ChoiceOption o).name name then Some (out-ChoiceOption o) else option_named (drop (i + 1) os) name)
option_first os i o name lt e =
    ap (λ xs. option_named xs name) (drop_more os i o lt) ∙ ap (λ x. option_named (x ∷ drop (i + 1) os) name) (sym e)

pick : {A : Type 0} (f : A → ℤ) (b : Bool) (x : A) (rest : Option A) → once None (if b then Some x else rest) (λ y. Some (f y)) ≡ (if b then Some (f x) else once None rest (λ y. Some (f y)))
pick f true x rest = refl
pick f false x rest = refl

pub item_first : (items : List Enumeral) (i : ℕ) (item : Enumeral) (name : List ℕ) → i < length items → item ≡ get_or items i item →
    item_named (drop i items) name ≡ (if bytes_eq item.name name then Some item.index else item_named (drop (i + 1) items) name)
item_first items i item name lt e =
    ap (λ xs. item_named xs name) (drop_more items i item lt)
    ∙ ap (λ x. item_named (x ∷ drop (i + 1) items) name) (sym e)
    ∙ pick (λ x. x.index) (bytes_eq item.name name) item (find (λ x. bytes_eq x.name name) (drop (i + 1) items))

pub number_first : (numbers : List DistinguishedValue) (i : ℕ) (d : DistinguishedValue) (name : List ℕ) → i < length numbers → d ≡ get_or numbers i d →
    number_named (drop i numbers) name ≡ (if bytes_eq d.name name then Some d.value else number_named (drop (i + 1) numbers) name)
number_first numbers i d name lt e =
    ap (λ xs. number_named xs name) (drop_more numbers i d lt)
    ∙ ap (λ x. number_named (x ∷ drop (i + 1) numbers) name) (sym e)
    ∙ pick (λ x. x.value) (bytes_eq d.name name) d (find (λ x. bytes_eq x.name name) (drop (i + 1) numbers))
