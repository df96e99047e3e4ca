-- Lists of which each item is made in its turn: `made` so far, and the others to come.
use Rattle.std.proofs.Common.{◌≡◌, ◌∙◌, ◌+◌, ◌<◌, ◌≤◌, ◌++◌, ◌∷◌, [], List, None, Option, Some, ap, arith, drop, get_or, length, refl, sym, ℕ}
use Rattle.std.proofs.lemmas.List.{append-nil, append_assoc, drop_all, drop_more}
use Rattle.asn_tree.specs.declared.constraints.Constraint.{Constraint}
use Rattle.asn_tree.specs.declared.types.ChoiceOption.{ChoiceOption, out-ChoiceOption, roll-ChoiceOption, roll-out-ChoiceOption}
use Rattle.asn_link_instance.specs.Instance.{of_constraints, option_instance}
use Rattle.asn_link_instance.specs.Subjects.{gathered, traversed}
use Rattle.asn_link_types.specs.inner.Parts.{constraint_on, option_at}
use Rattle.asn_meaning.specs.Answers.{once}
use Rattle.asn_meaning.specs.Definitions.{Definitions}
use Rattle.asn_meaning.specs.Judge.{meaning}
use Rattle.asn_meaning.specs.Scopes.{Place, Scope}
use Rattle.asn_link_values.specs.Choosing.{chosen, instances}

-- ---- what is made so far, with the others

abbrev pub followed : {B : Type 0} → List B → Option (List B) → Option (List B)
followed made others = once None others (λ zs. Some (made ++ zs))

begun_empty : {B : Type 0} (others : Option (List B)) → followed [] others ≡ others
begun_empty None = refl
begun_empty (Some zs) = refl

pub begun : {B : Type 0} (made : List B) (others : Option (List B)) → made ≡ [] → followed made others ≡ others
begun made others is = ap (λ xs. followed xs others) is ∙ begun_empty others

pub done : {B : Type 0} (made : List B) (others : Option (List B)) → others ≡ Some [] → followed made others ≡ Some made
done made others is = ap (followed made) is ∙ ap Some (append-nil made)

pub lost : {B : Type 0} (made : List B) (others : Option (List B)) → others ≡ None → followed made others ≡ None
lost made others is = ap (followed made) is

pub next : {B : Type 0} (made ys : List B) (here others : Option (List B)) → here ≡ followed ys others → followed (made ++ ys) others ≡ followed made here
next made ys here others is = joined others ∙ sym (ap (followed made) is)
  where
    joined : (others : Option (List _)) → followed (made ++ ys) others ≡ followed made (followed ys others)
    joined None = refl
    joined (Some zs) = ap Some (append_assoc made ys zs)

-- ---- lists of lists

gathered_here : {A B : Type 0} (f : A → Option (List B)) (xs : List A) (i : ℕ) (x : A) → i < length xs → x ≡ get_or xs i x →
    gathered f (drop i xs) ≡ once None (f x) (λ ys. followed ys (gathered f (drop (i + 1) xs)))
gathered_here f xs i x lt e = ap (gathered f) (drop_more xs i x lt ∙ ap (λ y. y ∷ drop (i + 1) xs) (sym e))

pub gathered_next : {A B : Type 0} (f : A → Option (List B)) (xs : List A) (i : ℕ) (x : A) (made ys : List B) → i < length xs → x ≡ get_or xs i x → Some ys ≡ f x →
    followed (made ++ ys) (gathered f (drop (i + 1) xs)) ≡ followed made (gathered f (drop i xs))
gathered_next f xs i x made ys lt e is =
    next made ys (gathered f (drop i xs)) (gathered f (drop (i + 1) xs)) (gathered_here f xs i x lt e ∙ sym (ap (λ found. once None found (λ zs. followed zs (gathered f (drop (i + 1) xs)))) is))

pub gathered_lost : {A B : Type 0} (f : A → Option (List B)) (xs : List A) (i : ℕ) (x : A) (made : List B) → i < length xs → x ≡ get_or xs i x → None ≡ f x →
    followed made (gathered f (drop i xs)) ≡ None
gathered_lost f xs i x made lt e is =
    lost made (gathered f (drop i xs)) (gathered_here f xs i x lt e ∙ sym (ap (λ found. once None found (λ zs. followed zs (gathered f (drop (i + 1) xs)))) is))

pub gathered_done : {A B : Type 0} (f : A → Option (List B)) (xs : List A) (i : ℕ) (made : List B) → length xs ≤ i → followed made (gathered f (drop i xs)) ≡ Some made
gathered_done f xs i made le = done made (gathered f (drop i xs)) (ap (gathered f) (drop_all i xs le))

-- ---- lists of items

traversed_here : {A B : Type 0} (f : A → Option B) (xs : List A) (i : ℕ) (x : A) → i < length xs → x ≡ get_or xs i x →
    traversed f (drop i xs) ≡ once None (f x) (λ y. followed (y ∷ []) (traversed f (drop (i + 1) xs)))
traversed_here f xs i x lt e = ap (traversed f) (drop_more xs i x lt ∙ ap (λ y. y ∷ drop (i + 1) xs) (sym e))

pub traversed_next : {A B : Type 0} (f : A → Option B) (xs : List A) (i : ℕ) (x : A) (made : List B) (y : B) → i < length xs → x ≡ get_or xs i x → Some y ≡ f x →
    followed (made ++ y ∷ []) (traversed f (drop (i + 1) xs)) ≡ followed made (traversed f (drop i xs))
traversed_next f xs i x made y lt e is =
    next made (y ∷ []) (traversed f (drop i xs)) (traversed f (drop (i + 1) xs)) (traversed_here f xs i x lt e ∙ sym (ap (λ found. once None found (λ z. followed (z ∷ []) (traversed f (drop (i + 1) xs)))) is))

pub traversed_lost : {A B : Type 0} (f : A → Option B) (xs : List A) (i : ℕ) (x : A) (made : List B) → i < length xs → x ≡ get_or xs i x → None ≡ f x →
    followed made (traversed f (drop i xs)) ≡ None
traversed_lost f xs i x made lt e is =
    lost made (traversed f (drop i xs)) (traversed_here f xs i x lt e ∙ sym (ap (λ found. once None found (λ z. followed (z ∷ []) (traversed f (drop (i + 1) xs)))) is))

pub traversed_done : {A B : Type 0} (f : A → Option B) (xs : List A) (i : ℕ) (made : List B) → length xs ≤ i → followed made (traversed f (drop i xs)) ≡ Some made
traversed_done f xs i made le = done made (traversed f (drop i xs)) (ap (traversed f) (drop_all i xs le))

-- ---- constraints on a type, by its head

abbrev on_head : Definitions → ℕ → ℕ → Scope → List Constraint → Option Place → Option (List Constraint)
on_head defs n k scope cs head = gathered (λ c. once None head (λ h. constraint_on defs n k scope h c)) cs

nothing_on : (defs : Definitions) (n k : ℕ) (scope : Scope) (cs : List Constraint) → 0 < length cs → on_head defs n k scope cs None ≡ None
nothing_on defs n k scope [] lt = absurd (omega arith)
nothing_on defs n k scope (c ∷ cs) lt = refl

pub constraints_headless : (defs : Definitions) (n k : ℕ) (scope : Scope) (p : Place) (cs : List Constraint) → 0 < length cs → None ≡ (meaning defs n).head p →
    of_constraints chosen defs (meaning defs n) (instances defs n k) scope p cs ≡ None
constraints_headless defs n k scope p cs lt is = sym (ap (on_head defs n k scope cs) is) ∙ nothing_on defs n k scope cs lt

pub constraints_headed : (defs : Definitions) (n k : ℕ) (scope : Scope) (p head : Place) (cs : List Constraint) → Some head ≡ (meaning defs n).head p →
    of_constraints chosen defs (meaning defs n) (instances defs n k) scope p cs ≡ gathered (constraint_on defs n k scope head) cs
constraints_headed defs n k scope p head cs is = sym (ap (on_head defs n k scope cs) is)

-- ---- options

pub option_made : (defs : Definitions) (n k : ℕ) (scope : Scope) (o made : ChoiceOption) →
    Some (out-ChoiceOption made) ≡ option_instance chosen defs (meaning defs n) (instances defs n k) scope (out-ChoiceOption o) → Some made ≡ option_at defs n k scope o
option_made defs n k scope o made is = ap Some (sym (roll-out-ChoiceOption made)) ∙ ap (λ found. once None found (λ x. Some (roll-ChoiceOption x))) is

pub no_option_made : (defs : Definitions) (n k : ℕ) (scope : Scope) (o : ChoiceOption) →
    None ≡ option_instance chosen defs (meaning defs n) (instances defs n k) scope (out-ChoiceOption o) → None ≡ option_at defs n k scope o
no_option_made defs n k scope o is = ap (λ found. once None found (λ x. Some (roll-ChoiceOption x))) is
