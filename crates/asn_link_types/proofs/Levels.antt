-- One level of instances, and none.
use Rattle.std.proofs.Common.{◌≡◌, ◌∙◌, ◌-◌, ◌<◌, Bool, None, Option, Some, ap, arith, refl, suc, sym, ℕ}
use Rattle.std.specs.Option.{option_map}
use Rattle.asn_tree.specs.declared.constraints.ElementOrSetOperation.{ElementOrSetOperation, out-ElementOrSetOperation, roll-ElementOrSetOperation, roll-out-ElementOrSetOperation}
use Rattle.asn_tree.specs.declared.constraints.SubtypeElement.{SubtypeElement, out-SubtypeElement, roll-SubtypeElement, roll-out-SubtypeElement}
use Rattle.asn_tree.specs.declared.types.ASN1Type.{ASN1Type, out-ASN1Type, roll-ASN1Type, roll-out-ASN1Type}
use Rattle.asn_link_instance.specs.Instance.{element_instance, instance, no_instance, set_instance, type_instance}
use Rattle.asn_link_instance.specs.Subjects.{Subject}
use Rattle.asn_meaning.specs.Answers.{once}
use Rattle.asn_meaning.specs.Definitions.{Definitions}
use Rattle.asn_meaning.specs.Judge.{meaning}
use Rattle.asn_meaning.specs.Scopes.{Scope}
use Rattle.asn_link_values.specs.Choosing.{chosen, instances}

-- ---- types

type_above : (defs : Definitions) (n k j : ℕ) (down : Bool) (scope : Scope) (ty : ASN1Type) → k ≡ suc j →
    (instances defs n k).of_type down scope ty ≡ once None (type_instance chosen defs (meaning defs n) (instances defs n j) down scope ty (out-ASN1Type ty)) (λ l. Some (roll-ASN1Type l))
unfolding instance
type_above defs n k j down scope ty is = ap (λ i. (instances defs n i).of_type down scope ty) is

type_again : (made : Option ASN1Type) → made ≡ once None (option_map out-ASN1Type made) (λ l. Some (roll-ASN1Type l))
type_again None = refl
type_again (Some ty) = ap Some (sym (roll-out-ASN1Type ty))

pub type_at : (defs : Definitions) (n k : ℕ) (down : Bool) (scope : Scope) (ty : ASN1Type) (made : Option ASN1Type) → 0 < k →
    option_map out-ASN1Type made ≡ type_instance chosen defs (meaning defs n) (instances defs n (k - 1)) down scope ty (out-ASN1Type ty) → made ≡ (instances defs n k).of_type down scope ty
type_at defs n k down scope ty made lt is =
    type_again made ∙ ap (λ found. once None found (λ l. Some (roll-ASN1Type l))) is ∙ sym (type_above defs n k (k - 1) down scope ty (omega arith))

pub no_type : (defs : Definitions) (n k : ℕ) (down : Bool) (scope : Scope) (ty : ASN1Type) → k ≡ 0 → (instances defs n k).of_type down scope ty ≡ None
unfolding instance no_instance
no_type defs n k down scope ty is = ap (λ i. (instances defs n i).of_type down scope ty) is

-- ---- sets

set_above : (defs : Definitions) (n k j : ℕ) (scope : Scope) (s : Subject) (set : ElementOrSetOperation) → k ≡ suc j →
    (instances defs n k).of_set scope s set ≡ once None (set_instance chosen defs (meaning defs n) (instances defs n j) scope s (out-ElementOrSetOperation set)) (λ l. Some (roll-ElementOrSetOperation l))
unfolding instance
set_above defs n k j scope s set is = ap (λ i. (instances defs n i).of_set scope s set) is

set_again : (made : Option ElementOrSetOperation) → made ≡ once None (option_map out-ElementOrSetOperation made) (λ l. Some (roll-ElementOrSetOperation l))
set_again None = refl
set_again (Some set) = ap Some (sym (roll-out-ElementOrSetOperation set))

pub set_at : (defs : Definitions) (n k : ℕ) (scope : Scope) (s : Subject) (set : ElementOrSetOperation) (made : Option ElementOrSetOperation) → 0 < k →
    option_map out-ElementOrSetOperation made ≡ set_instance chosen defs (meaning defs n) (instances defs n (k - 1)) scope s (out-ElementOrSetOperation set) → made ≡ (instances defs n k).of_set scope s set
set_at defs n k scope s set made lt is =
    set_again made ∙ ap (λ found. once None found (λ l. Some (roll-ElementOrSetOperation l))) is ∙ sym (set_above defs n k (k - 1) scope s set (omega arith))

pub no_set : (defs : Definitions) (n k : ℕ) (scope : Scope) (s : Subject) (set : ElementOrSetOperation) → k ≡ 0 → (instances defs n k).of_set scope s set ≡ None
unfolding instance no_instance
no_set defs n k scope s set is = ap (λ i. (instances defs n i).of_set scope s set) is

-- ---- elements

element_above : (defs : Definitions) (n k j : ℕ) (scope : Scope) (s : Subject) (e : SubtypeElement) → k ≡ suc j →
    (instances defs n k).of_element scope s e ≡ once None (element_instance chosen defs (meaning defs n) (instances defs n j) scope s (out-SubtypeElement e)) (λ l. Some (roll-SubtypeElement l))
unfolding instance
element_above defs n k j scope s e is = ap (λ i. (instances defs n i).of_element scope s e) is

element_again : (made : Option SubtypeElement) → made ≡ once None (option_map out-SubtypeElement made) (λ l. Some (roll-SubtypeElement l))
element_again None = refl
element_again (Some e) = ap Some (sym (roll-out-SubtypeElement e))

pub element_at : (defs : Definitions) (n k : ℕ) (scope : Scope) (s : Subject) (e : SubtypeElement) (made : Option SubtypeElement) → 0 < k →
    option_map out-SubtypeElement made ≡ element_instance chosen defs (meaning defs n) (instances defs n (k - 1)) scope s (out-SubtypeElement e) → made ≡ (instances defs n k).of_element scope s e
element_at defs n k scope s e made lt is =
    element_again made ∙ ap (λ found. once None found (λ l. Some (roll-SubtypeElement l))) is ∙ sym (element_above defs n k (k - 1) scope s e (omega arith))

pub no_element : (defs : Definitions) (n k : ℕ) (scope : Scope) (s : Subject) (e : SubtypeElement) → k ≡ 0 → (instances defs n k).of_element scope s e ≡ None
unfolding instance no_instance
no_element defs n k scope s e is = ap (λ i. (instances defs n i).of_element scope s e) is
