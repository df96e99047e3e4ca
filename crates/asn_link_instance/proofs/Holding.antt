-- What holds of a result, where there is one.
use Rattle.std.proofs.Common.{None, Option, Some, refl, subst, sym, ◌≡◌}
use Rattle.asn_meaning.specs.Answers.{once}

abbrev pub Holds : {A : Type 0} → Option A → (A → Type 0) → Type 0
Holds None P = Unit {0}
Holds (Some x) P = P x

-- a part of which nothing is said but what it is
pub once_holds : {A B : Type 0} (a : Option A) (f : A → Option B) (Q : B → Type 0) → ((x : A) → a ≡ Some x → Holds (f x) Q) → Holds (once None a f) Q
once_holds None f Q h = tt
once_holds (Some x) f Q h = h x refl

-- a part of which something holds
pub then_holds : {A B : Type 0} (a : Option A) (f : A → Option B) (P : A → Type 0) (Q : B → Type 0) → Holds a P → ((x : A) → a ≡ Some x → P x → Holds (f x) Q) → Holds (once None a f) Q
then_holds None f P Q p h = tt
then_holds (Some x) f P Q p h = h x refl p

pub result_holds : {A : Type 0} (a : Option A) (P : A → Type 0) (x : A) → Holds a P → a ≡ Some x → P x
result_holds a P x p e = subst (λ z. Holds z P) e p

pub weaker : {A : Type 0} (a : Option A) (P Q : A → Type 0) → Holds a P → ((x : A) → P x → Q x) → Holds a Q
weaker None P Q p h = tt
weaker (Some x) P Q p h = h x p

pub some_same : {A : Type 0} (x y : A) → Some x ≡ Some y → x ≡ y
some_same x y e = cc

pub rolled : {A B : Type 0} (roll : A → B) (out : B → A) → ((l : A) → out (roll l) ≡ l) → (a : Option A) (P : A → Type 0) (x : B) → Holds a P → once None a (λ l. Some (roll l)) ≡ Some x → P (out x)
rolled roll out same None P x p e = absurd cc
rolled roll out same (Some l) P x p e =
    let q : roll l ≡ x = cc in
    subst (λ z. P (out z)) q (subst P (sym (same l)) p)

-- what is told of a result by what it is
pub result_is : {A : Type 0} (a : Option A) (Q : A → Type 0) → ((x : A) → a ≡ Some x → Q x) → Holds a Q
result_is None Q h = tt
result_is (Some x) Q h = h x refl
