-- What holds from some number of levels on, and lists of which each item stays.
use Rattle.std.proofs.Common.{◌≡◌, ℕ, zero, suc, ◌+◌, ◌≤◌, List, [], ◌∷◌, ◌++◌, Option, Some, None, ap, ◌∙◌, arith}
use Rattle.asn_meaning.specs.Answers.{once}
use Rattle.asn_link_instance.specs.Subjects.{gathered, traversed}
use Rattle.asn_link_closed.specs.OwnInstances.{Eventually}

pub always : {P : ℕ → Type 0} → ((k : ℕ) → P k) → Eventually P
always f = record { levels = 0; holds = λ k h. f k }

pub nothing : Eventually (λ k. Unit {0})
nothing = always (λ k. tt)

pub mapped : {P Q : ℕ → Type 0} → ((k : ℕ) → P k → Q k) → Eventually P → Eventually Q
mapped f p = record { levels = p.levels; holds = λ k h. f k (p.holds k h) }

-- what holds one level later
pub later : {P Q : ℕ → Type 0} → ((k : ℕ) → P k → Q (suc k)) → Eventually P → Eventually Q
later {P} {Q} f p = record { levels = suc p.levels; holds = go }
  where
    go : (k : ℕ) → suc p.levels ≤ k → Q k
    go zero h = absurd (omega arith)
    go (suc k) h = f k (p.holds k (omega (arith, h)))

-- what holds from the first level on
pub from_one : {Q : ℕ → Type 0} → ((k : ℕ) → Q (suc k)) → Eventually Q
from_one f = later (λ k u. f k) nothing

pub joined : {P Q R : ℕ → Type 0} → ((k : ℕ) → P k → Q k → R k) → Eventually P → Eventually Q → Eventually R
joined f p q = record { levels = p.levels + q.levels; holds = λ k h. f k (p.holds k (omega (arith, h))) (q.holds k (omega (arith, h))) }

-- ---- answers that are known

pub gathered_more : {A B : Type 0} (f : A → Option (List B)) (x : A) (xs : List A) (y : B) (ys : List B) → f x ≡ Some (y ∷ []) → gathered f xs ≡ Some ys →
    gathered f (x ∷ xs) ≡ Some (y ∷ ys)
gathered_more f x xs y ys e more =
    ap (λ o. once None o (λ zs. once None (gathered f xs) (λ us. Some (zs ++ us)))) e
    ∙ ap (λ o. once None o (λ us. Some (y ∷ us))) more

pub traversed_more : {A B : Type 0} (f : A → Option B) (x : A) (xs : List A) (y : B) (ys : List B) → f x ≡ Some y → traversed f xs ≡ Some ys →
    traversed f (x ∷ xs) ≡ Some (y ∷ ys)
traversed_more f x xs y ys e more =
    ap (λ o. once None o (λ z. once None (traversed f xs) (λ us. Some (z ∷ us)))) e
    ∙ ap (λ o. once None o (λ us. Some (y ∷ us))) more

-- a tree, where its layer stays
pub rolled : {X L : Type 0} (out : X → L) (roll : L → X) → ((l : L) → out (roll l) ≡ l) → (f : L → Option L) (l : L) → f l ≡ Some l →
    once None (f (out (roll l))) (λ y. Some (roll y)) ≡ Some (roll l)
rolled out roll same f l e = ap (λ z. once None (f z) (λ y. Some (roll y))) (same l) ∙ ap (λ o. once None o (λ y. Some (roll y))) e
