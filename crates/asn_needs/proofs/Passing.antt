-- Lists of which an item passes a test, and none.
use Rattle.std.proofs.Common.{◌≡◌, ℕ, zero, suc, ◌+◌, List, [], ◌∷◌, Bool, true, false, refl, ap, ◌∙◌, arith}
use Rattle.std.specs.Prelude.{◌||◌}
use Rattle.std.specs.List.{All, Contains, list_any}
use Rattle.std.proofs.lemmas.List.Elements.{All-head, All-tail}

or_true : (a b : Bool) → b ≡ true → (a || b) ≡ true
or_true true b h = refl
or_true false b h = h

-- an item that passes
pub some_passes : {A : Type 0} (f : A → Bool) (xs : List A) → list_any f xs ≡ true → (x : A) × Contains xs x × (f x ≡ true)
some_passes f [] h = absurd cc
some_passes {A = A} f (x ∷ xs) h = go (f x) refl (λ g. some_passes f xs g) h
  where
    go : (b : Bool) → f x ≡ b → (list_any f xs ≡ true → (y : A) × Contains xs y × (f y ≡ true)) → (b || list_any f xs) ≡ true → (y : A) × Contains (x ∷ xs) y × (f y ≡ true)
    go true e later g = (x, (0, omega arith, refl), e)
    go false e later g = let l = later g in (l.0, (suc l.1.0, omega (arith, l.1.1), l.1.2), l.2)

pub passes : {A : Type 0} (f : A → Bool) (xs : List A) (x : A) → Contains xs x → f x ≡ true → list_any f xs ≡ true
passes f [] x (k, lt, e) h = absurd (omega (arith, lt))
passes f (y ∷ xs) x (zero, lt, e) h = ap (λ b. b || list_any f xs) (ap f e ∙ h)
passes f (y ∷ xs) x (suc k, lt, e) h = or_true (f y) (list_any f xs) (passes f xs x (k, omega (arith, lt), e) h)

pub none_passes : {A : Type 0} (f : A → Bool) (xs : List A) → All (λ x. f x ≡ false) xs → list_any f xs ≡ false
none_passes f [] all = refl
none_passes f (x ∷ xs) all = ap (λ b. b || list_any f xs) (All-head (λ y. f y ≡ false) x xs all) ∙ none_passes f xs (All-tail (λ y. f y ≡ false) x xs all)
