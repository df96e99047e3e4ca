-- What holds from some number of steps on, and heads that stand whatever is known.
use Rattle.std.proofs.Common.{Bool, List, None, Option, Some, [], ap, arith, false, refl, subst, suc, true, zero, ℕ, ◌&&◌, ◌++◌, ◌+◌, ◌∙◌, ◌∷◌, ◌≡◌}
use Rattle.std.specs.List.{list_all}
use Rattle.asn_meaning.specs.Answers.{Within}
use Rattle.asn_meaning.specs.Definitions.{Definitions}
use Rattle.asn_meaning.specs.Judge.{meaning, nothing_known, step}
use Rattle.asn_meaning.specs.Kinds.{FieldKind, Kind, ReferenceKind, SelectionKind, kind_of}
use Rattle.asn_meaning.specs.Meaning.{Meaning}
use Rattle.asn_meaning.specs.Names.{IsHead, IsLost, Lead, LeadsTo, head_from, lead, lead_at, leading, reference_target, selection_target}
use Rattle.asn_meaning.specs.Scopes.{Place, Scope, Target}
use Rattle.asn_meaning.proofs.Steps.{more_known}
use Rattle.asn_link_instance.specs.Plain.{Eventually, StandsAsHead}
use Rattle.asn_link_instance.proofs.Holding.{some_same}

pub always : {P : ℕ → Type 0} → ((m : ℕ) → P m) → Eventually P
always f = record { steps = zero; stays = λ m. f (zero + m) }

pub mapped : {P Q : ℕ → Type 0} → ((m : ℕ) → P m → Q m) → Eventually P → Eventually Q
mapped f p = record { steps = p.steps; stays = λ m. f (p.steps + m) (p.stays m) }

-- what holds one step later
pub later : {P Q : ℕ → Type 0} → ((m : ℕ) → P m → Q (suc m)) → Eventually P → Eventually Q
later {P} {Q} f p = record { steps = suc p.steps; stays = λ m. at m (f (p.steps + m) (p.stays m)) }
  where
    at : (m : ℕ) → Q (suc (p.steps + m)) → Q (suc p.steps + m)
    at m q = let e : suc (p.steps + m) ≡ suc p.steps + m = omega arith in subst Q e q

pub joined : {P Q R : ℕ → Type 0} → ((m : ℕ) → P m → Q m → R m) → Eventually P → Eventually Q → Eventually R
joined {P} {Q} {R} f p q = record { steps = p.steps + q.steps; stays = λ m. f (p.steps + q.steps + m) (left m) (right m) }
  where
    left : (m : ℕ) → P (p.steps + q.steps + m)
    left m = let e : p.steps + (q.steps + m) ≡ p.steps + q.steps + m = omega arith in subst P e (p.stays (q.steps + m))

    right : (m : ℕ) → Q (p.steps + q.steps + m)
    right m = let e : q.steps + (p.steps + m) ≡ p.steps + q.steps + m = omega arith in subst Q e (q.stays (p.steps + m))

pub and_true : (a b : Bool) → a ≡ true → b ≡ true → (a && b) ≡ true
and_true a b e f = ap (λ z. z && b) e ∙ f

pub all_append : {A : Type 0} (f : A → Bool) (xs ys : List A) → list_all f xs ≡ true → list_all f ys ≡ true → list_all f (xs ++ ys) ≡ true
all_append f [] ys p q = q
all_append f (x ∷ xs) ys p q = and_true (f x) (list_all f (xs ++ ys)) (first_true (f x) _ p) (all_append f xs ys (second_true (f x) _ p) q)
  where
    first_true : (a b : Bool) → (a && b) ≡ true → a ≡ true
    first_true true b e = refl
    first_true false b e = absurd cc

    second_true : (a b : Bool) → (a && b) ≡ true → b ≡ true
    second_true true b e = e
    second_true false b e = absurd cc

-- ---- heads

-- what is known at a number of steps is known from there on
pub within_is : {A : Type 0} (a b : Option A) (x : A) → a ≡ Some x → Within a b → b ≡ Some x
within_is a b x e w = subst (λ z. Within z b) e w

pub head_stays : (defs : Definitions) (a : ℕ) (p h : Place) → (meaning defs a).head p ≡ Some h → Eventually (λ m. (meaning defs m).head p ≡ Some h)
head_stays defs a p h e = record { steps = a; stays = λ m. within_is _ _ h e ((more_known defs a m).head p) }

no_lead : (o : Option Target) → leading o ≡ IsHead → ⊥
no_lead None e = cc
no_lead (Some x) e = cc

stands_at : (defs : Definitions) (M N : Meaning) (scope : Scope) (k : Kind) → lead_at defs M scope k ≡ IsHead → lead_at defs N scope k ≡ IsHead
stands_at defs M N scope (ReferenceKind x) e = absurd (no_lead (reference_target defs scope x) e)
stands_at defs M N scope (SelectionKind x) e = absurd (no_lead (selection_target M scope x) e)
stands_at defs M N scope (FieldKind x) e = e
stands_at defs M N scope _ e = refl

-- a head that is found stands as one
pub found_stands : (defs : Definitions) (n : ℕ) (r q : Place) → (meaning defs n).head r ≡ Some q → StandsAsHead defs q
unfolding meaning nothing_known step
found_stands defs zero r q e = absurd cc
found_stands defs (suc n) r q e = at (λ x. found_stands defs n x q) (lead defs (meaning defs n) r) refl e
  where
    at : ((x : Place) → (meaning defs n).head x ≡ Some q → StandsAsHead defs q) → (l : Lead) → lead defs (meaning defs n) r ≡ l → head_from (meaning defs n) r l ≡ Some q → StandsAsHead defs q
    at before IsHead f g = subst (λ z. StandsAsHead defs z) (some_same r q g) (λ N. stands_at defs (meaning defs n) N r.scope (kind_of r) f)
    at before (LeadsTo x) f g = before x.place g
    at before IsLost f g = absurd cc
