-- Equality of trees, as a test on their codes.
use Rattle.std.specs.Prelude.{◌≡◌, ℕ, Bool, true, false, ◌&&◌, ◌==◌}
use Rattle.std.proofs.Common.{refl, ap, sym, ◌∙◌, true≢false}
use Rattle.std.specs.Bool.{Decides}
use Rattle.std.specs.Cmp.{unsigned_Decides, decided, partial_equiv_from_equiv, IsEquivalence, IsPartialEquivalence}
use base.Stored.{Gv, gnil, gnum, gcons, Coded}

abbrev pub same_code : Gv → Gv → Bool
same_code gnil gnil = true
same_code gnil (gnum n) = false
same_code gnil (gcons a b) = false
same_code (gnum m) gnil = false
same_code (gnum m) (gnum n) = m == n
same_code (gnum m) (gcons a b) = false
same_code (gcons a b) gnil = false
same_code (gcons a b) (gnum n) = false
same_code (gcons a b) (gcons c d) = same_code a c && same_code b d

unfoldable pub same_by : {A : Type 0} → Coded A → A → A → Bool
same_by c x y = same_code (c.code x) (c.code y)

and-true : (p q : Bool) → (p && q) ≡ true → (p ≡ true) × (q ≡ true)
and-true true q h = (refl, h)
and-true false q h = absurd (true≢false (sym h))

pub codes_tell : (x y : Gv) → same_code x y ≡ true → x ≡ y
codes_tell gnil gnil h = refl
codes_tell gnil (gnum n) h = absurd (true≢false (sym h))
codes_tell gnil (gcons a b) h = absurd (true≢false (sym h))
codes_tell (gnum m) gnil h = absurd (true≢false (sym h))
codes_tell (gnum m) (gnum n) h = ap gnum ((unsigned_Decides m n).0 h)
codes_tell (gnum m) (gcons a b) h = absurd (true≢false (sym h))
codes_tell (gcons a b) gnil h = absurd (true≢false (sym h))
codes_tell (gcons a b) (gnum n) h = absurd (true≢false (sym h))
codes_tell (gcons a b) (gcons c d) h = let e = and-true (same_code a c) (same_code b d) h in λ i. gcons (codes_tell a c e.0 i) (codes_tell b d e.1 i)

both-true : (p q : Bool) → p ≡ true → q ≡ true → (p && q) ≡ true
both-true true q h k = k
both-true false q h k = h

pub codes_same : (x : Gv) → same_code x x ≡ true
codes_same gnil = refl
codes_same (gnum n) = (unsigned_Decides n n).1 refl
codes_same (gcons a b) = both-true (same_code a a) (same_code b b) (codes_same a) (codes_same b)

pub same_by-Decides : {A : Type 0} (c : Coded A) (x y : A) → Decides (same_by c x y) (x ≡ y)
unfolding same_by
same_by-Decides c x y = (λ h. c.inj x y (codes_tell (c.code x) (c.code y) h), λ e. ap (λ z. same_code (c.code x) (c.code z)) (sym e) ∙ codes_same (c.code x))

pub same_by-equivalence : {A : Type 0} (c : Coded A) → IsEquivalence (same_by c)
same_by-equivalence c = decided (same_by c) (same_by-Decides c)

pub same_by-laws : {A : Type 0} (c : Coded A) → IsPartialEquivalence (same_by c)
same_by-laws c = partial_equiv_from_equiv (same_by-equivalence c)

-- a test that is true exactly at two equal ones
abbrev pub IsEquality : {A : Type 0} → (A → A → Bool) → Type 0
IsEquality {A = A} eq = (x y : A) → Decides (eq x y) (x ≡ y)
