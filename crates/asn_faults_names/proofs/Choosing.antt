-- Tests that are put together of two.
use Rattle.std.proofs.Common.{◌≡◌, Bool, true, false, sym, ap, ◌∙◌}
use Rattle.std.specs.Prelude.{◌||◌, ◌&&◌, not}

-- the first holds
pub either_first : (a b c : Bool) → c ≡ a → c ≡ true → true ≡ (a || b)
either_first a b c e is = sym (ap (λ x. x || b) (sym e ∙ is))

-- the first does not hold, and the second decides
pub either_second : (a b c other : Bool) → c ≡ a → c ≡ false → other ≡ b → other ≡ (a || b)
either_second a b c other e is second = second ∙ sym (ap (λ x. x || b) (sym e ∙ is))

-- the first forbids the second
pub unless_first : (a b c : Bool) → c ≡ a → c ≡ true → false ≡ (not a && b)
unless_first a b c e is = sym (ap (λ x. not x && b) (sym e ∙ is))

pub unless_second : (a b c other : Bool) → c ≡ a → c ≡ false → other ≡ b → other ≡ (not a && b)
unless_second a b c other e is second = second ∙ sym (ap (λ x. not x && b) (sym e ∙ is))

pub both_first : (a b c : Bool) → c ≡ a → c ≡ false → false ≡ (a && b)
both_first a b c e is = sym (ap (λ x. x && b) (sym e ∙ is))

pub both_second : (a b c other : Bool) → c ≡ a → c ≡ true → other ≡ b → other ≡ (a && b)
both_second a b c other e is second = second ∙ sym (ap (λ x. x && b) (sym e ∙ is))
