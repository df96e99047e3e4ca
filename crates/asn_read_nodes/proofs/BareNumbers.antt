-- Digits are outside blanks and comments, so a number that bytes spell is the one that they spell without them.
use Rattle.std.proofs.Common.{◌≡◌, ℕ, ◌<◌, ◌≤◌, List, [], ◌∷◌, Bool, true, false, not, Option, Some, None, refl, sym, ap, ◌∙◌, subst, arith, codes}
use Rattle.std.specs.Prelude.{nat_eq, nat_le, nat_lt, ◌^◌, ◌&&◌, ◌||◌, if◌then◌else◌}
use Rattle.std.specs.List.{list_all}
use Rattle.std.specs.Option.{is_some}
use Rattle.std.proofs.lemmas.Bool.{leb-true}
use Rattle.std.proofs.lemmas.Bool.Decides.{Decides-eqb, nat_tests}
use Rattle.asn_rules_guards.specs.Lexical.{is_blank, is_digit}
use Rattle.asn_rules_guards.specs.Guards.{are_digits, bare, bare_from, begins, decimal, fitting, integer, is_empty, is_outside, natural, number, spelled, unsigned, within}
use Rattle.asn_rules_guards.specs.Outside.{starts_bare}
use Rattle.asn_rules_guards.proofs.Bare.{bare_byte}

pub both_true : (s t : Bool) → (s && t) ≡ true → (s ≡ true) × (t ≡ true)
both_true true t e = (refl, e)
both_true false t e = absurd cc

digit_is : (b : ℕ) → is_digit b ≡ true → (48 ≤ b) × (b ≤ 57)
digit_is b e = let both = both_true (nat_le 48 b) (nat_le b 57) e in (leb-true 48 b both.0, leb-true b 57 both.1)

-- a byte that begins no mark and is no blank is outside
outside : (x y z : Bool) → x ≡ false → y ≡ false → z ≡ false → not (x || (y || z)) ≡ true
outside x y z e f g = cc

digit_outside : (b : ℕ) (bs : List ℕ) → is_digit b ≡ true → starts_bare (b ∷ bs) ≡ true
digit_outside b bs e =
    let d = digit_is b e in
    let minus : nat_eq 45 b ≡ false = grind (arith, nat_tests, d.0) in
    let slash : nat_eq 47 b ≡ false = grind (arith, nat_tests, d.0) in
    let blank : is_blank b ≡ false = grind (arith, nat_tests, d.0) in
    outside (begins (codes "--") (b ∷ bs)) (begins (codes "/*") (b ∷ bs)) (is_blank b) (ap (λ t. t && begins (codes "-") bs) minus) (ap (λ t. t && begins (codes "*") bs) slash) blank

pub digits_bare : (bs : List ℕ) → list_all is_digit bs ≡ true → bare bs ≡ bs
unfolding bare_from
digits_bare [] e = refl
digits_bare (b ∷ bs) e =
    let both = both_true (is_digit b) (list_all is_digit bs) e in
    bare_byte (b ∷ bs) b (digit_outside b bs both.0) (omega arith) refl ∙ ap (λ r. b ∷ r) (digits_bare bs both.1)

-- a sign before digits
signed_bare : (bs : List ℕ) → are_digits bs ≡ true → bare (45 ∷ bs) ≡ 45 ∷ bs
signed_bare [] e = absurd cc
signed_bare (b ∷ bs) e =
    let both = both_true (is_digit b) (list_all is_digit bs) e in
    let d = digit_is b both.0 in
    let minus : nat_eq 45 b ≡ false = grind (arith, nat_tests, d.0) in
    let mark : begins (codes "--") (45 ∷ b ∷ bs) ≡ false = ap (λ t. t && begins [] bs) minus in
    bare_byte (45 ∷ b ∷ bs) 45 (outside (begins (codes "--") (45 ∷ b ∷ bs)) (begins (codes "/*") (45 ∷ b ∷ bs)) (is_blank 45) mark refl refl) (omega arith) refl
    ∙ ap (λ r. 45 ∷ r) (digits_bare (b ∷ bs) e)

number_bare : (bs : List ℕ) → are_digits (unsigned bs) ≡ true → bare bs ≡ bs
number_bare [] e = absurd cc
number_bare (b ∷ bs) e = go (nat_eq b 45) (Decides-eqb b 45).0 e
  where
    go : (t : Bool) → (t ≡ true → b ≡ 45) → are_digits (if t then bs else b ∷ bs) ≡ true → bare (b ∷ bs) ≡ b ∷ bs
    go true d e = let is = d refl in subst (λ x. bare (x ∷ bs) ≡ x ∷ bs) (sym is) (signed_bare bs e)
    go false d e = digits_bare (b ∷ bs) e

pub bare_number : (bs : List ℕ) → is_some (number bs) ≡ true → number (bare bs) ≡ number bs
bare_number bs e = ap number (number_bare bs (go (are_digits (unsigned bs)) e))
  where
    go : (t : Bool) → is_some (if t then fitting 127 (spelled bs) else None) ≡ true → t ≡ true
    go true e = refl
    go false e = absurd cc

pub bare_octet : (bs : List ℕ) → is_some (natural 8 bs) ≡ true → natural 8 (bare bs) ≡ natural 8 bs
bare_octet [] e = absurd cc
bare_octet (b ∷ bs) e = ap (natural 8) (digits_bare (b ∷ bs) (go (list_all is_digit (b ∷ bs)) (nat_lt (decimal (b ∷ bs)) (2 ^ 8)) e))
  where
    go : (t l : Bool) → is_some (if t && l then Some (decimal (b ∷ bs)) else None) ≡ true → t ≡ true
    go true l e = refl
    go false l e = absurd cc

pub bare_octet_there : (bs : List ℕ) → is_some (natural 8 bs) ≡ true → is_some (natural 8 (bare bs)) ≡ true
bare_octet_there bs e = ap is_some (bare_octet bs e) ∙ e
