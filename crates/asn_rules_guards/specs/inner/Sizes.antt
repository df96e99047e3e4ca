-- Numbers, read digit by digit.
use Rattle.std.specs.Prelude.{ℕ, pos, ◌+◌, ◌*◌, ◌-◌, ◌^◌, List, [], ◌∷◌, Bool, true, false, ◌&&◌, ◌||◌, nat_eq, nat_lt, Option, Some, None, if◌then◌else◌, ℤ, neg_ℤ, int_lt}
use Rattle.std.specs.Option.{is_some}
use Rattle.asn_rules_guards.specs.Lexical.{is_digit}
use Rattle.asn_rules_guards.specs.Guards.{is_empty, before, mantissa, fitting, natural}
use Rattle.asn_tree_numbers.specs.Enumeration.{has, written}
use Rattle.asn_rules_guards.specs.Enumerations.{at_number, behind_item, given}
use Rattle.asn_rules_guards.specs.declared.guards.Sign.{Sign}
use Rattle.asn_rules_guards.specs.declared.guards.Sign.TheVariants.{Minus, Plus}
use Rattle.asn_rules_guards.specs.declared.guards.Stretch.{Stretch}
use Rattle.asn_rules_guards.specs.declared.guards.Stretch.TheVariants.{All, Before, Mantissa}

-- the number with a digit behind it, below 2^128
abbrev pub lengthened : ℕ → ℕ → Option ℕ
lengthened n b = if is_digit b && nat_lt (n * 10 + (b - 48)) (2 ^ 128) then Some (n * 10 + (b - 48)) else None

abbrev pub at_some : {A B : Type 0} → Option A → (A → Option B) → Option B
at_some None f = None
at_some (Some n) f = f n

abbrev pub lengthened_by : List ℕ → ℕ → Option ℕ
lengthened_by [] n = Some n
lengthened_by (b ∷ bs) n = at_some (lengthened n b) (lengthened_by bs)

-- the number that at least one digit spells, below 2^128
abbrev pub sized : List ℕ → Option ℕ
sized bs = if is_empty bs then None else lengthened_by bs 0

-- the numbers that fit fewer bits
abbrev pub below : ℕ → Option ℕ → Option ℕ
below bits o = at_some o (λ n. if nat_lt n (2 ^ bits) then Some n else None)

abbrev pub narrowed : ℕ → Option ℤ → Option ℤ
narrowed bits o = at_some o (fitting bits)

-- the number of this sign and size
abbrev pub with_sign : Sign → ℕ → ℤ
with_sign Plus n = pos n
with_sign Minus n = neg_ℤ (pos n)

-- the part of the bytes that a walk goes over
abbrev pub part : Stretch → List ℕ → List ℕ
part All bs = bs
part (Before mark) bs = before mark bs
part Mantissa bs = mantissa bs

-- what stands behind the word, if the bytes begin with it
abbrev pub behind_word : List ℕ → List ℕ → Option (List ℕ)
behind_word [] bs = Some bs
behind_word (w ∷ ws) [] = None
behind_word (w ∷ ws) (b ∷ bs) = if nat_eq w b then behind_word ws bs else None

-- whether a number below 2^64 stands there
abbrev pub is_numeral : Option (List ℕ) → Bool
is_numeral None = false
is_numeral (Some bs) = is_some (natural 64 bs)

-- a number that an item of the root has: one below the end of those that are given, or one that is written
abbrev pub is_taken : List (Option ℤ) → ℕ → ℕ → Bool
is_taken root end n = nat_lt n end || has (written root) (pos n)

-- the number that is written is below 2^126, if there is one
abbrev pub is_far : Option ℤ → Bool
is_far None = true
is_far (Some z) = int_lt z (pos (2 ^ 126))

-- the number behind those that the items of the root without a number are given
abbrev pub root_end : (ℕ → Bool) → ℕ → List (Option ℤ) → Option ℕ
root_end taken n [] = Some n
root_end taken n (item ∷ items) = at_number (given taken n item) None (λ z. root_end taken (behind_item n item z) items)
