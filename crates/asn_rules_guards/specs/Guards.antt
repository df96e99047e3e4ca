-- What a guard asks of the bytes that a rule took.
use Rattle.std.specs.Prelude.{ℕ, zero, suc, ◌+◌, ◌*◌, ◌-◌, ◌^◌, List, [], ◌∷◌, Bool, true, false, ◌&&◌, ◌||◌, not, nat_eq, nat_lt, nat_le, codes, fold, cond, length, Option, Some, None, if◌then◌else◌, ℤ, pos, neg_ℤ, int_le, int_lt, ◌+ℤ◌}
use Rattle.std.specs.Option.{is_some}
use Rattle.std.specs.List.{starts_with, list_all, list_any}
use Rattle.std.specs.Cmp.Lexicographic.{pointwise}
use Rattle.asn_tree_settings.specs.Settings.{pair_of}
use Rattle.asn_rules_guards.specs.Lexical.{first_in, is_digit}
use Rattle.asn_rules_guards.specs.declared.asked.ByteClass.TheVariants.{Blank, LineFeed}

-- where one stands in a text: within so many block comments, none being outside; in a line comment; or behind the
-- first byte of a mark, whose second leads to another such place
pub data Place : Type 0 where
  within : ℕ → Place
  in_line : Place
  half : Place → Place

abbrev pub begins : List ℕ → List ℕ → Bool
begins mark bs = starts_with nat_eq bs mark

-- where one stands behind the first of these bytes: comments are those of X.680 12.6, `/*` nests, and a line comment
-- ends at the next `--` or at a line feed
abbrev pub onward : Place → List ℕ → Place
onward (within zero) bs = if begins (codes "--") bs then half in_line else if begins (codes "/*") bs then half (within 1) else within 0
onward (within (suc n)) bs = if begins (codes "/*") bs then half (within (suc (suc n))) else if begins (codes "*/") bs then half (within n) else within (suc n)
onward in_line bs = if begins (codes "--") bs then half (within 0) else if first_in LineFeed bs then within 0 else in_line
onward (half p) bs = p

-- whether the first of these bytes is outside blanks and comments
abbrev pub is_outside : Place → List ℕ → Bool
is_outside (within zero) bs = not (begins (codes "--") bs || (begins (codes "/*") bs || first_in Blank bs))
is_outside p bs = false

unfoldable pub bare_from : Place → List ℕ → List ℕ
bare_from p [] = []
bare_from p (b ∷ bs) = cond (is_outside p (b ∷ bs)) (b ∷ bare_from (onward p (b ∷ bs)) bs) (bare_from (onward p (b ∷ bs)) bs)

-- the bytes outside blanks and comments
abbrev pub bare : List ℕ → List ℕ
bare taken = bare_from (within 0) taken

-- whether the word is one of the words
abbrev pub among : List (List ℕ) → List ℕ → Bool
among words word = list_any (λ w. pointwise nat_eq word w) words

abbrev pub is_empty : List ℕ → Bool
is_empty [] = true
is_empty (b ∷ bs) = false

-- at least one digit, and digits alone (X.680 12.8)
abbrev pub are_digits : List ℕ → Bool
are_digits bs = not (is_empty bs) && list_all is_digit bs

-- the number that digits spell
abbrev pub decimal : List ℕ → ℕ
decimal digits = fold (λ n b. n * 10 + (b - 48)) 0 digits

abbrev pub is_negative : List ℕ → Bool
is_negative [] = false
is_negative (b ∷ bs) = nat_eq b 45

-- what stands behind a '-', if there is one
abbrev pub unsigned : List ℕ → List ℕ
unsigned [] = []
unsigned (b ∷ bs) = if nat_eq b 45 then bs else b ∷ bs

-- the whole number that an optional '-' and digits spell (X.680 19.1)
abbrev pub spelled : List ℕ → ℤ
spelled bs = if is_negative bs then neg_ℤ (pos (decimal (unsigned bs))) else pos (decimal (unsigned bs))

-- from -2^bits to 2^bits - 1
abbrev pub fits : ℕ → ℤ → Bool
fits bits z = int_le (neg_ℤ (pos (2 ^ bits))) z && int_lt z (pos (2 ^ bits))

abbrev pub fitting : ℕ → ℤ → Option ℤ
fitting bits z = if fits bits z then Some z else None

-- the whole number, where the bytes spell one that fits
abbrev pub integer : ℕ → List ℕ → Option ℤ
integer bits bs = if are_digits (unsigned bs) then fitting bits (spelled bs) else None

abbrev pub number : List ℕ → Option ℤ
number bs = integer 127 bs

-- the number that digits alone spell, where it is below 2^bits
abbrev pub natural : ℕ → List ℕ → Option ℕ
natural bits bs = if are_digits bs && nat_lt (decimal bs) (2 ^ bits) then Some (decimal bs) else None

-- the bytes before the first of this byte, and those behind it
abbrev pub before : ℕ → List ℕ → List ℕ
before mark [] = []
before mark (b ∷ bs) = if nat_eq b mark then [] else b ∷ before mark bs

abbrev pub behind : ℕ → List ℕ → List ℕ
behind mark [] = []
behind mark (b ∷ bs) = if nat_eq b mark then bs else behind mark bs

-- the two reserved words that name classes (X.681 Annex A and B)
abbrev pub names_class : List ℕ → Bool
names_class bs = pointwise nat_eq bs (codes "TYPE-IDENTIFIER") || pointwise nat_eq bs (codes "ABSTRACT-SYNTAX")

-- 'e' or 'E', with which the exponent of a number with a point begins (X.680 12.9)
abbrev pub is_exponent_mark : ℕ → Bool
is_exponent_mark b = nat_eq b 101 || nat_eq b 69

-- what stands before the exponent, without the point
abbrev pub mantissa : List ℕ → List ℕ
mantissa [] = []
mantissa (b ∷ bs) = if is_exponent_mark b then [] else if nat_eq b 46 then mantissa bs else b ∷ mantissa bs

abbrev pub behind_exponent_mark : List ℕ → List ℕ
behind_exponent_mark [] = []
behind_exponent_mark (b ∷ bs) = if is_exponent_mark b then bs else behind_exponent_mark bs

-- the exponent that is written, or 0
abbrev pub exponent : List ℕ → Option ℤ
exponent bs = if is_empty bs then Some (pos 0) else number bs

-- less this count it is from -2^31 to 2^31 - 1
abbrev pub fits_less : ℕ → Option ℤ → Bool
fits_less count None = false
fits_less count (Some z) = int_le (neg_ℤ (pos (2 ^ 31)) +ℤ pos count) z && int_lt z (pos (2 ^ 31) +ℤ pos count)

-- a number with a point: what it is in tens, and the power of ten, which each decimal makes one less (X.680 21.6)
abbrev pub is_real : List ℕ → Bool
is_real bs = is_some (number (mantissa bs)) && fits_less (length (mantissa (behind 46 bs))) (exponent (behind_exponent_mark bs))

abbrev pub is_base_of : Option ℕ → Bool
is_base_of None = false
is_base_of (Some n) = nat_eq n 2 || nat_eq n 10

-- a code of a character (Unicode 3.9: no surrogate)
abbrev pub is_scalar : ℕ → Bool
is_scalar n = nat_lt n 55296 || (nat_le 57344 n && nat_lt n 1114112)

-- the number with a digit to the base 256 behind it
abbrev pub with_octet : Option ℕ → Option ℕ → Option ℕ
with_octet None low = None
with_octet (Some high) None = None
with_octet (Some high) (Some low) = Some (high * 256 + low)

abbrev pub is_scalar_of : Option ℕ → Bool
is_scalar_of None = false
is_scalar_of (Some n) = is_scalar n

abbrev pub octet : ℕ → List ℕ → Option ℕ
octet mark bs = natural 8 (before mark bs)

-- the number of four octets, behind each but the last a comma, behind it a closing brace
abbrev pub four_octets : List ℕ → Option ℕ
four_octets bs =
    with_octet (with_octet (with_octet (octet 44 bs) (octet 44 (behind 44 bs))) (octet 44 (behind 44 (behind 44 bs)))) (octet 125 (behind 44 (behind 44 (behind 44 bs))))

-- a group, a plane, a row and a cell that tell a character (X.680 41.8)
abbrev pub is_character : List ℕ → Bool
is_character bs = is_scalar_of (four_octets (behind 123 bs))

-- a property's name, "=", and the text of one of the property's settings (X.680 38.4 and 51.10)
abbrev pub is_setting : List ℕ → Bool
is_setting bs = is_some (pair_of (before 61 bs) (behind 61 bs))

-- a digit, and a byte that is none
abbrev pub is_time : List ℕ → Bool
is_time bs = list_any is_digit bs && list_any (λ b. not (is_digit b)) bs

-- no '/' follows another, nor stands in front of all where one stands before these bytes
abbrev pub has_labels : Bool → List ℕ → Bool
has_labels slash [] = true
has_labels slash (b ∷ bs) = not (slash && nat_eq b 47) && has_labels (nat_eq b 47) bs
