-- The words that the program is given.
use Rattle.std.specs.Prelude.{ℕ, List, [], ◌∷◌, Option, Some, None, Bool, false, ◌&&◌, nat_le, if◌then◌else◌, codes, string_bytes, String}
use Rattle.std.specs.Global.{Global}
use Rattle.std.specs.Str.{all_ascii_digits, bytes_eq}
use Rattle.std.specs.Str.Parse.{digits_value}

-- the depth where the words name none
abbrev pub default_depth : ℕ
default_depth = 512

-- the greatest depth that the words may name
abbrev pub greatest_depth : ℕ
greatest_depth = 2000

-- the first byte is one of the digits 1 to 9
abbrev pub starts_above_zero : List ℕ → Bool
starts_above_zero [] = false
starts_above_zero (byte ∷ bytes) = nat_le 49 byte && nat_le byte 57

-- plain decimal: digits and nothing else, at least one, and the first is not 0; so the number is at least 1
abbrev pub is_plain_decimal : List ℕ → Bool
is_plain_decimal bytes = starts_above_zero bytes && all_ascii_digits bytes

-- the number that the digits spell, however many they are
abbrev pub spelled_number : List ℕ → ℕ
spelled_number digits = digits_value 10 digits

-- a depth that is not too great
abbrev pub at_most_greatest : ℕ → Option ℕ
at_most_greatest depth = if nat_le depth greatest_depth then Some depth else None

-- the depth that plain decimal digits spell, where it is not too great
abbrev pub spelled_depth : List ℕ → Option ℕ
spelled_depth bytes = if is_plain_decimal bytes then at_most_greatest (spelled_number bytes) else None

abbrev pub is_word : List ℕ → String Global → Bool
is_word bytes word = bytes_eq (string_bytes word) bytes

-- The depth that the words ask for: `link` for the default, `link --depth N` for N. Other words ask for none.
abbrev pub depth_of : List (String Global) → Option ℕ
depth_of (command ∷ []) = if is_word (codes "link") command then Some default_depth else None
depth_of (command ∷ option ∷ number ∷ []) =
    if is_word (codes "link") command && is_word (codes "--depth") option then spelled_depth (string_bytes number) else None
depth_of _ = None
