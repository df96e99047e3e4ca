-- The bits of a hexadecimal digit (X.680 22.10).
use Rattle.std.specs.Prelude.{ℕ, ◌/◌, ◌%◌, ◌-◌, Bool, ◌&&◌, nat_eq, nat_le, List, [], ◌∷◌, if◌then◌else◌}

-- the number of a capital hexadecimal digit; 0 for any other character
abbrev pub hex_value : ℕ → ℕ
hex_value code =
    if (nat_le 48 code && nat_le code 57) then code - 48
    else if (nat_le 65 code && nat_le code 70) then code - 55
    else 0

-- the four lowest bits of a number, the highest first
abbrev pub bits_of : ℕ → List Bool
bits_of n = nat_eq (n / 8 % 2) 1 ∷ nat_eq (n / 4 % 2) 1 ∷ nat_eq (n / 2 % 2) 1 ∷ nat_eq (n % 2) 1 ∷ []

abbrev pub bits_of_digit : ℕ → List Bool
bits_of_digit code = bits_of (hex_value code)
