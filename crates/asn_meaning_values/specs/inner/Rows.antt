-- Octets as they are read off bits and numbers.
use Rattle.std.specs.Prelude.{ℕ, ◌+◌, ◌*◌, nat_eq, nat_le, Bool, List, [], ◌∷◌, ℤ, pos, negsuc, Option, Some, None, if◌then◌else◌}
use Rattle.asn_meaning.specs.Answers.{once}
use Rattle.asn_meaning.specs.Rows.{octet}

-- the octet of the first eight bits
abbrev pub first_octet : List Bool → Option ℕ
first_octet (a ∷ b ∷ c ∷ d ∷ e ∷ f ∷ g ∷ h ∷ bits) = Some (octet (a ∷ b ∷ c ∷ d ∷ e ∷ f ∷ g ∷ h ∷ []))
first_octet _ = None

-- a number of an octet
abbrev pub octet_number : ℤ → Option ℕ
octet_number (pos n) = if nat_le n 255 then Some n else None
octet_number (negsuc n) = None

-- the code that a group, a plane, a row and a cell tell, where each is known and the group is 0 (X.680 41.8)
abbrev pub quadruple_code : Option ℕ → Option ℕ → Option ℕ → Option ℕ → Option ℕ
quadruple_code z p r c =
    once None z (λ group. once None p (λ plane. once None r (λ row. once None c (λ cell.
    if nat_eq group 0 then Some (65536 * plane + 256 * row + cell) else None))))
