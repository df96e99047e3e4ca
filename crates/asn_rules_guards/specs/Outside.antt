-- The bytes outside blanks and comments, found one by one (X.680 12.1.6, 12.6).
use Rattle.std.specs.Prelude.{ℕ, List, [], ◌∷◌, Bool, true, if◌then◌else◌}
use Rattle.asn_rules_guards.specs.Guards.{Place, within, onward, is_outside}

-- the bytes from the first outside blanks and comments on
unfoldable pub outside_from : Place → List ℕ → List ℕ
outside_from p [] = []
outside_from p (b ∷ bs) = if is_outside p (b ∷ bs) then b ∷ bs else outside_from (onward p (b ∷ bs)) bs

abbrev pub outside : List ℕ → List ℕ
outside bs = outside_from (within 0) bs

-- the first of the bytes is outside blanks and comments, if there is one
abbrev pub starts_bare : List ℕ → Bool
starts_bare [] = true
starts_bare (b ∷ bs) = is_outside (within 0) (b ∷ bs)
