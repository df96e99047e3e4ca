-- Real numbers (X.680 21.5, 21.6).
use Rattle.std.specs.Prelude.{ℕ, ℤ, pos, ◌-ℤ◌, List, length, Option, Some}
use Rattle.asn_rules_guards.specs.Guards.{bare, behind, behind_exponent_mark, exponent, mantissa, natural, number}
use Rattle.asn_rules.specs.declared.names.TheConstants.{NUMBER_I32, NUMBER_I128, REAL_BASE}
use Rattle.asn_rules.specs.declared.node.Node.{Node}
use Rattle.asn_rules.specs.Nodes.{child_of, the}
use Rattle.asn_tree_leaves.specs.declared.plain.RealValue.{RealValue}
use Rattle.asn_read_nodes.specs.Parts.{integer_of, of_some, taken}

abbrev pub base_of : List ℕ → Node → Option ℕ
base_of text n = natural 128 (bare (taken text n))

-- mantissa, base and exponent, each as it is written
abbrev pub parts_of : List ℕ → Node → Option RealValue
parts_of text n =
    of_some (the (child_of n NUMBER_I128) (integer_of 127 text)) (λ mantissa. of_some (the (child_of n REAL_BASE) (base_of text)) (λ base.
    of_some (the (child_of n NUMBER_I32) (integer_of 31 text)) (λ exponent. Some (record { mantissa = mantissa; base = base; exponent = exponent }))))

-- how many digits stand behind the point
abbrev pub decimals : List ℕ → ℕ
decimals bs = length (mantissa (behind 46 bs))

-- Tens: the mantissa is all digits with the sign, and each decimal makes the exponent that is written, or 0, one less.
abbrev pub decimal_by : List ℕ → Option RealValue
decimal_by bs =
    of_some (number (mantissa bs)) (λ m. of_some (exponent (behind_exponent_mark bs)) (λ e.
    Some (record { mantissa = m; base = 10; exponent = e -ℤ pos (decimals bs) })))

-- a number with a point, blanks and comments aside (X.680 12.9)
abbrev pub decimal_of : List ℕ → Node → Option RealValue
decimal_of text n = decimal_by (bare (taken text n))
