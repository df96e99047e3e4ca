-- Texts between quotes (X.680 12.14, 41.8).
use Rattle.std.specs.Prelude.{ℕ, List, [], ◌∷◌, Bool, false, ◌&&◌, nat_eq, cond, encode_utf8, Option, Some}
use Rattle.std.specs.Str.Lossy.{utf8_lossy}
use Rattle.asn_rules.specs.declared.names.TheConstants.{QUOTED_BODY, TIME_CHARS}
use Rattle.asn_rules.specs.declared.node.Node.{Node}
use Rattle.asn_rules_guards.specs.Guards.{bare, behind, four_octets}
use Rattle.asn_rules.specs.Nodes.{child_of, the}
use Rattle.asn_read_nodes.specs.Parts.{of_some, taken}

-- The bytes with each doubled quote made single; `held` where a quote stands before them that may be the first of two.
abbrev pub single_from : Bool → List ℕ → List ℕ
single_from held [] = []
single_from held (b ∷ bs) = cond (held && nat_eq b 34) (single_from false bs) (b ∷ single_from (nat_eq b 34) bs)

abbrev pub single : List ℕ → List ℕ
single bytes = single_from false bytes

-- a text in quotes, of which two that stand together are one
abbrev pub quoted_of : List ℕ → Node → Option (List ℕ)
quoted_of text n = the (child_of n QUOTED_BODY) (λ body. Some (utf8_lossy (single (taken text body))))

-- a time in quotes (X.680 38.1, 46.3, 47.3)
abbrev pub time_of : List ℕ → Node → Option (List ℕ)
time_of text n = the (child_of n TIME_CHARS) (λ chars. Some (utf8_lossy (taken text chars)))

-- The one character that a group, a plane, a row and a cell tell (X.680 41.8): its number is the four octets behind the brace.
abbrev pub character_by : List ℕ → Option (List ℕ)
character_by bs = of_some (four_octets (behind 123 bs)) (λ code. Some (encode_utf8 code))

abbrev pub quadruple_of : List ℕ → Node → Option (List ℕ)
quadruple_of text n = character_by (bare (taken text n))
