-- At each number of a table stands the row that its file hands out.
use Rattle.std.proofs.Common.{◌≡◌, ℕ, zero, suc, ◌+◌, ◌-◌, ◌≤◌, List, [], ◌∷◌, Bool, true, length, drop, refl, sym, ap, ◌∙◌, arith}
use Rattle.std.specs.Prelude.{nat_le, ◌&&◌}
use Rattle.std.proofs.lemmas.Bool.{and_parts, leb-true}
use Rattle.std.proofs.lemmas.List.{get_or-drop, get_or_past}
use Rattle.asn_rules.specs.Expression.{Expression, expression, never, rule_of, see, bytes, weight}
use Rattle.asn_rules.specs.declared.expression.Expression as coded
use Rattle.asn_rules.specs.LexicalRules.{lexical_rules_before}
use Rattle.asn_rules.specs.ValueRules.{value_rules_before}
use Rattle.asn_rules.specs.TypeRules.{type_rules_before}
use Rattle.asn_rules.specs.ConstraintRules.{constraint_rules_before}
use Rattle.asn_rules.specs.ObjectRules.{object_rules_before}
use Rattle.asn_rules.specs.HeaderRules.{header_rules_before}
use Rattle.asn_rules.specs.DefinitionRules.{definition_rules_before}
use Rattle.asn_rules.specs.Whole.{whole_rules}

-- the rows of the whole of ASN.1 from each file on
abbrev pub from_definitions : List Expression
from_definitions = definition_rules_before []

abbrev pub from_headers : List Expression
from_headers = header_rules_before from_definitions

abbrev pub from_objects : List Expression
from_objects = object_rules_before from_headers

abbrev pub from_constraints : List Expression
from_constraints = constraint_rules_before from_objects

abbrev pub from_types : List Expression
from_types = type_rules_before from_constraints

abbrev pub from_values : List Expression
from_values = value_rules_before from_types

-- how many rows each file has
behind_lexical : (xs : List Expression) → drop 23 (lexical_rules_before xs) ≡ xs
unfolding lexical_rules_before
behind_lexical xs = refl

behind_values : (xs : List Expression) → drop 31 (value_rules_before xs) ≡ xs
unfolding value_rules_before
behind_values xs = refl

behind_types : (xs : List Expression) → drop 48 (type_rules_before xs) ≡ xs
unfolding type_rules_before
behind_types xs = refl

behind_constraints : (xs : List Expression) → drop 38 (constraint_rules_before xs) ≡ xs
unfolding constraint_rules_before
behind_constraints xs = refl

behind_objects : (xs : List Expression) → drop 22 (object_rules_before xs) ≡ xs
unfolding object_rules_before
behind_objects xs = refl

behind_headers : (xs : List Expression) → drop 19 (header_rules_before xs) ≡ xs
unfolding header_rules_before
behind_headers xs = refl

-- a row behind so many is one of those behind them
moved : (rules more : List Expression) (count place r : ℕ) → drop count rules ≡ more → r ≡ count + place → rule_of rules r ≡ rule_of more place
moved rules more count place r e s =
    ap (rule_of rules) s
    ∙ sym (get_or-drop count rules place (never (see (bytes []))))
    ∙ ap (λ xs. rule_of xs place) e

pub at_lexical : (r : ℕ) → rule_of whole_rules r ≡ rule_of (lexical_rules_before from_values) r
unfolding whole_rules
at_lexical r = refl

pub at_values : (r : ℕ) → 23 ≤ r → rule_of whole_rules r ≡ rule_of from_values (r - 23)
unfolding whole_rules
at_values r le = moved (lexical_rules_before from_values) from_values 23 (r - 23) r (behind_lexical from_values) (omega (arith, le))

pub at_types : (r : ℕ) → 54 ≤ r → rule_of whole_rules r ≡ rule_of from_types (r - 54)
at_types r le = at_values r (omega (arith, le)) ∙ moved from_values from_types 31 (r - 54) (r - 23) (behind_values from_types) (omega (arith, le))

pub at_constraints : (r : ℕ) → 102 ≤ r → rule_of whole_rules r ≡ rule_of from_constraints (r - 102)
at_constraints r le = at_types r (omega (arith, le)) ∙ moved from_types from_constraints 48 (r - 102) (r - 54) (behind_types from_constraints) (omega (arith, le))

pub at_objects : (r : ℕ) → 140 ≤ r → rule_of whole_rules r ≡ rule_of from_objects (r - 140)
at_objects r le = at_constraints r (omega (arith, le)) ∙ moved from_constraints from_objects 38 (r - 140) (r - 102) (behind_constraints from_objects) (omega (arith, le))

pub at_headers : (r : ℕ) → 162 ≤ r → rule_of whole_rules r ≡ rule_of from_headers (r - 162)
at_headers r le = at_objects r (omega (arith, le)) ∙ moved from_objects from_headers 22 (r - 162) (r - 140) (behind_objects from_headers) (omega (arith, le))

pub at_definitions : (r : ℕ) → 181 ≤ r → rule_of whole_rules r ≡ rule_of from_definitions (r - 181)
at_definitions r le = at_headers r (omega (arith, le)) ∙ moved from_headers from_definitions 19 (r - 181) (r - 162) (behind_headers from_definitions) (omega (arith, le))

-- a number that is no rule's
behind_all : length from_definitions ≡ 10
unfolding definition_rules_before
behind_all = refl

pub at_none : (r : ℕ) → 191 ≤ r → rule_of whole_rules r ≡ never (see (bytes []))
at_none r le = at_definitions r (omega (arith, le)) ∙ get_or_past from_definitions (r - 181) (never (see (bytes []))) (omega (arith, le, behind_all))

-- how many forms a row is made of
abbrev pub are_light : List Expression → Bool
are_light [] = true
are_light (e ∷ es) = nat_le (weight e) 999 && are_light es

light : (rules : List Expression) (r : ℕ) → are_light rules ≡ true → weight (rule_of rules r) ≤ 999
light [] r e = omega arith
light (x ∷ rules) zero e = leb-true (weight x) 999 (and_parts (nat_le (weight x) 999) (are_light rules) e).0
light (x ∷ rules) (suc r) e = light rules r (and_parts (nat_le (weight x) 999) (are_light rules) e).1

are_whole : are_light whole_rules ≡ true
unfolding whole_rules lexical_rules_before value_rules_before type_rules_before constraint_rules_before object_rules_before header_rules_before definition_rules_before
are_whole = refl

pub whole_light : (e : coded.Expression) (r : ℕ) → expression e ≡ rule_of whole_rules r → weight (expression e) ≤ 999
whole_light e r s = rw s (light whole_rules r are_whole)
