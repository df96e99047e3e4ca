-- What the counts come to over the table.
use Rattle.std.proofs.Common.{◌≡◌, ℕ, ◌+◌, ◌*◌, ◌≤◌, List, true, length, refl, arith}
use Rattle.std.proofs.Math.Nat.{mul-le-mul_left}
use Rattle.std.proofs.Math.Dec.{lit≤}
use Rattle.asn_rules.specs.Expression.{Expression, rule, rule_of}
use Rattle.asn_rules.specs.Whole.{whole_rules}
use Rattle.asn_rules.specs.LexicalRules.{lexical_rules_before}
use Rattle.asn_rules.specs.ValueRules.{value_rules_before}
use Rattle.asn_rules.specs.TypeRules.{type_rules_before}
use Rattle.asn_rules.specs.ConstraintRules.{constraint_rules_before}
use Rattle.asn_rules.specs.ObjectRules.{object_rules_before}
use Rattle.asn_rules.specs.HeaderRules.{header_rules_before}
use Rattle.asn_rules.specs.DefinitionRules.{definition_rules_before}
use Rattle.asn_rules.specs.Grammar.{rules_of}
use Rattle.asn_rules.specs.Runs.{Ending, Runs}
use Rattle.asn_rules.specs.declared.grammar.Grammar.{Grammar}
use Rattle.asn_rules.specs.declared.grammar.Grammar.TheVariants.{Whole}
use Rattle.asn_rules.proofs.Ranks.{whole_takes, whole_ranks}
use Rattle.asn_rules.proofs.Right.{whole_checked}
use Rattle.asn_rules.proofs.Total.{exactly_one}
use Rattle.asn_match.specs.Looks.{price, has, Spends}
use Rattle.asn_match.specs.Table.{Adds}
use Rattle.asn_match.specs.declared.chains.MatchTable.{MatchTable}
use Rattle.asn_match.proofs.Counts.{all_single, bases, slopes, price_all}

-- the expression of each rule comes to something
pub rules_run : (grammar : Grammar) (text : List ℕ) (r i : ℕ) → i ≤ length text → (o : Ending) × (h : ℕ) × Runs (rules_of grammar) text (rule_of (rules_of grammar) r) i o h
rules_run Whole text r i le = (exactly_one whole_rules text whole_takes whole_ranks whole_checked (rule_of whole_rules r) i le).one

whole_single : all_single whole_rules ≡ true
unfolding whole_rules lexical_rules_before value_rules_before type_rules_before constraint_rules_before object_rules_before header_rules_before definition_rules_before
whole_single = refl

whole_bases : bases whole_rules ≤ 190 * 64
unfolding whole_rules lexical_rules_before value_rules_before type_rules_before constraint_rules_before object_rules_before header_rules_before definition_rules_before
whole_bases = lit≤ tt

whole_slopes : slopes whole_rules ≤ 190 * 64
unfolding whole_rules lexical_rules_before value_rules_before type_rules_before constraint_rules_before object_rules_before header_rules_before definition_rules_before
whole_slopes = lit≤ tt

are_single : (grammar : Grammar) → all_single (rules_of grammar) ≡ true
are_single Whole = whole_single

bases_fit : (grammar : Grammar) → bases (rules_of grammar) ≤ 190 * 64
bases_fit Whole = whole_bases

slopes_fit : (grammar : Grammar) → slopes (rules_of grammar) ≤ 190 * 64
slopes_fit Whole = whole_slopes

most : (b s n : ℕ) → b ≤ 190 * 64 → s ≤ 190 * 64 → (n + 1) * (b + s * (n + 1)) ≤ ((190 * 64) * (n + 1)) * (n + 2)
most b s n hb hs =
    let m = mul-le-mul_left {m = s} {n = 190 * 64} (n + 1) hs in
    let l = mul-le-mul_left {m = b + s * (n + 1)} {n = (190 * 64) * (n + 2)} (n + 1) (omega arith) in
    omega arith

-- All that a try of the rule looks at.
pub all_looks : (grammar : Grammar) (text : List ℕ) (r i : ℕ) (t : MatchTable) (x y : ℕ) → Spends (rules_of grammar) text (rule r) i t x y → y ≤ x + ((190 * 64) * (length text + 1)) * (length text + 2)
all_looks grammar text r i t x y s =
    let m = s.most (λ r j. true) (record { old = λ r j h. refl; tried = λ r j q. refl }) in
    let p = price_all (rules_of grammar) (length text) (are_single grammar) in
    let b = most (bases (rules_of grammar)) (slopes (rules_of grammar)) (length text) (bases_fit grammar) (slopes_fit grammar) in
    omega arith

-- A try looks at no more than the price of the pairs that the table has then.
pub looks_paid : (rules : List Expression) (text : List ℕ) (r i : ℕ) (t u : MatchTable) (x y : ℕ) → Adds rules text (rule r) i t u → Spends rules text (rule r) i t x y → y ≤ x + price rules (length text) (has u)
looks_paid rules text r i t u x y a s = let m = s.most (has u) (record { old = a.grows; tried = a.tried }) in omega arith
