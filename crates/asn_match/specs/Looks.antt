-- How many looks a try takes.
use Rattle.std.specs.Prelude.{◌≡◌, ℕ, zero, suc, ◌+◌, ◌*◌, ◌≤◌, List, Bool, true, if◌then◌else◌, length, is_some}
use Rattle.asn_rules.specs.Expression.{Expression, see, marked, seq, choice, many, never, guarded, rule, skip, Sight, bytes, word, one_of, rule_of}
use Rattle.asn_match.specs.Table.{at, Tries}
use Rattle.asn_match.specs.declared.chains.MatchTable.{MatchTable}

-- the most that one test of what stands at an offset looks at
abbrev pub looks : Sight → ℕ
looks (bytes x) = length x
looks (word x) = length x + 2
looks (one_of c) = 1

-- The most looks that a try of the expression takes on a text of n bytes, where a rule that it calls takes none.
abbrev pub own : ℕ → Expression → ℕ
own n (see s) = looks s
own n (marked m s) = looks s
own n (seq a b) = own n a + own n b
own n (choice a b) = own n a + own n b
own n (many a) = (n + 1) * own n a
own n (never a) = own n a
own n (guarded a g) = own n a + n
own n (rule r) = 0
own n (skip r) = 0

-- f 0 + f 1 + .. below m
abbrev pub total : (ℕ → ℕ) → ℕ → ℕ
total f zero = 0
total f (suc m) = total f m + f m

-- a set of pairs of a rule and an offset
abbrev pub Pairs : Type 0
Pairs = ℕ → ℕ → Bool

-- the looks of one try of each rule at each offset in the set
unfoldable pub price : List Expression → ℕ → Pairs → ℕ
price rules n pairs = total (λ j. total (λ r. if pairs r j then own n (rule_of rules r) else 0) (length rules)) (n + 1)

abbrev pub has : MatchTable → Pairs
has t r j = is_some (at t r j)

-- The set has what the table has, and what the try of the expression at the offset tries.
pub record Covers (rules : List Expression) (text : List ℕ) (e : Expression) (i : ℕ) (t : MatchTable) (pairs : Pairs) : Type 0 where
  pub old : (r j : ℕ) → has t r j ≡ true → pairs r j ≡ true
  pub tried : (r j : ℕ) → Tries rules text e i r j → pairs r j ≡ true

-- The looks are the expression's own and at most one try of each pair that the set has and the table had not.
pub record Spends (rules : List Expression) (text : List ℕ) (e : Expression) (i : ℕ) (t : MatchTable) (before after : ℕ) : Type 0 where
  pub most : (pairs : Pairs) → Covers rules text e i t pairs → after + price rules (length text) (has t) ≤ (before + own (length text) e) + price rules (length text) pairs
