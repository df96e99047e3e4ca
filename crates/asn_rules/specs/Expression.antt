-- Expressions of an ordered grammar (B. Ford, Parsing Expression Grammars, 2004), and how those of the code read as these.
use Rattle.std.specs.Prelude.{ℕ, ◌+◌, List, [], get_or}
pub use Rattle.asn_rules_guards.specs.Lexical.{Sight, bytes, word, one_of, sight}
use Rattle.asn_rules_guards.specs.declared.asked.Guard.{Guard}
use Rattle.asn_rules.specs.declared.marks.Mark.{Mark}
use Rattle.asn_rules.specs.declared.expression.Expression as coded
use Rattle.asn_rules.specs.declared.expression.Expression.TheVariants.{See, Marked, Call, Skip, Sequence', Choice', Many', Not', Guarded'}

-- `marked` sees as `see` does, and leaves a leaf with the number of its mark; `skip` is a call of a rule that leaves no node
pub data Expression : Type 0 where
  see : Sight → Expression
  marked : Mark → Sight → Expression
  seq : Expression → Expression → Expression
  choice : Expression → Expression → Expression
  many : Expression → Expression
  never : Expression → Expression
  guarded : Expression → Guard → Expression
  rule : ℕ → Expression
  skip : ℕ → Expression

-- The code's, without its pointers.
abbrev pub expression : coded.Expression → Expression
expression (See s) = see (sight s)
expression (Marked m s) = marked m (sight s)
expression (Call r) = rule r
expression (Skip r) = skip r
expression (Sequence' p a q b) = seq (expression a) (expression b)
expression (Choice' p a q b) = choice (expression a) (expression b)
expression (Many' p a) = many (expression a)
expression (Not' p a) = never (expression a)
expression (Guarded' p a g) = guarded (expression a) g

-- the rule of this number; one that is not there fails everywhere
abbrev pub rule_of : List Expression → ℕ → Expression
rule_of rules r = get_or rules r (never (see (bytes [])))

-- how many forms it is made of
abbrev pub weight : Expression → ℕ
weight (see s) = 1
weight (marked m s) = 1
weight (seq a b) = 1 + weight a + weight b
weight (choice a b) = 1 + weight a + weight b
weight (many a) = 2 + weight a
weight (never a) = 1 + weight a
weight (guarded a g) = 1 + weight a
weight (rule r) = 1
weight (skip r) = 1
