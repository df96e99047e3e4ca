-- What a try with a table answers, and what is read off a table. Only private contracts cite these.
use Rattle.std.specs.Prelude.{◌≡◌, ℕ, ◌≤◌, List, Ok, Err, IsSome}
use Rattle.asn_rules.specs.Derives.{Derives}
use Rattle.asn_rules.specs.Expression.{Expression}
use Rattle.asn_rules.specs.Runs.{Answer, ends, Runs}
use Rattle.asn_rules.specs.declared.node.Node.{Node}
use Rattle.asn_rules.specs.declared.run.MatchFault.TheVariants.{TooDeep, OutOfMemory}
use Rattle.asn_rules.specs.declared.run.Outcome.{Outcome}
use Rattle.asn_rules.specs.declared.run.Outcome.TheVariants.{End, Fail}
use Rattle.asn_match.specs.Table.{at, Tries}
use Rattle.asn_match.specs.declared.chains.MatchTable.{MatchTable}

-- what is returned is the answer, unless memory ran out
abbrev pub Gives : Answer → Answer → Type 0
Gives (Ok o) x = Ok o ≡ x
Gives (Err TooDeep) x = Err TooDeep ≡ x
Gives (Err OutOfMemory) x = Unit {0}

-- The table has what the try of the expression at the offset tries.
pub record Enters (rules : List Expression) (text : List ℕ) (t : MatchTable) (e : Expression) (i : ℕ) : Type 0 where
  pub all : (s j : ℕ) → Tries rules text e i s j → IsSome (at t s j)

-- an end lies between the offset and the text's end
abbrev pub EndsBehind : ℕ → ℕ → Outcome → Type 0
EndsBehind length i (End j h) = (i ≤ j) × (j ≤ length)
EndsBehind length i (Fail h) = Unit {0}

-- The expression ends there, at a height of at most this.
pub record EndsWithin (rules : List Expression) (text : List ℕ) (most : ℕ) (e : Expression) (i j : ℕ) : Type 0 where
  pub height : ℕ
  pub runs : Runs rules text e i (ends j) height
  pub low : height ≤ most

-- Where the one expression ends, the other ends too, and its nodes are the one's.
pub record StandsFor (rules : List Expression) (text : List ℕ) (e other : Expression) (i : ℕ) : Type 0 where
  pub ends_so : (h j : ℕ) → EndsWithin rules text h e i j → EndsWithin rules text h other i j
  pub derives : (j : ℕ) (n : List Node) → Derives rules text other i j n → Derives rules text e i j n
