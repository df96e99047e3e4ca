-- What a try at a limited depth answers. Only private contracts cite these.
use Rattle.std.specs.Prelude.{ℕ, zero, suc, ◌+◌, ◌-◌, ◌≤◌, max, List, Ok, Err, length, nat_lt, if◌then◌else◌}
use Rattle.asn_rules.specs.Expression.{Expression, see, marked, seq, choice, many, never, guarded, rule, skip, rule_of}
use Rattle.asn_rules.specs.Runs.{Ending, ends, fails, seen, judged, Answer}
use Rattle.asn_rules.specs.declared.run.Outcome.{Outcome}
use Rattle.asn_rules.specs.declared.run.Outcome.TheVariants.{End, Fail}
use Rattle.asn_rules.specs.declared.run.MatchFault.TheVariants.{TooDeep}
use Rattle.asn_rules_guards.specs.declared.asked.Guard.{Guard}

abbrev pub at_height : Ending → ℕ → Outcome
at_height (ends j) h = End j h
at_height fails h = Fail h

abbrev pub raised : ℕ → Outcome → Outcome
raised h (End j k) = End j (max h k)
raised h (Fail k) = Fail (max h k)

abbrev pub raise : ℕ → Answer → Answer
raise h (Ok o) = Ok (raised h o)
raise h (Err f) = Err f

abbrev pub one_more : Outcome → Outcome
one_more (End j k) = End j (k + 1)
one_more (Fail k) = Fail (k + 1)

abbrev pub higher : Answer → Answer
higher (Ok o) = Ok (one_more o)
higher (Err f) = Err f

abbrev pub then_from : Answer → (ℕ → Answer) → Answer
then_from (Ok (End j h)) next = raise h (next j)
then_from (Ok (Fail h)) next = Ok (Fail h)
then_from (Err f) next = Err f

abbrev pub or_else : Answer → Answer → Answer
or_else (Ok (End j h)) other = Ok (End j h)
or_else (Ok (Fail h)) other = raise h other
or_else (Err f) other = Err f

abbrev pub turned : ℕ → Answer → Answer
turned i (Ok (End j h)) = Ok (Fail h)
turned i (Ok (Fail h)) = Ok (End i h)
turned i (Err f) = Err f

abbrev pub judge : List ℕ → Guard → ℕ → Answer → Answer
judge text g i (Ok (End j h)) = Ok (at_height (judged text g i j) h)
judge text g i (Ok (Fail h)) = Ok (Fail h)
judge text g i (Err f) = Err f

abbrev pub turn : ℕ → Answer → (ℕ → Answer) → Answer
turn i (Ok (End j h)) next = if nat_lt i j then raise h (next j) else Ok (End i h)
turn i (Ok (Fail h)) next = Ok (End i h)
turn i (Err f) next = Err f

abbrev pub turns : (ℕ → Answer) → ℕ → ℕ → Answer
turns step zero i = Err TooDeep
turns step (suc n) i = turn i (step i) (turns step n)

abbrev pub expr_answer : (ℕ → ℕ → Answer) → List ℕ → Expression → ℕ → Answer
expr_answer call text (see s) i = Ok (at_height (seen text s i) 0)
expr_answer call text (marked m s) i = Ok (at_height (seen text s i) 0)
expr_answer call text (seq a b) i = then_from (expr_answer call text a i) (expr_answer call text b)
expr_answer call text (choice a b) i = or_else (expr_answer call text a i) (expr_answer call text b i)
expr_answer call text (many a) i = turns (expr_answer call text a) (suc (length text - i)) i
expr_answer call text (never a) i = turned i (expr_answer call text a i)
expr_answer call text (guarded a g) i = judge text g i (expr_answer call text a i)
expr_answer call text (rule r) i = call r i
expr_answer call text (skip r) i = call r i

abbrev pub call_answer : List Expression → List ℕ → ℕ → ℕ → ℕ → Answer
call_answer rules text zero r i = Err TooDeep
call_answer rules text (suc d) r i = higher (expr_answer (call_answer rules text d) text (rule_of rules r) i)

abbrev pub answer : List Expression → List ℕ → ℕ → Expression → ℕ → Answer
answer rules text d e i = expr_answer (call_answer rules text d) text e i

abbrev pub IsWithinOutcome : ℕ → ℕ → ℕ → Outcome → Type 0
IsWithinOutcome length depth i (End j h) = (i ≤ j) × (j ≤ length) × (h ≤ depth)
IsWithinOutcome length depth i (Fail h) = h ≤ depth

-- an end lies between the offset and the text's end, and a height is at most the depth
abbrev pub IsWithin : ℕ → ℕ → ℕ → Answer → Type 0
IsWithin length depth i (Ok o) = IsWithinOutcome length depth i o
IsWithin length depth i (Err f) = Unit {0}

abbrev pub height_of : Outcome → ℕ
height_of (End j h) = h
height_of (Fail h) = h
