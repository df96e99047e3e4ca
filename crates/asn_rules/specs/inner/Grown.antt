-- What a try at a limited depth grows. Only proofs cite these.
use Rattle.std.specs.Prelude.{ℕ, zero, suc, ◌+◌, ◌-◌, ◌≤◌, max, List, [], ◌∷◌, ◌++◌, Ok, Err, length, nat_lt, if◌then◌else◌}
use Rattle.asn_rules.specs.declared.marks.Mark.{Mark}
use Rattle.asn_rules.specs.Marks.{mark_number}
use Rattle.asn_rules.specs.Expression.{Expression, see, marked, seq, choice, many, never, guarded, rule, skip, rule_of}
use Rattle.asn_rules.specs.Runs.{Ending, ends, fails, seen, judged, Answer}
use Rattle.asn_rules.specs.Derives.{node}
use Rattle.asn_rules.specs.declared.run.Outcome.TheVariants as outcome
use Rattle.asn_rules.specs.declared.run.MatchFault.TheVariants as fault
use Rattle.asn_rules_guards.specs.declared.asked.Guard.{Guard}
use Rattle.asn_rules.specs.declared.node.Node.{Node}

-- What a try grew: where it ended, its height and its nodes; the height at which it failed; or that the depth was too small.
pub data Growth : Type 0 where
  End : ℕ → ℕ → List Node → Growth
  Fail : ℕ → Growth
  TooDeep : Growth

-- with no nodes
abbrev pub leafless : Ending → ℕ → Growth
leafless (ends j) h = End j h []
leafless fails h = Fail h

-- with the leaf of a mark
abbrev pub with_leaf : Mark → ℕ → Ending → Growth
with_leaf m i (ends j) = End j 0 (node (mark_number m) i j [] ∷ [])
with_leaf m i fails = Fail 0

abbrev pub without_nodes : Growth → Growth
without_nodes (End j h m) = End j h []
without_nodes (Fail h) = Fail h
without_nodes TooDeep = TooDeep

-- behind these nodes, at a height of at least this
abbrev pub after : ℕ → List Node → Growth → Growth
after h m (End j k n) = End j (max h k) (m ++ n)
after h m (Fail k) = Fail (max h k)
after h m TooDeep = TooDeep

abbrev pub then_grow : Growth → (ℕ → Growth) → Growth
then_grow (End j h m) next = after h m (next j)
then_grow (Fail h) next = Fail h
then_grow TooDeep next = TooDeep

abbrev pub else_grow : Growth → Growth → Growth
else_grow (End j h m) other = End j h m
else_grow (Fail h) other = after h [] other
else_grow TooDeep other = TooDeep

abbrev pub turn_growth : ℕ → Growth → Growth
turn_growth i (End j h m) = Fail h
turn_growth i (Fail h) = End i h []
turn_growth i TooDeep = TooDeep

abbrev pub kept : Ending → ℕ → List Node → Growth
kept (ends j) h m = End j h m
kept fails h m = Fail h

abbrev pub judge_growth : List ℕ → Guard → ℕ → Growth → Growth
judge_growth text g i (End j h m) = kept (judged text g i j) h m
judge_growth text g i (Fail h) = Fail h
judge_growth text g i TooDeep = TooDeep

abbrev pub grow_turn : ℕ → Growth → (ℕ → Growth) → Growth
grow_turn i (End j h m) next = if nat_lt i j then after h m (next j) else End i h []
grow_turn i (Fail h) next = End i h []
grow_turn i TooDeep next = TooDeep

abbrev pub grow_turns : (ℕ → Growth) → ℕ → ℕ → Growth
grow_turns step zero i = TooDeep
grow_turns step (suc n) i = grow_turn i (step i) (grow_turns step n)

abbrev pub expr_growth : (ℕ → ℕ → Growth) → List ℕ → Expression → ℕ → Growth
expr_growth call text (see s) i = leafless (seen text s i) 0
expr_growth call text (marked m s) i = with_leaf m i (seen text s i)
expr_growth call text (seq a b) i = then_grow (expr_growth call text a i) (expr_growth call text b)
expr_growth call text (choice a b) i = else_grow (expr_growth call text a i) (expr_growth call text b i)
expr_growth call text (many a) i = grow_turns (expr_growth call text a) (suc (length text - i)) i
expr_growth call text (never a) i = turn_growth i (expr_growth call text a i)
expr_growth call text (guarded a g) i = judge_growth text g i (expr_growth call text a i)
expr_growth call text (rule r) i = call r i
expr_growth call text (skip r) i = without_nodes (call r i)

abbrev pub topped : ℕ → ℕ → Growth → Growth
topped r i (End j h m) = End j (h + 1) (node r i j m ∷ [])
topped r i (Fail h) = Fail (h + 1)
topped r i TooDeep = TooDeep

abbrev pub call_growth : List Expression → List ℕ → ℕ → ℕ → ℕ → Growth
call_growth rules text zero r i = TooDeep
call_growth rules text (suc d) r i = topped r i (expr_growth (call_growth rules text d) text (rule_of rules r) i)

abbrev pub grown : List Expression → List ℕ → ℕ → Expression → ℕ → Growth
grown rules text d e i = expr_growth (call_growth rules text d) text e i

-- an answer with no nodes
abbrev pub of_outcome : Answer → Growth
of_outcome (Ok (outcome.End j h)) = End j h []
of_outcome (Ok (outcome.Fail h)) = Fail h
of_outcome (Err f) = TooDeep

-- without its nodes
abbrev pub plain : Growth → Answer
plain (End j h m) = Ok (outcome.End j h)
plain (Fail h) = Ok (outcome.Fail h)
plain TooDeep = Err fault.TooDeep
