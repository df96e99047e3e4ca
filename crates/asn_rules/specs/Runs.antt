-- What a try of an expression comes to, over the rules of a grammar and a text.
use Rattle.std.specs.Prelude.{◌≡◌, ℕ, ◌+◌, ◌<◌, ◌≤◌, max, List, Result, Ok, Err, if◌then◌else◌, slice_range, drop}
use Rattle.asn_rules.specs.declared.marks.Mark.{Mark}
use Rattle.asn_rules.specs.Expression.{Expression, see, marked, seq, choice, many, never, guarded, rule, skip, Sight, rule_of}
use Rattle.asn_rules_guards.specs.Lexical.{stands, width}
use Rattle.asn_rules_guards.specs.Allows.{allows}
use Rattle.asn_rules_guards.specs.declared.asked.Guard.{Guard}
use Rattle.asn_rules.specs.declared.run.Outcome.{Outcome}
use Rattle.asn_rules.specs.declared.run.Outcome.TheVariants.{End, Fail}
use Rattle.asn_rules.specs.declared.run.MatchFault.{MatchFault}
use Rattle.asn_rules.specs.declared.run.TooDeep as deep
use Rattle.asn_rules.specs.declared.run.MatchFault.TheVariants.{TooDeep, OutOfMemory}

-- it ends at an offset, or it fails
pub data Ending : Type 0 where
  ends : ℕ → Ending
  fails : Ending

-- what a sight comes to at an offset
abbrev pub seen : List ℕ → Sight → ℕ → Ending
seen text s i = if stands s (drop i text) then ends (i + width s) else fails

-- what a guard makes of an end
abbrev pub judged : List ℕ → Guard → ℕ → ℕ → Ending
judged text g i j = if allows g (slice_range text i j) then ends j else fails

-- The expression, tried at the offset, comes to the ending with the height: how many calls lie within each other at most.
pub data Runs (rules : List Expression) (text : List ℕ) : Expression → ℕ → Ending → ℕ → Type 0 where
  sees : {s : Sight} {i : ℕ} → Runs rules text (see s) i (seen text s i) 0
  sees_mark : {m : Mark} {s : Sight} {i : ℕ} → Runs rules text (marked m s) i (seen text s i) 0
  seq_ends : {a b : Expression} {i j h k : ℕ} {o : Ending} → Runs rules text a i (ends j) h → Runs rules text b j o k → Runs rules text (seq a b) i o (max h k)
  seq_fails : {a b : Expression} {i h : ℕ} → Runs rules text a i fails h → Runs rules text (seq a b) i fails h
  choice_first : {a b : Expression} {i j h : ℕ} → Runs rules text a i (ends j) h → Runs rules text (choice a b) i (ends j) h
  choice_second : {a b : Expression} {i h k : ℕ} {o : Ending} → Runs rules text a i fails h → Runs rules text b i o k → Runs rules text (choice a b) i o (max h k)
  many_turn : {a : Expression} {i j h k : ℕ} {o : Ending} → Runs rules text a i (ends j) h → i < j → Runs rules text (many a) j o k → Runs rules text (many a) i o (max h k)
  many_idle : {a : Expression} {i h : ℕ} → Runs rules text a i (ends i) h → Runs rules text (many a) i (ends i) h
  many_fails : {a : Expression} {i h : ℕ} → Runs rules text a i fails h → Runs rules text (many a) i (ends i) h
  never_ends : {a : Expression} {i h : ℕ} → Runs rules text a i fails h → Runs rules text (never a) i (ends i) h
  never_fails : {a : Expression} {i j h : ℕ} → Runs rules text a i (ends j) h → Runs rules text (never a) i fails h
  guard_judges : {a : Expression} {g : Guard} {i j h : ℕ} → Runs rules text a i (ends j) h → Runs rules text (guarded a g) i (judged text g i j) h
  guard_fails : {a : Expression} {g : Guard} {i h : ℕ} → Runs rules text a i fails h → Runs rules text (guarded a g) i fails h
  calls : {r i h : ℕ} {o : Ending} → Runs rules text (rule_of rules r) i o h → Runs rules text (rule r) i o (h + 1)
  skips : {r i h : ℕ} {o : Ending} → Runs rules text (rule_of rules r) i o h → Runs rules text (skip r) i o (h + 1)

-- There is exactly one ending and one height.
pub record ExactlyOne (rules : List Expression) (text : List ℕ) (e : Expression) (i : ℕ) : Type 0 where
  pub one : (o : Ending) × (h : ℕ) × Runs rules text e i o h
  pub only : (o o' : Ending) (h h' : ℕ) → Runs rules text e i o h → Runs rules text e i o' h' → (o ≡ o') × (h ≡ h')

-- The ending with its height, which is at most the depth.
abbrev pub IsOutcome : List Expression → List ℕ → Expression → ℕ → ℕ → Outcome → Type 0
IsOutcome rules text e i depth (End j h) = Runs rules text e i (ends j) h × (h ≤ depth)
IsOutcome rules text e i depth (Fail h) = Runs rules text e i fails h × (h ≤ depth)

-- The height exceeds the depth.
abbrev pub Exceeds : List Expression → List ℕ → Expression → ℕ → ℕ → Type 0
Exceeds rules text e i depth = (o : Ending) (h : ℕ) → Runs rules text e i o h → depth < h

-- what a try answers
abbrev pub Answer : Type 0
Answer = Result Outcome MatchFault

-- The outcome, or where the height exceeds the depth, that this is so.
abbrev pub Answers : List Expression → List ℕ → Expression → ℕ → ℕ → Answer → Type 0
Answers rules text e i depth (Ok o) = IsOutcome rules text e i depth o
Answers rules text e i depth (Err TooDeep) = Exceeds rules text e i depth
Answers rules text e i depth (Err OutOfMemory) = ⊥

-- The same of a try that takes no memory.
abbrev pub AnswersInDepth : List Expression → List ℕ → Expression → ℕ → ℕ → Result Outcome deep.TooDeep → Type 0
AnswersInDepth rules text e i depth (Ok o) = IsOutcome rules text e i depth o
AnswersInDepth rules text e i depth (Err f) = Exceeds rules text e i depth
