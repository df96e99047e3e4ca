-- The packrat table (B. Ford, Packrat Parsing, 2002): what was tried, and what it came to.
use Rattle.std.specs.Prelude.{◌≡◌, ℕ, ◌≤◌, List, Option, Some, None, nat_eq, ◌&&◌, if◌then◌else◌, IsSome, IfSome, slice_get, ◌⊎◌, length, MatchOption, ◌<◌}
use Rattle.asn_match.specs.Chain.{from_place}
use Rattle.asn_match.specs.declared.chains.MatchTable.{MatchTable}
use Rattle.asn_rules.specs.declared.run.Outcome.{Outcome}
use Rattle.asn_rules.specs.declared.run.Outcome.TheVariants.{End, Fail}
use Rattle.asn_rules.specs.Expression.{Expression, seq, choice, many, never, guarded, rule, skip, rule_of}
use Rattle.asn_rules.specs.Runs.{ends, fails, Runs}
use Rattle.asn_rules_guards.specs.declared.asked.Guard.{Guard}

-- what the table has of the pair
abbrev pub at : MatchTable → ℕ → ℕ → Option Outcome
at t r i = from_place t.entries.items r (slice_get t.newest.items i)

-- the pair is entered with its outcome, and all else is as it was
abbrev pub Sets : MatchTable → MatchTable → ℕ → ℕ → Outcome → Type 0
Sets old new r i o = (s j : ℕ) → at new s j ≡ (if nat_eq r s && nat_eq i j then Some o else at old s j)

-- what was tried has ended
abbrev pub Ended : Option Outcome → Type 0
Ended None = ⊥
Ended (Some (End j h)) = Unit {0}
Ended (Some (Fail h)) = ⊥

-- The try of the expression at the offset tries the rule r at j.
pub data Tries (rules : List Expression) (text : List ℕ) : Expression → ℕ → ℕ → ℕ → Type 0 where
  itself : {r i : ℕ} → Tries rules text (rule r) i r i
  in_skipped : {r i s j : ℕ} → Tries rules text (rule r) i s j → Tries rules text (skip r) i s j
  in_body : {r i s j : ℕ} → Tries rules text (rule_of rules r) i s j → Tries rules text (rule r) i s j
  in_first : {a b : Expression} {i s j : ℕ} → Tries rules text a i s j → Tries rules text (seq a b) i s j
  in_second : {a b : Expression} {i k h s j : ℕ} → Runs rules text a i (ends k) h → Tries rules text b k s j → Tries rules text (seq a b) i s j
  in_one : {a b : Expression} {i s j : ℕ} → Tries rules text a i s j → Tries rules text (choice a b) i s j
  in_other : {a b : Expression} {i h s j : ℕ} → Runs rules text a i fails h → Tries rules text b i s j → Tries rules text (choice a b) i s j
  in_turn : {a : Expression} {i s j : ℕ} → Tries rules text a i s j → Tries rules text (many a) i s j
  in_later : {a : Expression} {i k h s j : ℕ} → Runs rules text a i (ends k) h → i < k → Tries rules text (many a) k s j → Tries rules text (many a) i s j
  in_never : {a : Expression} {i s j : ℕ} → Tries rules text a i s j → Tries rules text (never a) i s j
  in_guarded : {a : Expression} {g : Guard} {i s j : ℕ} → Tries rules text a i s j → Tries rules text (guarded a g) i s j

-- the outcome is the ending and the height
abbrev pub RunsTo : List Expression → List ℕ → Expression → ℕ → Outcome → Type 0
RunsTo rules text e i (End j h) = Runs rules text e i (ends j) h
RunsTo rules text e i (Fail h) = Runs rules text e i fails h

-- Each entry is right, and all that was tried for it has an entry.
pub record Holds (rules : List Expression) (text : List ℕ) (t : MatchTable) : Type 0 where
  pub right : (r i : ℕ) → IfSome (at t r i) (λ o. (i ≤ length text) × RunsTo rules text (rule r) i o)
  pub closed : (r i s j : ℕ) → IsSome (at t r i) → Tries rules text (rule r) i s j → IsSome (at t s j)

-- The table has gained what the try of the expression at the offset tries, and nothing else.
pub record Adds (rules : List Expression) (text : List ℕ) (e : Expression) (i : ℕ) (old new : MatchTable) : Type 0 where
  pub holds : Holds rules text new
  pub grows : (r j : ℕ) → IsSome (at old r j) → IsSome (at new r j)
  pub tried : (r j : ℕ) → Tries rules text e i r j → IsSome (at new r j)
  pub only : (r j : ℕ) → IsSome (at new r j) → IsSome (at old r j) ⊎ Tries rules text e i r j

-- The table has the pairs that the try of the rule at offset 0 tries, each with its outcome, and no others.
abbrev pub IsTableOf : List Expression → List ℕ → ℕ → MatchTable → Type 0
IsTableOf rules text r t = (s j : ℕ) → MatchOption (at t s j) (¬ Tries rules text (rule r) 0 s j) (λ o. Tries rules text (rule r) 0 s j × RunsTo rules text (rule s) j o)
