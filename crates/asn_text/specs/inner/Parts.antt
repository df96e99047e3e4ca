-- What a rule takes, and how it begins.
use Rattle.std.specs.Prelude.{◌≡◌, ℕ, ◌≤◌, Bool, true, false, ◌||◌, List, take, nat_eq}
use Rattle.asn_rules_guards.specs.Allows.{allows}
use Rattle.asn_rules.specs.Expression.{Expression, rule, seq, skip, guarded, rule_of, Sight, bytes, word as whole_word}
use Rattle.asn_rules.specs.Runs.{ends, Runs}
use Rattle.asn_rules.specs.Whole.{whole_rules}
use Rattle.asn_rules.specs.declared.names.TheConstants.{BLOCK_COMMENT, COMMENT, LINE_COMMENT, SP}
use Rattle.asn_text.specs.declared.gap.Sought.{Sought}
use Rattle.asn_text.specs.declared.gap.Sought.TheVariants.{Word, Symbol}

-- The rule begins with blanks and comments.
abbrev pub skips_gap : Expression → Bool
skips_gap (seq (rule number) rest) = nat_eq number SP
skips_gap (seq (skip number) rest) = nat_eq number SP
skips_gap (guarded (seq (rule number) rest) guard) = nat_eq number SP
skips_gap expression = false

-- The three rules of comments.
abbrev pub is_comment : ℕ → Bool
is_comment number = nat_eq number COMMENT || nat_eq number BLOCK_COMMENT || nat_eq number LINE_COMMENT

-- A rule ends at a place, with a height that is at most the depth, and not behind the end.
pub record HasPart (text : List ℕ) (number offset depth end : ℕ) : Type 0 where
  pub place : ℕ
  pub height : ℕ
  pub run : Runs whole_rules text (rule number) offset (ends place) height
  pub in_depth : height ≤ depth
  pub from : offset ≤ place
  pub before : place ≤ end

-- the guard of a rule lets pass what was taken
abbrev pub passes : Expression → List ℕ → Bool
passes (guarded expression guard) taken = allows guard taken
passes expression taken = true

-- the bytes up to the rule's end, which its guard lets pass
pub record IsTaken (text : List ℕ) (number : ℕ) (taken : List ℕ) (place : ℕ) : Type 0 where
  pub taken_is : taken ≡ take place text
  pub passes_guard : passes (rule_of whole_rules number) taken ≡ true

-- a whole word, or these bytes
abbrev pub sight_of : Sought → List ℕ → Sight
sight_of Word text = whole_word text
sight_of Symbol text = bytes text
