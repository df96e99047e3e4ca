-- What the lexical readers read (X.680 12): a rule of the table is tried where the input begins.
use Rattle.std.specs.Prelude.{◌≡◌, ℕ, ◌+◌, ◌≤◌, true, false, List, codes, take, drop, slice_range, nat_eq, ℤ, Option, Some, None, if◌then◌else◌}
use Rattle.std.specs.List.{starts_with}
use Rattle.asn_rules.specs.Expression.{rule, Sight}
use Rattle.asn_rules_guards.specs.Guards.{bare, natural, integer}
use Rattle.asn_rules_guards.specs.Lexical.{stands, width}
use Rattle.asn_rules.specs.Runs.{Ending, ends, fails, Runs, Exceeds}
use Rattle.asn_rules.specs.Whole.{whole_rules}
use Rattle.asn_rules.specs.declared.names.TheConstants.{COMMENT_BODY, LINE_BODY, SP}
use Rattle.asn_text.specs.Part.{Part, shown, part_from}
use Rattle.asn_text.specs.Input.{part_of}
use Rattle.asn_text.specs.Fault.{IsNamedLeaf}
use Rattle.asn_text.specs.declared.input.Input.{Input}
use Rattle.asn_text.specs.declared.errors.ErrorTree.{out-ErrorTree}
use Rattle.asn_text.specs.declared.fault.ParseFault.{ParseFault}
use Rattle.asn_text.specs.declared.fault.ParseFault.TheVariants.{Fail, TooDeep, OutOfMemory}

-- The rule at the start of the text comes to the ending with the height.
abbrev pub Tries : List ℕ → ℕ → Ending → ℕ → Type 0
Tries text number ending height = Runs whole_rules text (rule number) 0 ending height

-- The rule ends there, with a height that is at most the depth.
abbrev pub EndsAt : List ℕ → ℕ → ℕ → ℕ → Type 0
EndsAt text number depth place = (height : ℕ) × (Tries text number (ends place) height × (height ≤ depth))

-- The rule fails, with a height that is at most the depth.
abbrev pub FailsIn : List ℕ → ℕ → ℕ → Type 0
FailsIn text number depth = (height : ℕ) × (Tries text number fails height × (height ≤ depth))

-- The height of the rule exceeds the depth.
abbrev pub IsTooDeep : List ℕ → ℕ → ℕ → Type 0
IsTooDeep text number depth = Exceeds whole_rules text (rule number) 0 depth

-- A fault of the reader of this rule: too deep exactly where the height exceeds the depth, a failure exactly where the
-- height is at most the depth and the rule fails, and never want of memory.
abbrev pub IsFaultOf : ℕ → List ℕ → Input → ℕ → ParseFault → Type 0
IsFaultOf number name input depth (Fail tree) = FailsIn (shown (part_of input)) number depth × IsNamedLeaf input name (out-ErrorTree tree)
IsFaultOf number name input depth TooDeep = IsTooDeep (shown (part_of input)) number depth
IsFaultOf number name input depth OutOfMemory = ⊥

-- A reader of the rule over the part: the rule ends at a place, the rest begins there, and what is read is made of it.
pub record Reads (number depth : ℕ) (part rest : Part) (made : ℕ → Type 0) : Type 0 where
  pub place : ℕ
  pub ends_at : EndsAt (shown part) number depth place
  pub rest_is : rest ≡ part_from place part
  pub made_is : made place

-- the bytes up to the rule's end, without the blanks and comments before them
abbrev pub IsItem : List ℕ → List ℕ → ℕ → Type 0
IsItem text item place = (start height : ℕ) × (Tries text SP (ends start) height × (item ≡ slice_range text start place))

-- the bytes between the marks of a comment, where this rule ends that is tried behind the first mark
abbrev pub IsBody : ℕ → List ℕ → List ℕ → Type 0
IsBody number text body = (place height : ℕ) × (Runs whole_rules text (rule number) 2 (ends place) height × (body ≡ slice_range text 2 place))

-- the rule of what stands within a block comment, or else within a line comment
abbrev pub body_rule : List ℕ → ℕ
body_rule text = if starts_with nat_eq text (codes "/*") then COMMENT_BODY else LINE_BODY

-- What is looked for stands behind the blanks and comments, and is read.
pub record Finds (sought : Sight) (depth : ℕ) (part rest : Part) (found : List ℕ) : Type 0 where
  pub place : ℕ
  pub gap_ends : EndsAt (shown part) SP depth place
  pub stands_there : stands sought (drop place (shown part)) ≡ true
  pub rest_is : rest ≡ part_from (place + width sought) part
  pub found_is : found ≡ slice_range (shown part) place (place + width sought)

-- What is looked for does not stand behind the blanks and comments.
abbrev pub Misses : Sight → List ℕ → ℕ → Type 0
Misses sought text depth = (place : ℕ) × (EndsAt text SP depth place × (stands sought (drop place text) ≡ false))

-- A fault of looking behind the blanks and comments: too deep exactly where their height exceeds the depth, a failure
-- exactly where it does not and nothing is found, and never want of memory.
abbrev pub IsFaultOfFinding : Sight → List ℕ → Input → ℕ → ParseFault → Type 0
IsFaultOfFinding sought name input depth (Fail tree) = Misses sought (shown (part_of input)) depth × IsNamedLeaf input name (out-ErrorTree tree)
IsFaultOfFinding sought name input depth TooDeep = IsTooDeep (shown (part_of input)) SP depth
IsFaultOfFinding sought name input depth OutOfMemory = ⊥

-- the number that digits alone spell, from 0 to 2^bits - 1
abbrev pub IsNatural : ℕ → List ℕ → ℕ → ℕ → Type 0
IsNatural bits text number place = natural bits (bare (take place text)) ≡ Some number

-- the number that digits spell, with a sign or without one, from -2^bits to 2^bits - 1
abbrev pub IsWhole : ℕ → List ℕ → ℤ → ℕ → Type 0
IsWhole bits text number place = integer bits (bare (take place text)) ≡ Some number

-- a comma where the rule takes something
abbrev pub IsComma : Option ℕ → ℕ → Type 0
IsComma comma place = comma ≡ (if nat_eq place 0 then None else Some 44)

-- a mark, which holds nothing
abbrev pub IsMark : ℕ → Type 0
IsMark place = Unit {0}

-- The rest begins behind the blanks and comments.
abbrev pub SkipsTo : ℕ → Part → Part → Type 0
SkipsTo depth part rest = (place : ℕ) × (EndsAt (shown part) SP depth place × (rest ≡ part_from place part))

-- The one fault of passing blanks and comments: their height exceeds the depth.
abbrev pub IsGapFault : Input → ℕ → ParseFault → Type 0
IsGapFault input depth (Fail tree) = ⊥
IsGapFault input depth TooDeep = IsTooDeep (shown (part_of input)) SP depth
IsGapFault input depth OutOfMemory = ⊥
