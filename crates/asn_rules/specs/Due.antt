-- Where a text that is none of the grammar goes wrong: the first part of a module that does not stand.
use Rattle.std.specs.Prelude.{ℕ, ◌<◌, ◌≤◌, List, [], ◌∷◌, ◌++◌, length, codes}
use Rattle.asn_rules.specs.declared.due.ModulePart.{ModulePart}
use Rattle.asn_rules.specs.declared.due.ModulePart.TheVariants.{Name, Definitions, Assignment, Begin, Closing}
use Rattle.asn_rules.specs.declared.due.Piece as code
use Rattle.asn_rules.specs.declared.due.Piece.TheVariants.{Optional, Required}
use Rattle.asn_rules.specs.declared.grammar.Grammar.{Grammar}
use Rattle.asn_rules.specs.declared.grammar.Grammar.TheVariants.{Whole}
use Rattle.asn_rules.specs.declared.names.TheConstants.{ASSIGNMENT, DEFINITION, DEFINITIVE, END, ENVIRONMENTS, EXPORTS, IDENTIFIER, IMPORTS, SP}
use Rattle.asn_rules.specs.Expression.{Expression, expression, many, rule, skip}
use Rattle.asn_rules.specs.Forms.{keyword, maybe}
use Rattle.asn_rules.specs.Runs.{Ending, ends, fails, Runs}

-- What stands in a module: what may stand there, and is passed over; or a part that each module has.
pub data Piece : Type 0 where
  optional : Expression → Piece
  required : ModulePart → Expression → Piece

-- The code's, without its pointers.
abbrev pub piece : code.Piece → Piece
piece (Optional e) = optional (expression e.now)
piece (Required part e) = required part (expression e.now)

-- the pieces of a header, in order (X.680 13.1); what may stand between them differs
abbrev pub header_pieces : Grammar → List Piece
header_pieces Whole =
    required Name (rule IDENTIFIER) ∷ optional (maybe (rule DEFINITIVE)) ∷
    required Definitions (keyword (codes "DEFINITIONS")) ∷ optional (rule ENVIRONMENTS) ∷
    required Assignment (rule ASSIGNMENT) ∷ required Begin (keyword (codes "BEGIN")) ∷
    optional (maybe (rule EXPORTS)) ∷ optional (maybe (rule IMPORTS)) ∷ []

-- and those behind it
abbrev pub body_pieces : List Piece
body_pieces = optional (many (rule DEFINITION)) ∷ required Closing (rule END) ∷ []

abbrev pub pieces_of : Grammar → List Piece
pieces_of grammar = header_pieces grammar ++ body_pieces

-- what a reader who waits for the part is told
abbrev pub reason_of : ModulePart → List ℕ
reason_of Name = codes "module name expected"
reason_of Definitions = codes "DEFINITIONS expected"
reason_of Assignment = codes "::= expected"
reason_of Begin = codes "BEGIN expected"
reason_of Closing = codes "END expected"

-- where the context of a part that does not stand begins: for a closing at its own place, else with its module
abbrev pub context_of : ModulePart → ℕ → ℕ → ℕ
context_of Name first place = first
context_of Definitions first place = first
context_of Assignment first place = first
context_of Begin first place = first
context_of Closing first place = place

-- what pieces that are tried one behind the other come to: the last one ends here, or this part does not stand, tried here
pub data Stop : Type 0 where
  all_stand : ℕ → Stop
  lacks : ModulePart → ℕ → Stop

module _ (rules : List Expression) (text : List ℕ) (depth : ℕ) where
  -- the expression, tried at the offset, comes to the ending at a height within the depth
  abbrev pub Comes : Expression → ℕ → Ending → Type 0
  Comes e i o = (h : ℕ) × Runs rules text e i o h × (h ≤ depth)

  -- The pieces, tried one behind the other from the offset on, come to the stop.
  pub data Through : List Piece → ℕ → Stop → Type 0 where
    at_end : {i : ℕ} → Through [] i (all_stand i)
    passing : {e : Expression} {ps : List Piece} {i j : ℕ} {s : Stop} → Comes e i (ends j) → Through ps j s → Through (optional e ∷ ps) i s
    missing : {p : ModulePart} {e : Expression} {ps : List Piece} {i : ℕ} → Comes e i fails → Through (required p e ∷ ps) i (lacks p i)
    standing : {p : ModulePart} {e : Expression} {ps : List Piece} {i j : ℕ} {s : Stop} → Comes e i (ends j) → Through ps j s → Through (required p e ∷ ps) i s

  -- A module, made of these pieces, is due at the start of a text, and behind each module that a byte other than blanks
  -- and comments follows. Of the first module that lacks a part: this part, the module's first byte, and the place where
  -- the part is due, both behind blanks and comments.
  pub data IsDue (pieces : List Piece) : ℕ → ModulePart → ℕ → ℕ → Type 0 where
    due_here : {i at first place : ℕ} {p : ModulePart} → Through pieces i (lacks p at) → Comes (skip SP) i (ends first) → Comes (skip SP) at (ends place) → IsDue pieces i p first place
    due_later : {i j next first place : ℕ} {p : ModulePart} → Through pieces i (all_stand j) → Comes (skip SP) j (ends next) → next < length text → IsDue pieces j p first place → IsDue pieces i p first place
