-- The node of a whole text, what is read of it, and what is told of a text that has none: by any table, what stands in its
-- modules, and any function that reads a node.
use Rattle.std.specs.Prelude.{◌≡◌, ℕ, List, [], ◌∷◌, Option, Some}
use Rattle.asn_rules.specs.Expression.{Expression, rule}
use Rattle.asn_rules.specs.Derives.{Derives}
use Rattle.asn_rules.specs.Due.{Piece, IsDue, context_of, reason_of}
use Rattle.asn_rules.specs.declared.due.ModulePart.{ModulePart}
use Rattle.asn_rules.specs.declared.names.TheConstants.{ASN_SPEC}
use Rattle.asn_rules.specs.declared.node.Node.{Node}
use Rattle.asn_text.specs.Report.{IsReport}
use Rattle.asn_text.specs.declared.report.LexerError.{LexerError}
use Rattle.asn_text.specs.declared.report.LexerErrorType.{LexerErrorType}
use Rattle.asn_text.specs.declared.report.LexerErrorType.TheVariants.{MatchingError}
use Rattle.asn_text.specs.declared.report.ReportData.{ReportData}

-- By these rules the one of a whole text ends from its start on, by way of the node.
abbrev pub IsNodeBy : List Expression → List ℕ → Node → Type 0
IsNodeBy rules text n = (j : ℕ) × Derives rules text (rule ASN_SPEC) 0 j (n ∷ [])

-- And this is what the node reads as.
abbrev pub IsReadingBy : {Read : Type 0} → List Expression → (List ℕ → Node → Option Read) → List ℕ → Read → Type 0
IsReadingBy rules read text reading = (j : ℕ) × (n : Node) × Derives rules text (rule ASN_SPEC) 0 j (n ∷ []) × (read text n ≡ Some reading)

abbrev pub report_of : LexerErrorType → ReportData
report_of (MatchingError report) = report

-- The text lacks a part of a module, which is made of these pieces, and the error tells where: the first part that does not
-- stand, its place, and why.
pub record IsMatchingErrorBy (rules : List Expression) (pieces : List Piece) (text : List ℕ) (depth : ℕ) (error : LexerError) : Type 0 where
  pub part : ModulePart
  pub begun : ℕ
  pub place : ℕ
  pub due : IsDue rules text depth pieces 0 part begun place
  pub told : IsReport text place (context_of part begun place) (reason_of part) (report_of error.kind)
