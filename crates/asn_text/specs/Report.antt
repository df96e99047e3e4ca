-- What a report tells of a place in a text.
use Rattle.std.specs.Cmp.Lexicographic.{pointwise}
use Rattle.std.specs.Prelude.{◌≡◌, ℕ, Bool, ◌&&◌, nat_eq, List, length}
use mathlib.Core.Bool.{beq}
use Rattle.asn_text.specs.Position.{line_at, column_at}
use Rattle.asn_text.specs.declared.report.ReportData.{ReportData}
use Rattle.asn_text.specs.declared.report.LexerError.{LexerError}
use Rattle.asn_text.specs.declared.report.LexerErrorType.{LexerErrorType}
use Rattle.asn_text.specs.declared.report.LexerErrorType.TheVariants.{MatchingError}

-- the report of the byte at `place`, whose context begins at the byte at `context`, for the reason `why`
pub record IsReport (text : List ℕ) (place context : ℕ) (why : List ℕ) (report : ReportData) : Type 0 where
  pub line : report.line ≡ line_at text place
  pub column : report.column ≡ column_at text place
  pub offset : report.offset ≡ place
  pub context_start_line : report.context_start_line ≡ line_at text context
  pub context_start_offset : report.context_start_offset ≡ context
  pub reason : report.reason.now ≡ why
  pub unexpected_eof : report.unexpected_eof ≡ nat_eq place (length text)

-- a report, with its reason as the bytes of a text
pub record Told : Type 0 where
  pub context_start_line : ℕ
  pub context_start_offset : ℕ
  pub line : ℕ
  pub offset : ℕ
  pub column : ℕ
  pub reason : List ℕ
  pub unexpected_eof : Bool

abbrev pub told_by : ReportData → Told
told_by report = record {
  context_start_line = report.context_start_line;
  context_start_offset = report.context_start_offset;
  line = report.line;
  offset = report.offset;
  column = report.column;
  reason = report.reason.now;
  unexpected_eof = report.unexpected_eof;
}

-- what an error of reading a whole text tells
abbrev pub told_by_kind : LexerErrorType → Told
told_by_kind (MatchingError report) = told_by report

abbrev pub told_by_error : LexerError → Told
told_by_error error = told_by_kind error.kind

-- whether two reports are the same
abbrev pub told_eq : Told → Told → Bool
told_eq a b =
    (((((nat_eq a.context_start_line b.context_start_line && nat_eq a.context_start_offset b.context_start_offset)
    && nat_eq a.line b.line)
    && nat_eq a.offset b.offset)
    && nat_eq a.column b.column)
    && pointwise nat_eq a.reason b.reason)
    && beq a.unexpected_eof b.unexpected_eof

abbrev pub report_eq : ReportData → ReportData → Bool
report_eq a b = told_eq (told_by a) (told_by b)

abbrev pub kind_eq : LexerErrorType → LexerErrorType → Bool
kind_eq a b = told_eq (told_by_kind a) (told_by_kind b)

abbrev pub error_eq : LexerError → LexerError → Bool
error_eq a b = told_eq (told_by_error a) (told_by_error b)
