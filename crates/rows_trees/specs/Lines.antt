-- The lines of a text.
use Rattle.std.specs.Prelude.{ℕ, List, [], ◌∷◌, ◌++◌, codes}
use Rattle.std.specs.Fmt.{decimal}
use Rattle.asn_read_nodes.specs.declared.errors.SpecError.{SpecError}
use Rattle.asn_read_nodes.specs.declared.errors.SpecError.TheVariants.{Lexer, TooDeep, OutOfMemory}
use Rattle.asn_tree_headers.specs.declared.headers.ModuleReference.{ModuleReference}
use Rattle.rows_trees.specs.Headers.{header_text}
use Rattle.asn_check_listing.specs.Definitions.{definition_lines}
use Rattle.asn_text.specs.declared.report.LexerError.{LexerError}
use Rattle.asn_text.specs.declared.report.LexerErrorType.{LexerErrorType}
use Rattle.asn_text.specs.declared.report.LexerErrorType.TheVariants.{MatchingError}
use Rattle.asn_text.specs.declared.report.ReportData.{ReportData}
use Rattle.asn_tree.specs.declared.definitions.ToplevelDefinition.{ToplevelDefinition}

-- the line of a module's header
abbrev pub header_line : ModuleReference → List ℕ
header_line h = header_text h ++ codes "\n"

-- each module's header and definitions, in the order of the text
abbrev pub module_lines : List (ModuleReference × List ToplevelDefinition) → List ℕ
module_lines [] = []
module_lines (m ∷ ms) = header_line m.0 ++ definition_lines m.1 ++ module_lines ms

unfoldable pub matching_word : List ℕ
matching_word = codes "error matching line "

abbrev pub report_line : LexerErrorType → List ℕ
report_line (MatchingError r) = matching_word ++ decimal r.line ++ codes " column " ++ decimal r.column ++ codes "\n"

-- where a text stops to match, both counted from 1
abbrev pub place_line : LexerError → List ℕ
place_line e = report_line e.kind

-- the line of why nothing was read
abbrev pub error_line : SpecError → List ℕ
error_line (Lexer e) = place_line e
error_line TooDeep = codes "error depth\n"
error_line OutOfMemory = codes "error memory\n"
