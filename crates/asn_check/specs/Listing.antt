-- The text of a linked answer.
use Rattle.std.specs.Prelude.{ℕ, List, [], ◌∷◌, ◌++◌, Option, Some, None, codes}
use Rattle.asn_tree_leaves.specs.declared.errors.LinkerError.{LinkerError}
use Rattle.asn_tree_leaves.specs.declared.errors.GrammarErrorType.{GrammarErrorType}
use Rattle.asn_tree_leaves.specs.declared.errors.GrammarErrorType.TheVariants as grammar
use Rattle.asn_tree_leaves.specs.declared.errors.LinkerErrorType.{LinkerErrorType}
use Rattle.asn_tree_leaves.specs.declared.errors.LinkerErrorType.TheVariants.{MissingDependency, InvalidConstraintsError, Unknown, Cycle, Argument, Duplicate}
use Rattle.asn_check_listing.specs.Definitions.{definition_lines}
use Rattle.asn_check.specs.declared.linked.Linked.{Linked}

abbrev pub kind_text : LinkerErrorType → List ℕ
kind_text MissingDependency = codes "MissingDependency"
kind_text InvalidConstraintsError = codes "InvalidConstraintsError"
kind_text Unknown = codes "Unknown"
kind_text Cycle = codes "Cycle"
kind_text Argument = codes "Argument"
kind_text Duplicate = codes "Duplicate"

abbrev pub grammar_text : GrammarErrorType → List ℕ
grammar_text grammar.UnpackingError = codes "UnpackingError"
grammar_text grammar.LinkerError = codes "LinkerError"
grammar_text grammar.PerVisibleConstraintError = codes "PerVisibleConstraintError"
grammar_text grammar.NotYetInplemented = codes "NotYetInplemented"
grammar_text grammar.SyntaxMismatch = codes "SyntaxMismatch"

-- the word of the fault: of a warning of a refusal, that of the refusal's kind
abbrev pub fault_text : LinkerErrorType → Option GrammarErrorType → List ℕ
fault_text kind None = kind_text kind
fault_text kind (Some refusal) = grammar_text refusal

abbrev pub name_text : Option (List ℕ) → List ℕ
name_text None = []
name_text (Some name) = name

abbrev pub warning_line : LinkerError → List ℕ
warning_line w = codes "warning " ++ fault_text w.kind w.grammar ++ codes " " ++ name_text w.pdu ++ 10 ∷ []

abbrev pub warning_lines : List LinkerError → List ℕ
warning_lines [] = []
warning_lines (w ∷ ws) = warning_line w ++ warning_lines ws

-- A line for each definition, in their order, then a line for each warning.
abbrev pub listing_of : Linked → List ℕ
listing_of linked = definition_lines linked.definitions ++ warning_lines linked.warnings
