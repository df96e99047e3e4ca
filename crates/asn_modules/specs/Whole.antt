-- The reading of a whole text, and what is told of one that has none.
use Rattle.std.specs.Prelude.{ℕ, List}
use Rattle.asn_read_nodes.specs.Derivation.{IsMatchingErrorBy, IsReadingBy}
use Rattle.asn_rules.specs.Due.{pieces_of}
use Rattle.asn_rules.specs.Whole.{whole_rules}
use Rattle.asn_rules.specs.declared.grammar.Grammar.TheVariants.{Whole}
use Rattle.asn_text.specs.declared.report.LexerError.{LexerError}
use Rattle.asn_modules.specs.Modules.{Module, reading_of}

-- The reading by the rules of the whole of ASN.1.
abbrev pub IsReading : List ℕ → List Module → Type 0
IsReading text reading = IsReadingBy whole_rules reading_of text reading

-- The text lacks a part of a module by these rules, and the error tells which, and where.
abbrev pub IsMatchingError : List ℕ → ℕ → LexerError → Type 0
IsMatchingError text depth error = IsMatchingErrorBy whole_rules (pieces_of Whole) text depth error
