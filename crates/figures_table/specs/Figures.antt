-- What is told of a text.
use Rattle.std.specs.Prelude.{ℕ, List, ◌++◌, codes, length, Result, Ok, Err}
use Rattle.std.specs.Fmt.{decimal}
use Rattle.asn_match.specs.declared.chains.MatchTable.{MatchTable}
use Rattle.asn_rules.specs.declared.run.MatchFault.{MatchFault}
use Rattle.asn_rules.specs.declared.run.MatchFault.TheVariants.{TooDeep, OutOfMemory}

-- how many bytes the text has and how many entries its table, or why it has no table
abbrev pub figures_line : ℕ → Result MatchTable MatchFault → List ℕ
figures_line bytes (Ok t) = decimal bytes ++ codes " bytes, " ++ decimal (length t.entries.items) ++ codes " entries\n"
figures_line bytes (Err TooDeep) = codes "too deep\n"
figures_line bytes (Err OutOfMemory) = codes "out of memory\n"
