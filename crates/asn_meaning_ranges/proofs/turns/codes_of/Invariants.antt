use Rattle.std.proofs.Common.{◌≡◌, ◌++◌, drop}
use Rattle.std.specs.Prelude.{map, pos}
use Rattle.asn_meaning_ranges.specs.inner.Wides.{all_wide}
use Rattle.asn_meaning_ranges.proofs.turns.codes_of.Given as goal

abbrev pub invariant-loop-character : goal.invariant-loop-character
invariant-loop-character l = all_wide l.codes ++ map pos (drop l.character-index l.characters) ≡ map pos l.characters
