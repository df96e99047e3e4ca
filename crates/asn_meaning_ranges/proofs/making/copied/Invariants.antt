use Rattle.std.proofs.Common.{◌≡◌, ◌++◌, drop}
use Rattle.asn_meaning_ranges.proofs.making.copied.Given as goal

abbrev pub invariant-loop-character : goal.invariant-loop-character
invariant-loop-character l = l.list ++ drop l.character-index l.characters ≡ l.characters
