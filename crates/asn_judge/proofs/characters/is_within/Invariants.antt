use Rattle.std.proofs.Common.{◌≡◌, drop}
use Rattle.asn_meaning.specs.Judge.{is_within}
use Rattle.asn_judge.proofs.characters.is_within.Given as goal

abbrev pub invariant-loop-character : goal.invariant-loop-character
invariant-loop-character l = is_within l.set (drop l.character-index l.characters) ≡ is_within l.set l.characters
