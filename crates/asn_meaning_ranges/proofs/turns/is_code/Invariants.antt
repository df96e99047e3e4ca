use Rattle.std.proofs.Common.{◌≡◌, drop}
use Rattle.std.specs.Prelude.{pos}
use Rattle.std.specs.List.{list_any}
use Rattle.asn_meaning_ranges.specs.inner.Wides.{wide}
use Rattle.asn_meaning.specs.ValueTrees.{same_number}
use Rattle.asn_meaning_ranges.proofs.turns.is_code.Given as goal

abbrev pub invariant-loop-character : goal.invariant-loop-character
invariant-loop-character l =
    list_any (λ c. same_number (pos c) (wide l.number)) (drop l.character-index l.characters) ≡ list_any (λ c. same_number (pos c) (wide l.number)) l.characters
