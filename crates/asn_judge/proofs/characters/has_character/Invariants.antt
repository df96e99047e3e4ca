use Rattle.std.proofs.Common.{◌≡◌, drop, nat_eq}
use Rattle.std.specs.List.{list_any}
use Rattle.asn_judge.proofs.characters.has_character.Given as goal

abbrev pub invariant-loop-one : goal.invariant-loop-one
invariant-loop-one l = list_any (nat_eq l.character) (drop l.one-index l.set) ≡ list_any (nat_eq l.character) l.set
