use Rattle.std.proofs.Common.{◌≡◌, drop, map}
use Rattle.asn_meaning_unchanged.specs.Unchanged.{braced_items, literal, with_items}
use Rattle.asn_meaning_unchanged.proofs.literals.+literals.Given as goal

abbrev pub invariant-items-loop-part : goal.invariant-items-loop-part
invariant-items-loop-part l = with_items l.all (map (λ p. literal p.1) (drop l.part-index l.parts)) ≡ braced_items l.parts
