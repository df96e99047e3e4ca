use Rattle.std.proofs.Common.{◌≡◌, drop}
use Rattle.asn_meaning.specs.Members.{number_named}
use Rattle.asn_meaning_heads.proofs.items.number_named.Given as goal

abbrev pub invariant-loop-number : goal.invariant-loop-number
invariant-loop-number l = number_named (drop l.number-index l.numbers) l.name ≡ number_named l.numbers l.name
