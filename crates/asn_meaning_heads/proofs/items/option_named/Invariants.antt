use Rattle.std.proofs.Common.{◌≡◌, drop}
use Rattle.asn_meaning.specs.Names.{option_named}
use Rattle.asn_meaning_heads.proofs.items.option_named.Given as goal

abbrev pub invariant-loop-option : goal.invariant-loop-option
invariant-loop-option l = option_named (drop l.option-index l.options) l.name ≡ option_named l.options l.name
