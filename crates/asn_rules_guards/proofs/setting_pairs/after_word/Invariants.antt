use Rattle.std.proofs.Common.{◌≡◌, length}
use Rattle.asn_rules_guards.specs.Guards.{bare}
use Rattle.asn_rules_guards.specs.inner.Sizes.{behind_word}
use Rattle.asn_rules_guards.proofs.setting_pairs.after_word.Given as goal

abbrev pub invariant-loop-byte : goal.invariant-loop-byte
invariant-loop-byte l = behind_word l.word (bare l.text) ≡ behind_word l.left (bare l.rest)

abbrev pub decreases-loop-byte : goal.decreases-loop-byte
decreases-loop-byte l = length l.rest
