use Rattle.std.proofs.Common.{◌+◌, ap, ◌∙◌, pos, zero-add}
use Rattle.std.specs.Prelude.{neg_ℤ, ◌-ℤ◌}
use Rattle.std.proofs.Math.IntN.{+ℤ_idl}
use Rattle.asn_rules_guards.specs.Guards.{fitting}
use Rattle.asn_rules_guards.proofs.Numbers.{fitting_is}
use Rattle.asn_rules_guards.proofs.guards.signed.Goals as goal

pub returns-in-Minus : goal.returns-in-Minus
returns-in-Minus c = rw c.in-Minus.is (fitting_is (pos 0 -ℤ pos c.args.size) c.checked_sub_unsigned.result c.checked_sub_unsigned.ensures ∙ ap (fitting 127) (+ℤ_idl (neg_ℤ (pos c.args.size))))

pub returns-in-Plus : goal.returns-in-Plus
returns-in-Plus c = rw c.in-Plus.is (fitting_is (pos (0 + c.args.size)) c.checked_add_unsigned.result c.checked_add_unsigned.ensures ∙ ap (λ n. fitting 127 (pos n)) (zero-add c.args.size))
