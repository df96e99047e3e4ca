use Rattle.std.proofs.Common.{◌≡◌, drop}
use Rattle.asn_link_forms.specs.Forms.{ends_in_value, last_behind}
use Rattle.asn_link_forms.proofs.fields.ends_in_value.Given as goal

abbrev pub invariant-loop-step : goal.invariant-loop-step
invariant-loop-step l = last_behind l.last (drop l.step-index l.path) ≡ ends_in_value l.path
