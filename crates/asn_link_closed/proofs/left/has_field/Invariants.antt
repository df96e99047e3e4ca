use Rattle.std.proofs.Common.{◌≡◌, drop}
use Rattle.asn_link_closed.specs.Lent.{shown_staying_names}
use Rattle.asn_link_closed.specs.Closed.{has_field}
use Rattle.asn_link_closed.proofs.left.has_field.Given as goal

abbrev pub invariant-loop-name : goal.invariant-loop-name
invariant-loop-name l = has_field (shown_staying_names (drop l.name-index l.staying)) ≡ has_field (shown_staying_names l.staying)
