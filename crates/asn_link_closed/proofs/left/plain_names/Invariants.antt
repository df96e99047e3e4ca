use Rattle.std.proofs.Common.{◌≡◌, ◌++◌, drop, map}
use Rattle.asn_link_closed.specs.Lent.{shown_staying_names}
use Rattle.asn_link_closed.specs.Closed.{plain_names}
use Rattle.asn_link_closed.proofs.left.plain_names.Given as goal

abbrev pub invariant-loop-name : goal.invariant-loop-name
invariant-loop-name l = map (λ n. n.now) l.names ++ plain_names (shown_staying_names (drop l.name-index l.staying)) ≡ plain_names (shown_staying_names l.staying)
