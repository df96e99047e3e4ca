use Rattle.std.proofs.Common.{◌≡◌, drop, map}
use Rattle.std.specs.List.{list_any}
use Rattle.asn_names_circles.specs.Circles.{is_gone_to}
use Rattle.asn_names_circles.proofs.asking.is_any_gone_to.Given as goal

abbrev pub invariant-loop-dummy : goal.invariant-loop-dummy
invariant-loop-dummy l = list_any (is_gone_to (map (λ n. n.now) l.names)) (drop l.dummy-index l.dummies) ≡ list_any (is_gone_to (map (λ n. n.now) l.names)) l.dummies
