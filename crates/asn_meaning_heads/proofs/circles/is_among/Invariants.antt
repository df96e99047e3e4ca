use Rattle.std.proofs.Common.{◌≡◌, drop}
use Rattle.std.specs.List.{list_any}
use Rattle.asn_meaning_heads.specs.Circles.{is_dummy_of}
use Rattle.asn_meaning_heads.proofs.circles.is_among.Given as goal

abbrev pub invariant-loop-dummy : goal.invariant-loop-dummy
invariant-loop-dummy l = list_any (is_dummy_of l.name) (drop l.dummy-index l.dummies) ≡ list_any (is_dummy_of l.name) l.dummies
