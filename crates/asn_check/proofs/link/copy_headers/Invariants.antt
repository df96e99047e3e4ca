use Rattle.std.proofs.Common.{◌≡◌, ◌++◌, drop, map}
use Rattle.asn_check.proofs.link.copy_headers.Given as goal

abbrev pub invariant-loop-item : goal.invariant-loop-item
invariant-loop-item l = l.headers ++ map (λ m. m.0) (drop l.item-index l.item-items) ≡ map (λ m. m.0) l.item-items
