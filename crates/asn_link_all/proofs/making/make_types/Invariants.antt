use Rattle.std.proofs.Common.{◌≡◌, ◌++◌, drop, map}
use Rattle.asn_link_all.specs.Made.{made_each}
use Rattle.asn_link_all.proofs.making.make_types.Given as goal

abbrev pub invariant-loop-i : goal.invariant-loop-i
invariant-loop-i l =
    l.made ++ made_each l.names.definitions.now l.limits.steps l.limits.levels l.limits.in_circles (map (λ d. d.now) (drop l.i l.definitions)) (drop l.i l.ways)
    ≡ made_each l.names.definitions.now l.limits.steps l.limits.levels l.limits.in_circles (map (λ d. d.now) l.definitions) l.ways
