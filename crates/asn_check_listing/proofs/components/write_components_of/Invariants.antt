use Rattle.std.proofs.Common.{◌-◌, length}
use Rattle.std.specs.List.{zip}
use Rattle.asn_check_listing.proofs.Here.{Kept}
use Rattle.asn_check_listing.proofs.components.write_components_of.Given as goal

abbrev pub invariant-loop-name : goal.invariant-loop-name
invariant-loop-name l = Kept l.additional l.number (zip l.names l.places) l.from l.initial.out l.first l.cursor l.out l.none

abbrev pub decreases-loop-name : goal.decreases-loop-name
decreases-loop-name l = length l.places - l.cursor
