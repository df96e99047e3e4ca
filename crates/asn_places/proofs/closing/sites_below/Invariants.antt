use Rattle.std.proofs.Common.{◌+◌, ℕ}
use Rattle.asn_needs.specs.Sites.{seen}
use Rattle.asn_places_types.specs.Sites.{shown_sites}
use Rattle.asn_places.proofs.Reaching.{Reached}
use Rattle.asn_places.proofs.closing.sites_below.Given as goal

abbrev pub invariant-loop-i : goal.invariant-loop-i
invariant-loop-i l = (m : ℕ) → Reached (seen l.names.definitions.now (l.steps + m)) (shown_sites l.initial.sites) l.i l.sites
