use Rattle.std.proofs.Common.{◌≡◌, ◌+◌, ℕ, drop}
use Rattle.std.specs.List.{list_any}
use Rattle.asn_needs.specs.Missing.{unsupported}
use Rattle.asn_needs.specs.Sites.{seen}
use Rattle.asn_places_types.specs.Sites.{shown_sites}
use Rattle.asn_faults.proofs.faults.has_unlinked_place.Given as goal

abbrev pub invariant-loop-site : goal.invariant-loop-site
invariant-loop-site l =
    (m : ℕ) → list_any (unsupported (seen l.names.definitions.now (l.steps + m))) (shown_sites (drop l.site-index l.sites)) ≡ list_any (unsupported (seen l.names.definitions.now (l.steps + m))) (shown_sites l.sites)
