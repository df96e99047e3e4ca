use Rattle.std.proofs.Common.{◌≡◌, drop}
use Rattle.std.specs.List.{list_any}
use Rattle.asn_needs.specs.Occurrences.{lacks_definition}
use Rattle.asn_places_names.specs.Occurrences.{shown_occurrences}
use Rattle.asn_faults_names.proofs.places.lack_definitions.Given as goal

abbrev pub invariant-loop-occurrence : goal.invariant-loop-occurrence
invariant-loop-occurrence l =
    list_any (lacks_definition l.names.definitions.now) (shown_occurrences (drop l.occurrence-index l.occurrences)) ≡ list_any (lacks_definition l.names.definitions.now) (shown_occurrences l.occurrences)
