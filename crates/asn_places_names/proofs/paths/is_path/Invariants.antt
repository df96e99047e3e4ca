use Rattle.std.proofs.Common.{◌≡◌, drop}
use Rattle.asn_needs.specs.Occurrences.{is_path}
use Rattle.asn_places_names.proofs.paths.is_path.Given as goal

abbrev pub invariant-loop-i : goal.invariant-loop-i
invariant-loop-i l = is_path (drop l.i l.name) ≡ is_path l.name
