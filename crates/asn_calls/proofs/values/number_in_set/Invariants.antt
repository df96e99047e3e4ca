use Rattle.std.proofs.Common.{◌≡◌, pos, nat_eq, Some, if◌then◌else◌}
use Rattle.std.specs.List.{fold}
use Rattle.asn_calls.specs.Values.{lesser_of, number_in_set}
use Rattle.asn_calls.proofs.values.number_in_set.Given as goal

abbrev pub invariant-loop-number : goal.invariant-loop-number
invariant-loop-number l =
    fold (λ least e. if nat_eq e.1 l.character then Some (lesser_of least (pos e.0)) else least) l.least l.number-iterator ≡ number_in_set l.character l.set.entries
