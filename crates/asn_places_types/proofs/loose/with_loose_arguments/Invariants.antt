use Rattle.std.proofs.Common.{◌≡◌, ◌++◌, drop, map}
use Rattle.asn_places_types.specs.Sites.{shown_around, shown_sites}
use Rattle.asn_needs.specs.Sites.{LooseArgument, beside}
use Rattle.asn_places_types.proofs.loose.with_loose_arguments.Given as goal

abbrev pub invariant-loop-argument : goal.invariant-loop-argument
invariant-loop-argument l = shown_sites l.sites ++ map (λ a. beside (shown_around l.around.value) (LooseArgument a)) (drop l.argument-index l.arguments) ≡ shown_sites l.initial.sites ++ map (λ a. beside (shown_around l.around.value) (LooseArgument a)) l.arguments
