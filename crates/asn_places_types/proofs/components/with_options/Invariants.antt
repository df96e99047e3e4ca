use Rattle.std.proofs.Common.{◌≡◌, ◌++◌, drop, map}
use Rattle.asn_places_types.specs.Sites.{shown_around, shown_sites}
use Rattle.asn_needs.specs.Sites.{each_of}
use Rattle.asn_needs.specs.PartsOfTypes.{option_sites}
use Rattle.asn_tree.specs.declared.types.ChoiceOption.{out-ChoiceOption}
use Rattle.asn_places_types.proofs.components.with_options.Given as goal

abbrev pub invariant-loop-option : goal.invariant-loop-option
invariant-loop-option l = shown_sites l.sites ++ each_of (λ o. option_sites (shown_around l.around.value) (out-ChoiceOption o)) (drop l.option-index l.options) ≡ shown_sites l.initial.sites ++ each_of (λ o. option_sites (shown_around l.around.value) (out-ChoiceOption o)) l.options
