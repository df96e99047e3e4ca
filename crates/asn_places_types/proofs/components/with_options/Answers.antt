use Rattle.std.proofs.Common.{◌≡◌, ◌<◌, ◌≤◌, ◌++◌, arith, length, map}
use Rattle.asn_places_types.specs.Sites.{shown_around, shown_sites}
use Rattle.asn_needs.specs.Sites.{each_of}
use Rattle.asn_needs.specs.PartsOfTypes.{option_sites}
use Rattle.asn_tree.specs.declared.types.ChoiceOption.{out-ChoiceOption}
use Rattle.asn_places_types.proofs.Adding.{each_next, each_done}
use Rattle.asn_places_types.proofs.components.with_options.Goals as goal

pub loop-option-preserved : goal.loop-option-preserved
loop-option-preserved c =
    let lt : c.loop-option.option-index < length c.args.options.now = omega arith in
    each_next (λ o. option_sites (shown_around c.args.around.now.value) (out-ChoiceOption o)) c.args.options.now c.loop-option.option-index c.option-item.result (shown_sites c.loop-option.sites) lt c.option-item.is c.loop-option.invariant c.in_ok-sites.ensures

pub returns : goal.returns
returns c =
    let le : length c.args.options.now ≤ c.loop-option.option-index = omega arith in
    each_done (λ o. option_sites (shown_around c.args.around.now.value) (out-ChoiceOption o)) c.args.options.now c.loop-option.option-index le c.loop-option.invariant
