use Rattle.std.proofs.Common.{◌≡◌}
use Rattle.asn_meaning_heads.specs.Places.{shown_place}
use Rattle.asn_link_values.specs.Choosing.{instances}
use Rattle.asn_link_values.proofs.tags.tag_brought.Given as goal

abbrev pub invariant-loop-left : goal.invariant-loop-left
invariant-loop-left l =
    (instances l.names.definitions.now l.steps l._left).of_tag (shown_place l.at).scope (shown_place l.at).ty
    ≡ (instances l.names.definitions.now l.steps l.levels).of_tag (shown_place l.place).scope (shown_place l.place).ty
