use Rattle.std.proofs.Common.{◌≡◌, drop}
use Rattle.asn_meaning_values.specs.Braces.{shown_values}
use Rattle.asn_meaning_values.proofs.Listing.{before}
use Rattle.asn_meaning.specs.Braces.{all_unnamed}
use Rattle.asn_meaning_values.proofs.braces.all_unnamed.Given as goal

abbrev pub invariant-loop-item : goal.invariant-loop-item
invariant-loop-item l = before (shown_values l.values) (all_unnamed (drop l.item-index l.items)) ≡ all_unnamed l.items
