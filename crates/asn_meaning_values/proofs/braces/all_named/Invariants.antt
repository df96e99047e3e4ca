use Rattle.std.proofs.Common.{◌≡◌, drop}
use Rattle.asn_meaning_values.specs.Braces.{shown_named_values}
use Rattle.asn_meaning_values.proofs.Listing.{before}
use Rattle.asn_meaning.specs.Braces.{all_named}
use Rattle.asn_meaning_values.proofs.braces.all_named.Given as goal

abbrev pub invariant-loop-item : goal.invariant-loop-item
invariant-loop-item l = before (shown_named_values l.fields) (all_named (drop l.item-index l.items)) ≡ all_named l.items
