use Rattle.std.proofs.Common.{◌≡◌, drop, is_some}
use Rattle.std.specs.List.{list_all}
use Rattle.asn_meaning_values.specs.Braces.{shown_named_values}
use Rattle.asn_meaning.specs.Members.{member_named}
use Rattle.asn_meaning_shapes.specs.Members.{shown_members}
use Rattle.asn_places_values.proofs.fields.are_members.Given as goal

abbrev pub invariant-loop-field : goal.invariant-loop-field
invariant-loop-field l =
    list_all (λ f. is_some (member_named (shown_members l.members) f.0)) (shown_named_values (drop l.field-index l.fields))
    ≡ list_all (λ f. is_some (member_named (shown_members l.members) f.0)) (shown_named_values l.fields)
