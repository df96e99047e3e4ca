use Rattle.std.proofs.Common.{◌≡◌, ◌++◌, map, Some, sym, ap, ◌∙◌}
use Rattle.std.specs.Option.{option_map}
use Rattle.asn_meaning_heads.specs.Scopes.{shown, shown_argument}
use Rattle.asn_link_values.specs.Sets.{shown_set_member}
use Rattle.asn_link_values.specs.inner.Binding.{argument_bound}
use Rattle.asn_link_values.proofs.Opening.{opens}
use Rattle.asn_link_values.proofs.tables.+opening.Goals as goal

pub members_bound-returns-in_ok-more-in-Some : goal.members_bound-returns-in_ok-more-in-Some
members_bound-returns-in_ok-more-in-Some t c =
    let bound : argument_bound (shown c.args.scope.now) c.args.name.now ≡ Some (shown_argument c.in-Some.argument) =
    ap (argument_bound (shown c.args.scope.now)) (sym c.as_str.ensures) ∙ sym c.argument_bound.ensures.value ∙ ap (option_map shown_argument) c.in-Some.is in
    c.in_ok-more-in-Some.ensures
    ∙ ap (λ xs. map shown_set_member c.args.found ++ xs) (sym (opens (shown c.args.scope.now) c.args.name.now (shown_argument c.in-Some.argument) bound))
