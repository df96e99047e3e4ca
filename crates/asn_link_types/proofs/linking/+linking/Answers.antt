use Rattle.std.proofs.Common.{◌+◌, ◌<◌, ◌≡◌, ◌≤◌, ◌∙◌, Some, ap, arith, drop, length, refl, rules, sym, true}
use Rattle.std.specs.Option.{option_map}
use Rattle.asn_meaning_heads.specs.Kinds.{shown_type}
use Rattle.asn_meaning_heads.specs.Places.{shown_place}
use Rattle.asn_meaning_heads.specs.Scopes.{shown}
use Rattle.asn_link_instance.specs.Subjects.{traversed}
use Rattle.asn_link_types.specs.inner.Parts.{listed_on, member_at, option_at}
use Rattle.asn_link_types.proofs.Counting.{from, longer, member_next}
use Rattle.asn_link_types.proofs.Gathering.{constraints_headed, followed, no_option_made, traversed_done, traversed_lost}
use Rattle.asn_link_types.proofs.Layers.{field_kept, identifier_stays, by_cases, inner_found, integer_stays, is_leaf, leaf_as, leaf_stands, range_part, text_stays}
use Rattle.asn_link_types.proofs.Levels.{element_at, set_at, type_at}
use Rattle.asn_meaning.specs.Names.{Open, class_field_type}
use Rattle.asn_link_values.specs.Subjects.{shown_subject}
use Rattle.asn_meaning_shapes.specs.Members.{shown_member}
use Rattle.asn_tree.specs.declared.types.ASN1Type.{out-ASN1Type}
use Rattle.asn_tree.specs.declared.types.ASN1Type.TheVariants as type_of_kind
use Rattle.asn_tree.specs.declared.types.SequenceOrSetMember.{out-SequenceOrSetMember}
use Rattle.asn_tree.specs.declared.types.ChoiceOption.{out-ChoiceOption}
use Rattle.asn_link_types.proofs.linking.+linking.Goals as goal

pub types::instance_of_type-returns : goal.types::instance_of_type-returns
types::instance_of_type-returns t c =
    type_at c.args.names.now.definitions.now c.args.steps c.args.levels c.args.down (shown_place c.args.place.now).scope (shown_place c.args.place.now).ty c.in_ok-made.made (omega arith) (c.in_ok-made.ensures)

pub types::type_instance-returns-in-Utf8String : goal.types::type_instance-returns-in-Utf8String
types::type_instance-returns-in-Utf8String t c =
    text_stays c.args.names.now.definitions.now c.args.steps c.args.levels c.args.down (shown_place c.args.place.now).scope (shown_place c.args.place.now).ty (shown_place c.args.place.now).ty _
    (ap shown_type c.in-Utf8String.is) c.utf8_string.ensures

pub types::type_instance-returns-in-ObjectIdentifier : goal.types::type_instance-returns-in-ObjectIdentifier
types::type_instance-returns-in-ObjectIdentifier t c =
    identifier_stays c.args.names.now.definitions.now c.args.steps c.args.levels c.args.down (shown_place c.args.place.now).scope (shown_place c.args.place.now).ty (shown_place c.args.place.now).ty _
    (ap shown_type c.in-ObjectIdentifier.is) c.object_identifier.ensures

pub types::type_instance-returns-in_ok-made-in-Integer : goal.types::type_instance-returns-in_ok-made-in-Integer
types::type_instance-returns-in_ok-made-in-Integer t c =
    integer_stays c.args.names.now.definitions.now c.args.steps c.args.levels c.args.down (shown_place c.args.place.now).scope (shown_place c.args.place.now).ty _ (shown_place c.args.place.now).ty _
    (ap shown_type c.in-Integer.is) c.in_ok-made-in-Integer.ensures

pub members::of_members-loop-member-preserved : goal.members::of_members-loop-member-preserved
members::of_members-loop-member-preserved t c =
    let defs = c.args.names.now.definitions.now in
    let n = c.args.steps in
    let k = c.args.levels in
    let marker = c.args.marker in
    let ms = c.args.members.now in
    let i = c.loop-member.member-index in
    let made = c.loop-member.made in
    let one = c.in-Some.one in
    let lt : i < length ms = omega arith in
    let is =
    sym (ap (option_map out-SequenceOrSetMember) c.in-Some.is)
    ∙ c.in_ok-one.ensures
    ∙ ap (λ j. member_at defs n k marker j (shown_member c.member-item.result)) (c.len-number.ensures ∙ c.loop-member.invariant.0)
    in (
      ap length c.in_ok-add.ensures.ok ∙ longer made one ∙ ap (λ j. j + 1) c.loop-member.invariant.0,
      ap (λ xs. followed xs (from defs n k marker (i + 1) (drop (i + 1) ms))) c.in_ok-add.ensures.ok
          ∙ member_next defs n k marker ms i c.member-item.result made one lt c.member-item.is is
          ∙ c.loop-member.invariant.1,
    )

pub members::of_options-returns-in_default : goal.members::of_options-returns-in_default
members::of_options-returns-in_default t c =
    let lt : c.loop-option.option-index < length c.args.options.now = omega arith in
    sym (traversed_lost (option_at c.args.names.now.definitions.now c.args.steps c.args.levels (shown c.args.scope.now)) c.args.options.now c.loop-option.option-index c.option-item.result c.loop-option.made
    lt c.option-item.is
    (no_option_made c.args.names.now.definitions.now c.args.steps c.args.levels (shown c.args.scope.now) c.option-item.result (sym (ap (option_map out-ChoiceOption) c.in_default.is) ∙ c.in_ok-one.ensures)))
    ∙ c.loop-option.invariant

pub members::of_options-returns : goal.members::of_options-returns
members::of_options-returns t c =
    let le : length c.args.options.now ≤ c.loop-option.option-index = omega arith in
    sym (traversed_done (option_at c.args.names.now.definitions.now c.args.steps c.args.levels (shown c.args.scope.now)) c.args.options.now c.loop-option.option-index c.loop-option.made le)
    ∙ c.loop-option.invariant

pub constraints::of_constraints-returns : goal.constraints::of_constraints-returns
constraints::of_constraints-returns t c =
    c.in_ok-made.ensures
    ∙ sym (constraints_headed c.args.names.now.definitions.now c.args.steps c.args.levels (shown c.args.scope.now) (shown_place c.args.place.now) (shown_place c.in-Some.head) c.args.constraints.now
    (sym (ap (option_map shown_place) c.in-Some.is) ∙ c.in_ok-head.ensures))

pub constraints::inner_on-returns : goal.constraints::inner_on-returns
constraints::inner_on-returns t c =
    c.inner_element.ensures
    ∙ inner_found c.args.names.now.definitions.now c.args.steps c.args.levels (shown c.args.scope.now) (shown_place c.args.head.now) c.args.inner.now c.in_ok-made.made
    (c.in_ok-made.ensures
    ∙ ap (traversed (listed_on c.args.names.now.definitions.now c.args.steps c.args.levels (shown c.args.scope.now) (shown_place c.args.head.now))) c.as_slice-written.ensures)

pub elements::of_set-returns : goal.elements::of_set-returns
elements::of_set-returns t c =
    set_at c.args.names.now.definitions.now c.args.steps c.args.levels (shown c.args.scope.now) (shown_subject c.args.subject) c.args.set.now c.in_ok-made.made (omega arith) (c.in_ok-made.ensures)

pub elements::of_element-returns : goal.elements::of_element-returns
elements::of_element-returns t c =
    element_at c.args.names.now.definitions.now c.args.steps c.args.levels (shown c.args.scope.now) (shown_subject c.args.subject) c.args.element.now c.in_ok-made.made (omega arith) (c.in_ok-made.ensures)

pub elements::element_instance-returns-in_ok-made-in-ValueRange : goal.elements::element_instance-returns-in_ok-made-in-ValueRange
elements::element_instance-returns-in_ok-made-in-ValueRange t c =
    c.in_ok-made-in-ValueRange.ensures
    ∙ sym (range_part c.args.names.now.definitions.now c.args.steps c.args.levels (shown c.args.scope.now) (shown_subject c.args.subject) c.args.element.now _ _ _ _ _ c.in-ValueRange.is)

pub types::field_instance-returns-in_ok-made-in-Some-Open : goal.types::field_instance-returns-in_ok-made-in-Some-Open
types::field_instance-returns-in_ok-made-in-Some-Open t c =
    let found : class_field_type c.args.names.now.definitions.now (shown c.args.place.now.scope) c.args.layer.now ≡ Some Open = search rules in
    c.in_ok-made-in-Some-Open.ensures
    ∙ sym (field_kept c.args.names.now.definitions.now c.args.steps c.args.levels c.args.down (shown c.args.place.now.scope) (shown_type c.args.place.now.ty) c.args.ty.now c.args.layer.now
    (class_field_type c.args.names.now.definitions.now (shown c.args.place.now.scope) c.args.layer.now) c.requires.is found)

pub types::written_instance-returns-in_ok-made-in-Null : goal.types::written_instance-returns-in_ok-made-in-Null
types::written_instance-returns-in_ok-made-in-Null t c =
    let leaf : is_leaf (out-ASN1Type c.args.ty.now) ≡ true =
    by_cases (λ e. leaf_as _ type_of_kind.Null _ e type_of_kind.outs-Null refl)
    (by_cases (λ p. leaf_as _ (type_of_kind.Boolean p.0) _ p.1 (type_of_kind.outs-Boolean p.0) refl)
    (by_cases (λ p. leaf_as _ (type_of_kind.Integer p.0) _ p.1 (type_of_kind.outs-Integer p.0) refl)
    (by_cases (λ p. leaf_as _ (type_of_kind.Real p.0) _ p.1 (type_of_kind.outs-Real p.0) refl)
    (by_cases (λ p. leaf_as _ (type_of_kind.BitString p.0) _ p.1 (type_of_kind.outs-BitString p.0) refl)
    (by_cases (λ p. leaf_as _ (type_of_kind.OctetString p.0) _ p.1 (type_of_kind.outs-OctetString p.0) refl)
    (by_cases (λ p. leaf_as _ (type_of_kind.CharacterString p.0) _ p.1 (type_of_kind.outs-CharacterString p.0) refl)
    (by_cases (λ p. leaf_as _ (type_of_kind.Enumerated p.0) _ p.1 (type_of_kind.outs-Enumerated p.0) refl)
    (by_cases (λ p. leaf_as _ (type_of_kind.Time p.0) _ p.1 (type_of_kind.outs-Time p.0) refl)
    (by_cases (λ p. leaf_as _ (type_of_kind.GeneralizedTime p.0) _ p.1 (type_of_kind.outs-GeneralizedTime p.0) refl)
    (by_cases (λ p. leaf_as _ (type_of_kind.UTCTime p.0) _ p.1 (type_of_kind.outs-UTCTime p.0) refl)
    (by_cases (λ p. leaf_as _ (type_of_kind.ObjectIdentifier p.0) _ p.1 (type_of_kind.outs-ObjectIdentifier p.0) refl)
    (by_cases (λ e. leaf_as _ type_of_kind.EmbeddedPdv _ e type_of_kind.outs-EmbeddedPdv refl)
    (λ e. leaf_as _ type_of_kind.External _ e type_of_kind.outs-External refl))))))))))))) c.in-Null.is
    in
    c.in_ok-made-in-Null.ensures
    ∙ sym (leaf_stands c.args.names.now.definitions.now c.args.steps c.args.levels c.args.down (shown c.args.place.now.scope) (shown_type c.args.place.now.ty) (out-ASN1Type c.args.ty.now) leaf)
