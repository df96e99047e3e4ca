use Rattle.std.proofs.Common.{sym, ap, ◌∙◌}
use Rattle.asn_meaning_heads.specs.Objects.{shown_given}
use Rattle.asn_needs.specs.Missing.{is_type_field, is_value_field}
use Rattle.asn_tree.specs.declared.objects.InformationObjectField.{out-InformationObjectField}
use Rattle.asn_faults_names.specs.inner.Wanting.{wanted_field}
use Rattle.asn_faults_names.proofs.Giving.{given_type, given_value, given_set}
use Rattle.asn_faults_names.proofs.objects.is_wanted.Goals as goal

pub returns-in-Type-wanted : goal.returns-in-Type-wanted
returns-in-Type-wanted c =
    sym (ap (λ w. wanted_field w (out-InformationObjectField (shown_given c.args.field))) c.in-Type-wanted.is ∙ given_type is_type_field c.args.field c.in-Type.field-0 c.in-Type.is)

pub returns-in-Value-wanted : goal.returns-in-Value-wanted
returns-in-Value-wanted c =
    sym (ap (λ w. wanted_field w (out-InformationObjectField (shown_given c.args.field))) c.in-Value-wanted.is ∙ given_type is_value_field c.args.field c.in-Type.field-0 c.in-Type.is)

pub returns-in-Type-wanted-2 : goal.returns-in-Type-wanted-2
returns-in-Type-wanted-2 c =
    sym (ap (λ w. wanted_field w (out-InformationObjectField (shown_given c.args.field))) c.in-Type-wanted-2.is ∙ given_value is_type_field c.args.field c.in-Value.field-0 c.in-Value.is)

pub returns-in-Value-wanted-2 : goal.returns-in-Value-wanted-2
returns-in-Value-wanted-2 c =
    sym (ap (λ w. wanted_field w (out-InformationObjectField (shown_given c.args.field))) c.in-Value-wanted-2.is ∙ given_value is_value_field c.args.field c.in-Value.field-0 c.in-Value.is)

pub returns-in-Type-wanted-3 : goal.returns-in-Type-wanted-3
returns-in-Type-wanted-3 c =
    sym (ap (λ w. wanted_field w (out-InformationObjectField (shown_given c.args.field))) c.in-Type-wanted-3.is ∙ given_set is_type_field c.args.field c.in-Set.field-0 c.in-Set.is)

pub returns-in-Value-wanted-3 : goal.returns-in-Value-wanted-3
returns-in-Value-wanted-3 c =
    sym (ap (λ w. wanted_field w (out-InformationObjectField (shown_given c.args.field))) c.in-Value-wanted-3.is ∙ given_set is_value_field c.args.field c.in-Set.field-0 c.in-Set.is)
