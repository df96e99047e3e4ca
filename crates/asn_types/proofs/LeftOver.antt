-- Forms of types that hold nothing of types but constraints are what the other forms leave over.
use Rattle.std.proofs.Common.{◌≡◌, ℕ, List, Bool, true, false, ◌||◌, Some, sym, ap, ◌∙◌}
use Rattle.std.specs.Prelude.{nat_eq, if◌then◌else◌}
use Rattle.asn_rules.specs.declared.names.TheConstants.{CHOICE, EMBEDDED_PDV, ENUMERATED, EXTERNAL, NULL, SELECTION_TYPE_CHOICE, SEQUENCE, SEQUENCE_OF, SET, SET_OF}
use Rattle.asn_rules.specs.declared.node.Node.{Node}
use Rattle.asn_rules.specs.declared.node.Node.TheViews.{out-Node}
use Rattle.asn_tree.specs.declared.types.ASN1Type.TheVariants as ty
use Rattle.asn_types.specs.Choices.{choice_with}
use Rattle.asn_types.specs.Enumerations.{enumerated_with}
use Rattle.asn_types.specs.Forms.{constraints_behind, parts_of}
use Rattle.asn_types.specs.Reading.{form_of}
use Rattle.asn_types.specs.Types.{IsConstrained, IsType, constrained_form, is_constrained, is_other, selection_with, sequence_of_with, sequence_with, set_of_with, set_with}
use Rattle.asn_types.proofs.Equations.{form_is}

-- A form that is none of the ten with parts of their own holds nothing of types but constraints,
pub left_over : (text : List ℕ) (n : Node) → IsType text n → nat_eq (out-Node n).rule NULL ≡ false → nat_eq (out-Node n).rule SELECTION_TYPE_CHOICE ≡ false → nat_eq (out-Node n).rule SEQUENCE_OF ≡ false → nat_eq (out-Node n).rule SEQUENCE ≡ false → nat_eq (out-Node n).rule SET_OF ≡ false → nat_eq (out-Node n).rule SET ≡ false → nat_eq (out-Node n).rule EXTERNAL ≡ false → nat_eq (out-Node n).rule EMBEDDED_PDV ≡ false → nat_eq (out-Node n).rule CHOICE ≡ false → nat_eq (out-Node n).rule ENUMERATED ≡ false → IsConstrained text n
left_over text n t e0 e1 e2 e3 e4 e5 e6 e7 e8 e9 =
    let none : is_other (out-Node n).rule ≡ false = λ i. e0 i || e1 i || e2 i || e3 i || e4 i || e5 i || e6 i || e7 i || e8 i || e9 i in
    record { stands_by = t.stands_by; is_one = sym (ap (λ b. b || is_constrained (out-Node n).rule) none) ∙ t.is_one }

-- and is made with these.
pub left_over_is : (text : List ℕ) (n : Node) → nat_eq (out-Node n).rule NULL ≡ false → nat_eq (out-Node n).rule SELECTION_TYPE_CHOICE ≡ false → nat_eq (out-Node n).rule SEQUENCE_OF ≡ false → nat_eq (out-Node n).rule SEQUENCE ≡ false → nat_eq (out-Node n).rule SET_OF ≡ false → nat_eq (out-Node n).rule SET ≡ false → nat_eq (out-Node n).rule EXTERNAL ≡ false → nat_eq (out-Node n).rule EMBEDDED_PDV ≡ false → nat_eq (out-Node n).rule CHOICE ≡ false → nat_eq (out-Node n).rule ENUMERATED ≡ false → form_of text n ≡ constrained_form text n (constraints_behind text n)
left_over_is text n e0 e1 e2 e3 e4 e5 e6 e7 e8 e9 =
    let parts = parts_of text n in
    form_is text n
    ∙ (λ i. if e0 i then Some ty.Null else if e1 i then selection_with text n else if e2 i then sequence_of_with parts.element parts.constraints else if e3 i then sequence_with parts.body parts.constraints else if e4 i then set_of_with parts.element parts.constraints else if e5 i then set_with parts.body parts.constraints else if e6 i then Some ty.External else if e7 i then Some ty.EmbeddedPdv else if e8 i then choice_with n parts.options parts.additions else if e9 i then enumerated_with text n else constrained_form text n parts.constraints)
