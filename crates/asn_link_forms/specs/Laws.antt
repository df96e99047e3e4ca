-- Laws of the forms.
use Rattle.std.specs.Prelude.{◌≡◌, false}
use Rattle.asn_tree.specs.declared.types.ASN1Type.{ASN1Type}
use Rattle.asn_meaning.specs.Definitions.{Definitions}
use Rattle.asn_meaning.specs.Plain.{IsPlain}
use Rattle.asn_link_forms.specs.Forms.{stands_outside}
use Rattle.asn_link_forms.specs.declared.forms.Form.TheVariants.{Selection, ComponentsOf}

-- In a type in plain form, over any definitions, stands no selection and no COMPONENTS OF outside contents and tables.
abbrev pub PlainIsFree : Type 0
PlainIsFree = (defs : Definitions) (ty : ASN1Type) → IsPlain defs ty → (stands_outside Selection ty ≡ false) × (stands_outside ComponentsOf ty ≡ false)
