use Rattle.std.proofs.Common.{refl}
use Rattle.asn_link_forms.specs.declared.forms.Form.TheVariants.{Selection, ComponentsOf}
use Rattle.asn_link_forms.proofs.PlainFree.{plain_free}
use Rattle.asn_link_forms.proofs.laws.plain_is_free.Goals as goal

pub returns : goal.returns
returns c = λ defs ty plain. (plain_free Selection refl refl defs ty plain, plain_free ComponentsOf refl refl defs ty plain)
