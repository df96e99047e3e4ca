-- What is asked of the parts of a tree: whether they fit.
use Rattle.asn_tree.specs.declared.types.ASN1Type.{ASN1Type}
use Rattle.asn_meaning.specs.Answers.{Answer}
use Rattle.asn_meaning.specs.Layers.{OptionLayer}
use Rattle.asn_meaning.specs.Meaning.{Meaning, Member}
use Rattle.asn_meaning.specs.Members.{member_place}
use Rattle.asn_meaning.specs.Scopes.{Scope}
use Rattle.asn_meaning.specs.Shapes.{option_place}
use Rattle.asn_meaning.specs.ValueTrees.{ValueTree}

abbrev pub member_fits : Meaning → Member → ValueTree → Answer
member_fits M m t = M.fits (member_place m) t

abbrev pub type_fits : Meaning → Scope → ASN1Type → ValueTree → Answer
type_fits M scope ty t = M.fits (record { scope = scope; ty = ty }) t

abbrev pub option_fits : Meaning → Scope → OptionLayer → ValueTree → Answer
option_fits M scope o t = M.fits (option_place scope o) t
