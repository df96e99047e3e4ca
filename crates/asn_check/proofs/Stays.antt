-- Linking keeps the meaning of a reading.
use Rattle.asn_check.specs.KeptMeaning.{LinkingKeepsMeaning}
use Rattle.asn_link.specs.Laws.{CleanMeanTheSame}
use Rattle.asn_meaning.specs.Laws.{RetaggedTypesMeanTheSame}
use Rattle.asn_names.specs.Definitions.{definitions_of}
use Rattle.asn_names.specs.Given.{given_definitions}
use Rattle.asn_names.specs.Laws.{GivenDifferInTags}

-- from the reading to the given definitions, and from these to the linked ones
pub keeps : GivenDifferInTags → RetaggedTypesMeanTheSame → CleanMeanTheSame → LinkingKeepsMeaning
keeps differ retagged same reading linking name d is clean =
    let r = retagged (definitions_of reading) (given_definitions reading) (differ reading) name d is in
    let m = same (given_definitions reading) linking name r.0 clean r.1 in
    (m.0, m.1, m.3, λ t. (λ h. (m.4 t).0.0 ((r.4 t).0 h), λ h. (r.4 t).1 ((m.4 t).0.1 h)))
