use Rattle.asn_tree_notation.specs.Strings.{string_named}
use Rattle.asn_calls.proofs.OtherWords.{other}
use Rattle.asn_calls.proofs.strings.string_named.Goals as goal

pub returns-in_default : goal.returns-in_default
unfolding string_named
returns-in_default c =
    let p = c.in_default in
    rw (
      other p.not-NumericString,
      other p.not-VisibleString,
      other p.not-IA5String,
      other p.not-TeletexString,
      other p.not-VideotexString,
      other p.not-GraphicString,
      other p.not-GeneralString,
      other p.not-UniversalString,
      other p.not-UTF8String,
      other p.not-BMPString,
      other p.not-PrintableString,
    )
