-- The answer of meaning that an answer of the code stands for.
use Rattle.asn_meaning_shapes.specs.declared.answers.Answer.{Answer as Said}
use Rattle.asn_meaning_shapes.specs.declared.answers.Answer.TheVariants as said
use Rattle.asn_meaning.specs.Answers.{Answer, Yes, No, Unknown}

abbrev pub known : Said → Answer
known said.Yes = Yes
known said.No = No
known said.Unknown = Unknown
