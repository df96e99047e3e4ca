-- The number of meaning that one denoted for the code stands for.
use Rattle.std.specs.Prelude.{ℤ}
use Rattle.asn_meaning_values.specs.declared.denotation.Denotation.{Denotation as OwnDenotation}
use Rattle.asn_meaning_values.specs.declared.denotation.Denotation.TheVariants as own
use Rattle.asn_meaning.specs.Answers.{Denotation, Denoted, Nothing, Unsure}

abbrev pub shown_end : OwnDenotation ℤ → Denotation ℤ
shown_end (own.Denoted i) = Denoted i
shown_end own.Nothing = Nothing
shown_end own.Unsure = Unsure
