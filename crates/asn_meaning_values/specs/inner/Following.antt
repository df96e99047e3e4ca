-- Names of values that are followed one after the other.
use Rattle.std.specs.Prelude.{ℕ, ◌+◌, List, [], ◌∷◌}
use Rattle.asn_meaning_values.specs.declared.following.Next.{Next}
use Rattle.asn_meaning_values.specs.declared.following.Next.TheVariants as lent
use Rattle.asn_meaning_values.specs.declared.following.Wanted.{Wanted}
use Rattle.asn_meaning_values.specs.Denotation.{shown_denotation}
use Rattle.asn_meaning_values.specs.inner.Reading.{shown_read}
use Rattle.asn_meaning_heads.specs.Places.{shown_place}
use Rattle.asn_meaning.specs.Answers.{Denotation}
use Rattle.asn_meaning.specs.Definitions.{Definitions}
use Rattle.asn_meaning.specs.Denotes.{read_denoted, shaped}
use Rattle.asn_meaning.specs.Judge.{meaning}
use Rattle.asn_meaning.specs.Meaning.{Meaning}
use Rattle.asn_meaning.specs.ValueTrees.{ValueTree}

-- what is denoted where this is what is known, or what is named
abbrev pub next_denoted : Meaning → Next → Denotation ValueTree
next_denoted M (lent.Known d) = shown_denotation d
next_denoted M (lent.Further head r) = shaped M (shown_place head) (read_denoted M (shown_read r))

-- what is denoted, where it has all these shapes, the last first; each is known within its steps and so many more
abbrev pub shaped_by : Definitions → ℕ → List Wanted → Denotation ValueTree → Denotation ValueTree
shaped_by defs m [] d = d
shaped_by defs m (w ∷ ws) d = shaped (meaning defs (w.steps + m)) (shown_place w.head) (shaped_by defs m ws d)
