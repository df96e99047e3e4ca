-- Tags, and the walks that look for them.
use Rattle.std.specs.Prelude.{ℕ, ◌+◌, ◌<◌, ◌≤◌, List, length}
use Rattle.std.specs.Str.{IsCharBoundary}
use Rattle.asn_text.specs.Until.{Walker, until_and_not, until_either, until_unbalanced}
use Rattle.asn_text.specs.declared.until.Step.{Step}
use Rattle.asn_text.specs.declared.until.Step.TheVariants.{Stop, Pass}
use Rattle.asn_text.specs.declared.until.Sought.{Sought}
use Rattle.asn_text.specs.declared.until.Sought.TheVariants.{Either, Unbalanced, AndNot}

-- a tag is some characters
abbrev pub IsTag : List ℕ → Type 0
IsTag tag = (0 < length tag) × IsCharBoundary tag 0

abbrev pub AreTags : Sought → Type 0
AreTags (Either first second) = IsTag first.now × IsTag second.now
AreTags (Unbalanced opening closing) = IsTag opening.now × IsTag closing.now
AreTags (AndNot end excepted) = IsTag end.now × IsTag excepted.now

abbrev pub walker_of : Sought → Walker
walker_of (Either first second) = until_either first.now second.now
walker_of (Unbalanced opening closing) = until_unbalanced opening.now closing.now
walker_of (AndNot end excepted) = until_and_not end.now excepted.now

-- a step that stays within the text, and stops where a character begins
abbrev pub IsWithin : List ℕ → ℕ → Step → Type 0
IsWithin text i Stop = IsCharBoundary text i
IsWithin text i (Pass bytes open_tags) = (0 < bytes) × (i + bytes ≤ length text) × (open_tags ≤ i + bytes)
