-- What is told of the definitions of a reading, and which of them linking gives as they are read.
use Rattle.std.specs.Prelude.{◌≡◌, ◌↔◌, ℕ, List, Bool, true, false, Option, Some, None}
use Rattle.std.specs.List.{AllZip}
use Rattle.asn_tree.specs.declared.definitions.ToplevelDefinition.{ToplevelDefinition}
use Rattle.asn_names.specs.declared.faults.Judgement.{Judgement}
use Rattle.asn_names.specs.declared.faults.Judgement.TheVariants.{NotJudged, Faultless, Faulty}
use Rattle.asn_names.specs.Faults.{IsFaulty, IsJudgement}
use Rattle.asn_names_index.specs.Definitions.{Definitions, last_named, name_of}

-- what is told of a name, by the definition that stands for it
abbrev pub IsJudgementOf : Definitions → List ℕ → Option ToplevelDefinition → Judgement → Type 0
IsJudgementOf defs name None judgement = judgement ≡ NotJudged
IsJudgementOf defs name (Some d) judgement = IsJudgement defs name d judgement

-- of each of these names
abbrev pub AreJudgements : Definitions → List (List ℕ) → List Judgement → Type 0
AreJudgements defs names judgements = AllZip (λ name judgement. IsJudgementOf defs name (last_named defs name) judgement) names judgements

-- a definition in which a fault stands at a place is given as it is read
abbrev pub is_withheld : Judgement → Bool
is_withheld NotJudged = false
is_withheld Faultless = false
is_withheld (Faulty fault) = true

-- Of definitions, each is told to be given as it is read exactly where a fault stands at a place of the one that stands for its name.
abbrev pub AreWithheld : Definitions → Definitions → List Bool → Type 0
AreWithheld defs ds withheld = AllZip (λ d b. (b ≡ true) ↔ IsFaulty defs (name_of d)) ds withheld
