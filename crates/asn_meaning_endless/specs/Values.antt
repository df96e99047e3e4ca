-- Values whose trees are asked for again while they are looked for.
use Rattle.std.specs.Prelude.{◌≡◌, ℕ, suc}
use Rattle.asn_meaning.specs.Answers.{Denoted}
use Rattle.asn_meaning.specs.Definitions.{Definitions}
use Rattle.asn_meaning.specs.Denotes.{Read, read_denoted}
use Rattle.asn_meaning.specs.Judge.{meaning}
use Rattle.asn_meaning.specs.ValueTrees.{ValueTree}

-- The first value denotes a tree only where the second does, one step before.
abbrev pub AsksForTree : Definitions → Read → Read → Type 0
AsksForTree defs r s =
    (n : ℕ) (t : ValueTree) → read_denoted (meaning defs (suc n)) r ≡ Denoted t → (u : ValueTree) × (read_denoted (meaning defs n) s ≡ Denoted u)

-- so it is, in one turn or more
pub data AsksOn (defs : Definitions) (r : Read) : Read → Type 0 where
  asked_once : {s : Read} → AsksForTree defs r s → AsksOn defs r s
  asked_further : {s u : Read} → AsksOn defs r s → AsksForTree defs s u → AsksOn defs r u
