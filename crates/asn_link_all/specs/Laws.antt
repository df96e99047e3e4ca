-- A law of what linking makes.
use Rattle.std.specs.Prelude.{◌≡◌, ◌≤◌, ℕ, suc, List, length}
use Rattle.std.specs.List.{AllZip}
use Rattle.asn_names_index.specs.Definitions.{Definitions}
use Rattle.asn_link_closed.specs.Laws.{IsMade}
use Rattle.asn_link_closed.specs.OwnInstances.{Eventually}
use Rattle.asn_link_all.specs.declared.ways.Way.{Way}
use Rattle.asn_link_all.specs.Made.{made_each}

-- The type that is made of a definition is its instance, from some number of levels on, and the definition is no template. One that
-- leads to a circle has no more steps than the others.
abbrev pub MadeAreInstances : Type 0
MadeAreInstances =
    (defs ds : Definitions) (ways : List Way) (n k c : ℕ) → c ≤ suc n → length ways ≡ length ds →
    Eventually (λ j. AllZip (IsMade defs (suc n) j) ds (made_each defs (suc n) k c ds ways))
