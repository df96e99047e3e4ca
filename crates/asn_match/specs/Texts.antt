-- What a whole text comes to: its node, or what it lacks.
use Rattle.std.specs.Prelude.{ℕ, ◌≤◌, List, [], ◌∷◌, length}
use Rattle.asn_match.specs.declared.whole.WholeText.{WholeText}
use Rattle.asn_match.specs.declared.whole.WholeText.TheVariants.{Tree, Lacking}
use Rattle.asn_rules.specs.Derives.{Derives}
use Rattle.asn_rules.specs.Due.{Piece, IsDue}
use Rattle.asn_rules.specs.Expression.{Expression, rule}
use Rattle.asn_rules.specs.Valid.{IsValid, Fails}
use Rattle.asn_rules.specs.declared.names.TheConstants.{ASN_SPEC}

-- The text is one of the grammar, at a height of at most the depth, by way of the node; or it is none, and lacks this part of a
-- module, which is made of these pieces.
abbrev pub ComesTo : List Expression → List Piece → List ℕ → ℕ → WholeText → Type 0
ComesTo rules pieces text depth (Tree n) = ((j : ℕ) × Derives rules text (rule ASN_SPEC) 0 j (n ∷ [])) × IsValid rules text depth
ComesTo rules pieces text depth (Lacking d) = Fails rules text depth × IsDue rules text depth pieces 0 d.part d.module d.place × (d.module ≤ length text) × (d.place ≤ length text)
