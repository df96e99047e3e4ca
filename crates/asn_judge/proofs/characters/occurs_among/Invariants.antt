use Rattle.std.proofs.Common.{◌≡◌, drop}
use Rattle.std.specs.List.{list_any}
use Rattle.std.specs.Prelude.{[], ◌∷◌}
use Rattle.std.specs.Str.{bytes_eq}
use Rattle.asn_judge.proofs.characters.occurs_among.Given as goal

abbrev pub invariant-loop-one : goal.invariant-loop-one
invariant-loop-one l = list_any (λ x. bytes_eq (x ∷ []) (l.character ∷ [])) (drop l.one-index l.characters) ≡ list_any (λ x. bytes_eq (x ∷ []) (l.character ∷ [])) l.characters
