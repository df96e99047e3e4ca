-- The names that a type passes on the way to its head.
use Rattle.std.specs.Prelude.{◌≡◌, ◌+◌, ℕ, zero, suc, List, [], ◌∷◌, map, Option, Some, None}
use Rattle.asn_tree.specs.declared.constraints.Constraint.{Constraint}
use Rattle.asn_meaning_heads.specs.declared.places.Target.{Target as LentTarget}
use Rattle.asn_meaning_heads.specs.Places.{shown_target}
use Rattle.asn_meaning.specs.Answers.{once}
use Rattle.asn_meaning.specs.Definitions.{Definitions}
use Rattle.asn_meaning.specs.Judge.{meaning}
use Rattle.asn_meaning.specs.Names.{Lead, IsHead, LeadsTo, IsLost, lead}
use Rattle.asn_meaning.specs.Scopes.{Place, Target}

abbrev pub shown_targets : List LentTarget → List Target
shown_targets targets = map shown_target targets

-- what is passed from a lead on, where this is what is passed from each place on
abbrev pub trail_by : (Place → Option (List Target)) → Lead → Option (List Target)
trail_by from IsHead = Some []
trail_by from (LeadsTo x) = once None (from x.place) (λ xs. Some (x ∷ xs))
trail_by from IsLost = None

-- Where the names lead that a type passes on the way to its head, in order; None where it has no head within so many steps.
abbrev pub trail : Definitions → ℕ → Place → Option (List Target)
trail defs zero p = None
trail defs (suc n) p = trail_by (trail defs n) (lead defs (meaning defs n) p)

-- the place behind so many targets on the way
abbrev pub place_at : Place → List Target → ℕ → Place
place_at p xs zero = p
place_at p [] (suc i) = p
place_at p (x ∷ xs) (suc i) = place_at x.place xs i

-- the constraints that come along behind that place; behind the first stand these
abbrev pub constraints_at : List Constraint → List Target → ℕ → List Constraint
constraints_at cs xs zero = cs
constraints_at cs [] (suc i) = cs
constraints_at cs (x ∷ xs) (suc i) = constraints_at x.constraints xs i

-- A type passes these targets on the way to its head, within so many steps and within all further ones.
pub record Passes (defs : Definitions) (steps : ℕ) (p : Place) (xs : List Target) : Type 0 where
  pub at : (m : ℕ) → trail defs (steps + m) p ≡ Some xs
