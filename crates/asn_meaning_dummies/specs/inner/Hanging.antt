-- The next place on the way to a dummy without an argument.
use Rattle.std.specs.Prelude.{ℕ, List, Bool, true, false, Option, Some, None, if◌then◌else◌}
use Rattle.asn_meaning_dummies.specs.declared.hanging.Next.{Next as LentNext}
use Rattle.asn_meaning_dummies.specs.declared.hanging.Next.TheVariants as lent
use Rattle.asn_meaning_heads.specs.Places.{shown_place}
use Rattle.asn_meaning.specs.Definitions.{Definitions}
use Rattle.asn_meaning.specs.Kinds.{Kind, SelectionKind, kind_of}
use Rattle.asn_meaning.specs.Meaning.{Meaning}
use Rattle.asn_meaning.specs.Scopes.{Place}
use Rattle.asn_needs.specs.Dummies.{choice_at, hangs, names_free_at}

-- the name of the CHOICE of a selection
abbrev pub choice_name : Kind → Option (List ℕ)
choice_name (SelectionKind x) = Some x.choice_name
choice_name _ = None

-- whether the way ends at a dummy without an argument, or the place that it goes on at
pub data Next : Type 0 where
  Ends : Bool → Next
  GoesTo : Place → Next

abbrev pub shown_next : LentNext → Next
shown_next (lent.Ends b) = Ends b
shown_next (lent.GoesTo p) = GoesTo (shown_place p)

-- what holds of a place, where this tells what holds of the next
abbrev pub told_by : (Place → Bool) → Next → Bool
told_by f (Ends b) = b
told_by f (GoesTo p) = f p

abbrev pub choice_next : Option Place → Next
choice_next None = Ends false
choice_next (Some p) = GoesTo p

-- the next of a place that leads nowhere: its name is such a dummy, or the CHOICE of its selection may hang on one
abbrev pub lost_next : Place → Next
lost_next p = if names_free_at p.scope (kind_of p) then Ends true else choice_next (choice_at p.scope (kind_of p))

-- Whether a place hangs, as one word: it is not taken apart where a step more is spoken of.
unfoldable pub hung : Definitions → Meaning → ℕ → Place → Bool
hung = hangs
