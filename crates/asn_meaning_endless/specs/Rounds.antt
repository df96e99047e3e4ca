-- The names that are followed once round, where what is followed comes back to itself.
use Rattle.std.specs.Prelude.{◌≡◌, ◌⊎◌, ℕ, List, [], ◌∷◌, ◌++◌, None, Some}
use Rattle.asn_meaning.specs.Definitions.{Definitions}
use Rattle.asn_meaning.specs.Judge.{meaning}
use Rattle.asn_meaning.specs.Kinds.{kind_of}
use Rattle.asn_meaning.specs.Names.{IsHead, LeadsTo, lead}
use Rattle.asn_meaning.specs.Scopes.{Place, Target}
use Rattle.asn_needs.specs.Followed.{named_by}
use Rattle.asn_needs.specs.Sites.{Node}
use Rattle.asn_meaning_endless.specs.Endless.{Passes}
use Rattle.asn_meaning_endless.specs.Keys.{Key, choice_in, key}

-- it is one of these
abbrev pub Among : {A : Type 0} → List A → A → Type 0
Among [] y = ⊥
Among (x ∷ xs) y = (y ≡ x) ⊎ Among xs y

-- These are the names followed from a type up to where the goal is met, or to a head, where no dummy without an argument is asked for.
pub data Round (defs : Definitions) (goal : Key) : List Node → Place → Type 0 where
  -- the goal is met
  at_goal : {p : Place} → key p ≡ Some goal → Round defs goal [] p
  -- a head
  at_head : {p : Place} (n : ℕ) → lead defs (meaning defs n) p ≡ IsHead → Round defs goal [] p
  -- a name, a field, and a dummy with an argument
  at_name : {p : Place} {ys : List Node} (n : ℕ) (x : Target) → choice_in p.scope (kind_of p) ≡ None → lead defs (meaning defs n) p ≡ LeadsTo x →
      Round defs goal ys x.place → Round defs goal (named_by defs p.scope (kind_of p) ++ ys) p
  -- a selection that leads on
  at_selection : {p : Place} {zs ys : List Node} (n : ℕ) (x : Target) (c : Place) → choice_in p.scope (kind_of p) ≡ Some c →
      lead defs (meaning defs n) p ≡ LeadsTo x → Round defs goal zs c → Round defs goal ys x.place →
      Round defs goal (named_by defs p.scope (kind_of p) ++ zs ++ ys) p
  -- a selection from what comes back to the goal
  at_endless : {p : Place} {zs : List Node} (c : Place) → choice_in p.scope (kind_of p) ≡ Some c → Passes defs goal c → Round defs goal zs c →
      Round defs goal zs p
