-- What comes back to itself.
use Rattle.std.specs.Prelude.{◌≡◌, ℕ, List, Bool, None, Some}
use Rattle.asn_meaning.specs.Accepts.{place}
use Rattle.asn_meaning.specs.Definitions.{Definitions}
use Rattle.asn_meaning.specs.Judge.{meaning}
use Rattle.asn_meaning.specs.Kinds.{kind_of}
use Rattle.asn_meaning.specs.Layers.{StructLayer}
use Rattle.asn_meaning.specs.Meaning.{Meaning}
use Rattle.asn_meaning.specs.Members.{components_of, members_at, struct_of}
use Rattle.asn_meaning.specs.Names.{IsHead, LeadsTo, lead, plain_name}
use Rattle.asn_meaning.specs.Scopes.{Scope, Place, Target}
use Rattle.asn_meaning_endless.specs.Keys.{Key, behind, choice_in, key}

-- Who looks for the head of a type passes this: it is what the type itself goes by; it is passed on the way to the CHOICE of a selection,
-- whose head is asked for first; or it is passed from where the type leads.
pub data Passes (defs : Definitions) (goal : Key) : Place → Type 0 where
  here : {p : Place} → key p ≡ Some goal → Passes defs goal p
  for_choice : {p : Place} (c : Place) → choice_in p.scope (kind_of p) ≡ Some c → Passes defs goal c → Passes defs goal p
  onward : {p : Place} (n : ℕ) (x : Target) → lead defs (meaning defs n) p ≡ LeadsTo x → Passes defs goal x.place → Passes defs goal p

-- It is passed on the way from the type behind it, where nothing is known of a template's arguments.
pub record ComesBack (defs : Definitions) (goal : Key) : Type 0 where
  pub first : Place
  pub begins : behind defs goal ≡ Some first
  pub back : Passes defs goal first

-- ---- members

-- The members of a SEQUENCE or SET are not known unless those are that the name stands for.
abbrev pub AsksFor : StructLayer → List ℕ → Type 0
AsksFor x name = (M : Meaning) (scope : Scope) → ((among : Bool) → components_of M scope among name ≡ None) → members_at M scope x ≡ None

-- Who looks for the members of what a type stands for asks for those of what goes by this: the type itself does; what it leads to does; or it
-- is a SEQUENCE or SET, and what a name behind COMPONENTS OF stands for does.
pub data Includes (defs : Definitions) (goal : Key) : Place → Type 0 where
  at_name : {p : Place} → key p ≡ Some goal → Includes defs goal p
  led : {p : Place} (n : ℕ) (x : Target) → lead defs (meaning defs n) p ≡ LeadsTo x → Includes defs goal x.place → Includes defs goal p
  behind_components : {p : Place} (n : ℕ) (x : StructLayer) (name : List ℕ) → lead defs (meaning defs n) p ≡ IsHead → struct_of p ≡ Some x → AsksFor x name →
      Includes defs goal (place p.scope (plain_name name)) → Includes defs goal p

-- It is asked for from the type behind it, where nothing is known of a template's arguments.
pub record IncludesItself (defs : Definitions) (goal : Key) : Type 0 where
  pub first : Place
  pub begins : behind defs goal ≡ Some first
  pub back : Includes defs goal first
