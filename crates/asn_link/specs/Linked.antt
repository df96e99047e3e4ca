-- The definitions that linking gives, and what it makes of them.
use Rattle.std.specs.Prelude.{◌≡◌, ℕ, List, [], ◌∷◌, Bool, false, Option, Some, None, is_some, length, map, if◌then◌else◌}
use Rattle.std.specs.Str.{bytes_eq}
use Rattle.asn_tree_headers.specs.declared.headers.AsnTag.{AsnTag}
use Rattle.asn_tree.specs.declared.definitions.ToplevelDefinition.{ToplevelDefinition}
use Rattle.asn_tree.specs.declared.definitions.ToplevelDefinition.TheVariants.{TypeDef, Value, Information}
use Rattle.asn_tree.specs.declared.definitions.ToplevelTypeDefinition.{ToplevelTypeDefinition}
use Rattle.asn_tree.specs.declared.types.ASN1Type.{ASN1Type}
use Rattle.asn_names_index.specs.Definitions.{Definitions, IsStanding, name_of}
use Rattle.asn_link_closed.specs.Laws.{is_closed_name}
use Rattle.asn_link_all.specs.Linked.{AreLinkedTypes}

-- ---- the definitions

-- a definition of a type with the tag and the type that linking made of it, where it made one
abbrev pub with_type : ToplevelTypeDefinition → Option AsnTag → Option ASN1Type → ToplevelTypeDefinition
with_type d tag None = d
with_type d tag (Some ty) = record d { tag = tag; ty = ty }

-- any other stays
abbrev pub linked_one : ToplevelDefinition → Option AsnTag → Option ASN1Type → ToplevelDefinition
linked_one (TypeDef d) tag made = TypeDef (with_type d tag made)
linked_one (Value d) tag made = Value d
linked_one (Information d) tag made = Information d

-- each in its turn
abbrev pub linked_each : Definitions → List (Option AsnTag) → List (Option ASN1Type) → Definitions
linked_each [] tags made = []
linked_each (d ∷ ds) [] made = []
linked_each (d ∷ ds) (t ∷ tags) [] = []
linked_each (d ∷ ds) (t ∷ tags) (m ∷ made) = linked_one d t m ∷ linked_each ds tags made

-- ---- what linking makes of definitions

-- within how many steps it is asked what a name leads to
abbrev pub most_steps : ℕ
most_steps = 4096

-- how many levels of names and parts an instance may have
abbrev pub most_levels : ℕ
most_levels = 4096

-- as many steps and levels a definition has that leads to a circle
abbrev pub most_in_circles : ℕ
most_in_circles = 256

-- What linking makes of the definitions that stand: their types and tags, and which of them are closed; and which of them it was told to
-- give as they are read.
pub record Linking (defs : Definitions) : Type 0 where
  pub standing : Definitions
  pub stand : IsStanding defs standing
  pub withheld : List Bool
  pub made : List (Option ASN1Type)
  pub tags : List (Option AsnTag)
  pub closed : List Bool
  pub types : AreLinkedTypes defs most_steps most_levels most_in_circles standing withheld made tags closed

-- what is told of the name among these; of a name that is not among them no
abbrev pub is_told : List (List ℕ) → List Bool → List ℕ → Bool
is_told [] told name = false
is_told (n ∷ names) [] name = false
is_told (n ∷ names) (b ∷ told) name = if bytes_eq n name then b else is_told names told name

module _ {defs : Definitions} (l : Linking defs) where
  -- the definitions that linking gives
  abbrev pub linked_definitions : Definitions
  linked_definitions = linked_each l.standing l.tags l.made

  -- Linking made the type of the definition of the name.
  abbrev pub is_linked : List ℕ → Bool
  is_linked name = is_told (map name_of l.standing) (map is_some l.made) name

  -- A definition of a type is clean where linking made its type and that of each definition of a type that its type leads to, and no
  -- field of an object stays in any of these.
  abbrev pub is_clean : List ℕ → Bool
  is_clean name = is_closed_name (map name_of l.standing) l.closed name

-- What the call gives that links the definitions that stand, of which it is told which to give as they are read: the linked ones, and of
-- each whether its type was made and whether it is clean.
pub record IsLinking (defs standing : Definitions) (withheld : List Bool) (definitions : Definitions) (made closed : List Bool) : Type 0 where
  pub linking : Linking defs
  pub stands : linking.standing ≡ standing
  pub held : linking.withheld ≡ withheld
  pub linked : definitions ≡ linked_definitions linking
  -- their names are those of the definitions that stand
  pub named : map name_of definitions ≡ map name_of linking.standing
  -- each is told of
  pub long : length made ≡ length definitions
  pub made_so : made ≡ map is_some linking.made
  pub closed_so : closed ≡ linking.closed
