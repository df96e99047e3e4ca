-- Laws of closed definitions.
use Rattle.std.specs.Prelude.{◌≡◌, ◌<◌, ℕ, List, [], ◌∷◌, Bool, true, false, Option, Some, None, length, map, slice_index_or, if◌then◌else◌}
use Rattle.std.specs.List.{AllZip}
use Rattle.std.specs.Str.{bytes_eq}
use Rattle.asn_tree.specs.declared.definitions.ToplevelDefinition.{ToplevelDefinition}
use Rattle.asn_tree.specs.declared.definitions.ToplevelDefinition.TheVariants.{TypeDef, Value, Information}
use Rattle.asn_tree.specs.declared.types.ASN1Type.{ASN1Type}
use Rattle.asn_meaning.specs.Layers.{ClassFieldLayer}
use Rattle.asn_meaning.specs.Names.{Open, class_field_type}
use Rattle.asn_meaning.specs.Scopes.{Empty}
use Rattle.asn_names_index.specs.Definitions.{Definitions, IsStanding, last_named, name_of}
use Rattle.asn_link_instance.specs.Closed.{AreClosed as NamesAreClosed, every_name}
use Rattle.asn_link_instance.specs.Instance.{instance}
use Rattle.asn_link_instance.specs.Literals.{literals}
use Rattle.asn_link_instance.specs.Staying.{Names}
use Rattle.asn_link_closed.specs.Closed.{AreClosed}

-- ---- which names may stay

-- one that has no definition, and one whose definition is closed
abbrev pub is_closed_name : List (List ℕ) → List Bool → List ℕ → Bool
is_closed_name [] closed name = true
is_closed_name (n ∷ names) [] name = true
is_closed_name (n ∷ names) (c ∷ closed) name = if bytes_eq n name then c else is_closed_name names closed name

-- no field of an object
abbrev pub closed_names : List (List ℕ) → List Bool → Names
closed_names names closed None name = is_closed_name names closed name
closed_names names closed (Some object) name = false

-- ---- what linking makes of the definitions

-- The type that was made of a definition of a type is its instance, in which every name may stay; and it is no template.
abbrev pub IsMade : Definitions → ℕ → ℕ → ToplevelDefinition → Option ASN1Type → Type 0
IsMade defs n k (TypeDef d) (Some ty) = (d.parameterization ≡ None) × ((instance (literals every_name) defs n k).of_type false Empty d.ty ≡ Some ty)
IsMade defs n k (TypeDef d) None = Unit {0}
IsMade defs n k (Value d) made = Unit {0}
IsMade defs n k (Information d) made = Unit {0}

-- A linked definition of a type has the type that was made and no parameters; any other is one of its kind.
abbrev pub IsLinked : ToplevelDefinition → Option ASN1Type → Option ToplevelDefinition → Type 0
IsLinked (TypeDef d) (Some ty) (Some (TypeDef e)) = (e.parameterization ≡ None) × (e.ty ≡ ty)
IsLinked (Value d) made (Some (Value e)) = Unit {0}
IsLinked (Information d) made (Some (Information e)) = Unit {0}
IsLinked d made _ = ⊥

-- the linked definitions, by those that stand
pub record AreLinked (defs others ds : Definitions) (made : List (Option ASN1Type)) (closed : List Bool) : Type 0 where
  -- each closed definition is linked
  pub each : (x : ℕ) (d : ToplevelDefinition) → x < length ds → slice_index_or closed x false ≡ true →
      IsLinked (slice_index_or ds x d) (slice_index_or made x None) (last_named others (name_of (slice_index_or ds x d)))
  -- none is added
  pub none_added : (name : List ℕ) → last_named defs name ≡ None → last_named others name ≡ None
  -- an open type of a class is open still
  pub opens : (x : ClassFieldLayer) → class_field_type defs Empty x ≡ Some Open → class_field_type others Empty x ≡ Some Open

-- Where linking gives each closed definition the type that was made of it, names are closed that have no definition or a closed one.
abbrev pub ClosedDefinitionsClose : Type 0
ClosedDefinitionsClose =
    (defs others ds : Definitions) (made : List (Option ASN1Type)) (closed : List Bool) (n k : ℕ) → IsStanding defs ds → AllZip (IsMade defs n k) ds made →
    AreClosed ds made closed → AreLinked defs others ds made closed → NamesAreClosed (closed_names (map name_of ds) closed) defs others n k
