-- Names that are closed: what each of them stands for was linked, and every name that stays in that is one of them.
use Rattle.std.specs.Prelude.{◌≡◌, ℕ, true, false, List, Option, Some, None}
use Rattle.asn_tree.specs.declared.definitions.ToplevelTypeDefinition.{ToplevelTypeDefinition}
use Rattle.asn_meaning.specs.Definitions.{Definitions, type_named}
use Rattle.asn_meaning.specs.Layers.{ClassFieldLayer}
use Rattle.asn_meaning.specs.Names.{Open, class_field_type}
use Rattle.asn_meaning.specs.Scopes.{Empty}
use Rattle.asn_link_instance.specs.Instance.{instance}
use Rattle.asn_link_instance.specs.Literals.{literals}
use Rattle.asn_link_instance.specs.Staying.{Names, NamesStay}

abbrev pub every_name : Names
every_name object name = true

module _ (keeps : Names) (defs others : Definitions) (n k : ℕ) where
  -- Neither is there, or both are without parameters, and the second has the instance of the first, in which every name may stay.
  abbrev pub LinkedDefinition : Option ToplevelTypeDefinition → Option ToplevelTypeDefinition → Type 0
  LinkedDefinition None None = Unit {0}
  LinkedDefinition (Some d) (Some e) =
      (d.parameterization ≡ None) × (e.parameterization ≡ None) × ((instance (literals every_name) defs n k).of_type false Empty d.ty ≡ Some e.ty) × NamesStay keeps e.ty
  LinkedDefinition _ _ = ⊥

  pub record ClosedAt (name : List ℕ) : Type 0 where
    -- the type definition that the name stands for
    pub types : LinkedDefinition (type_named defs name) (type_named others name)
    -- an open type of its class, where it stands for one, is open still
    pub opens : (x : ClassFieldLayer) → x.class ≡ name → class_field_type defs Empty x ≡ Some Open → class_field_type others Empty x ≡ Some Open

  pub record AreClosed : Type 0 where
    -- no field of an object stays
    pub alone : (object name : List ℕ) → keeps (Some object) name ≡ false
    pub each : (name : List ℕ) → keeps None name ≡ true → ClosedAt name
