-- Laws of types that linking leaves as they are: each is its own instance, and of the names in it none but type references stay.
use Rattle.std.specs.Prelude.{◌≡◌, ◌≤◌, ℕ, suc, true, false, Contains, Some, None}
use Rattle.asn_tree.specs.declared.definitions.ToplevelDefinition.TheVariants.{TypeDef}
use Rattle.asn_tree.specs.declared.definitions.ToplevelTypeDefinition.{ToplevelTypeDefinition}
use Rattle.asn_meaning.specs.Definitions.{Definitions}
use Rattle.asn_meaning.specs.Scopes.{Empty}
use Rattle.asn_link_instance.specs.Closed.{every_name}
use Rattle.asn_link_instance.specs.Instance.{instance}
use Rattle.asn_link_instance.specs.Literals.{literals}
use Rattle.asn_link_closed.specs.StayingNames.{StayingName, staying_names}
use Rattle.asn_meaning_unchanged.specs.References.{names_of}
use Rattle.asn_meaning_unchanged.specs.Unchanged.{is_unchanged}

-- from some number of levels on
pub record Eventually (P : ℕ → Type 0) : Type 0 where
  pub levels : ℕ
  pub holds : (k : ℕ) → levels ≤ k → P k

-- A type that linking leaves as it is is its own instance, from some number of levels on.
abbrev pub UnchangedAreOwnInstances : Type 0
UnchangedAreOwnInstances =
    (defs : Definitions) (d : ToplevelTypeDefinition) → is_unchanged (TypeDef d) ≡ true →
    Eventually (λ k. (n : ℕ) → (instance (literals every_name) defs (suc n) k).of_type false Empty d.ty ≡ Some d.ty)

-- It brings no tag to the place of another.
abbrev pub UnchangedBringNoTag : Type 0
UnchangedBringNoTag =
    (defs : Definitions) (d : ToplevelTypeDefinition) → is_unchanged (TypeDef d) ≡ true →
    (n k : ℕ) → (instance (literals every_name) defs (suc n) (suc k)).of_tag Empty d.ty ≡ Some None

-- Each name that stays in it is one of its type references, and none is the field of an object.
abbrev pub UnchangedNamesAreReferences : Type 0
UnchangedNamesAreReferences =
    (d : ToplevelTypeDefinition) → is_unchanged (TypeDef d) ≡ true →
    (x : StayingName) → Contains (staying_names d.ty) x → (x.0 ≡ None) × Contains (names_of (TypeDef d)) x.1
