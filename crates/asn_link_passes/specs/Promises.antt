-- What is promised of a type that is linked by itself.
use Rattle.std.specs.Prelude.{◌≡◌, ◌↔◌, ℕ, Bool, false, true, Option, Some, None}
use Rattle.asn_tree.specs.declared.types.ASN1Type.{ASN1Type}
use Rattle.asn_link_forms.specs.Forms.{stands_in}
use Rattle.asn_link_forms.specs.declared.forms.Form.{Form}
use Rattle.asn_link_instance.specs.Closed.{every_name}
use Rattle.asn_link_instance.specs.Instance.{instance}
use Rattle.asn_link_instance.specs.Literals.{literals}
use Rattle.asn_meaning.specs.Accepts.{Accepts, Rejects}
use Rattle.asn_meaning.specs.Definitions.{Definitions}
use Rattle.asn_meaning.specs.Plain.{IsPlain}
use Rattle.asn_meaning.specs.Scopes.{Empty, Scope}
use Rattle.asn_meaning.specs.ValueTrees.{ValueTree}
use Rattle.asn_link_passes.specs.declared.passes.Pass.{Pass}
use Rattle.asn_link_passes.specs.declared.passes.Pass.TheVariants.{Stays, Linked, Lost}

-- The second, in the empty scope, accepts and rejects what the first does in its scope.
abbrev pub MeanTheSame : Definitions → Scope → ASN1Type → ASN1Type → Type 0
MeanTheSame defs scope ty uy = (t : ValueTree) → (Accepts defs scope ty t ↔ Accepts defs Empty uy t) × (Rejects defs scope ty t ↔ Rejects defs Empty uy t)

-- What is made of a type that is written in a scope is its instance within so many steps and levels, in which every name may stay; it
-- means the same, and is in plain form. `down` asks for the type down to the head.
pub record IsLinkedType (defs : Definitions) (steps levels : ℕ) (down : Bool) (scope : Scope) (ty : ASN1Type) (made : Option ASN1Type) : Type 0 where
  pub instance_of : made ≡ (instance (literals every_name) defs steps levels).of_type down scope ty
  pub meaning_kept : (uy : ASN1Type) → made ≡ Some uy → MeanTheSame defs scope ty uy
  pub is_plain : (uy : ASN1Type) → made ≡ Some uy → IsPlain defs uy

-- The first of these brings the others.
abbrev pub InstancesPromise : Type 0
InstancesPromise =
    (defs : Definitions) (steps levels : ℕ) (down : Bool) (scope : Scope) (ty : ASN1Type) (made : Option ASN1Type) →
    made ≡ (instance (literals every_name) defs steps levels).of_type down scope ty → IsLinkedType defs steps levels down scope ty made

-- A pass leaves a type in which the form does not stand, and of any other it gives what linking makes, in the empty scope.
abbrev pub IsPass : Form → Definitions → ℕ → ℕ → ASN1Type → Pass → Type 0
IsPass form defs steps levels ty Stays = stands_in form ty ≡ false
IsPass form defs steps levels ty (Linked uy) = (stands_in form ty ≡ true) × IsLinkedType defs steps levels false Empty ty (Some uy)
IsPass form defs steps levels ty Lost = (stands_in form ty ≡ true) × IsLinkedType defs steps levels false Empty ty None
