-- The laws of instances.
use Rattle.std.specs.Prelude.{◌≡◌, ◌↔◌, ℕ, suc, ◌+◌, Bool, true, List, Option, Some, None}
use Rattle.asn_tree.specs.declared.definitions.ToplevelTypeDefinition.{ToplevelTypeDefinition}
use Rattle.asn_tree.specs.declared.types.ASN1Type.{ASN1Type}
use Rattle.asn_meaning.specs.Accepts.{judge, Accepts, Rejects}
use Rattle.asn_meaning.specs.Answers.{Refines}
use Rattle.asn_meaning.specs.Definitions.{Definitions, type_named}
use Rattle.asn_meaning.specs.Plain.{IsPlain}
use Rattle.asn_meaning.specs.Scopes.{Scope, Empty}
use Rattle.asn_meaning.specs.ValueTrees.{ValueTree}
use Rattle.asn_link_instance.specs.Closed.{AreClosed}
use Rattle.asn_link_instance.specs.Fewer.{AreFewer, with_names}
use Rattle.asn_link_instance.specs.Heads.{KeepsValues, KeepsValuesBack}
use Rattle.asn_link_instance.specs.Instance.{instance}
use Rattle.asn_link_instance.specs.Linked.{LinkedBy, SameOrLinked}
use Rattle.asn_link_instance.specs.Literals.{literals}
use Rattle.asn_link_instance.specs.Plain.{WritesPlain}
use Rattle.asn_link_instance.specs.Staying.{Names, NamesStay}
use Rattle.asn_link_instance.specs.Steady.{FoundAgain, Steady}
use Rattle.asn_link_instance.specs.Subjects.{Choices}
use Rattle.asn_link_instance.specs.Ways.{steps_back}

-- Substitution equals look-up, by steps: what Judge says of a type in its scope within m steps, it says of the instance in
-- the empty scope within as many more as the instance took, steps and levels, and one.
abbrev pub InstanceKept : Type 0
InstanceKept =
    (C : Choices) (defs others : Definitions) (n k : ℕ) → SameOrLinked C defs others (suc (n + k)) → KeepsValues C defs others (suc (n + k)) →
    (m : ℕ) (down : Bool) (scope : Scope) (ty uy : ASN1Type) (t : ValueTree) → (instance C defs n k).of_type down scope ty ≡ Some uy →
    Refines (judge defs m scope ty t) (judge others (m + suc (n + k)) Empty uy t)

-- And back: what Judge says of the instance within m steps, it says of the type in its scope within (m + 1) * (n + k + 1).
abbrev pub InstanceKeptBack : Type 0
InstanceKeptBack =
    (C : Choices) (defs others : Definitions) (n k : ℕ) → SameOrLinked C defs others (suc (n + k)) → KeepsValuesBack C defs others (suc (n + k)) →
    (m : ℕ) (down : Bool) (scope : Scope) (ty uy : ASN1Type) (t : ValueTree) → (instance C defs n k).of_type down scope ty ≡ Some uy →
    Refines (judge others m Empty uy t) (judge defs (steps_back (suc (n + k)) m) scope ty t)

-- A type in its scope and its instance in the empty scope accept and reject the same trees.
abbrev pub Substitution : Type 0
Substitution =
    (C : Choices) (defs others : Definitions) (n k : ℕ) → SameOrLinked C defs others (suc (n + k)) → KeepsValues C defs others (suc (n + k)) →
    KeepsValuesBack C defs others (suc (n + k)) →
    (down : Bool) (scope : Scope) (ty uy : ASN1Type) (t : ValueTree) → (instance C defs n k).of_type down scope ty ≡ Some uy →
    (Accepts defs scope ty t ↔ Accepts others Empty uy t) × (Rejects defs scope ty t ↔ Rejects others Empty uy t)

-- Where linking made each type definition its instance, the type that a name stands for which may stay accepts and rejects the
-- same trees as it did.
abbrev pub LinkedTypesMeanTheSame : Type 0
LinkedTypesMeanTheSame =
    (C : Choices) (defs others : Definitions) (k : ℕ) → LinkedBy C defs others (suc k) → KeepsValues C defs others (suc k) → KeepsValuesBack C defs others (suc k) →
    (name : List ℕ) (d : ToplevelTypeDefinition) → C.keeps None name ≡ true → type_named defs name ≡ Some d → d.parameterization ≡ None →
    (e : ToplevelTypeDefinition) × (type_named others name ≡ Some e) × (e.parameterization ≡ None)
    × ((t : ValueTree) → (Accepts defs Empty d.ty t ↔ Accepts others Empty e.ty t) × (Rejects defs Empty d.ty t ↔ Rejects others Empty e.ty t))

-- There is a way to write values that keeps what they mean: literals stay, and a name of a number, a truth value, NULL, bits
-- or octets becomes a literal.
abbrev pub LiteralsKept : Type 0
LiteralsKept =
    (keeps : Option (List ℕ) → List ℕ → Bool) (defs others : Definitions) (j : ℕ) → KeepsValues (literals keeps) defs others j × KeepsValuesBack (literals keeps) defs others j

-- What is found within some levels, by what some steps tell, is found, the same, within one level more and by one step more.
abbrev pub MoreLevels : Type 0
MoreLevels =
    (C : Choices) (defs : Definitions) → Steady C defs → (n k : ℕ) →
    FoundAgain (instance C defs n k) (instance C defs n (suc k)) × FoundAgain (instance C defs n k) (instance C defs (suc n) k)

-- Literals stay as they are where more steps tell more.
abbrev pub LiteralsSteady : Type 0
LiteralsSteady = (keeps : Option (List ℕ) → List ℕ → Bool) (defs : Definitions) → Steady (literals keeps) defs

-- An instance is in plain form, over the definitions that it is read with, where values are written plainly and keep what they
-- mean.
abbrev pub InstancesArePlain : Type 0
InstancesArePlain =
    (C : Choices) (defs others : Definitions) (n k : ℕ) → SameOrLinked C defs others (suc (n + k)) → KeepsValues C defs others (suc (n + k)) →
    WritesPlain C defs others (suc (n + k)) →
    (down : Bool) (scope : Scope) (ty uy : ASN1Type) → (instance C defs n k).of_type down scope ty ≡ Some uy → IsPlain others uy

-- Literals and the names of items are written plainly.
abbrev pub LiteralsPlain : Type 0
LiteralsPlain = (keeps : Option (List ℕ) → List ℕ → Bool) (defs others : Definitions) (j : ℕ) → WritesPlain (literals keeps) defs others j

-- Where fewer names may stay, the same instance is found if each name that stays in it may.
abbrev pub FewerNames : Type 0
FewerNames =
    (C : Choices) (fewer : Names) (defs : Definitions) (n k : ℕ) → AreFewer fewer C →
    (down : Bool) (scope : Scope) (ty uy : ASN1Type) → (instance C defs n k).of_type down scope ty ≡ Some uy → NamesStay fewer uy →
    (instance (with_names C fewer) defs n k).of_type down scope ty ≡ Some uy

-- Where names are closed, the type definition that each stands for accepts and rejects the same trees as it did, and is in plain
-- form.
abbrev pub ClosedNamesMeanTheSame : Type 0
ClosedNamesMeanTheSame =
    (keeps : Names) (defs others : Definitions) (n k : ℕ) → AreClosed keeps defs others n k →
    (name : List ℕ) (d : ToplevelTypeDefinition) → keeps None name ≡ true → type_named defs name ≡ Some d →
    (e : ToplevelTypeDefinition) × (type_named others name ≡ Some e) × (e.parameterization ≡ None) × IsPlain others e.ty
    × ((t : ValueTree) → (Accepts defs Empty d.ty t ↔ Accepts others Empty e.ty t) × (Rejects defs Empty d.ty t ↔ Rejects others Empty e.ty t))
