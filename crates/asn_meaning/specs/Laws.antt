-- The laws of meaning.
use Rattle.std.specs.Prelude.{◌≡◌, ◌↔◌, ℕ, ◌+◌, List, [], ℤ, ◌<ℤ◌, true, Some}
use Rattle.asn_tree.specs.Calls.{numbered}
use Rattle.asn_tree.specs.Tagging.{retagged_definition}
use Rattle.asn_tree.specs.declared.constraints.Constraint.{Constraint}
use Rattle.asn_tree.specs.declared.definitions.ToplevelDefinition.{ToplevelDefinition}
use Rattle.asn_tree.specs.declared.definitions.ToplevelTypeDefinition.{ToplevelTypeDefinition}
use Rattle.asn_tree_headers.specs.declared.headers.TaggingEnvironment.{TaggingEnvironment}
use Rattle.asn_tree.specs.declared.types.ASN1Type.{ASN1Type}
use Rattle.asn_tree.specs.declared.values.ASN1Value.{ASN1Value}
use Rattle.asn_meaning.specs.Accepts.{place, judge, denotes, shape, Accepts, Rejects}
use Rattle.asn_meaning.specs.Answers.{Yes, answer_of, Denoted, Refines, Within, Settles}
use Rattle.asn_meaning.specs.Definitions.{Definitions, type_named}
use Rattle.asn_meaning.specs.Distinct.{NamesDiffer}
use Rattle.asn_meaning.specs.Judge.{meaning}
use Rattle.asn_meaning.specs.Numbers.{Numbers, has_below, has_above}
use Rattle.asn_meaning.specs.Plain.{IsPlain}
use Rattle.asn_meaning.specs.Scopes.{Scope, Empty, Place}
use Rattle.asn_meaning.specs.Tags.{BothAlike, DifferInTags, IsRetagged, PlacesAlike, ScopesAlike, TagChange, tagged, tagged_value}
use Rattle.asn_meaning.specs.ValueTrees.{ValueTree, WholeNumber, same_tree}

-- More steps never change a yes or a no.
abbrev pub MoreSteps : Type 0
MoreSteps = (defs : Definitions) (n m : ℕ) (scope : Scope) (ty : ASN1Type) (t : ValueTree) → Refines (judge defs n scope ty t) (judge defs (n + m) scope ty t)

-- A head that is found stays.
abbrev pub HeadsStay : Type 0
HeadsStay = (defs : Definitions) (n m : ℕ) (p : Place) → Within ((meaning defs n).head p) ((meaning defs (n + m)).head p)

-- More steps never change whether a tree fits.
abbrev pub ShapesStay : Type 0
ShapesStay = (defs : Definitions) (n m : ℕ) (p : Place) (t : ValueTree) → Refines (shape defs n p t) (shape defs (n + m) p t)

-- What is denoted stays, and so does that nothing is.
abbrev pub DenotedStays : Type 0
DenotedStays = (defs : Definitions) (n m : ℕ) (scope : Scope) (v : ASN1Value) (p : Place) → Settles (denotes defs n scope v p) (denotes defs (n + m) scope v p)

-- No tree is both accepted and rejected.
abbrev pub OneAnswer : Type 0
OneAnswer = (defs : Definitions) (scope : Scope) (ty : ASN1Type) (t : ValueTree) → Accepts defs scope ty t → Rejects defs scope ty t → ⊥

-- The whole numbers that are found for a type are those that it accepts: a yes or a no of Judge is what the set says.
abbrev pub NumbersAgree : Type 0
NumbersAgree =
    (defs : Definitions) (n m : ℕ) (scope : Scope) (ty : ASN1Type) (s : Numbers) (i : ℤ) →
    (meaning defs n).numbers (place scope ty) [] ≡ Some s → Refines (judge defs m scope ty (WholeNumber i)) (answer_of (s.has i))

-- What a type accepts fits its kind at every depth.
abbrev pub AcceptedFits : Type 0
AcceptedFits =
    (defs : Definitions) (n : ℕ) (scope : Scope) (ty : ASN1Type) (t : ValueTree) →
    judge defs n scope ty t ≡ Yes → shape defs n (place scope ty) t ≡ Yes

-- What a value denotes under a type fits the type's kind at every depth, where no two members share a name.
abbrev pub DenotedFits : Type 0
DenotedFits =
    (defs : Definitions) (n : ℕ) (scope : Scope) (v : ASN1Value) (p : Place) (t : ValueTree) → NamesDiffer defs n p →
    denotes defs n scope v p ≡ Denoted t → shape defs n p t ≡ Yes

-- The set that is found has a number below another exactly where `has_below` says so, and one above it exactly where
-- `has_above` does.
abbrev pub BoundsExact : Type 0
BoundsExact =
    (defs : Definitions) (n : ℕ) (p : Place) (cs : List Constraint) (s : Numbers) (i : ℤ) → (meaning defs n).numbers p cs ≡ Some s →
    (has_below s i ≡ true ↔ (j : ℤ) × (j <ℤ i) × (s.has j ≡ true)) × (has_above s i ≡ true ↔ (j : ℤ) × (i <ℤ j) × (s.has j ≡ true))

-- Trees that are the same are judged alike: the order of a struct's fields changes nothing.
abbrev pub SameTreesJudgeAlike : Type 0
SameTreesJudgeAlike =
    (defs : Definitions) (n : ℕ) (scope : Scope) (ty : ASN1Type) (t u : ValueTree) → same_tree t u ≡ true →
    judge defs n scope ty t ≡ judge defs n scope ty u

-- ---- tags

-- Definitions, scopes and types that differ in their tags alone give the same answer, within as many steps.
abbrev pub TagsJudgeAlike : Type 0
TagsJudgeAlike =
    (defs others : Definitions) → DifferInTags defs others → (n : ℕ) (scope scope' : Scope) → ScopesAlike scope scope' →
    (f : TagChange) (ty : ASN1Type) (t : ValueTree) → judge others n scope' (tagged f ty) t ≡ judge defs n scope ty t

-- Their heads differ in their tags alone, and the same trees fit them.
abbrev pub TagsLeadAlike : Type 0
TagsLeadAlike =
    (defs others : Definitions) → DifferInTags defs others → (n : ℕ) (p q : Place) → PlacesAlike p q →
    BothAlike PlacesAlike ((meaning defs n).head p) ((meaning others n).head q) × ((t : ValueTree) → shape others n q t ≡ shape defs n p t)

-- Values that differ in their tags alone denote the same under such types.
abbrev pub TagsDenoteAlike : Type 0
TagsDenoteAlike =
    (defs others : Definitions) → DifferInTags defs others → (n : ℕ) (scope scope' : Scope) → ScopesAlike scope scope' →
    (f : TagChange) (v : ASN1Value) (p q : Place) → PlacesAlike p q → denotes others n scope' (tagged_value f v) q ≡ denotes defs n scope v p

-- Numbers and a module's tagging environment change no more of a definition than its tags.
abbrev pub EnvironmentsChangeTags : Type 0
EnvironmentsChangeTags =
    (environment : TaggingEnvironment) (home item : ℕ) (d : ToplevelDefinition) → IsRetagged d (numbered home item (retagged_definition environment d))

-- The type that a name stands for stands for it, with other tags, among definitions that differ in tags alone, and accepts
-- there exactly the same trees.
abbrev pub RetaggedTypesMeanTheSame : Type 0
RetaggedTypesMeanTheSame =
    (defs others : Definitions) → DifferInTags defs others → (name : List ℕ) (d : ToplevelTypeDefinition) → type_named defs name ≡ Some d →
    (e : ToplevelTypeDefinition) × (type_named others name ≡ Some e) × (f : TagChange) × (e.ty ≡ tagged f d.ty)
    × ((t : ValueTree) → Accepts defs Empty d.ty t ↔ Accepts others Empty e.ty t)

-- A type is in plain form exactly where it is so with other tags, over definitions that differ in tags alone.
abbrev pub TagsKeepPlainForm : Type 0
TagsKeepPlainForm = (defs others : Definitions) → DifferInTags defs others → (f : TagChange) (ty : ASN1Type) → IsPlain defs ty ↔ IsPlain others (tagged f ty)
