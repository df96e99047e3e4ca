-- What a definition begins with, as forms in its surroundings.
use Rattle.std.specs.Prelude.{ℕ, List, [], ◌∷◌, ◌++◌, map, Option, Some, None}
use Rattle.asn_tree.specs.declared.definitions.Parameterization.{Parameterization}
use Rattle.asn_tree.specs.declared.definitions.ToplevelTypeDefinition.{ToplevelTypeDefinition}
use Rattle.asn_tree.specs.declared.definitions.ToplevelValueDefinition.{ToplevelValueDefinition}
use Rattle.asn_meaning.specs.Accepts.{place}
use Rattle.asn_meaning.specs.Scopes.{Scope}
use Rattle.asn_needs.specs.Sites.{Form, Site, beside, AtHead, AsSuch, AType, AValue, LooseList}
use Rattle.asn_needs.specs.Stands.{dummy_forms, outermost}

-- these forms at one place
abbrev pub all_beside : Site → List Form → List Site
all_beside s forms = map (beside s) forms

-- what surrounds a definition with these parameters, as a site of a form that does not count
abbrev pub around_own : Option Parameterization → Site
around_own t = outermost t LooseList

abbrev pub type_forms : ToplevelTypeDefinition → List Form
type_forms d = AType AtHead d.ty [] ∷ []

abbrev pub value_forms : Scope → ToplevelValueDefinition → List Form
value_forms scope d = AType AtHead d.associated_type [] ∷ AValue AsSuch d.value (Some (place scope d.associated_type)) ∷ []

-- those of the definition itself, and its dummies
abbrev pub begun_with : Option Parameterization → List Form → List Site
begun_with t forms = map (outermost t) (forms ++ dummy_forms t)

abbrev pub named_by : Option (List ℕ) → List (List ℕ)
named_by None = []
named_by (Some name) = name ∷ []
