-- The second fault: where an argument, an argument list or a governor is wrong.
use Rattle.std.specs.Prelude.{ℕ, List, [], ◌∷◌, Bool, true, false, is_none, nat_le, Option, ◌||◌, ◌&&◌, not, codes, if◌then◌else◌}
use Rattle.std.specs.List.{list_any}
use Rattle.std.specs.Str.{bytes_eq}
use Rattle.asn_tree.specs.declared.constraints.Parameter.{Parameter-F, out-Parameter}
use Rattle.asn_tree.specs.declared.definitions.ParameterGovernor.{ParameterGovernor}
use Rattle.asn_tree.specs.declared.definitions.ParameterGovernor.TheVariants as governor
use Rattle.asn_meaning.specs.Accepts.{place}
use Rattle.asn_meaning.specs.Answers.{once}
use Rattle.asn_meaning.specs.Definitions.{Definitions, see}
use Rattle.asn_meaning.specs.Layers.{ParameterLayer}
use Rattle.asn_meaning.specs.Scopes.{Scope, Argument, Bound, bound_to}
use Rattle.asn_meaning.specs.Written.{Written, ArcsWritten, BracesWritten, NameWritten, as_written}
use Rattle.asn_needs.specs.Dummies.{handed_on, is_class_name, is_information, is_type_argument, set_argument}
use Rattle.asn_needs.specs.Occurrences.{NeedsType, lacks_list, names_at, sort_of, takes}
use Rattle.asn_needs.specs.PartsOfTypes.{here, is_aside}
use Rattle.asn_needs.specs.Sites.{Seen, Site, Form, AType, ComponentsOf, AValue, AConstraint, ASet, AnElement, AListed, LooseList, AnArgument, NoArgument, LooseArgument, ADummy, ClassName, ClassField, AnObject, GivenField, LooseField, AnObjectSet, SetName}

-- ---- arguments

abbrev pub is_value_argument : ParameterLayer → Bool
is_value_argument (Parameter-F.ValueParameter v) = true
is_value_argument (Parameter-F.TypeParameter ty) = false
is_value_argument (Parameter-F.InformationObjectParameter fields) = false
is_value_argument (Parameter-F.ObjectSetParameter set) = false

abbrev pub is_braced_at : Written → Bool
is_braced_at (BracesWritten items) = true
is_braced_at (ArcsWritten arcs) = true
is_braced_at _ = false

-- braces, which may be an object
abbrev pub is_braced : ParameterLayer → Bool
is_braced (Parameter-F.ValueParameter v) = is_braced_at (as_written v)
is_braced (Parameter-F.TypeParameter ty) = false
is_braced (Parameter-F.InformationObjectParameter fields) = false
is_braced (Parameter-F.ObjectSetParameter set) = false

abbrev pub unknown_name : Definitions → Written → Bool
unknown_name defs (NameWritten parent name) = is_none (see defs name)
unknown_name defs _ = false

-- a name that has no definition
abbrev pub is_unknown : Definitions → ParameterLayer → Bool
is_unknown defs (Parameter-F.ValueParameter v) = unknown_name defs (as_written v)
is_unknown defs (Parameter-F.TypeParameter ty) = false
is_unknown defs (Parameter-F.InformationObjectParameter fields) = false
is_unknown defs (Parameter-F.ObjectSetParameter set) = false

-- Where the governor is a class, braces are not linked and an unknown name is missing; any other value or a type is wrong.
abbrev pub wrong_by_type : Definitions → Bool → ParameterLayer → Bool
wrong_by_type defs true p = not (is_braced p || is_unknown defs p)
wrong_by_type defs false p = not (is_value_argument p)

-- (X.683 8.3)
abbrev pub wrong_kind : Seen → Scope → ParameterGovernor → ParameterLayer → Bool
wrong_kind S inner governor.None p = not (is_type_argument p)
wrong_kind S inner (governor.TypeOrClass g) p = wrong_by_type S.defs (is_class_name S.defs (place inner g)) p
wrong_kind S inner (governor.Class c) p = is_none (set_argument p)

abbrev pub wrong_argument : Seen → Scope → ParameterGovernor → Option Argument → Bool
wrong_argument S inner g a = if is_aside S inner g a then false else once false a (λ b. wrong_kind S inner g (out-Parameter b.tree))

-- ---- governors

-- the words that are types of their own and look like names
abbrev pub type_words : List (List ℕ)
type_words =
    codes "NULL" ∷ codes "BOOLEAN" ∷ codes "INTEGER" ∷ codes "REAL" ∷ codes "TIME" ∷ codes "EXTERNAL" ∷ codes "GeneralizedTime"
    ∷ codes "UTCTime" ∷ codes "IA5String" ∷ codes "UTF8String" ∷ codes "NumericString" ∷ codes "VisibleString" ∷ codes "TeletexString"
    ∷ codes "VideotexString" ∷ codes "GraphicString" ∷ codes "GeneralString" ∷ codes "UniversalString" ∷ codes "BMPString"
    ∷ codes "PrintableString" ∷ []

abbrev pub names_type : Definitions → List ℕ → Bool
names_type defs name = once (list_any (bytes_eq name) type_words) (see defs name) (λ d. takes NeedsType (sort_of d))

-- a governor that is itself a dummy, whose argument is no class
abbrev pub wrong_dummy_governor : Seen → Bound → Bool
wrong_dummy_governor S b = once false b.argument (λ a. once false (handed_on S.steps a) (λ g. not (is_information S.defs g)))

-- a governor names a type where a set is meant
abbrev pub wrong_class : Seen → Scope → List ℕ → Bool
wrong_class S scope c = once (names_type S.defs c) (bound_to scope c) (wrong_dummy_governor S)

abbrev pub is_small : List ℕ → Bool
is_small [] = false
is_small (c ∷ name) = nat_le 97 c && nat_le c 122

-- a dummy that begins with a small letter has a governor (X.683 8.3)
abbrev pub wrong_governor : Seen → Scope → List ℕ → ParameterGovernor → Bool
wrong_governor S scope dummy governor.None = is_small dummy
wrong_governor S scope dummy (governor.TypeOrClass g) = false
wrong_governor S scope dummy (governor.Class c) = wrong_class S scope c

-- ---- all places

abbrev pub form_wrong : Seen → Site → Form → Bool
form_wrong S s (AType at ty behind) = false
form_wrong S s (ComponentsOf name) = false
form_wrong S s (AValue at v p) = false
form_wrong S s (AConstraint c p) = false
form_wrong S s (ASet asked set p) = false
form_wrong S s (AnElement asked e p) = false
form_wrong S s (AListed c p) = false
form_wrong S s LooseList = true
form_wrong S s (AnArgument p dummy inner) = wrong_argument S inner dummy.param_governor (handed_on S.steps (here s p))
form_wrong S s NoArgument = true
form_wrong S s (LooseArgument p) = false
form_wrong S s (ADummy dummy) = wrong_governor S s.scope dummy.dummy_reference dummy.param_governor
form_wrong S s (ClassName name) = false
form_wrong S s (ClassField at f) = false
form_wrong S s (AnObject c fields) = false
form_wrong S s (GivenField c f) = false
form_wrong S s (LooseField f) = false
form_wrong S s (AnObjectSet c set) = false
form_wrong S s (SetName name) = false

-- An argument is missing or of another kind than its governor, or a governor names a type where a set is meant; a dummy with a
-- small letter has no governor; a template's name stands without a list; a list stands on no template, or is a second one
-- (X.683 8, 9).
abbrev pub argument_wrong : Seen → Site → Bool
argument_wrong S s = form_wrong S s s.form || list_any (lacks_list S.defs) (names_at S s s.form)
