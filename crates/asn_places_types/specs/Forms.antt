-- The forms of asn_needs that those of the code stand for.
use Rattle.std.specs.Prelude.{List, [], ◌∷◌, Option, Some, None}
use Rattle.std.specs.Option.{option_copied, option_map}
use Rattle.asn_meaning.specs.Placed.{listed}
use Rattle.asn_tree_leaves.specs.declared.objects.ObjectFieldIdentifier.TheVariants.{SingleValue, MultipleValue}
use Rattle.std.specs.Prelude.{true, false, codes}
use Rattle.asn_tree_kinds.specs.declared.objects.ObjectSetValueOver.TheVariants.{Reference}
use Rattle.asn_tree.specs.declared.objects.InformationObjectClass.{InformationObjectClass}
use Rattle.asn_tree.specs.declared.objects.InformationObjectClassField.{InformationObjectClassField}
use Rattle.asn_names_index.specs.declared.classes.Class.{Class}
use Rattle.asn_meaning_heads.specs.declared.places.Place.{Place as LentPlace}
use Rattle.asn_names_index.specs.Classes.{shown_class}
use Rattle.asn_meaning_heads.specs.Kinds.{shown_type}
use Rattle.asn_meaning_heads.specs.Objects.{shown_given}
use Rattle.asn_meaning_heads.specs.Places.{shown_place}
use Rattle.asn_meaning_heads.specs.Scopes.{shown}
use Rattle.asn_meaning_heads.specs.Values.{shown_value}
use Rattle.asn_meaning.specs.Definitions.{plain_identifier}
use Rattle.asn_meaning.specs.Scopes.{Place}
use Rattle.asn_needs.specs.Sites.{Asked, OfValues, OfLengths, OfCharacters, Form, AType, ComponentsOf, AValue, AConstraint, ASet, AnElement, AListed, LooseList, AnArgument, NoArgument, LooseArgument, ADummy, ClassName, ClassField, AnObject, GivenField, LooseField, AnObjectSet, SetName, ObjectSet, TypePlace, AtHead, OfField, AtHeadOfField, InPlace, ValuePlace, AsSuch, AsEnd, AsBound, AsSingle, Inside}
use Rattle.asn_places_types.specs.declared.forms.Asked.{Asked as LentAsked}
use Rattle.asn_places_types.specs.declared.forms.Asked.TheVariants as asked
use Rattle.asn_places_types.specs.declared.forms.ClassFieldForm.{ClassFieldForm}
use Rattle.asn_places_types.specs.declared.forms.ClassFieldForm.TheVariants as field
use Rattle.asn_places_types.specs.declared.forms.Form.{Form as LentForm}
use Rattle.asn_places_types.specs.declared.forms.Form.TheVariants as lent
use Rattle.asn_places_types.specs.declared.forms.SetForm.{SetForm}
use Rattle.asn_places_types.specs.declared.forms.SetForm.TheVariants as set
use Rattle.asn_places_types.specs.declared.forms.TypePlace.{TypePlace as LentTypePlace}
use Rattle.asn_places_types.specs.declared.forms.TypePlace.TheVariants as type_at
use Rattle.asn_places_types.specs.declared.forms.ValuePlace.{ValuePlace as LentValuePlace}
use Rattle.asn_places_types.specs.declared.forms.ValuePlace.TheVariants as value_at

abbrev pub shown_at : LentTypePlace → TypePlace
shown_at type_at.AtHead = AtHead
shown_at type_at.OfField = OfField
shown_at type_at.AtHeadOfField = AtHeadOfField
shown_at type_at.InPlace = InPlace

abbrev pub shown_value_at : LentValuePlace → ValuePlace
shown_value_at value_at.AsSuch = AsSuch
shown_value_at value_at.AsEnd = AsEnd
shown_value_at value_at.AsBound = AsBound
shown_value_at value_at.AsSingle = AsSingle
shown_value_at value_at.Inside = Inside

abbrev pub shown_asked : LentAsked → Asked
shown_asked asked.OfValues = OfValues
shown_asked asked.OfLengths = OfLengths
shown_asked asked.OfCharacters = OfCharacters

abbrev pub shown_field : ClassFieldForm → InformationObjectClassField
shown_field (field.Written f) = f.now
shown_field field.Identifier = record { identifier = SingleValue (codes "&id"); ty = Some plain_identifier; is_optional = false; default = None; is_unique = true }
shown_field field.IdentifiedType = record { identifier = MultipleValue (codes "&Type"); ty = None; is_optional = false; default = None; is_unique = false }

abbrev pub shown_set : SetForm → ObjectSet
shown_set (set.Written s) = s.now
shown_set (set.Named name) = record { values = Reference name.now ∷ []; extensible = None }
shown_set set.Nothing = record { values = []; extensible = None }

abbrev pub shown_governor : Option LentPlace → Option Place
shown_governor p = option_map shown_place p

abbrev pub shown_of_class : Option Class → Option InformationObjectClass
shown_of_class c = option_map shown_class c

abbrev pub shown_form : LentForm → Form
shown_form (lent.AType at ty behind) = AType (shown_at at) (shown_type ty) (listed (option_copied behind))
shown_form (lent.ComponentsOf name) = ComponentsOf name.now
shown_form (lent.AValue at v p) = AValue (shown_value_at at) (shown_value v) (shown_governor p)
shown_form (lent.AConstraint x) = AConstraint x.constraint.now (shown_governor x.place)
shown_form (lent.ASet of x) = ASet (shown_asked of) x.set.now (shown_governor x.place)
shown_form (lent.AnElement of x) = AnElement (shown_asked of) x.element.now (shown_governor x.place)
shown_form (lent.AListed c p) = AListed c.now (shown_governor p)
shown_form lent.LooseList = LooseList
shown_form (lent.AnArgument p dummy inner) = AnArgument p.now dummy.now (shown inner)
shown_form lent.NoArgument = NoArgument
shown_form (lent.LooseArgument p) = LooseArgument p.now
shown_form (lent.ADummy dummy) = ADummy dummy.now
shown_form (lent.ClassName name) = ClassName name.now
shown_form (lent.ClassField at f) = ClassField (shown_at at) (shown_field f)
shown_form (lent.AnObject c fields) = AnObject (shown_of_class c) fields.now
shown_form (lent.AGivenField c f) = GivenField (shown_of_class c) (shown_given f)
shown_form (lent.LooseField f) = LooseField f.now
shown_form (lent.AnObjectSet c s) = AnObjectSet (shown_of_class c) (shown_set s)
shown_form (lent.SetName name) = SetName name.now
