-- What an object gives for a field, by the words of the code.
use Rattle.std.proofs.Common.{◌≡◌, Bool, Bor, ap, ◌∙◌}
use Rattle.asn_meaning_heads.specs.declared.objects.GivenField.{GivenField}
use Rattle.asn_meaning_heads.specs.declared.objects.Gives.TheVariants as lent
use Rattle.asn_meaning_heads.specs.declared.kinds.TypeForm.{TypeForm}
use Rattle.asn_meaning_heads.specs.declared.values.ValueForm.{ValueForm}
use Rattle.asn_meaning_heads.specs.Kinds.{shown_type}
use Rattle.asn_meaning_heads.specs.Objects.{shown_given, shown_gives}
use Rattle.asn_meaning_heads.specs.Values.{shown_value}
use Rattle.asn_meaning.specs.Layers.{FieldLayer}
use Rattle.asn_needs.specs.Sites.{ObjectSet}
use Rattle.asn_tree.specs.declared.objects.InformationObjectField.{InformationObjectField-F, out-InformationObjectField}
use Rattle.asn_tree.specs.declared.objects.InformationObjectField.TheVariants as field

module _ (test : FieldLayer → Bool) (f : GivenField) where
  pub given_type : (ty : TypeForm) → f.gives ≡ lent.Type ty → test (out-InformationObjectField (shown_given f)) ≡ test (InformationObjectField-F.TypeField (record { identifier = f.name.now; ty = shown_type ty }))
  given_type ty e = ap (λ g. test (out-InformationObjectField (shown_gives f.name.now g))) e ∙ ap test (field.outs-TypeField (record { identifier = f.name.now; ty = shown_type ty }))

  pub given_value : (v : ValueForm) → f.gives ≡ lent.Value v → test (out-InformationObjectField (shown_given f)) ≡ test (InformationObjectField-F.FixedValueField (record { identifier = f.name.now; value = shown_value v }))
  given_value v e = ap (λ g. test (out-InformationObjectField (shown_gives f.name.now g))) e ∙ ap test (field.outs-FixedValueField (record { identifier = f.name.now; value = shown_value v }))

  pub given_set : (set : Bor ObjectSet) → f.gives ≡ lent.Set set → test (out-InformationObjectField (shown_given f)) ≡ test (InformationObjectField-F.ObjectSetField (record { identifier = f.name.now; value = set.now }))
  given_set set e = ap (λ g. test (out-InformationObjectField (shown_gives f.name.now g))) e ∙ ap test (field.outs-ObjectSetField (record { identifier = f.name.now; value = set.now }))
