-- An object set that is given for a field.
use Rattle.std.proofs.Common.{◌≡◌, ℕ, List, [], ◌∷◌, Option, None, ap, ◌∙◌}
use Rattle.std.specs.Borrow.{Bor}
use Rattle.asn_tree.specs.declared.objects.InformationObjectClass.{InformationObjectClass}
use Rattle.asn_tree.specs.declared.objects.InformationObjectField.{out-InformationObjectField}
use Rattle.asn_tree.specs.declared.objects.InformationObjectField.TheVariants as field
use Rattle.asn_meaning_heads.specs.declared.objects.Gives.{Gives}
use Rattle.asn_meaning_heads.specs.declared.objects.Gives.TheVariants as lent
use Rattle.asn_meaning_heads.specs.Objects.{shown_gives}
use Rattle.asn_needs.specs.PartsOfObjects.{setting_parts}
use Rattle.asn_needs.specs.Sites.{AnObjectSet, ObjectSet, Site, beside}

pub set_given : (s : Site) (c : Option InformationObjectClass) (name : List ℕ) (g : Gives) (set : Bor ObjectSet) → g ≡ lent.Set set →
    setting_parts s c (out-InformationObjectField (shown_gives name g)) ≡ beside s (AnObjectSet None set.now) ∷ []
set_given s c name g set e =
    ap (λ x. setting_parts s c (out-InformationObjectField (shown_gives name x))) e
    ∙ ap (setting_parts s c) (field.outs-ObjectSetField (record { identifier = name; value = set.now }))
