-- The object sets of asn_needs that those of the code stand for.
use Rattle.std.specs.Prelude.{[], ◌∷◌, None}
use Rattle.asn_tree_kinds.specs.declared.objects.ObjectSetValueOver.TheVariants.{Reference}
use Rattle.asn_needs.specs.Sites.{ObjectSet}
use Rattle.asn_meaning_dummies.specs.declared.sets.SetForm.{SetForm}
use Rattle.asn_meaning_dummies.specs.declared.sets.SetForm.TheVariants as form

abbrev pub shown_set : SetForm → ObjectSet
shown_set (form.Written s) = s.now
shown_set (form.Named name) = record { values = Reference name.now ∷ []; extensible = None }
shown_set form.Nothing = record { values = []; extensible = None }
