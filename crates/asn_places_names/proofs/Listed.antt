-- Whether an argument list stands among constraints, as their lists are counted.
use Rattle.std.proofs.Common.{◌≡◌, List, [], ◌∷◌, Bool, true, false, refl, sym, ap, ◌∙◌}
use Rattle.asn_tree.specs.declared.constraints.Parameter.{Parameter}
use Rattle.asn_meaning_heads.specs.Lists.{Lists, NoList, OneList, SeveralLists, counted, joined}
use Rattle.asn_meaning.specs.Layers.{ReferenceLayer}
use Rattle.asn_meaning.specs.Names.{lists_in}
use Rattle.asn_needs.specs.Occurrences.{has_list}

abbrev has_any : Lists → Bool
has_any NoList = false
has_any (OneList arguments) = true
has_any SeveralLists = true

several : (lists : List (List Parameter)) → has_any (joined SeveralLists lists) ≡ true
several [] = refl
several (arguments ∷ others) = several others

one : (arguments : List Parameter) (others : List (List Parameter)) → has_any (joined (OneList arguments) others) ≡ true
one arguments [] = refl
one arguments (more ∷ others) = several others

by_count : (lists : List (List Parameter)) → elim lists [ [] ↦ false | a ∷ others ↦ true ] ≡ has_any (counted lists)
by_count [] = refl
by_count (arguments ∷ others) = sym (one arguments others)

listed : (x : ReferenceLayer) (lists : Lists) → lists ≡ counted (lists_in x.constraints) → has_list x ≡ has_any lists
listed x lists e = by_count (lists_in x.constraints) ∙ ap has_any (sym e)

pub no_list : (x : ReferenceLayer) → NoList ≡ counted (lists_in x.constraints) → has_list x ≡ false
no_list x e = listed x NoList e

pub one_list : (x : ReferenceLayer) (arguments : List Parameter) → OneList arguments ≡ counted (lists_in x.constraints) → has_list x ≡ true
one_list x arguments e = listed x (OneList arguments) e

pub several_lists : (x : ReferenceLayer) → SeveralLists ≡ counted (lists_in x.constraints) → has_list x ≡ true
several_lists x e = listed x SeveralLists e
