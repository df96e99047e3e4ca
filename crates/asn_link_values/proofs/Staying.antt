-- Whether there is an argument list, by how many count.
use Rattle.std.proofs.Common.{◌≡◌, List, [], ◌∷◌, true, false, refl}
use Rattle.asn_tree.specs.declared.constraints.Parameter.{Parameter}
use Rattle.asn_meaning_heads.specs.Lists.{NoList, OneList, SeveralLists, counted, joined}
use Rattle.asn_link_instance.specs.Instance.{is_empty}

several : (lists : List (List Parameter)) → joined SeveralLists lists ≡ SeveralLists
several [] = refl
several (arguments ∷ others) = several others

pub no_list : (lists : List (List Parameter)) → counted lists ≡ NoList → is_empty lists ≡ true
no_list [] e = refl
no_list (arguments ∷ []) e = absurd cc
no_list (arguments ∷ more ∷ others) e = let f = several others in absurd cc

pub one_list : (lists : List (List Parameter)) (arguments : List Parameter) → counted lists ≡ OneList arguments → is_empty lists ≡ false
one_list [] arguments e = absurd cc
one_list (first ∷ others) arguments e = refl

pub several_lists : (lists : List (List Parameter)) → counted lists ≡ SeveralLists → is_empty lists ≡ false
several_lists [] e = absurd cc
several_lists (first ∷ others) e = refl
