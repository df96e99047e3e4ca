-- Argument lists among constraints, one by one.
use Rattle.std.proofs.Common.{◌≡◌, ℕ, ◌+◌, ◌<◌, ◌≤◌, List, [], ◌∷◌, ◌++◌, drop, length, get_or, Option, Some, None, refl, sym, ap, ◌∙◌}
use Rattle.std.proofs.lemmas.List.{drop_more, drop_all}
use Rattle.asn_tree.specs.declared.constraints.Constraint.{Constraint, Constraint-F, out-Constraint}
use Rattle.asn_meaning.specs.Layers.{ConstraintLayer}
use Rattle.asn_tree.specs.declared.constraints.Parameter.{Parameter}
use Rattle.asn_meaning.specs.Names.{list_at, lists_in}
use Rattle.asn_needs.specs.PartsOfTypes.{loose_list, loose_lists}
use Rattle.asn_needs.specs.Sites.{Site}
use Rattle.asn_places_types.specs.Instances.{list_in}
use Rattle.asn_places_types.specs.inner.Lists.{split}
use Rattle.asn_places_types.proofs.Adding.{ended, regrouped}

listed_none : (c : ConstraintLayer) → list_in c ≡ None → (others : List (List Parameter)) → list_at c others ≡ others
listed_none (Constraint-F.SubtypeConstraint x) e others = refl
listed_none (Constraint-F.TableConstraint x) e others = refl
listed_none (Constraint-F.Parameter arguments) e others = absurd cc
listed_none (Constraint-F.ContentConstraint x) e others = refl

listed_some : (c : ConstraintLayer) (arguments : List Parameter) → list_in c ≡ Some arguments → (others : List (List Parameter)) → list_at c others ≡ arguments ∷ others
listed_some (Constraint-F.SubtypeConstraint x) arguments e others = absurd cc
listed_some (Constraint-F.TableConstraint x) arguments e others = absurd cc
listed_some (Constraint-F.Parameter first) arguments e others = cc
listed_some (Constraint-F.ContentConstraint x) arguments e others = absurd cc

pub no_list : (s : Site) (c : ConstraintLayer) (xs : List Site) → list_in c ≡ None → xs ≡ xs ++ loose_lists s (list_at c [])
no_list s c xs e = sym (ap (λ lists. xs ++ loose_lists s lists) (listed_none c e []) ∙ ended xs)

pub one_list : (s : Site) (c : ConstraintLayer) (arguments : List Parameter) (xs all : List Site) → list_in c ≡ Some arguments → all ≡ xs ++ loose_list s arguments →
    all ≡ xs ++ loose_lists s (list_at c [])
one_list s c arguments xs all e is =
    is ∙ ap (λ ys. xs ++ ys) (sym (ap (loose_lists s) (listed_some c arguments e []) ∙ ended (loose_list s arguments)))

lists_first : (cs : List Constraint) (i : ℕ) (c : Constraint) → i < length cs → c ≡ get_or cs i c → lists_in (drop i cs) ≡ list_at (out-Constraint c) (lists_in (drop (i + 1) cs))
lists_first cs i c lt e = ap lists_in (drop_more cs i c lt) ∙ ap (λ x. lists_in (x ∷ drop (i + 1) cs)) (sym e)

-- what a constraint gives, before the others
loose_first : (s : Site) (c : ConstraintLayer) (others : List (List Parameter)) → loose_lists s (list_at c others) ≡ loose_lists s (list_at c []) ++ loose_lists s others
loose_first s (Constraint-F.SubtypeConstraint x) others = refl
loose_first s (Constraint-F.TableConstraint x) others = refl
loose_first s (Constraint-F.Parameter arguments) others = ap (λ ys. ys ++ loose_lists s others) (sym (ended (loose_list s arguments)))
loose_first s (Constraint-F.ContentConstraint x) others = refl

pub lists_next : (s : Site) (cs : List Constraint) (i : ℕ) (c : Constraint) (out : List Site) {more whole : List Site} → i < length cs → c ≡ get_or cs i c →
    out ++ loose_lists s (lists_in (drop i cs)) ≡ whole → more ≡ out ++ loose_lists s (list_at (out-Constraint c) []) → more ++ loose_lists s (lists_in (drop (i + 1) cs)) ≡ whole
lists_next s cs i c out lt e h is =
    ap (λ ys. ys ++ loose_lists s (lists_in (drop (i + 1) cs))) is ∙ regrouped out (loose_lists s (list_at (out-Constraint c) [])) (loose_lists s (lists_in (drop (i + 1) cs)))
    ∙ ap (λ ys. out ++ ys) (sym (ap (loose_lists s) (lists_first cs i c lt e) ∙ loose_first s (out-Constraint c) (lists_in (drop (i + 1) cs)))) ∙ h

pub lists_done : (s : Site) (cs : List Constraint) (i : ℕ) {out whole : List Site} → length cs ≤ i → out ++ loose_lists s (lists_in (drop i cs)) ≡ whole → out ≡ whole
lists_done s cs i {out = out} le h = sym (ap (λ xs. out ++ loose_lists s (lists_in xs)) (drop_all i cs le) ∙ ended out) ∙ h

-- ---- the first list

pub split_passed : (cs : List Constraint) (i : ℕ) (c : Constraint) {whole : Option (List Parameter × List (List Parameter))} → i < length cs → c ≡ get_or cs i c → list_in (out-Constraint c) ≡ None → split (lists_in (drop i cs)) ≡ whole →
    split (lists_in (drop (i + 1) cs)) ≡ whole
split_passed cs i c lt e none h = sym (ap split (lists_first cs i c lt e ∙ listed_none (out-Constraint c) none (lists_in (drop (i + 1) cs)))) ∙ h

pub split_found : (cs : List Constraint) (i : ℕ) (c : Constraint) (arguments : List Parameter) (behind : List Constraint) {whole : Option (List Parameter × List (List Parameter))} → i < length cs → c ≡ get_or cs i c → list_in (out-Constraint c) ≡ Some arguments →
    behind ≡ drop (i + 1) cs → split (lists_in (drop i cs)) ≡ whole → Some (arguments, lists_in behind) ≡ whole
split_found cs i c arguments behind lt e some is h =
    ap (λ xs. Some (arguments, lists_in xs)) is ∙ sym (ap split (lists_first cs i c lt e ∙ listed_some (out-Constraint c) arguments some (lists_in (drop (i + 1) cs)))) ∙ h

pub split_done : (cs : List Constraint) (i : ℕ) {whole : Option (List Parameter × List (List Parameter))} → length cs ≤ i → split (lists_in (drop i cs)) ≡ whole → None ≡ whole
split_done cs i le h = sym (ap (λ xs. split (lists_in xs)) (drop_all i cs le)) ∙ h
