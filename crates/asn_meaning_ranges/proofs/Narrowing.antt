-- The whole numbers that constraints and types leave, within a number of steps.
use Rattle.std.proofs.Common.{◌≡◌, ℕ, ◌+◌, ◌-◌, ◌<◌, ◌≤◌, suc, Bool, true, false, if◌then◌else◌, List, [], ◌∷◌, ◌++◌, drop, length, get_or, Option, Some, None, refl, sym, ap, ◌∙◌, arith}
use Rattle.std.proofs.lemmas.List.{drop_more, drop_all}
use Rattle.asn_tree.specs.declared.constraints.Constraint.{Constraint, out-Constraint}
use Rattle.asn_tree.specs.declared.constraints.Constraint.TheVariants as constraint
use Rattle.asn_tree.specs.declared.constraints.ElementOrSetOperation.{ElementOrSetOperation}
use Rattle.asn_meaning.specs.Answers.{once}
use Rattle.asn_meaning.specs.Definitions.{Definitions}
use Rattle.asn_meaning.specs.Judge.{meaning, step}
use Rattle.asn_meaning.specs.Kinds.{kind_of}
use Rattle.asn_meaning.specs.Meaning.{Meaning, Parent, ValuesOf}
use Rattle.asn_meaning.specs.Names.{IsHead, LeadsTo, IsLost, lead}
use Rattle.asn_meaning.specs.Numbers.{Chain, Numbers, in_both, lifted, number_sets, ranked}
use Rattle.asn_meaning.specs.Placed.{listed}
use Rattle.asn_meaning.specs.Ranges.{all_constraints, is_free, narrowed, narrowed_at, narrowed_by_all, numbers_at, numbers_at_head, numbers_before, numbers_from_lead, numbers_in_set}
use Rattle.asn_meaning.specs.Scopes.{Scope, Place, Target}
use Rattle.asn_tree_notation.specs.Types.{constraints_of}
use Rattle.asn_meaning_ranges.specs.inner.Joining.{numbers_of_element}

-- ---- steps

pub numbers_suc : (defs : Definitions) (n k : ℕ) (p : Place) (cs : List Constraint) → n ≡ suc k → (meaning defs n).numbers p cs ≡ numbers_at defs (meaning defs k) p cs
unfolding meaning step
numbers_suc defs n k p cs e = ap (λ i. (meaning defs i).numbers p cs) e

pub more_steps : (defs : Definitions) (n m : ℕ) (p : Place) (cs : List Constraint) → 0 < n → (meaning defs (n + m)).numbers p cs ≡ numbers_at defs (meaning defs (n - 1 + m)) p cs
more_steps defs n m p cs lt = numbers_suc defs (n + m) (n - 1 + m) p cs (omega arith)

-- ---- one constraint behind another

in_order : (M : Meaning) (scope : Scope) (head : Place) (numbers : Option Numbers) (cs ds : List Constraint) →
    narrowed_by_all M scope head numbers (cs ++ ds) ≡ narrowed_by_all M scope head (narrowed_by_all M scope head numbers cs) ds
in_order M scope head numbers [] ds = refl
in_order M scope head numbers (c ∷ cs) ds = in_order M scope head (narrowed M scope head numbers c) cs ds

pub narrowed_next : (M : Meaning) (scope : Scope) (head : Place) (numbers next : Option Numbers) (cs : List Constraint) (i : ℕ) (c : Constraint) → i < length cs → c ≡ get_or cs i c →
    next ≡ narrowed M scope head numbers c → narrowed_by_all M scope head next (drop (i + 1) cs) ≡ narrowed_by_all M scope head numbers (drop i cs)
narrowed_next M scope head numbers next cs i c lt e is =
    ap (λ s. narrowed_by_all M scope head s (drop (i + 1) cs)) is
    ∙ sym (ap (narrowed_by_all M scope head numbers) (drop_more cs i c lt ∙ ap (λ x. x ∷ drop (i + 1) cs) (sym e)))

pub narrowed_done : (M : Meaning) (scope : Scope) (head : Place) (numbers : Option Numbers) (cs : List Constraint) (i : ℕ) → length cs ≤ i →
    narrowed_by_all M scope head numbers (drop i cs) ≡ numbers
narrowed_done M scope head numbers cs i le = ap (narrowed_by_all M scope head numbers) (drop_all i cs le)

-- ---- types

pub headless : (defs : Definitions) (M : Meaning) (p : Place) (cs : List Constraint) → M.head p ≡ None → numbers_at defs M p cs ≡ None
headless defs M p cs e = ap (λ h. once None h (λ head. narrowed_by_all M p.scope head (numbers_before defs M p) (all_constraints p cs))) e

pub headed : (defs : Definitions) (M : Meaning) (p h : Place) (cs : List Constraint) → M.head p ≡ Some h →
    numbers_at defs M p cs ≡ narrowed_by_all M p.scope h (numbers_before defs M p) (all_constraints p cs)
headed defs M p h cs e = ap (λ h. once None h (λ head. narrowed_by_all M p.scope head (numbers_before defs M p) (all_constraints p cs))) e

pub own_first : (M : Meaning) (h p : Place) (own cs : List Constraint) (numbers before between : Option Numbers) → before ≡ numbers → own ≡ listed (constraints_of p.ty) →
    between ≡ narrowed_by_all M p.scope h before own → narrowed_by_all M p.scope h between cs ≡ narrowed_by_all M p.scope h numbers (all_constraints p cs)
own_first M h p own cs numbers before between is at are =
    ap (λ s. narrowed_by_all M p.scope h s cs) are
    ∙ ap (λ xs. narrowed_by_all M p.scope h (narrowed_by_all M p.scope h before xs) cs) at
    ∙ ap (λ s. narrowed_by_all M p.scope h (narrowed_by_all M p.scope h s (listed (constraints_of p.ty))) cs) is
    ∙ sym (in_order M p.scope h numbers (listed (constraints_of p.ty)) cs)

pub at_head : (defs : Definitions) (M : Meaning) (p : Place) → lead defs M p ≡ IsHead → numbers_before defs M p ≡ Some (numbers_at_head (kind_of p))
at_head defs M p e = ap (numbers_from_lead M p) e

pub led_on : (defs : Definitions) (M : Meaning) (p : Place) (x : Target) → lead defs M p ≡ LeadsTo x → numbers_before defs M p ≡ M.numbers x.place x.constraints
led_on defs M p x e = ap (numbers_from_lead M p) e

pub lost : (defs : Definitions) (M : Meaning) (p : Place) → lead defs M p ≡ IsLost → numbers_before defs M p ≡ None
lost defs M p e = ap (numbers_from_lead M p) e

-- ---- one constraint

counts_as_true : (b : Bool) (x y : Option Numbers) → b ≡ true → (if b then x else y) ≡ x
counts_as_true true x y e = refl
counts_as_true false x y e = absurd cc

counts : (b : Bool) (x y : Option Numbers) → b ≡ false → (if b then x else y) ≡ y
counts false x y e = refl
counts true x y e = absurd cc

pub free : (M : Meaning) (scope : Scope) (head : Place) (numbers : Option Numbers) (c : Constraint) → is_free head ≡ true → narrowed M scope head numbers c ≡ numbers
free M scope head numbers c e = counts_as_true (is_free head) numbers (narrowed_at M scope head numbers (out-Constraint c)) e

layered : (M : Meaning) (scope : Scope) (head : Place) (numbers : Option Numbers) (c : Constraint) → is_free head ≡ false → narrowed M scope head numbers c ≡ narrowed_at M scope head numbers (out-Constraint c)
layered M scope head numbers c e = counts (is_free head) numbers (narrowed_at M scope head numbers (out-Constraint c)) e

pub by_set : (M : Meaning) (scope : Scope) (head : Place) (numbers found : Option Numbers) (c : Constraint) (s : _) → is_free head ≡ false → c ≡ constraint.SubtypeConstraint s →
    found ≡ numbers_in_set M scope (ValuesOf head numbers) s.set → narrowed M scope head numbers c ≡ lifted in_both numbers found
by_set M scope head numbers found c s e is at =
    layered M scope head numbers c e
    ∙ ap (narrowed_at M scope head numbers) (ap out-Constraint is ∙ constraint.outs-SubtypeConstraint s)
    ∙ ap (lifted in_both numbers) (sym at)

pub by_table : (M : Meaning) (scope : Scope) (head : Place) (numbers : Option Numbers) (c : Constraint) (x : _) → is_free head ≡ false → c ≡ constraint.TableConstraint x → narrowed M scope head numbers c ≡ numbers
by_table M scope head numbers c x e is = layered M scope head numbers c e ∙ ap (narrowed_at M scope head numbers) (ap out-Constraint is ∙ constraint.outs-TableConstraint x)

pub by_arguments : (M : Meaning) (scope : Scope) (head : Place) (numbers : Option Numbers) (c : Constraint) (x : _) → is_free head ≡ false → c ≡ constraint.Parameter x → narrowed M scope head numbers c ≡ numbers
by_arguments M scope head numbers c x e is = layered M scope head numbers c e ∙ ap (narrowed_at M scope head numbers) (ap out-Constraint is ∙ constraint.outs-Parameter x)

pub by_content : (M : Meaning) (scope : Scope) (head : Place) (numbers : Option Numbers) (c : Constraint) (x : _) → is_free head ≡ false → c ≡ constraint.ContentConstraint x → narrowed M scope head numbers c ≡ numbers
by_content M scope head numbers c x e is = layered M scope head numbers c e ∙ ap (narrowed_at M scope head numbers) (ap out-Constraint is ∙ constraint.outs-ContentConstraint x)

-- ---- sets of elements

pub chained : (M : Meaning) (scope : Scope) (parent : Parent) (set : ElementOrSetOperation) (c : Chain) → M.chain set ≡ Some c →
    numbers_in_set M scope parent set ≡ ranked number_sets (numbers_of_element M scope parent) c
chained M scope parent set c e = ap (λ c. once None c (ranked number_sets (numbers_of_element M scope parent))) e
