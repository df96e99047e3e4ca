-- The whole numbers that are found for a type are those that Judge accepts.
use Rattle.std.proofs.Common.{◌≡◌, ℕ, zero, suc, ◌+◌, ℤ, Bool, true, false, not, ◌&&◌, ◌||◌, List, [], ◌∷◌, Option, Some, None, refl, sym, subst, ap, ◌∙◌, arith}
use Rattle.std.specs.Prelude.{if◌then◌else◌}
use Rattle.asn_tree.specs.declared.constraints.Constraint.{Constraint, Constraint-F, out-Constraint}
use Rattle.asn_tree.specs.declared.constraints.SubtypeElement.{SubtypeElement, SubtypeElement-F, out-SubtypeElement}
use Rattle.asn_tree.specs.declared.types.ASN1Type.{ASN1Type}
use Rattle.asn_meaning.specs.Accepts.{place, judge}
use Rattle.asn_meaning.specs.Answers.{Answer, Yes, No, Unknown, both, either, denied, answer_of, once, unless_all, Denotation, Denoted, Nothing, Unsure, Refines, Within}
use Rattle.asn_meaning.specs.Constraints.{constraint_at, constraint_holds, all_hold, compared, part_holds, side_holds, range_holds, inner_at, holds_at}
use Rattle.asn_meaning.specs.Definitions.{Definitions}
use Rattle.asn_meaning.specs.Judge.{characters_at, parts_accepted, stands_for, accepts_at, nothing_known, step, meaning}
use Rattle.asn_meaning.specs.Kinds.{Kind, ChoiceKind, ReferenceKind, SelectionKind, StructKind, kind_of}
use Rattle.asn_meaning.specs.Layers.{ConstraintLayer, ElementLayer, InnerLayer}
use Rattle.asn_meaning.specs.Members.{element_place}
use Rattle.asn_meaning.specs.Meaning.{Meaning, ValuesOf}
use Rattle.asn_meaning.specs.Names.{Lead, IsHead, LeadsTo, IsLost, lead}
use Rattle.asn_meaning.specs.Numbers.{Chain, ranked, answers, Numbers, every_number, in_both, in_either, in_first, lifted, number_sets}
use Rattle.asn_meaning.specs.Ranges.{from_low, up_to_high, number_denoted, numbers_at_element, is_free, narrowed_at, narrowed, narrowed_by_all, all_constraints, numbers_at_head, numbers_from_lead, numbers_before, numbers_at}
use Rattle.asn_meaning.specs.Scopes.{Scope, Place}
use Rattle.asn_meaning.specs.Shapes.{is_of_kind, kind_or_parts, list_judged}
use Rattle.asn_meaning.specs.ValueTrees.{ValueTree, WholeNumber}
use Rattle.asn_meaning.proofs.Answering.{both_yes, both_through, same_refines, refines_through, both_refines, either_refines, denied_refines}
use Rattle.asn_meaning.proofs.Chains.{Keeps, ranked_kept}
use Rattle.asn_meaning.proofs.MoreRanges.{same_parent}
use Rattle.asn_meaning.proofs.Steps.{one_more, more_known}

-- an answer that is known is what the set says of the number, where the set is known
abbrev pub Says : ℤ → Answer → Option Numbers → Type 0
Says i a None = Unit {0}
Says i a (Some s) = Refines a (answer_of (s.has i))

both_of : (u v : Bool) → both (answer_of u) (answer_of v) ≡ answer_of (u && v)
both_of true v = refl
both_of false v = refl

either_of : (u v : Bool) → either (answer_of u) (answer_of v) ≡ answer_of (u || v)
either_of true v = refl
either_of false v = refl

denied_of : (u : Bool) → denied (answer_of u) ≡ answer_of (not u)
denied_of true = refl
denied_of false = refl

module _ (i : ℤ) where
  says_down : (a b : Answer) (o : Option Numbers) → Refines a b → Says i b o → Says i a o
  says_down a b None p q = tt
  says_down a b (Some s) p q = refines_through a b (answer_of (s.has i)) p q

  common_says : (a : Answer) (x : Option Numbers) (b : Answer) (y : Option Numbers) → Says i a x → Says i b y → Says i (both a b) (lifted in_both x y)
  common_says a None b y p q = tt
  common_says a (Some s) b None p q = tt
  common_says a (Some s) b (Some r) p q = subst (Refines (both a b)) (both_of (s.has i) (r.has i)) (both_refines a _ b _ p q)

  joined_says : (a : Answer) (x : Option Numbers) (b : Answer) (y : Option Numbers) → Says i a x → Says i b y → Says i (either a b) (lifted in_either x y)
  joined_says a None b y p q = tt
  joined_says a (Some s) b None p q = tt
  joined_says a (Some s) b (Some r) p q = subst (Refines (either a b)) (either_of (s.has i) (r.has i)) (either_refines a _ b _ p q)

  without_says : (a : Answer) (x : Option Numbers) (b : Answer) (y : Option Numbers) → Says i a x → Says i b y → Says i (both a (denied b)) (lifted in_first x y)
  without_says a None b y p q = tt
  without_says a (Some s) b None p q = tt
  without_says a (Some s) b (Some r) p q =
      subst (Refines (both a (denied b))) (ap (both (answer_of (s.has i))) (denied_of (r.has i)) ∙ both_of (s.has i) (not (r.has i)))
      (both_refines a _ (denied b) _ p (denied_refines b _ q))

  says_keep : Keeps Answer (Option Numbers) answers number_sets (Says i)
  says_keep = record { common = common_says; joined = joined_says; without = without_says; empty = refl; everything = refl }

  denoted_says : (head : Place) (n : Option Numbers) (t : ValueTree) → Says i (compared (ValuesOf head n) (WholeNumber i) (Denoted t)) (number_denoted (Denoted t))
  denoted_says head n (WholeNumber j) = same_refines _
  denoted_says head n _ = refl

  single_says : (head : Place) (n : Option Numbers) (a : Answer) (d : Denotation ValueTree) → Says i (unless_all Yes Unknown a (compared (ValuesOf head n) (WholeNumber i) d)) (unless_all (Some every_number) None a (number_denoted d))
  single_says head n Yes d = refl
  single_says head n No (Denoted t) = denoted_says head n t
  single_says head n No Nothing = refl
  single_says head n No Unsure = tt
  single_says head n Unknown d = tt

  side_says : (s : Option Numbers) → Says i (side_holds s i) s
  side_says None = tt
  side_says (Some s) = same_refines _

  range_says : (low high : Option Numbers) → Says i (range_holds low high (Some i)) (lifted in_both low high)
  range_says low high = common_says (side_holds low i) low (side_holds high i) high (side_says low) (side_says high)

  narrowed_says : (b : Bool) (a c : Answer) (x y : Option Numbers) → Says i a x → Says i (both a c) y → Says i (both a (if b then Yes else c)) (if b then x else y)
  narrowed_says true a c x y p q = subst (λ z. Says i z x) (sym (both_yes a)) p
  narrowed_says false a c x y p q = q

  -- `meant`: what is found for types; `up`: an element that is known is so one step later
  module _ (M : Meaning) (meant : (p : Place) (cs : List Constraint) → Says i (M.accepts p cs (WholeNumber i)) (M.numbers p cs)) (up : (scope : Scope) (head : Place) (n : Option Numbers) (e : SubtypeElement) → Refines (M.holds scope (ValuesOf head n) e (WholeNumber i)) (holds_at M scope (ValuesOf head n) (WholeNumber i) (out-SubtypeElement e))) where
    inner_no : (scope : Scope) (inner : InnerLayer) (inside : Scope) (k : Kind) → inner_at M scope inner (WholeNumber i) inside k ≡ No
    inner_no scope inner inside (StructKind x) = refl
    inner_no scope inner inside (ChoiceKind options) = refl
    inner_no scope inner inside _ = refl

    component_no : (scope : Scope) (cs : List Constraint) (o : Option Place) → once No o (λ p. list_judged (part_holds M scope p cs) (WholeNumber i)) ≡ No
    component_no scope cs None = refl
    component_no scope cs (Some p) = refl

    element_says : (scope : Scope) (head : Place) (n : Option Numbers) (l : ElementLayer) → Says i (holds_at M scope (ValuesOf head n) (WholeNumber i) l) (numbers_at_element M scope (ValuesOf head n) l)
    element_says scope head n (SubtypeElement-F.SingleValue v e) = single_says head n (M.is_all scope v head) (M.denotes scope v head)
    element_says scope head n (SubtypeElement-F.ContainedSubtype ty e) = meant _ []
    element_says scope head n (SubtypeElement-F.TypeConstraint ty) = meant _ []
    element_says scope head n (SubtypeElement-F.ValueRange low high low_open high_open e) = range_says (from_low M scope (ValuesOf head n) low_open low) (up_to_high M scope (ValuesOf head n) high_open high)
    element_says scope head n (SubtypeElement-F.MultipleTypeConstraints inner) = subst (λ z. Refines z No) (sym (inner_no scope inner head.scope (kind_of head))) refl
    element_says scope head n (SubtypeElement-F.SingleTypeConstraint cs) = subst (λ z. Refines z No) (sym (component_no scope cs (element_place head))) refl
    element_says scope head n _ = refl

    chain_says : (scope : Scope) (head : Place) (n : Option Numbers) (o : Option Chain) → Says i (once Unknown o (ranked answers (λ e. M.holds scope (ValuesOf head n) e (WholeNumber i)))) (once None o (ranked number_sets (λ e. numbers_at_element M scope (ValuesOf head n) (out-SubtypeElement e))))
    chain_says scope head n None = tt
    chain_says scope head n (Some c) =
        ranked_kept Answer (Option Numbers) answers number_sets (Says i) says_keep _ _ (λ e. says_down _ _ _ (up scope head n e) (element_says scope head n (out-SubtypeElement e))) c

    constraint_says : (scope : Scope) (head : Place) (a : Answer) (n : Option Numbers) → Says i a n → (l : ConstraintLayer) → Says i (both a (constraint_at M scope (ValuesOf head n) (WholeNumber i) l)) (narrowed_at M scope head n l)
    constraint_says scope head a n p (Constraint-F.SubtypeConstraint s) = common_says a n _ _ p (chain_says scope head n (M.chain s.set))
    constraint_says scope head a n p _ = subst (λ z. Says i z n) (sym (both_yes a)) p

    all_says : (scope : Scope) (head : Place) (cs : List Constraint) (a : Answer) (n : Option Numbers) → Says i a n → Says i (both a (all_hold M scope head n cs (WholeNumber i))) (narrowed_by_all M scope head n cs)
    all_says scope head [] a n p = subst (λ z. Says i z n) (sym (both_yes a)) p
    all_says scope head (c ∷ cs) a n p =
        subst (λ z. Says i z (narrowed_by_all M scope head (narrowed M scope head n c) cs)) (both_through a (constraint_holds M scope head n c (WholeNumber i)) (all_hold M scope head (narrowed M scope head n c) cs (WholeNumber i)))
        (all_says scope head cs (both a (constraint_holds M scope head n c (WholeNumber i))) (narrowed M scope head n c)
        (narrowed_says (is_free head) a _ n _ p (constraint_says scope head a n p (out-Constraint c))))

    head_says : (scope : Scope) (k : Kind) → Refines (both (characters_at (WholeNumber i) k) (kind_or_parts (is_of_kind k) (parts_accepted M scope (WholeNumber i) k) (WholeNumber i))) (answer_of ((numbers_at_head k).has i))
    head_says scope (ReferenceKind x) = tt
    head_says scope (SelectionKind x) = tt
    head_says scope _ = refl

    lead_says : (p : Place) (l : Lead) → Says i (stands_for M (WholeNumber i) p l) (numbers_from_lead M p l)
    lead_says p IsHead = head_says p.scope (kind_of p)
    lead_says p (LeadsTo x) = meant x.place x.constraints
    lead_says p IsLost = tt

    found_says : (defs : Definitions) (p : Place) (cs : List Constraint) (h : Option Place) → Says i (both (stands_for M (WholeNumber i) p (lead defs M p)) (once Unknown h (λ head. all_hold M p.scope head (numbers_before defs M p) (all_constraints p cs) (WholeNumber i)))) (once None h (λ head. narrowed_by_all M p.scope head (numbers_before defs M p) (all_constraints p cs)))
    found_says defs p cs None = tt
    found_says defs p cs (Some head) = all_says p.scope head (all_constraints p cs) (stands_for M (WholeNumber i) p (lead defs M p)) (numbers_before defs M p) (lead_says p (lead defs M p))

    accepts_says : (defs : Definitions) (p : Place) (cs : List Constraint) → Says i (accepts_at defs M p cs (WholeNumber i)) (numbers_at defs M p cs)
    accepts_says defs p cs = found_says defs p cs (M.head p)

  holds_later : (defs : Definitions) (n : ℕ) (scope : Scope) (head : Place) (k : Option Numbers) (e : SubtypeElement) → Refines ((meaning defs n).holds scope (ValuesOf head k) e (WholeNumber i)) (holds_at (meaning defs n) scope (ValuesOf head k) (WholeNumber i) (out-SubtypeElement e))
  unfolding meaning step
  holds_later defs n scope head k e = (one_more defs n).holds scope (ValuesOf head k) (ValuesOf head k) e (WholeNumber i) (same_parent (ValuesOf head k))

  step_says : (defs : Definitions) (M : Meaning) → ((p : Place) (cs : List Constraint) → Says i (M.accepts p cs (WholeNumber i)) (M.numbers p cs)) → ((scope : Scope) (head : Place) (n : Option Numbers) (e : SubtypeElement) → Refines (M.holds scope (ValuesOf head n) e (WholeNumber i)) (holds_at M scope (ValuesOf head n) (WholeNumber i) (out-SubtypeElement e))) → (p : Place) (cs : List Constraint) → Says i ((step defs M).accepts p cs (WholeNumber i)) ((step defs M).numbers p cs)
  unfolding step
  step_says defs M meant up p cs = accepts_says M meant up defs p cs

  nothing_says : (p : Place) (cs : List Constraint) → Says i (nothing_known.accepts p cs (WholeNumber i)) (nothing_known.numbers p cs)
  unfolding nothing_known
  nothing_says p cs = tt

  pub meaning_says : (defs : Definitions) (n : ℕ) (p : Place) (cs : List Constraint) → Says i ((meaning defs n).accepts p cs (WholeNumber i)) ((meaning defs n).numbers p cs)
  unfolding meaning
  meaning_says defs zero p cs = nothing_says p cs
  meaning_says defs (suc n) p cs = step_says defs (meaning defs n) (meaning_says defs n) (holds_later defs n) p cs

-- at different numbers of steps
pub numbers_agree : (defs : Definitions) (n m : ℕ) (scope : Scope) (ty : ASN1Type) (s : Numbers) (i : ℤ) → (meaning defs n).numbers (place scope ty) [] ≡ Some s → Refines (judge defs m scope ty (WholeNumber i)) (answer_of (s.has i))
numbers_agree defs n m scope ty s i e =
    let same : m + n ≡ n + m = omega arith in
    let later : (meaning defs (n + m)).numbers (place scope ty) [] ≡ Some s = subst (λ z. Within z ((meaning defs (n + m)).numbers (place scope ty) [])) e ((more_known defs n m).numbers (place scope ty) []) in
    let judged : Refines (judge defs m scope ty (WholeNumber i)) (judge defs (n + m) scope ty (WholeNumber i)) = subst (λ k. Refines (judge defs m scope ty (WholeNumber i)) (judge defs k scope ty (WholeNumber i))) same ((more_known defs m n).accepts (place scope ty) [] (WholeNumber i)) in
    refines_through _ (judge defs (n + m) scope ty (WholeNumber i)) _ judged (subst (Says i (judge defs (n + m) scope ty (WholeNumber i))) later (meaning_says i defs (n + m) (place scope ty) []))
