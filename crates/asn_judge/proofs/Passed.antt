-- Whether a type accepts a tree, by the targets that it passes on the way to its head.
use Rattle.std.proofs.Common.{◌≡◌, ℕ, zero, suc, ◌+◌, ◌-◌, ◌<◌, ◌≤◌, List, [], length, Option, Some, None, refl, sym, subst, ap, ◌∙◌, arith}
use Rattle.asn_tree.specs.declared.constraints.Constraint.{Constraint}
use Rattle.asn_meaning_heads.specs.Trails.{Passes, constraints_at, place_at, trail}
use Rattle.asn_meaning_heads.proofs.Leading.{head_at_more}
use Rattle.asn_meaning_heads.proofs.Passing.{ends_at, head_at, leads_at, no_head_before, passed_few, target_at, unpassed}
use Rattle.asn_judge.proofs.Accepting.{accepted_headed, accepted_headless, accepts_suc, stands_as_head, stands_beyond}
use Rattle.asn_meaning.specs.Answers.{Answer, Unknown, both}
use Rattle.asn_meaning.specs.Constraints.{all_hold}
use Rattle.asn_meaning.specs.Definitions.{Definitions}
use Rattle.asn_meaning.specs.Judge.{accepts_at, head_accepts, meaning, nothing_known, stands_for}
use Rattle.asn_meaning.specs.Names.{Lead, IsHead, LeadsTo, IsLost, head_from, lead}
use Rattle.asn_meaning.specs.Numbers.{Numbers}
use Rattle.asn_meaning.specs.Ranges.{all_constraints, numbers_before}
use Rattle.asn_meaning.specs.Scopes.{Place, Target}
use Rattle.asn_meaning.specs.ValueTrees.{ValueTree}

-- ---- without a head

not_accepted : (defs : Definitions) (n : ℕ) (p : Place) (cs : List Constraint) (t : ValueTree) → (meaning defs n).head p ≡ None → (meaning defs n).accepts p cs t ≡ Unknown
unfolding meaning nothing_known
not_accepted defs zero p cs t e = refl
not_accepted defs (suc n) p cs t e =
    accepts_suc defs (suc n) n p cs t refl
    ∙ accepted_headless defs (meaning defs n) p cs t (no_head_before defs n p e)
    ∙ ap (λ a. both a Unknown) (by_lead (lead defs (meaning defs n) p) (λ x f. not_accepted defs n x.place x.constraints t f) (sym (head_at_more defs (suc n) n p refl) ∙ e))
  where
    by_lead : (l : Lead) → ((x : Target) → (meaning defs n).head x.place ≡ None → (meaning defs n).accepts x.place x.constraints t ≡ Unknown) → head_from (meaning defs n) p l ≡ None →
        stands_for (meaning defs n) t p l ≡ Unknown
    by_lead IsHead next f = absurd cc
    by_lead (LeadsTo x) next f = next x f
    by_lead IsLost next f = refl

pub lost_unknown : (defs : Definitions) (n : ℕ) (p : Place) (cs : List Constraint) (t : ValueTree) → (meaning defs (suc n)).head p ≡ None → accepts_at defs (meaning defs n) p cs t ≡ Unknown
lost_unknown defs n p cs t e = sym (accepts_suc defs (suc n) n p cs t refl) ∙ not_accepted defs (suc n) p cs t e

-- ---- from the head backwards

pub stands_end : (defs : Definitions) (n : ℕ) (p : Place) (xs : List Target) (t : ValueTree) → Passes defs n p xs → (m : ℕ) → (a : Answer) →
    a ≡ head_accepts (meaning defs (n - length xs + m)) t (place_at p xs (length xs)) →
    a ≡ stands_for (meaning defs (n - length xs + m)) t (place_at p xs (length xs)) (lead defs (meaning defs (n - length xs + m)) (place_at p xs (length xs)))
stands_end defs n p xs t h m a e =
    e ∙ sym (stands_as_head (meaning defs (n - length xs + m)) t (place_at p xs (length xs)) (lead defs (meaning defs (n - length xs + m)) (place_at p xs (length xs))) (ends_at defs n p xs h m))

-- what stands at a place on the way is what the next place and its constraints say
stands_led : (defs : Definitions) (n : ℕ) (p : Place) (xs : List Target) (t : ValueTree) → Passes defs n p xs → (k : ℕ) → k < length xs → (m : ℕ) →
    stands_for (meaning defs (n - k + m)) t (place_at p xs k) (lead defs (meaning defs (n - k + m)) (place_at p xs k))
    ≡ both
    (stands_for (meaning defs (n - suc k + m)) t (place_at p xs (suc k)) (lead defs (meaning defs (n - suc k + m)) (place_at p xs (suc k))))
    (all_hold (meaning defs (n - suc k + m)) (place_at p xs (suc k)).scope (place_at p xs (length xs)) (numbers_before defs (meaning defs (n - suc k + m)) (place_at p xs (suc k)))
    (all_constraints (place_at p xs (suc k)) (constraints_at [] xs (suc k))) t)
stands_led defs n p xs t h k lt m =
    let few : length xs < n = passed_few defs n p xs h in
    stands_beyond (meaning defs (n - k + m)) t (place_at p xs k) (lead defs (meaning defs (n - k + m)) (place_at p xs k)) (target_at p [] xs (suc k)) (leads_at defs n p [] xs h k lt m)
    ∙ accepts_suc defs (n - k + m) (n - suc k + m) (place_at p xs (suc k)) (constraints_at [] xs (suc k)) t (omega arith)
    ∙ accepted_headed defs (meaning defs (n - suc k + m)) (place_at p xs (suc k)) (place_at p xs (length xs)) (constraints_at [] xs (suc k)) t (head_at defs n p xs h (suc k) (omega arith) m)

pub stands_next : (defs : Definitions) (n : ℕ) (p : Place) (xs : List Target) (t : ValueTree) → Passes defs n p xs → (i k : ℕ) → suc k ≡ i → i ≤ length xs → (m : ℕ) →
    (before after : Answer) (numbers : Option Numbers) →
    before ≡ stands_for (meaning defs (n - i + m)) t (place_at p xs i) (lead defs (meaning defs (n - i + m)) (place_at p xs i)) →
    numbers ≡ numbers_before defs (meaning defs (n - i + m)) (place_at p xs i) →
    after ≡ both before (all_hold (meaning defs (n - i + m)) (place_at p xs i).scope (place_at p xs (length xs)) numbers (all_constraints (place_at p xs i) (constraints_at [] xs i)) t) →
    after ≡ stands_for (meaning defs (n - k + m)) t (place_at p xs k) (lead defs (meaning defs (n - k + m)) (place_at p xs k))
stands_next defs n p xs t h i k one le m before after numbers e f g =
    g
    ∙ ap (λ a. both a (all_hold (meaning defs (n - i + m)) (place_at p xs i).scope (place_at p xs (length xs)) numbers (all_constraints (place_at p xs i) (constraints_at [] xs i)) t)) e
    ∙ ap (λ s. both (stands_for (meaning defs (n - i + m)) t (place_at p xs i) (lead defs (meaning defs (n - i + m)) (place_at p xs i)))
    (all_hold (meaning defs (n - i + m)) (place_at p xs i).scope (place_at p xs (length xs)) s (all_constraints (place_at p xs i) (constraints_at [] xs i)) t)) f
    ∙ subst (λ j. both (stands_for (meaning defs (n - j + m)) t (place_at p xs j) (lead defs (meaning defs (n - j + m)) (place_at p xs j)))
    (all_hold (meaning defs (n - j + m)) (place_at p xs j).scope (place_at p xs (length xs)) (numbers_before defs (meaning defs (n - j + m)) (place_at p xs j))
    (all_constraints (place_at p xs j) (constraints_at [] xs j)) t)
    ≡ stands_for (meaning defs (n - k + m)) t (place_at p xs k) (lead defs (meaning defs (n - k + m)) (place_at p xs k))) one
    (sym (stands_led defs n p xs t h k (omega arith) m))

-- the same, where each part is told apart: so many steps are left, the type at the place, the head, the constraints
pub stands_before_these : (defs : Definitions) (n : ℕ) (p : Place) (xs : List Target) (t : ValueTree) → Passes defs n p xs → (i left len : ℕ) (here head : Place) (cs : List Constraint) →
    0 < i → i ≤ len → len ≡ length xs → left ≡ n - (i - 1 + 1) → here ≡ place_at p xs (i - 1 + 1) → head ≡ place_at p xs len → cs ≡ constraints_at [] xs (i - 1 + 1) → (m : ℕ) →
    (before after : Answer) (numbers : Option Numbers) →
    before ≡ stands_for (meaning defs (n - i + m)) t (place_at p xs i) (lead defs (meaning defs (n - i + m)) (place_at p xs i)) →
    numbers ≡ numbers_before defs (meaning defs (n - i + m)) (place_at p xs i) →
    after ≡ both before (all_hold (meaning defs (left + m)) here.scope head numbers (all_constraints here cs) t) →
    after ≡ stands_for (meaning defs (n - (i - 1) + m)) t (place_at p xs (i - 1)) (lead defs (meaning defs (n - (i - 1) + m)) (place_at p xs (i - 1)))
stands_before_these defs n p xs t h i left len here head cs lt le is a b c d m before after numbers e f g =
    let one : i - 1 + 1 ≡ i = omega arith in
    stands_next defs n p xs t h i (i - 1) (omega arith) (omega arith) m before after numbers e f
    (g ∙ ap (both before)
    (ap (λ l. all_hold (meaning defs (l + m)) here.scope head numbers (all_constraints here cs) t) (a ∙ ap (λ k. n - k) one)
    ∙ ap (λ q. all_hold (meaning defs (n - i + m)) q.scope head numbers (all_constraints q cs) t) (b ∙ ap (place_at p xs) one)
    ∙ ap (λ q. all_hold (meaning defs (n - i + m)) (place_at p xs i).scope q numbers (all_constraints (place_at p xs i) cs) t) (c ∙ ap (place_at p xs) is)
    ∙ ap (λ x. all_hold (meaning defs (n - i + m)) (place_at p xs i).scope (place_at p xs (length xs)) numbers (all_constraints (place_at p xs i) x) t) (d ∙ ap (constraints_at [] xs) one)))

-- What is said at the first place, with its constraints, is what the type says.
pub accepted_all : (defs : Definitions) (n : ℕ) (p : Place) (xs : List Target) (cs : List Constraint) (t : ValueTree) → Passes defs n p xs → (i len : ℕ) (head : Place) → i ≤ 0 →
    len ≡ length xs → head ≡ place_at p xs len → (m : ℕ) → (before after : Answer) (numbers : Option Numbers) →
    before ≡ stands_for (meaning defs (n - i + m)) t (place_at p xs i) (lead defs (meaning defs (n - i + m)) (place_at p xs i)) →
    numbers ≡ numbers_before defs (meaning defs (n - i + m)) (place_at p xs i) →
    after ≡ both before (all_hold (meaning defs (n + m)) p.scope head numbers (all_constraints p cs) t) → after ≡ accepts_at defs (meaning defs (n + m)) p cs t
accepted_all defs n p xs cs t h (suc i) len head le is c m before after numbers e f g = absurd (omega arith)
accepted_all defs n p xs cs t h zero len head le is c m before after numbers e f g =
    let same : n - 0 + m ≡ n + m = omega arith in
    g
    ∙ ap (λ q. both before (all_hold (meaning defs (n + m)) p.scope q numbers (all_constraints p cs) t)) (c ∙ ap (place_at p xs) is)
    ∙ ap (λ a. both a (all_hold (meaning defs (n + m)) p.scope (place_at p xs (length xs)) numbers (all_constraints p cs) t))
    (subst (λ j. before ≡ stands_for (meaning defs j) t p (lead defs (meaning defs j) p)) same e)
    ∙ ap (λ s. both (stands_for (meaning defs (n + m)) t p (lead defs (meaning defs (n + m)) p)) (all_hold (meaning defs (n + m)) p.scope (place_at p xs (length xs)) s (all_constraints p cs) t))
    (subst (λ j. numbers ≡ numbers_before defs (meaning defs j) p) same f)
    ∙ sym (accepted_headed defs (meaning defs (n + m)) p (place_at p xs (length xs)) cs t (subst (λ j. (meaning defs j).head p ≡ Some (place_at p xs (length xs))) same (head_at defs n p xs h 0 (omega arith) m)))

pub lost_at_all : (defs : Definitions) (n : ℕ) (p : Place) (cs : List Constraint) (t : ValueTree) → ((k : ℕ) → trail defs (n + k) p ≡ None) → (m : ℕ) → accepts_at defs (meaning defs (n + m)) p cs t ≡ Unknown
lost_at_all defs n p cs t h m =
    let more : n + (m + 1) ≡ suc (n + m) = omega arith in
    lost_unknown defs (n + m) p cs t (unpassed defs (suc (n + m)) p (subst (λ k. trail defs k p ≡ None) more (h (m + 1))))

pub stands_at_head : (defs : Definitions) (n : ℕ) (p : Place) (xs : List Target) (t : ValueTree) → Passes defs n p xs → (left len : ℕ) (head : Place) → len ≡ length xs → left ≡ n - len → head ≡ place_at p xs len → (m : ℕ) → (a : Answer) →
    a ≡ head_accepts (meaning defs (left + m)) t head → a ≡ stands_for (meaning defs (n - len + m)) t (place_at p xs len) (lead defs (meaning defs (n - len + m)) (place_at p xs len))
stands_at_head defs n p xs t h left len head is b c m a e =
    subst (λ k. a ≡ stands_for (meaning defs (n - k + m)) t (place_at p xs k) (lead defs (meaning defs (n - k + m)) (place_at p xs k))) (sym is)
    (stands_end defs n p xs t h m a
    (e ∙ ap (λ l. head_accepts (meaning defs (l + m)) t head) (b ∙ ap (λ k. n - k) is) ∙ ap (λ q. head_accepts (meaning defs (n - length xs + m)) t q) (c ∙ ap (place_at p xs) is)))
