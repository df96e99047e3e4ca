-- The whole numbers of a type by the targets that it passes on the way to its head.
use Rattle.std.proofs.Common.{◌≡◌, ℕ, zero, suc, ◌+◌, ◌-◌, ◌<◌, ◌≤◌, List, [], length, Option, Some, None, refl, sym, subst, ap, ◌∙◌, arith}
use Rattle.asn_tree.specs.declared.constraints.Constraint.{Constraint}
use Rattle.asn_meaning_heads.specs.Trails.{Passes, constraints_at, place_at, trail}
use Rattle.asn_meaning_heads.proofs.Leading.{head_at_more}
use Rattle.asn_meaning_heads.proofs.Passing.{ends_at, head_at, leads_at, no_head_before, passed_few, target_at, unpassed}
use Rattle.asn_meaning.specs.Definitions.{Definitions}
use Rattle.asn_meaning.specs.Judge.{meaning, nothing_known}
use Rattle.asn_meaning.specs.Kinds.{kind_of}
use Rattle.asn_meaning.specs.Names.{Lead, IsHead, LeadsTo, IsLost, head_from, lead}
use Rattle.asn_meaning.specs.Numbers.{Numbers}
use Rattle.asn_meaning.specs.Ranges.{all_constraints, narrowed_by_all, numbers_at, numbers_at_head, numbers_before, numbers_from_lead}
use Rattle.asn_meaning.specs.Scopes.{Place, Target}
use Rattle.asn_meaning_ranges.proofs.Narrowing.{at_head, headed, headless, led_on, numbers_suc}

-- ---- without a head

pub no_numbers : (defs : Definitions) (n : ℕ) (p : Place) (cs : List Constraint) → (meaning defs n).head p ≡ None → (meaning defs n).numbers p cs ≡ None
unfolding meaning nothing_known
no_numbers defs zero p cs e = refl
no_numbers defs (suc n) p cs e = numbers_suc defs (suc n) n p cs refl ∙ headless defs (meaning defs n) p cs (no_head_before defs n p e)

pub lost_before : (defs : Definitions) (n : ℕ) (p : Place) → (meaning defs (suc n)).head p ≡ None → numbers_before defs (meaning defs n) p ≡ None
lost_before defs n p e = by_lead (lead defs (meaning defs n) p) (sym (head_at_more defs (suc n) n p refl) ∙ e)
  where
    by_lead : (l : Lead) → head_from (meaning defs n) p l ≡ None → numbers_from_lead (meaning defs n) p l ≡ None
    by_lead IsHead f = absurd cc
    by_lead (LeadsTo x) f = no_numbers defs n x.place x.constraints f
    by_lead IsLost f = refl

-- ---- from the head backwards

pub numbers_end : (defs : Definitions) (n : ℕ) (p : Place) (xs : List Target) → Passes defs n p xs → (m : ℕ) →
    Some (numbers_at_head (kind_of (place_at p xs (length xs)))) ≡ numbers_before defs (meaning defs (n - length xs + m)) (place_at p xs (length xs))
numbers_end defs n p xs h m = sym (at_head defs (meaning defs (n - length xs + m)) (place_at p xs (length xs)) (ends_at defs n p xs h m))

-- the numbers at a place on the way are those before the constraints of the place before it
numbers_led : (defs : Definitions) (n : ℕ) (p : Place) (xs : List Target) → Passes defs n p xs → (k : ℕ) → k < length xs → (m : ℕ) →
    numbers_before defs (meaning defs (n - k + m)) (place_at p xs k)
    ≡ narrowed_by_all (meaning defs (n - suc k + m)) (place_at p xs (suc k)).scope (place_at p xs (length xs)) (numbers_before defs (meaning defs (n - suc k + m)) (place_at p xs (suc k)))
    (all_constraints (place_at p xs (suc k)) (constraints_at [] xs (suc k)))
numbers_led defs n p xs h k lt m =
    let few : length xs < n = passed_few defs n p xs h in
    led_on defs (meaning defs (n - k + m)) (place_at p xs k) (target_at p [] xs (suc k)) (leads_at defs n p [] xs h k lt m)
    ∙ numbers_suc defs (n - k + m) (n - suc k + m) (place_at p xs (suc k)) (constraints_at [] xs (suc k)) (omega arith)
    ∙ headed defs (meaning defs (n - suc k + m)) (place_at p xs (suc k)) (place_at p xs (length xs)) (constraints_at [] xs (suc k)) (head_at defs n p xs h (suc k) (omega arith) m)

pub numbers_next : (defs : Definitions) (n : ℕ) (p : Place) (xs : List Target) → Passes defs n p xs → (i k : ℕ) → suc k ≡ i → i ≤ length xs → (m : ℕ) → (before after : Option Numbers) →
    before ≡ numbers_before defs (meaning defs (n - i + m)) (place_at p xs i) →
    after ≡ narrowed_by_all (meaning defs (n - i + m)) (place_at p xs i).scope (place_at p xs (length xs)) before (all_constraints (place_at p xs i) (constraints_at [] xs i)) →
    after ≡ numbers_before defs (meaning defs (n - k + m)) (place_at p xs k)
numbers_next defs n p xs h i k one le m before after e f =
    f ∙ ap (λ s. narrowed_by_all (meaning defs (n - i + m)) (place_at p xs i).scope (place_at p xs (length xs)) s (all_constraints (place_at p xs i) (constraints_at [] xs i))) e
    ∙ subst (λ j. narrowed_by_all (meaning defs (n - j + m)) (place_at p xs j).scope (place_at p xs (length xs)) (numbers_before defs (meaning defs (n - j + m)) (place_at p xs j))
    (all_constraints (place_at p xs j) (constraints_at [] xs j)) ≡ numbers_before defs (meaning defs (n - k + m)) (place_at p xs k)) one
    (sym (numbers_led defs n p xs h k (omega arith) m))

-- the same, where each part is told apart: so many steps are left, the type at the place, the head, the constraints
pub numbers_before_these : (defs : Definitions) (n : ℕ) (p : Place) (xs : List Target) → Passes defs n p xs → (i left len : ℕ) (here head : Place) (cs : List Constraint) → 0 < i → i ≤ len →
    len ≡ length xs → left ≡ n - (i - 1 + 1) → here ≡ place_at p xs (i - 1 + 1) → head ≡ place_at p xs len → cs ≡ constraints_at [] xs (i - 1 + 1) → (m : ℕ) →
    (before after : Option Numbers) → before ≡ numbers_before defs (meaning defs (n - i + m)) (place_at p xs i) →
    after ≡ narrowed_by_all (meaning defs (left + m)) here.scope head before (all_constraints here cs) → after ≡ numbers_before defs (meaning defs (n - (i - 1) + m)) (place_at p xs (i - 1))
numbers_before_these defs n p xs h i left len here head cs lt le is a b c d m before after e f =
    let one : i - 1 + 1 ≡ i = omega arith in
    numbers_next defs n p xs h i (i - 1) (omega arith) (omega arith) m before after e
    (f
    ∙ ap (λ l. narrowed_by_all (meaning defs (l + m)) here.scope head before (all_constraints here cs)) (a ∙ ap (λ k. n - k) one)
    ∙ ap (λ q. narrowed_by_all (meaning defs (n - i + m)) q.scope head before (all_constraints q cs)) (b ∙ ap (place_at p xs) one)
    ∙ ap (λ q. narrowed_by_all (meaning defs (n - i + m)) (place_at p xs i).scope q before (all_constraints (place_at p xs i) cs)) (c ∙ ap (place_at p xs) is)
    ∙ ap (λ x. narrowed_by_all (meaning defs (n - i + m)) (place_at p xs i).scope (place_at p xs (length xs)) before (all_constraints (place_at p xs i) x)) (d ∙ ap (constraints_at [] xs) one))

pub numbers_first : (defs : Definitions) (n : ℕ) (p : Place) (xs : List Target) (i m : ℕ) (found : Option Numbers) → i ≤ 0 →
    found ≡ numbers_before defs (meaning defs (n - i + m)) (place_at p xs i) → found ≡ numbers_before defs (meaning defs (n + m)) p
numbers_first defs n p xs zero m found le e = subst (λ k. found ≡ numbers_before defs (meaning defs k) p) (omega arith) e
numbers_first defs n p xs (suc i) m found le e = absurd (omega arith)

pub numbers_of_all : (defs : Definitions) (n : ℕ) (p : Place) (xs : List Target) (cs : List Constraint) → Passes defs n p xs → (len : ℕ) (head : Place) → len ≡ length xs → head ≡ place_at p xs len → (m : ℕ) →
    (before after : Option Numbers) → before ≡ numbers_before defs (meaning defs (n + m)) p →
    after ≡ narrowed_by_all (meaning defs (n + m)) p.scope head before (all_constraints p cs) → after ≡ numbers_at defs (meaning defs (n + m)) p cs
numbers_of_all defs n p xs cs h len head is at m before after e f =
    f
    ∙ ap (λ q. narrowed_by_all (meaning defs (n + m)) p.scope q before (all_constraints p cs)) (at ∙ ap (place_at p xs) is)
    ∙ ap (λ s. narrowed_by_all (meaning defs (n + m)) p.scope (place_at p xs (length xs)) s (all_constraints p cs)) e
    ∙ sym (headed defs (meaning defs (n + m)) p (place_at p xs (length xs)) cs
    (subst (λ k. (meaning defs k).head p ≡ Some (place_at p xs (length xs))) (omega arith) (head_at defs n p xs h 0 (omega arith) m)))

pub numbers_of_none : (defs : Definitions) (n : ℕ) (p : Place) (cs : List Constraint) → trail defs n p ≡ None → numbers_at defs (meaning defs n) p cs ≡ None
numbers_of_none defs n p cs e = headless defs (meaning defs n) p cs (unpassed defs n p e)

pub lost_at_all : (defs : Definitions) (n : ℕ) (p : Place) → ((k : ℕ) → trail defs (n + k) p ≡ None) → (m : ℕ) → numbers_before defs (meaning defs (n + m)) p ≡ None
lost_at_all defs n p h m =
    let more : n + (m + 1) ≡ suc (n + m) = omega arith in
    lost_before defs (n + m) p (unpassed defs (suc (n + m)) p (subst (λ k. trail defs k p ≡ None) more (h (m + 1))))

pub numbers_at_the_head : (defs : Definitions) (n : ℕ) (p : Place) (xs : List Target) → Passes defs n p xs → (len : ℕ) (head : Place) → len ≡ length xs → head ≡ place_at p xs len → (m : ℕ) →
    Some (numbers_at_head (kind_of head)) ≡ numbers_before defs (meaning defs (n - len + m)) (place_at p xs len)
numbers_at_the_head defs n p xs h len head is c m =
    ap (λ q. Some (numbers_at_head (kind_of q))) (c ∙ ap (place_at p xs) is)
    ∙ subst (λ k. Some (numbers_at_head (kind_of (place_at p xs (length xs)))) ≡ numbers_before defs (meaning defs (n - k + m)) (place_at p xs k)) (sym is) (numbers_end defs n p xs h m)
