-- The places that a type passes on the way to its head, and what leads from each to the next.
use Rattle.std.proofs.Common.{◌≡◌, ℕ, zero, suc, ◌+◌, ◌-◌, ◌<◌, ◌≤◌, List, [], ◌∷◌, length, get_or, Option, Some, None, refl, sym, subst, ap, ◌∙◌, arith}
use Rattle.std.specs.Option.{option_copied}
use Rattle.asn_tree.specs.declared.constraints.Constraint.{Constraint}
use Rattle.asn_meaning_heads.specs.declared.places.Target.{Target as LentTarget}
use Rattle.asn_meaning_heads.specs.Places.{shown_place}
use Rattle.asn_meaning_heads.specs.Trails.{Passes, constraints_at, place_at, shown_targets, trail, trail_by}
use Rattle.asn_meaning_heads.proofs.Leading.{head_at_more}
use Rattle.asn_meaning.specs.Answers.{Within, once}
use Rattle.asn_meaning.specs.Definitions.{Definitions}
use Rattle.asn_meaning.specs.Judge.{meaning, nothing_known}
use Rattle.asn_meaning.specs.Names.{Lead, IsHead, LeadsTo, IsLost, head_from, lead}
use Rattle.asn_meaning.specs.Placed.{listed}
use Rattle.asn_meaning.specs.Scopes.{Place, Target}
use Rattle.asn_meaning.proofs.Steps.{one_more}

-- ---- places by their number

pub behind_none : (p : Place) (xs : List Target) (i : ℕ) → i ≡ 0 → p ≡ place_at p xs i
behind_none p xs zero e = refl
behind_none p xs (suc i) e = absurd (omega arith)

behind_suc : (p : Place) (xs : List LentTarget) (k : ℕ) (x : LentTarget) → k < length xs → x ≡ get_or xs k x → shown_place x.place ≡ place_at p (shown_targets xs) (suc k)
behind_suc p [] k x lt e = absurd (omega arith)
behind_suc p (first ∷ xs) zero x lt e = ap (λ y. shown_place y.place) e
behind_suc p (first ∷ xs) (suc k) x lt e = behind_suc (shown_place first.place) xs k x (omega arith) e

pub behind_some : (p : Place) (xs : List LentTarget) (i : ℕ) (x : LentTarget) → 0 < i → i ≤ length xs → x ≡ get_or xs (i - 1) x → shown_place x.place ≡ place_at p (shown_targets xs) i
behind_some p xs i x lt le e =
    let same : suc (i - 1) ≡ i = omega arith in
    behind_suc p xs (i - 1) x (omega arith) e ∙ ap (place_at p (shown_targets xs)) same

pub first_constraints : (cs : List Constraint) (xs : List Target) (i : ℕ) → i ≡ 0 → cs ≡ constraints_at cs xs i
first_constraints cs xs zero e = refl
first_constraints cs xs (suc i) e = absurd (omega arith)

constraints_suc : (cs : List Constraint) (xs : List LentTarget) (k : ℕ) (x : LentTarget) → k < length xs → x ≡ get_or xs k x →
    listed (option_copied x.constraints) ≡ constraints_at cs (shown_targets xs) (suc k)
constraints_suc cs [] k x lt e = absurd (omega arith)
constraints_suc cs (first ∷ xs) zero x lt e = ap (λ y. listed (option_copied y.constraints)) e
constraints_suc cs (first ∷ xs) (suc k) x lt e = constraints_suc (listed (option_copied first.constraints)) xs k x (omega arith) e

pub later_constraints : (cs : List Constraint) (xs : List LentTarget) (i : ℕ) (x : LentTarget) → 0 < i → i ≤ length xs → x ≡ get_or xs (i - 1) x →
    listed (option_copied x.constraints) ≡ constraints_at cs (shown_targets xs) i
later_constraints cs xs i x lt le e =
    let same : suc (i - 1) ≡ i = omega arith in
    constraints_suc cs xs (i - 1) x (omega arith) e ∙ ap (constraints_at cs (shown_targets xs)) same

-- ---- a trail that stays

trail_more : (defs : Definitions) (n k : ℕ) (p : Place) → n ≡ suc k → trail defs n p ≡ trail_by (trail defs k) (lead defs (meaning defs k) p)
trail_more defs n k p e = ap (λ i. trail defs i p) e

found_next : (next : Place → Option (List Target)) (y x : Target) (xs : List Target) (o : Option (List Target)) → next y.place ≡ o → once None o (λ ys. Some (y ∷ ys)) ≡ Some (x ∷ xs) →
    (LeadsTo y ≡ LeadsTo x) × (next x.place ≡ Some xs)
found_next next y x xs None e f = absurd cc
found_next next y x xs (Some ys) e f =
    let same : y ≡ x = cc in
    let rest : ys ≡ xs = cc in
    (ap LeadsTo same, ap (λ z. next z.place) (sym same) ∙ e ∙ ap Some rest)

leads_first : (next : Place → Option (List Target)) (l : Lead) (x : Target) (xs : List Target) → trail_by next l ≡ Some (x ∷ xs) → (l ≡ LeadsTo x) × (next x.place ≡ Some xs)
leads_first next IsHead x xs e = absurd cc
leads_first next (LeadsTo y) x xs e = found_next next y x xs (next y.place) refl e
leads_first next IsLost x xs e = absurd cc

found_none : (y : Target) (o : Option (List Target)) (l : Lead) → once None o (λ ys. Some (y ∷ ys)) ≡ Some [] → l ≡ IsHead
found_none y None l e = absurd cc
found_none y (Some ys) l e = absurd cc

ends_first : (next : Place → Option (List Target)) (l : Lead) → trail_by next l ≡ Some [] → l ≡ IsHead
ends_first next IsHead e = refl
ends_first next (LeadsTo y) e = found_none y (next y.place) (LeadsTo y) e
ends_first next IsLost e = absurd cc

some_steps : (defs : Definitions) (n : ℕ) (p : Place) (xs : List Target) → trail defs (n + 0) p ≡ Some xs → 0 < n
some_steps defs zero p xs e = absurd cc
some_steps defs (suc n) p xs e = omega arith

less : (n m : ℕ) → 0 < n → n + m ≡ suc (n - 1 + m)
less n m lt = omega arith

more : (n m : ℕ) → n + (m + 1) ≡ suc (n + m)
more n m = omega arith

record First (defs : Definitions) (n : ℕ) (p : Place) (x : Target) (xs : List Target) : Type 0 where
  some : 0 < n
  before : (m : ℕ) → lead defs (meaning defs (n - 1 + m)) p ≡ LeadsTo x
  leads : (m : ℕ) → lead defs (meaning defs (n + m)) p ≡ LeadsTo x
  rest : Passes defs (n - 1) x.place xs

first : (defs : Definitions) (n : ℕ) (p : Place) (x : Target) (xs : List Target) → Passes defs n p (x ∷ xs) → First defs n p x xs
first defs n p x xs h =
    let lt : 0 < n = some_steps defs n p (x ∷ xs) (h.at 0) in
    record {
      some = lt;
      before = λ m. (leads_first (trail defs (n - 1 + m)) (lead defs (meaning defs (n - 1 + m)) p) x xs (sym (trail_more defs (n + m) (n - 1 + m) p (less n m lt)) ∙ h.at m)).0;
      leads = λ m. (leads_first (trail defs (n + m)) (lead defs (meaning defs (n + m)) p) x xs (sym (trail_more defs (n + (m + 1)) (n + m) p (more n m)) ∙ h.at (m + 1))).0;
      rest = record {
        at = λ m. (leads_first (trail defs (n - 1 + m)) (lead defs (meaning defs (n - 1 + m)) p) x xs (sym (trail_more defs (n + m) (n - 1 + m) p (less n m lt)) ∙ h.at m)).1;
      };
    }

-- The head is the last place on the way.
heads : (defs : Definitions) (n : ℕ) (p : Place) (xs : List Target) → Passes defs n p xs → (m : ℕ) → (meaning defs (n + m)).head p ≡ Some (place_at p xs (length xs))
heads defs n p [] h m =
    let lt : 0 < n = some_steps defs n p [] (h.at 0) in
    head_at_more defs (n + m) (n - 1 + m) p (less n m lt)
    ∙ ap (head_from (meaning defs (n - 1 + m)) p)
    (ends_first (trail defs (n - 1 + m)) (lead defs (meaning defs (n - 1 + m)) p) (sym (trail_more defs (n + m) (n - 1 + m) p (less n m lt)) ∙ h.at m))
heads defs n p (x ∷ xs) h m =
    let f : First defs n p x xs = first defs n p x xs h in
    head_at_more defs (n + m) (n - 1 + m) p (less n m f.some) ∙ ap (head_from (meaning defs (n - 1 + m)) p) (f.before m)
    ∙ heads defs (n - 1) x.place xs f.rest m

-- So it is at each place on the way, within the steps that are left there.
pub head_at : (defs : Definitions) (n : ℕ) (p : Place) (xs : List Target) → Passes defs n p xs → (i : ℕ) → i ≤ length xs → (m : ℕ) →
    (meaning defs (n - i + m)).head (place_at p xs i) ≡ Some (place_at p xs (length xs))
head_at defs n p xs h zero le m = subst (λ k. (meaning defs k).head p ≡ Some (place_at p xs (length xs))) (omega arith) (heads defs n p xs h m)
head_at defs n p [] h (suc i) le m = absurd (omega arith)
head_at defs n p (x ∷ xs) h (suc i) le m =
    subst (λ k. (meaning defs k).head (place_at x.place xs i) ≡ Some (place_at x.place xs (length xs))) (omega arith)
    (head_at defs (n - 1) x.place xs (first defs n p x xs h).rest i (omega arith) m)

-- Fewer targets than steps are passed.
pub passed_few : (defs : Definitions) (n : ℕ) (p : Place) (xs : List Target) → Passes defs n p xs → length xs < n
passed_few defs n p [] h = some_steps defs n p [] (h.at 0)
passed_few defs n p (x ∷ xs) h =
    let lt : length xs < n - 1 = passed_few defs (n - 1) x.place xs (first defs n p x xs h).rest in
    omega arith

-- the target of this number, as far as it is read
abbrev pub target_at : Place → List Constraint → List Target → ℕ → Target
target_at p cs xs i = record { place = place_at p xs i; constraints = constraints_at cs xs i }

-- Each place on the way leads to the next.
pub leads_at : (defs : Definitions) (n : ℕ) (p : Place) (cs : List Constraint) (xs : List Target) → Passes defs n p xs → (i : ℕ) → i < length xs → (m : ℕ) →
    lead defs (meaning defs (n - i + m)) (place_at p xs i) ≡ LeadsTo (target_at p cs xs (suc i))
leads_at defs n p cs [] h i lt m = absurd (omega arith)
leads_at defs n p cs (x ∷ xs) h zero lt m =
    subst (λ k. lead defs (meaning defs k) p ≡ LeadsTo x) (omega arith) ((first defs n p x xs h).leads m)
leads_at defs n p cs (x ∷ xs) h (suc i) lt m =
    subst (λ k. lead defs (meaning defs k) (place_at x.place xs i) ≡ LeadsTo (target_at x.place x.constraints xs (suc i))) (omega arith)
    (leads_at defs (n - 1) x.place x.constraints xs (first defs n p x xs h).rest i (omega arith) m)

-- The last place leads nowhere.
pub ends_at : (defs : Definitions) (n : ℕ) (p : Place) (xs : List Target) → Passes defs n p xs → (m : ℕ) →
    lead defs (meaning defs (n - length xs + m)) (place_at p xs (length xs)) ≡ IsHead
ends_at defs n p [] h m =
    subst (λ k. lead defs (meaning defs k) p ≡ IsHead) (omega arith)
    (ends_first (trail defs (n + m)) (lead defs (meaning defs (n + m)) p) (sym (trail_more defs (n + (m + 1)) (n + m) p (more n m)) ∙ h.at (m + 1)))
ends_at defs n p (x ∷ xs) h m =
    subst (λ k. lead defs (meaning defs k) (place_at x.place xs (length xs)) ≡ IsHead) (omega arith)
    (ends_at defs (n - 1) x.place xs (first defs n p x xs h).rest m)

-- ---- no trail

-- Where no trail is found there is no head.
pub unpassed : (defs : Definitions) (n : ℕ) (p : Place) → trail defs n p ≡ None → (meaning defs n).head p ≡ None
unfolding meaning nothing_known
unpassed defs zero p e = refl
unpassed defs (suc n) p e = head_at_more defs (suc n) n p refl ∙ by_lead (lead defs (meaning defs n) p) (λ x f. unpassed defs n x.place f) e
  where
    none_behind : (x : Target) (o : Option (List Target)) → once None o (λ ys. Some (x ∷ ys)) ≡ None → o ≡ None
    none_behind x None f = refl
    none_behind x (Some ys) f = absurd cc

    by_lead : (l : Lead) → ((x : Target) → trail defs n x.place ≡ None → (meaning defs n).head x.place ≡ None) → trail_by (trail defs n) l ≡ None → head_from (meaning defs n) p l ≡ None
    by_lead IsHead next f = absurd cc
    by_lead (LeadsTo x) next f = next x (none_behind x (trail defs n x.place) f)
    by_lead IsLost next f = refl

absent : (p : Place) (o more : Option Place) → Within o more → more ≡ None → o ≡ None
absent p None more w e = refl
absent p (Some h) more w e = absurd cc

-- What has no head within some steps has none within fewer.
pub no_head_before : (defs : Definitions) (n : ℕ) (p : Place) → (meaning defs (suc n)).head p ≡ None → (meaning defs n).head p ≡ None
no_head_before defs n p e = absent p ((meaning defs n).head p) ((meaning defs (suc n)).head p) ((one_more defs n).head p) e
