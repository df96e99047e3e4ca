-- Walks along entries.
use Rattle.std.proofs.Common.{◌≡◌, ℕ, zero, suc, ◌-◌, ◌<◌, ◌≤◌, List, [], ◌∷◌, ◌++◌, Bool, true, false, Option, Some, None, length, refl, sym, ap, ◌∙◌, subst, arith, ◌⊎◌, inl, inr, length-append}
use Rattle.std.specs.Prelude.{nat_eq, ◌&&◌, if◌then◌else◌, slice_get, slice_set}
use Rattle.std.proofs.lemmas.Option.{slice_get_within, slice_get-get_or}
use Rattle.std.proofs.lemmas.Bool.{cases_lt}
use Rattle.std.proofs.lemmas.Bool.Decides.{eqb_tells}
use Rattle.std.proofs.Math.ListN.{get_or-append}
use Rattle.asn_match.specs.Chain.{Falls, Starts, or_next, walk, from_place}
use Rattle.asn_match.specs.declared.chains.Entry.{Entry}
use Rattle.asn_rules.specs.declared.run.Outcome.{Outcome}

-- what the next entry says, where two walks from there are the same
next_same : (f g : ℕ → Option Outcome) (r : ℕ) (o : Option Entry) → ((e : Entry) → o ≡ Some e → f e.next ≡ g e.next) → or_next f r o ≡ or_next g r o
next_same f g r None h = refl
next_same f g r (Some e) h = ap (λ x. if nat_eq e.rule r then Some e.outcome else x) (h e refl)

-- steps enough are enough
pub steps_same : (entries : List Entry) → Falls entries → (r n f g p : ℕ) → f < n → g < n → p ≤ f → p ≤ g → walk entries r f p ≡ walk entries r g p
steps_same entries falls r zero f g p a b c d = absurd (omega arith)
steps_same entries falls r (suc n) zero zero p a b c d = refl
steps_same entries falls r (suc n) zero (suc g) zero a b c d = refl
steps_same entries falls r (suc n) (suc f) zero zero a b c d = refl
steps_same entries falls r (suc n) zero (suc g) (suc p) a b c d = absurd (omega arith)
steps_same entries falls r (suc n) (suc f) zero (suc p) a b c d = absurd (omega arith)
steps_same entries falls r (suc n) (suc f) (suc g) zero a b c d = refl
steps_same entries falls r (suc n) (suc f) (suc g) (suc p) a b c d =
    next_same (walk entries r f) (walk entries r g) r (slice_get entries p) (λ e h. let low = falls p e h in steps_same entries falls r n f g e.next (omega arith) (omega arith) (omega arith) (omega arith))

get_front : (xs : List Entry) (x : Entry) (k : ℕ) → k < length xs → slice_get (xs ++ x ∷ []) k ≡ slice_get xs k
get_front xs x k lt =
    slice_get-get_or (xs ++ x ∷ []) k x (omega (arith, length-append xs (x ∷ []), lt))
    ∙ ap Some (get_or-append xs (x ∷ []) x k lt)
    ∙ sym (slice_get-get_or xs k x lt)

-- one more entry changes no walk from an earlier place
pub walk_front : (entries : List Entry) (x : Entry) → Falls entries → (r f p : ℕ) → p ≤ length entries → walk (entries ++ x ∷ []) r f p ≡ walk entries r f p
walk_front entries x falls r zero p le = refl
walk_front entries x falls r (suc f) zero le = refl
walk_front entries x falls r (suc f) (suc p) le =
    ap (or_next (walk (entries ++ x ∷ []) r f) r) (get_front entries x p (omega arith))
    ∙ next_same (walk (entries ++ x ∷ []) r f) (walk entries r f) r (slice_get entries p) (λ e h. let low = falls p e h in walk_front entries x falls r f e.next (omega arith))

get_last : (xs : List Entry) (x : Entry) → slice_get (xs ++ x ∷ []) (length xs) ≡ Some x
get_last [] x = refl
get_last (y ∷ xs) x = get_last xs x

-- the walk from the new entry
pub walk_last : (entries : List Entry) (x : Entry) (r : ℕ) → Falls entries → x.next ≤ length entries → walk (entries ++ x ∷ []) r (suc (length entries)) (suc (length entries)) ≡ (if nat_eq x.rule r then Some x.outcome else walk entries r x.next x.next)
walk_last entries x r falls le =
    ap (or_next (walk (entries ++ x ∷ []) r (length entries)) r) (get_last entries x)
    ∙ ap (λ y. if nat_eq x.rule r then Some x.outcome else y) (walk_front entries x falls r (length entries) x.next le ∙ steps_same entries falls r (suc (length entries)) (length entries) x.next x.next (omega arith) (omega arith) le (omega arith))

pub falls_more : (entries : List Entry) (x : Entry) → Falls entries → x.next ≤ length entries → Falls (entries ++ x ∷ [])
falls_more entries x falls le k e h = go (cases_lt k (length entries))
  where
    go : (k < length entries) ⊎ (length entries ≤ k) → e.next ≤ k
    go (inl lt) = falls k e (sym (get_front entries x k lt) ∙ h)
    go (inr ge) =
        let low = slice_get_within (entries ++ x ∷ []) k e h in
        let same : k ≡ length entries = omega (arith, low, length-append entries (x ∷ []), ge) in
        let last = sym (get_last entries x) ∙ ap (slice_get (entries ++ x ∷ [])) (sym same) ∙ h in
        let is : x ≡ e = cc in
        subst (λ y. y.next ≤ k) is (omega (arith, same, le))

-- from a place in the list of places
from_front : (entries : List Entry) (x : Entry) → Falls entries → (r : ℕ) (o : Option ℕ) → ((p : ℕ) → o ≡ Some p → p ≤ length entries) → from_place (entries ++ x ∷ []) r o ≡ from_place entries r o
from_front entries x falls r None h = refl
from_front entries x falls r (Some p) h = walk_front entries x falls r p p (h p refl)

-- An entry of another rule: the walk goes on from its next place.
pub next_place : (entries : List Entry) → Falls entries → (r place : ℕ) (e : Entry) → 0 < place → place ≤ length entries → slice_get entries (place - 1) ≡ Some e → nat_eq e.rule r ≡ false → (e.next ≤ length entries) × (walk entries r e.next e.next ≡ walk entries r place place)
next_place entries falls r zero e lt le h other = absurd (omega arith)
next_place entries falls r (suc k) e lt le h other =
    let k' : suc k - 1 ≡ k = omega arith in
    let at_k = ap (slice_get entries) (sym k') ∙ h in
    let low = falls k e at_k in (
      omega arith,
      steps_same entries falls r (suc k) e.next k e.next (omega arith) (omega arith) (omega arith) low
          ∙ sym (ap (or_next (walk entries r k) r) at_k ∙ ap (λ b. if b then Some e.outcome else walk entries r k e.next) other),
    )

get_same : (xs : List ℕ) (i x : ℕ) → i < length xs → slice_get (slice_set xs i x) i ≡ Some x
get_same [] i x lt = absurd (omega arith)
get_same (y ∷ xs) zero x lt = refl
get_same (y ∷ xs) (suc i) x lt = get_same xs i x (omega arith)

get_other : (xs : List ℕ) (i j x : ℕ) → (i ≡ j → ⊥) → slice_get (slice_set xs i x) j ≡ slice_get xs j
get_other [] i j x h = refl
get_other (y ∷ xs) zero zero x h = absurd (h refl)
get_other (y ∷ xs) zero (suc j) x h = refl
get_other (y ∷ xs) (suc i) zero x h = refl
get_other (y ∷ xs) (suc i) (suc j) x h = get_other xs i j x (λ e. h (ap suc e))

-- One more entry, with the place before at its offset.
pub set_place : (entries : List Entry) (newest : List ℕ) (x : Entry) (i : ℕ) → Falls entries → Starts (length entries) newest → i < length newest → slice_get newest i ≡ Some x.next → (s j : ℕ) → from_place (entries ++ x ∷ []) s (slice_get (slice_set newest i (suc (length entries))) j) ≡ (if nat_eq x.rule s && nat_eq i j then Some x.outcome else from_place entries s (slice_get newest j))
set_place entries newest x i falls starts lt before s j = go (eqb_tells i j)
  where
    here : (b : Bool) → (if b then Some x.outcome else walk entries s x.next x.next) ≡ (if b && true then Some x.outcome else from_place entries s (Some x.next))
    here true = refl
    here false = refl

    off : (b : Bool) → (b && false) ≡ false
    off true = refl
    off false = refl

    go : ((nat_eq i j ≡ true) × (i ≡ j)) ⊎ ((nat_eq i j ≡ false) × (i ≡ j → ⊥)) → from_place (entries ++ x ∷ []) s (slice_get (slice_set newest i (suc (length entries))) j) ≡ (if nat_eq x.rule s && nat_eq i j then Some x.outcome else from_place entries s (slice_get newest j))
    go (inl a) =
        ap (from_place (entries ++ x ∷ []) s) (ap (slice_get (slice_set newest i (suc (length entries)))) (sym a.1) ∙ get_same newest i (suc (length entries)) lt)
        ∙ walk_last entries x s falls (starts i x.next before)
        ∙ here (nat_eq x.rule s)
        ∙ sym (ap (λ b. if nat_eq x.rule s && b then Some x.outcome else from_place entries s (slice_get newest j)) a.0 ∙ ap (λ o. if nat_eq x.rule s && true then Some x.outcome else from_place entries s o) (ap (slice_get newest) (sym a.1) ∙ before))
    go (inr a) =
        ap (from_place (entries ++ x ∷ []) s) (get_other newest i j (suc (length entries)) a.1)
        ∙ from_front entries x falls s (slice_get newest j) (λ p h. starts j p h)
        ∙ sym (ap (λ b. if nat_eq x.rule s && b then Some x.outcome else from_place entries s (slice_get newest j)) a.0 ∙ ap (λ b. if b then Some x.outcome else from_place entries s (slice_get newest j)) (off (nat_eq x.rule s)))
