-- The names that a type passes on the way to its head, one by one.
use Rattle.std.proofs.Common.{◌≡◌, ℕ, zero, suc, ◌+◌, ◌-◌, ◌<◌, Bool, true, ◌&&◌, List, [], ◌∷◌, ◌++◌, Option, Some, None, refl, sym, ap, ◌∙◌}
use Rattle.std.proofs.lemmas.List.{append-nil, append_assoc, map-append}
use Rattle.asn_meaning_heads.specs.declared.places.Target.{Target as LentTarget}
use Rattle.asn_meaning_heads.specs.Places.{shown_target}
use Rattle.asn_meaning_heads.specs.Trails.{shown_targets, trail, trail_by}
use Rattle.asn_meaning_heads.specs.Circles.{is_circular}
use Rattle.asn_meaning_heads.proofs.Circling.{lost_headless}
use Rattle.asn_meaning_heads.proofs.Leading.{head_at_more, one_more as next_step}
use Rattle.asn_meaning.specs.Answers.{once}
use Rattle.asn_meaning.specs.Definitions.{Definitions}
use Rattle.asn_meaning.specs.Judge.{meaning}
use Rattle.asn_meaning.specs.Names.{Lead, IsHead, LeadsTo, IsLost, head_from, lead}
use Rattle.asn_meaning.specs.Scopes.{Place, Target}

pub one_more : (targets : List LentTarget) (target : LentTarget) → shown_targets (targets ++ target ∷ []) ≡ shown_targets targets ++ shown_target target ∷ []
one_more targets target = map-append shown_target targets (target ∷ [])

-- these targets and those behind them
abbrev pub behind : List Target → Option (List Target) → Option (List Target)
behind xs found = once None found (λ ys. Some (xs ++ ys))

trail_more : (defs : Definitions) (n k : ℕ) (p : Place) → n ≡ suc k → trail defs n p ≡ trail_by (trail defs k) (lead defs (meaning defs k) p)
trail_more defs n k p e = ap (λ i. trail defs i p) e

pub ends_here : (defs : Definitions) (n m : ℕ) (p : Place) (xs : List Target) → 0 < n → lead defs (meaning defs (n - 1 + m)) p ≡ IsHead →
    behind xs (trail defs (n + m) p) ≡ Some xs
ends_here defs n m p xs lt e =
    ap (behind xs) (trail_more defs (n + m) (n - 1 + m) p (next_step n m lt) ∙ ap (trail_by (trail defs (n - 1 + m))) e) ∙ ap Some (append-nil xs)

added : (xs more : List Target) (x : Target) (found : Option (List Target)) → more ≡ xs ++ x ∷ [] → behind xs (once None found (λ ys. Some (x ∷ ys))) ≡ behind more found
added xs more x None e = refl
added xs more x (Some ys) e = ap Some (sym (append_assoc xs (x ∷ []) ys) ∙ ap (λ zs. zs ++ ys) (sym e))

pub goes_further : (defs : Definitions) (n m : ℕ) (p : Place) (xs more : List Target) (x : Target) → 0 < n → lead defs (meaning defs (n - 1 + m)) p ≡ LeadsTo x → more ≡ xs ++ x ∷ [] →
    behind xs (trail defs (n + m) p) ≡ behind more (trail defs (n - 1 + m) x.place)
goes_further defs n m p xs more x lt e f =
    ap (behind xs) (trail_more defs (n + m) (n - 1 + m) p (next_step n m lt) ∙ ap (trail_by (trail defs (n - 1 + m))) e)
    ∙ added xs more x (trail defs (n - 1 + m) x.place) f

pub ends_lost : (defs : Definitions) (n m : ℕ) (p : Place) (xs : List Target) → 0 < n → lead defs (meaning defs (n - 1 + m)) p ≡ IsLost →
    behind xs (trail defs (n + m) p) ≡ None
ends_lost defs n m p xs lt e =
    ap (behind xs) (trail_more defs (n + m) (n - 1 + m) p (next_step n m lt) ∙ ap (trail_by (trail defs (n - 1 + m))) e)

-- ---- without a head

headless : (defs : Definitions) (n : ℕ) (p : Place) → (meaning defs n).head p ≡ None → trail defs n p ≡ None
headless defs zero p e = refl
headless defs (suc n) p e = by_lead (lead defs (meaning defs n) p) (λ x f. headless defs n x.place f) (sym (head_at_more defs (suc n) n p refl) ∙ e)
  where
    by_lead : (l : Lead) → ((x : Target) → (meaning defs n).head x.place ≡ None → trail defs n x.place ≡ None) → head_from (meaning defs n) p l ≡ None → trail_by (trail defs n) l ≡ None
    by_lead IsHead next f = absurd cc
    by_lead (LeadsTo x) next f = ap (λ found. once None found (λ xs. Some (x ∷ xs))) (next x f)
    by_lead IsLost next f = refl

pub ends_nowhere : (defs : Definitions) (n : ℕ) (asked : Bool) (turns : ℕ) (p : Place) (xs : List Target) → (asked && is_circular defs turns p) ≡ true → behind xs (trail defs n p) ≡ None
ends_nowhere defs n asked turns p xs e = ap (behind xs) (headless defs n p (lost_headless defs asked turns p e n))
