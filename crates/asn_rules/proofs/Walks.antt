-- What pieces of a module come to, one behind the other: a text has one due place.
use Rattle.std.proofs.Common.{◌≡◌, ℕ, ◌≤◌, List, length, refl, subst, arith}
use Rattle.asn_rules.specs.Expression.{Expression, skip}
use Rattle.asn_rules.specs.Runs.{Ending, ends, fails}
use Rattle.asn_rules.specs.Due.{Piece, Comes, Stop, all_stand, lacks, Through, at_end, passing, missing, standing, IsDue, due_here, due_later}
use Rattle.asn_rules.specs.declared.names.TheConstants.{SP}
use Rattle.asn_rules.specs.declared.due.ModulePart.{ModulePart}
use Rattle.asn_rules.proofs.Theory.{one_outcome, runs_lies}

pub same_end : {j k : ℕ} → ◌≡◌ {A = Ending} (ends j) (ends k) → j ≡ k
same_end e = cc

pub no_end : {j : ℕ} → ◌≡◌ {A = Ending} (ends j) fails → ⊥
no_end e = cc

pub same_lack : {p p' : ModulePart} {j j' : ℕ} → ◌≡◌ {A = Stop} (lacks p j) (lacks p' j') → (p ≡ p') × (j ≡ j')
same_lack e = (cc, cc)

pub no_lack : {p : ModulePart} {j k : ℕ} → ◌≡◌ {A = Stop} (lacks p j) (all_stand k) → ⊥
no_lack e = cc

pub same_stand : {j k : ℕ} → ◌≡◌ {A = Stop} (all_stand j) (all_stand k) → j ≡ k
same_stand e = cc

module _ (rules : List Expression) (text : List ℕ) (d : ℕ) where
  -- an expression comes to one ending
  pub one_ending : (e : Expression) (i : ℕ) (o o' : Ending) → i ≤ length text → Comes rules text d e i o → Comes rules text d e i o' → o ≡ o'
  one_ending e i o o' le c c' = (one_outcome rules text e i o o' c.0 c'.0 le c.1 c'.1).0

  pub end_within : {e : Expression} {i j : ℕ} → i ≤ length text → Comes rules text d e i (ends j) → j ≤ length text
  end_within le c = (runs_lies rules text c.1 le).1

  -- and pieces come to one stop
  pub one_stop : (ps : List Piece) (i : ℕ) (s s' : Stop) → i ≤ length text → Through rules text d ps i s → Through rules text d ps i s' → s ≡ s'
  one_stop ps i s s' le at_end at_end = refl
  one_stop ps i s s' le (passing {e = e} {ps = qs} {j = j} c t) (passing {j = j'} c' t') =
      let same = same_end (one_ending e i (ends j) (ends j') le c c') in
      one_stop qs j' s s' (end_within le c') (subst (λ j. Through rules text d qs j s) same t) t'
  one_stop ps i s s' le (missing f) (missing f') = refl
  one_stop ps i s s' le (missing {e = e} f) (standing {j = j} c' t') = absurd (no_end (one_ending e i (ends j) fails le c' f))
  one_stop ps i s s' le (standing {e = e} {j = j} c t) (missing f') = absurd (no_end (one_ending e i (ends j) fails le c f'))
  one_stop ps i s s' le (standing {e = e} {ps = qs} {j = j} c t) (standing {j = j'} c' t') =
      let same = same_end (one_ending e i (ends j) (ends j') le c c') in
      one_stop qs j' s s' (end_within le c') (subst (λ j. Through rules text d qs j s) same t) t'

  -- Where pieces stop lies within the text.
  abbrev pub StopsWithin : Stop → Type 0
  StopsWithin (all_stand j) = j ≤ length text
  StopsWithin (lacks p j) = j ≤ length text

  pub stops_within : {ps : List Piece} {i : ℕ} {s : Stop} → i ≤ length text → Through rules text d ps i s → StopsWithin s
  stops_within le at_end = le
  stops_within le (passing c t) = stops_within (end_within le c) t
  stops_within le (missing f) = le
  stops_within le (standing c t) = stops_within (end_within le c) t

  -- a text has one due place
  pub one_place : (ps : List Piece) (i : ℕ) (p p' : ModulePart) (f f' q q' : ℕ) → i ≤ length text → IsDue rules text d ps i p f q → IsDue rules text d ps i p' f' q' → (p ≡ p') × (f ≡ f') × (q ≡ q')
  one_place ps i p p' f f' q q' le (due_here {at = at} t a b) (due_here {at = at'} t' a' b') =
      let same = same_lack (one_stop ps i (lacks p at) (lacks p' at') le t t') in
      (same.0, same_end (one_ending (skip SP) i (ends f) (ends f') le a a'), same_end (one_ending (skip SP) at' (ends q) (ends q') (stops_within le t') (subst (λ x. Comes rules text d (skip SP) x (ends q)) same.1 b) b'))
  one_place ps i p p' f f' q q' le (due_here {at = at} t a b) (due_later {j = j} t' c lt r) = absurd (no_lack (one_stop ps i (lacks p at) (all_stand j) le t t'))
  one_place ps i p p' f f' q q' le (due_later {j = j} t c lt r) (due_here {at = at} t' a b) = absurd (no_lack (one_stop ps i (lacks p' at) (all_stand j) le t' t))
  one_place ps i p p' f f' q q' le (due_later {j = j} t c lt r) (due_later {j = j'} t' c' lt' r') =
      let same = same_stand (one_stop ps i (all_stand j) (all_stand j') le t t') in
      one_place ps j' p p' f f' q q' (stops_within le t') (subst (λ j. IsDue rules text d ps j p f q) same r) r'

  -- pieces that stand end behind their start
  pub forward : {ps : List Piece} {i j : ℕ} → i ≤ length text → Through rules text d ps i (all_stand j) → i ≤ j
  forward le at_end = omega arith
  forward le (passing c t) =
      let x = runs_lies rules text c.1 le in
      omega (arith, x.0, forward x.1 t)
  forward le (standing c t) =
      let x = runs_lies rules text c.1 le in
      omega (arith, x.0, forward x.1 t)
