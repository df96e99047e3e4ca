-- What pieces of a module come to, one behind the other, by a table.
use Rattle.std.proofs.Common.{◌≡◌, ℕ, ◌<◌, ◌≤◌, List, [], ◌∷◌, Result, Ok, Err, length, refl, sym, ap, ◌∙◌, subst, arith}
use Rattle.std.specs.Prelude.{Bool, true, false, nat_lt}
use Rattle.std.proofs.lemmas.Bool.Decides.{Decides-ltb}
use Rattle.asn_match.specs.declared.due.Attempt.{Attempt}
use Rattle.asn_match.specs.inner.Given.{Gives}
use Rattle.asn_match.specs.inner.Dues.{Never, NoStop, IsFollowed}
use Rattle.asn_rules.specs.Due.{Piece, optional, required, Comes, Stop, all_stand, lacks, Through, at_end, passing, missing, standing, IsDue, due_here, due_later}
use Rattle.asn_rules.specs.Expression.{Expression, skip}
use Rattle.asn_rules.specs.Runs.{Ending, ends, fails}
use Rattle.asn_rules.specs.declared.due.ModulePart.{ModulePart}
use Rattle.asn_rules.specs.declared.names.TheConstants.{SP}
use Rattle.asn_rules.specs.declared.run.MatchFault.{MatchFault}
use Rattle.asn_rules.specs.declared.run.MatchFault.TheVariants.{TooDeep, OutOfMemory}
use Rattle.asn_rules.specs.declared.run.Outcome.{Outcome}
use Rattle.asn_rules.specs.declared.run.Outcome.TheVariants.{End, Fail}
use Rattle.asn_rules.specs.inner.Answer.{answer, IsWithin}
use Rattle.asn_rules.proofs.Theory.{tries, too_deep}
use Rattle.asn_rules.proofs.Walks.{same_end, no_end, same_lack, no_lack, same_stand, one_ending, one_stop}

-- a fault that is handed on from one kind of answer to another
pub same_fault : {A B : Type 0} (f : MatchFault) → ◌≡◌ {A = Result A MatchFault} (Err f) (Err TooDeep) → ◌≡◌ {A = Result B MatchFault} (Err f) (Err TooDeep)
same_fault TooDeep same = refl
same_fault OutOfMemory same = absurd cc

module _ (rules : List Expression) (text : List ℕ) (d : ℕ) where
  -- what the interpreter answers, its height aside
  pub came_end : (e : Expression) (i j h : ℕ) (o : Outcome) → i ≤ length text → o ≡ End j h → Ok o ≡ answer rules text d e i → IsWithin (length text) d i (Ok o) → Comes rules text d e i (ends j) × (i ≤ j) × (j ≤ length text)
  came_end e i j h o le is value within =
      let w = subst (λ o. IsWithin (length text) d i (Ok o)) is within in
      let t = tries rules text d e i (Ok (End j h)) le (ap Ok (sym is) ∙ value) w in
      ((h, t.0, t.1), w.0, w.1)

  pub came_fail : (e : Expression) (i h : ℕ) (o : Outcome) → i ≤ length text → o ≡ Fail h → Ok o ≡ answer rules text d e i → IsWithin (length text) d i (Ok o) → Comes rules text d e i fails
  came_fail e i h o le is value within =
      let w = subst (λ o. IsWithin (length text) d i (Ok o)) is within in
      let t = tries rules text d e i (Ok (Fail h)) le (ap Ok (sym is) ∙ value) w in
      (h, t.0, t.1)

  pub came_deep : (e : Expression) (i : ℕ) (f : MatchFault) → i ≤ length text → Gives (Err f) (answer rules text d e i) → ◌≡◌ {A = Result Attempt MatchFault} (Err f) (Err TooDeep) → (o : Ending) → Comes rules text d e i o → ⊥
  came_deep e i TooDeep le value same o c = let lt = too_deep rules text d e i o c.0 TooDeep le (sym value) c.1 in absurd (omega (arith, lt, c.2))
  came_deep e i OutOfMemory le value same o c = absurd cc

  -- ---- one piece

  pub optional_never : {e : Expression} {i : ℕ} → Never rules text d e i → NoStop rules text d (optional e ∷ []) i
  optional_never n s (passing {j = j} c t) = n (ends j) c

  pub optional_fails : {e : Expression} {i : ℕ} → i ≤ length text → Comes rules text d e i fails → NoStop rules text d (optional e ∷ []) i
  optional_fails {e} {i} le f s (passing {j = j} c t) = no_end (one_ending rules text d e i (ends j) fails le c f)

  pub required_never : {p : ModulePart} {e : Expression} {i : ℕ} → Never rules text d e i → NoStop rules text d (required p e ∷ []) i
  required_never n s (missing f) = n fails f
  required_never n s (standing {j = j} c t) = n (ends j) c

  -- ---- a piece and those behind it

  pub on_lacks : {p : Piece} {q : ModulePart} {ps : List Piece} {i j : ℕ} → Through rules text d (p ∷ []) i (lacks q j) → Through rules text d (p ∷ ps) i (lacks q j)
  on_lacks (passing c t) = elim t [ ]
  on_lacks (missing f) = missing f
  on_lacks (standing c t) = elim t [ ]

  pub on_stands : {p : Piece} {ps : List Piece} {i k : ℕ} {s : Stop} → Through rules text d (p ∷ []) i (all_stand k) → Through rules text d ps k s → Through rules text d (p ∷ ps) i s
  on_stands (passing c at_end) t = passing c t
  on_stands (standing c at_end) t = standing c t

  -- behind a piece that stands, the others come to what all come to
  pub behind_piece : {p : Piece} {ps : List Piece} {i k : ℕ} (s : Stop) → i ≤ length text → Through rules text d (p ∷ []) i (all_stand k) → Through rules text d (p ∷ ps) i s → Through rules text d ps k s
  behind_piece {p} {ps} {i} {k} s le t (passing {j = l} c u) =
      let same = same_stand (one_stop rules text d (p ∷ []) i (all_stand l) (all_stand k) le (passing c at_end) t) in
      subst (λ x. Through rules text d ps x s) same u
  behind_piece {p} {ps} {i} {k} s le t (missing {p = q} f) = absurd (no_lack (one_stop rules text d (p ∷ []) i (lacks q i) (all_stand k) le (missing f) t))
  behind_piece {p} {ps} {i} {k} s le t (standing {j = l} c u) =
      let same = same_stand (one_stop rules text d (p ∷ []) i (all_stand l) (all_stand k) le (standing c at_end) t) in
      subst (λ x. Through rules text d ps x s) same u

  pub deep_piece : {p : Piece} {ps : List Piece} {i : ℕ} → NoStop rules text d (p ∷ []) i → NoStop rules text d (p ∷ ps) i
  deep_piece n s (passing {j = j} c t) = n (all_stand j) (passing c at_end)
  deep_piece {i = i} n s (missing {p = p} f) = n (lacks p i) (missing f)
  deep_piece n s (standing {j = j} c t) = n (all_stand j) (standing c at_end)

  -- ---- a module

  -- what is due from an offset on where a part is lacking is due here
  pub none_without_module : {ps : List Piece} {i at : ℕ} {p : ModulePart} → i ≤ length text → Through rules text d ps i (lacks p at) → ((j : ℕ) → Comes rules text d (skip SP) i (ends j) → ⊥) → (q : ModulePart) (f l : ℕ) → IsDue rules text d ps i q f l → ⊥
  none_without_module le t n q f l (due_here u a b) = n f a
  none_without_module {ps} {i} {at} {p} le t n q f l (due_later {j = j} u a lt r) = no_lack (one_stop rules text d ps i (lacks p at) (all_stand j) le t u)

  pub none_without_place : {ps : List Piece} {i at : ℕ} {p : ModulePart} → i ≤ length text → Through rules text d ps i (lacks p at) → ((j : ℕ) → Comes rules text d (skip SP) at (ends j) → ⊥) → (q : ModulePart) (f l : ℕ) → IsDue rules text d ps i q f l → ⊥
  none_without_place {ps} {i} {at} {p} le t n q f l (due_here {at = at'} u a b) =
      let same = (same_lack (one_stop rules text d ps i (lacks q at') (lacks p at) le u t)).1 in
      n l (subst (λ x. Comes rules text d (skip SP) x (ends l)) same b)
  none_without_place {ps} {i} {at} {p} le t n q f l (due_later {j = j} u a lt r) = no_lack (one_stop rules text d ps i (lacks p at) (all_stand j) le t u)

  pub fails_never : {e : Expression} {i : ℕ} → i ≤ length text → Comes rules text d e i fails → (j : ℕ) → Comes rules text d e i (ends j) → ⊥
  fails_never {e} {i} le c j c' = no_end (one_ending rules text d e i (ends j) fails le c' c)

  -- where a module stands, what is due is due behind it
  pub due_behind : {ps : List Piece} {i j : ℕ} (p : ModulePart) (f l : ℕ) → i ≤ length text → Through rules text d ps i (all_stand j) → IsDue rules text d ps i p f l → ((next : ℕ) × Comes rules text d (skip SP) j (ends next) × (next < length text)) × IsDue rules text d ps j p f l
  due_behind {ps} {i} {j} p f l le t (due_here {at = at} u a b) = absurd (no_lack (one_stop rules text d ps i (lacks p at) (all_stand j) le u t))
  due_behind {ps} {i} {j} p f l le t (due_later {j = k} {next = next} u a lt r) =
      let same = same_stand (one_stop rules text d ps i (all_stand k) (all_stand j) le u t) in
      ((next, subst (λ x. Comes rules text d (skip SP) x (ends next)) same a, lt), subst (λ x. IsDue rules text d ps x p f l) same r)

  pub deep_module : {ps : List Piece} {i : ℕ} → NoStop rules text d ps i → (p : ModulePart) (f l : ℕ) → IsDue rules text d ps i p f l → ⊥
  deep_module n p f l (due_here {at = at} u a b) = n (lacks p at) u
  deep_module n p f l (due_later {j = j} u a lt r) = n (all_stand j) u

  pub followed : {i next : ℕ} → i ≤ length text → Comes rules text d (skip SP) i (ends next) → IsFollowed rules text d i (nat_lt next (length text))
  followed {i} {next} le c = go (nat_lt next (length text)) (Decides-ltb next (length text))
    where
      go : (b : Bool) → ((b ≡ true → next < length text) × (next < length text → b ≡ true)) → IsFollowed rules text d i b
      go true w = (next, c, w.0 refl)
      go false w = λ n c' lt. let same = same_end (one_ending rules text d (skip SP) i (ends n) (ends next) le c' c) in absurd (impossible (w.1 (subst (λ x. x < length text) same lt)))
        where
          impossible : ◌≡◌ {A = Bool} false true → ⊥
          impossible e = cc
