-- What a try of a form says of the tries within it.
use Rattle.std.proofs.Common.{◌≡◌, ℕ, ◌+◌, ◌≤◌, List, Bool, true, false, drop, refl, subst, arith, ◌⊎◌, inl, inr}
use Rattle.std.specs.Prelude.{if◌then◌else◌, slice_range}
use Rattle.asn_rules_guards.specs.Lexical.{stands, width}
use Rattle.asn_rules.specs.Expression.{Expression, Sight, see, seq, choice, many, guarded, rule, skip, rule_of}
use Rattle.asn_rules_guards.specs.Allows.{allows}
use Rattle.asn_rules.specs.Runs.{Ending, ends, fails, judged, Runs, sees, seq_ends, choice_first, choice_second, many_turn, guard_judges, guard_fails, calls, skips}
use Rattle.asn_rules_guards.specs.declared.asked.Guard.{Guard}

module _ (rules : List Expression) (text : List ℕ) where
  -- the first part of a sequence that ends
  pub record Parts (a b : Expression) (i j height : ℕ) : Type 0 where
    pub middle : ℕ
    pub first_height : ℕ
    pub second_height : ℕ
    pub first : Runs rules text a i (ends middle) first_height
    pub second : Runs rules text b middle (ends j) second_height
    pub first_in : first_height ≤ height
    pub second_in : second_height ≤ height

  pub parts : {a b : Expression} {i j h : ℕ} → Runs rules text (seq a b) i (ends j) h → Parts a b i j h
  parts (seq_ends {j = m} {h = k} {k = l} p q) = record { middle = m; first_height = k; second_height = l; first = p; second = q; first_in = omega arith; second_in = omega arith }

  pub record Called (r i : ℕ) (o : Ending) (height : ℕ) : Type 0 where
    pub inner : ℕ
    pub run : Runs rules text (rule_of rules r) i o inner
    pub higher : height ≡ inner + 1

  pub called : {r i h : ℕ} {o : Ending} → Runs rules text (rule r) i o h → Called r i o h
  called (calls {h = k} p) = record { inner = k; run = p; higher = refl }

  pub skipped : {r i h : ℕ} {o : Ending} → Runs rules text (skip r) i o h → Runs rules text (rule r) i o h
  skipped (skips p) = calls p

  pub record Guarded (a : Expression) (g : Guard) (i j height : ℕ) : Type 0 where
    pub run : Runs rules text a i (ends j) height
    pub allowed : allows g (slice_range text i j) ≡ true

  judged_end : (g : Guard) (i j k : ℕ) → judged text g i k ≡ ends j → (k ≡ j) × (allows g (slice_range text i k) ≡ true)
  judged_end g i j k e = go (allows g (slice_range text i k)) refl e
    where
      go : (b : Bool) → allows g (slice_range text i k) ≡ b → (if b then ends k else fails) ≡ ends j → (k ≡ j) × (allows g (slice_range text i k) ≡ true)
      go true is e' = (cc, is)
      go false is e' = cc

  guarded_as : {a : Expression} {g : Guard} {i h : ℕ} {o : Ending} → Runs rules text (guarded a g) i o h → (j : ℕ) → o ≡ ends j → Guarded a g i j h
  guarded_as {a} {g} {i} {h} (guard_judges {j = k} p) j e =
      let d = judged_end g i j k e in
      subst (λ n. Guarded a g i n h) d.0 (record { run = p; allowed = d.1 })
  guarded_as (guard_fails p) j e = cc

  pub guard_kept : {a : Expression} {g : Guard} {i j h : ℕ} → Runs rules text (guarded a g) i (ends j) h → Guarded a g i j h
  guard_kept p = guarded_as p _ refl

  -- a repetition does not fail
  pub many_stands : {a : Expression} {i h : ℕ} → Runs rules text (many a) i fails h → ⊥
  many_stands (many_turn p lt q) = many_stands q

  stood_as : {s : Sight} {i h : ℕ} {o : Ending} → Runs rules text (see s) i o h → (j : ℕ) → o ≡ ends j → (stands s (drop i text) ≡ true) × (i + width s ≡ j)
  stood_as (sees {s} {i}) j e = go (stands s (drop i text)) e
    where
      go : (b : Bool) → (if b then ends (i + width s) else fails) ≡ ends j → (b ≡ true) × (i + width s ≡ j)
      go true e' = (refl, cc)
      go false e' = cc

  -- what is seen stands there
  pub stood : {s : Sight} {i j h : ℕ} → Runs rules text (see s) i (ends j) h → (stands s (drop i text) ≡ true) × (i + width s ≡ j)
  stood p = stood_as p _ refl

  -- one of two that ends: the first, or the second
  pub record Either (a b : Expression) (i j height : ℕ) : Type 0 where
    pub inner : ℕ
    pub inner_in : inner ≤ height
    pub one : Runs rules text a i (ends j) inner ⊎ Runs rules text b i (ends j) inner

  pub chosen : {a b : Expression} {i j h : ℕ} → Runs rules text (choice a b) i (ends j) h → Either a b i j h
  chosen {h = h} (choice_first p) = record { inner = h; inner_in = omega arith; one = inl p }
  chosen (choice_second {k = k} p q) = record { inner = k; inner_in = omega arith; one = inr q }
