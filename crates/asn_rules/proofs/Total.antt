-- Each expression comes to something, since each rule has a rank that falls at every call that has taken no byte.
use Rattle.std.proofs.Common.{◌≡◌, ℕ, zero, suc, ◌+◌, ◌-◌, ◌<◌, ◌≤◌, max, List, [], ◌∷◌, Bool, true, false, length, get_or, drop, refl, subst, arith, ◌⊎◌, inl, inr}
use Rattle.std.specs.Prelude.{nat_lt, ◌&&◌, ◌||◌, not, if◌then◌else◌, slice_range}
use Rattle.std.proofs.lemmas.Bool.{cases_lt}
use Rattle.std.proofs.lemmas.Bool.Decides.{Decides-ltb}
use Rattle.asn_rules.specs.Expression.{Expression, see, marked, seq, choice, many, never, guarded, rule, skip, Sight, rule_of}
use Rattle.asn_rules_guards.specs.Lexical.{stands, width}
use Rattle.asn_rules_guards.specs.Allows.{allows}
use Rattle.asn_rules.specs.Runs.{Ending, ends, fails, seen, judged, Runs, sees, sees_mark, seq_ends, seq_fails, choice_first, choice_second, many_turn, many_idle, many_fails, never_ends, never_fails, guard_judges, guard_fails, calls, skips, ExactlyOne}
use Rattle.asn_rules_guards.specs.declared.asked.Guard.{Guard}
use Rattle.asn_rules_guards.proofs.Booleans.{and_both, or_either}
use Rattle.asn_rules.proofs.Theory.{Lies, runs_lies, one_outcome}

-- each end of the expression takes a byte, where each end of the rules in the table does
abbrev pub takes_byte : List Bool → Expression → Bool
takes_byte t (see s) = nat_lt 0 (width s)
takes_byte t (marked m s) = nat_lt 0 (width s)
takes_byte t (seq a b) = takes_byte t a || takes_byte t b
takes_byte t (choice a b) = takes_byte t a && takes_byte t b
takes_byte t (many a) = false
takes_byte t (never a) = false
takes_byte t (guarded a g) = takes_byte t a
takes_byte t (rule r) = get_or t r false
takes_byte t (skip r) = get_or t r false

-- each rule that the expression calls before it has taken a byte ranks below k
abbrev pub ranks_below : List Bool → List ℕ → ℕ → Expression → Bool
ranks_below t ranks k (see s) = true
ranks_below t ranks k (marked m s) = true
ranks_below t ranks k (seq a b) = ranks_below t ranks k a && (takes_byte t a || ranks_below t ranks k b)
ranks_below t ranks k (choice a b) = ranks_below t ranks k a && ranks_below t ranks k b
ranks_below t ranks k (many a) = ranks_below t ranks k a
ranks_below t ranks k (never a) = ranks_below t ranks k a
ranks_below t ranks k (guarded a g) = ranks_below t ranks k a
ranks_below t ranks k (rule r) = nat_lt (get_or ranks r 0) k
ranks_below t ranks k (skip r) = nat_lt (get_or ranks r 0) k

-- both tables are right
abbrev pub checked : List Bool → List ℕ → List Expression → List Bool → List ℕ → Bool
checked t ranks (e ∷ es) (b ∷ bs) (k ∷ ks) = (not b || takes_byte t e) && (ranks_below t ranks k e && checked t ranks es bs ks)
checked t ranks [] [] [] = true
checked t ranks _ _ _ = false

-- what a right row says
abbrev Right : List Bool → List ℕ → Expression → Bool → ℕ → Type 0
Right t ranks e b k = (b ≡ true → takes_byte t e ≡ true) × (ranks_below t ranks k e ≡ true)

right : (t : List Bool) (ranks : List ℕ) (es : List Expression) (bs : List Bool) (ks : List ℕ) → checked t ranks es bs ks ≡ true → (r : ℕ) → Right t ranks (rule_of es r) (get_or bs r false) (get_or ks r 0)
right t ranks (e ∷ es) (b ∷ bs) (k ∷ ks) h zero =
    let parts = and_both (not b || takes_byte t e) (ranks_below t ranks k e && checked t ranks es bs ks) h in
    (go b parts.0, (and_both (ranks_below t ranks k e) (checked t ranks es bs ks) parts.1).0)
  where
    go : (b : Bool) → (not b || takes_byte t e) ≡ true → b ≡ true → takes_byte t e ≡ true
    go true p q = p
    go false p q = absurd cc
right t ranks (e ∷ es) (b ∷ bs) (k ∷ ks) h (suc r) =
    right t ranks es bs ks (and_both (ranks_below t ranks k e) (checked t ranks es bs ks) (and_both (not b || takes_byte t e) (ranks_below t ranks k e && checked t ranks es bs ks) h).1).1 r
right t ranks [] [] [] h r = (λ e. absurd cc, refl)
right t ranks [] [] (k ∷ ks) h r = absurd cc
right t ranks [] (b ∷ bs) ks h r = absurd cc
right t ranks (e ∷ es) [] ks h r = absurd cc
right t ranks (e ∷ es) (b ∷ bs) [] h r = absurd cc

module _ (rules : List Expression) (text : List ℕ) (t : List Bool) (ranks : List ℕ) (fine : checked t ranks rules t ranks ≡ true) where
  row : (r : ℕ) → Right t ranks (rule_of rules r) (get_or t r false) (get_or ranks r 0)
  row = right t ranks rules t ranks fine

  abbrev pub Moves : ℕ → Ending → Type 0
  Moves i (ends j) = i < j
  Moves i fails = Unit {0}

  see_moves : (s : Sight) (i : ℕ) → nat_lt 0 (width s) ≡ true → Moves i (seen text s i)
  see_moves s i m = go (stands s (drop i text)) ((Decides-ltb 0 (width s)).0 m)
    where
      go : (b : Bool) → 0 < width s → Moves i (if b then ends (i + width s) else fails)
      go true w = omega arith
      go false w = tt

  judge_moves : (g : Guard) (i j : ℕ) → i < j → Moves i (judged text g i j)
  judge_moves g i j lt = go (allows g (slice_range text i j))
    where
      go : (b : Bool) → Moves i (if b then ends j else fails)
      go true = lt
      go false = tt

  moves_first : (o : Ending) (i j : ℕ) → i < j → Lies (length text) j o → Moves i o
  moves_first (ends k) i j lt l = omega (arith, l.0)
  moves_first fails i j lt l = tt

  moves_second : (o : Ending) (i j : ℕ) → i ≤ j → Moves j o → Moves i o
  moves_second (ends k) i j le lt = omega arith
  moves_second fails i j le lt = tt

  -- An expression whose ends each take a byte takes one.
  pub moves : {e : Expression} {i k : ℕ} {o : Ending} → Runs rules text e i o k → i ≤ length text → takes_byte t e ≡ true → Moves i o
  moves (sees {s} {i}) le m = see_moves s i m
  moves (sees_mark {s = s} {i = i}) le m = see_moves s i m
  moves (seq_ends {a = a} {b = b} {i = i} {j = j} {o = o} p q) le m =
      let l = runs_lies rules text p le in
      elim (or_either (takes_byte t a) (takes_byte t b) m) [
        | inl ma ↦ moves_first o i j (moves p le ma) (runs_lies rules text q l.1)
        | inr mb ↦ moves_second o i j l.0 (moves q l.1 mb)
      ]
  moves (seq_fails p) le m = tt
  moves (choice_first {a = a} {b = b} p) le m = moves p le (and_both (takes_byte t a) (takes_byte t b) m).0
  moves (choice_second {a = a} {b = b} p q) le m = moves q le (and_both (takes_byte t a) (takes_byte t b) m).1
  moves (many_turn p lt q) le m = absurd cc
  moves (many_idle p) le m = absurd cc
  moves (many_fails p) le m = absurd cc
  moves (never_ends p) le m = absurd cc
  moves (never_fails p) le m = tt
  moves (guard_judges {g = g} {i = i} {j = j} p) le m = judge_moves g i j (moves p le m)
  moves (guard_fails p) le m = tt
  moves (calls {r = r} p) le m = moves p le ((row r).0 m)
  moves (skips {r = r} p) le m = moves p le ((row r).0 m)

  -- It comes to something.
  abbrev Comes : Expression → ℕ → Type 0
  Comes e i = (o : Ending) × (k : ℕ) × Runs rules text e i o k

  abbrev Later : ℕ → Type 0
  Later i = (j : ℕ) → i < j → j ≤ length text → (e : Expression) → Comes e j

  -- P holds of each rule that the expression calls before it has taken a byte.
  abbrev Ready : (ℕ → Type 0) → Expression → Type 0
  Ready P (see s) = Unit {0}
  Ready P (marked m s) = Unit {0}
  Ready P (seq a b) = Ready P a × ((takes_byte t a ≡ true) ⊎ Ready P b)
  Ready P (choice a b) = Ready P a × Ready P b
  Ready P (many a) = Ready P a
  Ready P (never a) = Ready P a
  Ready P (guarded a g) = Ready P a
  Ready P (rule r) = P r
  Ready P (skip r) = P r

  ready : (P : ℕ → Type 0) (k : ℕ) → ((s : ℕ) → get_or ranks s 0 < k → P s) → (e : Expression) → ranks_below t ranks k e ≡ true → Ready P e
  ready P k f (see s) m = tt
  ready P k f (marked w s) m = tt
  ready P k f (seq a b) m =
      let both = and_both (ranks_below t ranks k a) (takes_byte t a || ranks_below t ranks k b) m in
      (ready P k f a both.0, elim (or_either (takes_byte t a) (ranks_below t ranks k b) both.1) [ inl x ↦ inl x | inr y ↦ inr (ready P k f b y) ])
  ready P k f (choice a b) m =
      let both = and_both (ranks_below t ranks k a) (ranks_below t ranks k b) m in
      (ready P k f a both.0, ready P k f b both.1)
  ready P k f (many a) m = ready P k f a m
  ready P k f (never a) m = ready P k f a m
  ready P k f (guarded a g) m = ready P k f a m
  ready P k f (rule r) m = f r ((Decides-ltb (get_or ranks r 0) k).0 m)
  ready P k f (skip r) m = f r ((Decides-ltb (get_or ranks r 0) k).0 m)

  all_ready : (P : ℕ → Type 0) → ((r : ℕ) → P r) → (e : Expression) → Ready P e
  all_ready P f (see s) = tt
  all_ready P f (marked m s) = tt
  all_ready P f (seq a b) = (all_ready P f a, inr (all_ready P f b))
  all_ready P f (choice a b) = (all_ready P f a, all_ready P f b)
  all_ready P f (many a) = all_ready P f a
  all_ready P f (never a) = all_ready P f a
  all_ready P f (guarded a g) = all_ready P f a
  all_ready P f (rule r) = f r
  all_ready P f (skip r) = f r

  seq_comes : (a b : Expression) (i : ℕ) → i ≤ length text → Later i → Comes a i → ((takes_byte t a ≡ true) ⊎ Comes b i) → Comes (seq a b) i
  seq_comes a b i le later (fails, k, p) rest = (fails, k, seq_fails p)
  seq_comes a b i le later (ends j, k, p) rest = go (cases_lt i j) rest
    where
      on : Comes b j → Comes (seq a b) i
      on c = (c.0, max k c.1, seq_ends p c.2)

      go : ((i < j) ⊎ (j ≤ i)) → ((takes_byte t a ≡ true) ⊎ Comes b i) → Comes (seq a b) i
      go (inl lt) x = on (later j lt (runs_lies rules text p le).1 b)
      go (inr ge) (inl m) = let lt = moves p le m in absurd (omega arith)
      go (inr ge) (inr c) =
          let l = runs_lies rules text p le in
          let same : i ≡ j = omega (arith, l.0) in
          on (subst (Comes b) same c)

  many_comes : (a : Expression) (i : ℕ) → i ≤ length text → Later i → Comes a i → Comes (many a) i
  many_comes a i le later (fails, k, p) = (ends i, k, many_fails p)
  many_comes a i le later (ends j, k, p) = go (cases_lt i j)
    where
      go : ((i < j) ⊎ (j ≤ i)) → Comes (many a) i
      go (inl lt) = let c = later j lt (runs_lies rules text p le).1 (many a) in (c.0, max k c.1, many_turn p lt c.2)
      go (inr ge) =
          let l = runs_lies rules text p le in
          let same : j ≡ i = omega (arith, l.0) in
          (ends i, k, many_idle (subst (λ x. Runs rules text a i (ends x) k) same p))

  choice_comes : (a b : Expression) (i : ℕ) → Comes a i → Comes b i → Comes (choice a b) i
  choice_comes a b i (ends j, k, p) d = (ends j, k, choice_first p)
  choice_comes a b i (fails, k, p) d = (d.0, max k d.1, choice_second p d.2)

  never_comes : (a : Expression) (i : ℕ) → Comes a i → Comes (never a) i
  never_comes a i (ends j, k, p) = (fails, k, never_fails p)
  never_comes a i (fails, k, p) = (ends i, k, never_ends p)

  guard_comes : (a : Expression) (g : Guard) (i : ℕ) → Comes a i → Comes (guarded a g) i
  guard_comes a g i (ends j, k, p) = (judged text g i j, k, guard_judges p)
  guard_comes a g i (fails, k, p) = (fails, k, guard_fails p)

  comes : (i : ℕ) → i ≤ length text → Later i → (e : Expression) → Ready (λ r. Comes (rule_of rules r) i) e → Comes e i
  comes i le later (see s) ok = (seen text s i, 0, sees)
  comes i le later (marked m s) ok = (seen text s i, 0, sees_mark)
  comes i le later (seq a b) ok = seq_comes a b i le later (comes i le later a ok.0) (elim ok.1 [ inl m ↦ inl m | inr r ↦ inr (comes i le later b r) ])
  comes i le later (choice a b) ok = choice_comes a b i (comes i le later a ok.0) (comes i le later b ok.1)
  comes i le later (many a) ok = many_comes a i le later (comes i le later a ok)
  comes i le later (never a) ok = never_comes a i (comes i le later a ok)
  comes i le later (guarded a g) ok = guard_comes a g i (comes i le later a ok)
  comes i le later (rule r) ok = (ok.0, ok.1 + 1, calls ok.2)
  comes i le later (skip r) ok = (ok.0, ok.1 + 1, skips ok.2)

  by_rank : (k i : ℕ) → i ≤ length text → Later i → (r : ℕ) → get_or ranks r 0 < k → Comes (rule_of rules r) i
  by_rank zero i le later r lt = absurd (omega arith)
  by_rank (suc k) i le later r lt =
      let below : ((s : ℕ) → get_or ranks s 0 < get_or ranks r 0 → Comes (rule_of rules s) i) = λ s less. by_rank k i le later s (omega arith) in
      comes i le later (rule_of rules r) (ready (λ s. Comes (rule_of rules s) i) (get_or ranks r 0) below (rule_of rules r) (row r).1)

  all_come : (n i : ℕ) → i ≤ length text → length text - i < n → (e : Expression) → Comes e i
  all_come zero i le lt e = absurd (omega arith)
  all_come (suc n) i le lt e =
      let later : Later i = λ j less le'. all_come n j le' (omega arith) in
      comes i le later e (all_ready (λ r. Comes (rule_of rules r) i) (λ r. by_rank (suc (get_or ranks r 0)) i le later r (omega arith)) e)

  pub exactly_one : (e : Expression) (i : ℕ) → i ≤ length text → ExactlyOne rules text e i
  exactly_one e i le = record { one = all_come (suc (length text - i)) i le (omega arith) e; only = λ o o' h h' p q. one_outcome rules text e i o o' h h' le p q }
