-- How many looks a try takes.
use Rattle.std.proofs.Common.{◌≡◌, ℕ, zero, suc, ◌+◌, ◌-◌, ◌*◌, ◌<◌, ◌≤◌, List, [], ◌∷◌, Bool, true, false, None, length, refl, sym, ap, subst, arith, ◌⊎◌, inl, inr}
use Rattle.std.specs.Prelude.{nat_eq, ◌&&◌, if◌then◌else◌, is_some}
use Rattle.std.proofs.lemmas.Bool.Decides.{eqb_tells}
use Rattle.std.proofs.lemmas.Bool.{cases_lt}
use Rattle.asn_rules.specs.Expression.{Expression, see, marked, seq, choice, many, never, guarded, rule, skip, Sight, bytes, rule_of}
use Rattle.asn_rules.specs.Runs.{Ending, ends, fails, Runs}
use Rattle.asn_match.specs.Table.{at, Tries, itself, in_skipped, in_body, in_first, in_second, in_one, in_other, in_turn, in_later, in_never, in_guarded, Adds}
use Rattle.asn_match.specs.Looks.{looks, own, total, Pairs, price, has, Covers, Spends}
use Rattle.asn_match.specs.declared.chains.MatchTable.{MatchTable}
use Rattle.asn_rules_guards.specs.declared.asked.Guard.{Guard}
use Rattle.std.proofs.Math.Nat.{mul-le-mul_left, mul-le-mul_right}
use Rattle.std.proofs.lemmas.Bool.Decides.{nat_tests}
use Rattle.asn_rules.specs.Runs.{seen}
use Rattle.asn_rules.specs.inner.Answer.{IsWithinOutcome, at_height}
use Rattle.asn_rules.proofs.Theory.{Lies, seen_lies}
use Rattle.std.proofs.lemmas.List.{get_or_past}
use Rattle.asn_match.proofs.Absent.{not_itself}

-- a sum of greater numbers is greater
total_le : (f g : ℕ → ℕ) → ((x : ℕ) → f x ≤ g x) → (m : ℕ) → total f m ≤ total g m
total_le f g h zero = omega arith
total_le f g h (suc m) = let a = total_le f g h m in let b = h m in omega arith

-- and by d greater where one of the numbers is
total_more : (f g : ℕ → ℕ) (k d : ℕ) → ((x : ℕ) → f x ≤ g x) → f k + d ≤ g k → (m : ℕ) → k < m → total f m + d ≤ total g m
total_more f g k d h e zero lt = absurd (omega arith)
total_more f g k d h e (suc m) lt = go (λ below. total_more f g k d h e m below) (eqb_tells k m)
  where
    go : (k < m → total f m + d ≤ total g m) → ((nat_eq k m ≡ true) × (k ≡ m)) ⊎ ((nat_eq k m ≡ false) × (k ≡ m → ⊥)) → total f (suc m) + d ≤ total g (suc m)
    go again (inl x) = let a = total_le f g h m in let b = subst (λ y. f y + d ≤ g y) x.1 e in omega arith
    go again (inr x) = let a = again (grind (arith, x.1)) in let b = h m in omega arith

if_le : (a b : Bool) (w : ℕ) → (a ≡ true → b ≡ true) → (if a then w else 0) ≤ (if b then w else 0)
if_le true b w h = let e = h refl in rw e (omega arith)
if_le false b w h = omega arith

module _ (rules : List Expression) (n : ℕ) where
  abbrev row : Pairs → ℕ → ℕ → ℕ
  row p j r = if p r j then own n (rule_of rules r) else 0

  row_le : (p q : Pairs) → ((r j : ℕ) → p r j ≡ true → q r j ≡ true) → (j r : ℕ) → row p j r ≤ row q j r
  row_le p q h j r = if_le (p r j) (q r j) (own n (rule_of rules r)) (h r j)

  pub price_le : (p q : Pairs) → ((r j : ℕ) → p r j ≡ true → q r j ≡ true) → price rules n p ≤ price rules n q
  unfolding price
  price_le p q h = total_le (λ j. total (row p j) (length rules)) (λ j. total (row q j) (length rules)) (λ j. total_le (row p j) (row q j) (row_le p q h j) (length rules)) (n + 1)

  -- the set without a pair of one rule of the table
  pub price_more : (p q : Pairs) (r j : ℕ) → ((s k : ℕ) → p s k ≡ true → q s k ≡ true) → p r j ≡ false → q r j ≡ true → r < length rules → j ≤ n → price rules n p + own n (rule_of rules r) ≤ price rules n q
  unfolding price
  price_more p q r j h off on lt le =
      total_more (λ j. total (row p j) (length rules)) (λ j. total (row q j) (length rules)) j (own n (rule_of rules r))
      (λ j. total_le (row p j) (row q j) (row_le p q h j) (length rules))
      (total_more (row p j) (row q j) r (own n (rule_of rules r)) (row_le p q h j) at_pair (length rules) lt)
      (n + 1) (omega arith)
    where
      at_pair : row p j r + own n (rule_of rules r) ≤ row q j r
      at_pair = rw (off, on) (omega arith)

module _ (rules : List Expression) (text : List ℕ) where
  -- no look but the expression's own
  pub idles : (e : Expression) (i : ℕ) (t : MatchTable) (x y : ℕ) → y ≤ x + own (length text) e → Spends rules text e i t x y
  idles e i t x y h = record { most = λ p c. let a = price_le rules (length text) (has t) p c.old in omega arith }

  -- one part
  pub part : (a e : Expression) (i : ℕ) (t : MatchTable) (x y : ℕ) → own (length text) a ≤ own (length text) e → ((r j : ℕ) → Tries rules text a i r j → Tries rules text e i r j) → Spends rules text a i t x y → Spends rules text e i t x y
  part a e i t x y le back s = record { most = λ p c. let m = s.most p (record { old = c.old; tried = λ r j q. c.tried r j (back r j q) }) in omega arith }

  covers_next : (a b e : Expression) (i k : ℕ) (t u : MatchTable) (p : Pairs) → ((r j : ℕ) → Tries rules text a i r j → Tries rules text e i r j) → ((r j : ℕ) → Tries rules text b k r j → Tries rules text e i r j) → Adds rules text a i t u → Covers rules text e i t p → Covers rules text b k u p
  covers_next a b e i k t u p back back' x c = record {
    old = λ r j h. elim (x.only r j h) [ inl o ↦ c.old r j o | inr q ↦ c.tried r j (back r j q) ];
    tried = λ r j q. c.tried r j (back' r j q);
  }

  -- two parts, one after the other
  pub parts : (a b e : Expression) (i k : ℕ) (t u : MatchTable) (x y z : ℕ) → own (length text) a + own (length text) b ≤ own (length text) e → ((r j : ℕ) → Tries rules text a i r j → Tries rules text e i r j) → ((r j : ℕ) → Tries rules text b k r j → Tries rules text e i r j) → Adds rules text a i t u → Spends rules text a i t x y → Spends rules text b k u y z → Spends rules text e i t x z
  parts a b e i k t u x y z le back back' adds s s' = record {
    most = λ p c.
        let m = s.most (has u) (record { old = adds.grows; tried = adds.tried }) in
        let m' = s'.most p (covers_next a b e i k t u p back back' adds c) in
        omega arith;
  }

  -- all tries of a table are within the price of every pair
  module _ (i : ℕ) (t : MatchTable) (x y : ℕ) where
    pub seq_part : (a b : Expression) → Spends rules text a i t x y → Spends rules text (seq a b) i t x y
    seq_part a b s = part a (seq a b) i t x y (omega arith) (λ r j q. in_first q) s

    pub seq_parts : (a b : Expression) (k h z : ℕ) (u : MatchTable) → Runs rules text a i (ends k) h → Adds rules text a i t u → Spends rules text a i t x y → Spends rules text b k u y z → Spends rules text (seq a b) i t x z
    seq_parts a b k h z u p adds s s' = parts a b (seq a b) i k t u x y z (omega arith) (λ r j q. in_first q) (λ r j q. in_second p q) adds s s'

    pub choice_part : (a b : Expression) → Spends rules text a i t x y → Spends rules text (choice a b) i t x y
    choice_part a b s = part a (choice a b) i t x y (omega arith) (λ r j q. in_one q) s

    pub choice_parts : (a b : Expression) (h z : ℕ) (u : MatchTable) → Runs rules text a i fails h → Adds rules text a i t u → Spends rules text a i t x y → Spends rules text b i u y z → Spends rules text (choice a b) i t x z
    choice_parts a b h z u p adds s s' = parts a b (choice a b) i i t u x y z (omega arith) (λ r j q. in_one q) (λ r j q. in_other p q) adds s s'

    pub never_part : (a : Expression) → Spends rules text a i t x y → Spends rules text (never a) i t x y
    never_part a s = part a (never a) i t x y (omega arith) (λ r j q. in_never q) s

    -- z - y looks of the guard
    pub guarded_part : (a : Expression) (g : Guard) (z : ℕ) → z ≤ y + length text → Spends rules text a i t x y → Spends rules text (guarded a g) i t x z
    guarded_part a g z le s = record { most = λ p c. let m = s.most p (record { old = c.old; tried = λ r j q. c.tried r j (in_guarded q) }) in omega arith }

  -- the turns of a repetition from i to j took (j - i) times a turn's looks
  pub record Turned (a : Expression) (i j : ℕ) (t u : MatchTable) (x y : ℕ) : Type 0 where
    pub covers : (p : Pairs) → Covers rules text (many a) i t p → Covers rules text (many a) j u p
    pub most : y + price rules (length text) (has t) ≤ (x + (j - i) * own (length text) a) + price rules (length text) (has u)

  pub none_turned : (a : Expression) (i : ℕ) (t : MatchTable) (x : ℕ) → Turned a i i t t x x
  none_turned a i t x = record { covers = λ p c. c; most = let e : i - i ≡ 0 = omega arith in rw e (omega arith) }

  times : (d e w : ℕ) → d < e → d * w + w ≤ e * w
  times d e w lt = let m = mul-le-mul_right {m = suc d} {n = e} w lt in omega arith

  pub one_turned : (a : Expression) (i j k h : ℕ) (t u v : MatchTable) (x y z : ℕ) → i ≤ j → j < k → Runs rules text a j (ends k) h → Adds rules text a j u v → Spends rules text a j u y z → Turned a i j t u x y → Turned a i k t v x z
  one_turned a i j k h t u v x y z le lt p adds s turned = record {
    covers = λ q c. covers_next a (many a) (many a) j k u v q (λ r l b. in_turn b) (λ r l b. in_later p lt b) adds (turned.covers q c);
    most =
        let m = s.most (has v) (record { old = adds.grows; tried = adds.tried }) in
        let n = turned.most in
        let w = times (j - i) (k - i) (own (length text) a) (omega arith) in
        omega arith;
  }

  pub last_turned : (a : Expression) (i j : ℕ) (t u : MatchTable) (x y z : ℕ) → j ≤ length text → Spends rules text a j u y z → Turned a i j t u x y → Spends rules text (many a) i t x z
  last_turned a i j t u x y z le s turned = record {
    most = λ p c.
        let c' = turned.covers p c in
        let m = s.most p (record { old = c'.old; tried = λ r l q. c'.tried r l (in_turn q) }) in
        let n = turned.most in
        let w = times (j - i) (length text + 1) (own (length text) a) (omega arith) in
        omega arith;
  }

  -- the set without the pair
  abbrev without : ℕ → ℕ → Pairs → Pairs
  without r i p s j = if nat_eq r s && nat_eq i j then false else p s j

  module _ (r i : ℕ) (p : Pairs) where
    without_less : (s j : ℕ) → without r i p s j ≡ true → p s j ≡ true
    without_less s j = go (nat_eq r s && nat_eq i j)
      where
        go : (b : Bool) → (if b then false else p s j) ≡ true → p s j ≡ true
        go true h = absurd cc
        go false h = h

    without_more : (s j : ℕ) → (r ≡ s → i ≡ j → ⊥) → p s j ≡ true → without r i p s j ≡ true
    without_more s j other h = go (eqb_tells r s) (eqb_tells i j)
      where
        go : ((nat_eq r s ≡ true) × (r ≡ s)) ⊎ ((nat_eq r s ≡ false) × (r ≡ s → ⊥)) → ((nat_eq i j ≡ true) × (i ≡ j)) ⊎ ((nat_eq i j ≡ false) × (i ≡ j → ⊥)) → without r i p s j ≡ true
        go (inl a) (inl b) = absurd (other a.1 b.1)
        go (inl a) (inr b) = rw (a.0, b.0) h
        go (inr a) y = rw a.0 h

    without_off : without r i p r i ≡ false
    without_off = go (eqb_tells r r) (eqb_tells i i)
      where
        go : ((nat_eq r r ≡ true) × (r ≡ r)) ⊎ ((nat_eq r r ≡ false) × (r ≡ r → ⊥)) → ((nat_eq i i ≡ true) × (i ≡ i)) ⊎ ((nat_eq i i ≡ false) × (i ≡ i → ⊥)) → without r i p r i ≡ false
        go (inl a) (inl b) = rw (a.0, b.0) refl
        go (inl a) (inr b) = absurd (b.1 refl)
        go (inr a) y = absurd (a.1 refl)

  not_both : (b : Bool) → b ≡ false → b ≡ true → ⊥
  not_both b e f = cc

  -- One try of a rule: its expression's looks are the price of its pair, which neither the table had nor its expression tries.
  pub called : (r i h : ℕ) (o : Ending) (t : MatchTable) (x y : ℕ) → i ≤ length text → has t r i ≡ false → Runs rules text (rule_of rules r) i o h → Spends rules text (rule_of rules r) i t x y → Spends rules text (rule r) i t x y
  called r i h o t x y le miss runs s = record { most = λ p c. go p c (cases_lt r (length rules)) }
    where
      covers : (p : Pairs) → Covers rules text (rule r) i t p → Covers rules text (rule_of rules r) i t (without r i p)
      covers p c = record {
        old = λ s j e. without_more r i p s j (λ a b. not_both (has t s j) (subst (λ z. has t s z ≡ false) b (subst (λ z. has t z i ≡ false) a miss)) e) (c.old s j e);
        tried = λ s j q. without_more r i p s j (λ a b. not_itself rules text r i h o le runs (subst (λ z. Tries rules text (rule_of rules r) i r z) (sym b) (subst (λ z. Tries rules text (rule_of rules r) i z j) (sym a) q))) (c.tried s j (in_body q));
      }

      go : (p : Pairs) → Covers rules text (rule r) i t p → (r < length rules) ⊎ (length rules ≤ r) → y + price rules (length text) (has t) ≤ (x + own (length text) (rule r)) + price rules (length text) p
      go p c (inl lt) =
          let m = s.most (without r i p) (covers p c) in
          let d = price_more rules (length text) (without r i p) p r i (without_less r i p) (without_off r i p) (c.tried r i itself) lt le in
          omega arith
      go p c (inr ge) =
          let m = s.most p (record { old = c.old; tried = λ s j q. c.tried s j (in_body q) }) in
          let e : own (length text) (rule_of rules r) ≡ 0 = ap (own (length text)) (get_or_past rules r (never (see (bytes []))) ge) in
          omega (arith, m, e)

  -- a rule that leaves no node is tried as any other
  pub skipped : (r i : ℕ) (t : MatchTable) (x y : ℕ) → Spends rules text (rule r) i t x y → Spends rules text (skip r) i t x y
  skipped r i t x y s = part (rule r) (skip r) i t x y (omega arith) (λ s j q. in_skipped q) s

  -- the same, of an expression that is the rule's
  pub called_rule : (r i : ℕ) (e : Expression) (t : MatchTable) (x y : ℕ) → i ≤ length text → at t r i ≡ None → e ≡ rule_of rules r → ((o : Ending) × (h : ℕ) × Runs rules text (rule_of rules r) i o h) → Spends rules text e i t x y → Spends rules text (rule r) i t x y
  called_rule r i e t x y le miss same runs s = called r i runs.1 runs.0 t x y le (ap is_some miss) runs.2 (subst (λ e. Spends rules text e i t x y) same s)

  pub see_within : (s : Sight) (i d : ℕ) → i ≤ length text → IsWithinOutcome (length text) d i (at_height (seen text s i) 0)
  see_within s i d le = go (seen text s i) (seen_lies rules text s i le)
    where
      go : (o : Ending) → Lies (length text) i o → IsWithinOutcome (length text) d i (at_height o 0)
      go (ends j) l = (l.0, l.1, omega arith)
      go fails l = omega arith

-- a bound on a try's own looks: some, and some for each offset
abbrev base : Expression → ℕ
base (see s) = looks s
base (marked m s) = looks s
base (seq a b) = base a + base b
base (choice a b) = base a + base b
base (many a) = 0
base (never a) = base a
base (guarded a g) = base a
base (rule r) = 0
base (skip r) = 0

abbrev slope : Expression → ℕ
slope (see s) = 0
slope (marked m s) = 0
slope (seq a b) = slope a + slope b
slope (choice a b) = slope a + slope b
slope (many a) = base a
slope (never a) = slope a
slope (guarded a g) = slope a + 1
slope (rule r) = 0
slope (skip r) = 0

-- no repetition stands in another, and no guard
abbrev single : Expression → Bool
single (see s) = true
single (marked m s) = true
single (seq a b) = single a && single b
single (choice a b) = single a && single b
single (many a) = nat_eq (slope a) 0 && single a
single (never a) = single a
single (guarded a g) = single a
single (rule r) = true
single (skip r) = true

abbrev pub all_single : List Expression → Bool
all_single [] = true
all_single (e ∷ es) = single e && all_single es

both : (a b : Bool) → (a && b) ≡ true → (a ≡ true) × (b ≡ true)
both true b e = (refl, e)
both false b e = absurd cc

single_at : (es : List Expression) → all_single es ≡ true → (r : ℕ) → single (rule_of es r) ≡ true
single_at [] h r = refl
single_at (e ∷ es) h zero = (both (single e) (all_single es) h).0
single_at (e ∷ es) h (suc r) = single_at es (both (single e) (all_single es) h).1 r

own_le : (n : ℕ) (e : Expression) → single e ≡ true → own n e ≤ base e + slope e * (n + 1)
own_le n (see s) h = omega arith
own_le n (marked m s) h = omega arith
own_le n (seq a b) h = let p = both (single a) (single b) h in let x = own_le n a p.0 in let y = own_le n b p.1 in omega arith
own_le n (choice a b) h = let p = both (single a) (single b) h in let x = own_le n a p.0 in let y = own_le n b p.1 in omega arith
own_le n (many a) h =
    let p = both (nat_eq (slope a) 0) (single a) h in
    let z : slope a ≡ 0 = grind (arith, nat_tests, p.0) in
    let x : own n a ≤ base a + 0 * (n + 1) = subst (λ k. own n a ≤ base a + k * (n + 1)) z (own_le n a p.1) in
    let m = mul-le-mul_right {m = own n a} {n = base a} (n + 1) (omega arith) in
    omega arith
own_le n (never a) h = own_le n a h
own_le n (guarded a g) h = let x = own_le n a h in omega arith
own_le n (rule r) h = omega arith
own_le n (skip r) h = omega arith

total_linear : (f g : ℕ → ℕ) (n m : ℕ) → total (λ r. f r + g r * n) m ≡ total f m + total g m * n
total_linear f g n zero = omega arith
total_linear f g n (suc m) = let e = total_linear f g n m in omega arith

total_same : (c m : ℕ) → total (λ j. c) m ≡ m * c
total_same c zero = omega arith
total_same c (suc m) = let e = total_same c m in omega arith

abbrev pub bases : List Expression → ℕ
bases rules = total (λ r. base (rule_of rules r)) (length rules)

abbrev pub slopes : List Expression → ℕ
slopes rules = total (λ r. slope (rule_of rules r)) (length rules)

pub price_all : (rules : List Expression) (n : ℕ) → all_single rules ≡ true → price rules n (λ r j. true) ≤ (n + 1) * (bases rules + slopes rules * (n + 1))
unfolding price
price_all rules n h =
    let line = total_le (λ r. own n (rule_of rules r)) (λ r. base (rule_of rules r) + slope (rule_of rules r) * (n + 1)) (λ r. own_le n (rule_of rules r) (single_at rules h r)) (length rules) in
    let sum = total_linear (λ r. base (rule_of rules r)) (λ r. slope (rule_of rules r)) (n + 1) (length rules) in
    let same = total_same (total (λ r. own n (rule_of rules r)) (length rules)) (n + 1) in
    let less = mul-le-mul_left {m = total (λ r. own n (rule_of rules r)) (length rules)} {n = bases rules + slopes rules * (n + 1)} (n + 1) (omega (arith, line, sum)) in
    omega (arith, same, less)
