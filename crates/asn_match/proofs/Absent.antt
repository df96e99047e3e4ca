-- No rule is tried again at the same offset while it is being tried.
use Rattle.std.proofs.Common.{◌≡◌, ℕ, ◌+◌, ◌<◌, ◌≤◌, List, length, subst, arith}
use Rattle.asn_rules.specs.Expression.{Expression, seq, choice, many, never, guarded, rule, skip, rule_of}
use Rattle.asn_rules.specs.Runs.{Ending, ends, fails, Runs, seq_ends, seq_fails, choice_first, choice_second, many_turn, many_idle, many_fails, never_ends, never_fails, guard_judges, guard_fails, calls, skips}
use Rattle.asn_match.specs.Table.{Tries, itself, in_skipped, in_body, in_first, in_second, in_one, in_other, in_turn, in_later, in_never, in_guarded}
use Rattle.asn_rules_guards.specs.declared.asked.Guard.{Guard}
use Rattle.asn_rules.proofs.Theory.{one_outcome, runs_lies}

module _ (rules : List Expression) (text : List ℕ) where
  -- the rule at the offset comes to something of at most this height
  abbrev Within : ℕ → ℕ → ℕ → Type 0
  Within h s j = (o : Ending) × (k : ℕ) × (k ≤ h) × Runs rules text (rule s) j o k

  raise_to : (h h' s j : ℕ) → h ≤ h' → Within h s j → Within h' s j
  raise_to h h' s j a w = (w.0, w.1, omega (arith, w.2), w.3)

  -- what a part of the expression came to, by what the whole came to
  seq_part : (a b : Expression) (i h : ℕ) (o : Ending) → Runs rules text (seq a b) i o h → (o' : Ending) × (k : ℕ) × (k ≤ h) × Runs rules text a i o' k
  seq_part a b i h o (seq_ends {j = j} {h = k} p q) = (ends j, k, omega arith, p)
  seq_part a b i h o (seq_fails {h = k} p) = (fails, k, omega arith, p)

  seq_rest : (a b : Expression) (i k m h : ℕ) (o : Ending) → i ≤ length text → Runs rules text a i (ends k) m → Runs rules text (seq a b) i o h → (o' : Ending) × (l : ℕ) × (l ≤ h) × Runs rules text b k o' l
  seq_rest a b i k m h o le p (seq_ends {j = j} {h = h'} {k = l} p' q) =
      let e = (one_outcome rules text a i (ends j) (ends k) h' m le p' p).0 in
      let same : j ≡ k = cc in
      (o, l, omega arith, subst (λ x. Runs rules text b x o l) same q)
  seq_rest a b i k m h o le p (seq_fails {h = h'} p') = let e = (one_outcome rules text a i fails (ends k) h' m le p' p).0 in absurd cc

  choice_part : (a b : Expression) (i h : ℕ) (o : Ending) → Runs rules text (choice a b) i o h → (o' : Ending) × (k : ℕ) × (k ≤ h) × Runs rules text a i o' k
  choice_part a b i h o (choice_first {j = j} {h = k} p) = (ends j, k, omega arith, p)
  choice_part a b i h o (choice_second {h = k} p q) = (fails, k, omega arith, p)

  choice_rest : (a b : Expression) (i m h : ℕ) (o : Ending) → i ≤ length text → Runs rules text a i fails m → Runs rules text (choice a b) i o h → (o' : Ending) × (l : ℕ) × (l ≤ h) × Runs rules text b i o' l
  choice_rest a b i m h o le p (choice_first {j = j} {h = h'} p') = let e = (one_outcome rules text a i (ends j) fails h' m le p' p).0 in absurd cc
  choice_rest a b i m h o le p (choice_second {k = l} p' q) = (o, l, omega arith, q)

  many_part : (a : Expression) (i h : ℕ) (o : Ending) → Runs rules text (many a) i o h → (o' : Ending) × (k : ℕ) × (k ≤ h) × Runs rules text a i o' k
  many_part a i h o (many_turn {j = j} {h = k} p lt q) = (ends j, k, omega arith, p)
  many_part a i h o (many_idle p) = (ends i, h, omega arith, p)
  many_part a i h o (many_fails p) = (fails, h, omega arith, p)

  many_rest : (a : Expression) (i k m h : ℕ) (o : Ending) → i ≤ length text → i < k → Runs rules text a i (ends k) m → Runs rules text (many a) i o h → (o' : Ending) × (l : ℕ) × (l ≤ h) × Runs rules text (many a) k o' l
  many_rest a i k m h o le lt p (many_turn {j = j} {h = h'} {k = l} p' lt' q) =
      let e = (one_outcome rules text a i (ends j) (ends k) h' m le p' p).0 in
      let same : j ≡ k = cc in
      (o, l, omega arith, subst (λ x. Runs rules text (many a) x o l) same q)
  many_rest a i k m h o le lt p (many_idle p') =
      let e = (one_outcome rules text a i (ends i) (ends k) h m le p' p).0 in
      let same : i ≡ k = cc in
      absurd (omega arith)
  many_rest a i k m h o le lt p (many_fails p') = let e = (one_outcome rules text a i fails (ends k) h m le p' p).0 in absurd cc

  never_part : (a : Expression) (i h : ℕ) (o : Ending) → Runs rules text (never a) i o h → (o' : Ending) × (k : ℕ) × (k ≤ h) × Runs rules text a i o' k
  never_part a i h o (never_ends p) = (fails, h, omega arith, p)
  never_part a i h o (never_fails {j = j} p) = (ends j, h, omega arith, p)

  guard_part : (a : Expression) (g : Guard) (i h : ℕ) (o : Ending) → Runs rules text (guarded a g) i o h → (o' : Ending) × (k : ℕ) × (k ≤ h) × Runs rules text a i o' k
  guard_part a g i h o (guard_judges {j = j} p) = (ends j, h, omega arith, p)
  guard_part a g i h o (guard_fails p) = (fails, h, omega arith, p)

  rule_part : (r i h : ℕ) (o : Ending) → Runs rules text (rule r) i o h → (o' : Ending) × (k : ℕ) × (k < h) × Runs rules text (rule_of rules r) i o' k
  rule_part r i h o (calls {h = k} p) = (o, k, omega arith, p)

  skip_part : (r i h : ℕ) (o : Ending) → Runs rules text (skip r) i o h → Runs rules text (rule r) i o h
  skip_part r i h o (skips p) = calls p

  pub within : {e : Expression} {i s j : ℕ} → Tries rules text e i s j → i ≤ length text → (o : Ending) (h : ℕ) → Runs rules text e i o h → Within h s j
  within itself le o h p = (o, h, omega arith, p)
  within (in_skipped {r = r} {i = i} t) le o h p = within t le o h (skip_part r i h o p)
  within (in_body {r = r} {i = i} {s = s} {j = j} t) le o h p = let x = rule_part r i h o p in raise_to x.1 h s j (omega (arith, x.2)) (within t le x.0 x.1 x.3)
  within (in_first {a = a} {b = b} {i = i} {s = s} {j = j} t) le o h p = let x = seq_part a b i h o p in raise_to x.1 h s j x.2 (within t le x.0 x.1 x.3)
  within (in_second {a = a} {b = b} {i = i} {k = k} {h = m} {s = s} {j = j} q t) le o h p =
      let x = seq_rest a b i k m h o le q p in raise_to x.1 h s j x.2 (within t (runs_lies rules text q le).1 x.0 x.1 x.3)
  within (in_one {a = a} {b = b} {i = i} {s = s} {j = j} t) le o h p = let x = choice_part a b i h o p in raise_to x.1 h s j x.2 (within t le x.0 x.1 x.3)
  within (in_other {a = a} {b = b} {i = i} {h = m} {s = s} {j = j} q t) le o h p =
      let x = choice_rest a b i m h o le q p in raise_to x.1 h s j x.2 (within t le x.0 x.1 x.3)
  within (in_turn {a = a} {i = i} {s = s} {j = j} t) le o h p = let x = many_part a i h o p in raise_to x.1 h s j x.2 (within t le x.0 x.1 x.3)
  within (in_later {a = a} {i = i} {k = k} {h = m} {s = s} {j = j} q lt t) le o h p =
      let x = many_rest a i k m h o le lt q p in raise_to x.1 h s j x.2 (within t (runs_lies rules text q le).1 x.0 x.1 x.3)
  within (in_never {a = a} {i = i} {s = s} {j = j} t) le o h p = let x = never_part a i h o p in raise_to x.1 h s j x.2 (within t le x.0 x.1 x.3)
  within (in_guarded {a = a} {g = g} {i = i} {s = s} {j = j} t) le o h p = let x = guard_part a g i h o p in raise_to x.1 h s j x.2 (within t le x.0 x.1 x.3)

  pub not_itself : (r i h : ℕ) (o : Ending) → i ≤ length text → Runs rules text (rule_of rules r) i o h → Tries rules text (rule_of rules r) i r i → ⊥
  not_itself r i h o le p t =
      let w = within t le o h p in
      let e = (one_outcome rules text (rule r) i w.0 o w.1 (h + 1) le w.3 (calls p)).1 in
      omega (arith, w.2, e)
