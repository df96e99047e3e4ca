-- How what ends came to its end, by which way its parts went.
use Rattle.std.proofs.Common.{◌≡◌, ℕ, ◌+◌, ◌-◌, ◌<◌, ◌≤◌, List, [], ◌∷◌, ◌++◌, append_assoc, append-nil, Bool, true, false, length, refl, sym, subst, arith, ◌⊎◌, inl, inr}
use Rattle.std.specs.Prelude.{if◌then◌else◌, slice_range}
use Rattle.asn_rules_guards.specs.Allows.{allows}
use Rattle.asn_rules_guards.specs.declared.asked.Guard.{Guard}
use Rattle.asn_rules.specs.Derives.{Derives, joins, leaves_mark, leaves_none, misses, node, passes, repeats, idles, stops, sees as derives_sees, stands}
use Rattle.asn_rules.specs.Expression.{Expression, see, marked, seq, choice, many, never, guarded, rule, skip, rule_of, Sight}
use Rattle.asn_rules.specs.Marks.{mark_number}
use Rattle.asn_rules.specs.Runs.{Ending, ends, fails, seen, judged, Runs, sees, sees_mark, seq_ends, seq_fails, choice_first, choice_second, many_turn, many_idle, many_fails, never_ends, never_fails, guard_judges, guard_fails, calls}
use Rattle.asn_rules.specs.declared.marks.Mark.{Mark}
use Rattle.asn_rules.specs.declared.node.Node.{Node}
use Rattle.asn_rules.specs.declared.run.Outcome.TheVariants.{End, Fail}
use Rattle.asn_rules.proofs.Theory.{one_outcome}
use Rattle.asn_match.specs.Table.{RunsTo, in_body}
use Rattle.asn_match.specs.inner.Given.{EndsWithin, Enters}
use Rattle.asn_match.specs.declared.chains.MatchTable.{MatchTable}

module _ (rules : List Expression) (text : List ℕ) (h : ℕ) where
  same_end : (j k : ℕ) → ends j ≡ ends k → j ≡ k
  same_end j k e = cc

  -- one end
  one_end : (e : Expression) (i j k l m : ℕ) → i ≤ length text → Runs rules text e i (ends j) l → Runs rules text e i (ends k) m → j ≡ k
  one_end e i j k l m le p q = same_end j k (one_outcome rules text e i (ends j) (ends k) l m le p q).0

  not_both : (e : Expression) (i j l m : ℕ) → i ≤ length text → Runs rules text e i (ends j) l → Runs rules text e i fails m → ⊥
  not_both e i j l m le p q = let e = (one_outcome rules text e i (ends j) fails l m le p q).0 in absurd cc

  seen_so : (s : Sight) (i l : ℕ) (o : Ending) → Runs rules text (see s) i o l → seen text s i ≡ o
  seen_so s i l o sees = refl

  pub see_derives : (s : Sight) (i j : ℕ) (n : List Node) → EndsWithin rules text h (see s) i j → n ≡ [] → Derives rules text (see s) i j n
  see_derives s i j n x e = subst (Derives rules text (see s) i j) (sym e) (derives_sees (seen_so s i x.height (ends j) x.runs))

  marked_so : (m : Mark) (s : Sight) (i l : ℕ) (o : Ending) → Runs rules text (marked m s) i o l → seen text s i ≡ o
  marked_so m s i l o sees_mark = refl

  pub mark_derives : (m : Mark) (s : Sight) (i j : ℕ) (n : List Node) → EndsWithin rules text h (marked m s) i j → n ≡ node (mark_number m) i j [] ∷ [] → Derives rules text (marked m s) i j n
  mark_derives m s i j n x e = subst (Derives rules text (marked m s) i j) (sym e) (leaves_mark (marked_so m s i x.height (ends j) x.runs))

  pub skip_derives : (r i j : ℕ) (n : List Node) → EndsWithin rules text h (skip r) i j → n ≡ [] → Derives rules text (skip r) i j n
  skip_derives r i j n x e = subst (Derives rules text (skip r) i j) (sym e) (leaves_none x.runs)

  never_so : (a : Expression) (i l j : ℕ) (o : Ending) → Runs rules text (never a) i o l → o ≡ ends j → (i ≡ j) × Runs rules text a i fails l
  never_so a i l j o (never_ends p) e = (cc, p)
  never_so a i l j o (never_fails p) e = absurd cc

  pub never_derives : (a : Expression) (i j : ℕ) (n : List Node) → EndsWithin rules text h (never a) i j → n ≡ [] → Derives rules text (never a) i j n
  never_derives a i j n x e =
      let so = never_so a i x.height j (ends j) x.runs refl in
      subst (Derives rules text (never a) i j) (sym e) (subst (λ k. Derives rules text (never a) i k []) so.0 (misses so.1))

  called_so : (r i l : ℕ) (o : Ending) → Runs rules text (rule r) i o l → (k : ℕ) × (l ≡ k + 1) × Runs rules text (rule_of rules r) i o k
  called_so r i l o (calls {h = k} p) = (k, refl, p)

  pub rule_positive : (r i j : ℕ) → EndsWithin rules text h (rule r) i j → 0 < h
  rule_positive r i j x = let so = called_so r i x.height (ends j) x.runs in omega (arith, so.1, x.low)

  pub rule_body : (r i j : ℕ) (e : Expression) → EndsWithin rules text h (rule r) i j → e ≡ rule_of rules r → EndsWithin rules text (h - 1) e i j
  rule_body r i j e x same =
      let so = called_so r i x.height (ends j) x.runs in
      record { height = so.0; runs = subst (λ e. Runs rules text e i (ends j) so.0) (sym same) so.2; low = omega (arith, so.1, x.low) }

  pub enters_body : (t : MatchTable) (r i : ℕ) (e : Expression) → Enters rules text t (rule r) i → e ≡ rule_of rules r → Enters rules text t e i
  enters_body t r i e x same = subst (λ e. Enters rules text t e i) (sym same) (record { all = λ s j q. x.all s j (in_body q) })

  pub rule_derives : (r i j : ℕ) (e : Expression) (m : List Node) (n : Node) → e ≡ rule_of rules r → Derives rules text e i j m → n ≡ node r i j m → Derives rules text (rule r) i j (n ∷ [])
  rule_derives r i j e m n same d is =
      subst (λ n. Derives rules text (rule r) i j (n ∷ [])) (sym is) (stands (subst (λ e. Derives rules text e i j m) same d))

  pub one_node : (r i j : ℕ) (n : Node) (o : List Node) → Derives rules text (rule r) i j (n ∷ []) → o ≡ n ∷ [] → Derives rules text (rule r) i j o
  one_node r i j n o d is = subst (Derives rules text (rule r) i j) (sym is) d

  -- what the parts of a sequence come to
  seq_so : (a b : Expression) (i l : ℕ) (o : Ending) → Runs rules text (seq a b) i o l → (j : ℕ) → o ≡ ends j → (k : ℕ) × (m : ℕ) × (p : ℕ) × Runs rules text a i (ends k) m × Runs rules text b k (ends j) p × (m ≤ l) × (p ≤ l)
  seq_so a b i l o (seq_ends {j = k} {h = m} {k = p} x y) j e = (k, m, p, x, subst (λ o. Runs rules text b k o p) e y, omega arith, omega arith)
  seq_so a b i l o (seq_fails x) j e = absurd cc

  pub seq_left : (a b : Expression) (i j k l : ℕ) → i ≤ length text → EndsWithin rules text h (seq a b) i j → RunsTo rules text a i (End k l) → EndsWithin rules text h a i k
  seq_left a b i j k l le x p =
      let so = seq_so a b i x.height (ends j) x.runs j refl in
      let same = one_end a i so.0 k so.1 l le so.3 p in
      record { height = so.1; runs = subst (λ k. Runs rules text a i (ends k) so.1) same so.3; low = omega (arith, so.5, x.low) }

  pub seq_right : (a b : Expression) (i j k l : ℕ) → i ≤ length text → EndsWithin rules text h (seq a b) i j → RunsTo rules text a i (End k l) → EndsWithin rules text h b k j
  seq_right a b i j k l le x p =
      let so = seq_so a b i x.height (ends j) x.runs j refl in
      let same = one_end a i so.0 k so.1 l le so.3 p in
      record { height = so.2; runs = subst (λ k. Runs rules text b k (ends j) so.2) same so.4; low = omega (arith, so.6, x.low) }

  pub seq_not_fails : (a b : Expression) (i j l : ℕ) → i ≤ length text → EndsWithin rules text h (seq a b) i j → RunsTo rules text a i (Fail l) → ⊥
  seq_not_fails a b i j l le x p =
      let so = seq_so a b i x.height (ends j) x.runs j refl in
      not_both a i so.0 so.1 l le so.3 p

  pub seq_derives : (a b : Expression) (i k j : ℕ) (m n o : List Node) → Derives rules text a i k m → Derives rules text b k j n → o ≡ m ++ n → Derives rules text (seq a b) i j o
  seq_derives a b i k j m n o d e is = subst (Derives rules text (seq a b) i j) (sym is) (joins d e)

  choice_so : (a b : Expression) (i l : ℕ) (o : Ending) → Runs rules text (choice a b) i o l → (j : ℕ) → o ≡ ends j → ((m : ℕ) × Runs rules text a i (ends j) m × (m ≤ l)) ⊎ ((m : ℕ) × (p : ℕ) × Runs rules text a i fails m × Runs rules text b i (ends j) p × (p ≤ l))
  choice_so a b i l o (choice_first {h = m} x) j e = inl (m, subst (λ o. Runs rules text a i o m) e x, omega arith)
  choice_so a b i l o (choice_second {h = m} {k = p} x y) j e = inr (m, p, x, subst (λ o. Runs rules text b i o p) e y, omega arith)

  pub choice_left : (a b : Expression) (i j k l : ℕ) → i ≤ length text → EndsWithin rules text h (choice a b) i j → RunsTo rules text a i (End k l) → EndsWithin rules text h a i j
  choice_left a b i j k l le x p = elim (choice_so a b i x.height (ends j) x.runs j refl) [
    | inl y ↦ record { height = y.0; runs = y.1; low = omega (arith, y.2, x.low) }
    | inr y ↦ absurd (not_both a i k l y.0 le p y.2)
  ]

  pub choice_right : (a b : Expression) (i j l : ℕ) → i ≤ length text → EndsWithin rules text h (choice a b) i j → RunsTo rules text a i (Fail l) → EndsWithin rules text h b i j
  choice_right a b i j l le x p = elim (choice_so a b i x.height (ends j) x.runs j refl) [
    | inl y ↦ absurd (not_both a i j y.0 l le y.1 p)
    | inr y ↦ record { height = y.1; runs = y.3; low = omega (arith, y.4, x.low) }
  ]

  guard_so : (a : Expression) (g : Guard) (i l : ℕ) (o : Ending) → Runs rules text (guarded a g) i o l → (j : ℕ) → o ≡ ends j → (k : ℕ) × Runs rules text a i (ends k) l × (judged text g i k ≡ ends j)
  guard_so a g i l o (guard_judges {j = k} x) j e = (k, x, e)
  guard_so a g i l o (guard_fails x) j e = absurd cc

  judged_end : (g : Guard) (i k j : ℕ) → judged text g i k ≡ ends j → k ≡ j
  judged_end g i k j e = go (allows g (slice_range text i k)) e
    where
      go : (b : Bool) → (if b then ends k else fails) ≡ ends j → k ≡ j
      go true e = cc
      go false e = absurd cc

  pub guard_inner : (a : Expression) (g : Guard) (i j : ℕ) → EndsWithin rules text h (guarded a g) i j → EndsWithin rules text h a i j
  guard_inner a g i j x =
      let so = guard_so a g i x.height (ends j) x.runs j refl in
      record { height = x.height; runs = subst (λ k. Runs rules text a i (ends k) x.height) (judged_end g i so.0 j so.2) so.1; low = x.low }

  pub guard_derives : (a : Expression) (g : Guard) (i j : ℕ) (n : List Node) → EndsWithin rules text h (guarded a g) i j → Derives rules text a i j n → Derives rules text (guarded a g) i j n
  guard_derives a g i j n x d =
      let so = guard_so a g i x.height (ends j) x.runs j refl in
      passes d (subst (λ k. judged text g i k ≡ ends j) (judged_end g i so.0 j so.2) so.2)

  -- what is left of a repetition behind a turn
  many_so : (a : Expression) (i l : ℕ) (o : Ending) → Runs rules text (many a) i o l → (j : ℕ) → o ≡ ends j → (o' : Ending) × (m : ℕ) × Runs rules text a i o' m × (m ≤ l)
  many_so a i l o (many_turn {j = k} {h = m} x lt y) j e = (ends k, m, x, omega arith)
  many_so a i l o (many_idle {h = m} x) j e = (ends i, m, x, omega arith)
  many_so a i l o (many_fails {h = m} x) j e = (fails, m, x, omega arith)

  many_rest : (a : Expression) (i l k m : ℕ) (o : Ending) → i ≤ length text → Runs rules text (many a) i o l → Runs rules text a i (ends k) m → i < k → (p : ℕ) × Runs rules text (many a) k o p × (p ≤ l)
  many_rest a i l k m o le (many_turn {j = j} {h = n} {k = p} x lt y) q on = let same = one_end a i j k n m le x q in (p, subst (λ j. Runs rules text (many a) j o p) same y, omega arith)
  many_rest a i l k m o le (many_idle {h = n} x) q on = let same = one_end a i i k n m le x q in absurd (omega (arith, same, on))
  many_rest a i l k m o le (many_fails {h = n} x) q on = absurd (not_both a i k m n le q x)

  pub many_ends_on : (a : Expression) (i j k m : ℕ) → i ≤ length text → EndsWithin rules text h (many a) i j → RunsTo rules text a i (End k m) → i < k → EndsWithin rules text h (many a) k j
  many_ends_on a i j k m le x q on = let so = many_rest a i x.height k m (ends j) le x.runs q on in record { height = so.0; runs = so.1; low = omega (arith, so.2, x.low) }

  pub turn_ends : (a : Expression) (i j k m : ℕ) → i ≤ length text → EndsWithin rules text h (many a) i j → RunsTo rules text a i (End k m) → EndsWithin rules text h a i k
  turn_ends a i j k m le x q =
      let so = many_so a i x.height (ends j) x.runs j refl in
      let same = (one_outcome rules text a i so.0 (ends k) so.1 m le so.2 q).0 in
      record { height = so.1; runs = subst (λ o. Runs rules text a i o so.1) same so.2; low = omega (arith, so.3, x.low) }

  pub idle_derives : (a : Expression) (i j k m : ℕ) → i ≤ length text → EndsWithin rules text h (many a) i j → RunsTo rules text a i (End k m) → k ≡ i → Derives rules text (many a) i j []
  idle_derives a i j k m le x q same =
      let idle : Runs rules text a i (ends i) m = subst (λ k. Runs rules text a i (ends k) m) same q in
      let at_end = one_end (many a) i i j m x.height le (many_idle idle) x.runs in
      subst (λ j. Derives rules text (many a) i j []) at_end (idles idle)

  pub stop_derives : (a : Expression) (i j m : ℕ) → i ≤ length text → EndsWithin rules text h (many a) i j → RunsTo rules text a i (Fail m) → Derives rules text (many a) i j []
  stop_derives a i j m le x q =
      let at_end = one_end (many a) i i j m x.height le (many_fails q) x.runs in
      subst (λ j. Derives rules text (many a) i j []) at_end (stops q)

  -- what was made of the turns so far is the front of what is made of all
  pub record Fronts (a : Expression) (i k j : ℕ) (m : List Node) : Type 0 where
    pub on : (n : List Node) → Derives rules text (many a) k j n → Derives rules text (many a) i j (m ++ n)

  pub no_front : (a : Expression) (i j : ℕ) (m : List Node) → m ≡ [] → Fronts a i i j m
  no_front a i j m e = record { on = λ n d. subst (λ m. Derives rules text (many a) i j (m ++ n)) (sym e) d }

  pub front_more : (a : Expression) (i k l j : ℕ) (m o p : List Node) → k < l → Derives rules text a k l o → p ≡ m ++ o → Fronts a i k j m → Fronts a i l j p
  front_more a i k l j m o p lt d is f = record {
    on = λ n e.
        subst (λ p. Derives rules text (many a) i j (p ++ n)) (sym is) (subst (Derives rules text (many a) i j) (sym (append_assoc m o n)) (f.on (o ++ n) (repeats d lt e)));
  }

  pub whole_front : (a : Expression) (i k j : ℕ) (m : List Node) → Fronts a i k j m → Derives rules text (many a) k j [] → Derives rules text (many a) i j m
  whole_front a i k j m f d = subst (Derives rules text (many a) i j) (append-nil m) (f.on [] d)
