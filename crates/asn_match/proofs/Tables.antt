-- What a try adds to the table.
use Rattle.std.proofs.Common.{◌≡◌, ℕ, ◌<◌, ◌≤◌, List, true, false, Some, Result, Ok, Err, length, refl, sym, ap, ◌∙◌, subst, arith, ◌⊎◌, inl, inr}
use Rattle.std.specs.Prelude.{nat_eq, ◌&&◌, if◌then◌else◌, IsSome, IfSome}
use Rattle.std.proofs.lemmas.Bool.Decides.{eqb_tells}
use Rattle.asn_rules.specs.Expression.{Expression, seq, choice, many, never, guarded, rule, skip, rule_of}
use Rattle.asn_rules.specs.Runs.{Answer, Ending, ends, fails, Runs, calls}
use Rattle.asn_rules.specs.inner.Answer.{answer, height_of, IsWithinOutcome, one_more}
use Rattle.asn_match.specs.inner.Given.{Gives}
use Rattle.asn_match.specs.Table.{at, Sets, Tries, itself, in_skipped, in_body, in_first, in_second, in_one, in_other, in_turn, in_later, in_never, in_guarded, RunsTo, Holds, Adds}
use Rattle.asn_match.specs.declared.chains.MatchTable.{MatchTable}
use Rattle.asn_rules_guards.specs.declared.asked.Guard.{Guard}
use Rattle.asn_rules.specs.declared.run.Outcome.{Outcome}
use Rattle.asn_rules.specs.declared.run.Outcome.TheVariants.{End, Fail}
use Rattle.asn_rules.specs.declared.run.MatchFault.{MatchFault}
use Rattle.asn_rules.specs.declared.run.MatchFault.TheVariants.{TooDeep, OutOfMemory}
use Rattle.asn_rules.proofs.Theory.{Low, low_call, too_deep, Sound, sound, complete, one_outcome, runs_lies}

tested : (r i s j : ℕ) → (((nat_eq r s && nat_eq i j) ≡ true) × (r ≡ s) × (i ≡ j)) ⊎ ((nat_eq r s && nat_eq i j) ≡ false)
tested r i s j = go (eqb_tells r s) (eqb_tells i j)
  where
    go : ((nat_eq r s ≡ true) × (r ≡ s)) ⊎ ((nat_eq r s ≡ false) × (r ≡ s → ⊥)) → ((nat_eq i j ≡ true) × (i ≡ j)) ⊎ ((nat_eq i j ≡ false) × (i ≡ j → ⊥)) → (((nat_eq r s && nat_eq i j) ≡ true) × (r ≡ s) × (i ≡ j)) ⊎ ((nat_eq r s && nat_eq i j) ≡ false)
    go (inl a) (inl b) = inl (ap (λ x. x && nat_eq i j) a.0 ∙ b.0, a.1, b.1)
    go (inl a) (inr b) = inr (ap (λ x. x && nat_eq i j) a.0 ∙ b.0)
    go (inr a) y = inr (ap (λ x. x && nat_eq i j) a.0)

module _ (rules : List Expression) (text : List ℕ) where
  pub End-runs : (d : ℕ) (a : Expression) (i j h : ℕ) → i ≤ length text → Ok (End j h) ≡ answer rules text d a i → Runs rules text a i (ends j) h
  End-runs d a i j h le e = subst (Sound rules text a i) (sym e) (sound rules text d a i le)

  pub Fail-runs : (d : ℕ) (a : Expression) (i h : ℕ) → i ≤ length text → Ok (Fail h) ≡ answer rules text d a i → Runs rules text a i fails h
  Fail-runs d a i h le e = subst (Sound rules text a i) (sym e) (sound rules text d a i le)

  -- one part that was tried
  wrap : (a e : Expression) (i : ℕ) (t u : MatchTable) → ((r j : ℕ) → Tries rules text e i r j → Tries rules text a i r j) → ((r j : ℕ) → Tries rules text a i r j → Tries rules text e i r j) → Adds rules text a i t u → Adds rules text e i t u
  wrap a e i t u into back x = record {
    holds = x.holds;
    grows = x.grows;
    tried = λ r j q. x.tried r j (into r j q);
    only = λ r j s. elim (x.only r j s) [ inl o ↦ inl o | inr q ↦ inr (back r j q) ];
  }

  -- two parts that were tried, one after the other
  two : (a b e : Expression) (i k : ℕ) (t u v : MatchTable) → ((r j : ℕ) → Tries rules text e i r j → Tries rules text a i r j ⊎ Tries rules text b k r j) → ((r j : ℕ) → Tries rules text a i r j → Tries rules text e i r j) → ((r j : ℕ) → Tries rules text b k r j → Tries rules text e i r j) → Adds rules text a i t u → Adds rules text b k u v → Adds rules text e i t v
  two a b e i k t u v into back back' x y = record {
    holds = y.holds;
    grows = λ r j s. y.grows r j (x.grows r j s);
    tried = λ r j q. elim (into r j q) [ inl p ↦ y.grows r j (x.tried r j p) | inr p ↦ y.tried r j p ];
    only = λ r j s. elim (y.only r j s) [
      | inl m ↦ elim (x.only r j m) [ inl o ↦ inl o | inr q ↦ inr (back r j q) ]
      | inr q ↦ inr (back' r j q)
    ];
  }

  into_seq_off : (a b : Expression) (i h r j : ℕ) → i ≤ length text → Runs rules text a i fails h → Tries rules text (seq a b) i r j → Tries rules text a i r j
  into_seq_off a b i h r j le p (in_first q) = q
  into_seq_off a b i h r j le p (in_second {k = k} {h = h'} p' q) = let e = (one_outcome rules text a i fails (ends k) h h' le p p').0 in absurd cc

  into_seq_on : (a b : Expression) (i k h r j : ℕ) → i ≤ length text → Runs rules text a i (ends k) h → Tries rules text (seq a b) i r j → Tries rules text a i r j ⊎ Tries rules text b k r j
  into_seq_on a b i k h r j le p (in_first q) = inl q
  into_seq_on a b i k h r j le p (in_second {k = k'} {h = h'} p' q) =
      let e = (one_outcome rules text a i (ends k') (ends k) h' h le p' p).0 in
      let same : k' ≡ k = cc in
      inr (subst (λ x. Tries rules text b x r j) same q)

  into_choice_first : (a b : Expression) (i k h r j : ℕ) → i ≤ length text → Runs rules text a i (ends k) h → Tries rules text (choice a b) i r j → Tries rules text a i r j
  into_choice_first a b i k h r j le p (in_one q) = q
  into_choice_first a b i k h r j le p (in_other {h = h'} p' q) = let e = (one_outcome rules text a i (ends k) fails h h' le p p').0 in absurd cc

  into_choice : (a b : Expression) (i r j : ℕ) → Tries rules text (choice a b) i r j → Tries rules text a i r j ⊎ Tries rules text b i r j
  into_choice a b i r j (in_one q) = inl q
  into_choice a b i r j (in_other p q) = inr q

  into_never : (a : Expression) (i r j : ℕ) → Tries rules text (never a) i r j → Tries rules text a i r j
  into_never a i r j (in_never q) = q

  into_guarded : (a : Expression) (g : Guard) (i r j : ℕ) → Tries rules text (guarded a g) i r j → Tries rules text a i r j
  into_guarded a g i r j (in_guarded q) = q

  into_many_off : (a : Expression) (i h r j : ℕ) (o : Ending) → i ≤ length text → Runs rules text a i o h → ((k : ℕ) → o ≡ ends k → k ≤ i) → Tries rules text (many a) i r j → Tries rules text a i r j
  into_many_off a i h r j o le p stays (in_turn q) = q
  into_many_off a i h r j o le p stays (in_later {k = k} {h = h'} p' lt q) = let low = stays k (one_outcome rules text a i o (ends k) h h' le p p').0 in absurd (omega arith)

  into_many_on : (a : Expression) (i k h r j : ℕ) → i ≤ length text → Runs rules text a i (ends k) h → Tries rules text (many a) i r j → Tries rules text a i r j ⊎ Tries rules text (many a) k r j
  into_many_on a i k h r j le p (in_turn q) = inl q
  into_many_on a i k h r j le p (in_later {k = k'} {h = h'} p' lt q) =
      let e = (one_outcome rules text a i (ends k') (ends k) h' h le p' p).0 in
      let same : k' ≡ k = cc in
      inr (subst (λ x. Tries rules text (many a) x r j) same q)

  module _ (d i : ℕ) (le : i ≤ length text) (t u : MatchTable) where
    pub seq_off : (a b : Expression) (h : ℕ) → Ok (Fail h) ≡ answer rules text d a i → Adds rules text a i t u → Adds rules text (seq a b) i t u
    seq_off a b h e x = wrap a (seq a b) i t u (λ r j q. into_seq_off a b i h r j le (Fail-runs d a i h le e) q) (λ r j q. in_first q) x

    pub seq_on : (a b : Expression) (k h : ℕ) (v : MatchTable) → Ok (End k h) ≡ answer rules text d a i → Adds rules text a i t u → Adds rules text b k u v → Adds rules text (seq a b) i t v
    seq_on a b k h v e x y =
        let p = End-runs d a i k h le e in
        two a b (seq a b) i k t u v (λ r j q. into_seq_on a b i k h r j le p q) (λ r j q. in_first q) (λ r j q. in_second p q) x y

    pub choice_on : (a b : Expression) (k h : ℕ) → Ok (End k h) ≡ answer rules text d a i → Adds rules text a i t u → Adds rules text (choice a b) i t u
    choice_on a b k h e x = wrap a (choice a b) i t u (λ r j q. into_choice_first a b i k h r j le (End-runs d a i k h le e) q) (λ r j q. in_one q) x

    pub choice_off : (a b : Expression) (h : ℕ) (v : MatchTable) → Ok (Fail h) ≡ answer rules text d a i → Adds rules text a i t u → Adds rules text b i u v → Adds rules text (choice a b) i t v
    choice_off a b h v e x y =
        let p = Fail-runs d a i h le e in
        two a b (choice a b) i i t u v (λ r j q. into_choice a b i r j q) (λ r j q. in_one q) (λ r j q. in_other p q) x y

    pub never_adds : (a : Expression) → Adds rules text a i t u → Adds rules text (never a) i t u
    never_adds a x = wrap a (never a) i t u (λ r j q. into_never a i r j q) (λ r j q. in_never q) x

    pub guarded_adds : (a : Expression) (g : Guard) → Adds rules text a i t u → Adds rules text (guarded a g) i t u
    guarded_adds a g x = wrap a (guarded a g) i t u (λ r j q. into_guarded a g i r j q) (λ r j q. in_guarded q) x

    pub many_off : (a : Expression) (h : ℕ) → Ok (Fail h) ≡ answer rules text d a i → Adds rules text a i t u → Adds rules text (many a) i t u
    many_off a h e x = wrap a (many a) i t u (λ r j q. into_many_off a i h r j fails le (Fail-runs d a i h le e) (λ k e. absurd cc) q) (λ r j q. in_turn q) x

    pub many_idles : (a : Expression) (k h : ℕ) → k ≡ i → Ok (End k h) ≡ answer rules text d a i → Adds rules text a i t u → Adds rules text (many a) i t u
    many_idles a k h same e x = wrap a (many a) i t u (λ r j q. into_many_off a i h r j (ends k) le (End-runs d a i k h le e) (λ k' e'. let n : k ≡ k' = cc in omega arith) q) (λ r j q. in_turn q) x

    pub many_on : (a : Expression) (k h : ℕ) (v : MatchTable) → i < k → Ok (End k h) ≡ answer rules text d a i → Adds rules text a i t u → Adds rules text (many a) k u v → Adds rules text (many a) i t v
    many_on a k h v lt e x y =
        let p = End-runs d a i k h le e in
        two a (many a) (many a) i k t u v (λ r j q. into_many_on a i k h r j le p q) (λ r j q. in_turn q) (λ r j q. in_later p lt q) x y

  into_skipped : (r i s j : ℕ) → Tries rules text (skip r) i s j → Tries rules text (rule r) i s j
  into_skipped r i s j (in_skipped q) = q

  pub skip_adds : (r i : ℕ) (t u : MatchTable) → Adds rules text (rule r) i t u → Adds rules text (skip r) i t u
  skip_adds r i t u x = wrap (rule r) (skip r) i t u (λ s j q. into_skipped r i s j q) (λ s j q. in_skipped q) x

  pub hit : (r i : ℕ) (t : MatchTable) → Holds rules text t → IsSome (at t r i) → Adds rules text (rule r) i t t
  hit r i t x some = record {
    holds = x;
    grows = λ s j y. y;
    tried = λ s j q. x.closed r i s j some q;
    only = λ s j y. inl y;
  }

  -- the entry of a rule, after its body was tried
  module _ (r i : ℕ) (o : Outcome) (t u v : MatchTable) (le : i ≤ length text) (x : Adds rules text (rule_of rules r) i t u) (set : Sets u v r i o) (p : RunsTo rules text (rule r) i o) where
    at_entry : (s j : ℕ) → (nat_eq r s && nat_eq i j) ≡ true → at v s j ≡ Some o
    at_entry s j e = set s j ∙ ap (λ b. if b then Some o else at u s j) e

    apart : (s j : ℕ) → (nat_eq r s && nat_eq i j) ≡ false → at v s j ≡ at u s j
    apart s j e = set s j ∙ ap (λ b. if b then Some o else at u s j) e

    grown : (s j : ℕ) → IsSome (at u s j) → IsSome (at v s j)
    grown s j y = elim (tested r i s j) [ inl same ↦ subst IsSome (sym (at_entry s j same.0)) refl | inr e ↦ subst IsSome (sym (apart s j e)) y ]

    to_entry : (P : ℕ → ℕ → Type 0) (s j : ℕ) → r ≡ s → i ≡ j → P r i → P s j
    to_entry P s j a b y = subst (λ n. P s n) b (subst (λ m. P m i) a y)

    in_table : (s j : ℕ) → Tries rules text (rule r) i s j → IsSome (at v s j)
    in_table s j itself = elim (tested r i r i) [ inl same ↦ subst IsSome (sym (at_entry r i same.0)) refl | inr e ↦ absurd (differs e) ]
      where
        differs : (nat_eq r r && nat_eq i i) ≡ false → ⊥
        differs e = let a : nat_eq r r ≡ true = grind arith in let b : nat_eq i i ≡ true = grind arith in let c = ap (λ x. x && nat_eq i i) a in absurd cc
    in_table s j (in_body q) = grown s j (x.tried s j q)

    pub entered : Adds rules text (rule r) i t v
    entered = record {
      holds = record {
        right = λ s j. elim (tested r i s j) [
          | inl same ↦ subst (λ y. IfSome y (λ o. (j ≤ length text) × RunsTo rules text (rule s) j o)) (sym (at_entry s j same.0)) (to_entry (λ s j. (j ≤ length text) × RunsTo rules text (rule s) j o) s j same.1 same.2 (le, p))
          | inr e ↦ subst (λ y. IfSome y (λ o. (j ≤ length text) × RunsTo rules text (rule s) j o)) (sym (apart s j e)) (x.holds.right s j)
        ];
        closed = λ s j s' j' y q. elim (tested r i s j) [
          | inl same ↦ in_table s' j' (to_entry (λ s j. Tries rules text (rule s) j s' j') r i refl refl (back s j s' j' same.1 same.2 q))
          | inr e ↦ grown s' j' (x.holds.closed s j s' j' (subst IsSome (apart s j e) y) q)
        ];
      };
      grows = λ s j y. grown s j (x.grows s j y);
      tried = in_table;
      only = λ s j y. elim (tested r i s j) [
        | inl same ↦ inr (to_entry (λ s j. Tries rules text (rule r) i s j) s j same.1 same.2 itself)
        | inr e ↦ elim (x.only s j (subst IsSome (apart s j e) y)) [ inl old ↦ inl old | inr q ↦ inr (in_body q) ]
      ];
    }
      where
        back : (s j s' j' : ℕ) → r ≡ s → i ≡ j → Tries rules text (rule s) j s' j' → Tries rules text (rule r) i s' j'
        back s j s' j' a b q = subst (λ n. Tries rules text (rule r) n s' j') (sym b) (subst (λ m. Tries rules text (rule m) j s' j') (sym a) q)

  pub hit_value : (d r i : ℕ) (o : Outcome) → i ≤ length text → RunsTo rules text (rule r) i o → height_of o ≤ d → Ok o ≡ answer rules text d (rule r) i
  hit_value d r i (End j h) le p a = sym (complete rules text p le d a)
  hit_value d r i (Fail h) le p a = sym (complete rules text p le d a)

  pub hit_within : (d r i : ℕ) (o : Outcome) → i ≤ length text → RunsTo rules text (rule r) i o → height_of o ≤ d → IsWithinOutcome (length text) d i o
  hit_within d r i (End j h) le p a = let l = runs_lies rules text p le in (l.0, l.1, a)
  hit_within d r i (Fail h) le p a = a

  hit_same : (r i : ℕ) (o o' : Outcome) → i ≤ length text → RunsTo rules text (rule r) i o → RunsTo rules text (rule r) i o' → height_of o ≡ height_of o'
  hit_same r i (End j h) (End j' h') le p q = (one_outcome rules text (rule r) i (ends j) (ends j') h h' le p q).1
  hit_same r i (End j h) (Fail h') le p q = (one_outcome rules text (rule r) i (ends j) fails h h' le p q).1
  hit_same r i (Fail h) (End j' h') le p q = (one_outcome rules text (rule r) i fails (ends j') h h' le p q).1
  hit_same r i (Fail h) (Fail h') le p q = (one_outcome rules text (rule r) i fails fails h h' le p q).1

  pub hit_deep : (d r i : ℕ) (o : Outcome) → i ≤ length text → RunsTo rules text (rule r) i o → d < height_of o → Err TooDeep ≡ answer rules text d (rule r) i
  hit_deep d r i o le p a = go (answer rules text d (rule r) i) (sound rules text d (rule r) i le) (low_call rules text d r i)
    where
      go : (x : Answer) → Sound rules text (rule r) i x → Low rules text d x → Err TooDeep ≡ x
      go (Ok (End j h)) q low = let e = hit_same r i o (End j h) le p q in absurd (omega arith)
      go (Ok (Fail h)) q low = let e = hit_same r i o (Fail h) le p q in absurd (omega arith)
      go (Err TooDeep) q low = refl
      go (Err OutOfMemory) q low = absurd low

  pub body_runs : (d r i : ℕ) (e : Expression) (o : Outcome) → i ≤ length text → e ≡ rule_of rules r → Ok o ≡ answer rules text d e i → RunsTo rules text (rule r) i (one_more o)
  body_runs d r i e (End j h) le same eq = calls (subst (λ a. Runs rules text a i (ends j) h) same (End-runs d e i j h le eq))
  body_runs d r i e (Fail h) le same eq = calls (subst (λ a. Runs rules text a i fails h) same (Fail-runs d e i h le eq))

  -- what the entry says
  pub entry : (t : MatchTable) (r i : ℕ) (o : Outcome) → Holds rules text t → Some o ≡ at t r i → RunsTo rules text (rule r) i o
  entry t r i o x e = (subst (λ y. IfSome y (λ o. (i ≤ length text) × RunsTo rules text (rule r) i o)) (sym e) (x.right r i)).1

  pub deep_of : (d : ℕ) (e : Expression) (i : ℕ) (f : MatchFault) → i ≤ length text → Gives (Err f) (answer rules text d e i) → ◌≡◌ {A = Result MatchTable MatchFault} (Err f) (Err TooDeep) → (o : Ending) (h : ℕ) → Runs rules text e i o h → d < h
  deep_of d e i TooDeep le g same o h p = too_deep rules text d e i o h TooDeep le (sym g) p
  deep_of d e i OutOfMemory le g same o h p = absurd cc

  pub flat_of : (d r i : ℕ) (x : Outcome) → i ≤ length text → Ok x ≡ answer rules text d (rule r) i → IsWithinOutcome (length text) d i x → (o : Ending) (h : ℕ) → Runs rules text (rule r) i o h → h ≤ d
  flat_of d r i (End j k) le e w o h p = let same = (one_outcome rules text (rule r) i (ends j) o k h le (End-runs d (rule r) i j k le e) p).1 in omega (arith, w.2)
  flat_of d r i (Fail k) le e w o h p = let same = (one_outcome rules text (rule r) i fails o k h le (Fail-runs d (rule r) i k le e) p).1 in omega (arith, w)
