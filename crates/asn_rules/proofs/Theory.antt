-- What the expressions come to, and what a try at a limited depth answers.
use Rattle.std.proofs.Common.{◌≡◌, ℕ, zero, suc, ◌+◌, ◌-◌, ◌<◌, ◌≤◌, max, List, [], ◌∷◌, Bool, true, false, Ok, Err, length, drop, refl, sym, ap, ◌∙◌, subst, arith, length-append, length-drop, ◌⊎◌, inl, inr}
use Rattle.std.specs.Prelude.{nat_eq, nat_lt, ◌&&◌, if◌then◌else◌, slice_range}
use Rattle.std.specs.List.{starts_with}
use Rattle.std.proofs.lemmas.Slice.Eq.{starts_is}
use Rattle.std.proofs.lemmas.Bool.Decides.{Decides-eqb, Decides-ltb, nat_tests}
use Rattle.std.proofs.lemmas.Bool.{cases_lt}
use Rattle.std.specs.Ordering.{ord_max, nat_cmp}
use Rattle.asn_rules.specs.Expression.{Expression, see, marked, seq, choice, many, never, guarded, rule, skip, Sight, bytes, word, one_of, rule_of}
use Rattle.asn_rules_guards.specs.Lexical.{stands, width, word_ends}
use Rattle.asn_rules_guards.specs.Allows.{allows}
use Rattle.asn_rules.specs.Runs.{Ending, ends, fails, seen, judged, Runs, sees, sees_mark, seq_ends, seq_fails, choice_first, choice_second, many_turn, many_idle, many_fails, never_ends, never_fails, guard_judges, guard_fails, calls, skips, Answer, Answers, Exceeds}
use Rattle.asn_rules.specs.inner.Answer.{at_height, raised, raise, one_more, higher, then_from, or_else, turned, judge, turn, turns, expr_answer, call_answer, answer, IsWithin, IsWithinOutcome, height_of}
use Rattle.asn_rules_guards.specs.declared.asked.Guard.{Guard}
use Rattle.asn_rules.specs.declared.marks.Mark.{Mark}
use Rattle.asn_rules.specs.declared.run.Outcome.{Outcome}
use Rattle.asn_rules.specs.declared.run.Outcome.TheVariants.{End, Fail}
use Rattle.asn_rules.specs.declared.run.MatchFault.{MatchFault}
use Rattle.asn_rules.specs.declared.run.MatchFault.TheVariants.{TooDeep, OutOfMemory}

-- An end lies between the offset and the text's end.
abbrev pub Lies : ℕ → ℕ → Ending → Type 0
Lies n i (ends j) = (i ≤ j) × (j ≤ n)
Lies n i fails = Unit {0}

and_left : (a b : Bool) → (a && b) ≡ true → a ≡ true
and_left true b e = refl
and_left false b e = e

prefix_fits : (x rest : List ℕ) → starts_with nat_eq rest x ≡ true → length x ≤ length rest
prefix_fits x rest e =
    let parts = (starts_is Decides-eqb rest x (starts_with nat_eq rest x) refl).0 e in
    omega (arith, ap length parts, length-append x (drop (length x) rest))

pub sight_fits : (s : Sight) (rest : List ℕ) → stands s rest ≡ true → width s ≤ length rest
sight_fits (bytes x) rest e = prefix_fits x rest e
sight_fits (word x) rest e = prefix_fits x rest (and_left _ (word_ends (drop (length x) rest)) e)
sight_fits (one_of c) [] e = cc
sight_fits (one_of c) (b ∷ rest) e = omega arith

not_below : (i : ℕ) → nat_lt i i ≡ false
not_below i = grind (arith, nat_tests)

module _ (rules : List Expression) (text : List ℕ) where
  pub seen_lies : (s : Sight) (i : ℕ) → i ≤ length text → Lies (length text) i (seen text s i)
  seen_lies s i le = go (stands s (drop i text)) (sight_fits s (drop i text))
    where
      go : (b : Bool) → (b ≡ true → width s ≤ length (drop i text)) → Lies (length text) i (if b then ends (i + width s) else fails)
      go true h = (omega arith, omega (arith, h refl, length-drop i text))
      go false h = tt

  judged_lies : (g : Guard) (i j : ℕ) → i ≤ j → j ≤ length text → Lies (length text) i (judged text g i j)
  judged_lies g i j le le' = go (allows g (slice_range text i j))
    where
      go : (b : Bool) → Lies (length text) i (if b then ends j else fails)
      go true = (le, le')
      go false = tt

  lies_on : (o : Ending) {i j : ℕ} → i ≤ j → Lies (length text) j o → Lies (length text) i o
  lies_on (ends k) le l = (omega arith, l.1)
  lies_on fails le l = tt

  pub runs_lies : {e : Expression} {i h : ℕ} {o : Ending} → Runs rules text e i o h → i ≤ length text → Lies (length text) i o
  runs_lies (sees {s} {i}) le = seen_lies s i le
  runs_lies (sees_mark {s = s} {i = i}) le = seen_lies s i le
  runs_lies (seq_ends {o = o} p q) le = let a = runs_lies p le in lies_on o a.0 (runs_lies q a.1)
  runs_lies (seq_fails p) le = tt
  runs_lies (choice_first p) le = runs_lies p le
  runs_lies (choice_second p q) le = runs_lies q le
  runs_lies (many_turn {o = o} p lt q) le = let a = runs_lies p le in lies_on o a.0 (runs_lies q a.1)
  runs_lies (many_idle p) le = runs_lies p le
  runs_lies (many_fails p) le = (omega arith, le)
  runs_lies (never_ends p) le = (omega arith, le)
  runs_lies (never_fails p) le = tt
  runs_lies (guard_judges {g = g} {i = i} {j = j} p) le = let a = runs_lies p le in judged_lies g i j a.0 a.1
  runs_lies (guard_fails p) le = tt
  runs_lies (calls p) le = runs_lies p le
  runs_lies (skips p) le = runs_lies p le

  -- What is answered is so.
  abbrev pub Sound : Expression → ℕ → Answer → Type 0
  Sound e i (Ok (End j h)) = Runs rules text e i (ends j) h
  Sound e i (Ok (Fail h)) = Runs rules text e i fails h
  Sound e i (Err f) = Unit {0}

  -- what goes on from each offset within the text
  abbrev AllSound : Expression → (ℕ → Answer) → Type 0
  AllSound e f = (i : ℕ) → i ≤ length text → Sound e i (f i)

  see_sound : (s : Sight) (i : ℕ) (o : Ending) → seen text s i ≡ o → Sound (see s) i (Ok (at_height o 0))
  see_sound s i (ends j) e = subst (λ o. Runs rules text (see s) i o 0) e sees
  see_sound s i fails e = subst (λ o. Runs rules text (see s) i o 0) e sees

  mark_sound : (m : Mark) (s : Sight) (i : ℕ) (o : Ending) → seen text s i ≡ o → Sound (marked m s) i (Ok (at_height o 0))
  mark_sound m s i (ends j) e = subst (λ o. Runs rules text (marked m s) i o 0) e sees_mark
  mark_sound m s i fails e = subst (λ o. Runs rules text (marked m s) i o 0) e sees_mark

  seq_sound : (a b : Expression) (i : ℕ) (x : Answer) (next : ℕ → Answer) → i ≤ length text → Sound a i x → AllSound b next → Sound (seq a b) i (then_from x next)
  seq_sound a b i (Ok (End j h)) next le p f = go (next j) (f j (runs_lies p le).1)
    where
      go : (y : Answer) → Sound b j y → Sound (seq a b) i (raise h y)
      go (Ok (End k l)) q = seq_ends p q
      go (Ok (Fail l)) q = seq_ends p q
      go (Err f) q = tt
  seq_sound a b i (Ok (Fail h)) next le p f = seq_fails p
  seq_sound a b i (Err x) next le p f = tt

  choice_sound : (a b : Expression) (i : ℕ) (x y : Answer) → Sound a i x → Sound b i y → Sound (choice a b) i (or_else x y)
  choice_sound a b i (Ok (End j h)) y p q = choice_first p
  choice_sound a b i (Ok (Fail h)) (Ok (End k l)) p q = choice_second p q
  choice_sound a b i (Ok (Fail h)) (Ok (Fail l)) p q = choice_second p q
  choice_sound a b i (Ok (Fail h)) (Err f) p q = tt
  choice_sound a b i (Err f) y p q = tt

  turned_sound : (a : Expression) (i : ℕ) (x : Answer) → Sound a i x → Sound (never a) i (turned i x)
  turned_sound a i (Ok (End j h)) p = never_fails p
  turned_sound a i (Ok (Fail h)) p = never_ends p
  turned_sound a i (Err f) p = tt

  judge_sound : (a : Expression) (g : Guard) (i : ℕ) (x : Answer) → Sound a i x → Sound (guarded a g) i (judge text g i x)
  judge_sound a g i (Ok (End j h)) p = go (judged text g i j) refl
    where
      go : (o : Ending) → judged text g i j ≡ o → Sound (guarded a g) i (Ok (at_height o h))
      go (ends k) e = subst (λ o. Runs rules text (guarded a g) i o h) e (guard_judges p)
      go fails e = subst (λ o. Runs rules text (guarded a g) i o h) e (guard_judges p)
  judge_sound a g i (Ok (Fail h)) p = guard_fails p
  judge_sound a g i (Err f) p = tt

  turn_sound : (a : Expression) (i : ℕ) (x : Answer) (next : ℕ → Answer) → i ≤ length text → Sound a i x → AllSound (many a) next → Sound (many a) i (turn i x next)
  turn_sound a i (Ok (End j h)) next le p f = go (nat_lt i j) (Decides-ltb i j)
    where
      on : i < j → (y : Answer) → Sound (many a) j y → Sound (many a) i (raise h y)
      on lt (Ok (End k l)) q = many_turn p lt q
      on lt (Ok (Fail l)) q = many_turn p lt q
      on lt (Err f) q = tt

      idle : (i < j → false ≡ true) → Sound (many a) i (Ok (End i h))
      idle stays =
          let l = runs_lies p le in
          let same : j ≡ i = grind (arith, stays, l.0) in
          many_idle (subst (λ k. Runs rules text a i (ends k) h) same p)

      go : (b : Bool) → (b ≡ true → i < j) × (i < j → b ≡ true) → Sound (many a) i (if b then raise h (next j) else Ok (End i h))
      go true d = on (d.0 refl) (next j) (f j (runs_lies p le).1)
      go false d = idle d.1
  turn_sound a i (Ok (Fail h)) next le p f = many_fails p
  turn_sound a i (Err x) next le p f = tt

  turns_sound : (a : Expression) (step : ℕ → Answer) → AllSound a step → (n : ℕ) → AllSound (many a) (turns step n)
  turns_sound a step f zero i le = tt
  turns_sound a step f (suc n) i le = turn_sound a i (step i) (turns step n) le (f i le) (turns_sound a step f n)

  -- of a call, and of one that leaves no node
  abbrev CallSound : ℕ → (ℕ → Answer) → Type 0
  CallSound r f = (i : ℕ) → i ≤ length text → Sound (rule r) i (f i) × Sound (skip r) i (f i)

  expr_sound : (call : ℕ → ℕ → Answer) → ((r : ℕ) → CallSound r (call r)) → (e : Expression) → AllSound e (expr_answer call text e)
  expr_sound call f (see s) i le = see_sound s i (seen text s i) refl
  expr_sound call f (marked m s) i le = mark_sound m s i (seen text s i) refl
  expr_sound call f (seq a b) i le = seq_sound a b i (expr_answer call text a i) (expr_answer call text b) le (expr_sound call f a i le) (expr_sound call f b)
  expr_sound call f (choice a b) i le = choice_sound a b i (expr_answer call text a i) (expr_answer call text b i) (expr_sound call f a i le) (expr_sound call f b i le)
  expr_sound call f (many a) i le = turns_sound a (expr_answer call text a) (expr_sound call f a) (suc (length text - i)) i le
  expr_sound call f (never a) i le = turned_sound a i (expr_answer call text a i) (expr_sound call f a i le)
  expr_sound call f (guarded a g) i le = judge_sound a g i (expr_answer call text a i) (expr_sound call f a i le)
  expr_sound call f (rule r) i le = (f r i le).0
  expr_sound call f (skip r) i le = (f r i le).1

  higher_sound : (r i : ℕ) (x : Answer) → Sound (rule_of rules r) i x → Sound (rule r) i (higher x) × Sound (skip r) i (higher x)
  higher_sound r i (Ok (End j h)) p = (calls p, skips p)
  higher_sound r i (Ok (Fail h)) p = (calls p, skips p)
  higher_sound r i (Err f) p = (tt, tt)

  call_sound : (d r : ℕ) → CallSound r (call_answer rules text d r)
  call_sound zero r i le = (tt, tt)
  call_sound (suc d) r i le = higher_sound r i (expr_answer (call_answer rules text d) text (rule_of rules r) i) (expr_sound (call_answer rules text d) (call_sound d) (rule_of rules r) i le)

  pub sound : (d : ℕ) (e : Expression) → AllSound e (answer rules text d e)
  sound d = expr_sound (call_answer rules text d) (call_sound d)

  ok_lies : (d : ℕ) (e : Expression) (i j h : ℕ) → i ≤ length text → answer rules text d e i ≡ Ok (End j h) → Lies (length text) i (ends j)
  ok_lies d e i j h le eq = runs_lies (subst (Sound e i) eq (sound d e i le)) le

  -- Enough turns are enough.
  turns_same : (step : ℕ → Answer) → ((i j h : ℕ) → i ≤ length text → step i ≡ Ok (End j h) → j ≤ length text) → (n m i : ℕ) → i ≤ length text → length text - i < n → length text - i < m → turns step n i ≡ turns step m i
  turns_same step f zero m i le a b = absurd (omega arith)
  turns_same step f (suc n) zero i le a b = absurd (omega arith)
  turns_same step f (suc n) (suc m) i le a b = go (λ j. turns_same step f n m j) (step i) refl
    where
      choose : (j h : ℕ) → j ≤ length text → (b : Bool) → (b ≡ true → i < j) → (i < j → turns step n j ≡ turns step m j) → (if b then raise h (turns step n j) else Ok (End i h)) ≡ (if b then raise h (turns step m j) else Ok (End i h))
      choose j h le' true d rest = ap (raise h) (rest (d refl))
      choose j h le' false d rest = refl

      go : ((j : ℕ) → j ≤ length text → length text - j < n → length text - j < m → turns step n j ≡ turns step m j) → (x : Answer) → step i ≡ x → turn i x (turns step n) ≡ turn i x (turns step m)
      go again (Ok (End j h)) e =
          let le' : j ≤ length text = f i j h le e in
          choose j h le' (nat_lt i j) (Decides-ltb i j).0 (λ lt. again j le' (omega arith) (omega arith))
      go again (Ok (Fail h)) e = refl
      go again (Err x) e = refl

  -- What a repetition answers, after a turn that took something.
  pub many_answer : (d : ℕ) (a : Expression) (i j h : ℕ) → i ≤ length text → i < j → answer rules text d a i ≡ Ok (End j h) → answer rules text d (many a) i ≡ raise h (answer rules text d (many a) j)
  many_answer d a i j h le lt e =
      let le' : j ≤ length text = (ok_lies d a i j h le e).1 in
      let step : (ℕ → Answer) = answer rules text d a in
      let rest = turns_same step (λ i j h le e. (ok_lies d a i j h le e).1) (length text - i) (suc (length text - j)) j le' (omega arith) (omega arith) in
      ap (λ x. turn i x (turns step (length text - i))) e
      ∙ ap (λ b. if b then raise h (turns step (length text - i) j) else Ok (End i h)) ((Decides-ltb i j).1 lt)
      ∙ ap (raise h) rest

  raised_at : (h k : ℕ) (o : Ending) → raised h (at_height o k) ≡ at_height o (max h k)
  raised_at h k (ends j) = refl
  raised_at h k fails = refl

  one_more_at : (h : ℕ) (o : Ending) → one_more (at_height o h) ≡ at_height o (h + 1)
  one_more_at h (ends j) = refl
  one_more_at h fails = refl

  -- What is so is answered, where the depth suffices.
  pub complete : {e : Expression} {i h : ℕ} {o : Ending} → Runs rules text e i o h → i ≤ length text → (d : ℕ) → h ≤ d → answer rules text d e i ≡ Ok (at_height o h)
  complete (sees {s} {i}) le d hd = refl
  complete (sees_mark {s = s} {i = i}) le d hd = refl
  complete (seq_ends {b = b} {j = j} {h = h} {k = k} {o = o} p q) le d hd =
      ap (λ x. then_from x (answer rules text d b)) (complete p le d (omega arith))
      ∙ ap (raise h) (complete q (runs_lies p le).1 d (omega arith))
      ∙ ap Ok (raised_at h k o)
  complete (seq_fails {b = b} p) le d hd = ap (λ x. then_from x (answer rules text d b)) (complete p le d hd)
  complete (choice_first {b = b} {i = i} p) le d hd = ap (λ x. or_else x (answer rules text d b i)) (complete p le d hd)
  complete (choice_second {b = b} {i = i} {h = h} {k = k} {o = o} p q) le d hd =
      ap (λ x. or_else x (answer rules text d b i)) (complete p le d (omega arith))
      ∙ ap (raise h) (complete q le d (omega arith))
      ∙ ap Ok (raised_at h k o)
  complete (many_turn {a = a} {i = i} {j = j} {h = h} {k = k} {o = o} p lt q) le d hd =
      many_answer d a i j h le lt (complete p le d (omega arith))
      ∙ ap (raise h) (complete q (runs_lies p le).1 d (omega arith))
      ∙ ap Ok (raised_at h k o)
  complete (many_idle {a = a} {i = i} {h = h} p) le d hd =
      ap (λ x. turn i x (turns (answer rules text d a) (length text - i))) (complete p le d hd)
      ∙ ap (λ b. if b then raise h (turns (answer rules text d a) (length text - i) i) else Ok (End i h)) (not_below i)
  complete (many_fails {a = a} {i = i} p) le d hd = ap (λ x. turn i x (turns (answer rules text d a) (length text - i))) (complete p le d hd)
  complete (never_ends {i = i} p) le d hd = ap (turned i) (complete p le d hd)
  complete (never_fails {i = i} p) le d hd = ap (turned i) (complete p le d hd)
  complete (guard_judges {g = g} {i = i} p) le d hd = ap (judge text g i) (complete p le d hd)
  complete (guard_fails {g = g} {i = i} p) le d hd = ap (judge text g i) (complete p le d hd)
  complete (calls p) le zero hd = absurd (omega arith)
  complete (calls {h = h} {o = o} p) le (suc d) hd = ap higher (complete p le d (omega arith)) ∙ ap Ok (one_more_at h o)
  complete (skips p) le zero hd = absurd (omega arith)
  complete (skips {h = h} {o = o} p) le (suc d) hd = ap higher (complete p le d (omega arith)) ∙ ap Ok (one_more_at h o)

  -- An expression has one outcome and one height.
  pub one_outcome : (e : Expression) (i : ℕ) (o o' : Ending) (h h' : ℕ) → i ≤ length text → Runs rules text e i o h → Runs rules text e i o' h' → (o ≡ o') × (h ≡ h')
  one_outcome e i o o' h h' le p q =
      let a : answer rules text (max h h') e i ≡ Ok (at_height o h) = complete p le (max h h') (omega arith) in
      let b : answer rules text (max h h') e i ≡ Ok (at_height o' h') = complete q le (max h h') (omega arith) in
      apart o o' (sym a ∙ b)
    where
      apart : (o o' : Ending) → ◌≡◌ {A = Answer} (Ok (at_height o h)) (Ok (at_height o' h')) → (o ≡ o') × (h ≡ h')
      apart (ends j) (ends j') e = (cc, cc)
      apart (ends j) fails e = absurd cc
      apart fails (ends j) e = absurd cc
      apart fails fails e = (refl, cc)

  -- What is too deep for a try has a height above its depth.
  pub too_deep : (d : ℕ) (e : Expression) (i : ℕ) (o : Ending) (h : ℕ) (f : MatchFault) → i ≤ length text → answer rules text d e i ≡ Err f → Runs rules text e i o h → d < h
  too_deep d e i o h f le eq p = go (cases_lt d h)
    where
      go : (d < h) ⊎ (h ≤ d) → d < h
      go (inl lt) = lt
      go (inr hd) = let same = complete p le d hd in absurd cc

  -- What a call answers, and what it answers one level down.
  pub called : (d r i : ℕ) (e : Expression) (x : Outcome) → 0 < d → e ≡ rule_of rules r → answer rules text (d - 1) e i ≡ Ok x → Ok (one_more x) ≡ answer rules text d (rule r) i
  called zero r i e x lt same eq = absurd (omega arith)
  called (suc d) r i e x lt same eq =
      let n : suc d - 1 ≡ d = omega arith in
      sym (ap (λ a. higher (answer rules text d a i)) (sym same) ∙ ap (λ k. higher (answer rules text k e i)) (sym n) ∙ ap higher eq)

  -- An answer's height is at most the depth, and memory is no matter.
  abbrev pub Low : ℕ → Answer → Type 0
  Low d (Ok o) = height_of o ≤ d
  Low d (Err TooDeep) = Unit {0}
  Low d (Err OutOfMemory) = ⊥

  low_raise : (d h : ℕ) (x : Answer) → h ≤ d → Low d x → Low d (raise h x)
  low_raise d h (Ok (End j k)) a b = omega arith
  low_raise d h (Ok (Fail k)) a b = omega arith
  low_raise d h (Err TooDeep) a b = tt
  low_raise d h (Err OutOfMemory) a b = b

  low_then : (d : ℕ) (x : Answer) (next : ℕ → Answer) → Low d x → ((j : ℕ) → Low d (next j)) → Low d (then_from x next)
  low_then d (Ok (End j h)) next a f = low_raise d h (next j) a (f j)
  low_then d (Ok (Fail h)) next a f = a
  low_then d (Err TooDeep) next a f = a
  low_then d (Err OutOfMemory) next a f = a

  low_else : (d : ℕ) (x y : Answer) → Low d x → Low d y → Low d (or_else x y)
  low_else d (Ok (End j h)) y a b = a
  low_else d (Ok (Fail h)) y a b = low_raise d h y a b
  low_else d (Err TooDeep) y a b = a
  low_else d (Err OutOfMemory) y a b = a

  low_turned : (d i : ℕ) (x : Answer) → Low d x → Low d (turned i x)
  low_turned d i (Ok (End j h)) a = a
  low_turned d i (Ok (Fail h)) a = a
  low_turned d i (Err TooDeep) a = a
  low_turned d i (Err OutOfMemory) a = a

  low_at : (d h : ℕ) (o : Ending) → h ≤ d → height_of (at_height o h) ≤ d
  low_at d h (ends j) a = a
  low_at d h fails a = a

  low_judge : (d i : ℕ) (g : Guard) (x : Answer) → Low d x → Low d (judge text g i x)
  low_judge d i g (Ok (End j h)) a = low_at d h (judged text g i j) a
  low_judge d i g (Ok (Fail h)) a = a
  low_judge d i g (Err TooDeep) a = a
  low_judge d i g (Err OutOfMemory) a = a

  low_turn : (d i : ℕ) (x : Answer) (next : ℕ → Answer) → Low d x → ((j : ℕ) → Low d (next j)) → Low d (turn i x next)
  low_turn d i (Ok (End j h)) next a f = go (nat_lt i j)
    where
      go : (b : Bool) → Low d (if b then raise h (next j) else Ok (End i h))
      go true = low_raise d h (next j) a (f j)
      go false = a
  low_turn d i (Ok (Fail h)) next a f = a
  low_turn d i (Err TooDeep) next a f = a
  low_turn d i (Err OutOfMemory) next a f = a

  low_turns : (d : ℕ) (step : ℕ → Answer) → ((j : ℕ) → Low d (step j)) → (n i : ℕ) → Low d (turns step n i)
  low_turns d step f zero i = tt
  low_turns d step f (suc n) i = low_turn d i (step i) (turns step n) (f i) (low_turns d step f n)

  low_expr : (d : ℕ) (call : ℕ → ℕ → Answer) → ((r j : ℕ) → Low d (call r j)) → (e : Expression) (i : ℕ) → Low d (expr_answer call text e i)
  low_expr d call f (see s) i = low_at d 0 (seen text s i) (omega arith)
  low_expr d call f (marked m s) i = low_at d 0 (seen text s i) (omega arith)
  low_expr d call f (seq a b) i = low_then d (expr_answer call text a i) (expr_answer call text b) (low_expr d call f a i) (low_expr d call f b)
  low_expr d call f (choice a b) i = low_else d (expr_answer call text a i) (expr_answer call text b i) (low_expr d call f a i) (low_expr d call f b i)
  low_expr d call f (many a) i = low_turns d (expr_answer call text a) (low_expr d call f a) (suc (length text - i)) i
  low_expr d call f (never a) i = low_turned d i (expr_answer call text a i) (low_expr d call f a i)
  low_expr d call f (guarded a g) i = low_judge d i g (expr_answer call text a i) (low_expr d call f a i)
  low_expr d call f (rule r) i = f r i
  low_expr d call f (skip r) i = f r i

  low_higher : (d : ℕ) (x : Answer) → Low d x → Low (suc d) (higher x)
  low_higher d (Ok (End j h)) a = omega arith
  low_higher d (Ok (Fail h)) a = omega arith
  low_higher d (Err TooDeep) a = a
  low_higher d (Err OutOfMemory) a = a

  pub low_call : (d r i : ℕ) → Low d (call_answer rules text d r i)
  low_call zero r i = tt
  low_call (suc d) r i = low_higher d (expr_answer (call_answer rules text d) text (rule_of rules r) i) (low_expr d (call_answer rules text d) (low_call d) (rule_of rules r) i)

  -- What is answered is the outcome and the height, or that the height is above the depth.
  pub tries : (d : ℕ) (e : Expression) (i : ℕ) (x : Answer) → i ≤ length text → x ≡ answer rules text d e i → IsWithin (length text) d i x → Answers rules text e i d x
  tries d e i (Ok (End j h)) le eq w = (subst (Sound e i) (sym eq) (sound d e i le), w.2)
  tries d e i (Ok (Fail h)) le eq w = (subst (Sound e i) (sym eq) (sound d e i le), w)
  tries d e i (Err TooDeep) le eq w = λ o h p. too_deep d e i o h TooDeep le (sym eq) p
  tries d e i (Err OutOfMemory) le eq w = subst (Low d) (sym eq) (low_expr d (call_answer rules text d) (low_call d) e i)

  -- The same, without the want of memory that there never is.
  pub deeper : (d : ℕ) (e : Expression) (i : ℕ) (x : Answer) (f : MatchFault) → i ≤ length text → x ≡ answer rules text d e i → x ≡ Err f → Exceeds rules text e i d
  deeper d e i x TooDeep le eq is = λ o h p. too_deep d e i o h TooDeep le (sym eq ∙ is) p
  deeper d e i x OutOfMemory le eq is = absurd (subst (Low d) (sym eq ∙ is) (low_expr d (call_answer rules text d) (low_call d) e i))

-- what is seen ends within the text
pub seen_within : (text : List ℕ) (s : Sight) (i d : ℕ) (o : Outcome) → i ≤ length text → o ≡ at_height (seen text s i) 0 → IsWithinOutcome (length text) d i o
seen_within text s i d o le e = subst (IsWithinOutcome (length text) d i) (sym e) (go (seen text s i) (seen_lies [] text s i le))
  where
    go : (o : Ending) → Lies (length text) i o → IsWithinOutcome (length text) d i (at_height o 0)
    go (ends j) l = (l.0, l.1, omega arith)
    go fails l = omega arith

pub raise_raise : (a b : ℕ) (x : Answer) → raise a (raise b x) ≡ raise (max a b) x
raise_raise a b (Ok (End j h)) = ap (λ k. Ok (End j k)) (omega arith)
raise_raise a b (Ok (Fail h)) = ap (λ k. Ok (Fail k)) (omega arith)
raise_raise a b (Err f) = refl

pub max_is : (a b : ℕ) → ord_max nat_cmp a b ≡ max a b
max_is a b = grind (arith, nat_tests)
