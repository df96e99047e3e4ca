-- What a try at a limited depth grows is what stands.
use Rattle.std.proofs.Common.{◌≡◌, ℕ, zero, suc, ◌+◌, ◌-◌, ◌<◌, ◌≤◌, max, List, [], ◌∷◌, ◌++◌, Bool, true, false, Some, None, Ok, Err, length, refl, sym, ap, ◌∙◌, subst, arith, append_assoc}
use Rattle.std.specs.Prelude.{nat_lt, if◌then◌else◌, slice_range}
use Rattle.std.proofs.lemmas.Bool.Decides.{Decides-ltb, nat_tests}
use Rattle.asn_rules.specs.Expression.{Expression, see, marked, seq, choice, many, never, guarded, rule, skip, Sight, rule_of}
use Rattle.asn_rules_guards.specs.Allows.{allows}
use Rattle.asn_rules.specs.Runs.{Ending, ends, fails, seen, judged, Runs, seq_ends, seq_fails, choice_first, choice_second, many_turn, many_idle, many_fails, never_ends, never_fails, guard_judges, guard_fails, calls, skips, Answer}
use Rattle.asn_rules.specs.Runs as runs
use Rattle.asn_rules.specs.inner.Answer.{at_height, raise, higher, then_from, or_else, turned, judge, turn, turns, expr_answer, call_answer, answer}
use Rattle.asn_rules.specs.Derives.{Derives, OneTree, node, sees, leaves_mark, joins, takes, turns_to, repeats, idles, stops, misses, passes, stands, leaves_none, Derivation, Stand, ends_before, one_more}
use Rattle.asn_rules.specs.inner.Grown.{Growth, End, Fail, TooDeep, leafless, with_leaf, without_nodes, of_outcome, after, then_grow, else_grow, turn_growth, kept, judge_growth, grow_turn, grow_turns, expr_growth, topped, call_growth, grown, plain}
use Rattle.asn_rules_guards.specs.declared.asked.Guard.{Guard}
use Rattle.asn_rules.specs.declared.marks.Mark.{Mark}
use Rattle.asn_rules.specs.Marks.{mark_number}
use Rattle.asn_rules.specs.declared.node.Node.{Node}
use Rattle.asn_rules.specs.declared.node.Node.TheOpen.{Node-F}
use Rattle.asn_rules.specs.declared.node.Node.TheViews.{out-Node, out-roll-Node}
use Rattle.asn_rules.specs.declared.run.MatchFault.TheVariants as fault
use Rattle.asn_rules.proofs.Theory.{Lies, seen_lies, runs_lies, complete, too_deep}

opened_stand : (b k : ℕ) (n : Node) (ns : List Node) (x : Node-F Node) → out-Node n ≡ x → b ≤ x.start → x.start ≤ x.end → Stand x.start x.end x.children → Stand x.end k ns → Stand b k (n ∷ ns)
opened_stand b k n ns x e = subst (λ x. b ≤ x.start → x.start ≤ x.end → Stand x.start x.end x.children → Stand x.end k ns → Stand b k (n ∷ ns)) e (λ p q s t. one_more p q s t)

node_stands : (r i j : ℕ) (m : List Node) → i ≤ j → Stand i j m → Stand i j (node r i j m ∷ [])
node_stands r i j m le s =
    let x : Node-F Node = record { rule = r; start = i; end = j; children = m } in
    opened_stand i j (node r i j m) [] x (out-roll-Node x) (omega arith) le s (ends_before (omega arith))

stand_from : {i j k : ℕ} {n : List Node} → i ≤ j → Stand j k n → Stand i k n
stand_from le (ends_before l) = ends_before (omega arith)
stand_from le (one_more l w m n) = one_more (omega arith) w m n

stand_append : {i j k : ℕ} {m n : List Node} → Stand i j m → Stand j k n → Stand i k (m ++ n)
stand_append (ends_before l) t = stand_from l t
stand_append (one_more l w m n) t = one_more l w m (stand_append n t)

module _ (rules : List Expression) (text : List ℕ) where
  -- What is grown stands, and what fails fails.
  abbrev pub Grows : Expression → ℕ → Growth → Type 0
  Grows e i (End j h m) = Runs rules text e i (ends j) h × Derives rules text e i j m
  Grows e i (Fail h) = Runs rules text e i fails h
  Grows e i TooDeep = Unit {0}

  abbrev AllGrow : Expression → (ℕ → Growth) → Type 0
  AllGrow e f = (i : ℕ) → i ≤ length text → Grows e i (f i)

  see_grows : (s : Sight) (i : ℕ) (o : Ending) → seen text s i ≡ o → Grows (see s) i (leafless o 0)
  see_grows s i (ends j) e = (subst (λ o. Runs rules text (see s) i o 0) e runs.sees, sees e)
  see_grows s i fails e = subst (λ o. Runs rules text (see s) i o 0) e runs.sees

  mark_grows : (m : Mark) (s : Sight) (i : ℕ) (o : Ending) → seen text s i ≡ o → Grows (marked m s) i (with_leaf m i o)
  mark_grows m s i (ends j) e = (subst (λ o. Runs rules text (marked m s) i o 0) e runs.sees_mark, leaves_mark e)
  mark_grows m s i fails e = subst (λ o. Runs rules text (marked m s) i o 0) e runs.sees_mark

  seq_grows : (a b : Expression) (i : ℕ) (x : Growth) (next : ℕ → Growth) → i ≤ length text → Grows a i x → AllGrow b next → Grows (seq a b) i (then_grow x next)
  seq_grows a b i (End j h m) next le p f = go (next j) (f j (runs_lies rules text p.0 le).1)
    where
      go : (y : Growth) → Grows b j y → Grows (seq a b) i (after h m y)
      go (End k l n) q = (seq_ends p.0 q.0, joins p.1 q.1)
      go (Fail l) q = seq_ends p.0 q
      go TooDeep q = tt
  seq_grows a b i (Fail h) next le p f = seq_fails p
  seq_grows a b i TooDeep next le p f = tt

  choice_grows : (a b : Expression) (i : ℕ) (x y : Growth) → Grows a i x → Grows b i y → Grows (choice a b) i (else_grow x y)
  choice_grows a b i (End j h m) y p q = (choice_first p.0, takes p.1)
  choice_grows a b i (Fail h) (End k l n) p q = (choice_second p q.0, turns_to p q.1)
  choice_grows a b i (Fail h) (Fail l) p q = choice_second p q
  choice_grows a b i (Fail h) TooDeep p q = tt
  choice_grows a b i TooDeep y p q = tt

  never_grows : (a : Expression) (i : ℕ) (x : Growth) → Grows a i x → Grows (never a) i (turn_growth i x)
  never_grows a i (End j h m) p = never_fails p.0
  never_grows a i (Fail h) p = (never_ends p, misses p)
  never_grows a i TooDeep p = tt

  judge_grows : (a : Expression) (g : Guard) (i : ℕ) (x : Growth) → Grows a i x → Grows (guarded a g) i (judge_growth text g i x)
  judge_grows a g i (End j h m) p = go (allows g (slice_range text i j)) refl
    where
      go : (b : Bool) → allows g (slice_range text i j) ≡ b → Grows (guarded a g) i (kept (if b then ends j else fails) h m)
      go true e =
          let same : judged text g i j ≡ ends j = ap (λ b. if b then ends j else fails) e in
          (subst (λ o. Runs rules text (guarded a g) i o h) same (guard_judges p.0), passes p.1 same)
      go false e =
          let same : judged text g i j ≡ fails = ap (λ b. if b then ends j else fails) e in
          subst (λ o. Runs rules text (guarded a g) i o h) same (guard_judges p.0)
  judge_grows a g i (Fail h) p = guard_fails p
  judge_grows a g i TooDeep p = tt

  turn_grows : (a : Expression) (i : ℕ) (x : Growth) (next : ℕ → Growth) → i ≤ length text → Grows a i x → AllGrow (many a) next → Grows (many a) i (grow_turn i x next)
  turn_grows a i (End j h m) next le p f = go (nat_lt i j) (Decides-ltb i j)
    where
      on : i < j → (y : Growth) → Grows (many a) j y → Grows (many a) i (after h m y)
      on lt (End k l n) q = (many_turn p.0 lt q.0, repeats p.1 lt q.1)
      on lt (Fail l) q = many_turn p.0 lt q
      on lt TooDeep q = tt

      idle : (i < j → false ≡ true) → Grows (many a) i (End i h [])
      idle stays =
          let l = runs_lies rules text p.0 le in
          let same : j ≡ i = grind (arith, stays, l.0) in
          let here : Runs rules text a i (ends i) h = subst (λ k. Runs rules text a i (ends k) h) same p.0 in
          (many_idle here, idles here)

      go : (b : Bool) → (b ≡ true → i < j) × (i < j → b ≡ true) → Grows (many a) i (if b then after h m (next j) else End i h [])
      go true d = on (d.0 refl) (next j) (f j (runs_lies rules text p.0 le).1)
      go false d = idle d.1
  turn_grows a i (Fail h) next le p f = (many_fails p, stops p)
  turn_grows a i TooDeep next le p f = tt

  turns_grow : (a : Expression) (step : ℕ → Growth) → AllGrow a step → (n : ℕ) → AllGrow (many a) (grow_turns step n)
  turns_grow a step f zero i le = tt
  turns_grow a step f (suc n) i le = turn_grows a i (step i) (grow_turns step n) le (f i le) (turns_grow a step f n)

  -- of a call, and of one that leaves no node
  abbrev CallGrows : ℕ → (ℕ → Growth) → Type 0
  CallGrows r f = (i : ℕ) → i ≤ length text → Grows (rule r) i (f i) × Grows (skip r) i (without_nodes (f i))

  expr_grows : (call : ℕ → ℕ → Growth) → ((r : ℕ) → CallGrows r (call r)) → (e : Expression) → AllGrow e (expr_growth call text e)
  expr_grows call f (see s) i le = see_grows s i (seen text s i) refl
  expr_grows call f (marked m s) i le = mark_grows m s i (seen text s i) refl
  expr_grows call f (seq a b) i le = seq_grows a b i (expr_growth call text a i) (expr_growth call text b) le (expr_grows call f a i le) (expr_grows call f b)
  expr_grows call f (choice a b) i le = choice_grows a b i (expr_growth call text a i) (expr_growth call text b i) (expr_grows call f a i le) (expr_grows call f b i le)
  expr_grows call f (many a) i le = turns_grow a (expr_growth call text a) (expr_grows call f a) (suc (length text - i)) i le
  expr_grows call f (never a) i le = never_grows a i (expr_growth call text a i) (expr_grows call f a i le)
  expr_grows call f (guarded a g) i le = judge_grows a g i (expr_growth call text a i) (expr_grows call f a i le)
  expr_grows call f (rule r) i le = (f r i le).0
  expr_grows call f (skip r) i le = (f r i le).1

  topped_grows : (r i : ℕ) (x : Growth) → Grows (rule_of rules r) i x → Grows (rule r) i (topped r i x) × Grows (skip r) i (without_nodes (topped r i x))
  topped_grows r i (End j h m) p = ((calls p.0, stands p.1), (skips p.0, leaves_none (skips p.0)))
  topped_grows r i (Fail h) p = (calls p, skips p)
  topped_grows r i TooDeep p = (tt, tt)

  call_grows : (d r : ℕ) → CallGrows r (call_growth rules text d r)
  call_grows zero r i le = (tt, tt)
  call_grows (suc d) r i le = topped_grows r i (expr_growth (call_growth rules text d) text (rule_of rules r) i) (expr_grows (call_growth rules text d) (call_grows d) (rule_of rules r) i le)

  pub grows : (d : ℕ) (e : Expression) → AllGrow e (grown rules text d e)
  grows d = expr_grows (call_growth rules text d) (call_grows d)

  -- Without its nodes it is what is answered.
  plain_leafless : (o : Ending) (h : ℕ) → plain (leafless o h) ≡ Ok (at_height o h)
  plain_leafless (ends j) h = refl
  plain_leafless fails h = refl

  plain_leaf : (m : Mark) (i : ℕ) (o : Ending) → plain (with_leaf m i o) ≡ Ok (at_height o 0)
  plain_leaf m i (ends j) = refl
  plain_leaf m i fails = refl

  plain_after : (h : ℕ) (m : List Node) (x : Growth) → plain (after h m x) ≡ raise h (plain x)
  plain_after h m (End j k n) = refl
  plain_after h m (Fail k) = refl
  plain_after h m TooDeep = refl

  plain_then : (x : Growth) (next : ℕ → Growth) (next' : ℕ → Answer) → ((j : ℕ) → plain (next j) ≡ next' j) → plain (then_grow x next) ≡ then_from (plain x) next'
  plain_then (End j h m) next next' f = plain_after h m (next j) ∙ ap (raise h) (f j)
  plain_then (Fail h) next next' f = refl
  plain_then TooDeep next next' f = refl

  plain_else : (x y : Growth) → plain (else_grow x y) ≡ or_else (plain x) (plain y)
  plain_else (End j h m) y = refl
  plain_else (Fail h) y = plain_after h [] y
  plain_else TooDeep y = refl

  plain_turned : (i : ℕ) (x : Growth) → plain (turn_growth i x) ≡ turned i (plain x)
  plain_turned i (End j h m) = refl
  plain_turned i (Fail h) = refl
  plain_turned i TooDeep = refl

  plain_kept : (o : Ending) (h : ℕ) (m : List Node) → plain (kept o h m) ≡ Ok (at_height o h)
  plain_kept (ends j) h m = refl
  plain_kept fails h m = refl

  plain_judged : (g : Guard) (i : ℕ) (x : Growth) → plain (judge_growth text g i x) ≡ judge text g i (plain x)
  plain_judged g i (End j h m) = plain_kept (judged text g i j) h m
  plain_judged g i (Fail h) = refl
  plain_judged g i TooDeep = refl

  plain_turn : (i : ℕ) (x : Growth) (next : ℕ → Growth) (next' : ℕ → Answer) → ((j : ℕ) → plain (next j) ≡ next' j) → plain (grow_turn i x next) ≡ turn i (plain x) next'
  plain_turn i (End j h m) next next' f = go (nat_lt i j)
    where
      go : (b : Bool) → plain (if b then after h m (next j) else End i h []) ≡ (if b then raise h (next' j) else plain (End i h []))
      go true = plain_after h m (next j) ∙ ap (raise h) (f j)
      go false = refl
  plain_turn i (Fail h) next next' f = refl
  plain_turn i TooDeep next next' f = refl

  plain_turns : (step : ℕ → Growth) (step' : ℕ → Answer) → ((j : ℕ) → plain (step j) ≡ step' j) → (n i : ℕ) → plain (grow_turns step n i) ≡ turns step' n i
  plain_turns step step' f zero i = refl
  plain_turns step step' f (suc n) i = plain_turn i (step i) (grow_turns step n) (turns step' n) (plain_turns step step' f n) ∙ ap (λ x. turn i x (turns step' n)) (f i)

  plain_without : (x : Growth) → plain (without_nodes x) ≡ plain x
  plain_without (End j h m) = refl
  plain_without (Fail h) = refl
  plain_without TooDeep = refl

  plain_expr : (call : ℕ → ℕ → Growth) (call' : ℕ → ℕ → Answer) → ((r j : ℕ) → plain (call r j) ≡ call' r j) → (e : Expression) (i : ℕ) → plain (expr_growth call text e i) ≡ expr_answer call' text e i
  plain_expr call call' f (see s) i = plain_leafless (seen text s i) 0
  plain_expr call call' f (marked m s) i = plain_leaf m i (seen text s i)
  plain_expr call call' f (seq a b) i =
      plain_then (expr_growth call text a i) (expr_growth call text b) (expr_answer call' text b) (plain_expr call call' f b)
      ∙ ap (λ x. then_from x (expr_answer call' text b)) (plain_expr call call' f a i)
  plain_expr call call' f (choice a b) i =
      plain_else (expr_growth call text a i) (expr_growth call text b i)
      ∙ ap (λ x. or_else x (plain (expr_growth call text b i))) (plain_expr call call' f a i)
      ∙ ap (or_else (expr_answer call' text a i)) (plain_expr call call' f b i)
  plain_expr call call' f (many a) i = plain_turns (expr_growth call text a) (expr_answer call' text a) (plain_expr call call' f a) (suc (length text - i)) i
  plain_expr call call' f (never a) i = plain_turned i (expr_growth call text a i) ∙ ap (turned i) (plain_expr call call' f a i)
  plain_expr call call' f (guarded a g) i = plain_judged g i (expr_growth call text a i) ∙ ap (judge text g i) (plain_expr call call' f a i)
  plain_expr call call' f (rule r) i = f r i
  plain_expr call call' f (skip r) i = plain_without (call r i) ∙ f r i

  plain_topped : (r i : ℕ) (x : Growth) → plain (topped r i x) ≡ higher (plain x)
  plain_topped r i (End j h m) = refl
  plain_topped r i (Fail h) = refl
  plain_topped r i TooDeep = refl

  plain_call : (d r i : ℕ) → plain (call_growth rules text d r i) ≡ call_answer rules text d r i
  plain_call zero r i = refl
  plain_call (suc d) r i =
      plain_topped r i (expr_growth (call_growth rules text d) text (rule_of rules r) i)
      ∙ ap higher (plain_expr (call_growth rules text d) (call_answer rules text d) (plain_call d) (rule_of rules r) i)

  pub plain_grown : (d : ℕ) (e : Expression) (i : ℕ) → plain (grown rules text d e i) ≡ answer rules text d e i
  plain_grown d = plain_expr (call_growth rules text d) (call_answer rules text d) (plain_call d)

  without_is : (x : Growth) → without_nodes x ≡ of_outcome (plain x)
  without_is (End j h m) = refl
  without_is (Fail h) = refl
  without_is TooDeep = refl

  -- What leaves no nodes grows what it answers.
  pub skip_grown : (d r i : ℕ) → grown rules text d (skip r) i ≡ of_outcome (answer rules text d (skip r) i)
  skip_grown d r i = without_is (call_growth rules text d r i) ∙ ap of_outcome (plain_call d r i)

  turned_is : (i : ℕ) (x : Growth) → turn_growth i x ≡ of_outcome (turned i (plain x))
  turned_is i (End j h m) = refl
  turned_is i (Fail h) = refl
  turned_is i TooDeep = refl

  -- Enough turns are enough.
  ok_lies : (d : ℕ) (e : Expression) (i j h : ℕ) (m : List Node) → i ≤ length text → grown rules text d e i ≡ End j h m → j ≤ length text
  ok_lies d e i j h m le eq = let g = subst (Grows e i) eq (grows d e i le) in (runs_lies rules text g.0 le).1

  turns_same : (step : ℕ → Growth) → ((i j h : ℕ) (m : List Node) → i ≤ length text → step i ≡ End j h m → j ≤ length text) → (n m i : ℕ) → i ≤ length text → length text - i < n → length text - i < m → grow_turns step n i ≡ grow_turns step m i
  turns_same step f zero m i le a b = absurd (omega arith)
  turns_same step f (suc n) zero i le a b = absurd (omega arith)
  turns_same step f (suc n) (suc m) i le a b = go (λ j. turns_same step f n m j) (step i) refl
    where
      choose : (j h : ℕ) (k : List Node) → (b : Bool) → (b ≡ true → i < j) → (i < j → grow_turns step n j ≡ grow_turns step m j) → (if b then after h k (grow_turns step n j) else End i h []) ≡ (if b then after h k (grow_turns step m j) else End i h [])
      choose j h k true d rest = ap (after h k) (rest (d refl))
      choose j h k false d rest = refl

      go : ((j : ℕ) → j ≤ length text → length text - j < n → length text - j < m → grow_turns step n j ≡ grow_turns step m j) → (x : Growth) → step i ≡ x → grow_turn i x (grow_turns step n) ≡ grow_turn i x (grow_turns step m)
      go again (End j h k) e =
          let le' : j ≤ length text = f i j h k le e in
          choose j h k (nat_lt i j) (Decides-ltb i j).0 (λ lt. again j le' (omega arith) (omega arith))
      go again (Fail h) e = refl
      go again TooDeep e = refl

  -- What a repetition grows, after a turn that took something.
  pub many_grown : (d : ℕ) (a : Expression) (i j h : ℕ) (m : List Node) → i ≤ length text → i < j → grown rules text d a i ≡ End j h m → grown rules text d (many a) i ≡ after h m (grown rules text d (many a) j)
  many_grown d a i j h m le lt e =
      let le' : j ≤ length text = ok_lies d a i j h m le e in
      let step : (ℕ → Growth) = grown rules text d a in
      let rest = turns_same step (λ i j h m le e. ok_lies d a i j h m le e) (length text - i) (suc (length text - j)) j le' (omega arith) (omega arith) in
      ap (λ x. grow_turn i x (grow_turns step (length text - i))) e
      ∙ ap (λ b. if b then after h m (grow_turns step (length text - i) j) else End i h []) ((Decides-ltb i j).1 lt)
      ∙ ap (after h m) rest

  -- What fails grows nothing, where the depth suffices.
  pub fail_grown : {e : Expression} {i h : ℕ} → Runs rules text e i fails h → i ≤ length text → (d : ℕ) → h ≤ d → grown rules text d e i ≡ Fail h
  fail_grown {e = e} {i = i} {h = h} p le d hd = go (grown rules text d e i) (plain_grown d e i ∙ complete rules text p le d hd)
    where
      go : (x : Growth) → plain x ≡ Ok (at_height fails h) → x ≡ Fail h
      go (End j k m) e = absurd cc
      go (Fail k) e = cc
      go TooDeep e = absurd cc

  idle_grown : {e : Expression} {i h : ℕ} → Runs rules text e i (ends i) h → i ≤ length text → (d : ℕ) → h ≤ d → (next : ℕ → Growth) → grow_turn i (grown rules text d e i) next ≡ End i h []
  idle_grown {e = e} {i = i} {h = h} p le d hd next = go (grown rules text d e i) (plain_grown d e i ∙ complete rules text p le d hd)
    where
      go : (x : Growth) → plain x ≡ Ok (at_height (ends i) h) → grow_turn i x next ≡ End i h []
      go (End j k m) e =
          let same : j ≡ i = cc in
          let high : k ≡ h = cc in
          let stays : nat_lt i j ≡ false = grind (arith, nat_tests, same) in
          ap (λ b. if b then after k m (next j) else End i k []) stays ∙ ap (λ k. End i k []) high
      go (Fail k) e = absurd cc
      go TooDeep e = absurd cc

  -- What stands is grown at some depth, and from there on.
  abbrev GrowsFrom : Expression → ℕ → ℕ → List Node → Type 0
  GrowsFrom e i j m = (h : ℕ) × ((d : ℕ) → h ≤ d → grown rules text d e i ≡ End j h m) × (i ≤ j) × (j ≤ length text)

  grown_from : {e : Expression} {i j : ℕ} {m : List Node} → Derives rules text e i j m → i ≤ length text → GrowsFrom e i j m
  grown_from (sees {s} {i} {j} eq) le =
      let l = subst (λ o. Runs rules text (see s) i o 0) eq runs.sees in
      let w = runs_lies rules text l le in
      (0, (λ d hd. ap (λ o. leafless o 0) eq), w.0, w.1)
  grown_from (leaves_mark {m} {s} {i} {j} eq) le =
      let l = subst (λ o. Runs rules text (marked m s) i o 0) eq runs.sees_mark in
      let w = runs_lies rules text l le in
      (0, (λ d hd. ap (λ o. with_leaf m i o) eq), w.0, w.1)
  grown_from (joins {b = b} {m = m} p q) le =
      let x = grown_from p le in
      let y = grown_from q x.3 in
      (max x.0 y.0, (λ d hd. ap (λ z. then_grow z (grown rules text d b)) (x.1 d (omega arith)) ∙ ap (after x.0 m) (y.1 d (omega arith))), omega (arith, x.2, y.2), y.3)
  grown_from (takes {b = b} {i = i} p) le =
      let x = grown_from p le in
      (x.0, (λ d hd. ap (λ z. else_grow z (grown rules text d b i)) (x.1 d hd)), x.2, x.3)
  grown_from (turns_to {b = b} {i = i} {h = h} p q) le =
      let y = grown_from q le in
      (max h y.0, (λ d hd. ap (λ z. else_grow z (grown rules text d b i)) (fail_grown p le d (omega arith)) ∙ ap (after h []) (y.1 d (omega arith))), y.2, y.3)
  grown_from (repeats {a = a} {i = i} {j = j} {m = m} p lt q) le =
      let x = grown_from p le in
      let y = grown_from q x.3 in
      (max x.0 y.0, (λ d hd. many_grown d a i j x.0 m le lt (x.1 d (omega arith)) ∙ ap (after x.0 m) (y.1 d (omega arith))), omega (arith, x.2, y.2), y.3)
  grown_from (idles {a = a} {i = i} {h = h} p) le = (h, (λ d hd. idle_grown p le d hd (grow_turns (grown rules text d a) (length text - i))), omega arith, le)
  grown_from (stops {a = a} {i = i} {h = h} p) le = (h, (λ d hd. ap (λ z. grow_turn i z (grow_turns (grown rules text d a) (length text - i))) (fail_grown p le d hd)), omega arith, le)
  grown_from (misses {i = i} {h = h} p) le = (h, (λ d hd. ap (turn_growth i) (fail_grown p le d hd)), omega arith, le)
  grown_from (passes {g = g} {i = i} {n = n} p eq) le =
      let x = grown_from p le in
      (x.0, (λ d hd. ap (judge_growth text g i) (x.1 d hd) ∙ ap (λ o. kept o x.0 n) eq), x.2, x.3)
  grown_from (leaves_none {r = r} {i = i} {j = j} {h = h} p) le =
      let w = runs_lies rules text p le in
      (h, (λ d hd. skip_grown d r i ∙ ap of_outcome (complete rules text p le d hd)), w.0, w.1)
  grown_from (stands {r} {i} {j} {n} p) le =
      let x = grown_from p le in
      (x.0 + 1, below r i j x.0 n x.1, x.2, x.3)
    where
      below : (r i j h : ℕ) (n : List Node) → ((d : ℕ) → h ≤ d → grown rules text d (rule_of rules r) i ≡ End j h n) → (d : ℕ) → h + 1 ≤ d → grown rules text d (rule r) i ≡ End j (h + 1) (node r i j n ∷ [])
      below r i j h n f zero hd = absurd (omega arith)
      below r i j h n f (suc d) hd = ap (topped r i) (f d (omega arith))

  -- An expression stands in one way.
  pub one_tree : (e : Expression) (i j k : ℕ) (m n : List Node) → i ≤ length text → Derives rules text e i j m → Derives rules text e i k n → (j ≡ k) × (m ≡ n)
  one_tree e i j k m n le p q =
      let x = grown_from p le in
      let y = grown_from q le in
      let same : ◌≡◌ {A = Growth} (End j x.0 m) (End k y.0 n) = sym (x.1 (max x.0 y.0) (omega arith)) ∙ y.1 (max x.0 y.0) (omega arith) in
      (cc, cc)

  some_tree : (e : Expression) (i j h : ℕ) → i ≤ length text → Runs rules text e i (ends j) h → (n : List Node) × Derives rules text e i j n
  some_tree e i j h le p = go (grown rules text h e i) (grows h e i le) (plain_grown h e i ∙ complete rules text p le h (omega arith))
    where
      go : (x : Growth) → Grows e i x → plain x ≡ Ok (at_height (ends j) h) → (n : List Node) × Derives rules text e i j n
      go (End k l m) g eq = let same : k ≡ j = cc in (m, subst (λ k. Derives rules text e i k m) same g.1)
      go (Fail l) g eq = absurd cc
      go TooDeep g eq = absurd cc

  pub ended_tree : (e : Expression) (i j : ℕ) (m : List Node) → i ≤ length text → Derives rules text e i j m → (h : ℕ) × Runs rules text e i (ends j) h
  ended_tree e i j m le p =
      let x = grown_from p le in
      let g = subst (Grows e i) (x.1 x.0 (omega arith)) (grows x.0 e i le) in
      (x.0, g.0)

  pub one_tree_each : (e : Expression) (i : ℕ) → i ≤ length text → OneTree rules text e i
  one_tree_each e i le = record { some = λ j h p. some_tree e i j h le p; ended = λ j n p. ended_tree e i j n le p; only = λ j k m n p q. one_tree e i j k m n le p q }

  -- The nodes stand in order, each one's children within it.
  pub within : {e : Expression} {i j : ℕ} {m : List Node} → Derives rules text e i j m → i ≤ length text → (i ≤ j) × (j ≤ length text)
  within p le = let x = grown_from p le in (x.2, x.3)

  pub in_order : {e : Expression} {i j : ℕ} {m : List Node} → Derives rules text e i j m → i ≤ length text → Stand i j m
  in_order (sees eq) le = ends_before (within (sees eq) le).0
  in_order (leaves_mark {m} {s} {i} {j} eq) le = let w = (within (leaves_mark {m = m} eq) le).0 in node_stands (mark_number m) i j [] w (ends_before w)
  in_order (joins p q) le = stand_append (in_order p le) (in_order q (within p le).1)
  in_order (takes p) le = in_order p le
  in_order (turns_to p q) le = in_order q le
  in_order (repeats p lt q) le = stand_append (in_order p le) (in_order q (within p le).1)
  in_order (idles p) le = ends_before (omega arith)
  in_order (stops p) le = ends_before (omega arith)
  in_order (misses p) le = ends_before (omega arith)
  in_order (passes p eq) le = in_order p le
  in_order (leaves_none p) le = ends_before (within (leaves_none p) le).0
  in_order (stands {r} {i} {j} {n} p) le = node_stands r i j n (within p le).0 (in_order p le)

  pub nodes_stand : (e : Expression) (i j : ℕ) (m : List Node) → i ≤ length text → Derives rules text e i j m → Stand i j m × (j ≤ length text)
  nodes_stand e i j m le p = (in_order p le, (within p le).1)
