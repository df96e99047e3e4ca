-- What an expression comes to, by what its parts come to; and what a table has of its parts.
use Rattle.std.proofs.Common.{◌≡◌, ℕ, ◌<◌, ◌≤◌, max, List, Bool, true, false, Some, length, sym, subst, arith}
use Rattle.std.specs.Prelude.{if◌then◌else◌, IsSome, IfSome, slice_range}
use Rattle.asn_rules_guards.specs.Allows.{allows}
use Rattle.asn_rules_guards.specs.declared.asked.Guard.{Guard}
use Rattle.asn_rules.specs.Expression.{Expression, see, marked, seq, choice, many, never, guarded, rule, skip, Sight}
use Rattle.asn_rules.specs.Runs.{Ending, ends, fails, seen, Runs, sees, sees_mark, seq_ends, seq_fails, choice_first, choice_second, many_turn, many_idle, many_fails, never_ends, never_fails, guard_judges, guard_fails, calls, skips}
use Rattle.asn_rules.specs.declared.marks.Mark.{Mark}
use Rattle.asn_rules.specs.declared.run.Outcome.{Outcome}
use Rattle.asn_rules.specs.declared.run.Outcome.TheVariants.{End, Fail}
use Rattle.asn_rules.specs.inner.Answer.{at_height, raised}
use Rattle.asn_rules.proofs.Theory.{Lies, runs_lies, seen_lies}
use Rattle.asn_match.specs.Table.{at, Holds, RunsTo, itself, in_skipped, in_first, in_second, in_one, in_other, in_turn, in_later, in_never, in_guarded}
use Rattle.asn_match.specs.inner.Given.{EndsBehind, Enters}
use Rattle.asn_match.specs.declared.chains.MatchTable.{MatchTable}

module _ (rules : List Expression) (text : List ℕ) where
  -- ---- what it comes to

  at_height_runs : (e : Expression) (i : ℕ) (o : Ending) (h : ℕ) → Runs rules text e i o h → RunsTo rules text e i (at_height o h)
  at_height_runs e i (ends j) h p = p
  at_height_runs e i fails h p = p

  pub see_runs : (s : Sight) (i : ℕ) (o : Outcome) → o ≡ at_height (seen text s i) 0 → RunsTo rules text (see s) i o
  see_runs s i o e = subst (RunsTo rules text (see s) i) (sym e) (at_height_runs (see s) i (seen text s i) 0 sees)

  pub mark_runs : (m : Mark) (s : Sight) (i : ℕ) (o : Outcome) → o ≡ at_height (seen text s i) 0 → RunsTo rules text (marked m s) i o
  mark_runs m s i o e = subst (RunsTo rules text (marked m s) i) (sym e) (at_height_runs (marked m s) i (seen text s i) 0 sees_mark)

  lies_behind : (i : ℕ) (o : Ending) (h : ℕ) → Lies (length text) i o → EndsBehind (length text) i (at_height o h)
  lies_behind i (ends j) h l = (l.0, l.1)
  lies_behind i fails h l = tt

  pub see_lies : (s : Sight) (i : ℕ) (o : Outcome) → i ≤ length text → o ≡ at_height (seen text s i) 0 → EndsBehind (length text) i o
  see_lies s i o le e = subst (EndsBehind (length text) i) (sym e) (lies_behind i (seen text s i) 0 (seen_lies rules text s i le))

  -- an end lies behind the offset
  pub behind : (e : Expression) (i : ℕ) (o : Outcome) → i ≤ length text → RunsTo rules text e i o → EndsBehind (length text) i o
  behind e i (End j h) le p = let l = runs_lies rules text p le in (l.0, l.1)
  behind e i (Fail h) le p = tt

  -- what the table has of a rule is right
  pub rule_runs : (t : MatchTable) (r i : ℕ) (o : Outcome) → Holds rules text t → at t r i ≡ Some o → RunsTo rules text (rule r) i o
  rule_runs t r i o x e = (subst (λ y. IfSome y (λ o. (i ≤ length text) × RunsTo rules text (rule r) i o)) e (x.right r i)).1

  without_node : (r i h : ℕ) (o : Ending) → Runs rules text (rule r) i o h → Runs rules text (skip r) i o h
  without_node r i h o (calls p) = skips p

  skipped_so : (r i : ℕ) (o : Outcome) → RunsTo rules text (rule r) i o → RunsTo rules text (skip r) i o
  skipped_so r i (End j h) p = without_node r i h (ends j) p
  skipped_so r i (Fail h) p = without_node r i h fails p

  pub skip_runs : (t : MatchTable) (r i : ℕ) (o : Outcome) → Holds rules text t → at t r i ≡ Some o → RunsTo rules text (skip r) i o
  skip_runs t r i o x e = skipped_so r i o (rule_runs t r i o x e)

  pub rule_lies : (t : MatchTable) (r i : ℕ) (o : Outcome) → i ≤ length text → Holds rules text t → at t r i ≡ Some o → EndsBehind (length text) i o
  rule_lies t r i o le x e = behind (rule r) i o le (rule_runs t r i o x e)

  pub seq_fails_so : (a b : Expression) (i h : ℕ) → RunsTo rules text a i (Fail h) → RunsTo rules text (seq a b) i (Fail h)
  seq_fails_so a b i h p = seq_fails p

  pub seq_runs : (a b : Expression) (i k h : ℕ) (o : Outcome) → RunsTo rules text a i (End k h) → RunsTo rules text b k o → RunsTo rules text (seq a b) i (raised h o)
  seq_runs a b i k h (End j l) p q = seq_ends p q
  seq_runs a b i k h (Fail l) p q = seq_ends p q

  pub choice_ends_so : (a b : Expression) (i k h : ℕ) → RunsTo rules text a i (End k h) → RunsTo rules text (choice a b) i (End k h)
  choice_ends_so a b i k h p = choice_first p

  pub choice_runs : (a b : Expression) (i h : ℕ) (o : Outcome) → RunsTo rules text a i (Fail h) → RunsTo rules text b i o → RunsTo rules text (choice a b) i (raised h o)
  choice_runs a b i h (End j l) p q = choice_second p q
  choice_runs a b i h (Fail l) p q = choice_second p q

  pub raised_behind : (i k h : ℕ) (o : Outcome) → i ≤ k → EndsBehind (length text) k o → EndsBehind (length text) i (raised h o)
  raised_behind i k h (End j l) le b = (omega (arith, le, b.0), b.1)
  raised_behind i k h (Fail l) le b = tt

  pub never_fails_so : (a : Expression) (i k h : ℕ) → RunsTo rules text a i (End k h) → RunsTo rules text (never a) i (Fail h)
  never_fails_so a i k h p = never_fails p

  pub never_ends_so : (a : Expression) (i h : ℕ) → RunsTo rules text a i (Fail h) → RunsTo rules text (never a) i (End i h)
  never_ends_so a i h p = never_ends p

  judge : (a : Expression) (g : Guard) (i k h : ℕ) (b : Bool) → allows g (slice_range text i k) ≡ b → RunsTo rules text a i (End k h) → Runs rules text (guarded a g) i (if b then ends k else fails) h
  judge a g i k h b e p = subst (λ b. Runs rules text (guarded a g) i (if b then ends k else fails) h) e (guard_judges p)

  pub guard_ends_so : (a : Expression) (g : Guard) (i k h : ℕ) → allows g (slice_range text i k) ≡ true → RunsTo rules text a i (End k h) → RunsTo rules text (guarded a g) i (End k h)
  guard_ends_so a g i k h e p = judge a g i k h true e p

  pub guard_refuses : (a : Expression) (g : Guard) (i k h : ℕ) → allows g (slice_range text i k) ≡ false → RunsTo rules text a i (End k h) → RunsTo rules text (guarded a g) i (Fail h)
  guard_refuses a g i k h e p = judge a g i k h false e p

  pub guard_fails_so : (a : Expression) (g : Guard) (i h : ℕ) → RunsTo rules text a i (Fail h) → RunsTo rules text (guarded a g) i (Fail h)
  guard_fails_so a g i h p = guard_fails p

  -- The turns that are behind, at this height.
  pub record Turning (a : Expression) (i j h : ℕ) : Type 0 where
    pub on : (o : Outcome) → RunsTo rules text (many a) j o → RunsTo rules text (many a) i (raised h o)

  not_raised : (e : Expression) (i : ℕ) (o : Outcome) → RunsTo rules text e i o → RunsTo rules text e i (raised 0 o)
  not_raised e i (End j l) p = let same : l ≡ max 0 l = omega arith in subst (λ h. Runs rules text e i (ends j) h) same p
  not_raised e i (Fail l) p = let same : l ≡ max 0 l = omega arith in subst (λ h. Runs rules text e i fails h) same p

  pub no_turn : (a : Expression) (i : ℕ) → Turning a i i 0
  no_turn a i = record { on = λ o p. not_raised (many a) i o p }

  raise_twice : (e : Expression) (i a b : ℕ) (o : Outcome) → RunsTo rules text e i (raised a (raised b o)) → RunsTo rules text e i (raised (max a b) o)
  raise_twice e i a b (End j l) p = let same : max a (max b l) ≡ max (max a b) l = omega arith in subst (λ h. Runs rules text e i (ends j) h) same p
  raise_twice e i a b (Fail l) p = let same : max a (max b l) ≡ max (max a b) l = omega arith in subst (λ h. Runs rules text e i fails h) same p

  one_turn_so : (a : Expression) (j k h : ℕ) (o : Outcome) → j < k → RunsTo rules text a j (End k h) → RunsTo rules text (many a) k o → RunsTo rules text (many a) j (raised h o)
  one_turn_so a j k h (End m l) lt p q = many_turn p lt q
  one_turn_so a j k h (Fail l) lt p q = many_turn p lt q

  pub one_turn : (a : Expression) (i j k h l : ℕ) → j < k → RunsTo rules text a j (End k l) → Turning a i j h → Turning a i k (max h l)
  one_turn a i j k h l lt p t = record { on = λ o q. raise_twice (many a) i h l o (t.on (raised l o) (one_turn_so a j k l o lt p q)) }

  pub last_idle : (a : Expression) (i j k h l m : ℕ) → RunsTo rules text a j (End k l) → k ≡ j → m ≡ max h l → Turning a i j h → Runs rules text (many a) i (ends j) m
  last_idle a i j k h l m p same is t =
      let idle : Runs rules text a j (ends j) l = subst (λ k. Runs rules text a j (ends k) l) same p in
      subst (λ m. Runs rules text (many a) i (ends j) m) (sym is) (t.on (End j l) (many_idle idle))

  pub last_fails : (a : Expression) (i j h l m : ℕ) → RunsTo rules text a j (Fail l) → m ≡ max h l → Turning a i j h → Runs rules text (many a) i (ends j) m
  last_fails a i j h l m p is t = subst (λ m. Runs rules text (many a) i (ends j) m) (sym is) (t.on (End j l) (many_fails p))

  -- ---- what the table has of its parts

  module _ (t : MatchTable) where
    pub enters_itself : (r i : ℕ) → Enters rules text t (rule r) i → IsSome (at t r i)
    enters_itself r i x = x.all r i itself

    pub enters_skipped : (r i : ℕ) → Enters rules text t (skip r) i → IsSome (at t r i)
    enters_skipped r i x = x.all r i (in_skipped itself)

    pub enters_first : (a b : Expression) (i : ℕ) → Enters rules text t (seq a b) i → Enters rules text t a i
    enters_first a b i x = record { all = λ s j q. x.all s j (in_first q) }

    pub enters_second : (a b : Expression) (i k h : ℕ) → RunsTo rules text a i (End k h) → Enters rules text t (seq a b) i → Enters rules text t b k
    enters_second a b i k h p x = record { all = λ s j q. x.all s j (in_second p q) }

    pub enters_one : (a b : Expression) (i : ℕ) → Enters rules text t (choice a b) i → Enters rules text t a i
    enters_one a b i x = record { all = λ s j q. x.all s j (in_one q) }

    pub enters_other : (a b : Expression) (i h : ℕ) → RunsTo rules text a i (Fail h) → Enters rules text t (choice a b) i → Enters rules text t b i
    enters_other a b i h p x = record { all = λ s j q. x.all s j (in_other p q) }

    pub enters_turn : (a : Expression) (i : ℕ) → Enters rules text t (many a) i → Enters rules text t a i
    enters_turn a i x = record { all = λ s j q. x.all s j (in_turn q) }

    pub enters_later : (a : Expression) (i k h : ℕ) → i < k → RunsTo rules text a i (End k h) → Enters rules text t (many a) i → Enters rules text t (many a) k
    enters_later a i k h lt p x = record { all = λ s j q. x.all s j (in_later p lt q) }

    pub enters_never : (a : Expression) (i : ℕ) → Enters rules text t (never a) i → Enters rules text t a i
    enters_never a i x = record { all = λ s j q. x.all s j (in_never q) }

    pub enters_guarded : (a : Expression) (g : Guard) (i : ℕ) → Enters rules text t (guarded a g) i → Enters rules text t a i
    enters_guarded a g i x = record { all = λ s j q. x.all s j (in_guarded q) }
