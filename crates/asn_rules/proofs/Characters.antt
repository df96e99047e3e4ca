-- In a text of characters, what begins between two characters ends between two.
use Rattle.std.proofs.Common.{◌≡◌, ℕ, zero, suc, ◌+◌, ◌<◌, ◌≤◌, List, [], ◌∷◌, Bool, true, false, length, get_or, drop, refl, sym, ap, subst, arith, ◌⊎◌, inl, inr}
use Rattle.std.specs.Prelude.{codes, nat_eq, nat_lt, ◌&&◌, ◌||◌, if◌then◌else◌, slice_range}
use Rattle.std.specs.List.{starts_with, list_all, list_any}
use Rattle.std.specs.Str.{IsUtf8, IsCharBoundary}
use Rattle.std.proofs.Math.Seq.{drop-cons}
use Rattle.std.proofs.lemmas.List.{drop_all}
use Rattle.std.proofs.lemmas.Str.{IsCharBoundary-end, IsCharBoundary-before_ascii, IsCharBoundary-after_ascii}
use Rattle.std.proofs.lemmas.Bool.{cases_lt}
use Rattle.std.proofs.lemmas.Bool.Decides.{nat_tests}
use Rattle.asn_rules.specs.Expression.{Expression, see, marked, seq, choice, many, never, guarded, rule, skip, Sight, bytes, word, one_of, rule_of}
use Rattle.asn_rules_guards.specs.Lexical.{in_class, first_in, stands, width, word_ends}
use Rattle.asn_rules_guards.specs.Allows.{allows}
use Rattle.asn_rules.specs.Runs.{Ending, ends, fails, seen, judged, Runs, sees, sees_mark, seq_ends, seq_fails, choice_first, choice_second, many_turn, many_idle, many_fails, never_ends, never_fails, guard_judges, guard_fails, calls, skips}
use Rattle.asn_rules_guards.specs.declared.asked.ByteClass.{ByteClass}
use Rattle.asn_rules_guards.specs.declared.asked.ByteClass.TheVariants.{Blank, Digit, Letter, Lower, Upper, Alnum, Cap, HexLetter, TimeMark, LabelMark, LineFeed, Any}
use Rattle.asn_rules_guards.specs.declared.asked.Guard.{Guard}
use Rattle.asn_rules.proofs.Theory.{runs_lies}
use Rattle.asn_rules.proofs.Total.{takes_byte, checked, moves}
use Rattle.asn_rules_guards.proofs.Booleans.{and_both, or_either}

abbrev is_ascii : ℕ → Bool
is_ascii b = nat_lt b 128

abbrev is_narrow : ByteClass → Bool
is_narrow Blank = true
is_narrow Digit = true
is_narrow Letter = true
is_narrow Lower = true
is_narrow Upper = true
is_narrow Alnum = true
is_narrow Cap = true
is_narrow HexLetter = true
is_narrow TimeMark = true
is_narrow LabelMark = true
is_narrow LineFeed = true
is_narrow Any = false

-- it does not stand before a byte above ASCII
abbrev stops : Sight → Bool
stops (bytes []) = false
stops (bytes (b ∷ bs)) = is_ascii b
stops (word []) = false
stops (word (b ∷ bs)) = is_ascii b
stops (one_of c) = is_narrow c

-- what an expression does before such a byte: it fails, or it ends there, having taken nothing, or either
pub data Course : Type 0 where
  halts : Course
  rests : Course
  open_ended : Course

-- of rules 0 to 5
abbrev pub courses : List Course
courses = open_ended ∷ rests ∷ halts ∷ halts ∷ open_ended ∷ halts ∷ []

abbrev then_course : Course → Course → Course
then_course halts c = halts
then_course rests c = c
then_course open_ended c = open_ended

abbrev else_course : Course → Course → Course
else_course halts c = c
else_course rests c = rests
else_course open_ended c = open_ended

abbrev turned_course : Course → Course
turned_course halts = rests
turned_course rests = halts
turned_course open_ended = open_ended

abbrev many_course : Course → Course
many_course halts = rests
many_course rests = rests
many_course open_ended = open_ended

abbrev guarded_course : Course → Course
guarded_course halts = halts
guarded_course rests = open_ended
guarded_course open_ended = open_ended

abbrev pub course : Expression → Course
course (see s) = if stops s then halts else open_ended
course (marked m s) = if stops s then halts else open_ended
course (seq a b) = then_course (course a) (course b)
course (choice a b) = else_course (course a) (course b)
course (many a) = many_course (course a)
course (never a) = turned_course (course a)
course (guarded a g) = guarded_course (course a)
course (rule r) = get_or courses r open_ended
course (skip r) = get_or courses r open_ended

-- the first is right, or says nothing
abbrev says : Course → Course → Bool
says open_ended c = true
says halts halts = true
says halts c = false
says rests rests = true
says rests c = false

abbrev pub says_each : List Course → List Expression → Bool
says_each [] es = true
says_each (c ∷ cs) [] = false
says_each (c ∷ cs) (e ∷ es) = says c (course e) && says_each cs es

abbrev pub are_right : List Expression → Bool
are_right es = says_each courses es

abbrev is_rest : Course → Bool
is_rest halts = false
is_rest rests = true
is_rest open_ended = false

-- it does not fail before such a byte
abbrev passes : Expression → Bool
passes (see (one_of Any)) = true
passes (seq a b) = is_rest (course a) && passes b
passes (choice a b) = passes a || passes b
passes _ = false

-- all of it is ASCII
abbrev pub is_plain : Sight → Bool
is_plain (bytes x) = list_all is_ascii x
is_plain (word x) = list_all is_ascii x
is_plain (one_of c) = is_narrow c

-- turns that each take a byte, and that a byte above ASCII does not end
abbrev goes_on : List Bool → Expression → Bool
goes_on t (many a) = passes a && takes_byte t a
goes_on t _ = false

-- it ends between characters, where the rules do
abbrev pub clean : List Bool → Expression → Bool
clean t (see s) = is_plain s
clean t (marked m s) = is_plain s
clean t (seq a b) = clean t a && clean t b
clean t (choice a b) = clean t a && clean t b
clean t (many a) = clean t a || goes_on t (many a)
clean t (never a) = true
clean t (guarded a g) = clean t a
clean t (rule r) = true
clean t (skip r) = true

one_is : (b : ℕ) (xs : List ℕ) → list_all is_ascii xs ≡ true → list_any (nat_eq b) xs ≡ true → b < 128
one_is b [] a e = absurd cc
one_is b (x ∷ xs) a e =
    let both = and_both (is_ascii x) (list_all is_ascii xs) a in
    elim (or_either (nat_eq b x) (list_any (nat_eq b) xs) e) [ inl y ↦ grind (arith, nat_tests, both.0, y) | inr z ↦ one_is b xs both.1 z ]

narrow_is : (c : ByteClass) (b : ℕ) → is_narrow c ≡ true → in_class c b ≡ true → b < 128
narrow_is Blank b n e = grind (arith, nat_tests, e)
narrow_is Digit b n e = grind (arith, nat_tests, e)
narrow_is Letter b n e = grind (arith, nat_tests, e)
narrow_is Lower b n e = grind (arith, nat_tests, e)
narrow_is Upper b n e = grind (arith, nat_tests, e)
narrow_is Alnum b n e = grind (arith, nat_tests, e)
narrow_is Cap b n e = grind (arith, nat_tests, e)
narrow_is HexLetter b n e = grind (arith, nat_tests, e)
narrow_is TimeMark b n e = one_is b (codes "+-:.,/CDHMRPSTWYZ") refl e
narrow_is LabelMark b n e = one_is b (codes "-_~./") refl e
narrow_is LineFeed b n e = grind (arith, nat_tests, e)
narrow_is Any b n e = absurd cc

-- a text's bytes from a place within it on
split_at : (text : List ℕ) (i : ℕ) → i < length text → drop i text ≡ get_or text i 0 ∷ drop (suc i) text
split_at text i lt = drop-cons text i 0 lt

high_differs : (b y : ℕ) → is_ascii b ≡ true → 128 ≤ y → nat_eq b y ≡ false
high_differs b y a h = grind (arith, nat_tests, a)

module _ (text : List ℕ) where
  -- a byte above ASCII stands at the place
  abbrev pub High : ℕ → Type 0
  High i = (i < length text) × (128 ≤ get_or text i 0)

  stopped : (s : Sight) (i : ℕ) → High i → stops s ≡ true → stands s (drop i text) ≡ false
  stopped s i h e = subst (λ xs. stands s xs ≡ false) (sym (split_at text i h.0)) (go s e)
    where
      go : (s : Sight) → stops s ≡ true → stands s (get_or text i 0 ∷ drop (suc i) text) ≡ false
      go (bytes []) e = absurd cc
      go (bytes (b ∷ bs)) e = ap (λ t. t && starts_with nat_eq (drop (suc i) text) bs) (high_differs b (get_or text i 0) e h.1)
      go (word []) e = absurd cc
      go (word (b ∷ bs)) e = ap (λ t. (t && starts_with nat_eq (drop (suc i) text) bs) && word_ends (drop (length (b ∷ bs)) (get_or text i 0 ∷ drop (suc i) text))) (high_differs b (get_or text i 0) e h.1)
      go (one_of c) e = narrow (in_class c (get_or text i 0)) refl
        where
          narrow : (t : Bool) → in_class c (get_or text i 0) ≡ t → t ≡ false
          narrow true q = let low = narrow_is c (get_or text i 0) e q in absurd (omega (arith, low, h.1))
          narrow false q = refl

  stopped_fails : (s : Sight) (i : ℕ) → High i → stops s ≡ true → seen text s i ≡ fails
  stopped_fails s i h e = ap (λ t. if t then ends (i + width s) else fails) (stopped s i h e)

  -- What is plain ends between characters.
  abbrev pub Between : Ending → Type 0
  Between (ends j) = IsCharBoundary text j
  Between fails = Unit {0}

  plain_ends : IsUtf8 text → (x : List ℕ) (i : ℕ) → IsCharBoundary text i → list_all is_ascii x ≡ true → starts_with nat_eq (drop i text) x ≡ true → IsCharBoundary text (i + length x)
  plain_ends u [] i b a e = let same : i ≡ i + 0 = omega arith in subst (IsCharBoundary text) same b
  plain_ends u (c ∷ cs) i b a e = go (λ b a e. plain_ends u cs (suc i) b a e) (cases_lt i (length text))
    where
      go : (IsCharBoundary text (suc i) → list_all is_ascii cs ≡ true → starts_with nat_eq (drop (suc i) text) cs ≡ true → IsCharBoundary text (suc i + length cs)) → ((i < length text) ⊎ (length text ≤ i)) → IsCharBoundary text (i + suc (length cs))
      go again (inl lt) =
          let parts = and_both (is_ascii c) (list_all is_ascii cs) a in
          let both = subst (λ xs. starts_with nat_eq xs (c ∷ cs) ≡ true) (split_at text i lt) e in
          let first = and_both (nat_eq c (get_or text i 0)) (starts_with nat_eq (drop (suc i) text) cs) both in
          let low : get_or text i 0 < 128 = grind (arith, nat_tests, parts.0, first.0) in
          let one : i + 1 ≡ suc i = omega arith in
          let next = subst (IsCharBoundary text) one (IsCharBoundary-after_ascii text i u lt low) in
          let sum : suc i + length cs ≡ i + suc (length cs) = omega arith in
          subst (IsCharBoundary text) sum (again next parts.1 first.1)
      go again (inr le) = absurd (none (subst (λ xs. starts_with nat_eq xs (c ∷ cs) ≡ true) (drop_all i text le) e))
        where
          none : starts_with nat_eq [] (c ∷ cs) ≡ true → ⊥
          none e = cc

  pub sight_between : IsUtf8 text → (s : Sight) (i : ℕ) → IsCharBoundary text i → is_plain s ≡ true → Between (seen text s i)
  sight_between u s i b a = go (stands s (drop i text)) refl
    where
      at : (s : Sight) → is_plain s ≡ true → stands s (drop i text) ≡ true → IsCharBoundary text (i + width s)
      at (bytes x) a e = plain_ends u x i b a e
      at (word x) a e = plain_ends u x i b a (and_both (starts_with nat_eq (drop i text) x) (word_ends (drop (length x) (drop i text))) e).0
      at (one_of c) a e = one (cases_lt i (length text))
        where
          one : ((i < length text) ⊎ (length text ≤ i)) → IsCharBoundary text (i + 1)
          one (inl lt) = IsCharBoundary-after_ascii text i u lt (narrow_is c (get_or text i 0) a (subst (λ xs. first_in c xs ≡ true) (split_at text i lt) e))
          one (inr le) = absurd (none (subst (λ xs. first_in c xs ≡ true) (drop_all i text le) e))
            where
              none : first_in c [] ≡ true → ⊥
              none e = cc

      go : (t : Bool) → stands s (drop i text) ≡ t → Between (if t then ends (i + width s) else fails)
      go true e = at s a e
      go false e = tt

  -- Where no byte above ASCII stands, a character may begin.
  pub not_high : (i : ℕ) → i ≤ length text → (High i → ⊥) → IsCharBoundary text i
  not_high i le n = go (cases_lt i (length text)) (cases_lt (get_or text i 0) 128)
    where
      go : ((i < length text) ⊎ (length text ≤ i)) → ((get_or text i 0 < 128) ⊎ (128 ≤ get_or text i 0)) → IsCharBoundary text i
      go (inl lt) (inl low) = IsCharBoundary-before_ascii text i lt low
      go (inl lt) (inr high) = absurd (n (lt, high))
      go (inr ge) x = let same : length text ≡ i = omega arith in subst (IsCharBoundary text) same (IsCharBoundary-end text)

module _ (rules : List Expression) (text : List ℕ) (t : List Bool) (ranks : List ℕ) (fine : checked t ranks rules t ranks ≡ true) (all_clean : list_all (clean t) rules ≡ true) (all_right : are_right rules ≡ true) (utf8 : IsUtf8 text) where
  abbrev pub Follows : Course → ℕ → Ending → Type 0
  Follows halts i o = o ≡ fails
  Follows rests i o = o ≡ ends i
  Follows open_ended i o = Unit {0}

  says_row : (cs : List Course) (es : List Expression) → says_each cs es ≡ true → (r : ℕ) → says (get_or cs r open_ended) (course (rule_of es r)) ≡ true
  says_row [] es e r = refl
  says_row (c ∷ cs) [] e r = absurd cc
  says_row (c ∷ cs) (x ∷ es) e zero = (and_both (says c (course x)) (says_each cs es) e).0
  says_row (c ∷ cs) (x ∷ es) e (suc r) = says_row cs es (and_both (says c (course x)) (says_each cs es) e).1 r

  said : (c d : Course) (i : ℕ) (o : Ending) → says c d ≡ true → Follows d i o → Follows c i o
  said open_ended d i o e f = tt
  said halts halts i o e f = f
  said halts rests i o e f = absurd cc
  said halts open_ended i o e f = absurd cc
  said rests halts i o e f = absurd cc
  said rests rests i o e f = f
  said rests open_ended i o e f = absurd cc

  see_follows : (s : Sight) (i : ℕ) → High text i → Follows (if stops s then halts else open_ended) i (seen text s i)
  see_follows s i high = go (stops s) refl
    where
      go : (b : Bool) → stops s ≡ b → Follows (if b then halts else open_ended) i (seen text s i)
      go true e = stopped_fails text s i high e
      go false e = tt

  ends_same : {i j : ℕ} → ◌≡◌ {A = Ending} (ends j) (ends i) → j ≡ i
  ends_same e = cc

  no_end : {j : ℕ} → ◌≡◌ {A = Ending} (ends j) fails → ⊥
  no_end e = cc

  no_failure : {i : ℕ} → ◌≡◌ {A = Ending} fails (ends i) → ⊥
  no_failure e = cc

  seq_follows : (c d : Course) (i j : ℕ) (o : Ending) → Follows c i (ends j) → (j ≡ i → Follows d i o) → Follows (then_course c d) i o
  seq_follows halts d i j o f g = absurd (no_end f)
  seq_follows rests d i j o f g = g (ends_same f)
  seq_follows open_ended d i j o f g = tt

  seq_stops : (c d : Course) (i : ℕ) → Follows c i fails → Follows (then_course c d) i fails
  seq_stops halts d i f = refl
  seq_stops rests d i f = absurd (no_failure f)
  seq_stops open_ended d i f = tt

  first_follows : (c d : Course) (i j : ℕ) → Follows c i (ends j) → Follows (else_course c d) i (ends j)
  first_follows halts d i j f = absurd (no_end f)
  first_follows rests d i j f = f
  first_follows open_ended d i j f = tt

  second_follows : (c d : Course) (i : ℕ) (o : Ending) → Follows c i fails → Follows d i o → Follows (else_course c d) i o
  second_follows halts d i o f g = g
  second_follows rests d i o f g = absurd (no_failure f)
  second_follows open_ended d i o f g = tt

  turn_follows : (c : Course) (i j : ℕ) (o : Ending) → i < j → Follows c i (ends j) → Follows (many_course c) i o
  turn_follows halts i j o lt f = absurd (no_end f)
  turn_follows rests i j o lt f = let same = ends_same f in absurd (omega (arith, lt, same))
  turn_follows open_ended i j o lt f = tt

  many_follows : (c : Course) (i : ℕ) → Follows (many_course c) i (ends i)
  many_follows halts i = refl
  many_follows rests i = refl
  many_follows open_ended i = tt

  never_rests : (c : Course) (i : ℕ) → Follows c i fails → Follows (turned_course c) i (ends i)
  never_rests halts i f = refl
  never_rests rests i f = absurd (no_failure f)
  never_rests open_ended i f = tt

  never_halts : (c : Course) (i j : ℕ) → Follows c i (ends j) → Follows (turned_course c) i fails
  never_halts halts i j f = absurd (no_end f)
  never_halts rests i j f = refl
  never_halts open_ended i j f = tt

  guard_follows : (c : Course) (i j : ℕ) (o : Ending) → Follows c i (ends j) → Follows (guarded_course c) i o
  guard_follows halts i j o f = absurd (no_end f)
  guard_follows rests i j o f = tt
  guard_follows open_ended i j o f = tt

  guard_stops : (c : Course) (i : ℕ) → Follows c i fails → Follows (guarded_course c) i fails
  guard_stops halts i f = refl
  guard_stops rests i f = tt
  guard_stops open_ended i f = tt

  -- Before such a byte an expression does what its course says.
  pub follows : {e : Expression} {i h : ℕ} {o : Ending} → Runs rules text e i o h → High text i → Follows (course e) i o
  follows (sees {s} {i}) high = see_follows s i high
  follows (sees_mark {s = s} {i = i}) high = see_follows s i high
  follows (seq_ends {a = a} {b = b} {i = i} {j = j} {o = o} p q) high =
      seq_follows (course a) (course b) i j o (follows p high) (λ same. subst (λ k. Follows (course b) k o) same (follows q (subst (High text) (sym same) high)))
  follows (seq_fails {a = a} {b = b} {i = i} p) high = seq_stops (course a) (course b) i (follows p high)
  follows (choice_first {a = a} {b = b} {i = i} {j = j} p) high = first_follows (course a) (course b) i j (follows p high)
  follows (choice_second {a = a} {b = b} {i = i} {o = o} p q) high = second_follows (course a) (course b) i o (follows p high) (follows q high)
  follows (many_turn {a = a} {i = i} {j = j} {o = o} p lt q) high = turn_follows (course a) i j o lt (follows p high)
  follows (many_idle {a = a} {i = i} p) high = many_follows (course a) i
  follows (many_fails {a = a} {i = i} p) high = many_follows (course a) i
  follows (never_ends {a = a} {i = i} p) high = never_rests (course a) i (follows p high)
  follows (never_fails {a = a} {i = i} {j = j} p) high = never_halts (course a) i j (follows p high)
  follows (guard_judges {a = a} {g = g} {i = i} {j = j} p) high = guard_follows (course a) i j (judged text g i j) (follows p high)
  follows (guard_fails {a = a} {i = i} p) high = guard_stops (course a) i (follows p high)
  follows (calls {r = r} {i = i} {o = o} p) high = said (get_or courses r open_ended) (course (rule_of rules r)) i o (says_row courses rules all_right r) (follows p high)
  follows (skips {r = r} {i = i} {o = o} p) high = said (get_or courses r open_ended) (course (rule_of rules r)) i o (says_row courses rules all_right r) (follows p high)

  rested : (e : Expression) {i h : ℕ} {o : Ending} → Runs rules text e i o h → High text i → is_rest (course e) ≡ true → o ≡ ends i
  rested e {i} {h} {o} p high is = go (course e) (follows p high) is
    where
      go : (c : Course) → Follows c i o → is_rest c ≡ true → o ≡ ends i
      go halts f is = absurd cc
      go rests f is = f
      go open_ended f is = absurd cc

  abbrev NotFails : Ending → Type 0
  NotFails (ends j) = Unit {0}
  NotFails fails = ⊥

  any_stands : (s : Sight) (i : ℕ) → High text i → passes (see s) ≡ true → NotFails (seen text s i)
  any_stands (one_of Any) i high e = subst (λ xs. NotFails (if first_in Any xs then ends (i + 1) else fails)) (sym (split_at text i high.0)) tt
  any_stands _ i high e = absurd cc

  -- Before a byte above ASCII, what passes does not fail.
  passed : {e : Expression} {i h : ℕ} {o : Ending} → Runs rules text e i o h → High text i → passes e ≡ true → NotFails o
  passed (sees {s} {i}) high e = any_stands s i high e
  passed (seq_ends {a = a} {b = b} {i = i} {j = j} {o = o} p q) high e =
      let both = and_both (is_rest (course a)) (passes b) e in
      let here = rested a p high both.0 in
      let same : j ≡ i = cc in
      passed q (subst (High text) (sym same) high) both.1
  passed (seq_fails {a = a} {b = b} p) high e =
      let here = rested a p high (and_both (is_rest (course a)) (passes b) e).0 in
      absurd cc
  passed (choice_first p) high e = tt
  passed (choice_second {a = a} {b = b} p q) high e = elim (or_either (passes a) (passes b) e) [ inl x ↦ absurd (passed p high x) | inr y ↦ passed q high y ]
  passed _ high e = absurd cc

  -- Such turns end where a character may begin.
  turns_end : {e : Expression} {i h : ℕ} {o : Ending} → Runs rules text e i o h → i ≤ length text → goes_on t e ≡ true → Between text o
  turns_end (many_turn p lt q) le e = turns_end q (runs_lies rules text p le).1 e
  turns_end (many_idle {a = a} {i = i} p) le e = let on = moves rules text t ranks fine p le (and_both (passes a) (takes_byte t a) e).1 in absurd (omega arith)
  turns_end (many_fails {a = a} {i = i} p) le e = not_high text i le (λ high. passed p high (and_both (passes a) (takes_byte t a) e).0)
  turns_end _ le e = absurd cc

  judge_between : (g : Guard) (i j : ℕ) → IsCharBoundary text j → Between text (judged text g i j)
  judge_between g i j b = go (allows g (slice_range text i j))
    where
      go : (t : Bool) → Between text (if t then ends j else fails)
      go true = b
      go false = tt

  pub row_clean : (es : List Expression) → list_all (clean t) es ≡ true → (r : ℕ) → clean t (rule_of es r) ≡ true
  row_clean [] e r = refl
  row_clean (x ∷ es) e zero = (and_both (clean t x) (list_all (clean t) es) e).0
  row_clean (x ∷ es) e (suc r) = row_clean es (and_both (clean t x) (list_all (clean t) es) e).1 r

  -- What begins between two characters ends between two.
  pub between : {e : Expression} {i h : ℕ} {o : Ending} → Runs rules text e i o h → IsCharBoundary text i → clean t e ≡ true → Between text o
  between (sees {s} {i}) b m = sight_between text utf8 s i b m
  between (sees_mark {s = s} {i = i}) b m = sight_between text utf8 s i b m
  between (seq_ends {a = a} {b = c} p q) b m = let both = and_both (clean t a) (clean t c) m in between q (between p b both.0) both.1
  between (seq_fails p) b m = tt
  between (choice_first {a = a} {b = c} p) b m = between p b (and_both (clean t a) (clean t c) m).0
  between (choice_second {a = a} {b = c} p q) b m = between q b (and_both (clean t a) (clean t c) m).1
  between (many_turn {a = a} p lt q) b m = elim (or_either (clean t a) (goes_on t (many a)) m) [ inl x ↦ between q (between p b x) m | inr y ↦ turns_end q (runs_lies rules text p b.0).1 y ]
  between (many_idle p) b m = b
  between (many_fails p) b m = b
  between (never_ends p) b m = b
  between (never_fails p) b m = tt
  between (guard_judges {g = g} {i = i} {j = j} p) b m = judge_between g i j (between p b m)
  between (guard_fails p) b m = tt
  between (calls {r = r} p) b m = between p b (row_clean rules all_clean r)
  between (skips {r = r} p) b m = between p b (row_clean rules all_clean r)

  pub ends_between : (r i j h : ℕ) → IsCharBoundary text i → Runs rules text (rule r) i (ends j) h → IsCharBoundary text j
  ends_between r i j h b p = between p b refl
