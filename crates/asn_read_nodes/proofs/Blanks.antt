-- Blanks and comments as their rule takes them are those that the bytes tell.
use Rattle.std.proofs.Common.{◌≡◌, ℕ, zero, suc, ◌+◌, ◌<◌, ◌≤◌, List, [], ◌∷◌, Bool, true, false, drop, refl, sym, ap, ◌∙◌, subst, arith, ◌⊎◌, inl, inr, codes}
use Rattle.std.specs.Prelude.{nat_eq, ◌&&◌, if◌then◌else◌}
use Rattle.std.proofs.lemmas.Bool.Decides.{Decides-eqb, nat_tests}
use Rattle.std.proofs.lemmas.List.{drop-drop}
use Rattle.asn_rules.specs.Expression.{Expression, Sight, see, seq, choice, many, never, rule}
use Rattle.asn_rules.specs.Forms.{any, blank, line_feed, literal}
use Rattle.asn_rules_guards.specs.Lexical.{first_in, is_blank, stands, width}
use Rattle.asn_rules.specs.LexicalRules.{lexical_rules_before}
use Rattle.asn_rules.specs.Runs.{Ending, ends, fails, Runs, sees, seq_ends, seq_fails, choice_first, choice_second, many_turn, many_idle, many_fails, never_ends, never_fails}
use Rattle.asn_rules_guards.specs.Guards.{Place, within, in_line, begins}
use Rattle.asn_rules_guards.specs.Outside.{outside_from}
use Rattle.asn_rules.specs.Whole.{whole_rules}
use Rattle.asn_rules_guards.specs.declared.asked.ByteClass.TheVariants.{Any, Blank, LineFeed}
use Rattle.asn_rules_guards.proofs.Bare.{blank_goes_on, block_closes, block_goes_on, block_opens, comment_opens, line_breaks, line_closes, line_goes_on, line_opens, outside_none}
use Rattle.asn_text.proofs.Tries.{called, chosen, parts, stood}

-- ---- bytes

blank_is_no_mark : (b x : ℕ) → is_blank b ≡ true → 32 < x → nat_eq x b ≡ false
blank_is_no_mark b x blank far = grind (arith, nat_tests, blank, far)

blank_begins_none : (b x y : ℕ) (bs : List ℕ) → is_blank b ≡ true → 32 < x → begins (x ∷ y ∷ []) (b ∷ bs) ≡ false
blank_begins_none b x y bs blank far = ap (λ t. t && begins (y ∷ []) bs) (blank_is_no_mark b x blank far)

-- a mark of two bytes excludes one that begins with another byte
other_mark : (x y z w : ℕ) (bs : List ℕ) → nat_eq z x ≡ false → begins (x ∷ y ∷ []) bs ≡ true → begins (z ∷ w ∷ []) bs ≡ false
other_mark x y z w [] n e = absurd cc
other_mark x y z w (b ∷ bs) n e = go (nat_eq x b) refl e
  where
    go : (t : Bool) → nat_eq x b ≡ t → (t && begins (y ∷ []) bs) ≡ true → (nat_eq z b && begins (w ∷ []) bs) ≡ false
    go true s f = ap (λ t. t && begins (w ∷ []) bs) (ap (nat_eq z) (sym ((Decides-eqb x b).0 s)) ∙ n)
    go false s f = absurd cc

past_blank : (bs : List ℕ) → first_in Blank bs ≡ true → outside_from (within 0) bs ≡ outside_from (within 0) (drop 1 bs)
past_blank [] e = absurd cc
past_blank (b ∷ bs) e = blank_goes_on (b ∷ bs) b (blank_begins_none b 45 45 bs e (omega arith)) (blank_begins_none b 47 42 bs e (omega arith)) (omega arith) refl e

past_line : (bs : List ℕ) → begins (codes "--") bs ≡ false → first_in LineFeed bs ≡ false → first_in Any bs ≡ true → outside_from in_line bs ≡ outside_from in_line (drop 1 bs)
past_line [] e f a = absurd cc
past_line (b ∷ bs) e f a = line_goes_on (b ∷ bs) b e (omega arith) refl f

-- where a line ends without a mark, what follows is outside
line_ends : (bs : List ℕ) → begins (codes "--") bs ≡ false → (first_in LineFeed bs ≡ true) ⊎ (first_in Any bs ≡ false) → outside_from in_line bs ≡ outside_from (within 0) bs
line_ends [] e s = outside_none in_line [] (omega arith) ∙ sym (outside_none (within 0) [] (omega arith))
line_ends (b ∷ bs) e (inl f) = line_breaks (b ∷ bs) b e (omega arith) refl f ∙ sym (past_blank (b ∷ bs) (feed_is_blank b f))
  where
    feed_is_blank : (b : ℕ) → nat_eq b 10 ≡ true → is_blank b ≡ true
    feed_is_blank b f = ap is_blank ((Decides-eqb b 10).0 f)
line_ends (b ∷ bs) e (inr f) = absurd cc

-- ---- the rows

abbrev line_turn : Expression
line_turn = seq (never (literal (codes "--"))) (seq (never line_feed) any)

abbrev block_turn : Expression
block_turn = choice (rule 3) (seq (never (literal (codes "/*"))) (seq (never (literal (codes "*/"))) any))

module _ (text : List ℕ) where
  abbrev Ends : Expression → ℕ → ℕ → ℕ → Type 0
  Ends e i j h = Runs whole_rules text e i (ends j) h

  abbrev at : Place → ℕ → List ℕ
  at p i = outside_from p (drop i text)

  moved : (p : Place) (n i j : ℕ) → i + n ≡ j → outside_from p (drop n (drop i text)) ≡ at p j
  moved p n i j e = ap (outside_from p) (drop-drop n i text ∙ ap (λ k. drop k text) e)

  pub missed_as : {s : Sight} {i h : ℕ} {o : Ending} → Runs whole_rules text (see s) i o h → o ≡ fails → stands s (drop i text) ≡ false
  missed_as (sees {s} {i}) e = go (stands s (drop i text)) e
    where
      go : (b : Bool) → (if b then ends (i + width s) else fails) ≡ fails → b ≡ false
      go true f = absurd cc
      go false f = refl

  not_seen : {s : Sight} {i j h : ℕ} → Ends (never (see s)) i j h → (stands s (drop i text) ≡ false) × (i ≡ j)
  not_seen (never_ends p) = (missed_as p refl, refl)

  is_seen : {s : Sight} {i h : ℕ} → Runs whole_rules text (never (see s)) i fails h → stands s (drop i text) ≡ true
  is_seen (never_fails p) = (stood whole_rules text p).0

  -- a byte behind two that are not seen
  record Byte (s t : Sight) (i j : ℕ) : Type 0 where
    first : stands s (drop i text) ≡ false
    second : stands t (drop i text) ≡ false
    there : first_in Any (drop i text) ≡ true
    next : i + 1 ≡ j

  byte : {s t : Sight} {i j h : ℕ} → Ends (seq (never (see s)) (seq (never (see t)) any)) i j h → Byte s t i j
  byte {s} {t} {i} {j} run =
      let p = parts whole_rules text run in
      let a = not_seen p.first in
      let q = parts whole_rules text p.second in
      let b = not_seen q.first in
      let c = stood whole_rules text q.second in
      let same : q.middle ≡ i = sym b.1 ∙ sym a.1 in
      record { first = a.0; second = subst (λ k. stands t (drop k text) ≡ false) (sym a.1) b.0; there = subst (λ k. first_in Any (drop k text) ≡ true) same c.0; next = ap (λ k. k + 1) (sym same) ∙ c.1 }

  -- ---- lines

  line_stops : {i h : ℕ} → Runs whole_rules text line_turn i fails h → begins (codes "--") (drop i text) ≡ false → (first_in LineFeed (drop i text) ≡ true) ⊎ (first_in Any (drop i text) ≡ false)
  line_stops (seq_fails p) e = absurd (let no = is_seen p in cc)
  line_stops {i} (seq_ends p (seq_fails q)) e = let a = not_seen p in inl (subst (λ k. first_in LineFeed (drop k text) ≡ true) (sym a.1) (is_seen q))
  line_stops {i} (seq_ends p (seq_ends q r)) e =
      let a = not_seen p in
      let b = not_seen q in
      inr (subst (λ k. first_in Any (drop k text) ≡ false) (sym b.1 ∙ sym a.1) (missed_as r refl))

  record Line (i j : ℕ) : Type 0 where
    same : at in_line i ≡ at in_line j
    stop : begins (codes "--") (drop j text) ≡ false → (first_in LineFeed (drop j text) ≡ true) ⊎ (first_in Any (drop j text) ≡ false)

  line : {i j h : ℕ} → Ends (many line_turn) i j h → Line i j
  line {i} (many_turn {j = m} p lt q) =
      let b = byte p in
      let further = line q in
      record { same = past_line (drop i text) b.first b.second b.there ∙ moved in_line 1 i m b.next ∙ further.same; stop = further.stop }
  line {i} (many_idle p) = absurd (let b = byte p in omega (arith, b.next))
  line (many_fails p) = record { same = refl; stop = line_stops p }

  closes : {i j h : ℕ} → Ends (choice (literal (codes "--")) (literal [])) i j h → ((begins (codes "--") (drop i text) ≡ true) × (i + 2 ≡ j)) ⊎ ((begins (codes "--") (drop i text) ≡ false) × (i + 0 ≡ j))
  closes (choice_first p) = inl (stood whole_rules text p)
  closes (choice_second p q) = inr (missed_as p refl, (stood whole_rules text q).1)

  line_comment : {i j h : ℕ} → Ends (rule 5) i j h → at (within 0) i ≡ at (within 0) j
  unfolding whole_rules lexical_rules_before
  line_comment {i} {j} run =
      let c = called whole_rules text run in
      let p = parts whole_rules text c.run in
      let s = stood whole_rules text p.first in
      let q = parts whole_rules text p.second in
      let body = line ((called whole_rules text q.first).run) in
      line_opens (drop i text) s.0 ∙ moved in_line 2 i p.middle s.1 ∙ body.same ∙ go q.middle body.stop (closes q.second)
    where
      go : {j : ℕ} (m : ℕ) → (begins (codes "--") (drop m text) ≡ false → (first_in LineFeed (drop m text) ≡ true) ⊎ (first_in Any (drop m text) ≡ false)) → ((begins (codes "--") (drop m text) ≡ true) × (m + 2 ≡ j)) ⊎ ((begins (codes "--") (drop m text) ≡ false) × (m + 0 ≡ j)) → at in_line m ≡ at (within 0) j
      go {j} m stop (inl e) = line_closes (drop m text) e.0 ∙ moved (within 0) 2 m j e.1
      go {j} m stop (inr e) = let same : m ≡ j = omega (arith, e.1) in line_ends (drop m text) e.0 (stop e.0) ∙ ap (at (within 0)) same

  -- ---- blocks

  abbrev Nested : ℕ → Type 0
  Nested f = (n i j h : ℕ) → h ≤ f → Ends (rule 3) i j h → at (within (suc n)) i ≡ at (within (suc n)) j

  block : (f : ℕ) → Nested f → (n : ℕ) {i j h : ℕ} → h ≤ f → Ends (many block_turn) i j h → at (within (suc n)) i ≡ at (within (suc n)) j
  block f inner n {i} le (many_turn {j = m} {h = k} {k = l} p lt q) = turn (chosen whole_rules text p).inner_in (chosen whole_rules text p).one ∙ block f inner n (omega (arith, le)) q
    where
      turn : {g : ℕ} → g ≤ k → Ends (rule 3) i m g ⊎ Ends (seq (never (literal (codes "/*"))) (seq (never (literal (codes "*/"))) any)) i m g → at (within (suc n)) i ≡ at (within (suc n)) m
      turn {g} low (inl r) = inner n i m g (omega (arith, le, low)) r
      turn low (inr r) = let b = byte r in block_goes_on n (drop i text) b.first b.second ∙ moved (within (suc n)) 1 i m b.next
  block f inner n le (many_idle p) = refl
  block f inner n le (many_fails p) = refl

  record Comment (f i j : ℕ) : Type 0 where
    start : ℕ
    stop : ℕ
    height : ℕ
    opens : (begins (codes "/*") (drop i text) ≡ true) × (i + 2 ≡ start)
    body : Ends (many block_turn) start stop height
    low : height < f
    closes_here : (begins (codes "*/") (drop stop text) ≡ true) × (stop + 2 ≡ j)

  comment : {i j h : ℕ} → Ends (rule 3) i j h → Comment h i j
  unfolding whole_rules lexical_rules_before
  comment run =
      let c = called whole_rules text run in
      let p = parts whole_rules text c.run in
      let q = parts whole_rules text p.second in
      let b = called whole_rules text q.first in
      record { start = p.middle; stop = q.middle; height = b.inner; opens = stood whole_rules text p.first; body = b.run; low = omega (arith, c.higher, p.second_in, q.first_in, b.higher); closes_here = stood whole_rules text q.second }

  behind_block : (f : ℕ) → Nested f → (n : ℕ) {i j h : ℕ} → h ≤ suc f → (c : Comment h i j) → at (within (suc n)) c.start ≡ at (within n) j
  behind_block f inner n {i} {j} le c =
      block f inner n (omega (arith, c.low, le)) c.body
      ∙ block_closes n (drop c.stop text) (other_mark 42 47 47 42 (drop c.stop text) refl c.closes_here.0) c.closes_here.0
      ∙ moved (within n) 2 c.stop j c.closes_here.1

  nested : (f : ℕ) → Nested f
  nested zero n i j h le run = absurd (let c = comment run in omega (arith, c.low, le))
  nested (suc f) n i j h le run =
      let c = comment run in
      block_opens n (drop i text) c.opens.0 ∙ moved (within (suc (suc n))) 2 i c.start c.opens.1 ∙ behind_block f (nested f) (suc n) le c

  block_comment : {i j h : ℕ} → Ends (rule 3) i j h → at (within 0) i ≡ at (within 0) j
  block_comment {i} {j} {h} run =
      let c = comment run in
      comment_opens (drop i text) (other_mark 47 42 45 45 (drop i text) refl c.opens.0) c.opens.0 ∙ moved (within 1) 2 i c.start c.opens.1 ∙ behind_block h (nested h) 0 (omega arith) c

  -- ---- blanks and comments

  any_comment : {i j h : ℕ} → Ends (rule 2) i j h → at (within 0) i ≡ at (within 0) j
  unfolding whole_rules lexical_rules_before
  any_comment run = go (chosen whole_rules text (called whole_rules text run).run).one
    where
      go : {i j h : ℕ} → Ends (rule 3) i j h ⊎ Ends (rule 5) i j h → at (within 0) i ≡ at (within 0) j
      go (inl r) = block_comment r
      go (inr r) = line_comment r

  gap : {i j h : ℕ} → Ends (many (choice blank (rule 2))) i j h → at (within 0) i ≡ at (within 0) j
  gap {i} (many_turn {j = m} p lt q) = turn (chosen whole_rules text p).one ∙ gap q
    where
      turn : {g : ℕ} → Ends blank i m g ⊎ Ends (rule 2) i m g → at (within 0) i ≡ at (within 0) m
      turn (inl r) = let s = stood whole_rules text r in past_blank (drop i text) s.0 ∙ moved (within 0) 1 i m s.1
      turn (inr r) = any_comment r
  gap (many_idle p) = refl
  gap (many_fails p) = refl

  pub blanks : {i j h : ℕ} → Ends (rule 1) i j h → at (within 0) i ≡ at (within 0) j
  unfolding whole_rules lexical_rules_before
  blanks run = gap (called whole_rules text run).run

  -- blanks with a comment behind them
  blank_turns : {i j h : ℕ} → Ends (many blank) i j h → at (within 0) i ≡ at (within 0) j
  blank_turns {i} (many_turn {j = m} p lt q) = let s = stood whole_rules text p in past_blank (drop i text) s.0 ∙ moved (within 0) 1 i m s.1 ∙ blank_turns q
  blank_turns (many_idle p) = refl
  blank_turns (many_fails p) = refl

  pub item_comment : {i j h : ℕ} → Ends (seq (many blank) (rule 2)) i j h → at (within 0) i ≡ at (within 0) j
  item_comment run = let p = parts whole_rules text run in blank_turns p.first ∙ any_comment p.second
