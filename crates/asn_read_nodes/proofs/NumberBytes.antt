-- Names and numbers of an enumeration's items, between two places of a text.
use Rattle.std.proofs.Common.{◌≡◌, ℕ, ◌+◌, ◌-◌, ◌<◌, ◌≤◌, List, [], ◌∷◌, ◌++◌, Bool, true, false, length, get_or, drop, take, refl, sym, ap, ◌∙◌, subst, arith, codes, ◌⊎◌, inl, inr, append-nil, take-add}
use Rattle.std.specs.Prelude.{nat_eq, ◌&&◌, slice_range}
use Rattle.std.specs.List.{list_all}
use Rattle.std.proofs.lemmas.List.{drop-drop, drop_more}
use Rattle.asn_rules_guards.specs.Lexical.{first_in, in_class, is_digit, one_of}
use Rattle.asn_rules_guards.specs.declared.asked.ByteClass.{ByteClass}
use Rattle.asn_rules_guards.specs.declared.asked.ByteClass.TheVariants.{Alnum, Digit}
use Rattle.asn_rules_guards.specs.Guards.{bare, before, begins, within}
use Rattle.asn_rules_guards.specs.Outside.{outside_from, starts_bare}
use Rattle.asn_rules_guards.specs.Enumerations.{behind_name}
use Rattle.asn_rules_guards.proofs.Bare.{bare_byte, bare_none, outside_stands}
use Rattle.asn_rules.specs.Expression.{Expression, see, choice, many, rule}
use Rattle.asn_rules.specs.Forms.{◌·◌, ◌¦◌, alnum, blank, digit, literal, maybe}
use Rattle.asn_rules.specs.LexicalRules.{lexical_rules_before}
use Rattle.asn_rules.specs.Runs.{ends, fails, Runs, seq_ends, seq_fails, choice_second, many_turn, many_idle, many_fails}
use Rattle.asn_rules.specs.Whole.{whole_rules}
use Rattle.asn_rules.proofs.Theory.{runs_lies}
use Rattle.asn_text.proofs.Tries.{called, chosen, guard_kept, many_stands, parts, stood}
use Rattle.asn_read_nodes.proofs.Blanks.{blanks, missed_as}
use Rattle.asn_read_nodes.proofs.Slices.{byte_here, class_here, gap_here, hyphen_outside, mark_here, plain_here, plain_outside}
use Rattle.asn_read_nodes.proofs.ItemBytes.{Blind, before_paren, alnum_dotless, alnum_no_hyphen, alnum_plain, bare_over, digit_alnum, digits_bare, digits_word, dotless, name_byte, name_bytes, passes_word, quiet}

module _ (text : List ℕ) where
  abbrev Ends : Expression → ℕ → ℕ → ℕ → Type 0
  Ends e i j h = Runs whole_rules text e i (ends j) h

  lies : {e : Expression} {i j h : ℕ} → Ends e i j h → i ≤ length text → (i ≤ j) × (j ≤ length text)
  lies run le = runs_lies whole_rules text run le

  -- ---- names

  data Turn (k m : ℕ) : Type 0 where
    one : in_class Alnum (get_or text k 0) ≡ true → k + 1 ≡ m → Turn k m
    two : get_or text k 0 ≡ 45 → in_class Alnum (get_or text (k + 1) 0) ≡ true → k + 1 + 1 ≡ m → Turn k m

  in_class_at : (c : ByteClass) {k m h : ℕ} → Ends (see (one_of c)) k m h → m ≤ length text → (in_class c (get_or text k 0) ≡ true) × (k + 1 ≡ m)
  in_class_at c {k} run le = let s = stood whole_rules text run in (sym (class_here text c k (omega (arith, s.1, le))) ∙ s.0, s.1)

  turn : {k m h : ℕ} → Ends (alnum ¦ (literal (codes "-") · alnum)) k m h → m ≤ length text → Turn k m
  turn {k} {m} run le = go (chosen whole_rules text run).one
    where
      go : {g : ℕ} → Ends alnum k m g ⊎ Ends (literal (codes "-") · alnum) k m g → Turn k m
      go (inl r) = let c = in_class_at Alnum r le in one c.0 c.1
      go (inr r) =
          let p = parts whole_rules text r in
          let s = stood whole_rules text p.first in
          let c = in_class_at Alnum p.second le in
          let at : p.middle ≡ k + 1 = sym s.1 in
          two (mark_here text 45 k s.0 (omega (arith, s.1, c.1, le))) (subst (λ n. in_class Alnum (get_or text n 0) ≡ true) at c.0) (omega (arith, s.1, c.1))

  -- where the letters, digits and hyphens of a name end
  pub record Tail (bound k j : ℕ) : Type 0 where
    pub same : behind_name (slice_range text k bound) ≡ behind_name (slice_range text j bound)
    pub stop : first_in Alnum (drop j text) ≡ false

  turned : (bound : ℕ) {k m : ℕ} → m ≤ bound → bound ≤ length text → Turn k m → behind_name (slice_range text k bound) ≡ behind_name (slice_range text m bound)
  turned bound {k} {m} le fits (one c e) =
      ap behind_name (byte_here text k bound (omega (arith, e, le)) fits)
      ∙ name_byte (get_or text k 0) (slice_range text (k + 1) bound) c
      ∙ ap (λ n. behind_name (slice_range text n bound)) e
  turned bound {k} {m} le fits (two h c e) =
      ap behind_name (byte_here text k bound (omega (arith, e, le)) fits)
      ∙ ap (λ b. behind_name (b ∷ slice_range text (k + 1) bound)) h
      ∙ ap (λ bs. behind_name (45 ∷ bs)) (byte_here text (k + 1) bound (omega (arith, e, le)) fits)
      ∙ name_bytes (get_or text (k + 1) 0) (slice_range text (k + 1 + 1) bound) c
      ∙ ap (λ n. behind_name (slice_range text n bound)) e

  turn_passed : {A : Type 0} {f : List ℕ → A} → Blind dotless f → (bound : ℕ) {k m : ℕ} → m ≤ bound → bound ≤ length text → Turn k m → f (slice_range text k bound) ≡ f (slice_range text m bound)
  turn_passed {f = f} bl bound {k} le fits (one c e) =
      ap f (byte_here text k bound (omega (arith, e, le)) fits)
      ∙ bl.passes (get_or text k 0) (slice_range text (k + 1) bound) (plain_outside (get_or text k 0) (slice_range text (k + 1) bound) (alnum_plain (get_or text k 0) c)) (alnum_dotless (get_or text k 0) c)
      ∙ ap (λ n. f (slice_range text n bound)) e
  turn_passed {f = f} bl bound {k} le fits (two h c e) =
      let next = byte_here text (k + 1) bound (omega (arith, e, le)) fits in
      let none : begins (codes "-") (slice_range text (k + 1) bound) ≡ false = ap (begins (codes "-")) next ∙ ap (λ t. t && true) (no_hyphen (get_or text (k + 1) 0) c) in
      ap f (byte_here text k bound (omega (arith, e, le)) fits)
      ∙ ap (λ b. f (b ∷ slice_range text (k + 1) bound)) h
      ∙ bl.passes 45 (slice_range text (k + 1) bound) (hyphen_outside (slice_range text (k + 1) bound) none) refl
      ∙ ap f next
      ∙ bl.passes (get_or text (k + 1) 0) (slice_range text (k + 1 + 1) bound) (plain_outside (get_or text (k + 1) 0) (slice_range text (k + 1 + 1) bound) (alnum_plain (get_or text (k + 1) 0) c)) (alnum_dotless (get_or text (k + 1) 0) c)
      ∙ ap (λ n. f (slice_range text n bound)) e
    where
      no_hyphen : (b : ℕ) → in_class Alnum b ≡ true → nat_eq 45 b ≡ false
      no_hyphen b e = alnum_no_hyphen b e

  tail_turns : (bound : ℕ) {k j h : ℕ} → k ≤ length text → j ≤ bound → bound ≤ length text → Ends (many (alnum ¦ (literal (codes "-") · alnum))) k j h → Tail bound k j
  tail_turns bound {k} low le fits (many_turn {j = m} p lt q) =
      let reach = lies p low in
      let rest = lies q reach.1 in
      let further = tail_turns bound reach.1 le fits q in
      record { same = turned bound (omega (arith, rest.0, le)) fits (turn p reach.1) ∙ further.same; stop = further.stop }
  tail_turns bound {k} low le fits (many_idle p) = absurd (stays (turn p low))
    where
      stays : Turn k k → ⊥
      stays (one c e) = omega (arith, e)
      stays (two h c e) = omega (arith, e)
  tail_turns bound low le fits (many_fails (choice_second p q)) = record { same = refl; stop = missed_as text p refl }

  pub tail : (bound : ℕ) {k j h : ℕ} → k ≤ length text → j ≤ bound → bound ≤ length text → Ends (rule 7) k j h → Tail bound k j
  unfolding whole_rules lexical_rules_before
  tail bound low le fits run = tail_turns bound low le fits (called whole_rules text run).run

  tail_over : {A : Type 0} {f : List ℕ → A} → Blind dotless f → (bound : ℕ) {k j h : ℕ} → k ≤ length text → j ≤ bound → bound ≤ length text → Ends (many (alnum ¦ (literal (codes "-") · alnum))) k j h → f (slice_range text k bound) ≡ f (slice_range text j bound)
  tail_over bl bound {k} low le fits (many_turn {j = m} p lt q) =
      let reach = lies p low in
      let rest = lies q reach.1 in
      turn_passed bl bound (omega (arith, rest.0, le)) fits (turn p reach.1) ∙ tail_over bl bound reach.1 le fits q
  tail_over bl bound low le fits (many_idle p) = refl
  tail_over bl bound low le fits (many_fails p) = refl

  pub tail_passed : {A : Type 0} {f : List ℕ → A} → Blind dotless f → (bound : ℕ) {k j h : ℕ} → k ≤ length text → j ≤ bound → bound ≤ length text → Ends (rule 7) k j h → f (slice_range text k bound) ≡ f (slice_range text j bound)
  unfolding whole_rules lexical_rules_before
  tail_passed bl bound low le fits run = tail_over bl bound low le fits (called whole_rules text run).run

  -- ---- numbers

  pub split_here : (k s bound : ℕ) → k ≤ s → s ≤ bound → slice_range text k bound ≡ slice_range text k s ++ slice_range text s bound
  split_here k s bound le low =
      let both : bound - k ≡ (s - k) + (bound - s) = omega (arith, le, low) in
      let there : k + (s - k) ≡ s = omega (arith, le) in
      ap (λ n. take n (drop k text)) both
      ∙ take-add (s - k) (bound - s) (drop k text)
      ∙ ap (λ bs. take (s - k) (drop k text) ++ take (bound - s) bs) (drop-drop (s - k) k text ∙ ap (λ n. drop n text) there)

  digit_turns : {k s h : ℕ} → k ≤ length text → Ends (many digit) k s h → list_all is_digit (slice_range text k s) ≡ true
  digit_turns {k} {s} low (many_turn {j = m} p lt q) =
      let reach = lies p low in
      let rest = lies q reach.1 in
      let c = in_class_at Digit p reach.1 in
      ap (list_all is_digit) (byte_here text k s (omega (arith, lt, rest.0)) rest.1)
      ∙ ap (λ t. t && list_all is_digit (slice_range text (k + 1) s)) c.0
      ∙ ap (λ n. list_all is_digit (slice_range text n s)) c.1
      ∙ digit_turns reach.1 q
  digit_turns {k} low (many_idle p) = none k
    where
      none : (k : ℕ) → list_all is_digit (slice_range text k k) ≡ true
      none k = let z : k - k ≡ 0 = omega arith in ap (λ n. list_all is_digit (take n (drop k text))) z
  digit_turns {k} low (many_fails p) = let z : k - k ≡ 0 = omega arith in ap (λ n. list_all is_digit (take n (drop k text))) z

  pub record Digits (k s : ℕ) : Type 0 where
    pub some_there : k < s
    pub are_digits : list_all is_digit (slice_range text k s) ≡ true

  digits : {k s h : ℕ} → k ≤ length text → Ends (rule 14) k s h → Digits k s
  unfolding whole_rules lexical_rules_before
  digits {k} {s} low run =
      let p = parts whole_rules text (called whole_rules text run).run in
      let reach = lies p.first low in
      let rest = lies p.second reach.1 in
      let c = in_class_at Digit p.first reach.1 in
      record {
        some_there = omega (arith, c.1, rest.0);
        are_digits = ap (list_all is_digit) (byte_here text k s (omega (arith, c.1, rest.0)) rest.1) ∙ ap (λ t. t && list_all is_digit (slice_range text (k + 1) s)) c.0 ∙ ap (λ n. list_all is_digit (slice_range text n s)) c.1 ∙ digit_turns reach.1 p.second;
      }

  -- Where blanks and comments end no line comment begins.
  takes_some : {i h : ℕ} → Ends (rule 2) i i h → i ≤ length text → ⊥
  unfolding whole_rules lexical_rules_before
  takes_some {i} run le = go (chosen whole_rules text (called whole_rules text run).run).one
    where
      go : {g : ℕ} → Ends (rule 3) i i g ⊎ Ends (rule 5) i i g → ⊥
      go (inl r) =
          let p = parts whole_rules text (called whole_rules text r).run in
          let s = stood whole_rules text p.first in
          let l = lies p.second (lies p.first le).1 in
          omega (arith, s.1, l.0)
      go (inr r) =
          let p = parts whole_rules text (called whole_rules text r).run in
          let s = stood whole_rules text p.first in
          let l = lies p.second (lies p.first le).1 in
          omega (arith, s.1, l.0)

  no_line : {i h : ℕ} → Runs whole_rules text (rule 2) i fails h → begins (codes "--") (drop i text) ≡ false
  unfolding whole_rules lexical_rules_before
  no_line {i} run = go (called whole_rules text run).run
    where
      line : {g : ℕ} → Runs whole_rules text (literal (codes "--") · rule 6 · maybe (literal (codes "--"))) i fails g → begins (codes "--") (drop i text) ≡ false
      line (seq_fails p) = missed_as text p refl
      line (seq_ends p (seq_fails q)) = absurd (many_stands whole_rules text (called whole_rules text q).run)
      line (seq_ends p (seq_ends q (choice_second r s))) = absurd (let e = missed_as text s refl in cc)

      go : {g : ℕ} → Runs whole_rules text (choice (rule 3) (rule 5)) i fails g → begins (codes "--") (drop i text) ≡ false
      go (choice_second p q) = line (called whole_rules text q).run

  gap_turns : {i j h : ℕ} → i ≤ length text → Ends (many (blank ¦ rule 2)) i j h → begins (codes "--") (drop j text) ≡ false
  gap_turns low (many_turn p lt q) = gap_turns (lies p low).1 q
  gap_turns {i} low (many_idle p) = absurd (go (chosen whole_rules text p).one)
    where
      go : {g : ℕ} → Ends blank i i g ⊎ Ends (rule 2) i i g → ⊥
      go (inl r) = let s = stood whole_rules text r in omega (arith, s.1)
      go (inr r) = takes_some r low
  gap_turns low (many_fails (choice_second p q)) = no_line q

  pub gap_ends : {i j h : ℕ} → i ≤ length text → Ends (rule 1) i j h → begins (codes "--") (drop j text) ≡ false
  unfolding whole_rules lexical_rules_before
  gap_ends low run = gap_turns low (called whole_rules text run).run

  -- ---- a number with its sign

  pub data Number (i s : ℕ) : Type 0 where
    plus : (r : ℕ) → i ≤ r → outside_from (within 0) (drop i text) ≡ outside_from (within 0) (drop r text) → Digits r s → Number i s
    minus : (p r : ℕ) → i ≤ p → outside_from (within 0) (drop i text) ≡ outside_from (within 0) (drop p text) → get_or text p 0 ≡ 45 → begins (codes "--") (drop p text) ≡ false → p + 1 ≤ r → outside_from (within 0) (drop (p + 1) text) ≡ outside_from (within 0) (drop r text) → Digits r s → Number i s

  pub number_run : {i s h : ℕ} → i ≤ length text → Ends (rule 17) i s h → Number i s
  unfolding whole_rules lexical_rules_before
  number_run {i} {s} low run =
      let p = parts whole_rules text (guard_kept whole_rules text (called whole_rules text run).run).run in
      let q = parts whole_rules text p.second in
      let r = parts whole_rules text q.second in
      let first = lies p.first low in
      let second = lies q.first first.1 in
      let third = lies r.first second.1 in
      let last = digits third.1 r.second in
      go p.middle q.middle r.middle first.0 first.1 second.1 third.0 (blanks text p.first) (gap_ends low p.first) (blanks text r.first) last (chosen whole_rules text q.first).one
    where
      go : (a b c : ℕ) {g : ℕ} → i ≤ a → a ≤ length text → b ≤ length text → b ≤ c → outside_from (within 0) (drop i text) ≡ outside_from (within 0) (drop a text) → begins (codes "--") (drop a text) ≡ false → outside_from (within 0) (drop b text) ≡ outside_from (within 0) (drop c text) → Digits c s → Ends (literal (codes "-")) a b g ⊎ Ends (literal []) a b g → Number i s
      go a b c from fits inside further same no_mark rest d (inl r) =
          let t = stood whole_rules text r in
          minus a c from same (mark_here text 45 a t.0 (omega (arith, t.1, inside))) no_mark (omega (arith, t.1, further)) (ap (λ n. outside_from (within 0) (drop n text)) t.1 ∙ rest) d
      go a b c from fits inside further same no_mark rest d (inr r) =
          let t = stood whole_rules text r in
          let is : a ≡ b = omega (arith, t.1) in
          plus c (omega (arith, from, is, further)) (same ∙ ap (λ n. outside_from (within 0) (drop n text)) is ∙ rest) d

  -- the bytes of it outside blanks and comments
  pub spelling : {i s : ℕ} → Number i s → List ℕ
  spelling {s = s} (plus r from same d) = slice_range text r s
  spelling {s = s} (minus p r from same h m next rest d) = 45 ∷ slice_range text r s

  first_digit : {r s : ℕ} → s ≤ length text → Digits r s → is_digit (get_or text r 0) ≡ true
  first_digit {r} {s} fits d = go (is_digit (get_or text r 0)) (sym (ap (list_all is_digit) (byte_here text r s d.some_there fits)) ∙ d.are_digits)
    where
      go : (t : Bool) → (t && list_all is_digit (slice_range text (r + 1) s)) ≡ true → t ≡ true
      go true e = refl
      go false e = absurd cc

  to_digits : (i r s bound : ℕ) → i ≤ r → outside_from (within 0) (drop i text) ≡ outside_from (within 0) (drop r text) → Digits r s → s ≤ bound → bound ≤ length text → outside_from (within 0) (slice_range text i bound) ≡ slice_range text r s ++ slice_range text s bound
  to_digits i r s bound from same d le fits =
      let digit = first_digit (omega (arith, le, fits)) d in
      gap_here text i r bound from (omega (arith, d.some_there, le)) fits (same ∙ plain_here text r (omega (arith, d.some_there, le, fits)) (alnum_plain (get_or text r 0) (digit_alnum (get_or text r 0) digit)))
      ∙ split_here r s bound (omega (arith, d.some_there)) le

  -- a sign stands outside
  no_second : (p : ℕ) → p < length text → get_or text p 0 ≡ 45 → begins (codes "--") (drop p text) ≡ false → begins (codes "-") (drop (p + 1) text) ≡ false
  no_second p lt h m = sym (ap (begins (codes "--")) (drop_more text p 0 lt) ∙ ap (λ b. nat_eq 45 b && begins (codes "-") (drop (p + 1) text)) h) ∙ m

  to_sign : (i p bound : ℕ) → i ≤ p → outside_from (within 0) (drop i text) ≡ outside_from (within 0) (drop p text) → get_or text p 0 ≡ 45 → begins (codes "--") (drop p text) ≡ false → p < bound → bound ≤ length text → outside_from (within 0) (slice_range text i bound) ≡ 45 ∷ slice_range text (p + 1) bound
  to_sign i p bound from same h m lt fits =
      let stands_so : drop p text ≡ 45 ∷ drop (p + 1) text = drop_more text p 0 (omega (arith, lt, fits)) ∙ ap (λ b. b ∷ drop (p + 1) text) h in
      let bare_there : starts_bare (drop p text) ≡ true = subst (λ bs. starts_bare bs ≡ true) (sym stands_so) (hyphen_outside (drop (p + 1) text) (no_second p (omega (arith, lt, fits)) h m)) in
      gap_here text i p bound from lt fits (same ∙ outside_stands (drop p text) bare_there)
      ∙ byte_here text p bound lt fits
      ∙ ap (λ b. b ∷ slice_range text (p + 1) bound) h

  sign_outside : (p bound : ℕ) → get_or text p 0 ≡ 45 → begins (codes "--") (drop p text) ≡ false → p + 1 < bound → bound ≤ length text → starts_bare (45 ∷ slice_range text (p + 1) bound) ≡ true
  sign_outside p bound h m lt fits =
      let in_text : begins (codes "-") (drop (p + 1) text) ≡ (nat_eq 45 (get_or text (p + 1) 0) && true) = ap (begins (codes "-")) (drop_more text (p + 1) 0 (omega (arith, lt, fits))) in
      hyphen_outside (slice_range text (p + 1) bound) (ap (begins (codes "-")) (byte_here text (p + 1) bound lt fits) ∙ sym in_text ∙ no_second p (omega (arith, lt, fits)) h m)

  pub number_bare : {i s : ℕ} (n : Number i s) (bound : ℕ) → s ≤ bound → bound ≤ length text → bare (slice_range text i bound) ≡ spelling n ++ bare (slice_range text s bound)
  unfolding spelling
  number_bare {i} {s} (plus r from same d) bound le fits =
      bare_over (slice_range text i bound)
      ∙ ap bare (to_digits i r s bound from same d le fits)
      ∙ digits_bare (slice_range text r s) (slice_range text s bound) d.are_digits
  number_bare {i} {s} (minus p r from same h m next rest d) bound le fits =
      bare_over (slice_range text i bound)
      ∙ ap bare (to_sign i p bound from same h m (omega (arith, next, d.some_there, le)) fits)
      ∙ bare_byte (45 ∷ slice_range text (p + 1) bound) 45 (sign_outside p bound h m (omega (arith, next, d.some_there, le)) fits) (omega arith) refl
      ∙ ap (λ bs. 45 ∷ bs) (bare_over (slice_range text (p + 1) bound) ∙ ap bare (to_digits (p + 1) r s bound next rest d le fits) ∙ digits_bare (slice_range text r s) (slice_range text s bound) d.are_digits)

  pub number_passed : {A : Type 0} {f : List ℕ → A} → Blind quiet f → {i s : ℕ} → Number i s → (bound : ℕ) → s ≤ bound → bound ≤ length text → f (slice_range text i bound) ≡ f (slice_range text s bound)
  number_passed {f = f} bl {i} {s} (plus r from same d) bound le fits =
      bl.over (slice_range text i bound)
      ∙ ap f (to_digits i r s bound from same d le fits)
      ∙ passes_word quiet bl (slice_range text r s) (slice_range text s bound) (digits_word (slice_range text r s) d.are_digits)
  number_passed {f = f} bl {i} {s} (minus p r from same h m next rest d) bound le fits =
      bl.over (slice_range text i bound)
      ∙ ap f (to_sign i p bound from same h m (omega (arith, next, d.some_there, le)) fits)
      ∙ bl.passes 45 (slice_range text (p + 1) bound) (sign_outside p bound h m (omega (arith, next, d.some_there, le)) fits) refl
      ∙ bl.over (slice_range text (p + 1) bound)
      ∙ ap f (to_digits (p + 1) r s bound next rest d le fits)
      ∙ passes_word quiet bl (slice_range text r s) (slice_range text s bound) (digits_word (slice_range text r s) d.are_digits)

  before_close : {i s : ℕ} (n : Number i s) (rest : List ℕ) → before 41 (spelling n ++ 41 ∷ rest) ≡ spelling n
  unfolding spelling
  before_close {s = s} (plus r from same d) rest = before_paren (slice_range text r s) rest d.are_digits
  before_close {s = s} (minus p r from same h m next more d) rest = ap (λ bs. 45 ∷ bs) (before_paren (slice_range text r s) rest d.are_digits)

  none_between : (s : ℕ) → bare (slice_range text s s) ≡ []
  none_between s = let z : s - s ≡ 0 = omega arith in ap (λ n. bare (take n (drop s text))) z ∙ bare_none (within 0) [] (omega arith)

  -- The number before a ')' is that of the bytes that its rule took.
  pub number_read : {i s : ℕ} → Number i s → (bound : ℕ) (rest : List ℕ) → s ≤ bound → bound ≤ length text → bare (slice_range text s bound) ≡ 41 ∷ rest → before 41 (bare (slice_range text i bound)) ≡ bare (slice_range text i s)
  number_read {i} {s} n bound rest le fits close =
      ap (before 41) (number_bare n bound le fits ∙ ap (λ bs. spelling n ++ bs) close)
      ∙ before_close n rest
      ∙ sym (number_bare n s (omega arith) (omega (arith, le, fits)) ∙ ap (λ bs. spelling n ++ bs) (none_between s) ∙ append-nil (spelling n))
