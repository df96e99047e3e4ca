-- A text that a grammar fails on has a due place, whatever the rows of its table, if they are made of modules.
use Rattle.std.proofs.Common.{◌≡◌, ℕ, zero, suc, ◌+◌, ◌<◌, ◌≤◌, max, List, [], ◌∷◌, ◌++◌, map, length, append-nil, true, refl, sym, subst, arith, ◌⊎◌, inl, inr}
use Rattle.std.specs.Prelude.{◌&&◌}
use Rattle.std.proofs.lemmas.Bool.Decides.{Decides-eqb}
use Rattle.asn_rules.specs.Expression.{Expression, see, marked, seq, choice, many, never, guarded, rule, skip, Sight, bytes, word, one_of, rule_of}
use Rattle.asn_rules.specs.Forms.{literal, any, some, sp}
use Rattle.asn_rules.specs.Runs.{Ending, ends, fails, Runs, seen, judged, sees, sees_mark, seq_ends, seq_fails, choice_first, choice_second, many_turn, many_idle, many_fails, never_ends, never_fails, guard_judges, guard_fails, calls, skips}
use Rattle.asn_rules.specs.Valid.{Fails}
use Rattle.asn_rules.specs.Due.{Piece, optional, required, Comes, Stop, all_stand, lacks, Through, at_end, passing, missing, standing, IsDue, due_here, due_later}
use Rattle.asn_rules.specs.declared.due.ModulePart.{ModulePart}
use Rattle.asn_rules.specs.declared.names.TheConstants.{ASN_MODULE, MODULE_REFERENCE, SP}
use Rattle.asn_rules.proofs.Theory.{runs_lies}
use Rattle.asn_rules.proofs.Total.{moves, takes_byte}
use Rattle.asn_rules_guards.proofs.Booleans.{and_both, or_either}
use Rattle.asn_rules.proofs.Walks.{forward}
use Rattle.asn_rules.proofs.Shape.{IsOfModules, is_nothing, ends_by, row_ends, is_blanks, begins_by, row_begins, expression_of, in_sequence, is_fit, are_fit, begins_with_part}

module _ (rules : List Expression) (header body : List Piece) (shape : IsOfModules rules header body) (text : List ℕ) where
  abbrev R : Expression → ℕ → Ending → ℕ → Type 0
  R e i o h = Runs rules text e i o h

  -- ---- what a run of each form is made of

  of_seq : {a b : Expression} {i h : ℕ} {o : Ending} → R (seq a b) i o h → ((o ≡ fails) × R a i fails h) ⊎ ((j : ℕ) × (m : ℕ) × (n : ℕ) × R a i (ends j) m × R b j o n × (h ≡ max m n))
  of_seq (seq_ends {j = j} {h = m} {k = n} p q) = inr (j, m, n, p, q, refl)
  of_seq (seq_fails p) = inl (refl, p)

  of_call : {r i h : ℕ} {o : Ending} → R (rule r) i o h → (m : ℕ) × R (rule_of rules r) i o m × (h ≡ m + 1)
  of_call (calls {h = m} p) = (m, p, refl)

  of_skip : {r i h : ℕ} {o : Ending} → R (skip r) i o h → (m : ℕ) × R (rule_of rules r) i o m × (h ≡ m + 1)
  of_skip (skips {h = m} p) = (m, p, refl)

  of_never : {a : Expression} {i h : ℕ} → R (never a) i fails h → (j : ℕ) × R a i (ends j) h
  of_never (never_fails {j = j} p) = (j, p)

  many_ends : {a : Expression} {i h : ℕ} → R (many a) i fails h → ⊥
  many_ends (many_turn p lt q) = many_ends q

  nothing_stands : {i h : ℕ} {o : Ending} → R (literal []) i o h → o ≡ ends (i + 0)
  nothing_stands (sees) = refl

  -- ---- what never fails

  abbrev IsEnd : Ending → Type 0
  IsEnd (ends j) = Unit {0}
  IsEnd fails = ⊥

  nothing_ends : (s : Sight) (i : ℕ) → is_nothing s ≡ true → IsEnd (seen text s i)
  nothing_ends (bytes []) i e = tt
  nothing_ends (bytes (b ∷ bs)) i e = absurd cc
  nothing_ends (word w) i e = absurd cc
  nothing_ends (one_of c) i e = absurd cc

  always : (n : ℕ) {e : Expression} {i h : ℕ} {o : Ending} → R e i o h → ends_by (row_ends rules n) e ≡ true → IsEnd o
  always n (sees {s = s} {i = i}) m = nothing_ends s i m
  always n (sees_mark) m = absurd cc
  always n (seq_ends {a = a} {b = b} p q) m = always n q (and_both (ends_by (row_ends rules n) a) (ends_by (row_ends rules n) b) m).1
  always n (seq_fails {a = a} {b = b} p) m = always n p (and_both (ends_by (row_ends rules n) a) (ends_by (row_ends rules n) b) m).0
  always n (choice_first p) m = tt
  always n (choice_second p q) m = always n q m
  always n (many_turn p lt q) m = always n q m
  always n (many_idle p) m = tt
  always n (many_fails p) m = tt
  always n (never_ends p) m = tt
  always n (never_fails p) m = absurd cc
  always n (guard_judges p) m = absurd cc
  always n (guard_fails p) m = absurd cc
  always zero (calls p) m = absurd cc
  always (suc n) (calls p) m = always n p m
  always zero (skips p) m = absurd cc
  always (suc n) (skips p) m = always n p m

  ended : (o : Ending) → IsEnd o → (x : ℕ) × (o ≡ ends x)
  ended (ends x) e = (x, refl)
  ended fails e = absurd e

  -- an expression whose ends each take a byte takes one
  takes_one : {e : Expression} {i j h : ℕ} → R e i (ends j) h → i ≤ length text → takes_byte shape.takes e ≡ true → i < j
  takes_one p le m = moves rules text shape.takes shape.ranks shape.ranked p le m

  module _ (d : ℕ) where
    abbrev C : Expression → ℕ → Ending → Type 0
    C e i o = Comes rules text d e i o

    -- ---- blanks and comments, which end

    abbrev Blanks : ℕ → Type 0
    Blanks i = (x : ℕ) × C (skip SP) i (ends x)

    -- and behind them is a byte
    abbrev Followed : ℕ → Type 0
    Followed i = (x : ℕ) × C (skip SP) i (ends x) × (x < length text)

    blanks_of : {i : ℕ} → Followed i → Blanks i
    blanks_of f = (f.0, f.1)

    of_row : {i m : ℕ} {o : Ending} → R (rule_of rules SP) i o m → m + 1 ≤ d → (x : ℕ) × (o ≡ ends x) × C (skip SP) i (ends x)
    of_row {i} {m} {o} p le =
        let x = ended o (always 0 p shape.blanks_end) in
        (x.0, x.1, (m + 1, skips (subst (λ o. R (rule_of rules SP) i o m) x.1 p), le))

    of_blanks : (e : Expression) {i h : ℕ} {o : Ending} → R e i o h → h ≤ d → is_blanks e ≡ true → (x : ℕ) × (o ≡ ends x) × C (skip SP) i (ends x)
    of_blanks (rule r) {i} {h} {o} p le m = go (of_call p)
      where
        go : (k : ℕ) × R (rule_of rules r) i o k × (h ≡ k + 1) → (x : ℕ) × (o ≡ ends x) × C (skip SP) i (ends x)
        go c = of_row (subst (λ r. R (rule_of rules r) i o c.0) ((Decides-eqb r SP).0 m) c.1) (omega (arith, c.2))
    of_blanks (skip r) {i} {h} {o} p le m = go (of_skip p)
      where
        go : (k : ℕ) × R (rule_of rules r) i o k × (h ≡ k + 1) → (x : ℕ) × (o ≡ ends x) × C (skip SP) i (ends x)
        go c = of_row (subst (λ r. R (rule_of rules r) i o c.0) ((Decides-eqb r SP).0 m) c.1) (omega (arith, c.2))
    of_blanks (see s) p le m = absurd cc
    of_blanks (marked m' s) p le m = absurd cc
    of_blanks (seq a b) p le m = absurd cc
    of_blanks (choice a b) p le m = absurd cc
    of_blanks (many a) p le m = absurd cc
    of_blanks (never a) p le m = absurd cc
    of_blanks (guarded a g) p le m = absurd cc

    -- ---- what begins with blanks and comments, and takes a byte behind them

    abbrev Begins : ℕ → Ending → Type 0
    Begins i (ends j) = Followed i
    Begins i fails = Blanks i

    whatever : {i : ℕ} (o : Ending) → Followed i → Begins i o
    whatever (ends j) f = f
    whatever fails f = blanks_of f

    blanks_before : {i : ℕ} (o : Ending) → Begins i o → Blanks i
    blanks_before (ends j) f = blanks_of f
    blanks_before fails b = b

    behind_blanks : {b : Expression} {i x n : ℕ} (o : Ending) → i ≤ length text → C (skip SP) i (ends x) → x ≤ length text → R b x o n → takes_byte shape.takes b ≡ true → Begins i o
    behind_blanks {b} {i} {x} (ends l) le c within q m = (x, c, omega (arith, takes_one q within m, (runs_lies rules text q within).1))
    behind_blanks {b} {i} {x} fails le c within q m = (x, c)

    begins : (n : ℕ) {e : Expression} {i h : ℕ} {o : Ending} → R e i o h → i ≤ length text → h ≤ d → begins_by shape.takes (row_begins rules shape.takes n) e ≡ true → Begins i o
    begins n (sees) le hd m = absurd cc
    begins n (sees_mark) le hd m = absurd cc
    begins n (seq_ends {a = a} {b = b} {i = i} {j = j} {h = h} {o = o} p q) le hd m =
        elim (or_either (is_blanks a && takes_byte shape.takes b) (begins_by shape.takes (row_begins rules shape.takes n) a) m) [
          | inl both ↦
              let parts = and_both (is_blanks a) (takes_byte shape.takes b) both in
              let x = of_blanks a p (omega arith) parts.0 in
              behind_blanks {b = b} {x = j} o le (subst (λ o. C (skip SP) i o) (sym x.1) x.2) (runs_lies rules text p le).1 q parts.1
          | inr ma ↦ whatever o (begins n p le (omega arith) ma)
        ]
    begins n (seq_fails {a = a} {b = b} {i = i} p) le hd m =
        elim (or_either (is_blanks a && takes_byte shape.takes b) (begins_by shape.takes (row_begins rules shape.takes n) a) m) [
          | inl both ↦ let x = of_blanks a p hd (and_both (is_blanks a) (takes_byte shape.takes b) both).0 in (x.0, x.2)
          | inr ma ↦ begins n p le hd ma
        ]
    begins n (choice_first {a = a} {b = b} p) le hd m = begins n p le hd (and_both (begins_by shape.takes (row_begins rules shape.takes n) a) (begins_by shape.takes (row_begins rules shape.takes n) b) m).0
    begins n (choice_second {a = a} {b = b} p q) le hd m = begins n q le (omega arith) (and_both (begins_by shape.takes (row_begins rules shape.takes n) a) (begins_by shape.takes (row_begins rules shape.takes n) b) m).1
    begins n (many_turn p lt q) le hd m = absurd cc
    begins n (many_idle p) le hd m = absurd cc
    begins n (many_fails p) le hd m = absurd cc
    begins n (never_ends p) le hd m = absurd cc
    begins n (never_fails p) le hd m = absurd cc
    begins n (guard_judges {g = g} {i = i} {j = j} p) le hd m = whatever (judged text g i j) (begins n p le hd m)
    begins n (guard_fails p) le hd m = begins n p le hd m
    begins zero (calls p) le hd m = absurd cc
    begins (suc n) (calls p) le hd m = begins n p le (omega arith) m
    begins zero (skips p) le hd m = absurd cc
    begins (suc n) (skips p) le hd m = begins n p le (omega arith) m

    -- ---- a module goes through its pieces

    abbrev Fit : Piece → Type 0
    Fit p = is_fit rules shape.takes p ≡ true

    abbrev AreFit : List Piece → Type 0
    AreFit ps = are_fit rules shape.takes ps ≡ true

    fit_parts : (p : Piece) (ps : List Piece) → AreFit (p ∷ ps) → Fit p × AreFit ps
    fit_parts p ps f = and_both (is_fit rules shape.takes p) (are_fit rules shape.takes ps) f

    behind_first : (ps qs : List Piece) → AreFit (ps ++ qs) → AreFit qs
    behind_first [] qs f = f
    behind_first (p ∷ ps) qs f = behind_first ps qs (fit_parts p (ps ++ qs) f).1

    abbrev ending_of : Stop → Ending
    ending_of (all_stand j) = ends j
    ending_of (lacks p j) = fails

    abbrev Goes : List Piece → ℕ → Ending → Type 0
    Goes ps i o = (s : Stop) × Through rules text d ps i s × (ending_of s ≡ o)

    piece_stands : (p : Piece) {ps : List Piece} {i k : ℕ} {o : Ending} → C (expression_of p) i (ends k) → Goes ps k o → Goes (p ∷ ps) i o
    piece_stands (optional e) c g = (g.0, passing c g.1, g.2)
    piece_stands (required p e) c g = (g.0, standing c g.1, g.2)

    piece_lacks : (p : Piece) {ps : List Piece} {i : ℕ} {o : Ending} → Fit p → C (expression_of p) i fails → o ≡ fails → Goes (p ∷ ps) i o
    piece_lacks (optional e) f c same = absurd (always 3 c.1 f)
    piece_lacks (required p e) {i = i} f c same = (lacks p i, missing c, sym same)

    -- pieces, one behind the other, and then what follows them
    pieces_go : (ps qs : List Piece) (i h : ℕ) (o o' : Ending) → AreFit (ps ++ qs) → R (in_sequence (map expression_of ps)) i o h → h ≤ d → (o ≡ fails → o' ≡ fails) → ((k : ℕ) → o ≡ ends k → Goes qs k o') → Goes (ps ++ qs) i o'
    pieces_go [] qs i h o o' f r le lost after =
        let here : i + 0 ≡ i = omega arith in
        after i (subst (λ k. o ≡ ends k) here (nothing_stands r))
    pieces_go (p ∷ []) qs i h fails o' f r le lost after = piece_lacks p (fit_parts p qs f).0 (h, r, le) (lost refl)
    pieces_go (p ∷ []) qs i h (ends k) o' f r le lost after = piece_stands p (h, r, le) (after k refl)
    pieces_go (p ∷ q ∷ ps) qs i h o o' f r le lost after = go (λ k n r' le'. pieces_go (q ∷ ps) qs k n o o' (fit_parts p (q ∷ ps ++ qs) f).1 r' le' lost after) (of_seq r)
      where
        go : ((k n : ℕ) → R (in_sequence (map expression_of (q ∷ ps))) k o n → n ≤ d → Goes (q ∷ ps ++ qs) k o') → ((o ≡ fails) × R (expression_of p) i fails h) ⊎ ((k : ℕ) × (m : ℕ) × (n : ℕ) × R (expression_of p) i (ends k) m × R (in_sequence (map expression_of (q ∷ ps))) k o n × (h ≡ max m n)) → Goes (p ∷ q ∷ ps ++ qs) i o'
        go rest (inl x) = piece_lacks p (fit_parts p (q ∷ ps ++ qs) f).0 (h, x.1, le) (lost x.0)
        go rest (inr x) = piece_stands p (x.1, x.3, omega (arith, x.5)) (rest x.0 x.2 x.4 (omega (arith, x.5)))

    no_more : (ps : List Piece) {i : ℕ} {o : Ending} → Goes (ps ++ []) i o → Goes ps i o
    no_more ps {i} {o} g = subst (λ qs. Goes qs i o) (append-nil ps) g

    body_goes : (i h : ℕ) (o : Ending) → R (in_sequence (map expression_of body)) i o h → h ≤ d → Goes body i o
    body_goes i h o r le =
        let fit = subst AreFit (sym (append-nil body)) (behind_first header body shape.fit) in
        no_more body (pieces_go body [] i h o o fit r le (λ e. e) (λ k e. (all_stand k, at_end, sym e)))

    abbrev pieces : List Piece
    pieces = header ++ body

    header_goes : (i h : ℕ) (o o' : Ending) → R (rule MODULE_REFERENCE) i o h → h ≤ d → (o ≡ fails → o' ≡ fails) → ((k : ℕ) → o ≡ ends k → Goes body k o') → Goes pieces i o'
    header_goes i h o o' r le lost after =
        let c = of_call r in
        pieces_go header body i c.0 o o' shape.fit (subst (λ e. R e i o c.0) shape.header_row c.1) (omega (arith, c.2)) lost after

    module_goes : (i h : ℕ) (o : Ending) → R (rule ASN_MODULE) i o h → h ≤ d → Goes pieces i o
    module_goes i h o r le =
        let c = of_call r in
        go c.0 (omega (arith, c.2)) (of_seq (subst (λ e. R e i o c.0) shape.module_row c.1))
      where
        go : (m : ℕ) → m ≤ d → ((o ≡ fails) × R (rule MODULE_REFERENCE) i fails m) ⊎ ((j : ℕ) × (x : ℕ) × (y : ℕ) × R (rule MODULE_REFERENCE) i (ends j) x × R (in_sequence (map expression_of body)) j o y × (m ≡ max x y)) → Goes pieces i o
        go m le (inl x) = header_goes i m fails o x.1 le (λ e. x.0) (λ k e. absurd cc)
        go m le (inr x) =
            header_goes i x.1 (ends x.0) o x.3 (omega (arith, x.5)) (λ e. absurd cc) (λ k e. let same : x.0 ≡ k = cc in subst (λ j. Goes body j o) same (body_goes x.0 x.2 o x.4 (omega (arith, x.5))))

    -- ---- the modules of a text that fails

    abbrev Due : ℕ → Type 0
    Due i = (p : ModulePart) × (f : ℕ) × (q : ℕ) × IsDue rules text d pieces i p f q

    part_begins : {e : Expression} {i : ℕ} (p : ModulePart) (o : Ending) → Fit (required p e) → C e i o → i ≤ length text → Begins i o
    part_begins {e} p o f c le = begins 3 c.1 le c.2 (and_both (begins_by shape.takes (row_begins rules shape.takes 3) e) (takes_byte shape.takes e) f).0

    -- a module's first part is tried at its start
    first_blanks : (ps : List Piece) (i : ℕ) (s : Stop) → begins_with_part ps ≡ true → AreFit ps → i ≤ length text → Through rules text d ps i s → Blanks i
    first_blanks ps i s b f le at_end = absurd cc
    first_blanks ps i s b f le (passing c t) = absurd cc
    first_blanks ps i s b f le (missing {p = p} {e = e} {ps = qs} c) = part_begins p fails (fit_parts (required p e) qs f).0 c le
    first_blanks ps i s b f le (standing {p = p} {e = e} {ps = qs} {j = j} c t) = blanks_of (part_begins p (ends j) (fit_parts (required p e) qs f).0 c le)

    -- the first byte of a module that stands is there
    starts : (ps : List Piece) (i j : ℕ) → begins_with_part ps ≡ true → AreFit ps → i ≤ length text → Through rules text d ps i (all_stand j) → Followed i
    starts ps i j b f le at_end = absurd cc
    starts ps i j b f le (passing c t) = absurd cc
    starts ps i j b f le (standing {p = p} {e = e} {ps = qs} {j = k} c t) = part_begins p (ends k) (fit_parts (required p e) qs f).0 c le

    -- and it takes a byte
    advances : (ps : List Piece) (i j : ℕ) → begins_with_part ps ≡ true → AreFit ps → i ≤ length text → Through rules text d ps i (all_stand j) → i < j
    advances ps i j b f le at_end = absurd cc
    advances ps i j b f le (passing c t) = absurd cc
    advances ps i j b f le (standing {p = p} {e = e} {ps = qs} {j = k} c t) =
        let fit = (fit_parts (required p e) qs f).0 in
        let moved = takes_one c.1 le (and_both (begins_by shape.takes (row_begins rules shape.takes 3) e) (takes_byte shape.takes e) fit).1 in
        omega (arith, moved, forward rules text d (runs_lies rules text c.1 le).1 t)

    lacking_blanks : (ps : List Piece) (i : ℕ) (p : ModulePart) (at : ℕ) → AreFit ps → i ≤ length text → Through rules text d ps i (lacks p at) → Blanks at
    lacking_blanks ps i p at f le (passing {e = e} {ps = qs} {j = j} c t) = lacking_blanks qs j p at (fit_parts (optional e) qs f).1 (runs_lies rules text c.1 le).1 t
    lacking_blanks ps i p at f le (missing {e = e} {ps = qs} c) = part_begins p fails (fit_parts (required p e) qs f).0 c le
    lacking_blanks ps i p at f le (standing {p = q} {e = e} {ps = qs} {j = j} c t) = lacking_blanks qs j p at (fit_parts (required q e) qs f).1 (runs_lies rules text c.1 le).1 t

    -- a module that fails lacks a part
    failing_due : (i h : ℕ) → i ≤ length text → R (rule ASN_MODULE) i fails h → h ≤ d → Due i
    failing_due i h within r le = go (module_goes i h fails r le)
      where
        on : (p : ModulePart) (at : ℕ) → Through rules text d pieces i (lacks p at) → Blanks i → Blanks at → Due i
        on p at t a b = (p, a.0, b.0, due_here t a.1 b.1)

        go : Goes pieces i fails → Due i
        go (all_stand j, t, e) = absurd cc
        go (lacks p at, t, e) = on p at t (first_blanks pieces i (lacks p at) shape.first_is_part shape.fit within t) (lacking_blanks pieces i p at shape.fit within t)

    stands_whole : (i j h : ℕ) → R (rule ASN_MODULE) i (ends j) h → h ≤ d → Through rules text d pieces i (all_stand j)
    stands_whole i j h r le = go (module_goes i h (ends j) r le)
      where
        go : Goes pieces i (ends j) → Through rules text d pieces i (all_stand j)
        go (all_stand k, t, e) = let same : k ≡ j = cc in subst (λ k. Through rules text d pieces i (all_stand k)) same t
        go (lacks p at, t, e) = absurd cc

    -- what is left of the text fails: a byte stands behind blanks and comments
    follows : (i h : ℕ) → i ≤ length text → R (seq sp (never any)) i fails h → h ≤ d → Followed i
    follows i h le r hd = go (of_seq r)
      where
        on : (x m n : ℕ) → R sp i (ends x) m → m ≤ d → (j : ℕ) × R any x (ends j) n → Followed i
        on x m n b bd a =
            let at = of_blanks sp b bd refl in
            let within = (runs_lies rules text b le).1 in
            (x, subst (λ o. C (skip SP) i o) (sym at.1) at.2, omega (arith, takes_one a.1 within refl, (runs_lies rules text a.1 within).1))

        go : ((fails ≡ fails) × R sp i fails h) ⊎ ((x : ℕ) × (m : ℕ) × (n : ℕ) × R sp i (ends x) m × R (never any) x fails n × (h ≡ max m n)) → Followed i
        go (inl y) = let x = of_blanks sp y.1 hd refl in absurd cc
        go (inr y) = on y.0 y.1 y.2 y.3 (omega (arith, y.5)) (of_never y.4)

    -- behind a module that stands, one is due
    behind : {i k h : ℕ} → i ≤ length text → R (many (rule ASN_MODULE)) i (ends k) h → h ≤ d → (t : ℕ) → R (seq sp (never any)) k fails t → t ≤ d → Followed i × Due i
    behind {i} {k} le (many_turn {j = j} {h = m} p lt q) hd t r td =
        let w = stands_whole i j m p (omega arith) in
        let on = behind (runs_lies rules text p le).1 q (omega arith) t r td in
        (starts pieces i j shape.first_is_part shape.fit le w, (on.1.0, on.1.1, on.1.2, due_later w on.0.1 on.0.2 on.1.3))
    behind {i} {k} {h} le (many_idle p) hd t r td = let lt = takes_one p le shape.module_takes in absurd (omega arith)
    behind {i} {k} {h} le (many_fails p) hd t r td = (follows i t le r td, failing_due i h le p hd)

    pub fails_due : Fails rules text d → Due 0
    fails_due f =
        let c = of_call f.1 in
        go c.0 (omega (arith, c.2, f.2)) (of_seq (subst (λ e. R e 0 fails c.0) shape.text_row c.1))
      where
        several : (m : ℕ) → m ≤ d → R (some (rule ASN_MODULE)) 0 fails m → Due 0
        several m le r = on (of_seq r)
          where
            on : ((fails ≡ fails) × R (rule ASN_MODULE) 0 fails m) ⊎ ((x : ℕ) × (a : ℕ) × (b : ℕ) × R (rule ASN_MODULE) 0 (ends x) a × R (many (rule ASN_MODULE)) x fails b × (m ≡ max a b)) → Due 0
            on (inl y) = failing_due 0 m (omega arith) y.1 le
            on (inr y) = absurd (many_ends y.4)

        all : (k m n : ℕ) → m ≤ d → n ≤ d → R (some (rule ASN_MODULE)) 0 (ends k) m → R (seq sp (never any)) k fails n → Due 0
        all k m n le le' r tail = on (of_seq r)
          where
            on : ((ends k ≡ fails) × R (rule ASN_MODULE) 0 fails m) ⊎ ((x : ℕ) × (a : ℕ) × (b : ℕ) × R (rule ASN_MODULE) 0 (ends x) a × R (many (rule ASN_MODULE)) x (ends k) b × (m ≡ max a b)) → Due 0
            on (inl y) = absurd cc
            on (inr y) =
                let w = stands_whole 0 y.0 y.1 y.3 (omega (arith, y.5)) in
                let after = behind (runs_lies rules text y.3 (omega arith)).1 y.4 (omega (arith, y.5)) n tail le' in
                (after.1.0, after.1.1, after.1.2, due_later w after.0.1 after.0.2 after.1.3)

        go : (m : ℕ) → m ≤ d → ((fails ≡ fails) × R (some (rule ASN_MODULE)) 0 fails m) ⊎ ((x : ℕ) × (a : ℕ) × (b : ℕ) × R (some (rule ASN_MODULE)) 0 (ends x) a × R (seq sp (never any)) x fails b × (m ≡ max a b)) → Due 0
        go m le (inl y) = several m le y.1
        go m le (inr y) = all y.0 y.1 y.2 (omega (arith, y.5)) (omega (arith, y.5)) y.3 y.4

    -- the pieces of a module together take a byte
    pub pieces_take : (i j : ℕ) → i ≤ length text → Through rules text d pieces i (all_stand j) → i < j
    pieces_take i j le t = advances pieces i j shape.first_is_part shape.fit le t
