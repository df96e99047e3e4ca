-- The tries within the rules that the readers ask for.
use Rattle.std.proofs.Common.{Result, Ok, Err, IfErr, ◌∙◌, ◌≡◌, ℕ, ◌<◌, ◌≤◌, List, ◌∷◌, ◌++◌, Bool, true, false, length, get_or, drop, refl, sym, ap, subst, arith, inl, inr}
use Rattle.std.proofs.lemmas.Bool.Decides.{Decides-eqb}
use Rattle.std.proofs.lemmas.Slice.Eq.{starts_is}
use Rattle.std.proofs.lemmas.Str.{IsCharBoundary-after_ascii}
use Rattle.std.specs.Prelude.{nat_eq, codes, ◌||◌, if◌then◌else◌, ◌-◌, take, slice_range}
use Rattle.std.specs.List.{starts_with}
use Rattle.std.specs.Str.{IsUtf8, IsCharBoundary}
use Rattle.asn_rules.specs.Expression.{Expression, see, marked, seq, choice, many, never, guarded, rule, skip, rule_of, bytes}
use Rattle.asn_rules.specs.Runs.{ends, fails, Runs, ExactlyOne}
use Rattle.asn_rules.specs.Whole.{whole_rules}
use Rattle.asn_rules.specs.LexicalRules.{lexical_rules_before}
use Rattle.asn_rules.proofs.Theory.{runs_lies}
use Rattle.asn_text.specs.Reads.{EndsAt, body_rule, FailsIn, IsFaultOf, IsGapFault}
use Rattle.asn_text.specs.inner.Parts.{HasPart, skips_gap, is_comment, passes}
use Rattle.asn_text.specs.Input.{part_of}
use Rattle.asn_text.specs.Part.{shown}
use Rattle.asn_text.specs.declared.input.Input.{Input}
use Rattle.asn_text.specs.declared.fault.ParseFault.{ParseFault}
use Rattle.asn_text.specs.declared.fault.ParseFault.TheVariants.{Fail, TooDeep, OutOfMemory}
use Rattle.asn_text.proofs.Tries.{many_stands, parts, called, skipped, guard_kept, stood, chosen}

module _ (text : List ℕ) where
  -- a part within a greater depth
  pub deeper : {number offset depth more end : ℕ} → HasPart text number offset depth end → depth ≤ more → HasPart text number offset more end
  deeper part le = record { place = part.place; height = part.height; run = part.run; in_depth = omega (arith, part.in_depth); from = part.from; before = part.before }

  -- the first part of a sequence that is a call of a rule
  first_part : (n : ℕ) {b : Expression} {i j h : ℕ} → i ≤ length text → Runs whole_rules text (seq (rule n) b) i (ends j) h → HasPart text n i h j
  first_part n within run =
      let p = parts whole_rules text run in
      let l = runs_lies whole_rules text p.first within in
      record { place = p.middle; height = p.first_height; run = p.first; in_depth = p.first_in; from = l.0; before = (runs_lies whole_rules text p.second l.1).0 }

  skipped_part : (n : ℕ) {b : Expression} {i j h : ℕ} → i ≤ length text → Runs whole_rules text (seq (skip n) b) i (ends j) h → HasPart text n i h j
  skipped_part n within run =
      let p = parts whole_rules text run in
      let l = runs_lies whole_rules text p.first within in
      record { place = p.middle; height = p.first_height; run = skipped whole_rules text p.first; in_depth = p.first_in; from = l.0; before = (runs_lies whole_rules text p.second l.1).0 }

  is_gap : {i j h : ℕ} (n : ℕ) → nat_eq n 1 ≡ true → HasPart text n i h j → HasPart text 1 i h j
  is_gap {i} {j} {h} n e part = subst (λ m. HasPart text m i h j) ((Decides-eqb n 1).0 e) part

  gap_part : (e : Expression) → skips_gap e ≡ true → {j h : ℕ} → Runs whole_rules text e 0 (ends j) h → HasPart text 1 0 h j
  gap_part (seq (rule n) b) is run = is_gap n is (first_part n (omega arith) run)
  gap_part (seq (skip n) b) is run = is_gap n is (skipped_part n (omega arith) run)
  gap_part (guarded (seq (rule n) b) g) is run = is_gap n is (first_part n (omega arith) (guard_kept whole_rules text run).run)
  gap_part e is run = cc

  -- the blanks and comments with which a rule begins
  pub item_part : (number depth end : ℕ) → skips_gap (rule_of whole_rules number) ≡ true → EndsAt text number depth end → HasPart text 1 0 depth end
  item_part number depth end skips at_end =
      let call = called whole_rules text at_end.1.0 in
      deeper (gap_part (rule_of whole_rules number) skips call.run) (omega (arith, call.higher, at_end.1.1))

  -- what stands behind a mark of two bytes
  marked_part : (x : List ℕ) (n : ℕ) {b : Expression} {j h : ℕ} → length x ≡ 2 → Runs whole_rules text (seq (see (bytes x)) (seq (rule n) b)) 0 (ends j) h → HasPart text n 2 h j × (starts_with nat_eq text x ≡ true)
  marked_part x n {b} {j} {h} two run =
      let p = parts whole_rules text run in
      let s = stood whole_rules text p.first in
      let l = runs_lies whole_rules text p.first (omega arith) in
      let at : p.middle ≡ 2 = omega (arith, s.1) in
      let part = deeper (first_part n l.1 p.second) p.second_in in
      (subst (λ m. HasPart text n m h j) at part, s.0)

  -- a text that begins with these bytes
  begun : (x : List ℕ) → starts_with nat_eq text x ≡ true → text ≡ x ++ drop (length x) text
  begun x e = (starts_is Decides-eqb text x (starts_with nat_eq text x) refl).0 e

  is_block : starts_with nat_eq text (codes "/*") ≡ true → body_rule text ≡ 4
  is_block e = ap (λ b. if b then 4 else 6) e

  is_line : starts_with nat_eq text (codes "--") ≡ true → body_rule text ≡ 6
  is_line e = ap (λ t. body_rule t) (begun (codes "--") e)

  pub record Body (depth end : ℕ) : Type 0 where
    pub part : HasPart text (body_rule text) 2 depth end
    pub second : (1 < length text) × (get_or text 1 0 < 128)

  second_of : (b c : ℕ) (rest : List ℕ) → c < 128 → text ≡ b ∷ c ∷ rest → (1 < length text) × (get_or text 1 0 < 128)
  second_of b c rest small e =
      let P : List ℕ → Type 0 = λ t. (1 < length t) × (get_or t 1 0 < 128) in
      subst P (sym e) (omega arith, small)

  block_body : {j h : ℕ} → Runs whole_rules text (rule_of whole_rules 3) 0 (ends j) h → Body h j
  unfolding whole_rules lexical_rules_before
  block_body {j} {h} run =
      let m = marked_part (codes "/*") 4 refl run in
      record {
        part = subst (λ n. HasPart text n 2 h j) (sym (is_block m.1)) m.0;
        second = second_of 47 42 (drop 2 text) (omega arith) (begun (codes "/*") m.1);
      }

  line_body : {j h : ℕ} → Runs whole_rules text (rule_of whole_rules 5) 0 (ends j) h → Body h j
  unfolding whole_rules lexical_rules_before
  line_body {j} {h} run =
      let m = marked_part (codes "--") 6 refl run in
      record {
        part = subst (λ n. HasPart text n 2 h j) (sym (is_line m.1)) m.0;
        second = second_of 45 45 (drop 2 text) (omega arith) (begun (codes "--") m.1);
      }

  further : {depth more end : ℕ} → Body depth end → depth ≤ more → Body more end
  further body le = record { part = deeper body.part le; second = body.second }

  block_call : {j h : ℕ} → Runs whole_rules text (rule 3) 0 (ends j) h → Body h j
  block_call run = let call = called whole_rules text run in further (block_body call.run) (omega (arith, call.higher))

  line_call : {j h : ℕ} → Runs whole_rules text (rule 5) 0 (ends j) h → Body h j
  line_call run = let call = called whole_rules text run in further (line_body call.run) (omega (arith, call.higher))

  either_body : {j h : ℕ} → Runs whole_rules text (rule_of whole_rules 2) 0 (ends j) h → Body h j
  unfolding whole_rules lexical_rules_before
  either_body run =
      let c = chosen whole_rules text run in
      elim c.one [ inl p ↦ further (block_call p) c.inner_in | inr q ↦ further (line_call q) c.inner_in ]

  either_call : {j h : ℕ} → Runs whole_rules text (rule 2) 0 (ends j) h → Body h j
  either_call run = let call = called whole_rules text run in further (either_body call.run) (omega (arith, call.higher))

  of_comment : (number : ℕ) (b c d : Bool) → nat_eq number 2 ≡ b → nat_eq number 3 ≡ c → nat_eq number 5 ≡ d → (b || c || d) ≡ true → {j h : ℕ} → Runs whole_rules text (rule number) 0 (ends j) h → Body h j
  of_comment number true c d e f g is {j} {h} run = either_call (subst (λ n. Runs whole_rules text (rule n) 0 (ends j) h) ((Decides-eqb number 2).0 e) run)
  of_comment number false true d e f g is {j} {h} run = block_call (subst (λ n. Runs whole_rules text (rule n) 0 (ends j) h) ((Decides-eqb number 3).0 f) run)
  of_comment number false false true e f g is {j} {h} run = line_call (subst (λ n. Runs whole_rules text (rule n) 0 (ends j) h) ((Decides-eqb number 5).0 g) run)
  of_comment number false false false e f g is run = cc

  -- what stands between the marks of a comment
  pub comment_body : (number depth end : ℕ) → is_comment number ≡ true → EndsAt text number depth end → Body depth end
  comment_body number depth end is at_end =
      further (of_comment number (nat_eq number 2) (nat_eq number 3) (nat_eq number 5) refl refl refl is at_end.1.0) at_end.1.1

  pub behind_mark : {depth end : ℕ} → Body depth end → IsUtf8 text → IsCharBoundary text 2
  behind_mark body utf8 = IsCharBoundary-after_ascii text 1 utf8 body.second.0 body.second.1

  -- a part's ending is the only one
  module _ {number offset depth end : ℕ} (one : ExactlyOne whole_rules text (rule number) offset) (part : HasPart text number offset depth end) where
    pub same_end : {j h : ℕ} → Runs whole_rules text (rule number) offset (ends j) h → (offset ≤ j) × (j ≤ end)
    same_end {j} {h} run =
        let same : part.place ≡ j = let e = (one.only (ends part.place) (ends j) part.height h part.run run).0 in cc in
        (omega (arith, part.from, same), omega (arith, part.before, same))

    pub no_failure : {h : ℕ} → Runs whole_rules text (rule number) offset fails h → ⊥
    no_failure {h} run = let e = (one.only (ends part.place) fails part.height h part.run run).0 in cc

  passed : (e : Expression) {j h : ℕ} → Runs whole_rules text e 0 (ends j) h → passes e (slice_range text 0 j) ≡ true
  passed (see s) run = refl
  passed (marked m s) run = refl
  passed (seq a b) run = refl
  passed (choice a b) run = refl
  passed (many a) run = refl
  passed (never a) run = refl
  passed (guarded a g) run = (guard_kept whole_rules text run).allowed
  passed (rule n) run = refl
  passed (skip n) run = refl

  all_before : (j : ℕ) → slice_range text 0 j ≡ take j text
  all_before j = let same : j - 0 ≡ j = omega arith in ap (λ n. take n text) same

  -- what a rule takes passes its guard
  pub passed_guard : (number depth end : ℕ) → EndsAt text number depth end → passes (rule_of whole_rules number) (take end text) ≡ true
  passed_guard number depth end at_end =
      let run = (called whole_rules text at_end.1.0).run in
      ap (passes (rule_of whole_rules number)) (sym (all_before end)) ∙ passed (rule_of whole_rules number) run

  -- blanks and comments never fail
  gap_stands : {h : ℕ} → Runs whole_rules text (rule_of whole_rules 1) 0 fails h → ⊥
  unfolding whole_rules lexical_rules_before
  gap_stands run = many_stands whole_rules text run

  pub no_gap_failure : {depth : ℕ} → FailsIn text 1 depth → ⊥
  no_gap_failure failing = gap_stands (called whole_rules text failing.1.0).run

-- so the one fault of passing them is that they nest too deep
pub gap_fault : (name : List ℕ) (input : Input) (depth : ℕ) (result : Result ℕ ParseFault) → IfErr result (IsFaultOf 1 name input depth) → IfErr result (IsGapFault input depth)
gap_fault name input depth (Ok place) is = is
gap_fault name input depth (Err (Fail tree)) is = no_gap_failure (shown (part_of input)) is.0
gap_fault name input depth (Err TooDeep) is = is
gap_fault name input depth (Err OutOfMemory) is = is
