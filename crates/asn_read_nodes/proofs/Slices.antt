-- Bytes between two places of a text, gone over as those of the whole text are.
use Rattle.std.proofs.Common.{◌≡◌, ℕ, zero, suc, ◌+◌, ◌-◌, ◌<◌, ◌≤◌, List, [], ◌∷◌, ◌++◌, Bool, true, false, not, length, get_or, drop, take, refl, sym, ap, ◌∙◌, subst, arith, codes}
use Rattle.std.specs.Prelude.{nat_eq, ◌&&◌, ◌||◌, if◌then◌else◌, slice_range}
use Rattle.std.specs.List.{starts_with}
use Rattle.std.proofs.lemmas.Bool.Decides.{Decides-eqb}
use Rattle.std.proofs.lemmas.List.{drop-drop, drop-take, drop_more, length-drop}
use Rattle.asn_rules_guards.specs.Lexical.{first_in, in_class, is_blank}
use Rattle.asn_rules_guards.specs.declared.asked.ByteClass.{ByteClass}
use Rattle.asn_rules_guards.specs.Guards.{Place, within, in_line, half, begins, onward, is_outside}
use Rattle.asn_rules_guards.specs.Outside.{outside_from, starts_bare}
use Rattle.asn_rules_guards.proofs.Bare.{outside_stands}

-- ---- a list that is cut behind the first byte outside

outside_shorter : (p : Place) (bs : List ℕ) → length (outside_from p bs) ≤ length bs
unfolding outside_from
outside_shorter p [] = omega arith
outside_shorter p (b ∷ bs) = go (is_outside p (b ∷ bs)) (outside_shorter (onward p (b ∷ bs)) bs)
  where
    go : (t : Bool) → length (outside_from (onward p (b ∷ bs)) bs) ≤ length bs → length (if t then b ∷ bs else outside_from (onward p (b ∷ bs)) bs) ≤ suc (length bs)
    go true h = omega arith
    go false h = omega (arith, h)

onward_cut : (p : Place) (b : ℕ) (bs : List ℕ) (n : ℕ) → 0 < n → onward p (b ∷ take n bs) ≡ onward p (b ∷ bs)
onward_cut p b bs zero lt = absurd (omega arith)
onward_cut p b [] (suc n) lt = refl
onward_cut (within zero) b (c ∷ bs) (suc n) lt = refl
onward_cut (within (suc m)) b (c ∷ bs) (suc n) lt = refl
onward_cut in_line b (c ∷ bs) (suc n) lt = refl
onward_cut (half p) b (c ∷ bs) (suc n) lt = refl

outside_cut : (p : Place) (b : ℕ) (bs : List ℕ) (n : ℕ) → 0 < n → is_outside p (b ∷ take n bs) ≡ is_outside p (b ∷ bs)
outside_cut p b bs zero lt = absurd (omega arith)
outside_cut p b [] (suc n) lt = refl
outside_cut (within zero) b (c ∷ bs) (suc n) lt = refl
outside_cut (within (suc m)) b (c ∷ bs) (suc n) lt = refl
outside_cut in_line b (c ∷ bs) (suc n) lt = refl
outside_cut (half p) b (c ∷ bs) (suc n) lt = refl

-- a byte that is outside stays so where the list ends behind it
still_outside : (p : Place) (b : ℕ) (bs : List ℕ) (n : ℕ) → is_outside p (b ∷ bs) ≡ true → is_outside p (b ∷ take n bs) ≡ true
still_outside p b bs (suc n) e = outside_cut p b bs (suc n) (omega arith) ∙ e
still_outside (within zero) b bs zero e = go (nat_eq 45 b) (nat_eq 47 b) (begins (codes "-") bs) (begins (codes "*") bs) (is_blank b) e
  where
    go : (x y s t z : Bool) → not ((x && s) || ((y && t) || z)) ≡ true → not ((x && false) || ((y && false) || z)) ≡ true
    go true true true t z e = absurd cc
    go true true false true z e = absurd cc
    go true true false false z e = e
    go true false true t z e = absurd cc
    go true false false t z e = e
    go false true s true z e = absurd cc
    go false true s false z e = e
    go false false s t z e = e
still_outside (within (suc m)) b bs zero e = absurd cc
still_outside in_line b bs zero e = absurd cc
still_outside (half p) b bs zero e = absurd cc

pub cut : (p : Place) (bs : List ℕ) (k n : ℕ) → outside_from p bs ≡ drop k bs → k < n → k < length bs → outside_from p (take n bs) ≡ drop k (take n bs)
unfolding outside_from
cut p [] k n e lt low = absurd (omega arith)
cut p (b ∷ bs) k zero e lt low = absurd (omega arith)
cut p (b ∷ bs) zero (suc n) e lt low = go (is_outside p (b ∷ bs)) refl e
  where
    go : (t : Bool) → is_outside p (b ∷ bs) ≡ t → (if t then b ∷ bs else outside_from (onward p (b ∷ bs)) bs) ≡ b ∷ bs → (if is_outside p (b ∷ take n bs) then b ∷ take n bs else outside_from (onward p (b ∷ take n bs)) (take n bs)) ≡ b ∷ take n bs
    go true is e = ap (λ t. if t then b ∷ take n bs else outside_from (onward p (b ∷ take n bs)) (take n bs)) (still_outside p b bs n is)
    go false is e = absurd (let l = outside_shorter (onward p (b ∷ bs)) bs in let m = ap length e in omega (arith, l, m))
cut p (b ∷ bs) (suc k) (suc n) e lt low = go (is_outside p (b ∷ bs)) refl e (λ e. cut (onward p (b ∷ bs)) bs k n e (omega arith) (omega arith))
  where
    go : (t : Bool) → is_outside p (b ∷ bs) ≡ t → (if t then b ∷ bs else outside_from (onward p (b ∷ bs)) bs) ≡ drop k bs → (outside_from (onward p (b ∷ bs)) bs ≡ drop k bs → outside_from (onward p (b ∷ bs)) (take n bs) ≡ drop k (take n bs)) → (if is_outside p (b ∷ take n bs) then b ∷ take n bs else outside_from (onward p (b ∷ take n bs)) (take n bs)) ≡ drop k (take n bs)
    go true is e again = absurd (let l = length-drop k bs in let m = ap length e in omega (arith, l, m))
    go false is e again =
        let more : 0 < n = omega (arith, lt) in
        ap (λ t. if t then b ∷ take n bs else outside_from (onward p (b ∷ take n bs)) (take n bs)) (outside_cut p b bs n more ∙ is)
        ∙ ap (λ q. outside_from q (take n bs)) (onward_cut p b bs n more)
        ∙ again e

-- ---- bytes that stand outside whatever follows

-- no blank, and with none of these does a comment begin
abbrev pub plain : ℕ → Bool
plain b = not (nat_eq 45 b) && (not (nat_eq 47 b) && not (is_blank b))

pub plain_outside : (b : ℕ) (bs : List ℕ) → plain b ≡ true → starts_bare (b ∷ bs) ≡ true
plain_outside b bs = go (nat_eq 45 b) (nat_eq 47 b) (is_blank b)
  where
    go : (x y z : Bool) → (not x && (not y && not z)) ≡ true → not ((x && begins (codes "-") bs) || ((y && begins (codes "*") bs) || z)) ≡ true
    go true y z e = absurd cc
    go false true z e = absurd cc
    go false false true e = absurd cc
    go false false false e = refl

-- a hyphen that no other follows
pub hyphen_outside : (bs : List ℕ) → begins (codes "-") bs ≡ false → starts_bare (45 ∷ bs) ≡ true
hyphen_outside bs e = ap (λ t. not (t || false)) e

module _ (text : List ℕ) where
  pub byte_here : (k bound : ℕ) → k < bound → bound ≤ length text → slice_range text k bound ≡ get_or text k 0 ∷ slice_range text (k + 1) bound
  byte_here k bound lt fits =
      let more : bound - k ≡ suc (bound - (k + 1)) = omega (arith, lt) in
      ap (λ n. take n (drop k text)) more ∙ ap (take (suc (bound - (k + 1)))) (drop_more text k 0 (omega (arith, lt, fits)))

  pub class_here : (c : ByteClass) (k : ℕ) → k < length text → first_in c (drop k text) ≡ in_class c (get_or text k 0)
  class_here c k lt = ap (first_in c) (drop_more text k 0 lt)

  -- the bytes that stand in front
  pub word_here : (w : List ℕ) (k bound : ℕ) → starts_with nat_eq (drop k text) w ≡ true → k + length w ≤ bound → bound ≤ length text → slice_range text k bound ≡ w ++ slice_range text (k + length w) bound
  word_here [] k bound e le fits = let same : k ≡ k + 0 = omega arith in ap (λ k. slice_range text k bound) same
  word_here (x ∷ w) k bound e le fits =
      let there : (nat_eq x (get_or text k 0) && starts_with nat_eq (drop (k + 1) text) w) ≡ true = sym (ap (λ bs. starts_with nat_eq bs (x ∷ w)) (drop_more text k 0 (omega (arith, le, fits)))) ∙ e in
      go (nat_eq x (get_or text k 0)) (Decides-eqb x (get_or text k 0)).0 (λ e. word_here w (k + 1) bound e (omega (arith, le)) fits) there
    where
      go : (t : Bool) → (t ≡ true → x ≡ get_or text k 0) → (starts_with nat_eq (drop (k + 1) text) w ≡ true → slice_range text (k + 1) bound ≡ w ++ slice_range text (k + 1 + length w) bound) → (t && starts_with nat_eq (drop (k + 1) text) w) ≡ true → slice_range text k bound ≡ x ∷ w ++ slice_range text (k + suc (length w)) bound
      go true d again e =
          let same : k + 1 + length w ≡ k + suc (length w) = omega arith in
          byte_here k bound (omega (arith, le)) fits
          ∙ ap (λ b. b ∷ slice_range text (k + 1) bound) (sym (d refl))
          ∙ ap (λ bs. x ∷ bs) (again e ∙ ap (λ k. w ++ slice_range text k bound) same)
      go false d again e = absurd cc

  -- one byte that stands in front
  pub mark_here : (x k : ℕ) → starts_with nat_eq (drop k text) (x ∷ []) ≡ true → k < length text → get_or text k 0 ≡ x
  mark_here x k e lt = go (nat_eq x (get_or text k 0)) (Decides-eqb x (get_or text k 0)).0 (sym (ap (λ bs. starts_with nat_eq bs (x ∷ [])) (drop_more text k 0 lt)) ∙ e)
    where
      go : (t : Bool) → (t ≡ true → x ≡ get_or text k 0) → (t && true) ≡ true → get_or text k 0 ≡ x
      go true d e = sym (d refl)
      go false d e = absurd cc

  -- Between one place and the next where a byte stands outside there are blanks and comments alone.
  pub gap_here : (i k bound : ℕ) → i ≤ k → k < bound → bound ≤ length text → outside_from (within 0) (drop i text) ≡ drop k text → outside_from (within 0) (slice_range text i bound) ≡ slice_range text k bound
  gap_here i k bound le lt fits e =
      let there : i + (k - i) ≡ k = omega (arith, le) in
      let parts : bound - i ≡ (k - i) + (bound - k) = omega (arith, le, lt) in
      let from : drop k text ≡ drop (k - i) (drop i text) = sym (drop-drop (k - i) i text ∙ ap (λ n. drop n text) there) in
      cut (within 0) (drop i text) (k - i) (bound - i) (e ∙ from) (omega (arith, le, lt)) (omega (arith, length-drop i text, le, lt, fits))
      ∙ ap (λ n. drop (k - i) (take n (drop i text))) parts
      ∙ drop-take (k - i) (bound - k) (drop i text)
      ∙ ap (take (bound - k)) (sym from)

  -- A plain byte stands outside.
  pub plain_here : (k : ℕ) → k < length text → plain (get_or text k 0) ≡ true → outside_from (within 0) (drop k text) ≡ drop k text
  plain_here k lt e =
      outside_stands (drop k text) (subst (λ bs. starts_bare bs ≡ true) (sym (drop_more text k 0 lt)) (plain_outside (get_or text k 0) (drop (k + 1) text) e))
