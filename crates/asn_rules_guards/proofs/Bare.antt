-- Bytes outside blanks and comments, as the code finds them.
use Rattle.std.proofs.Common.{◌≡◌, ℕ, zero, suc, ◌<◌, List, length, get_or, arith, [], ◌∷◌, Bool, true, false, not, cond, drop, refl, sym, ap, ◌∙◌, codes}
use Rattle.std.specs.Prelude.{nat_eq, ◌&&◌, ◌||◌, if◌then◌else◌}
use Rattle.asn_rules_guards.specs.Lexical.{in_class, first_in, is_blank}
use Rattle.asn_rules_guards.specs.declared.asked.ByteClass.TheVariants.{Blank, LineFeed}
use Rattle.asn_rules_guards.specs.declared.asked.ByteClass.{ByteClass}
use Rattle.asn_rules_guards.specs.Guards.{Place, within, in_line, half, begins, onward, is_outside, bare_from}
use Rattle.asn_rules_guards.specs.Outside.{outside_from, starts_bare}

-- A mark of two bytes leads to a place.
marked : (p q : Place) (bs : List ℕ) (x y : ℕ) → begins (x ∷ y ∷ []) bs ≡ true → onward p bs ≡ half q → is_outside p bs ≡ false → outside_from p bs ≡ outside_from q (drop 2 bs)
unfolding outside_from
marked p q [] x y e on off = absurd cc
marked p q (b ∷ []) x y e on off = go (nat_eq x b) (nat_eq b x) e
  where
    go : (s t : Bool) → (s && false) ≡ true → outside_from p (b ∷ []) ≡ []
    go true t e = absurd cc
    go false t e = absurd cc
marked p q (b ∷ c ∷ bs) x y e on off =
    ap (λ t. if t then b ∷ c ∷ bs else outside_from (onward p (b ∷ c ∷ bs)) (c ∷ bs)) off
    ∙ ap (λ r. outside_from r (c ∷ bs)) on

-- what leads where, by what stands in front
pub line_opens : (bs : List ℕ) → begins (codes "--") bs ≡ true → outside_from (within 0) bs ≡ outside_from in_line (drop 2 bs)
line_opens bs e =
    marked (within 0) in_line bs 45 45 e
    (ap (λ t. if t then half in_line else if begins (codes "/*") bs then half (within 1) else within 0) e)
    (ap (λ t. not (t || (begins (codes "/*") bs || first_in Blank bs))) e)

pub comment_opens : (bs : List ℕ) → begins (codes "--") bs ≡ false → begins (codes "/*") bs ≡ true → outside_from (within 0) bs ≡ outside_from (within 1) (drop 2 bs)
comment_opens bs n e =
    marked (within 0) (within 1) bs 47 42 e
    (ap (λ t. if t then half in_line else if begins (codes "/*") bs then half (within 1) else within 0) n ∙ ap (λ t. if t then half (within 1) else within 0) e)
    (ap (λ t. not (t || (begins (codes "/*") bs || first_in Blank bs))) n ∙ ap (λ t. not (t || first_in Blank bs)) e)

pub line_closes : (bs : List ℕ) → begins (codes "--") bs ≡ true → outside_from in_line bs ≡ outside_from (within 0) (drop 2 bs)
line_closes bs e = marked in_line (within 0) bs 45 45 e (ap (λ t. if t then half (within 0) else if first_in LineFeed bs then within 0 else in_line) e) refl

pub block_opens : (n : ℕ) (bs : List ℕ) → begins (codes "/*") bs ≡ true → outside_from (within (suc n)) bs ≡ outside_from (within (suc (suc n))) (drop 2 bs)
block_opens n bs e = marked (within (suc n)) (within (suc (suc n))) bs 47 42 e (ap (λ t. if t then half (within (suc (suc n))) else if begins (codes "*/") bs then half (within n) else within (suc n)) e) refl

pub block_closes : (n : ℕ) (bs : List ℕ) → begins (codes "/*") bs ≡ false → begins (codes "*/") bs ≡ true → outside_from (within (suc n)) bs ≡ outside_from (within n) (drop 2 bs)
block_closes n bs o e =
    marked (within (suc n)) (within n) bs 42 47 e
    (ap (λ t. if t then half (within (suc (suc n))) else if begins (codes "*/") bs then half (within n) else within (suc n)) o ∙ ap (λ t. if t then half (within n) else within (suc n)) e)
    refl

-- one byte leads to a place
passed : (p q : Place) (bs : List ℕ) → onward p bs ≡ q → is_outside p bs ≡ false → outside_from p bs ≡ outside_from q (drop 1 bs)
unfolding outside_from
passed p q [] on off = refl
passed p q (b ∷ bs) on off = ap (λ t. if t then b ∷ bs else outside_from (onward p (b ∷ bs)) bs) off ∙ ap (λ r. outside_from r bs) on

first_is : (c : ByteClass) (bs : List ℕ) (b : ℕ) → 0 < length bs → get_or bs 0 0 ≡ b → first_in c bs ≡ in_class c b
first_is c [] b lt e = absurd (omega arith)
first_is c (x ∷ bs) b lt e = ap (in_class c) e

pub line_breaks : (bs : List ℕ) (b : ℕ) → begins (codes "--") bs ≡ false → 0 < length bs → get_or bs 0 0 ≡ b → nat_eq b 10 ≡ true → outside_from in_line bs ≡ outside_from (within 0) (drop 1 bs)
line_breaks bs b n lt s e =
    passed in_line (within 0) bs
    (ap (λ t. if t then half (within 0) else if first_in LineFeed bs then within 0 else in_line) n ∙ ap (λ t. if t then within 0 else in_line) (first_is LineFeed bs b lt s ∙ e))
    refl

pub line_goes_on : (bs : List ℕ) (b : ℕ) → begins (codes "--") bs ≡ false → 0 < length bs → get_or bs 0 0 ≡ b → nat_eq b 10 ≡ false → outside_from in_line bs ≡ outside_from in_line (drop 1 bs)
line_goes_on bs b n lt s e =
    passed in_line in_line bs
    (ap (λ t. if t then half (within 0) else if first_in LineFeed bs then within 0 else in_line) n ∙ ap (λ t. if t then within 0 else in_line) (first_is LineFeed bs b lt s ∙ e))
    refl

pub block_goes_on : (n : ℕ) (bs : List ℕ) → begins (codes "/*") bs ≡ false → begins (codes "*/") bs ≡ false → outside_from (within (suc n)) bs ≡ outside_from (within (suc n)) (drop 1 bs)
block_goes_on n bs o e =
    passed (within (suc n)) (within (suc n)) bs
    (ap (λ t. if t then half (within (suc (suc n))) else if begins (codes "*/") bs then half (within n) else within (suc n)) o ∙ ap (λ t. if t then half (within n) else within (suc n)) e)
    refl

-- neither kind of comment begins here
stays : (bs : List ℕ) → begins (codes "--") bs ≡ false → begins (codes "/*") bs ≡ false → onward (within 0) bs ≡ within 0
stays bs n o = ap (λ t. if t then half in_line else if begins (codes "/*") bs then half (within 1) else within 0) n ∙ ap (λ t. if t then half (within 1) else within 0) o

blankness : (bs : List ℕ) → begins (codes "--") bs ≡ false → begins (codes "/*") bs ≡ false → is_outside (within 0) bs ≡ not (first_in Blank bs)
blankness bs n o = ap (λ t. not (t || (begins (codes "/*") bs || first_in Blank bs))) n ∙ ap (λ t. not (t || first_in Blank bs)) o

pub blank_goes_on : (bs : List ℕ) (b : ℕ) → begins (codes "--") bs ≡ false → begins (codes "/*") bs ≡ false → 0 < length bs → get_or bs 0 0 ≡ b → is_blank b ≡ true → outside_from (within 0) bs ≡ outside_from (within 0) (drop 1 bs)
blank_goes_on bs b n o lt s e = passed (within 0) (within 0) bs (stays bs n o) (blankness bs n o ∙ ap not (first_is Blank bs b lt s ∙ e))

pub outside_here : (bs : List ℕ) (b : ℕ) → begins (codes "--") bs ≡ false → begins (codes "/*") bs ≡ false → get_or bs 0 0 ≡ b → is_blank b ≡ false → starts_bare bs ≡ true
outside_here [] b n o s e = refl
outside_here (x ∷ bs) b n o s e = blankness (x ∷ bs) n o ∙ ap not (ap is_blank s ∙ e)

no_mark : (b : ℕ) (bs : List ℕ) → starts_bare (b ∷ bs) ≡ true → (begins (codes "--") (b ∷ bs) ≡ false) × (begins (codes "/*") (b ∷ bs) ≡ false)
no_mark b bs = go (begins (codes "--") (b ∷ bs)) (begins (codes "/*") (b ∷ bs)) (is_blank b)
  where
    go : (x y z : Bool) → not (x || (y || z)) ≡ true → (x ≡ false) × (y ≡ false)
    go true y z e = absurd cc
    go false true z e = absurd cc
    go false false z e = (refl, refl)

pub bare_byte : (bs : List ℕ) (b : ℕ) → starts_bare bs ≡ true → 0 < length bs → get_or bs 0 0 ≡ b → bare_from (within 0) bs ≡ b ∷ bare_from (within 0) (drop 1 bs)
unfolding bare_from
bare_byte [] b e lt s = absurd (omega arith)
bare_byte (x ∷ bs) b e lt s =
    let both = no_mark x bs e in
    ap (λ t. cond t (x ∷ bare_from (onward (within 0) (x ∷ bs)) bs) (bare_from (onward (within 0) (x ∷ bs)) bs)) e
    ∙ ap (λ r. x ∷ bare_from r bs) (stays (x ∷ bs) both.0 both.1)
    ∙ ap (λ n. n ∷ bare_from (within 0) bs) s

pub bare_none : (p : Place) (bs : List ℕ) → length bs < 1 → bare_from p bs ≡ []
unfolding bare_from
bare_none p [] lt = refl
bare_none p (b ∷ bs) lt = absurd (omega arith)

pub outside_none : (p : Place) (bs : List ℕ) → length bs < 1 → outside_from p bs ≡ []
unfolding outside_from
outside_none p [] lt = refl
outside_none p (b ∷ bs) lt = absurd (omega arith)

pub outside_stands : (bs : List ℕ) → starts_bare bs ≡ true → outside_from (within 0) bs ≡ bs
unfolding outside_from
outside_stands [] e = refl
outside_stands (b ∷ bs) e = ap (λ t. if t then b ∷ bs else outside_from (onward (within 0) (b ∷ bs)) bs) e

pub outside_starts : (p : Place) (bs : List ℕ) → starts_bare (outside_from p bs) ≡ true
unfolding outside_from
outside_starts p [] = refl
outside_starts (within zero) (b ∷ bs) = go (is_outside (within 0) (b ∷ bs)) refl (outside_starts (onward (within 0) (b ∷ bs)) bs)
  where
    go : (t : Bool) → is_outside (within 0) (b ∷ bs) ≡ t → starts_bare (outside_from (onward (within 0) (b ∷ bs)) bs) ≡ true → starts_bare (if t then b ∷ bs else outside_from (onward (within 0) (b ∷ bs)) bs) ≡ true
    go true e h = e
    go false e h = h
outside_starts (within (suc n)) (b ∷ bs) = outside_starts (onward (within (suc n)) (b ∷ bs)) bs
outside_starts in_line (b ∷ bs) = outside_starts (onward in_line (b ∷ bs)) bs
outside_starts (half p) (b ∷ bs) = outside_starts p bs

-- What passes over blanks and comments is the same from the first byte outside them on.
pub passes_over : {A : Type 0} (f : Place → List ℕ → A) → ((p : Place) → f p [] ≡ f (within 0) []) → ((p : Place) (b : ℕ) (bs : List ℕ) → is_outside p (b ∷ bs) ≡ false → f p (b ∷ bs) ≡ f (onward p (b ∷ bs)) bs) → (p : Place) (bs : List ℕ) → f p bs ≡ f (within 0) (outside_from p bs)
unfolding outside_from
passes_over f z s p [] = z p
passes_over f z s (within zero) (b ∷ bs) = go (is_outside (within 0) (b ∷ bs)) refl (passes_over f z s (onward (within 0) (b ∷ bs)) bs)
  where
    go : (t : Bool) → is_outside (within 0) (b ∷ bs) ≡ t → f (onward (within 0) (b ∷ bs)) bs ≡ f (within 0) (outside_from (onward (within 0) (b ∷ bs)) bs) → f (within 0) (b ∷ bs) ≡ f (within 0) (if t then b ∷ bs else outside_from (onward (within 0) (b ∷ bs)) bs)
    go true e h = refl
    go false e h = s (within 0) b bs e ∙ h
passes_over f z s (within (suc n)) (b ∷ bs) = s (within (suc n)) b bs refl ∙ passes_over f z s (onward (within (suc n)) (b ∷ bs)) bs
passes_over f z s in_line (b ∷ bs) = s in_line b bs refl ∙ passes_over f z s (onward in_line (b ∷ bs)) bs
passes_over f z s (half p) (b ∷ bs) = s (half p) b bs refl ∙ passes_over f z s p bs

pub bare_gap : (bs rest : List ℕ) → rest ≡ outside_from (within 0) bs → bare_from (within 0) rest ≡ bare_from (within 0) bs
unfolding bare_from
bare_gap bs rest e = ap (bare_from (within 0)) e ∙ sym (passes_over bare_from (λ p. refl) (λ p b more off. ap (λ t. cond t (b ∷ bare_from (onward p (b ∷ more)) more) (bare_from (onward p (b ∷ more)) more)) off) (within 0) bs)

-- a byte outside leaves one outside
pub outside_stays : (b : ℕ) (bs : List ℕ) → starts_bare (b ∷ bs) ≡ true → onward (within 0) (b ∷ bs) ≡ within 0
outside_stays b bs e = let both = no_mark b bs e in stays (b ∷ bs) both.0 both.1
