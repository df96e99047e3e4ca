-- Whole numbers, as the code reads them.
use Rattle.std.proofs.Common.{◌≡◌, ℕ, zero, suc, ◌+◌, ◌-◌, ◌*◌, ◌^◌, ◌<◌, ◌≤◌, List, [], ◌∷◌, Bool, true, false, Option, Some, None, refl, sym, ap, ◌∙◌, arith, ℤ, pos, negsuc}
use Rattle.std.specs.Prelude.{nat_lt, nat_le, ◌&&◌, if◌then◌else◌, fold, neg_ℤ, FitsSigned, SomeIff}
use Rattle.std.specs.List.{list_all}
use Rattle.std.proofs.lemmas.Bool.Decides.{Decides-ltb, nat_tests}
use Rattle.std.specs.Int.{w128}
use Rattle.asn_rules_guards.specs.Lexical.{is_digit}
use Rattle.asn_rules_guards.specs.Guards.{are_digits, decimal, is_negative, unsigned, spelled, fitting, integer, number, natural}
use Rattle.asn_rules_guards.specs.inner.Sizes.{at_some, lengthened_by, sized, below, narrowed}

-- a digit behind a number
abbrev pushed : ℕ → ℕ → ℕ
pushed n b = n * 10 + (b - 48)

-- More digits make no smaller number.
grows : (n : ℕ) (bs : List ℕ) → n ≤ fold pushed n bs
grows n [] = omega arith
grows n (b ∷ bs) = let h = grows (pushed n b) bs in omega (arith, h)

-- the size that the digits spell behind a number
abbrev size_from : List ℕ → ℕ → Option ℕ
size_from bs n = if list_all is_digit bs && nat_lt (fold pushed n bs) (2 ^ 128) then Some (fold pushed n bs) else None

large : (bs : List ℕ) (n : ℕ) → 2 ^ 128 ≤ n → size_from bs n ≡ None
large bs n le = go (list_all is_digit bs) (nat_lt (fold pushed n bs) (2 ^ 128)) (Decides-ltb (fold pushed n bs) (2 ^ 128)) (grows n bs)
  where
    go : (a b : Bool) → (b ≡ true → fold pushed n bs < 2 ^ 128) × (fold pushed n bs < 2 ^ 128 → b ≡ true) → n ≤ fold pushed n bs → (if a && b then Some (fold pushed n bs) else None) ≡ None
    go true true d h = let lt = d.0 refl in absurd (omega (arith, lt, h, le))
    go true false d h = refl
    go false b d h = refl

read_by : (bs : List ℕ) (n : ℕ) → n < 2 ^ 128 → lengthened_by bs n ≡ size_from bs n
read_by [] n lt = sym (ap (λ b. if b then Some n else None) ((Decides-ltb n (2 ^ 128)).1 lt))
read_by (b ∷ bs) n lt = go (is_digit b) (nat_lt (pushed n b) (2 ^ 128)) refl refl (Decides-ltb (pushed n b) (2 ^ 128)) (read_by bs (pushed n b))
  where
    go : (a l : Bool) → is_digit b ≡ a → nat_lt (pushed n b) (2 ^ 128) ≡ l → (nat_lt (pushed n b) (2 ^ 128) ≡ true → pushed n b < 2 ^ 128) × (pushed n b < 2 ^ 128 → nat_lt (pushed n b) (2 ^ 128) ≡ true) → (pushed n b < 2 ^ 128 → lengthened_by bs (pushed n b) ≡ size_from bs (pushed n b)) → lengthened_by (b ∷ bs) n ≡ size_from (b ∷ bs) n
    go true true ea el d again =
        let low = d.0 el in
        ap (λ a. at_some (if a && nat_lt (pushed n b) (2 ^ 128) then Some (pushed n b) else None) (lengthened_by bs)) ea
        ∙ ap (λ l. at_some (if l then Some (pushed n b) else None) (lengthened_by bs)) el
        ∙ again low
        ∙ sym (ap (λ a. if (a && list_all is_digit bs) && nat_lt (fold pushed (pushed n b) bs) (2 ^ 128) then Some (fold pushed (pushed n b) bs) else None) ea)
    go true false ea el d again =
        let high : 2 ^ 128 ≤ pushed n b = grind (arith, nat_tests, el) in
        ap (λ a. at_some (if a && nat_lt (pushed n b) (2 ^ 128) then Some (pushed n b) else None) (lengthened_by bs)) ea
        ∙ ap (λ l. at_some (if l then Some (pushed n b) else None) (lengthened_by bs)) el
        ∙ sym (ap (λ a. if (a && list_all is_digit bs) && nat_lt (fold pushed (pushed n b) bs) (2 ^ 128) then Some (fold pushed (pushed n b) bs) else None) ea ∙ large bs (pushed n b) high)
    go false l ea el d again =
        ap (λ a. at_some (if a && nat_lt (pushed n b) (2 ^ 128) then Some (pushed n b) else None) (lengthened_by bs)) ea
        ∙ sym (ap (λ a. if (a && list_all is_digit bs) && nat_lt (fold pushed (pushed n b) bs) (2 ^ 128) then Some (fold pushed (pushed n b) bs) else None) ea)

pub sized_is : (bs : List ℕ) → sized bs ≡ natural 128 bs
sized_is [] = refl
sized_is (b ∷ bs) = read_by (b ∷ bs) 0 (omega arith)

-- what is checked is what fits
pub fitting_is : (z : ℤ) (r : Option ℤ) → SomeIff r (FitsSigned w128 z) z → r ≡ fitting 127 z
fitting_is (pos n) (Some x) h =
    let low : n < 2 ^ 127 = h.0.sfits in
    ap Some h.1 ∙ sym (ap (λ b. if b then Some (pos n) else None) ((Decides-ltb n (2 ^ 127)).1 low))
fitting_is (pos n) None h = go (nat_lt n (2 ^ 127)) (Decides-ltb n (2 ^ 127)).0
  where
    go : (b : Bool) → (b ≡ true → n < 2 ^ 127) → ◌≡◌ {A = Option ℤ} None (if b then Some (pos n) else None)
    go true d = absurd (h (record { sfits = d refl }))
    go false d = refl
fitting_is (negsuc n) (Some x) h =
    let low : n < 2 ^ 127 = h.0.sfits in
    let test : nat_le n (2 ^ 127 - 1) ≡ true = grind (arith, nat_tests, low) in
    ap Some h.1 ∙ sym (ap (λ b. if b && true then Some (negsuc n) else None) test)
fitting_is (negsuc n) None h = go (nat_le n (2 ^ 127 - 1)) refl
  where
    go : (b : Bool) → nat_le n (2 ^ 127 - 1) ≡ b → ◌≡◌ {A = Option ℤ} None (if b && true then Some (negsuc n) else None)
    go true e = let low : n < 2 ^ 127 = grind (arith, nat_tests, e) in absurd (h (record { sfits = low }))
    go false e = refl

too_large : (negative : Bool) (m : ℕ) → 2 ^ 128 ≤ m → fitting 127 (if negative then neg_ℤ (pos m) else pos m) ≡ None
too_large true zero le = absurd (omega (arith, le))
too_large true (suc k) le =
    let off : nat_le k (2 ^ 127 - 1) ≡ false = grind (arith, nat_tests, le) in
    ap (λ b. if b && true then Some (negsuc k) else None) off
too_large false m le =
    let off : nat_lt m (2 ^ 127) ≡ false = grind (arith, nat_tests, le) in
    ap (λ b. if b then Some (pos m) else None) off

-- The number, by the size of its digits.
by_size : (negative : Bool) (bs : List ℕ) → at_some (natural 128 bs) (λ m. fitting 127 (if negative then neg_ℤ (pos m) else pos m)) ≡ (if are_digits bs then fitting 127 (if negative then neg_ℤ (pos (decimal bs)) else pos (decimal bs)) else None)
by_size negative bs = go (are_digits bs) (nat_lt (decimal bs) (2 ^ 128)) (Decides-ltb (decimal bs) (2 ^ 128)).1
  where
    go : (a l : Bool) → (decimal bs < 2 ^ 128 → l ≡ true) → at_some (if a && l then Some (decimal bs) else None) (λ m. fitting 127 (if negative then neg_ℤ (pos m) else pos m)) ≡ (if a then fitting 127 (if negative then neg_ℤ (pos (decimal bs)) else pos (decimal bs)) else None)
    go true true d = refl
    go true false d = let high : 2 ^ 128 ≤ decimal bs = grind (arith, d) in sym (too_large negative (decimal bs) high)
    go false l d = refl

pub number_plain : (bs : List ℕ) (size : Option ℕ) → size ≡ natural 128 bs → is_negative bs ≡ false → number bs ≡ at_some size (λ m. fitting 127 (pos m))
number_plain [] size s e = sym (ap (λ o. at_some o (λ m. fitting 127 (pos m))) s)
number_plain (b ∷ bs) size s e =
    ap (λ t. if are_digits (if t then bs else b ∷ bs) then fitting 127 (if t then neg_ℤ (pos (decimal (if t then bs else b ∷ bs))) else pos (decimal (if t then bs else b ∷ bs))) else None) e
    ∙ sym (by_size false (b ∷ bs))
    ∙ ap (λ o. at_some o (λ m. fitting 127 (pos m))) (sym s)

pub octet_below : (bs : List ℕ) → natural 8 bs ≡ below 8 (natural 128 bs)
octet_below bs = go (are_digits bs) (nat_lt (decimal bs) (2 ^ 128)) (nat_lt (decimal bs) (2 ^ 8)) (Decides-ltb (decimal bs) (2 ^ 128)).1 (Decides-ltb (decimal bs) (2 ^ 8)).0 refl
  where
    go : (a l m : Bool) → (decimal bs < 2 ^ 128 → l ≡ true) → (m ≡ true → decimal bs < 2 ^ 8) → nat_lt (decimal bs) (2 ^ 8) ≡ m → (if a && m then Some (decimal bs) else None) ≡ below 8 (if a && l then Some (decimal bs) else None)
    go true true m d f e = sym (ap (λ t. if t then Some (decimal bs) else None) e)
    go true false true d f e = let low = f refl in absurd (grind (arith, d, low))
    go true false false d f e = refl
    go false l m d f e = refl

-- what fits few bits fits more
pub natural_below : (bs : List ℕ) → natural 64 bs ≡ below 64 (natural 128 bs)
natural_below bs = go (are_digits bs) (nat_lt (decimal bs) (2 ^ 128)) (nat_lt (decimal bs) (2 ^ 64)) (Decides-ltb (decimal bs) (2 ^ 128)).1 (Decides-ltb (decimal bs) (2 ^ 64)).0 refl
  where
    go : (a l m : Bool) → (decimal bs < 2 ^ 128 → l ≡ true) → (m ≡ true → decimal bs < 2 ^ 64) → nat_lt (decimal bs) (2 ^ 64) ≡ m → (if a && m then Some (decimal bs) else None) ≡ below 64 (if a && l then Some (decimal bs) else None)
    go true true m d f e = sym (ap (λ t. if t then Some (decimal bs) else None) e)
    go true false true d f e = let low = f refl in absurd (grind (arith, d, low))
    go true false false d f e = refl
    go false l m d f e = refl

narrow : (z : ℤ) → fitting 31 z ≡ narrowed 31 (fitting 127 z)
narrow (pos n) = go (nat_lt n (2 ^ 127)) (nat_lt n (2 ^ 31)) (Decides-ltb n (2 ^ 127)).1 (Decides-ltb n (2 ^ 31)).0 refl
  where
    go : (l m : Bool) → (n < 2 ^ 127 → l ≡ true) → (m ≡ true → n < 2 ^ 31) → nat_lt n (2 ^ 31) ≡ m → (if m then Some (pos n) else None) ≡ narrowed 31 (if l then Some (pos n) else None)
    go true m d f e = sym (ap (λ t. if t then Some (pos n) else None) e)
    go false true d f e = let low = f refl in absurd (grind (arith, d, low))
    go false false d f e = refl
narrow (negsuc n) = go (nat_le n (2 ^ 127 - 1)) (nat_le n (2 ^ 31 - 1)) refl refl
  where
    go : (l m : Bool) → nat_le n (2 ^ 127 - 1) ≡ l → nat_le n (2 ^ 31 - 1) ≡ m → (if m && true then Some (negsuc n) else None) ≡ narrowed 31 (if l && true then Some (negsuc n) else None)
    go true m d e = sym (ap (λ t. if t && true then Some (negsuc n) else None) e)
    go false true d e = absurd (grind (arith, nat_tests, d, e))
    go false false d e = refl

pub integer_narrowed : (bs : List ℕ) → integer 31 bs ≡ narrowed 31 (number bs)
integer_narrowed bs = go (are_digits (unsigned bs)) (narrow (spelled bs))
  where
    go : (a : Bool) → fitting 31 (spelled bs) ≡ narrowed 31 (fitting 127 (spelled bs)) → (if a then fitting 31 (spelled bs) else None) ≡ narrowed 31 (if a then fitting 127 (spelled bs) else None)
    go true e = e
    go false e = refl
