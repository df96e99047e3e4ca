-- A text by its first double quote.
use Rattle.std.proofs.Common.{◌≡◌, ℕ, ◌+◌, ◌<◌, zero, suc, List, [], ◌∷◌, ◌++◌, Bool, true, false, length, take, drop, refl, sym, ap, ◌∙◌, arith}
use Rattle.std.specs.Prelude.{codes, nat_eq, not, cond, ◌==◌}
use Rattle.std.specs.List.{position_or_len, before_first, after_first}
use Rattle.asn_check_listing.specs.Parts.{Letters}
use Rattle.asn_check_listing.specs.Words.{doubled}
use Rattle.asn_check_listing.proofs.Led.{grouped}

abbrev pub quote_place : Letters → ℕ
quote_place text = position_or_len (λ b. nat_eq b 34) text

abbrev place_behind : Bool → ℕ → ℕ
place_behind b n = cond (not b) (1 + n) 0

one_plus : (n : ℕ) → 1 + n ≡ suc n
one_plus n = omega (arith)

plus_one : (n : ℕ) → n + 1 ≡ suc n
plus_one n = omega (arith)

one_more : (c : ℕ) (text : Letters) (n : ℕ) → take (1 + n) (c ∷ text) ++ 34 ∷ 34 ∷ doubled (drop (1 + n + 1) (c ∷ text)) ≡ c ∷ (take n text ++ 34 ∷ 34 ∷ doubled (drop (n + 1) text))
one_more c text n = ap (λ k. take k (c ∷ text) ++ 34 ∷ 34 ∷ doubled (drop (k + 1) (c ∷ text))) (one_plus n) ∙ ap (λ k. c ∷ (take n text ++ 34 ∷ 34 ∷ doubled (drop k (c ∷ text)))) (plus_one (suc n)) ∙ ap (λ k. c ∷ (take n text ++ 34 ∷ 34 ∷ doubled (drop k text))) (sym (plus_one n))

found_at : (b : Bool) (c : ℕ) (text : Letters) → (quote_place text < length text → doubled text ≡ before_first (λ b. nat_eq b 34) text ++ 34 ∷ 34 ∷ doubled (after_first (λ b. nat_eq b 34) text)) → place_behind b (quote_place text) < length (c ∷ text) →
    cond b (34 ∷ 34 ∷ doubled text) (c ∷ doubled text) ≡ take (place_behind b (quote_place text)) (c ∷ text) ++ 34 ∷ 34 ∷ doubled (drop (place_behind b (quote_place text) + 1) (c ∷ text))
found_at true c text behind lt = refl
found_at false c text behind lt = ap (λ l. c ∷ l) (behind (omega (arith, lt))) ∙ sym (one_more c text (quote_place text))

pub doubled_found : (text : Letters) → quote_place text < length text → doubled text ≡ before_first (λ b. nat_eq b 34) text ++ 34 ∷ 34 ∷ doubled (after_first (λ b. nat_eq b 34) text)
doubled_found [] lt = absurd (omega (arith, lt))
doubled_found (c ∷ text) lt = found_at (nat_eq c 34) c text (doubled_found text) lt

none_at : (b : Bool) (c : ℕ) (text : Letters) → (quote_place text ≡ length text → doubled text ≡ text) → place_behind b (quote_place text) ≡ length (c ∷ text) → cond b (34 ∷ 34 ∷ doubled text) (c ∷ doubled text) ≡ c ∷ text
none_at true c text behind e = absurd (omega (arith, e))
none_at false c text behind e = ap (λ l. c ∷ l) (behind (omega (arith, e)))

pub doubled_none : (text : Letters) → quote_place text ≡ length text → doubled text ≡ text
doubled_none [] e = refl
doubled_none (c ∷ text) e = none_at (nat_eq c 34) c text (doubled_none text) e

-- up to a quote and past it
pub doubled_next : (out text front back : Letters) → front ≡ before_first (λ b. b == 34) text → back ≡ after_first (λ b. b == 34) text → position_or_len (λ b. b == 34) text < length text → (out ++ front) ++ codes "\"\"" ++ doubled back ≡ out ++ doubled text
doubled_next out text front back f b lt =
    grouped (out ++ front) (codes "\"\"") (doubled back)
    ∙ grouped out front (codes "\"\"" ++ doubled back)
    ∙ ap (λ x. out ++ (x ++ (codes "\"\"" ++ doubled back))) f
    ∙ ap (λ x. out ++ (before_first (λ b. b == 34) text ++ (codes "\"\"" ++ doubled x))) b
    ∙ ap (λ x. out ++ x) (sym (doubled_found text lt))
