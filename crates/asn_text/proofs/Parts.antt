-- Ranges of a list of bytes.
use Rattle.std.proofs.Common.{◌≡◌, ◌≤◌, ◌<◌, ℕ, ◌+◌, ◌-◌, List, length, get_or, take, drop, ap, sym, ◌∙◌, arith}
use Rattle.std.proofs.lemmas.List.{drop-drop, drop-take, get_or-drop, get_or-take}
use Rattle.std.proofs.lemmas.Grind.{common_steps}
use Rattle.std.specs.Prelude.{slice_range}

-- what is left of a range behind its first n elements
pub rest_of_range : (xs : List ℕ) (start n end : ℕ) → start + n ≤ end → slice_range xs (start + n) end ≡ drop n (slice_range xs start end)
rest_of_range xs start n end within =
    let size : end - start ≡ n + (end - (start + n)) = omega arith in
    sym (ap (λ k. drop n (take k (drop start xs))) size
    ∙ drop-take n (end - (start + n)) (drop start xs)
    ∙ ap (take (end - (start + n))) (drop-drop n start xs))

-- how long a range is
pub range_length : (xs : List ℕ) (start end : ℕ) → end ≤ length xs → length (slice_range xs start end) ≡ end - start
range_length xs start end within = grind (arith, common_steps)

-- a place in a range is a place in the list
pub range_within : (xs : List ℕ) (start end i : ℕ) → i < length (slice_range xs start end) → (start + i < end) × (start + i < length xs)
range_within xs start end i below = grind (arith, common_steps)

-- a byte of a range is a byte of the list
pub range_byte : (xs : List ℕ) (start end i : ℕ) → i < length (slice_range xs start end) → get_or (slice_range xs start end) i 0 ≡ get_or xs (start + i) 0
range_byte xs start end i below =
    let inside : i < end - start = omega (arith, range_within xs start end i below) in
    get_or-take (end - start) (drop start xs) i 0 inside ∙ get_or-drop start xs i 0

-- a range that has n elements reaches n past its start
pub range_reach : (xs : List ℕ) (start n end : ℕ) → start ≤ end → n ≤ length (slice_range xs start end) → start + n ≤ end
range_reach xs start n end ordered within = grind (arith, common_steps)
