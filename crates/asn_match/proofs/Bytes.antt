-- The bytes of a part of a text, one after the other.
use Rattle.std.proofs.Common.{◌≡◌, ℕ, ◌+◌, ◌-◌, ◌<◌, ◌≤◌, List, [], ◌∷◌, ◌++◌, length, drop, take, get_or, ap, ◌∙◌, arith}
use Rattle.std.specs.Prelude.{slice_index, slice_range}
use Rattle.std.proofs.lemmas.List.{get_or-drop, length-drop, take_more}

pub one_more_byte : (text : List ℕ) (o a : ℕ) → o ≤ a → a < length text → slice_range text o (a + 1) ≡ slice_range text o a ++ slice_index text a ∷ []
one_more_byte text o a le lt =
    let on : a + 1 - o ≡ (a - o) + 1 = omega arith in
    let back : o + (a - o) ≡ a = omega arith in
    ap (λ n. take n (drop o text)) on
    ∙ take_more (drop o text) (a - o) 0 (omega (arith, length-drop o text, lt, le))
    ∙ ap (λ b. take (a - o) (drop o text) ++ b ∷ []) (get_or-drop o text (a - o) 0 ∙ ap (λ n. get_or text n 0) back)
