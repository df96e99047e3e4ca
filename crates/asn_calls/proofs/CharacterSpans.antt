-- The characters of a span, and a set's entries.
use Rattle.std.proofs.Common.{◌≡◌, ℕ, suc, ◌+◌, ◌-◌, ◌<◌, ◌≤◌, nat_lt, true, false, if◌then◌else◌, List, [], ◌∷◌, ◌++◌, length, take, get_or, Option, Some, None, MatchOption, ap, sym, ◌∙◌, arith, append_assoc, append-nil, add-zero}
use Rattle.std.specs.Option.{option_to_list, SomeIff}
use Rattle.std.specs.Char.{IsScalar, InScalarRange, OutOfScalarRange}
use Rattle.std.specs.Ordering.{nat_cmp}
use Rattle.std.specs.BTreeMap.{insert_entry}
use Rattle.std.proofs.lemmas.Bool.Decides.{nat_tests}
use Rattle.std.proofs.lemmas.List.{take_more, length-take-le}
use Rattle.asn_tree_notation.specs.Strings.{is_character, alone, codes_from, span, numbered}

is_one : (code : ℕ) → InScalarRange code → is_character code ≡ true
is_one code h = grind (arith, nat_tests)

is_none : (code : ℕ) → OutOfScalarRange code → is_character code ≡ false
is_none code h = grind (arith, nat_tests)

pub character_is : (code : ℕ) (r : Option ℕ) → SomeIff r (IsScalar code) code → MatchOption r (OutOfScalarRange code) (λ _. InScalarRange code) → option_to_list r ≡ alone code
character_is code (Some c) h i = ap (λ x. x ∷ []) h.1 ∙ ap (λ b. if b then code ∷ [] else []) (sym (is_one code i))
character_is code None h i = ap (λ b. if b then code ∷ [] else []) (sym (is_none code i))

pub span_step : (first end : ℕ) → first < end → span first end ≡ alone first ++ span (first + 1) end
unfolding codes_from
span_step first end h =
    let e : end - first ≡ suc (end - (first + 1)) = omega arith in
    ap (λ n. codes_from n first) e

pub span_end : (first end : ℕ) → end ≤ first → span first end ≡ []
unfolding codes_from
span_end first end h =
    let e : end - first ≡ 0 = omega arith in
    ap (λ n. codes_from n first) e

pub span_more : (list : List ℕ) (first end : ℕ) → first < end → (list ++ alone first) ++ span (first + 1) end ≡ list ++ span first end
span_more list first end h = append_assoc list (alone first) (span (first + 1) end) ∙ ap (λ l. list ++ l) (sym (span_step first end h))

pub span_done : (list : List ℕ) (first end : ℕ) → end ≤ first → list ++ span first end ≡ list
span_done list first end h = ap (λ l. list ++ l) (span_end first end h) ∙ append-nil list

-- A character that is put behind all others has the next number.
pub put_behind : (xs : List ℕ) (m k c : ℕ) → k ≡ m + length xs → insert_entry nat_cmp (numbered m xs) k c ≡ numbered m (xs ++ c ∷ [])
put_behind [] m k c e = ap (λ i. (i, c) ∷ []) (e ∙ add-zero m)
put_behind (x ∷ xs) m k c e =
    let above : m < k = omega arith in
    let rest : insert_entry nat_cmp (numbered (m + 1) xs) k c ≡ numbered (m + 1) (xs ++ c ∷ []) = put_behind xs (m + 1) k c (omega arith) in
    let less : nat_lt k m ≡ false = grind (arith, nat_tests) in
    grind (arith, nat_tests, rest)

pub one_more : (xs : List ℕ) (i c : ℕ) (es new : List (ℕ × ℕ)) → i < length xs → es ≡ numbered 0 (take i xs) → new ≡ insert_entry nat_cmp es i c → c ≡ get_or xs i c → new ≡ numbered 0 (take (i + 1) xs)
one_more xs i c es new h before put at =
    let many : i ≡ 0 + length (take i xs) = (let n = length-take-le i xs (omega arith) in omega arith) in
    let behind : new ≡ numbered 0 (take i xs ++ c ∷ []) = put ∙ ap (λ l. insert_entry nat_cmp l i c) before ∙ put_behind (take i xs) 0 i c many in
    let more : take (i + 1) xs ≡ take i xs ++ c ∷ [] = take_more xs i c h ∙ ap (λ x. take i xs ++ x ∷ []) (sym at) in
    behind ∙ ap (numbered 0) (sym more)
