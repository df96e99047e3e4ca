-- The position at the start of a text, how it changes over one byte, and how large it gets.
use Rattle.std.proofs.Common.{◌≡◌, ◌≢◌, ◌<◌, ◌≤◌, ℕ, ◌+◌, ◌-◌, Bool, true, false, List, length, get_or, take, ap, refl, ◌∙◌, arith, length-drop, length-take}
use Rattle.std.proofs.lemmas.Bool.{eq-eqb}
use Rattle.std.proofs.lemmas.Bool.Decides.{nat_tests}
use Rattle.std.proofs.lemmas.List.Sums.{suffix_len-le-length, suffix_len-take_no, suffix_len-take_yes, count_by_more_no, count_by_more_yes, count_by-le-length}
use Rattle.std.specs.Prelude.{not}
use Rattle.std.specs.List.{suffix_len}
use Rattle.asn_text.specs.Position.{is_line_feed, line_at, column_at}

abbrev is_other : ℕ → Bool
is_other byte = not (is_line_feed byte)

feed_is_feed : (byte : ℕ) → byte ≡ 10 → is_line_feed byte ≡ true
feed_is_feed byte feed = eq-eqb byte 10 feed

feed_is_no_other : (byte : ℕ) → byte ≡ 10 → is_other byte ≡ false
feed_is_no_other byte feed = ap not (feed_is_feed byte feed)

other_is_no_feed : (byte : ℕ) → byte ≢ 10 → is_line_feed byte ≡ false
other_is_no_feed byte other = grind (arith, nat_tests)

other_is_other : (byte : ℕ) → byte ≢ 10 → is_other byte ≡ true
other_is_other byte other = ap not (other_is_no_feed byte other)

back : (n : ℕ) → n + 1 - 1 ≡ n
back n = omega arith

-- the byte before the next offset
before_next : (p : ℕ → Bool) (text : List ℕ) (offset : ℕ) (answer : Bool) → p (get_or text offset 0) ≡ answer → p (get_or text (offset + 1 - 1) 0) ≡ answer
before_next p text offset answer here = ap (λ n. p (get_or text n 0)) (back offset) ∙ here

pub line_at_start : (text : List ℕ) → line_at text 0 ≡ 1
unfolding line_at
line_at_start text = refl

pub column_at_start : (text : List ℕ) → column_at text 0 ≡ 1
unfolding column_at
column_at_start text = refl

pub line_after_feed : (text : List ℕ) (offset : ℕ) → offset < length text → get_or text offset 0 ≡ 10 → line_at text (offset + 1) ≡ line_at text offset + 1
unfolding line_at
line_after_feed text offset within feed =
    omega (arith, count_by_more_yes is_line_feed text offset 0 within (feed_is_feed _ feed))

pub line_after_other : (text : List ℕ) (offset : ℕ) → offset < length text → get_or text offset 0 ≢ 10 → line_at text (offset + 1) ≡ line_at text offset
unfolding line_at
line_after_other text offset within other =
    omega (arith, count_by_more_no is_line_feed text offset 0 within (other_is_no_feed _ other))

-- the column is 1 plus the run of bytes before the offset that are no line feed
column_at_run : (text : List ℕ) (offset : ℕ) → column_at text offset ≡ 1 + suffix_len is_other (take offset text)
unfolding column_at
column_at_run text offset =
    let before = take offset text in
    omega (arith, length-drop (length before - suffix_len is_other before) before, suffix_len-le-length is_other before)

pub column_after_feed : (text : List ℕ) (offset : ℕ) → offset < length text → get_or text offset 0 ≡ 10 → column_at text (offset + 1) ≡ 1
unfolding column_at
column_after_feed text offset within feed =
    omega (arith, column_at_run text (offset + 1), suffix_len-take_no is_other text (offset + 1) 0 (omega arith) (omega arith) (before_next is_other text offset false (feed_is_no_other _ feed)))

pub column_after_other : (text : List ℕ) (offset : ℕ) → offset < length text → get_or text offset 0 ≢ 10 → column_at text (offset + 1) ≡ column_at text offset + 1
unfolding column_at
column_after_other text offset within other =
    omega (arith, column_at_run text (offset + 1), column_at_run text offset, suffix_len-take_yes is_other text (offset + 1) 0 (omega arith) (omega arith) (before_next is_other text offset true (other_is_other _ other)), ap (λ n. suffix_len is_other (take n text)) (back offset))

pub line_bound : (text : List ℕ) (offset : ℕ) → line_at text offset ≤ offset + 1
unfolding line_at
line_bound text offset =
    omega (arith, count_by-le-length is_line_feed (take offset text), length-take offset text)

pub column_bound : (text : List ℕ) (offset : ℕ) → column_at text offset ≤ offset + 1
column_bound text offset =
    omega (arith, column_at_run text offset, suffix_len-le-length is_other (take offset text), length-take offset text)
