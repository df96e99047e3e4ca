-- Texts in braces with the extension marker at its place, one by one.
use Rattle.std.proofs.Common.{◌≡◌, ℕ, ◌+◌, ◌<◌, ◌≤◌, List, [], ◌∷◌, ◌++◌, Bool, true, false, Option, map, drop, length, get_or, refl, sym, ap, ◌∙◌, arith}
use Rattle.std.specs.Prelude.{codes}
use Rattle.std.proofs.lemmas.List.{drop_more, drop_all}
use Rattle.asn_tree_kinds.specs.declared.types.Enumeral.{Enumeral}
use Rattle.asn_check_listing.specs.Parts.{Letters, among, braced, closing, either, led, marker_at, nothing}
use Rattle.asn_check_listing.specs.Texts.{option_text}
use Rattle.asn_check_listing.specs.Words.{item_text}
use Rattle.asn_tree.specs.declared.types.ChoiceOption.{ChoiceOption}
use Rattle.asn_check_listing.proofs.Led.{grouped, led_both, nothing_behind, nothing_both}

abbrev begun : Bool → List Letters → Letters
begun first xs = led (codes " { ") (codes ", ") first xs

-- what stands from the item of this number on
abbrev from : {A : Type 0} → (A → Letters) → (ℕ → List Letters) → List A → ℕ → List Letters
from f before xs i = among before i (map f (drop i xs))

from_next : {A : Type 0} (f : A → Letters) (before : ℕ → List Letters) (xs : List A) (i : ℕ) (x : A) → i < length xs → x ≡ get_or xs i x → from f before xs i ≡ before i ++ f x ∷ from f before xs (i + 1)
from_next f before xs i x lt e = ap (λ ys. among before i (map f ys)) (drop_more xs i x lt ∙ ap (λ y. y ∷ drop (i + 1) xs) (sym e))

-- the marker where it stands, what leads a text, and the text
one_led : (first : Bool) (ms : List Letters) (x : Letters) (xs : List Letters) → begun first (ms ++ x ∷ xs) ≡ begun first ms ++ (either (nothing first ms) (codes " { ") (codes ", ") ++ x ++ begun false xs)
one_led first ms x xs = led_both (codes " { ") (codes ", ") first ms (x ∷ xs)

pub next : {A : Type 0} (f : A → Letters) (out : Letters) (first none : Bool) (before : ℕ → List Letters) (xs : List A) (i : ℕ) (x : A) → i < length xs → x ≡ get_or xs i x → none ≡ nothing first (before i) →
    ((out ++ begun first (before i)) ++ either none (codes " { ") (codes ", ")) ++ f x ++ begun false (from f before xs (i + 1)) ≡ out ++ begun first (from f before xs i)
next f out first none before xs i x lt e n =
    let front = begun first (before i) in
    let between = either none (codes " { ") (codes ", ") in
    let rest = begun false (from f before xs (i + 1)) in
    grouped ((out ++ front) ++ between) (f x) rest
    ∙ grouped (out ++ front) between (f x ++ rest)
    ∙ grouped out front (between ++ (f x ++ rest))
    ∙ ap (λ l. out ++ (front ++ l)) (sym (grouped between (f x) rest))
    ∙ ap (λ b. out ++ (front ++ (either b (codes " { ") (codes ", ") ++ f x ++ rest))) n
    ∙ ap (λ l. out ++ l) (sym (ap (begun first) (from_next f before xs i x lt e) ∙ one_led first (before i) (f x) (from f before xs (i + 1))))

pub led_next : {A : Type 0} (f : A → Letters) (first : Bool) (before : ℕ → List Letters) (xs : List A) (i : ℕ) (x : A) → i < length xs → x ≡ get_or xs i x → nothing false (from f before xs (i + 1)) ≡ nothing first (from f before xs i)
led_next f first before xs i x lt e =
    nothing_behind (from f before xs (i + 1))
    ∙ sym (ap (nothing first) (from_next f before xs i x lt e) ∙ nothing_both first (before i) (f x ∷ from f before xs (i + 1)))

all_of : {A : Type 0} (f : A → Letters) (before : ℕ → List Letters) (xs : List A) (i : ℕ) → i ≡ length xs → from f before xs i ≡ before (length xs)
all_of f before xs i e = ap (λ ys. among before i (map f ys)) (drop_all i xs (omega (arith, e))) ∙ ap before e

pub done : {A : Type 0} (f : A → Letters) (initial out : Letters) (first none : Bool) (before : ℕ → List Letters) (xs : List A) (i : ℕ) → i ≡ length xs →
    out ++ begun first (from f before xs i) ≡ initial ++ begun true (among before 0 (map f xs)) → nothing first (from f before xs i) ≡ nothing true (among before 0 (map f xs)) → none ≡ nothing first (before (length xs)) →
    (out ++ begun first (before (length xs))) ++ either none (codes " {}") (codes " }") ≡ initial ++ braced (among before 0 (map f xs))
done f initial out first none before xs i e texts nones n =
    ap (λ ms. (out ++ begun first ms) ++ either none (codes " {}") (codes " }")) (sym (all_of f before xs i e))
    ∙ ap (λ l. l ++ either none (codes " {}") (codes " }")) texts
    ∙ ap (λ b. (initial ++ begun true (among before 0 (map f xs))) ++ closing b) (n ∙ ap (nothing first) (sym (all_of f before xs i e)) ∙ nones)
    ∙ grouped initial (begun true (among before 0 (map f xs))) (closing (nothing true (among before 0 (map f xs))))

-- ---- items

pub item_next : (out : Letters) (first none : Bool) (marker : Option ℕ) (xs : List Enumeral) (i : ℕ) (x : Enumeral) → i < length xs → x ≡ get_or xs i x → none ≡ nothing first (marker_at marker i) →
    ((out ++ begun first (marker_at marker i)) ++ either none (codes " { ") (codes ", ")) ++ item_text x ++ begun false (from item_text (marker_at marker) xs (i + 1)) ≡ out ++ begun first (from item_text (marker_at marker) xs i)
item_next out first none marker = next item_text out first none (marker_at marker)

pub item_led : (first : Bool) (marker : Option ℕ) (xs : List Enumeral) (i : ℕ) (x : Enumeral) → i < length xs → x ≡ get_or xs i x → nothing false (from item_text (marker_at marker) xs (i + 1)) ≡ nothing first (from item_text (marker_at marker) xs i)
item_led first marker = led_next item_text first (marker_at marker)

pub items_done : (initial out : Letters) (first none : Bool) (marker : Option ℕ) (xs : List Enumeral) (i : ℕ) → i ≡ length xs →
    out ++ begun first (from item_text (marker_at marker) xs i) ≡ initial ++ begun true (among (marker_at marker) 0 (map item_text xs)) → nothing first (from item_text (marker_at marker) xs i) ≡ nothing true (among (marker_at marker) 0 (map item_text xs)) → none ≡ nothing first (marker_at marker (length xs)) →
    (out ++ begun first (marker_at marker (length xs))) ++ either none (codes " {}") (codes " }") ≡ initial ++ braced (among (marker_at marker) 0 (map item_text xs))
items_done initial out first none marker = done item_text initial out first none (marker_at marker)

-- ---- options

pub option_next : (out : Letters) (first none : Bool) (marker : Option ℕ) (xs : List ChoiceOption) (i : ℕ) (x : ChoiceOption) → i < length xs → x ≡ get_or xs i x → none ≡ nothing first (marker_at marker i) →
    ((out ++ begun first (marker_at marker i)) ++ either none (codes " { ") (codes ", ")) ++ option_text x ++ begun false (from option_text (marker_at marker) xs (i + 1)) ≡ out ++ begun first (from option_text (marker_at marker) xs i)
option_next out first none marker = next option_text out first none (marker_at marker)

pub option_led : (first : Bool) (marker : Option ℕ) (xs : List ChoiceOption) (i : ℕ) (x : ChoiceOption) → i < length xs → x ≡ get_or xs i x → nothing false (from option_text (marker_at marker) xs (i + 1)) ≡ nothing first (from option_text (marker_at marker) xs i)
option_led first marker = led_next option_text first (marker_at marker)

pub options_done : (initial out : Letters) (first none : Bool) (marker : Option ℕ) (xs : List ChoiceOption) (i : ℕ) → i ≡ length xs →
    out ++ begun first (from option_text (marker_at marker) xs i) ≡ initial ++ begun true (among (marker_at marker) 0 (map option_text xs)) → nothing first (from option_text (marker_at marker) xs i) ≡ nothing true (among (marker_at marker) 0 (map option_text xs)) → none ≡ nothing first (marker_at marker (length xs)) →
    (out ++ begun first (marker_at marker (length xs))) ++ either none (codes " {}") (codes " }") ≡ initial ++ braced (among (marker_at marker) 0 (map option_text xs))
options_done initial out first none marker = done option_text initial out first none (marker_at marker)
