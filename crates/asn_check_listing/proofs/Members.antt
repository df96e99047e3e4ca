-- Members in braces with what stands between them, one by one.
use Rattle.std.proofs.Common.{◌≡◌, ℕ, ◌+◌, ◌<◌, List, [], ◌∷◌, ◌++◌, Bool, true, false, Option, map, drop, length, get_or, refl, sym, ap, ap₂, ◌∙◌, arith}
use Rattle.std.specs.Prelude.{codes}
use Rattle.std.proofs.lemmas.List.{drop_more, drop_all}
use Rattle.asn_check_listing.specs.Parts.{Letters, braced, closing, either, led, nothing}
use Rattle.asn_check_listing.specs.Texts.{member_text}
use Rattle.asn_check_listing.specs.Types.{Included, among_members, between_members, components_later}
use Rattle.asn_tree.specs.declared.types.SequenceOrSetMember.{SequenceOrSetMember}
use Rattle.asn_check_listing.proofs.Led.{grouped, led_both, nothing_behind, nothing_both}

abbrev begun : Bool → List Letters → Letters
begun first xs = led (codes " { ") (codes ", ") first xs

-- what stands from the member of this number on
abbrev from : List Included → Option ℕ → List SequenceOrSetMember → ℕ → List Letters
from cs marker xs i = among_members cs marker i (map member_text (drop i xs))

from_next : (cs ds : List Included) (marker : Option ℕ) (xs : List SequenceOrSetMember) (i : ℕ) (x : SequenceOrSetMember) → i < length xs → x ≡ get_or xs i x → ds ≡ components_later i cs →
    from cs marker xs i ≡ between_members cs marker i ++ member_text x ∷ from ds marker xs (i + 1)
from_next cs ds marker xs i x lt e d =
    ap (λ ys. among_members cs marker i (map member_text ys)) (drop_more xs i x lt ∙ ap (λ y. y ∷ drop (i + 1) xs) (sym e))
    ∙ ap (λ es. between_members cs marker i ++ member_text x ∷ from es marker xs (i + 1)) (sym d)

next : (out : Letters) (first none : Bool) (cs ds : List Included) (marker : Option ℕ) (xs : List SequenceOrSetMember) (i : ℕ) (x : SequenceOrSetMember) → i < length xs → x ≡ get_or xs i x → none ≡ nothing first (between_members cs marker i) → ds ≡ components_later i cs →
    ((out ++ begun first (between_members cs marker i)) ++ either none (codes " { ") (codes ", ")) ++ member_text x ++ begun false (from ds marker xs (i + 1)) ≡ out ++ begun first (from cs marker xs i)
next out first none cs ds marker xs i x lt e n d =
    let before = between_members cs marker i in
    let between = either none (codes " { ") (codes ", ") in
    let rest = begun false (from ds marker xs (i + 1)) in
    grouped ((out ++ begun first before) ++ between) (member_text x) rest
    ∙ grouped (out ++ begun first before) between (member_text x ++ rest)
    ∙ grouped out (begun first before) (between ++ (member_text x ++ rest))
    ∙ ap (λ l. out ++ (begun first before ++ l)) (sym (grouped between (member_text x) rest))
    ∙ ap (λ b. out ++ (begun first before ++ (either b (codes " { ") (codes ", ") ++ member_text x ++ rest))) n
    ∙ ap (λ l. out ++ l) (sym (ap (begun first) (from_next cs ds marker xs i x lt e d) ∙ led_both (codes " { ") (codes ", ") first before (member_text x ∷ from ds marker xs (i + 1))))

led_next : (first : Bool) (cs ds : List Included) (marker : Option ℕ) (xs : List SequenceOrSetMember) (i : ℕ) (x : SequenceOrSetMember) → i < length xs → x ≡ get_or xs i x → ds ≡ components_later i cs → nothing false (from ds marker xs (i + 1)) ≡ nothing first (from cs marker xs i)
led_next first cs ds marker xs i x lt e d =
    nothing_behind (from ds marker xs (i + 1))
    ∙ sym (ap (nothing first) (from_next cs ds marker xs i x lt e d) ∙ nothing_both first (between_members cs marker i) (member_text x ∷ from ds marker xs (i + 1)))

-- one member more: what was written and what is left make up the whole, before and after
pub member_turn : (first none : Bool) (cs ds : List Included) (marker : Option ℕ) (xs : List SequenceOrSetMember) (i : ℕ) (x : SequenceOrSetMember) (out mid lead new whole : Letters) (last : Bool)
    → i < length xs → x ≡ get_or xs i x
    → (out ++ begun first (from cs marker xs i) ≡ whole) × (nothing first (from cs marker xs i) ≡ last)
    → mid ≡ out ++ begun first (between_members cs marker i)
    → none ≡ nothing first (between_members cs marker i)
    → ds ≡ components_later i cs
    → lead ≡ mid ++ either none (codes " { ") (codes ", ")
    → new ≡ lead ++ member_text x
    → (new ++ begun false (from ds marker xs (i + 1)) ≡ whole) × (nothing false (from ds marker xs (i + 1)) ≡ last)
member_turn first none cs ds marker xs i x out mid lead new whole last lt e held m n d l w =
    let rest = begun false (from ds marker xs (i + 1)) in (
      ap (λ t. t ++ rest) (w ∙ ap (λ t. t ++ member_text x) (l ∙ ap (λ t. t ++ either none (codes " { ") (codes ", ")) m))
          ∙ next out first none cs ds marker xs i x lt e n d
          ∙ held.0,
      led_next first cs ds marker xs i x lt e d ∙ held.1,
    )

all_of : (cs : List Included) (marker : Option ℕ) (xs : List SequenceOrSetMember) (i : ℕ) → i ≡ length xs → from cs marker xs i ≡ between_members cs marker (length xs)
all_of cs marker xs i e = ap (λ ys. among_members cs marker i (map member_text ys)) (drop_all i xs (omega (arith, e))) ∙ ap (between_members cs marker) e

pub members_done : (initial out : Letters) (first none : Bool) (all cs : List Included) (marker : Option ℕ) (xs : List SequenceOrSetMember) (i : ℕ) → i ≡ length xs →
    out ++ begun first (from cs marker xs i) ≡ initial ++ begun true (among_members all marker 0 (map member_text xs)) → nothing first (from cs marker xs i) ≡ nothing true (among_members all marker 0 (map member_text xs)) → none ≡ nothing first (between_members cs marker (length xs)) →
    (out ++ begun first (between_members cs marker (length xs))) ++ either none (codes " {}") (codes " }") ≡ initial ++ braced (among_members all marker 0 (map member_text xs))
members_done initial out first none all cs marker xs i e texts nones n =
    ap (λ ms. (out ++ begun first ms) ++ either none (codes " {}") (codes " }")) (sym (all_of cs marker xs i e))
    ∙ ap (λ l. l ++ either none (codes " {}") (codes " }")) texts
    ∙ ap (λ b. (initial ++ begun true (among_members all marker 0 (map member_text xs))) ++ closing b) (n ∙ ap (nothing first) (sym (all_of cs marker xs i e)) ∙ nones)
    ∙ grouped initial (begun true (among_members all marker 0 (map member_text xs))) (closing (nothing true (among_members all marker 0 (map member_text xs))))
