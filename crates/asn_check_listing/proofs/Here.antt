-- Names after COMPONENTS OF, gone through by a cursor, and what stands between two members.
use Rattle.std.proofs.Common.{◌≡◌, ℕ, zero, suc, ◌+◌, ◌<◌, ◌≤◌, List, [], ◌∷◌, ◌++◌, Bool, true, false, Option, Some, None, length, drop, get_or, refl, sym, ap, ap₂, ◌∙◌, arith, append-nil}
use Rattle.std.specs.List.{slice_get, zip}
use Rattle.std.specs.Option.{unwrap_or}
use Rattle.std.specs.Prelude.{codes, if◌then◌else◌}
use Rattle.asn_check_listing.specs.LongWords.{components_of_word}
use Rattle.asn_check_listing.specs.Parts.{Letters, either, led, marker_at, nothing}
use Rattle.asn_check_listing.specs.Types.{Included, between_members, components_behind, components_here, stands_here}
use Rattle.asn_check_listing.specs.inner.Cursor.{name_here}
use Rattle.asn_check_listing.proofs.Led.{grouped, led_both, nothing_behind, nothing_both, three_led}

abbrev begun : Bool → List Letters → Letters
begun first xs = led (codes " { ") (codes ", ") first xs

-- ---- the name at the cursor

pub found : (additional : Bool) (n : ℕ) (names : List Letters) (places : List (ℕ × Bool)) (i : ℕ) (place : ℕ × Bool) → i < length places → place ≡ get_or places i place → stands_here additional n place ≡ true → name_here additional n (drop i (zip names places)) ≡ slice_get names i
found additional n [] places zero place within at here = refl
found additional n [] places (suc i) place within at here = refl
found additional n (name ∷ names) [] zero place within at here = absurd (omega (arith, within))
found additional n (name ∷ names) [] (suc i) place within at here = absurd (omega (arith, within))
found additional n (name ∷ names) (p ∷ places) zero place within at here =
    ap (λ q. if stands_here additional n q then Some name else None) (sym at) ∙ ap (λ b. if b then Some name else None) here
found additional n (name ∷ names) (p ∷ places) (suc i) place within at here = found additional n names places i place (omega (arith, within)) at here

pub elsewhere : (additional : Bool) (n : ℕ) (names : List Letters) (places : List (ℕ × Bool)) (i : ℕ) (place : ℕ × Bool) → i < length places → place ≡ get_or places i place → stands_here additional n place ≡ false → name_here additional n (drop i (zip names places)) ≡ None
elsewhere additional n [] places zero place within at here = refl
elsewhere additional n [] places (suc i) place within at here = refl
elsewhere additional n (name ∷ names) [] zero place within at here = absurd (omega (arith, within))
elsewhere additional n (name ∷ names) [] (suc i) place within at here = absurd (omega (arith, within))
elsewhere additional n (name ∷ names) (p ∷ places) zero place within at here =
    ap (λ q. if stands_here additional n q then Some name else None) (sym at) ∙ ap (λ b. if b then Some name else None) here
elsewhere additional n (name ∷ names) (p ∷ places) (suc i) place within at here = elsewhere additional n names places i place (omega (arith, within)) at here

pub past : (additional : Bool) (n : ℕ) (names : List Letters) (places : List (ℕ × Bool)) (i : ℕ) → length places ≤ i → name_here additional n (drop i (zip names places)) ≡ None
past additional n [] places zero over = refl
past additional n [] places (suc i) over = refl
past additional n (name ∷ names) [] zero over = refl
past additional n (name ∷ names) [] (suc i) over = refl
past additional n (name ∷ names) (p ∷ places) zero over = absurd (omega (arith, over))
past additional n (name ∷ names) (p ∷ places) (suc i) over = past additional n names places i (omega (arith, over))

-- ---- names at one place

picked : (b : Bool) (x y : Letters) → (if b then Some x else None) ≡ Some y → (b ≡ true) × (x ≡ y)
picked true x y e = (refl, ap (λ o. unwrap_or o []) e)
picked false x y e = cc

passed : (b : Bool) (x : Letters) → (if b then Some x else None) ≡ None → b ≡ false
passed true x e = cc
passed false x e = refl

next_is : (i : ℕ) → suc i ≡ i + 1
next_is i = omega arith

-- one that stands there
taken : (additional : Bool) (n : ℕ) (cs : List Included) (i : ℕ) (name : Letters) → name_here additional n (drop i cs) ≡ Some name → (components_here additional n (drop i cs) ≡ (components_of_word ++ name) ∷ components_here additional n (drop (suc i) cs)) × (components_behind additional n (drop i cs) ≡ components_behind additional n (drop (suc i) cs))
taken additional n [] zero name e = cc
taken additional n [] (suc i) name e = cc
taken additional n (c ∷ cs) zero name e =
    let p = picked (stands_here additional n c.1) c.0 name e in (
      ap (λ b. if b then (components_of_word ++ c.0) ∷ components_here additional n cs else []) p.0 ∙ ap (λ x. (components_of_word ++ x) ∷ components_here additional n cs) p.1,
      ap (λ b. if b then components_behind additional n cs else c ∷ cs) p.0,
    )
taken additional n (c ∷ cs) (suc i) name e = taken additional n cs i name e

-- none stands there
none_here : (additional : Bool) (n : ℕ) (cs : List Included) → name_here additional n cs ≡ None → (components_here additional n cs ≡ []) × (components_behind additional n cs ≡ cs)
none_here additional n [] e = (refl, refl)
none_here additional n (c ∷ cs) e =
    let f = passed (stands_here additional n c.1) c.0 e in (
      ap (λ b. if b then (components_of_word ++ c.0) ∷ components_here additional n cs else []) f,
      ap (λ b. if b then components_behind additional n cs else c ∷ cs) f,
    )

-- what is to be written from the cursor on, whether no text stands before it, and what stands behind it, as from the first on
abbrev pub Kept : Bool → ℕ → List Included → ℕ → Letters → Bool → ℕ → Letters → Bool → Type 0
Kept additional n cs from out first i new none =
    (new ++ begun none (components_here additional n (drop i cs)) ≡ out ++ begun first (components_here additional n (drop from cs)))
    × (nothing none (components_here additional n (drop i cs)) ≡ nothing first (components_here additional n (drop from cs)))
    × (components_behind additional n (drop i cs) ≡ components_behind additional n (drop from cs))

pub turn : (additional : Bool) (n : ℕ) (cs : List Included) (from : ℕ) (out : Letters) (first : Bool) (i : ℕ) (old new : Letters) (none : Bool) (name : Letters)
    → Kept additional n cs from out first i old none
    → name_here additional n (drop i cs) ≡ Some name
    → new ≡ old ++ either none (codes " { ") (codes ", ") ++ components_of_word ++ name
    → Kept additional n cs from out first (i + 1) new false
turn additional n cs from out first i old new none name held e w = (written, kept, rest)
  where
    here : (components_here additional n (drop i cs) ≡ (components_of_word ++ name) ∷ components_here additional n (drop (i + 1) cs)) × (components_behind additional n (drop i cs) ≡ components_behind additional n (drop (i + 1) cs))
    here =
        let t = taken additional n cs i name e in (
          t.0 ∙ ap (λ j. (components_of_word ++ name) ∷ components_here additional n (drop j cs)) (next_is i),
          t.1 ∙ ap (λ j. components_behind additional n (drop j cs)) (next_is i),
        )

    parts : (a b c d : Letters) → a ++ b ++ c ++ d ≡ a ++ (b ++ (c ++ d))
    parts a b c d = grouped (a ++ b) c d ∙ grouped a b (c ++ d)

    written : new ++ begun false (components_here additional n (drop (i + 1) cs)) ≡ out ++ begun first (components_here additional n (drop from cs))
    written =
        ap (λ l. l ++ begun false (components_here additional n (drop (i + 1) cs))) (w ∙ parts old (either none (codes " { ") (codes ", ")) components_of_word name)
        ∙ grouped old (either none (codes " { ") (codes ", ") ++ (components_of_word ++ name)) (begun false (components_here additional n (drop (i + 1) cs)))
        ∙ ap (λ xs. old ++ begun none xs) (sym here.0)
        ∙ held.0

    kept : nothing false (components_here additional n (drop (i + 1) cs)) ≡ nothing first (components_here additional n (drop from cs))
    kept = nothing_behind (components_here additional n (drop (i + 1) cs)) ∙ sym (ap (nothing none) here.0) ∙ held.1

    rest : components_behind additional n (drop (i + 1) cs) ≡ components_behind additional n (drop from cs)
    rest = sym here.1 ∙ held.2

pub ended : (additional : Bool) (n : ℕ) (cs : List Included) (from : ℕ) (out : Letters) (first : Bool) (i : ℕ) (new : Letters) (none : Bool)
    → Kept additional n cs from out first i new none
    → name_here additional n (drop i cs) ≡ None
    → (new ≡ out ++ begun first (components_here additional n (drop from cs))) × (none ≡ nothing first (components_here additional n (drop from cs))) × (drop i cs ≡ components_behind additional n (drop from cs))
ended additional n cs from out first i new none held e =
    let stop = none_here additional n (drop i cs) e in (
      sym (append-nil new) ∙ sym (ap (λ xs. new ++ begun none xs) stop.0) ∙ held.0,
      sym (ap (nothing none) stop.0) ∙ held.1,
      sym stop.1 ∙ held.2,
    )

-- ---- what stands between two members

-- what is written and what is known of it, where names stand before the marker and behind it
pub all_between : (cs ds : List Included) (marker : Option ℕ) (n : ℕ) (out : Letters) (first none marked : Bool)
    → none ≡ nothing first (components_here false n cs)
    → marked ≡ nothing none (marker_at marker n)
    → ds ≡ components_behind false n cs
    → (out ++ begun first (components_here false n cs)) ++ begun none (marker_at marker n) ++ begun marked (components_here true n ds) ≡ out ++ begun first (between_members cs marker n)
all_between cs ds marker n out first none marked f m d =
    ap (λ es. (out ++ begun first (components_here false n cs)) ++ begun none (marker_at marker n) ++ begun marked (components_here true n es)) d
    ∙ three_led out first none marked (components_here false n cs) (marker_at marker n) (components_here true n (components_behind false n cs)) f m

pub nothing_between : (cs ds : List Included) (marker : Option ℕ) (n : ℕ) (first none marked : Bool)
    → none ≡ nothing first (components_here false n cs)
    → marked ≡ nothing none (marker_at marker n)
    → ds ≡ components_behind false n cs
    → nothing marked (components_here true n ds) ≡ nothing first (between_members cs marker n)
nothing_between cs ds marker n first none marked f m d =
    ap (λ es. nothing marked (components_here true n es)) d
    ∙ ap (λ b. nothing b (components_here true n (components_behind false n cs))) (m ∙ ap (λ b. nothing b (marker_at marker n)) f ∙ sym (nothing_both first (components_here false n cs) (marker_at marker n)))
    ∙ sym (nothing_both first (components_here false n cs ++ marker_at marker n) (components_here true n (components_behind false n cs)))
