-- What is told of a name, by its place among names that ascend.
use Rattle.std.proofs.Common.{◌≡◌, ℕ, zero, suc, ◌<◌, Bool, true, false, List, [], ◌∷◌, length, get_or, refl, sym, ap, ◌∙◌, arith}
use Rattle.std.specs.Prelude.{if◌then◌else◌}
use Rattle.std.specs.Str.{bytes_eq}
use Rattle.std.proofs.lemmas.Slice.Eq.{bytes_eq-Decides}
use Rattle.asn_names_graph.specs.Drawn.{Ascend, StandsAt}
use Rattle.asn_names_graph.proofs.Ascending.{one_place}
use Rattle.asn_link.specs.Linked.{is_told}

unlike : (b : Bool) → (b ≡ true → ⊥) → b ≡ false
unlike true f = absurd (f refl)
unlike false f = refl

-- the first of the name
first_told : (names : List (List ℕ)) (told : List Bool) (name : List ℕ) (x : ℕ) → length told ≡ length names → x < length names → get_or names x [] ≡ name →
    ((i : ℕ) → i < x → get_or names i [] ≡ name → ⊥) → is_told names told name ≡ get_or told x false
first_told [] told name x l h e others = absurd (omega (arith, h))
first_told (n ∷ names) [] name x l h e others = absurd cc
first_told (n ∷ names) (b ∷ told) name zero l h e others = ap (λ c. if c then b else is_told names told name) ((bytes_eq-Decides n name).1 e)
first_told (n ∷ names) (b ∷ told) name (suc x) l h e others =
    ap (λ c. if c then b else is_told names told name) (unlike (bytes_eq n name) (λ t. others 0 (omega arith) ((bytes_eq-Decides n name).0 t)))
    ∙ first_told names told name x (omega (arith, l)) (omega (arith, h)) e (λ i k f. others (suc i) (omega (arith, k)) f)

pub told_there : (names : List (List ℕ)) (told : List Bool) (name : List ℕ) (x : ℕ) → Ascend names → length told ≡ length names → StandsAt names name x → is_told names told name ≡ get_or told x false
told_there names told name x up l s = first_told names told name x l s.within s.is only
  where
    only : (i : ℕ) → i < x → get_or names i [] ≡ name → ⊥
    only i k f =
        let w : x < length names = s.within in
        let same : i ≡ x = one_place names i x up (omega (arith, k, w)) w (f ∙ sym s.is) in
        absurd (omega (arith, same, k))

pub told_nowhere : (names : List (List ℕ)) (told : List Bool) (name : List ℕ) → ((x : ℕ) → StandsAt names name x → ⊥) → is_told names told name ≡ false
told_nowhere [] told name none = refl
told_nowhere (n ∷ names) [] name none = refl
told_nowhere (n ∷ names) (b ∷ told) name none =
    ap (λ c. if c then b else is_told names told name) (unlike (bytes_eq n name) (λ t. none 0 (record { within = omega arith; is = (bytes_eq-Decides n name).0 t })))
    ∙ told_nowhere names told name (λ x s. let w : x < length names = s.within in none (suc x) (record { within = omega (arith, w); is = s.is }))
