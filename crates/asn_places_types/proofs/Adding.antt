-- Lists of sites put together, one by one.
use Rattle.std.proofs.Common.{◌≡◌, ℕ, ◌+◌, ◌<◌, ◌≤◌, List, [], ◌∷◌, ◌++◌, map, drop, length, get_or, refl, sym, ap, ◌∙◌, arith}
use Rattle.std.proofs.lemmas.List.{drop_more, drop_all, map-append}
use Rattle.std.specs.Borrow.{Bor}
use Rattle.asn_meaning_heads.specs.declared.places.Place.{Place as LentPlace}
use Rattle.asn_meaning_heads.specs.Places.{shown_place}
use Rattle.asn_needs.specs.Sites.{Site, each_of}
use Rattle.asn_places_types.specs.declared.sites.Site.{Site as LentSite}
use Rattle.asn_places_types.specs.declared.surroundings.Around.{Around}
use Rattle.asn_places_types.specs.Sites.{shown_around, shown_site, shown_sites}

pub regrouped : {A : Type 0} (a b c : List A) → (a ++ b) ++ c ≡ a ++ (b ++ c)
regrouped [] b c = refl
regrouped (x ∷ a) b c = ap (λ xs. x ∷ xs) (regrouped a b c)

pub ended : {A : Type 0} (a : List A) → a ++ [] ≡ a
ended [] = refl
ended (x ∷ a) = ap (λ xs. x ∷ xs) (ended a)

pub all_of_both : (all xs ys : List LentSite) → all ≡ xs ++ ys → shown_sites all ≡ shown_sites xs ++ shown_sites ys
all_of_both all xs ys e = ap shown_sites e ∙ map-append shown_site xs ys

pub one_more : (all xs : List LentSite) (x : LentSite) → all ≡ xs ++ x ∷ [] → shown_sites all ≡ shown_sites xs ++ shown_site x ∷ []
one_more all xs x e = all_of_both all xs (x ∷ []) e

pub nothing_more : (xs : List Site) → xs ≡ xs ++ []
nothing_more xs = sym (ended xs)

-- one run behind another
pub then_more : (all some xs a b : List Site) → some ≡ xs ++ a → all ≡ some ++ b → all ≡ xs ++ (a ++ b)
then_more all some xs a b e f = f ∙ ap (λ ys. ys ++ b) e ∙ regrouped xs a b

pub then_cons : (all some xs b : List Site) (x : Site) → some ≡ xs ++ x ∷ [] → all ≡ some ++ b → all ≡ xs ++ (x ∷ b)
then_cons all some xs b x e f = then_more all some xs (x ∷ []) b e f

pub then_two : (all some first xs a b c : List Site) → first ≡ xs ++ a → some ≡ first ++ b → all ≡ some ++ c → all ≡ xs ++ (a ++ b ++ c)
then_two all some first xs a b c e f g = then_more all some xs (a ++ b) c (then_more some first xs a b e f) g

pub then_three : (all some second first xs a b c d : List Site) → first ≡ xs ++ a → second ≡ first ++ b → some ≡ second ++ c → all ≡ some ++ d → all ≡ xs ++ (a ++ b ++ c ++ d)
then_three all some second first xs a b c d e f g h = then_more all some xs (a ++ b ++ c) d (then_two some second first xs a b c e f g) h

-- ---- names and places

abbrev pub name_now : Bor (List ℕ) → List ℕ
name_now n = n.now

pub names_more : (all xs : List (Bor (List ℕ))) (x : Bor (List ℕ)) → all ≡ xs ++ x ∷ [] → map (λ n. n.now) all ≡ map (λ n. n.now) xs ++ x.now ∷ []
names_more all xs x e = ap (map (λ n. n.now)) e ∙ map-append (λ n. n.now) xs (x ∷ [])

pub places_more : (all xs : List LentPlace) (x : LentPlace) → all ≡ xs ++ x ∷ [] → map shown_place all ≡ map shown_place xs ++ shown_place x ∷ []
places_more all xs x e = ap (map shown_place) e ∙ map-append shown_place xs (x ∷ [])

-- surroundings where nothing was followed
pub no_way : (around : Around) → around.way ≡ [] → shown_around around ≡ record (shown_around around) { way = [] }
no_way around e = ap (λ xs. record (shown_around around) { way = map shown_place xs }) e

-- ---- runs over a list

module _ {A B : Type 0} (f : A → List B) (xs : List A) where
  pub each_next : (i : ℕ) (x : A) (out : List B) {more whole : List B} → i < length xs → x ≡ get_or xs i x → out ++ each_of f (drop i xs) ≡ whole → more ≡ out ++ f x → more ++ each_of f (drop (i + 1) xs) ≡ whole
  each_next i x out lt e h is =
      ap (λ ys. ys ++ each_of f (drop (i + 1) xs)) is ∙ regrouped out (f x) (each_of f (drop (i + 1) xs))
      ∙ ap (λ ys. out ++ each_of f ys) (sym (drop_more xs i x lt ∙ ap (λ y. y ∷ drop (i + 1) xs) (sym e))) ∙ h

  pub each_done : (i : ℕ) {out whole : List B} → length xs ≤ i → out ++ each_of f (drop i xs) ≡ whole → out ≡ whole
  each_done i {out = out} le h = sym (ap (λ ys. out ++ each_of f ys) (drop_all i xs le) ∙ ended out) ∙ h

module _ {A B : Type 0} (f : A → B) (xs : List A) where
  pub map_next : (i : ℕ) (x : A) (out : List B) {more whole : List B} → i < length xs → x ≡ get_or xs i x → out ++ map f (drop i xs) ≡ whole → more ≡ out ++ f x ∷ [] → more ++ map f (drop (i + 1) xs) ≡ whole
  map_next i x out lt e h is =
      ap (λ ys. ys ++ map f (drop (i + 1) xs)) is ∙ regrouped out (f x ∷ []) (map f (drop (i + 1) xs))
      ∙ ap (λ ys. out ++ map f ys) (sym (drop_more xs i x lt ∙ ap (λ y. y ∷ drop (i + 1) xs) (sym e))) ∙ h

  pub map_done : (i : ℕ) {out whole : List B} → length xs ≤ i → out ++ map f (drop i xs) ≡ whole → out ≡ whole
  map_done i {out = out} le h = sym (ap (λ ys. out ++ map f ys) (drop_all i xs le) ∙ ended out) ∙ h
