-- What a work list holds: everything that stands, once what stands in each item is in the list.
use Rattle.std.proofs.Common.{◌≡◌, ℕ, ◌+◌, ◌<◌, ◌≤◌, List, ◌++◌, map, take, length, get_or, sym, subst, ap, ◌∙◌, arith}
use Rattle.std.specs.List.{All, Contains}
use Rattle.std.proofs.lemmas.List.{get_or-map, map-append, length-map, take_all, take-append-le}
use Rattle.std.proofs.lemmas.List.Elements.{All-append, All-contains, All-contains_itself, All-more, All-nil, All-weaker, Contains-append_left, Contains-append_right}
use Rattle.asn_needs.specs.Sites.{Seen, Site}
use Rattle.asn_needs.specs.Stands.{StandsIn, at_first, parts, within}
use Rattle.asn_places_types.specs.Sites.{shown_site}
use Rattle.asn_places_types.specs.declared.sites.Site.{Site as LentSite}

-- ---- any list, and what stands below each item

-- The list holds the first ones, nothing that does not stand, and what is below each of the items before this number.
pub record Reaches {A : Type 0} (below : A → List A) (first : List A) (Stands : A → Type 0) (i : ℕ) (xs : List A) : Type 0 where
  pub has_first : All (Contains xs) first
  pub stand : All Stands xs
  pub closed : All (λ x. All (Contains xs) (below x)) (take i xs)

module _ {A : Type 0} (below : A → List A) (first : List A) (Stands : A → Type 0) where
  pub reaches_first : All Stands first → Reaches below first Stands 0 first
  reaches_first stand = record { has_first = All-contains_itself first; stand = stand; closed = All-nil (λ x. All (Contains first) (below x)) }

  wider : (xs ys zs : List A) → All (Contains xs) zs → All (Contains (xs ++ ys)) zs
  wider xs ys zs h = All-weaker (Contains xs) (Contains (xs ++ ys)) (Contains-append_left xs ys) zs h

  behind : (xs ys : List A) → All (Contains (xs ++ ys)) ys
  behind xs ys = All-weaker (Contains ys) (Contains (xs ++ ys)) (Contains-append_right xs ys) ys (All-contains_itself ys)

  abbrev Closed : List A → A → Type 0
  Closed xs x = All (Contains xs) (below x)

  closed_next : (i : ℕ) (xs ys : List A) (x : A) → All (Closed xs) (take i xs) → i < length xs → x ≡ get_or xs i x → ys ≡ below x → All (Closed (xs ++ ys)) (take (i + 1) (xs ++ ys))
  closed_next i xs ys x closed lt e is =
      subst (All (Closed (xs ++ ys))) (sym (take-append-le (i + 1) xs ys (omega (arith, lt))))
      (All-more (Closed (xs ++ ys)) xs i x lt
      (All-weaker (Closed xs) (Closed (xs ++ ys)) (λ y h. wider xs ys (below y) h) (take i xs) closed)
      (subst (Closed (xs ++ ys)) e (subst (All (Contains (xs ++ ys))) is (behind xs ys))))

  pub reaches_next : (i : ℕ) (xs ys : List A) (x : A) → Reaches below first Stands i xs → i < length xs → x ≡ get_or xs i x → ys ≡ below x → All Stands ys → Reaches below first Stands (i + 1) (xs ++ ys)
  reaches_next i xs ys x r lt e is stand =
      record { has_first = wider xs ys first r.has_first; stand = All-append Stands xs ys r.stand stand; closed = closed_next i xs ys x r.closed lt e is }

  pub reaches_all : (i : ℕ) (xs : List A) → Reaches below first Stands i xs → length xs ≤ i → (x : A) → Contains xs x → All (Contains xs) (below x)
  reaches_all i xs r le x c = All-contains (Closed xs) xs x (subst (All (Closed xs)) (take_all i xs le) r.closed) c

-- ---- sites

abbrev pub Reached : Seen → List Site → ℕ → List LentSite → Type 0
Reached n first i xs = Reaches (parts n) first (StandsIn n first) i (map shown_site xs)

pub begun : (n : Seen) (first : List LentSite) → Reached n (map shown_site first) 0 first
begun n first =
    reaches_first (parts n) (map shown_site first) (StandsIn n (map shown_site first))
    (All-weaker (Contains (map shown_site first)) (StandsIn n (map shown_site first)) (λ s c. at_first c) (map shown_site first) (All-contains_itself (map shown_site first)))

shown_at : (xs : List LentSite) (i : ℕ) (x : LentSite) (d : Site) → i < length xs → x ≡ get_or xs i x → get_or (map shown_site xs) i d ≡ shown_site x
shown_at xs i x d lt e = get_or-map shown_site xs i x d lt ∙ ap shown_site (sym e)

shown_within : (xs : List LentSite) (i : ℕ) → i < length xs → i < length (map shown_site xs)
shown_within xs i lt = subst (λ n. i < n) (sym (length-map xs shown_site)) lt

-- what stands in a site of the list stands
below_stand : (n : Seen) (first : List Site) (xs : List LentSite) (i : ℕ) (x : LentSite) → i < length xs → x ≡ get_or xs i x → All (StandsIn n first) (map shown_site xs) → All (StandsIn n first) (parts n (shown_site x))
below_stand n first xs i x lt e stand = All-weaker (Contains (parts n (shown_site x))) (StandsIn n first) (λ s c. within stands c) (parts n (shown_site x)) (All-contains_itself (parts n (shown_site x)))
  where
    stands : StandsIn n first (shown_site x)
    stands = subst (StandsIn n first) (shown_at xs i x (shown_site x) lt e) (stand i (shown_site x) (shown_within xs i lt))

pub next : (n : Seen) (first : List Site) (i : ℕ) (xs found all : List LentSite) (x : LentSite) → Reached n first i xs → i < length xs → x ≡ get_or xs i x → map shown_site found ≡ parts n (shown_site x) → map shown_site all ≡ map shown_site xs ++ map shown_site found → Reached n first (i + 1) all
next n first i xs found all x r lt e is joined =
    subst (Reaches (parts n) first (StandsIn n first) (i + 1)) (sym joined)
    (reaches_next (parts n) first (StandsIn n first) i (map shown_site xs) (map shown_site found) (shown_site x) r (shown_within xs i lt) (sym (shown_at xs i x (shown_site x) lt e)) is
    (subst (All (StandsIn n first)) (sym is) (below_stand n first xs i x lt e r.stand)))

-- what stands is in a list that is closed
held : (n : Seen) (first xs : List Site) → All (Contains xs) first → ((x : Site) → Contains xs x → All (Contains xs) (parts n x)) → (s : Site) → StandsIn n first s → Contains xs s
held n first xs has closed s (at_first c) = All-contains (Contains xs) first s has c
held n first xs has closed t (within {s = s} h c) = All-contains (Contains xs) (parts n s) t (closed s (held n first xs has closed s h)) c

pub done : (n : Seen) (first : List Site) (i : ℕ) (xs : List LentSite) → Reached n first i xs → length xs ≤ i → (s : Site) → (StandsIn n first s → Contains (map shown_site xs) s) × (Contains (map shown_site xs) s → StandsIn n first s)
done n first i xs r le s = (
  held n first (map shown_site xs) r.has_first (reaches_all (parts n) first (StandsIn n first) i (map shown_site xs) r (subst (λ k. k ≤ i) (sym (length-map xs shown_site)) le)) s,
  All-contains (StandsIn n first) (map shown_site xs) s r.stand,
)

pub joined : (all xs ys : List LentSite) → all ≡ xs ++ ys → map shown_site all ≡ map shown_site xs ++ map shown_site ys
joined all xs ys e = ap (map shown_site) e ∙ map-append shown_site xs ys
