-- Values in a value, one behind the other.
use Rattle.std.proofs.Common.{◌≡◌, ℕ, ◌+◌, ◌<◌, ◌≤◌, List, [], ◌∷◌, ◌++◌, map, drop, length, get_or, Bool, true, false, Some, None, is_some, if◌then◌else◌, refl, sym, ap, ◌∙◌}
use Rattle.std.specs.Prelude.{◌&&◌}
use Rattle.std.proofs.lemmas.List.{drop_more, drop_all}
use Rattle.std.proofs.lemmas.Simd.{map-map}
use Rattle.std.specs.List.{list_all}
use Rattle.asn_meaning.specs.Meaning.{Member}
use Rattle.asn_meaning.specs.Members.{member_named}
use Rattle.asn_meaning.specs.Written.{Items, NamedValues}
use Rattle.asn_needs.specs.PartsOfValues.{arcs_parts, inside, item_type, named_parts}
use Rattle.asn_needs.specs.Sites.{Site}
use Rattle.asn_places_types.proofs.Adding.{ended}

-- what a run gives that was gone through by what it shows
pub run_done : {A B C : Type 0} (f : B → C) (g : A → B) (xs : List A) (out some : List C) → out ≡ some ++ map (λ x. f (g x)) xs → out ≡ some ++ map f (map g xs)
run_done f g xs out some is = is ∙ sym (ap (λ ys. some ++ ys) (map-map f g xs))

-- ---- items

untyped_items : (s : Site) (items : Items) → map (λ item. inside s (item_type [] item.0) item.1) items ≡ map (λ item. inside s None item.1) items
untyped_items s [] = refl
untyped_items s ((None, v) ∷ items) = ap (λ xs. inside s None v ∷ xs) (untyped_items s items)
untyped_items s ((Some name, v) ∷ items) = ap (λ xs. inside s None v ∷ xs) (untyped_items s items)

pub free_items : (s : Site) (items : Items) (xs all : List Site) → all ≡ xs ++ map (λ item. inside s (item_type [] item.0) item.1) items → all ≡ xs ++ map (λ item. inside s None item.1) items
free_items s items xs all is = is ∙ ap (λ ys. xs ++ ys) (untyped_items s items)

-- ---- fields that were read as arcs

pub arcs_fit : (s : Site) (ms : List Member) (fields : NamedValues) (xs all : List Site) → list_all (λ f. is_some (member_named ms f.0)) fields ≡ true → all ≡ xs ++ named_parts s ms fields →
    all ≡ xs ++ arcs_parts s ms fields
arcs_fit s ms fields xs all e is = is ∙ sym (ap (λ b. xs ++ (if b then named_parts s ms fields else [])) e)

pub arcs_stay : (s : Site) (ms : List Member) (fields : NamedValues) (xs : List Site) → list_all (λ f. is_some (member_named ms f.0)) fields ≡ false → xs ≡ xs ++ arcs_parts s ms fields
arcs_stay s ms fields xs e = sym (ap (λ b. xs ++ (if b then named_parts s ms fields else [])) e ∙ ended xs)

-- ---- a test of all, in turn

module _ {A B : Type 0} (f : B → Bool) (g : A → B) (xs : List A) where
  first : (i : ℕ) (x : A) (b : Bool) → i < length xs → x ≡ get_or xs i x → f (g x) ≡ b → list_all f (map g (drop i xs)) ≡ (b && list_all f (map g (drop (i + 1) xs)))
  first i x b lt e is =
      ap (λ ys. list_all f (map g ys)) (drop_more xs i x lt ∙ ap (λ y. y ∷ drop (i + 1) xs) (sym e))
      ∙ ap (λ c. c && list_all f (map g (drop (i + 1) xs))) is

  pub all_next : (i : ℕ) (x : A) → i < length xs → x ≡ get_or xs i x → f (g x) ≡ true → list_all f (map g (drop i xs)) ≡ list_all f (map g (drop (i + 1) xs))
  all_next i x lt e is = first i x true lt e is

  pub all_fails : (i : ℕ) (x : A) → i < length xs → x ≡ get_or xs i x → f (g x) ≡ false → list_all f (map g (drop i xs)) ≡ false
  all_fails i x lt e is = first i x false lt e is

  pub all_done : (i : ℕ) → length xs ≤ i → list_all f (map g (drop i xs)) ≡ true
  all_done i le = ap (λ ys. list_all f (map g ys)) (drop_all i xs le)
