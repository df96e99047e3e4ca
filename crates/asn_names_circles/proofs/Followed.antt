-- What is told of the names that a definition follows.
use Rattle.std.proofs.Common.{◌≡◌, ℕ, zero, suc, ◌+◌, ◌<◌, ◌⊎◌, ◌↔◌, inl, inr, Bool, true, false, Option, Some, None}
use Rattle.std.proofs.Common.{List, [], ◌∷◌, ◌++◌, length, map, get_or, take, refl, sym, ap, ◌∙◌, subst, arith}
use Rattle.std.specs.Prelude.{Contains, is_some}
use Rattle.std.specs.List.{AllZip}
use Rattle.std.proofs.lemmas.List.{get_or-map, map_more}
use Rattle.std.proofs.lemmas.List.Elements.{Contains-append_cases}
use Rattle.asn_tree.specs.declared.definitions.ToplevelDefinition.{ToplevelDefinition}
use Rattle.asn_names_index.specs.Definitions.{Definitions, IsStanding, last_named, name_of}
use Rattle.asn_names_circles.specs.Circles.{FollowedAreFree, FollowersAre, FreeAre, Leads, LeadsToNoCircle, Refers, at_once, further}
use Rattle.asn_names_graph.specs.Drawn.{StandsAt}
use Rattle.asn_names_circles.specs.inner.Followed.{AreAllFree, AreTold, FollowEach}
use Rattle.asn_names_graph.proofs.Added.{none_contained, one_contained}
use Rattle.asn_names_circles.proofs.Needed.{names_ascend, names_through, same_some, zip_at, zip_long}
use Rattle.asn_names_graph.proofs.Standing.{has_name, stands_for}

-- ---- one name

module _ (defs : Definitions) (names : List (List ℕ)) (free : List Bool) (are : AreTold defs names free) where
  pub within_free : (name : List ℕ) (place : ℕ) → StandsAt names name place → place < length free
  within_free name place s =
      let h : place < length names = s.within in
      let l : length names ≡ length free = zip_long _ names free are.told in
      omega (arith, h, l)

  pub free_there : (name : List ℕ) (place : ℕ) → StandsAt names name place → (get_or free place false ≡ true) ↔ LeadsToNoCircle defs name
  free_there name place s =
      subst (λ x. (get_or free place false ≡ true) ↔ LeadsToNoCircle defs x) s.is
      (zip_at (λ x b. (b ≡ true) ↔ LeadsToNoCircle defs x) names free place [] false are.told s.within)

-- what a name leads to begins at its definition
leads_defined : (defs : Definitions) (x : List ℕ) {y : List ℕ} → Leads (Refers defs) x y → is_some (last_named defs x) ≡ true
leads_defined defs x (at_once r) = ap is_some r.stands
leads_defined defs x (further l r) = leads_defined defs x l

-- a name without a definition leads nowhere
pub undefined_free : (defs : Definitions) (names : List (List ℕ)) (free : List Bool) (name : List ℕ) → AreTold defs names free →
    ((place : ℕ) → StandsAt names name place → ⊥) → LeadsToNoCircle defs name
undefined_free defs names free name are absent =
    let none = λ (y : List ℕ) (l : Leads (Refers defs) name y). (let p = are.complete name (leads_defined defs name l) in absent p.0 p.1) in
    record { itself = λ c. (let p = are.complete name (ap is_some c.stands) in absent p.0 p.1); others = λ y l c. none y l }

-- ---- several names

-- an item's name is among those of the list
among : {X : Type 0} (f : X → List ℕ) (xs : List X) (i : ℕ) (x : X) → i < length xs → x ≡ get_or xs i x → Contains (map f xs) (f x)
among f [] i x h is = absurd (omega (arith, h))
among f (y ∷ ys) zero x h is = (0, omega arith, ap f (sym is))
among f (y ∷ ys) (suc i) x h is =
    let c = among f ys i x (omega (arith, h)) is in
    (suc c.0, (let k : c.0 < length (map f ys) = c.1 in omega (arith, k)), c.2)

module _ (defs : Definitions) where
  pub none_followed : AreAllFree defs []
  none_followed y c = absurd (none_contained y c)

  one_more : (before : List (List ℕ)) (x : List ℕ) → AreAllFree defs before → LeadsToNoCircle defs x → AreAllFree defs (before ++ x ∷ [])
  one_more before x all free y c = go (Contains-append_cases before (x ∷ []) y c)
    where
      go : Contains before y ⊎ Contains (x ∷ []) y → LeadsToNoCircle defs y
      go (inl b) = all y b
      go (inr b) = subst (LeadsToNoCircle defs) (one_contained x y b) free

  pub more_free : {X : Type 0} (f : X → List ℕ) (xs : List X) (i : ℕ) (x : X) → i < length xs → x ≡ get_or xs i x →
      AreAllFree defs (map f (take i xs)) → LeadsToNoCircle defs (f x) → AreAllFree defs (map f (take (i + 1) xs))
  more_free f xs i x h is all free =
      let next : map f (take i xs) ++ f x ∷ [] ≡ map f (take (i + 1) xs) = ap (λ z. map f (take i xs) ++ f z ∷ []) is ∙ sym (map_more f xs i x h) in
      subst (AreAllFree defs) next (one_more (map f (take i xs)) (f x) all free)

  pub not_all_free : {X : Type 0} (f : X → List ℕ) (xs : List X) (i : ℕ) (x : X) → i < length xs → x ≡ get_or xs i x →
      (LeadsToNoCircle defs (f x) → ⊥) → AreAllFree defs (map f xs) → ⊥
  not_all_free f xs i x h is bound all = bound (all (f x) (among f xs i x h is))

-- ---- all definitions that stand

followers_named : (defs ds : Definitions) (told : List Bool) → ((i : ℕ) (d : ToplevelDefinition) → i < length ds → last_named defs (name_of (get_or ds i d)) ≡ Some (get_or ds i d)) →
    FollowEach defs ds told → FollowersAre defs (map name_of ds) told
followers_named defs [] [] stand all = tt
followers_named defs [] (b ∷ told) stand all = absurd all
followers_named defs (d ∷ ds) [] stand all = absurd all
followers_named defs (d ∷ ds) (b ∷ told) stand all = (
  (λ t e is. subst (FollowedAreFree defs) (same_some d e (sym (stand 0 d (omega arith)) ∙ is)) (all.0.0 t), λ f. all.0.1 (f d (stand 0 d (omega arith)))),
  followers_named defs ds told (λ i x h. stand (suc i) x (omega (arith, h))) all.1,
)

module _ {X : Type 0} (f : X → ToplevelDefinition) (defs : Definitions) (xs : List X) (standing : IsStanding defs (map f xs)) where
  stand_for : (i : ℕ) (d : ToplevelDefinition) → i < length (map f xs) → last_named defs (name_of (get_or (map f xs) i d)) ≡ Some (get_or (map f xs) i d)
  stand_for i d h = sym (standing.each (name_of (get_or (map f xs) i d))) ∙ stands_for (map f xs) i d standing.ascending h

  pub followers_told : (told : List Bool) → FollowEach defs (map f xs) told → FollowersAre defs (map (λ x. name_of (f x)) xs) told
  followers_told told all = subst (λ ns. FollowersAre defs ns told) (names_through f defs xs standing) (followers_named defs (map f xs) told stand_for all)

  place_in : (name : List ℕ) → is_some (last_named defs name) ≡ true → (place : ℕ) × StandsAt (map (λ x. name_of (f x)) xs) name place
  place_in name s = go (last_named defs name) refl s
    where
      go : (o : Option ToplevelDefinition) → last_named defs name ≡ o → is_some o ≡ true → (place : ℕ) × StandsAt (map (λ x. name_of (f x)) xs) name place
      go None e t = absurd cc
      go (Some d) e t =
          let h = has_name (map f xs) name d (standing.each name ∙ e) in
          let long = length-names (map f xs) in
          let k : h.place < length (map f xs) = h.within in
          let here : StandsAt (map name_of (map f xs)) name h.place =
          record { within = omega (arith, long, k); is = get_or-map name_of (map f xs) h.place d [] h.within ∙ ap name_of h.there ∙ h.named } in
          (h.place, subst (λ ns. StandsAt ns name h.place) (names_through f defs xs standing) here)
        where
          length-names : (ds : Definitions) → length (map name_of ds) ≡ length ds
          length-names [] = refl
          length-names (d ∷ ds) = ap suc (length-names ds)

  pub names_told : (names : List (List ℕ)) (free : List Bool) → names ≡ map (λ x. name_of (f x)) xs → FreeAre defs (map (λ x. name_of (f x)) xs) free → AreTold defs names free
  names_told names free same told =
      subst (λ ns. AreTold defs ns free) (sym same) (record { ascending = names_ascend f defs xs standing; complete = place_in; told = told })

-- ---- one definition more

-- what holds along both lists holds with one item more
zip_push : {A B : Type 0} (R : A → B → Type 0) (xs : List A) (ys : List B) (a : A) (b : B) → AllZip R xs ys → R a b → AllZip R (xs ++ a ∷ []) (ys ++ b ∷ [])
zip_push R [] [] a b all r = (r, tt)
zip_push R [] (y ∷ ys) a b all r = absurd all
zip_push R (x ∷ xs) [] a b all r = absurd all
zip_push R (x ∷ xs) (y ∷ ys) a b all r = (all.0, zip_push R xs ys a b all.1 r)

pub follow_more : {X : Type 0} (f : X → ToplevelDefinition) (defs : Definitions) (xs : List X) (i : ℕ) (x : X) (told new : List Bool) (b : Bool) → i < length xs → x ≡ get_or xs i x →
    new ≡ told ++ b ∷ [] → FollowEach defs (map f (take i xs)) told → ((b ≡ true) ↔ FollowedAreFree defs (f x)) → FollowEach defs (map f (take (i + 1) xs)) new
follow_more f defs xs i x told new b h is same all one =
    let next : map f (take i xs) ++ f x ∷ [] ≡ map f (take (i + 1) xs) = ap (λ z. map f (take i xs) ++ f z ∷ []) is ∙ sym (map_more f xs i x h) in
    subst (λ bs. FollowEach defs (map f (take (i + 1) xs)) bs) (sym same)
    (subst (λ ds. FollowEach defs ds (told ++ b ∷ [])) next (zip_push (λ d is_free. (is_free ≡ true) ↔ FollowedAreFree defs d) (map f (take i xs)) told (f x) b all one))
