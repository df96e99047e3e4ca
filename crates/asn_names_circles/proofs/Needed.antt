-- What names lead to is what the nodes at their places need.
use Rattle.std.proofs.Common.{◌≡◌, ℕ, zero, suc, ◌+◌, ◌<◌, ◌≤◌, ◌⊎◌, ◌↔◌, inl, inr, Bool, true, false, Option, Some, None}
use Rattle.std.proofs.Common.{List, [], ◌∷◌, length, map, get_or, refl, sym, ap, ◌∙◌, subst, arith}
use Rattle.std.specs.Prelude.{Contains, is_some}
use Rattle.std.specs.List.{AllZip}
use Rattle.std.proofs.lemmas.Bool.{cases_lt}
use Rattle.std.proofs.lemmas.List.{get_or-map, get_or_past, length-map}
use Rattle.std.proofs.lemmas.Simd.{map-map}
use Rattle.asn_tree.specs.declared.definitions.ToplevelDefinition.{ToplevelDefinition}
use Rattle.asn_names_graph.specs.Graphs.{Edges as Graph, HasEdge, Needs, at_once as needs_at_once, further as needs_further}
use Rattle.asn_names_graph.specs.Reach.{AreFree, IsMarked, LeadsToMarked}
use Rattle.asn_names_index.specs.Definitions.{Definitions, IsStanding, last_named, name_of}
use Rattle.asn_names_references.specs.References.{Names}
use Rattle.asn_names_circles.specs.Circles.{EachTold, Goes, Leads, LeadsToNone, Told, at_once, further}
use Rattle.asn_names_circles.specs.inner.Nodes.{AreEach}
use Rattle.asn_names_graph.specs.Drawn.{Ascend, IsDrawn, IsMentioned}
use Rattle.asn_names_graph.proofs.Added.{none_contained}
use Rattle.asn_names_graph.proofs.Ascending.{one_place}
use Rattle.asn_names_graph.proofs.Standing.{has_name, stands_for}

pub same_some : (d e : ToplevelDefinition) → Some d ≡ Some e → d ≡ e
same_some d e h = cc

pub iff_through : {A B C : Type 0} → A ↔ B → B ↔ C → A ↔ C
iff_through p q = ((λ a. q.0 (p.0 a)), (λ c. p.1 (q.1 c)))

-- what holds at each place holds along both lists
pub zipped : {A B : Type 0} (R : A → B → Type 0) (xs : List A) (ys : List B) (a : A) (b : B) → length ys ≡ length xs →
    ((i : ℕ) → i < length ys → R (get_or xs i a) (get_or ys i b)) → AllZip R xs ys
zipped R [] [] a b l h = tt
zipped R [] (y ∷ ys) a b l h = absurd (omega arith)
zipped R (x ∷ xs) [] a b l h = absurd (omega arith)
zipped R (x ∷ xs) (y ∷ ys) a b l h = (h 0 (omega arith), zipped R xs ys a b (omega arith) (λ i k. h (suc i) (omega arith)))

pub zip_at : {A B : Type 0} (R : A → B → Type 0) (xs : List A) (ys : List B) (i : ℕ) (a : A) (b : B) → AllZip R xs ys → i < length xs → R (get_or xs i a) (get_or ys i b)
zip_at R [] ys i a b all h = absurd (omega (arith, h))
zip_at R (x ∷ xs) [] i a b all h = absurd all
zip_at R (x ∷ xs) (y ∷ ys) zero a b all h = all.0
zip_at R (x ∷ xs) (y ∷ ys) (suc i) a b all h = zip_at R xs ys i a b all.1 (omega (arith, h))

pub zip_long : {A B : Type 0} (R : A → B → Type 0) (xs : List A) (ys : List B) → AllZip R xs ys → length xs ≡ length ys
zip_long R [] [] all = refl
zip_long R [] (y ∷ ys) all = absurd all
zip_long R (x ∷ xs) [] all = absurd all
zip_long R (x ∷ xs) (y ∷ ys) all = ap suc (zip_long R xs ys all.1)

-- ---- the definitions that stand

module _ (defs ds : Definitions) (standing : IsStanding defs ds) where
  abbrev pub name_at : ℕ → List ℕ
  name_at i = get_or (map name_of ds) i []

  pub long : length (map name_of ds) ≡ length ds
  long = length-map ds name_of

  -- the name at the place of a definition
  pub name_is : (i : ℕ) (d : ToplevelDefinition) → i < length ds → name_at i ≡ name_of (get_or ds i d)
  name_is i d h = get_or-map name_of ds i d [] h

  -- the name at a place stands for the definition there
  pub stands : (i : ℕ) (d : ToplevelDefinition) → i < length ds → last_named defs (name_at i) ≡ Some (get_or ds i d)
  stands i d h =
      sym (standing.each (name_at i))
      ∙ ap (last_named ds) (name_is i d h)
      ∙ stands_for ds i d standing.ascending h

  -- no two places have one name
  pub one : (i j : ℕ) → i < length ds → j < length ds → name_at i ≡ name_at j → i ≡ j
  one i j h k e =
      let l : length (map name_of ds) ≡ length ds = long in
      one_place (map name_of ds) i j standing.ascending (omega arith) (omega arith) e

  -- some definition stands at a place
  pub some_at : (i : ℕ) → i < length ds → ToplevelDefinition
  some_at i h = first ds i h
    where
      first : (ds : Definitions) (i : ℕ) → i < length ds → ToplevelDefinition
      first [] i h = absurd (omega arith)
      first (x ∷ ds) i h = x

  pub is_defined : (i : ℕ) → i < length ds → is_some (last_named defs (name_at i)) ≡ true
  is_defined i h = ap is_some (stands i (some_at i h) h)

  -- the place of a name that has a definition
  pub place_of : (name : List ℕ) → is_some (last_named defs name) ≡ true → (i : ℕ) × (i < length ds) × (name_at i ≡ name)
  place_of name s = go (last_named defs name) refl s
    where
      go : (o : Option ToplevelDefinition) → last_named defs name ≡ o → is_some o ≡ true → (i : ℕ) × (i < length ds) × (name_at i ≡ name)
      go None e t = absurd cc
      go (Some d) e t =
          let h = has_name ds name d (standing.each name ∙ e) in
          (h.place, h.within, name_is h.place d h.within ∙ ap name_of h.there ∙ h.named)

-- ---- one graph of them

-- `lists` has for each definition names that are such of it, and no others are
module _ (Are : Told) (defs ds : Definitions) (standing : IsStanding defs ds) (lists : List Names) (are : AreEach Are (map name_of ds) ds lists)
    (only : (x : List ℕ) (d : ToplevelDefinition) (names others : Names) → Are x d names → Are x d others → names ≡ others)
    (g : Graph) (drawn : IsDrawn (map name_of ds) lists g) where
  abbrev name : ℕ → List ℕ
  name = name_at defs ds standing

  -- an edge begins at the place of a definition
  edge_within : (x y : ℕ) → HasEdge g x y → x < length ds
  edge_within x y e = go (cases_lt x (length ds)) ((drawn.edges x y).0 e)
    where
      go : (x < length ds) ⊎ (length ds ≤ x) → IsMentioned (map name_of ds) (get_or lists x []) y → x < length ds
      go (inl h) m = h
      go (inr h) m = absurd (
          let l : length lists ≡ length ds = are.long in
          none_contained (name y) (subst (λ rs. Contains rs (name y)) (get_or_past lists x [] (omega arith)) m.among))

  edge_target : (x y : ℕ) → HasEdge g x y → y < length ds
  edge_target x y e = let h : y < length (map name_of ds) = ((drawn.edges x y).0 e).within in let l : length (map name_of ds) ≡ length ds = long defs ds standing in omega arith

  edge_goes : (x y : ℕ) → HasEdge g x y → Goes Are defs (name x) (name y)
  edge_goes x y e =
      let h : x < length ds = edge_within x y e in
      let d : ToplevelDefinition = some_at defs ds standing x h in
      record {
        definition = get_or ds x d;
        stands = stands defs ds standing x d h;
        names = get_or lists x [];
        are = are.each x d h;
        among = ((drawn.edges x y).0 e).among;
        defined = is_defined defs ds standing y (edge_target x y e);
      }

  -- what one comes to from the name at a place stands at a place to which the node leads
  abbrev Reaches : (ℕ → ℕ → Type 0) → ℕ → List ℕ → Type 0
  Reaches R x n = (y : ℕ) × (y < length ds) × (name y ≡ n) × R x y

  goes_edge : (x : ℕ) (n : List ℕ) → x < length ds → Goes Are defs (name x) n → Reaches (HasEdge g) x n
  goes_edge x n h r =
      let p = place_of defs ds standing n r.defined in
      let d : ToplevelDefinition = some_at defs ds standing x h in
      let same : r.definition ≡ get_or ds x d = same_some r.definition (get_or ds x d) (sym r.stands ∙ stands defs ds standing x d h) in
      let here : r.names ≡ get_or lists x [] = only (name x) (get_or ds x d) r.names (get_or lists x []) (subst (λ e. Are (name x) e r.names) same r.are) (are.each x d h) in
      let among = subst (λ m. Contains (get_or lists x []) m) (sym p.2) (subst (λ rs. Contains rs n) here r.among) in
      let l : length (map name_of ds) ≡ length ds = long defs ds standing in
      (p.0, p.1, p.2, (drawn.edges x p.0).1 (record { within = (let k : p.0 < length ds = p.1 in omega arith); among = among }))

  pub needs_leads : {x y : ℕ} → Needs g x y → Leads (Goes Are defs) (name x) (name y)
  needs_leads {x} {y} (needs_at_once e) = at_once (edge_goes x y e)
  needs_leads {x} (needs_further {y = y} {z = z} n e) = further (needs_leads n) (edge_goes y z e)

  pub leads_needs : (x : ℕ) {n : List ℕ} → x < length ds → Leads (Goes Are defs) (name x) n → Reaches (Needs g) x n
  leads_needs x h (at_once {y = n} r) =
      let e = goes_edge x n h r in
      (e.0, e.1, e.2, needs_at_once e.3)
  leads_needs x h (further {y = middle} {z = n} l r) =
      let m = leads_needs x h l in
      let e = goes_edge m.0 n m.1 (subst (λ k. Goes Are defs k n) (sym m.2) r) in
      (e.0, e.1, e.2, needs_further m.3 e.3)

  -- a name leads to itself where its node needs itself
  pub circle_iff : (x : ℕ) → x < length ds → Needs g x x ↔ Leads (Goes Are defs) (name x) (name x)
  circle_iff x h = (
    (λ n. needs_leads n),
    (λ l. (let n = leads_needs x h l in subst (λ y. Needs g x y) (one defs ds standing n.0 x n.1 h n.2) n.3)),
  )

  needed_within : (x y : ℕ) → Needs g x y → y < length ds
  needed_within x y (needs_at_once e) = edge_target x y e
  needed_within x y (needs_further {y = z} n e) = edge_target z y e

  module _ (IsSuch : List ℕ → Type 0) (marked : List Bool) (told : EachTold IsSuch (map name_of ds) marked) where
    mark_iff : (x : ℕ) → x < length ds → IsMarked marked x ↔ IsSuch (name x)
    mark_iff x h =
        let l : length (map name_of ds) ≡ length ds = long defs ds standing in
        zip_at (λ n b. (b ≡ true) ↔ IsSuch n) (map name_of ds) marked x [] false told (omega arith)

    free_iff : (x : ℕ) → x < length ds → (LeadsToMarked g marked x → ⊥) ↔ LeadsToNone (Goes Are defs) IsSuch (name x)
    free_iff x h = (go, come)
      where
        go : (LeadsToMarked g marked x → ⊥) → LeadsToNone (Goes Are defs) IsSuch (name x)
        go f = record { itself = λ c. f (inl ((mark_iff x h).1 c)); others = λ n l c. other n (leads_needs x h l) c }
          where
            other : (n : List ℕ) → Reaches (Needs g) x n → IsSuch n → ⊥
            other n m c = f (inr (m.0, m.3, (mark_iff m.0 m.1).1 (subst IsSuch (sym m.2) c)))

        come : LeadsToNone (Goes Are defs) IsSuch (name x) → LeadsToMarked g marked x → ⊥
        come f (inl m) = f.itself ((mark_iff x h).0 m)
        come f (inr (y, n, m)) = f.others (name y) (needs_leads n) ((mark_iff y (needed_within x y n)).0 m)

    -- of which nodes no marked one is needed, their names lead to no such
    pub free_told : (free : List Bool) → AreFree g marked free → EachTold (LeadsToNone (Goes Are defs) IsSuch) (map name_of ds) free
    free_told free are_free = zipped (λ n b. (b ≡ true) ↔ LeadsToNone (Goes Are defs) IsSuch n) (map name_of ds) free [] false free_long at
      where
        free_long : length free ≡ length (map name_of ds)
        free_long =
            let a : length free + 1 ≡ length g.starts = are_free.long in
            let b : length g.starts ≡ length lists + 1 = drawn.long in
            let c : length lists ≡ length ds = are.long in
            let d : length (map name_of ds) ≡ length ds = long defs ds standing in
            omega arith

        at : (i : ℕ) → i < length free → (get_or free i false ≡ true) ↔ LeadsToNone (Goes Are defs) IsSuch (name i)
        at i h =
            let l : length (map name_of ds) ≡ length ds = long defs ds standing in
            let f : length free ≡ length (map name_of ds) = free_long in
            let k : i < length ds = omega arith in
            iff_through (are_free.each i h) (free_iff i k)

-- ---- definitions behind references

module _ {X : Type 0} (f : X → ToplevelDefinition) (defs : Definitions) (xs : List X) (standing : IsStanding defs (map f xs)) where
  pub names_through : map name_of (map f xs) ≡ map (λ x. name_of (f x)) xs
  names_through = map-map name_of f xs

  -- the names of definitions that stand ascend
  pub names_ascend : Ascend (map (λ x. name_of (f x)) xs)
  names_ascend = subst Ascend names_through standing.ascending
