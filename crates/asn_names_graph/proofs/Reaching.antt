-- What is told of nodes that lead to marked ones.
use Rattle.std.proofs.Common.{◌≡◌, ℕ, zero, suc, ◌+◌, ◌<◌, ◌≤◌, ◌⊎◌, inl, inr, Bool, true, false, List, [], ◌∷◌, length, map, get_or, refl, ap, sym, ◌∙◌, subst, arith, get_or-set_same, get_or-set_other}
use Rattle.std.proofs.Math.ListN.{set}
use Rattle.std.specs.Prelude.{◌↔◌, not}
use Rattle.std.proofs.lemmas.List.{get_or-map, length-map}
use Rattle.std.proofs.lemmas.Bool.{cases_eq, cases_lt}
use Rattle.asn_names_graph.specs.Graphs.{Edges, edges_of, HasEdge, IsNode, IsOrder, Needs, at_once, further}
use Rattle.asn_names_graph.specs.Reach.{AreFree, AreLeading, IsMarked, LeadsToMarked}
use Rattle.asn_names_graph.specs.inner.Spread.{AreSpread, IsClosed, LeadsOn, missing}
use Rattle.asn_names_graph.proofs.Orders.{has_at, has_place}

-- ---- one more node is told

marked_still : (told : List Bool) (node x : ℕ) → IsMarked told x → IsMarked (set told node true) x
marked_still told node x m = go (cases_eq x node)
  where
    within : (bs : List Bool) (i : ℕ) → get_or bs i false ≡ true → i < length bs
    within [] i e = absurd cc
    within (b ∷ bs) zero e = omega arith
    within (b ∷ bs) (suc i) e = let h = within bs i e in omega (arith, h)

    go : (x ≡ node) ⊎ (x ≡ node → ⊥) → IsMarked (set told node true) x
    go (inl e) = subst (λ y. get_or (set told y true) x false ≡ true) e (get_or-set_same told x true false (within told x m))
    go (inr n) = get_or-set_other told node x true false n ∙ m

marked_before : (told : List Bool) (node x : ℕ) → IsMarked (set told node true) x → IsMarked told x ⊎ (x ≡ node)
marked_before told node x m = go (cases_eq x node)
  where
    go : (x ≡ node) ⊎ (x ≡ node → ⊥) → IsMarked told x ⊎ (x ≡ node)
    go (inl e) = inr e
    go (inr n) = inl (sym (get_or-set_other told node x true false n) ∙ m)

pub missing_less : (told : List Bool) (node : ℕ) → node < length told → (IsMarked told node → ⊥) → missing (set told node true) + 1 ≡ missing told
missing_less [] node h n = absurd (omega (arith, h))
missing_less (true ∷ told) zero h n = absurd (n refl)
missing_less (false ∷ told) zero h n = omega arith
missing_less (true ∷ told) (suc node) h n = missing_less told node (omega (arith, h)) n
missing_less (false ∷ told) (suc node) h n = let e = missing_less told node (omega (arith, h)) n in omega (arith, e)

-- a turn that told of a node leaves fewer than there were at first
pub fewer_left : {P : Type 0} (any : Bool) (first told new : List Bool) → missing new + 1 ≡ missing told → (any ≡ false → (told ≡ first) × P) →
    (any ≡ true → missing told < missing first) → missing new < missing first
fewer_left true first told new one none some = let l = some refl in omega (arith, one, l)
fewer_left false first told new one none some = let e : missing told ≡ missing first = ap missing (none refl).0 in omega (arith, one, e)

module _ (g : Edges) where
  -- one node more that leads to none which is told, or is told itself
  pub closed_more : (order : List ℕ) (told new : List Bool) (k : ℕ) → new ≡ told →
      ((i : ℕ) → i < k → LeadsOn g told (get_or order i 0) → IsMarked told (get_or order i 0)) → (LeadsOn g told (get_or order k 0) → IsMarked told (get_or order k 0)) →
      (i : ℕ) → i < k + 1 → LeadsOn g new (get_or order i 0) → IsMarked new (get_or order i 0)
  closed_more order told new k same before now i h l =
      subst (λ t. IsMarked t (get_or order i 0)) (sym same) (go (cases_lt i k) (subst (λ t. LeadsOn g t (get_or order i 0)) same l))
    where
      go : (i < k) ⊎ (k ≤ i) → LeadsOn g told (get_or order i 0) → IsMarked told (get_or order i 0)
      go (inl m) = before i m
      go (inr m) = let e : k ≡ i = omega arith in subst (λ j. LeadsOn g told (get_or order j 0) → IsMarked told (get_or order j 0)) e now

  -- what leads to a node that leads to a marked one leads to a marked one
  led_on : (before : List Bool) (x y : ℕ) → HasEdge g x y → LeadsToMarked g before y → LeadsToMarked g before x
  led_on before x y e (inl m) = inr (y, at_once e, m)
  led_on before x y e (inr (z, n, m)) = inr (z, joined e n, m)
    where
      joined : {z : ℕ} → HasEdge g x y → Needs g y z → Needs g x z
      joined e (at_once f) = further (at_once e) f
      joined e (further n f) = further (joined e n) f

  pub spread_on : (before told : List Bool) (node : ℕ) → AreSpread g before told → LeadsOn g told node → AreSpread g before (set told node true)
  spread_on before told node s (y, e, m) = record { stays = λ x n. marked_still told node x (s.stays x n); led = λ x n. go x (marked_before told node x n) }
    where
      go : (x : ℕ) → IsMarked told x ⊎ (x ≡ node) → LeadsToMarked g before x
      go x (inl n) = s.led x n
      go x (inr i) = led_on before x y (subst (λ z. HasEdge g z y) (sym i) e) (s.led y m)

  -- the same over two turns
  pub spread_again : (before mid told : List Bool) → AreSpread g before mid → AreSpread g mid told → AreSpread g before told
  spread_again before mid told a b = record { stays = λ x m. b.stays x (a.stays x m); led = λ x m. go x (b.led x m) }
    where
      back : (x y : ℕ) → Needs g x y → LeadsToMarked g before y → LeadsToMarked g before x
      back x y (at_once e) m = led_on before x y e m
      back x y (further {y = z} n e) m = back x z n (led_on before z y e m)

      go : (x : ℕ) → LeadsToMarked g mid x → LeadsToMarked g before x
      go x (inl m) = a.led x m
      go x (inr (y, n, m)) = back x y n (a.led y m)

  -- ---- the end

  module _ (marked told : List Bool) (order : List ℕ) (is : IsOrder g order) (s : AreSpread g marked told) (closed : IsClosed g order told)
      (from : (x y : ℕ) → HasEdge g x y → IsNode g x) where
    told_back : (x y : ℕ) → HasEdge g x y → IsMarked told y → IsMarked told x
    told_back x y e m =
        let p = has_place order x ((is.nodes x).1 (from x y e)) in
        subst (IsMarked told) p.2 (closed p.0 p.1 (y, subst (λ z. HasEdge g z y) (sym p.2) e, m))

    all_back : (x y : ℕ) → Needs g x y → IsMarked told y → IsMarked told x
    all_back x y (at_once e) m = told_back x y e m
    all_back x y (further {y = z} n e) m = all_back x z n (told_back z y e m)

    leading : (x : ℕ) → LeadsToMarked g marked x → IsMarked told x
    leading x (inl m) = s.stays x m
    leading x (inr (y, n, m)) = all_back x y n (s.stays y m)

    pub all_leading : length told + 1 ≡ length g.starts → AreLeading g marked told
    all_leading long = record { long = long; each = λ x k. (s.led x, leading x) }

-- the nodes of an order are nodes
pub order_within : (g : Edges) (order : List ℕ) → IsOrder g order → (i : ℕ) → i < length order → IsNode g (get_or order i 0)
order_within g order is i h = (is.nodes (get_or order i 0)).0 (has_at order i h)

-- a graph by its two lists
pub edges_same : (g : Edges) (starts targets : List ℕ) → starts ≡ g.starts → targets ≡ g.targets → edges_of starts targets ≡ g
edges_same g starts targets e f = ap (λ s. edges_of s targets) e ∙ ap (λ t. edges_of g.starts t) f

-- the nodes that lead to no marked one, where it is told of each whether it leads to one
pub free_left : (g : Edges) (marked leading free : List Bool) → AreLeading g marked leading → free ≡ map not leading → AreFree g marked free
free_left g marked leading free told is = record { long = long; each = each }
  where
    same : length free ≡ length leading
    same = ap length is ∙ length-map leading not

    long : length free + 1 ≡ length g.starts
    long = let a : length leading + 1 ≡ length g.starts = told.long in omega (arith, same, a)

    turned : (b : Bool) {P : Type 0} → ((b ≡ true) ↔ P) → ((not b ≡ true) ↔ (P → ⊥))
    turned true h = ((λ e. absurd cc), (λ f. absurd (f (h.0 refl))))
    turned false h = ((λ e p. (let t = h.1 p in absurd cc)), (λ f. refl))

    each : (x : ℕ) → x < length free → (get_or free x false ≡ true) ↔ (LeadsToMarked g marked x → ⊥)
    each x h =
        let k : x < length leading = omega (arith, same, h) in
        let l : length leading + 1 ≡ length g.starts = told.long in
        let at : get_or free x false ≡ not (get_or leading x true) = ap (λ bs. get_or bs x false) is ∙ get_or-map not leading x true false k in
        let there : get_or leading x true ≡ get_or leading x false = get_or_any leading x k in
        subst (λ b. (b ≡ true) ↔ (LeadsToMarked g marked x → ⊥)) (sym (at ∙ ap not there)) (turned (get_or leading x false) (told.each x (omega (arith, k, l))))
      where
        get_or_any : (bs : List Bool) (x : ℕ) → x < length bs → get_or bs x true ≡ get_or bs x false
        get_or_any [] x h = absurd (omega (arith, h))
        get_or_any (b ∷ bs) zero h = refl
        get_or_any (b ∷ bs) (suc x) h = get_or_any bs x (omega (arith, h))
