-- What is added to a graph of names: the edges of a name, of more names, of a definition.
use Rattle.std.proofs.Common.{◌≡◌, ℕ, ◌+◌, ◌<◌, ◌≤◌, ◌⊎◌, ◌↔◌, inl, inr, List, [], ◌∷◌, ◌++◌, length, map, get_or, take}
use Rattle.std.proofs.Common.{sym, ap, ◌∙◌, subst, arith}
use Rattle.std.specs.Prelude.{Contains}
use Rattle.std.proofs.lemmas.Bool.{cases_lt}
use Rattle.std.proofs.lemmas.List.{get_or_append_left, get_or_past, get_or_push, length-append, map_more}
use Rattle.std.proofs.lemmas.List.Elements.{Contains-append_left, Contains-append_right, Contains-append_cases}
use Rattle.asn_names_graph.specs.Graphs.{Edges as Graph, HasEdge, IsNode}
use Rattle.asn_names_graph.specs.Drawn.{AddsNode, Ascend, IsDrawn, IsMentioned, StandsAt}
use Rattle.asn_names_graph.specs.inner.Edges.{AddsEdges}
use Rattle.asn_names_graph.proofs.Ascending.{one_place}

-- the empty list contains nothing
pub none_contained : {X : Type 0} (x : X) → Contains [] x → ⊥
none_contained x c = let h : c.0 < 0 = c.1 in absurd (omega arith)

pub one_contained : {X : Type 0} (y x : X) → Contains (y ∷ []) x → y ≡ x
one_contained y x c = go c.0 c.1 c.2
  where
    go : (k : ℕ) → k < 1 → get_or (y ∷ []) k x ≡ x → y ≡ x
    go k h e = let z : k ≡ 0 = omega arith in ap (λ i. get_or (y ∷ []) i x) (sym z) ∙ e

module _ (names : List (List ℕ)) where
  -- an edge of the graph, or one of the node that was begun last to a name that is mentioned
  abbrev Linked : List (List ℕ) → Graph → ℕ → ℕ → Type 0
  Linked references g x y = HasEdge g x y ⊎ ((x + 2 ≡ length g.starts) × IsMentioned names references y)

  -- an edge of the graph, or one of the node that is begun next to a name that is mentioned
  abbrev Begun : List (List ℕ) → Graph → ℕ → ℕ → Type 0
  Begun references g x y = HasEdge g x y ⊎ ((x + 1 ≡ length g.starts) × IsMentioned names references y)

  -- an edge to the place of a name
  pub edge_added : (name : List ℕ) (place : ℕ) (old new : Graph) → Ascend names → StandsAt names name place → length new.starts ≡ length old.starts →
      ((x y : ℕ) → HasEdge new x y ↔ (HasEdge old x y ⊎ ((x + 2 ≡ length old.starts) × (y ≡ place)))) → AddsEdges names (name ∷ []) old new
  edge_added name place old new up s same edges =
      record { same = same; edges = λ x y. ((λ e. go x y ((edges x y).0 e)), (λ e. (edges x y).1 (come x y e))) }
    where
      go : (x y : ℕ) → HasEdge old x y ⊎ ((x + 2 ≡ length old.starts) × (y ≡ place)) → Linked (name ∷ []) old x y
      go x y (inl e) = inl e
      go x y (inr m) =
          inr (m.0, subst (λ k. IsMentioned names (name ∷ []) k) (sym m.1) (record { within = s.within; among = (0, omega arith, sym s.is) }))

      come : (x y : ℕ) → Linked (name ∷ []) old x y → HasEdge old x y ⊎ ((x + 2 ≡ length old.starts) × (y ≡ place))
      come x y (inl e) = inl e
      come x y (inr m) =
          let same : get_or names y [] ≡ get_or names place [] = sym (one_contained name (get_or names y []) m.1.among) ∙ sym s.is in
          inr (m.0, one_place names y place up m.1.within s.within same)

  -- some edges, and then more
  edges_more : (before more : List (List ℕ)) (old mid new : Graph) → AddsEdges names before old mid → AddsEdges names more mid new →
      AddsEdges names (before ++ more) old new
  edges_more before more old mid new a b =
      record { same = b.same ∙ a.same; edges = λ x y. ((λ e. go x y ((b.edges x y).0 e)), (λ e. come x y e)) }
    where
      go_old : (x y : ℕ) → Linked before old x y → Linked (before ++ more) old x y
      go_old x y (inl e) = inl e
      go_old x y (inr m) =
          inr (m.0, record { within = m.1.within; among = Contains-append_left before more (get_or names y []) m.1.among })

      go : (x y : ℕ) → Linked more mid x y → Linked (before ++ more) old x y
      go x y (inl e) = go_old x y ((a.edges x y).0 e)
      go x y (inr m) =
          inr (m.0 ∙ a.same, record { within = m.1.within; among = Contains-append_right before more (get_or names y []) m.1.among })

      among : (x y : ℕ) → x + 2 ≡ length old.starts → y < length names →
          Contains before (get_or names y []) ⊎ Contains more (get_or names y []) → HasEdge new x y
      among x y e h (inl c) = (b.edges x y).1 (inl ((a.edges x y).1 (inr (e, record { within = h; among = c }))))
      among x y e h (inr c) = (b.edges x y).1 (inr (e ∙ sym a.same, record { within = h; among = c }))

      come : (x y : ℕ) → Linked (before ++ more) old x y → HasEdge new x y
      come x y (inl e) = (b.edges x y).1 (inl ((a.edges x y).1 (inl e)))
      come x y (inr m) = among x y m.0 m.1.within (Contains-append_cases before more (get_or names y []) m.1.among)

  -- the edges of the next reference
  pub references_more : {X : Type 0} (f : X → List ℕ) (xs : List X) (i : ℕ) (x : X) (old mid new : Graph) → i < length xs → x ≡ get_or xs i x →
      AddsEdges names (map f (take i xs)) old mid → AddsEdges names (f x ∷ []) mid new → AddsEdges names (map f (take (i + 1) xs)) old new
  references_more f xs i x old mid new h is a b =
      let next : map f (take i xs) ++ f x ∷ [] ≡ map f (take (i + 1) xs) = ap (λ z. map f (take i xs) ++ f z ∷ []) is ∙ sym (map_more f xs i x h) in
      subst (λ rs. AddsEdges names rs old new) next (edges_more (map f (take i xs)) (f x ∷ []) old mid new a b)

  -- a node, and then its edges
  pub node_added : (references : List (List ℕ)) (old mid new : Graph) → length mid.starts ≡ length old.starts + 1 →
      ((x y : ℕ) → HasEdge mid x y ↔ HasEdge old x y) → AddsEdges names references mid new → AddsNode names references old new
  node_added references old mid new more same a =
      record { more = a.same ∙ more; edges = λ x y. ((λ e. go x y ((a.edges x y).0 e)), (λ e. (a.edges x y).1 (come x y e))) }
    where
      go : (x y : ℕ) → Linked references mid x y → Begun references old x y
      go x y (inl e) = inl ((same x y).0 e)
      go x y (inr m) = inr ((let e : x + 2 ≡ length mid.starts = m.0 in omega arith), m.1)

      come : (x y : ℕ) → Begun references old x y → Linked references mid x y
      come x y (inl e) = inl ((same x y).1 e)
      come x y (inr m) = inr ((let e : x + 1 ≡ length old.starts = m.0 in omega arith), m.1)

  -- the references of one node more
  module _ (references : List (List ℕ)) (mentions : List (List (List ℕ))) where
    front : (x : ℕ) → x < length mentions → get_or (mentions ++ references ∷ []) x [] ≡ get_or mentions x []
    front x h = get_or_append_left mentions (references ∷ []) [] x h

    last : (x : ℕ) → length mentions ≡ x → get_or (mentions ++ references ∷ []) x [] ≡ references
    last x e = get_or_push mentions references [] x e

    none_past : (all : List (List (List ℕ))) (x y : ℕ) → length all ≤ x → IsMentioned names (get_or all x []) y → ⊥
    none_past all x y h m = none_contained (get_or names y []) (subst (λ rs. Contains rs (get_or names y [])) (get_or_past all x [] h) m.among)

    -- the name at the place y is among the references of the node x
    abbrev Mentioned : ℕ → ℕ → Type 0
    Mentioned x y = IsMentioned names (get_or (mentions ++ references ∷ []) x []) y

    longer : length (mentions ++ references ∷ []) ≡ length mentions + 1
    longer = length-append mentions (references ∷ [])

    -- one node more was drawn
    drawn_more : (old new : Graph) → IsDrawn names mentions old → AddsNode names references old new → IsDrawn names (mentions ++ references ∷ []) new
    drawn_more old new d a = record {
      long = a.more ∙ ap (λ n. n + 1) d.long ∙ ap (λ n. n + 1) (sym longer);
      edges = λ x y. ((λ e. go x y ((a.edges x y).0 e)), (λ m. come x y (cases_lt x (length mentions)) m));
    }
      where
        node_is : (x : ℕ) → x + 1 ≡ length old.starts → length mentions ≡ x
        node_is x e = let o : length old.starts ≡ length mentions + 1 = d.long in omega arith

        mentioned : (x y : ℕ) → (x < length mentions) ⊎ (length mentions ≤ x) → IsMentioned names (get_or mentions x []) y → Mentioned x y
        mentioned x y (inl h) m = subst (λ rs. IsMentioned names rs y) (sym (front x h)) m
        mentioned x y (inr h) m = absurd (none_past mentions x y h m)

        go : (x y : ℕ) → Begun references old x y → Mentioned x y
        go x y (inl e) = mentioned x y (cases_lt x (length mentions)) ((d.edges x y).0 e)
        go x y (inr m) = subst (λ rs. IsMentioned names rs y) (sym (last x (node_is x m.0))) m.1

        behind : (x y : ℕ) → length mentions ≤ x → (x < length mentions + 1) ⊎ (length mentions + 1 ≤ x) → Mentioned x y → HasEdge new x y
        behind x y h (inl k) m =
            let e : x + 1 ≡ length old.starts = (let o : length old.starts ≡ length mentions + 1 = d.long in omega arith) in
            (a.edges x y).1 (inr (e, subst (λ rs. IsMentioned names rs y) (last x (node_is x e)) m))
        behind x y h (inr k) m =
            let past : length (mentions ++ references ∷ []) ≤ x = omega (arith, longer) in
            absurd (none_past (mentions ++ references ∷ []) x y past m)

        come : (x y : ℕ) → (x < length mentions) ⊎ (length mentions ≤ x) → Mentioned x y → HasEdge new x y
        come x y (inl h) m = (a.edges x y).1 (inl ((d.edges x y).1 (subst (λ rs. IsMentioned names rs y) (front x h) m)))
        come x y (inr h) m = behind x y h (cases_lt x (length mentions + 1)) m

  -- the node of the next definition
  pub definitions_more : {X : Type 0} (f : X → List (List ℕ)) (xs : List X) (i : ℕ) (x : X) (old new : Graph) → i < length xs → x ≡ get_or xs i x →
      IsDrawn names (map f (take i xs)) old → AddsNode names (f x) old new → IsDrawn names (map f (take (i + 1) xs)) new
  definitions_more f xs i x old new h is d a =
      let next : map f (take i xs) ++ f x ∷ [] ≡ map f (take (i + 1) xs) = ap (λ z. map f (take i xs) ++ f z ∷ []) is ∙ sym (map_more f xs i x h) in
      subst (λ rs. IsDrawn names rs new) next (drawn_more (f x) (map f (take i xs)) old new d a)

  -- each edge leads to a node, where there are as many names as nodes
  pub edges_to_nodes : (mentions : List (List (List ℕ))) (g : Graph) → length names ≡ length mentions → IsDrawn names mentions g →
      (x y : ℕ) → HasEdge g x y → IsNode g y
  edges_to_nodes mentions g same d x y e =
      let m : y < length names = ((d.edges x y).0 e).within in
      let o : length g.starts ≡ length mentions + 1 = d.long in
      omega arith
