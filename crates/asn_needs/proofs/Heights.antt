-- Where no cycle is needed, a height exists: a way along edges meets no node twice, and there are only so many nodes.
use Rattle.std.proofs.Common.{◌≡◌, ℕ, zero, suc, ◌+◌, ◌≤◌, ◌⊎◌, inl, inr, List, [], ◌∷◌, length, refl, sym, subst, arith}
use Rattle.std.specs.List.{Contains}
use Rattle.asn_needs.specs.Laws.{HeightExists, HeightMeansNoCycle}
use Rattle.asn_needs.specs.Needs.{HasEdge, HasHeight, above, IsNode, Needs, at_once, further, NeedsItself, NeedsNoCycle, nodes}
use Rattle.asn_needs.specs.Sites.{Seen, Node}
use Rattle.asn_needs.proofs.Pigeons.{Among, Distinct, AllAmong, no_more}

among : (x : Node) (ns : List Node) → Contains ns x → Among ns x
among x [] (k, lt, e) = absurd (omega (arith, lt))
among x (y ∷ ns) (zero, lt, e) = inl e
among x (y ∷ ns) (suc k, lt, e) = inr (among x ns (k, omega (arith, lt), e))

module _ (S : Seen) where
  before : {x y z : Node} → HasEdge S x y → Needs S y z → Needs S x z
  before e (at_once f) = further (at_once e) f
  before e (further n f) = further (before e n) f

  onward : (x y : Node) → HasEdge S x y → NeedsNoCycle S x → NeedsNoCycle S y
  onward x y e none z (inl same) = none z (inr (at_once (subst (HasEdge S x) (sym same) e)))
  onward x y e none z (inr n) = none z (inr (before e n))

  -- each of these needs x
  abbrev AllNeed : List Node → Node → Type 0
  AllNeed [] x = Unit {0}
  AllNeed (v ∷ vs) x = Needs S v x × AllNeed vs x

  all_need : (vs : List Node) (x y : Node) → HasEdge S x y → AllNeed vs x → AllNeed vs y
  all_need [] x y e a = tt
  all_need (v ∷ vs) x y e a = (further a.0 e, all_need vs x y e a.1)

  one_needs : (vs : List Node) (x : Node) → AllNeed vs x → Among vs x → Needs S x x
  one_needs [] x a m = absurd m
  one_needs (v ∷ vs) x a (inl e) = subst (λ w. Needs S w x) e a.0
  one_needs (v ∷ vs) x a (inr m) = one_needs vs x a.1 m

  ordered : (k : ℕ) (vs : List Node) (x : Node) → IsNode S.defs x → NeedsNoCycle S x → Distinct vs → AllAmong (nodes S.defs) vs → AllNeed vs x → length (nodes S.defs) ≤ length vs + k → HasHeight S k x
  ordered zero vs x is none d a n enough =
      absurd (omega (arith, no_more (x ∷ vs) (nodes S.defs) ((λ m. none x (inl refl) (one_needs vs x n m)), d) (among x (nodes S.defs) is, a)))
  ordered (suc k) vs x is none d a n enough =
      above (λ y e. ordered k (x ∷ vs) y e.is_node (onward x y e none) ((λ m. none x (inl refl) (one_needs vs x n m)), d) (among x (nodes S.defs) is, a) (at_once e, all_need vs x y e n) (omega (arith, enough)))

  -- ---- the converse

  -- what has an edge from something with a height has one
  pub lower : (h : ℕ) (x y : Node) → HasHeight S h x → HasEdge S x y → (k : ℕ) × HasHeight S k y
  lower h x y (above {h = k} f) e = (k, f y e)

  -- and so has all that is needed
  pub passed_on : (h : ℕ) (x y : Node) → HasHeight S h x → Needs S x y → (k : ℕ) × HasHeight S k y
  passed_on h x y o (at_once e) = lower h x y o e
  passed_on h x y o (further {y = z} n e) = let s = passed_on h x z o n in lower s.0 z y s.1 e

  -- the first edge of what is needed
  first_edge : {x z : Node} → Needs S x z → (y : Node) × HasEdge S x y × (y ≡ z ⊎ Needs S y z)
  first_edge (at_once {y} e) = (y, e, inl refl)
  first_edge (further {y} {z} n e) =
      let s = first_edge n in
      (s.0, s.1, elim s.2 [ inl same ↦ inr (at_once (subst (λ w. HasEdge S w z) (sym same) e)) | inr m ↦ inr (further m e) ])

  comes_back : (x y : Node) → HasEdge S x y → (y ≡ x ⊎ Needs S y x) → NeedsItself S y
  comes_back x y e (inl same) = at_once (subst (λ w. HasEdge S w y) (sym same) e)
  comes_back x y e (inr m) = further m e

  not_itself : (h : ℕ) (x : Node) → HasHeight S h x → NeedsItself S x → ⊥
  not_itself h x (above {h = k} f) n = let s = first_edge n in not_itself k s.0 (f s.0 s.1) (comes_back x s.0 s.1 s.2)

  none_needed : (h : ℕ) (x : Node) → HasHeight S h x → NeedsNoCycle S x
  none_needed h x o y (inl same) n = not_itself h x o (subst (λ w. NeedsItself S w) same n)
  none_needed h x o y (inr m) n = let s = passed_on h x y o m in not_itself s.0 y s.1 n

pub height_exists : HeightExists
height_exists S x is none = ordered S (length (nodes S.defs)) [] x is none tt tt tt (omega arith)

pub height_means_no_cycle : HeightMeansNoCycle
height_means_no_cycle S h x o = none_needed S h x o
