-- The first child of a node, where each word of its row begins with a rule that passes a test.
use Rattle.std.proofs.Common.{◌≡◌, ℕ, List, [], ◌∷◌, Bool, true, false, Option, Some, None, refl, subst, sym, inl, inr}
use Rattle.std.specs.Prelude.{cond, IsSome}
use Rattle.asn_rules.specs.Children.{Is}
use Rattle.asn_rules.specs.Expression.{Expression}
use Rattle.asn_rules.specs.Nodes.{first_among, first_child_of}
use Rattle.asn_rules.specs.Whole.{whole_rules}
use Rattle.asn_rules.specs.declared.node.Node.{Node}
use Rattle.asn_rules.specs.declared.node.Node.TheViews.{out-Node}
use Rattle.asn_rules.proofs.Children.{OneOf, rules_in, word_of, words_of}

abbrev pub begin_with : (ℕ → Bool) → List (List ℕ) → Bool
begin_with p [] = true
begin_with p ([] ∷ ws) = false
begin_with p ((q ∷ qs) ∷ ws) = cond (p q) (begin_with p ws) false

abbrev pub begins_among : (ℕ → Bool) → Option (List (List ℕ)) → Bool
begins_among p None = false
begins_among p (Some ws) = begin_with p ws

-- whether each word of the rule begins with one that passes
abbrev pub begins : (ℕ → Bool) → List Expression → ℕ → Bool
begins p rules r = begins_among p (words_of rules r)

module _ (p : ℕ → Bool) where
  -- the first of these passes
  abbrev Passes : List ℕ → Type 0
  Passes [] = ⊥
  Passes (q ∷ qs) = p q ≡ true

  parts : (t u : Bool) → cond t u false ≡ true → (t ≡ true) × (u ≡ true)
  parts true u e = (refl, e)
  parts false u e = absurd cc

  passes : (ws : List (List ℕ)) (w : List ℕ) → begin_with p ws ≡ true → OneOf ws w → Passes w
  passes [] w e h = absurd h
  passes ([] ∷ ws) w e h = absurd cc
  passes ((q ∷ qs) ∷ ws) w e (inl same) = subst Passes (sym same) (parts (p q) (begin_with p ws) e).0
  passes ((q ∷ qs) ∷ ws) w e (inr h) = passes ws w (parts (p q) (begin_with p ws) e).1 h

  word_passes : (text : List ℕ) (r : ℕ) (n : Node) → Is whole_rules text r n → begins p whole_rules r ≡ true → Passes (rules_in (out-Node n).children)
  word_passes text r n is e = go (words_of whole_rules r) refl e
    where
      go : (o : Option (List (List ℕ))) → words_of whole_rules r ≡ o → begins_among p o ≡ true → Passes (rules_in (out-Node n).children)
      go None same e = absurd cc
      go (Some ws) same e = passes ws (rules_in (out-Node n).children) e (word_of whole_rules text r ws n is same)

  pub has_first : (text : List ℕ) (r : ℕ) (n : Node) → Is whole_rules text r n → begins p whole_rules r ≡ true → IsSome (first_child_of n)
  has_first text r n is e = go (out-Node n).children (word_passes text r n is e)
    where
      go : (ns : List Node) → Passes (rules_in ns) → IsSome (first_among ns)
      go [] h = absurd h
      go (c ∷ cs) h = refl

  pub first_passes : (text : List ℕ) (r : ℕ) (n t : Node) → Is whole_rules text r n → begins p whole_rules r ≡ true → first_child_of n ≡ Some t → p (out-Node t).rule ≡ true
  first_passes text r n t is e f = go (out-Node n).children (word_passes text r n is e) f
    where
      go : (ns : List Node) → Passes (rules_in ns) → first_among ns ≡ Some t → p (out-Node t).rule ≡ true
      go [] h f = absurd h
      go (c ∷ cs) h f = let same : c ≡ t = cc in subst (λ c. p (out-Node c).rule ≡ true) same h
