-- Where each word of a row that has one rule has another too, a node with a child of the one has a child of the other.
use Rattle.std.proofs.Common.{◌≡◌, ℕ, List, [], ◌∷◌, Bool, true, false, Option, Some, None, refl, sym, subst, ap, ◌∙◌, inl, inr}
use Rattle.std.specs.Option.{is_some}
use Rattle.std.specs.Prelude.{cond, nat_eq, IsSome}
use Rattle.asn_rules.specs.Children.{Is}
use Rattle.asn_rules.specs.Expression.{Expression}
use Rattle.asn_rules.specs.Nodes.{child_among, child_of}
use Rattle.asn_rules.specs.Whole.{whole_rules}
use Rattle.asn_rules.specs.declared.node.Node.{Node}
use Rattle.asn_rules.specs.declared.node.Node.TheViews.{out-Node}
use Rattle.asn_rules.proofs.Children.{OneOf, rules_in, word_of, words_of}

abbrev pub has_rule : ℕ → List ℕ → Bool
has_rule r [] = false
has_rule r (q ∷ qs) = cond (nat_eq q r) true (has_rule r qs)

-- each of these words that has the one has the other
abbrev pub each_brings : ℕ → ℕ → List (List ℕ) → Bool
each_brings r s [] = true
each_brings r s (w ∷ ws) = cond (cond (has_rule r w) (has_rule s w) true) (each_brings r s ws) false

abbrev pub brings_among : ℕ → ℕ → Option (List (List ℕ)) → Bool
brings_among r s None = false
brings_among r s (Some ws) = each_brings r s ws

-- whether each word of the rule does so
abbrev pub brings : List Expression → ℕ → ℕ → ℕ → Bool
brings rules rule r s = brings_among r s (words_of rules rule)

-- a rule is among the children's where one of them is of it
among : (r : ℕ) (ns : List Node) → is_some (child_among ns r) ≡ has_rule r (rules_in ns)
among r [] = refl
among r (n ∷ ns) = go (nat_eq (out-Node n).rule r) (among r ns)
  where
    go : (t : Bool) → is_some (child_among ns r) ≡ has_rule r (rules_in ns) → is_some (cond t (Some n) (child_among ns r)) ≡ cond t true (has_rule r (rules_in ns))
    go true e = refl
    go false e = e

module _ (r s : ℕ) where
  parts : (t u : Bool) → cond t u false ≡ true → (t ≡ true) × (u ≡ true)
  parts true u e = (refl, e)
  parts false u e = absurd cc

  follows : (t u : Bool) → cond t u true ≡ true → t ≡ true → u ≡ true
  follows true u e f = e
  follows false u e f = absurd cc

  has_both : (ws : List (List ℕ)) (w : List ℕ) → each_brings r s ws ≡ true → OneOf ws w → has_rule r w ≡ true → has_rule s w ≡ true
  has_both [] w e h f = absurd h
  has_both (x ∷ ws) w e (inl same) f =
      let x_brings = (parts (cond (has_rule r x) (has_rule s x) true) (each_brings r s ws) e).0 in
      follows (has_rule r w) (has_rule s w) (subst (λ x. cond (has_rule r x) (has_rule s x) true ≡ true) (sym same) x_brings) f
  has_both (x ∷ ws) w e (inr h) f = has_both ws w (parts (cond (has_rule r x) (has_rule s x) true) (each_brings r s ws) e).1 h f

  pub brings_child : (text : List ℕ) (rule : ℕ) (n m : Node) → Is whole_rules text rule n → brings whole_rules rule r s ≡ true → child_of n r ≡ Some m → IsSome (child_of n s)
  brings_child text rule n m is e f = go (words_of whole_rules rule) refl e
    where
      there : has_rule r (rules_in (out-Node n).children) ≡ true
      there = sym (among r (out-Node n).children) ∙ ap is_some f

      go : (o : Option (List (List ℕ))) → words_of whole_rules rule ≡ o → brings_among r s o ≡ true → IsSome (child_of n s)
      go None same e = absurd cc
      go (Some ws) same e = among s (out-Node n).children ∙ has_both ws (rules_in (out-Node n).children) e (word_of whole_rules text rule ws n is same) there
