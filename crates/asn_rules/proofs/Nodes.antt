-- The equations of functions of a whole node.
use Rattle.std.proofs.Common.{◌≡◌, ℕ, List, [], ◌∷◌, map, Bool, true, false, Some, refl, ap, ◌∙◌, subst}
use Rattle.std.specs.Prelude.{nat_eq, cond}
use Rattle.asn_rules.specs.declared.node.Node.{Node}
use Rattle.asn_rules.specs.declared.node.Node.TheViews.{roll-Node, out-Node}
use Rattle.asn_rules.specs.declared.node.Node.TheFolds.{fold-Node, fold-roll-Node, fold_out-Node, ind-Node}
use Rattle.asn_rules.specs.Nodes.{Opened, closed, both_step, para, child_among, at_child, made, made_all, at_children}

module _ (A : Type 0) (step : Opened A → A) where
  -- each node beside what is made of it
  abbrev pub paired : List Node → List (Node × A)
  paired ns = map (λ n. (n, para A step n)) ns

  abbrev pub opened : Node → Opened A
  opened n = let x = out-Node n in record { rule = x.rule; start = x.start; end = x.end; children = paired x.children }

  abbrev whole : Node → Node × A
  whole = fold-Node (Node × A) (both_step A step)

  abbrev Same : Node → Type 0
  Same n = (whole n).0 ≡ n

  kids_same : (ys : List ((n : Node) × Same n)) → map (λ c. c.0) (map whole (map (λ e. e.0) ys)) ≡ map (λ e. e.0) ys
  kids_same [] = refl
  kids_same (e ∷ ys) = ap (λ n. n ∷ map (λ c. c.0) (map whole (map (λ e. e.0) ys))) e.1 ∙ ap (λ ns. e.0 ∷ ns) (kids_same ys)

  same : (n : Node) → Same n
  same = ind-Node Same (λ x y is.
      ap (λ p. p.0) (fold-roll-Node (Node × A) (both_step A step) x)
      ∙ subst (λ z. closed {A = A} (record { rule = z.rule; start = z.start; end = z.end; children = map whole z.children }) ≡ roll-Node z) is
      (ap (λ ns. roll-Node (record { rule = y.rule; start = y.start; end = y.end; children = ns })) (kids_same y.children)))

  whole_pair : (n : Node) → whole n ≡ (n, para A step n)
  whole_pair n = ap (λ k. (k, (whole n).1)) (same n)

  whole_pairs : (ns : List Node) → map whole ns ≡ paired ns
  whole_pairs [] = refl
  whole_pairs (n ∷ ns) = ap (λ p. p ∷ map whole ns) (whole_pair n) ∙ ap (λ ps. (n, para A step n) ∷ ps) (whole_pairs ns)

  pub para_out : (n : Node) → para A step n ≡ step (opened n)
  para_out n =
      let x = out-Node n in
      ap (λ p. p.1) (fold_out-Node (Node × A) (both_step A step) n)
      ∙ ap (λ ps. step (record { rule = x.rule; start = x.start; end = x.end; children = ps })) (whole_pairs x.children)

  pub made_paired : {B : Type 0} (ns : List Node) (r : ℕ) (z : B) (f : A → B) → made (paired ns) r z f ≡ at_child (child_among ns r) z (λ n. f (para A step n))
  made_paired [] r z f = refl
  made_paired (n ∷ ns) r z f = both (nat_eq (out-Node n).rule r) (made_paired ns r z f)
    where
      both : (b : Bool) → made (paired ns) r z f ≡ at_child (child_among ns r) z (λ n. f (para A step n)) → cond b (f (para A step n)) (made (paired ns) r z f) ≡ at_child (cond b (Some n) (child_among ns r)) z (λ n. f (para A step n))
      both true e = refl
      both false e = e

  pub made_all_paired : {B : Type 0} (ns : List Node) (r : ℕ) (f : A → B) → made_all (paired ns) r f ≡ at_children ns r (λ n. f (para A step n))
  made_all_paired [] r f = refl
  made_all_paired (n ∷ ns) r f = ap (λ rest. cond (nat_eq (out-Node n).rule r) (f (para A step n) ∷ rest) rest) (made_all_paired ns r f)
