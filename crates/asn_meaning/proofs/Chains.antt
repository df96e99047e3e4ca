-- Elements joined by operators: what joining keeps, a chain keeps.
use Rattle.std.proofs.Common.{List, [], ◌∷◌}
use Rattle.asn_tree_kinds.specs.declared.constraints.SetOperator.{SetOperator}
use Rattle.asn_tree_kinds.specs.declared.constraints.SetOperator.TheVariants.{Intersection, Union, Except}
use Rattle.asn_tree.specs.declared.constraints.SubtypeElement.{SubtypeElement}
use Rattle.asn_meaning.specs.Numbers.{Chain, Joining, ranked_from, ranked}

-- joining keeps a relation
pub record Keeps (A B : Type 0) (j : Joining A) (l : Joining B) (R : A → B → Type 0) : Type 0 where
  pub common : (a : A) (c : B) (b : A) (d : B) → R a c → R b d → R (j.common a b) (l.common c d)
  pub joined : (a : A) (c : B) (b : A) (d : B) → R a c → R b d → R (j.joined a b) (l.joined c d)
  pub without : (a : A) (c : B) (b : A) (d : B) → R a c → R b d → R (j.without a b) (l.without c d)
  pub empty : R j.empty l.empty
  pub everything : R j.everything l.everything

module _ (A B : Type 0) (j : Joining A) (l : Joining B) (R : A → B → Type 0) (k : Keeps A B j l R) (f : SubtypeElement → A) (g : SubtypeElement → B) (h : (e : SubtypeElement) → R (f e) (g e)) where
  ranked_from_kept : (u : A) (v : B) (met : A) (meet : B) (last : A) (least : B) → R u v → R met meet → R last least → (others : List (SetOperator × SubtypeElement)) → R (ranked_from j f u met last others) (ranked_from l g v meet least others)
  ranked_from_kept u v met meet last least p q r [] = k.joined u v _ _ p (k.common met meet last least q r)
  ranked_from_kept u v met meet last least p q r ((Except, e) ∷ others) =
      ranked_from_kept u v met meet (j.without last (f e)) (l.without least (g e)) p q (k.without last least _ _ r (h e)) others
  ranked_from_kept u v met meet last least p q r ((Intersection, e) ∷ others) =
      ranked_from_kept u v (j.common met last) (l.common meet least) (f e) (g e) p (k.common met meet last least q r) (h e) others
  ranked_from_kept u v met meet last least p q r ((Union, e) ∷ others) =
      ranked_from_kept (j.joined u (j.common met last)) (l.joined v (l.common meet least)) j.everything l.everything (f e) (g e) (k.joined u v _ _ p (k.common met meet last least q r)) k.everything (h e) others

  pub ranked_kept : (c : Chain) → R (ranked j f c) (ranked l g c)
  ranked_kept c = ranked_from_kept j.empty l.empty j.everything l.everything (f c.first) (g c.first) k.empty k.everything (h c.first) c.others
