-- Heads, and constraints in a row: what a theorem on replaced names stands on.
use Rattle.std.proofs.Common.{◌≡◌, ℕ, zero, suc, List, [], ◌∷◌, ◌++◌, Option, Some, refl, sym, subst, ap, ◌∙◌}
use Rattle.asn_tree.specs.declared.constraints.Constraint.{Constraint}
use Rattle.asn_meaning.specs.Answers.{both}
use Rattle.asn_meaning.specs.Constraints.{constraint_holds, all_hold}
use Rattle.asn_meaning.specs.Definitions.{Definitions}
use Rattle.asn_meaning.specs.Judge.{nothing_known, step, meaning}
use Rattle.asn_meaning.specs.Meaning.{Meaning}
use Rattle.asn_meaning.specs.Names.{Lead, IsHead, LeadsTo, IsLost, lead, head_from, head_at}
use Rattle.asn_meaning.specs.Numbers.{Numbers}
use Rattle.asn_meaning.specs.Ranges.{narrowed, narrowed_by_all}
use Rattle.asn_meaning.specs.Scopes.{Scope, Place}
use Rattle.asn_meaning.specs.ValueTrees.{ValueTree}
use Rattle.asn_meaning.proofs.Answering.{both_through}
use Rattle.asn_meaning.proofs.More.{Leads, lead_more}
use Rattle.asn_meaning.proofs.Steps.{one_more}

-- constraints of a place follow the type's own
module _ (M : Meaning) (scope : Scope) (head : Place) where
  pub narrowed_append : (n : Option Numbers) (cs ds : List Constraint) → narrowed_by_all M scope head n (cs ++ ds) ≡ narrowed_by_all M scope head (narrowed_by_all M scope head n cs) ds
  narrowed_append n [] ds = refl
  narrowed_append n (c ∷ cs) ds = narrowed_append (narrowed M scope head n c) cs ds

  pub all_hold_append : (n : Option Numbers) (cs ds : List Constraint) (t : ValueTree) → all_hold M scope head n (cs ++ ds) t ≡ both (all_hold M scope head n cs t) (all_hold M scope head (narrowed_by_all M scope head n cs) ds t)
  all_hold_append n [] ds t = refl
  all_hold_append n (c ∷ cs) ds t =
      ap (both (constraint_holds M scope head n c t)) (all_hold_append (narrowed M scope head n c) cs ds t)
      ∙ sym (both_through (constraint_holds M scope head n c t) (all_hold M scope head (narrowed M scope head n c) cs t) _)

-- ---- a head that is found is one

leads_on : (a b : Lead) → Leads a b → a ≡ IsHead → b ≡ IsHead
leads_on a b p e = subst (λ z. Leads z b) e p

found_head : (M : Meaning) (defs : Definitions) (p h : Place) (l : Lead) → lead defs M p ≡ l → ((q k : Place) → M.head q ≡ Some k → lead defs M k ≡ IsHead) → head_from M p l ≡ Some h → lead defs M h ≡ IsHead
found_head M defs p h IsHead is ih e = let same : p ≡ h = cc in subst (λ z. lead defs M z ≡ IsHead) same is
found_head M defs p h (LeadsTo x) is ih e = ih x.place h e
found_head M defs p h IsLost is ih e = absurd cc

nothing_found : (p h : Place) → nothing_known.head p ≡ Some h → ⊥
unfolding nothing_known
nothing_found p h e = cc

step_head : (defs : Definitions) (M : Meaning) (p h : Place) → (step defs M).head p ≡ Some h → head_at defs M p ≡ Some h
unfolding step
step_head defs M p h e = e

pub head_is_head : (defs : Definitions) (n : ℕ) (p h : Place) → (meaning defs n).head p ≡ Some h → lead defs (meaning defs n) h ≡ IsHead
unfolding meaning
head_is_head defs zero p h e = absurd (nothing_found p h e)
head_is_head defs (suc n) p h e =
    leads_on _ _ (lead_more (meaning defs n) (meaning defs (suc n)) (one_more defs n) defs h)
    (found_head (meaning defs n) defs p h (lead defs (meaning defs n) p) refl (head_is_head defs n) (step_head defs (meaning defs n) p h e))
