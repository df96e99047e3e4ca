-- A definition has one fault.
use Rattle.std.proofs.Common.{◌≡◌, ℕ, ◌+◌, List, Bool, true, false, Option, refl, sym, ap, ◌∙◌, subst, arith}
use Rattle.std.specs.Prelude.{◌↔◌}
use Rattle.asn_tree.specs.declared.definitions.ToplevelDefinition.{ToplevelDefinition}
use Rattle.asn_needs.specs.Faults.{IsSomewhere}
use Rattle.asn_needs.specs.Sites.{Seen, seen, Site, ToDefinition}
use Rattle.asn_names.specs.declared.faults.Fault.{Fault}
use Rattle.asn_names.specs.declared.faults.Judgement.{Judgement}
use Rattle.asn_names.specs.Definitions.{Definitions}
use Rattle.asn_names.specs.Faults.{HasFault, IsJudgement, fault_by, first_at_places, for_none, for_places, is_settled, IsTold}

same_truth : (a b : Bool) → ((a ≡ true) ↔ (b ≡ true)) → a ≡ b
same_truth true true h = refl
same_truth true false h = let bad = h.0 refl in absurd cc
same_truth false true h = let bad = h.1 refl in absurd cc
same_truth false false h = refl

-- one truth is told
pub told_once : (defs : Definitions) (name : List ℕ) (f : Seen → Site → Bool) (a b : Bool) → IsTold defs name f a → IsTold defs name f b → a ≡ b
told_once defs name f a b (n, t) (k, u) =
    let same : k + n ≡ n + k = omega arith in
    let left = t k in
    let right = subst (λ i. IsSomewhere (seen defs i) (ToDefinition name) f ↔ (b ≡ true)) same (u n) in
    same_truth a b (λ e. right.0 (left.1 e), λ e. left.0 (right.1 e))

pub one_judgement : (defs : Definitions) (name : List ℕ) (d : ToplevelDefinition) (j k : Judgement) → IsJudgement defs name d j → IsJudgement defs name d k → j ≡ k
one_judgement defs name d j k (for_places a b c i t u v e) (for_places a' b' c' i' t' u' v' e') =
    let wrong = told_once defs name _ a a' t t' in
    let missing = told_once defs name _ b b' u u' in
    let unlinked = told_once defs name _ c c' v v' in
    e ∙ ap (λ x. first_at_places x b c) wrong ∙ ap (λ x. first_at_places a' x c) missing ∙ ap (λ x. first_at_places a' b' x) unlinked ∙ sym e'
one_judgement defs name d j k (for_places a b c i t u v e) (for_none i' e') = absurd (i' i)
one_judgement defs name d j k (for_none i e) (for_places a' b' c' i' t' u' v' e') = absurd (i i')
one_judgement defs name d j k (for_none i e) (for_none i' e') = e ∙ sym e'

pub one_fault : (defs : Definitions) (name : List ℕ) (d : ToplevelDefinition) (linked : Bool) (o p : Option Fault) → HasFault defs name d linked o → HasFault defs name d linked p → o ≡ p
one_fault defs name d linked o p f g =
    f.so ∙ ap (λ j. fault_by j (is_settled d linked)) (one_judgement defs name d f.judgement g.judgement f.told g.told) ∙ sym g.so
