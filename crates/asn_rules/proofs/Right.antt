-- The ranks are right: computed. What is computed are the numbers of the rules whose row is wrong.
use Rattle.std.proofs.Common.{◌≡◌, ℕ, suc, List, [], ◌∷◌, Bool, true, false, refl}
use Rattle.std.specs.Prelude.{◌&&◌, ◌||◌, not}
use Rattle.asn_rules.specs.Expression.{Expression}
use Rattle.asn_rules.specs.LexicalRules.{lexical_rules_before}
use Rattle.asn_rules.specs.ValueRules.{value_rules_before}
use Rattle.asn_rules.specs.TypeRules.{type_rules_before}
use Rattle.asn_rules.specs.ConstraintRules.{constraint_rules_before}
use Rattle.asn_rules.specs.ObjectRules.{object_rules_before}
use Rattle.asn_rules.specs.HeaderRules.{header_rules_before}
use Rattle.asn_rules.specs.DefinitionRules.{definition_rules_before}
use Rattle.asn_rules.specs.Whole.{whole_rules}
use Rattle.asn_rules.proofs.Ranks.{whole_takes, whole_ranks}
use Rattle.asn_rules.proofs.Total.{takes_byte, ranks_below, checked}

abbrev noted : Bool → ℕ → List ℕ → List ℕ
noted true n ns = ns
noted false n ns = n ∷ ns

-- the numbers of the rules, from n on, whose row is wrong
abbrev wrong_from : List Bool → List ℕ → ℕ → List Expression → List Bool → List ℕ → List ℕ
wrong_from t ranks n (e ∷ es) (b ∷ bs) (k ∷ ks) = noted ((not b || takes_byte t e) && ranks_below t ranks k e) n (wrong_from t ranks (suc n) es bs ks)
wrong_from t ranks n [] [] [] = []
wrong_from t ranks n _ _ _ = n ∷ []

-- Where none is wrong, all are right.
none_wrong : (t : List Bool) (ranks : List ℕ) (n : ℕ) (es : List Expression) (bs : List Bool) (ks : List ℕ) → wrong_from t ranks n es bs ks ≡ [] → checked t ranks es bs ks ≡ true
none_wrong t ranks n (e ∷ es) (b ∷ bs) (k ∷ ks) h = go (not b || takes_byte t e) (ranks_below t ranks k e) (none_wrong t ranks (suc n) es bs ks) h
  where
    go : (p q : Bool) → (wrong_from t ranks (suc n) es bs ks ≡ [] → checked t ranks es bs ks ≡ true) → noted (p && q) n (wrong_from t ranks (suc n) es bs ks) ≡ [] → (p && (q && checked t ranks es bs ks)) ≡ true
    go true true f h = f h
    go true false f h = absurd cc
    go false q f h = absurd cc
none_wrong t ranks n [] [] [] h = refl
none_wrong t ranks n [] [] (k ∷ ks) h = absurd cc
none_wrong t ranks n [] (b ∷ bs) ks h = absurd cc
none_wrong t ranks n (e ∷ es) [] ks h = absurd cc
none_wrong t ranks n (e ∷ es) (b ∷ bs) [] h = absurd cc

whole_wrong : wrong_from whole_takes whole_ranks 0 whole_rules whole_takes whole_ranks ≡ []
unfolding whole_rules lexical_rules_before value_rules_before type_rules_before constraint_rules_before object_rules_before header_rules_before definition_rules_before
whole_wrong = refl

pub whole_checked : checked whole_takes whole_ranks whole_rules whole_takes whole_ranks ≡ true
whole_checked = none_wrong whole_takes whole_ranks 0 whole_rules whole_takes whole_ranks whole_wrong
