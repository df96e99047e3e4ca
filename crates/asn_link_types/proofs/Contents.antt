-- Content and table constraints in a scope with and without dummies.
use Rattle.std.proofs.Common.{◌≡◌, ◌∙◌, None, Option, Some, ap, false, refl, suc, sym, true, zero, ℕ}
use Rattle.std.specs.Option.{option_map}
use Rattle.asn_tree.specs.declared.constraints.ContentConstraint.{ContentConstraint, out-ContentConstraint, roll-ContentConstraint, roll-out-ContentConstraint}
use Rattle.asn_tree.specs.declared.types.ASN1Type.{ASN1Type}
use Rattle.asn_link_instance.specs.Instance.{content_bound, content_instance, instance, no_instance}
use Rattle.asn_link_instance.specs.Subjects.{TableLayer}
use Rattle.asn_link_instance.specs.Tables.{table_bound, table_opened}
use Rattle.asn_meaning.specs.Answers.{once}
use Rattle.asn_meaning.specs.Definitions.{Definitions}
use Rattle.asn_meaning.specs.Judge.{meaning}
use Rattle.asn_meaning.specs.Scopes.{Binds, Empty, LeavesOpen, Scope}
use Rattle.asn_link_values.specs.Choosing.{chosen, instances}
use Rattle.asn_link_values.specs.Values.{is_outside}

-- ---- contents

content_again : (made : Option ContentConstraint) → made ≡ once None (option_map out-ContentConstraint made) (λ l. Some (roll-ContentConstraint l))
content_again None = refl
content_again (Some c) = ap Some (sym (roll-out-ContentConstraint c))

module _ (defs : Definitions) (n k : ℕ) where
  pub content_outside : (scope : Scope) (c : ContentConstraint) → is_outside scope ≡ true → content_instance chosen defs (meaning defs n) (instances defs n k) scope c ≡ Some c
  content_outside Empty c is = refl
  content_outside (Binds dummy governor argument scope others) c is = absurd cc
  content_outside (LeavesOpen dummy governor others) c is = absurd cc

  pub content_inside : (scope : Scope) (c : ContentConstraint) (made : Option ContentConstraint) → is_outside scope ≡ false →
      option_map out-ContentConstraint made ≡ content_bound chosen defs (meaning defs n) (instances defs n k) scope (out-ContentConstraint c) →
      made ≡ content_instance chosen defs (meaning defs n) (instances defs n k) scope c
  content_inside Empty c made is e = absurd cc
  content_inside (Binds dummy governor argument scope others) c made is e = content_again made ∙ ap (λ o. once None o (λ l. Some (roll-ContentConstraint l))) e
  content_inside (LeavesOpen dummy governor others) c made is e = content_again made ∙ ap (λ o. once None o (λ l. Some (roll-ContentConstraint l))) e

-- every name may stay, so a type that is contained is made as any other
pub contained_so : (defs : Definitions) (n k : ℕ) (scope : Scope) (ty : ASN1Type) → (instances defs n k).of_type false scope ty ≡ (instances defs n k).of_contained scope ty
unfolding instance no_instance
contained_so defs n zero scope ty = refl
contained_so defs n (suc k) scope ty = refl

-- ---- tables

pub table_outside : (scope : Scope) (x : TableLayer) → is_outside scope ≡ true → table_bound scope x ≡ x
table_outside Empty x is = refl
table_outside (Binds dummy governor argument scope others) x is = absurd cc
table_outside (LeavesOpen dummy governor others) x is = absurd cc

pub table_inside : (scope : Scope) (x : TableLayer) → is_outside scope ≡ false → table_bound scope x ≡ table_opened scope x
table_inside Empty x is = absurd cc
table_inside (Binds dummy governor argument scope others) x is = refl
table_inside (LeavesOpen dummy governor others) x is = refl
