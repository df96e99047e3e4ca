-- Scopes without dummies.
use Rattle.std.proofs.Common.{◌≡◌, List, [], ◌∷◌, true, false, None, Some, refl, ap, ◌∙◌}
use Rattle.std.specs.Borrow.{Bor}
use Rattle.std.specs.declared.rc.Rc.{Rc}
use Rattle.std.specs.declared.alloc.Global.{Global}
use Rattle.asn_tree.specs.declared.constraints.Parameter.{Parameter}
use Rattle.asn_tree.specs.declared.definitions.ParameterizationArgument.{ParameterizationArgument}
use Rattle.asn_tree.specs.declared.values.ASN1Value.{ASN1Value}
use Rattle.asn_meaning_heads.specs.Scopes.{filling, shown}
use Rattle.asn_meaning_heads.specs.declared.scopes.Scope.{Scope as OwnScope}
use Rattle.asn_meaning_heads.specs.declared.scopes.Scope.TheVariants as own
use Rattle.asn_meaning_heads.proofs.Scoping.{shown_empty, shown_entered}
use Rattle.asn_link_instance.specs.Instance.{is_empty}
use Rattle.asn_link_instance.specs.Literals.{default_under, default_written}
use Rattle.asn_meaning.specs.Answers.{once}
use Rattle.asn_meaning.specs.Meaning.{Meaning}
use Rattle.asn_meaning.specs.Scopes.{Place, Scope, Empty, Binds, LeavesOpen}
use Rattle.asn_link_values.specs.Values.{is_outside}

filled : (scope : Scope) (dummies : List ParameterizationArgument) (arguments : List Parameter) → is_outside (filling scope dummies arguments) ≡ is_empty dummies
filled scope [] arguments = refl
filled scope (dummy ∷ dummies) [] = refl
filled scope (dummy ∷ dummies) (argument ∷ arguments) = refl

pub empty_outside : (s : OwnScope) → s ≡ own.Empty → is_outside (shown s) ≡ true
empty_outside s e = ap is_outside (shown_empty s e)

pub entered_outside : (s : OwnScope) (dummies : Bor (List ParameterizationArgument)) (arguments : Bor (List Parameter)) (scope : Rc OwnScope Global) →
    s ≡ own.Entered dummies arguments scope → is_outside (shown s) ≡ is_empty dummies.now
entered_outside s dummies arguments scope e = ap is_outside (shown_entered s dummies arguments scope e) ∙ filled (shown scope.value) dummies.now arguments.now

-- ---- defaults

pub default_outside : (M : Meaning) (scope : Scope) (v : ASN1Value) (p : Place) → is_outside scope ≡ true → default_written M scope v p ≡ Some v
default_outside M Empty v p e = refl
default_outside M (Binds dummy governor argument scope others) v p e = absurd cc
default_outside M (LeavesOpen dummy governor others) v p e = absurd cc

pub default_inside : (M : Meaning) (scope : Scope) (v : ASN1Value) (p : Place) → is_outside scope ≡ false → default_written M scope v p ≡ once None (M.head p) (default_under M scope v)
default_inside M Empty v p e = absurd cc
default_inside M (Binds dummy governor argument scope others) v p e = refl
default_inside M (LeavesOpen dummy governor others) v p e = refl
