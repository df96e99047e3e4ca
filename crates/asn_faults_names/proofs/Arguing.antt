-- Arguments that are unknown or not linked.
use Rattle.std.proofs.Common.{◌≡◌, Bool, true, false, Option, refl, sym, ap, ◌∙◌, if◌then◌else◌}
use Rattle.std.specs.Prelude.{◌&&◌, not}
use Rattle.asn_tree.specs.declared.constraints.Parameter.{out-Parameter}
use Rattle.asn_tree.specs.declared.definitions.ParameterGovernor.{ParameterGovernor}
use Rattle.asn_tree.specs.declared.definitions.ParameterGovernor.TheVariants as governor
use Rattle.asn_meaning.specs.Answers.{once}
use Rattle.asn_meaning.specs.Scopes.{Argument, Scope}
use Rattle.asn_needs.specs.Arguments.{is_braced, is_unknown}
use Rattle.asn_needs.specs.Dummies.{governs_objects, is_information}
use Rattle.asn_needs.specs.Missing.{argument_unknown, argument_unsupported, is_governed_by_class}
use Rattle.asn_needs.specs.PartsOfTypes.{is_aside, is_own}
use Rattle.asn_needs.specs.Sites.{Seen}
use Rattle.asn_faults_names.proofs.Choosing.{both_first, both_second, unless_first, unless_second}

governed_same : (S : Seen) (inner : Scope) (g : ParameterGovernor) → governs_objects S.defs inner g ≡ is_governed_by_class S inner g
governed_same S inner governor.None = refl
governed_same S inner (governor.TypeOrClass g) = refl
governed_same S inner (governor.Class name) = refl

-- ---- unknown names

abbrev unknown_if_any : Seen → Option Argument → Bool
unknown_if_any S a = once false a (λ b. is_unknown S.defs (out-Parameter b.tree))

pub aside_known : (S : Seen) (inner : Scope) (g : ParameterGovernor) (a : Option Argument) (aside : Bool) → aside ≡ is_aside S inner g a → aside ≡ true → false ≡ argument_unknown S inner g a
aside_known S inner g a aside e is = unless_first (is_aside S inner g a) (is_governed_by_class S inner g && unknown_if_any S a) aside e is

pub classed_unknown : (S : Seen) (inner : Scope) (g : ParameterGovernor) (a : Option Argument) (aside classed unknown : Bool) → aside ≡ is_aside S inner g a → aside ≡ false →
    classed ≡ governs_objects S.defs inner g → classed ≡ true → unknown ≡ once false a (λ b. is_unknown S.defs (out-Parameter b.tree)) → unknown ≡ argument_unknown S inner g a
classed_unknown S inner g a aside classed unknown e is c governs u =
    unless_second (is_aside S inner g a) (is_governed_by_class S inner g && unknown_if_any S a) aside unknown e is
    (both_second (is_governed_by_class S inner g) (unknown_if_any S a) classed unknown (c ∙ governed_same S inner g) governs u)

pub typed_known : (S : Seen) (inner : Scope) (g : ParameterGovernor) (a : Option Argument) (aside classed : Bool) → aside ≡ is_aside S inner g a → aside ≡ false →
    classed ≡ governs_objects S.defs inner g → classed ≡ false → false ≡ argument_unknown S inner g a
typed_known S inner g a aside classed e is c governs =
    unless_second (is_aside S inner g a) (is_governed_by_class S inner g && unknown_if_any S a) aside false e is
    (both_first (is_governed_by_class S inner g) (unknown_if_any S a) classed (c ∙ governed_same S inner g) governs)

pub unknown_handed : (S : Seen) (inner : Scope) (g : ParameterGovernor) (a o : Option Argument) (b : Bool) → a ≡ o → b ≡ argument_unknown S inner g a → b ≡ argument_unknown S inner g o
unknown_handed S inner g a o b e is = is ∙ ap (argument_unknown S inner g) e

-- ---- arguments that are not linked

abbrev braced_there : Seen → Scope → ParameterGovernor → Argument → Bool
braced_there S inner g a = is_governed_by_class S inner g && is_braced (out-Parameter a.tree)

abbrev unlinked_by : Seen → Scope → ParameterGovernor → Argument → Bool → Bool → Bool
unlinked_by S inner g a information own = if information && not own then true else braced_there S inner g a

pub braced_is : (S : Seen) (inner : Scope) (g : ParameterGovernor) (a : Argument) (b : Bool) → b ≡ (governs_objects S.defs inner g && is_braced (out-Parameter a.tree)) →
    b ≡ (is_governed_by_class S inner g && is_braced (out-Parameter a.tree))
braced_is S inner g a b e = e ∙ ap (λ c. c && is_braced (out-Parameter a.tree)) (governed_same S inner g)

pub plain_linked : (S : Seen) (inner : Scope) (g : ParameterGovernor) (a : Argument) (b : Bool) → is_information S.defs a ≡ false →
    b ≡ (governs_objects S.defs inner g && is_braced (out-Parameter a.tree)) → b ≡ argument_unsupported S inner g a
plain_linked S inner g a b e is = braced_is S inner g a b is ∙ sym (ap (λ i. unlinked_by S inner g a i (is_own S inner g a)) e)

pub own_linked : (S : Seen) (inner : Scope) (g : ParameterGovernor) (a : Argument) (b own : Bool) → is_information S.defs a ≡ true → own ≡ is_own S inner g a → own ≡ true →
    b ≡ (governs_objects S.defs inner g && is_braced (out-Parameter a.tree)) → b ≡ argument_unsupported S inner g a
own_linked S inner g a b own e o is braced =
    braced_is S inner g a b braced ∙ sym (ap (λ i. unlinked_by S inner g a i (is_own S inner g a)) e ∙ ap (unlinked_by S inner g a true) (sym o ∙ is))

pub information_unlinked : (S : Seen) (inner : Scope) (g : ParameterGovernor) (a : Argument) (own : Bool) → is_information S.defs a ≡ true → own ≡ is_own S inner g a → own ≡ false →
    true ≡ argument_unsupported S inner g a
information_unlinked S inner g a own e o is = sym (ap (λ i. unlinked_by S inner g a i (is_own S inner g a)) e ∙ ap (unlinked_by S inner g a true) (sym o ∙ is))

pub unlinked_handed : (S : Seen) (inner : Scope) (g : ParameterGovernor) (a o : Option Argument) (b : Bool) → a ≡ o →
    b ≡ once false a (argument_unsupported S inner g) → b ≡ once false o (argument_unsupported S inner g)
unlinked_handed S inner g a o b e is = is ∙ ap (λ x. once false x (argument_unsupported S inner g)) e
