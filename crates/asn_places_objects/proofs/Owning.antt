-- Arguments that are judged by their kind alone, and values that are an item of their governor.
use Rattle.std.proofs.Common.{◌≡◌, Bool, false, Option, sym, ap, ◌∙◌}
use Rattle.asn_tree.specs.declared.constraints.Parameter.{Parameter, out-Parameter}
use Rattle.asn_tree.specs.declared.constraints.Parameter.TheVariants as parameter
use Rattle.asn_tree.specs.declared.definitions.ParameterGovernor.{ParameterGovernor}
use Rattle.asn_tree.specs.declared.values.ASN1Value.{ASN1Value}
use Rattle.asn_meaning.specs.Answers.{once}
use Rattle.asn_meaning.specs.Scopes.{Argument, Place, Scope}
use Rattle.asn_meaning.specs.Written.{as_written}
use Rattle.asn_needs.specs.Dummies.{name_of_value}
use Rattle.asn_needs.specs.PartsOfTypes.{is_aside, is_own_at}
use Rattle.asn_needs.specs.Sites.{Seen}
use Rattle.asn_places_objects.specs.inner.Asked.{is_own_named}

pub value_own : (S : Seen) (p : Place) (a : Parameter) (v : ASN1Value) (b : Bool) → a ≡ parameter.ValueParameter v → b ≡ once false (name_of_value (as_written v)) (is_own_named S.known p) →
    b ≡ is_own_at S p (out-Parameter a)
value_own S p a v b e is = is ∙ sym (ap (is_own_at S p) (ap out-Parameter e ∙ parameter.outs-ValueParameter v))

pub aside_found : (S : Seen) (inner : Scope) (g : ParameterGovernor) (a o : Option Argument) (b : Bool) → a ≡ o → b ≡ is_aside S inner g a → b ≡ is_aside S inner g o
aside_found S inner g a o b e is = is ∙ ap (is_aside S inner g) e
