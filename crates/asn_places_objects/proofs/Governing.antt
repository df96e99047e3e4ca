-- What stands in an argument under its governor.
use Rattle.std.proofs.Common.{◌≡◌, ℕ, Bool, true, false, List, [], ◌++◌, sym, ap, ◌∙◌, if◌then◌else◌}
use Rattle.asn_tree.specs.declared.constraints.Parameter.{Parameter}
use Rattle.asn_tree.specs.declared.definitions.ParameterGovernor.{ParameterGovernor}
use Rattle.asn_tree.specs.declared.definitions.ParameterGovernor.TheVariants as governor
use Rattle.asn_tree.specs.declared.definitions.ParameterizationArgument.{ParameterizationArgument}
use Rattle.asn_tree.specs.declared.types.ASN1Type.{ASN1Type}
use Rattle.asn_meaning.specs.Definitions.{Definitions}
use Rattle.asn_meaning.specs.Scopes.{Scope}
use Rattle.asn_needs.specs.Dummies.{handed_on}
use Rattle.asn_needs.specs.PartsOfTypes.{argument_parts, governed_sites, here, is_aside}
use Rattle.asn_needs.specs.Sites.{Seen, Site, seen}
use Rattle.asn_places_types.proofs.Adding.{nothing_more}

-- an argument that is judged by its kind alone, or another
abbrev unless_aside : Bool → List Site → List Site → List Site
unless_aside b xs governed = xs ++ (if b then [] else governed)

pub parts_aside : (defs : Definitions) (n : ℕ) (s : Site) (p : Parameter) (dummy : ParameterizationArgument) (inner : Scope) (xs : List Site) →
    is_aside (seen defs n) inner dummy.param_governor (handed_on n (here s p)) ≡ true → xs ≡ xs ++ argument_parts (seen defs n) s p dummy inner
parts_aside defs n s p dummy inner xs e =
    nothing_more xs ∙ sym (ap (λ b. unless_aside b xs (governed_sites (seen defs n) s p inner dummy.param_governor)) e)

pub parts_governed : (defs : Definitions) (n : ℕ) (s : Site) (p : Parameter) (dummy : ParameterizationArgument) (inner : Scope) (xs all : List Site) →
    is_aside (seen defs n) inner dummy.param_governor (handed_on n (here s p)) ≡ false → all ≡ xs ++ governed_sites (seen defs n) s p inner dummy.param_governor →
    all ≡ xs ++ argument_parts (seen defs n) s p dummy inner
parts_governed defs n s p dummy inner xs all e is =
    is ∙ sym (ap (λ b. unless_aside b xs (governed_sites (seen defs n) s p inner dummy.param_governor)) e)

-- under a governor that is a type or a class
pub typed_governed : (S : Seen) (s : Site) (p : Parameter) (inner : Scope) (g : ParameterGovernor) (ty : ASN1Type) (xs all : List Site) → g ≡ governor.TypeOrClass ty →
    all ≡ xs ++ governed_sites S s p inner (governor.TypeOrClass ty) → all ≡ xs ++ governed_sites S s p inner g
typed_governed S s p inner g ty xs all e is = is ∙ sym (ap (λ h. xs ++ governed_sites S s p inner h) e)
