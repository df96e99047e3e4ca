-- Constraints in two runs, and the parts of a type.
use Rattle.std.proofs.Common.{◌≡◌, List, [], ◌++◌, Option, Some, None, refl, sym, ap, ◌∙◌}
use Rattle.std.proofs.lemmas.List.{map-append}
use Rattle.asn_tree.specs.declared.types.ASN1Type.{ASN1Type}
use Rattle.asn_tree.specs.declared.constraints.Constraint.{Constraint}
use Rattle.asn_meaning.specs.Kinds.{Kind, kind_of_type}
use Rattle.asn_meaning.specs.Scopes.{Place}
use Rattle.asn_meaning.specs.Names.{lists_in}
use Rattle.asn_needs.specs.PartsOfTypes.{own_constraints}
use Rattle.asn_meaning.specs.Accepts.{place}
use Rattle.asn_needs.specs.PartsOfTypes.{Instance, component_sites, constraint_sites, instance_at, instance_sites, loose_lists, type_sites, type_sites_from}
use Rattle.asn_needs.specs.Sites.{Seen, Site, TypePlace, beside, AConstraint}
use Rattle.asn_places_types.proofs.Adding.{then_more, then_three}

pub all_constraints : (all some xs : List Site) (s : Site) (p : Option Place) (cs ds : List Constraint) → some ≡ xs ++ constraint_sites s p cs → all ≡ some ++ constraint_sites s p ds →
    all ≡ xs ++ constraint_sites s p (cs ++ ds)
all_constraints all some xs s p cs ds e f =
    then_more all some xs (constraint_sites s p cs) (constraint_sites s p ds) e f ∙ ap (λ ys. xs ++ ys) (sym (map-append (λ c. beside s (AConstraint c p)) cs ds))

pub placed_constraints : (all xs : List Site) (s : Site) (p : Place) (ty : ASN1Type) (own cs : List Constraint) → p ≡ place s.scope ty → own ≡ own_constraints ty →
    all ≡ xs ++ constraint_sites s (Some p) (own ++ cs) → all ≡ xs ++ constraint_sites s (Some (place s.scope ty)) (own_constraints ty ++ cs)
placed_constraints all xs s p ty own cs e f is =
    is ∙ ap (λ x. xs ++ constraint_sites s (Some x) (own ++ cs)) e ∙ ap (λ x. xs ++ constraint_sites s (Some (place s.scope ty)) (x ++ cs)) f

-- ---- types

pub type_done : (S : Seen) (s : Site) (at : TypePlace) (ty : ASN1Type) (behind cs : List Constraint) (k l : Kind) (i : Option Instance) (xs first second third all : List Site) →
    k ≡ kind_of_type ty → l ≡ kind_of_type ty → cs ≡ own_constraints ty → i ≡ instance_at S.defs s.scope l →
    first ≡ xs ++ component_sites s k → second ≡ first ++ instance_sites s at (lists_in cs) i → third ≡ second ++ loose_lists s (lists_in behind) →
    all ≡ third ++ constraint_sites s (Some (place s.scope ty)) (own_constraints ty ++ behind) → all ≡ xs ++ type_sites_from S s at ty behind
type_done S s at ty behind cs k l i xs first second third all ke le ce ie f g h is =
    then_three all third second first xs (component_sites s (kind_of_type ty)) (instance_sites s at (lists_in (own_constraints ty)) (instance_at S.defs s.scope (kind_of_type ty))) (loose_lists s (lists_in behind))
    (constraint_sites s (Some (place s.scope ty)) (own_constraints ty ++ behind))
    (f ∙ ap (λ x. xs ++ component_sites s x) ke)
    (g ∙ ap (λ x. first ++ instance_sites s at (lists_in x) i) ce ∙ ap (λ x. first ++ instance_sites s at (lists_in (own_constraints ty)) x) (ie ∙ ap (instance_at S.defs s.scope) le))
    h is

pub type_inside : (S : Seen) (s inner : Site) (at : TypePlace) (ty : ASN1Type) (behind : List Constraint) (xs all : List Site) → inner ≡ record s { way = [] } →
    all ≡ xs ++ type_sites_from S inner at ty behind → all ≡ xs ++ type_sites S s at ty behind
type_inside S s inner at ty behind xs all e is = is ∙ ap (λ x. xs ++ type_sites_from S x at ty behind) e
