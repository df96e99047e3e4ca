-- Templates with their arguments, and what stands in them.
use Rattle.std.proofs.Common.{◌≡◌, ℕ, List, [], ◌∷◌, ◌++◌, map, Bool, true, false, if◌then◌else◌, Option, Some, None, refl, sym, subst, ap, ◌∙◌}
use Rattle.std.specs.Prelude.{◌||◌}
use Rattle.std.specs.List.{list_any}
use Rattle.std.specs.Str.{bytes_eq}
use Rattle.asn_tree.specs.declared.constraints.Parameter.{Parameter}
use Rattle.asn_tree.specs.declared.definitions.Parameterization.{Parameterization}
use Rattle.asn_tree.specs.declared.definitions.ToplevelTypeDefinition.{ToplevelTypeDefinition}
use Rattle.asn_meaning.specs.Scopes.{Scope}
use Rattle.asn_meaning.specs.Answers.{once}
use Rattle.asn_needs.specs.PartsOfTypes.{Instance, argument_sites, entered_sites, inner_scope, inner_site, instance_by, instance_sites, loose_lists, template_sites}
use Rattle.asn_needs.specs.Sites.{Site, TypePlace}
use Rattle.asn_places_types.specs.inner.Lists.{split}
use Rattle.asn_places_types.proofs.Adding.{ended, then_two}

-- ---- instances

abbrev instance_of : ToplevelTypeDefinition → Option Parameterization → Option (List Parameter × List (List Parameter)) → Option Instance
instance_of d p lists = once None lists (λ x. once None p (λ t. Some (record { template = d; dummies = t.parameters; arguments = x.0; others = x.1 })))

by_split : (d : ToplevelTypeDefinition) (lists : List (List Parameter)) → instance_by d lists ≡ instance_of d d.parameterization (split lists)
by_split d [] = refl
by_split d (arguments ∷ others) = refl

pub instance_none : (d : ToplevelTypeDefinition) (lists : List (List Parameter)) → split lists ≡ None → instance_by d lists ≡ None
instance_none d lists e = by_split d lists ∙ ap (instance_of d d.parameterization) e

pub instance_plain : (d : ToplevelTypeDefinition) (lists : List (List Parameter)) (first : List Parameter × List (List Parameter)) → split lists ≡ Some first → d.parameterization ≡ None → instance_by d lists ≡ None
instance_plain d lists first e f = by_split d lists ∙ ap (instance_of d d.parameterization) e ∙ ap (λ p. instance_of d p (Some first)) f

pub instance_some : (d : ToplevelTypeDefinition) (lists : List (List Parameter)) (first : List Parameter × List (List Parameter)) (t : Parameterization) → split lists ≡ Some first → d.parameterization ≡ Some t →
    instance_by d lists ≡ Some (record { template = d; dummies = t.parameters; arguments = first.0; others = first.1 })
instance_some d lists first t e f = by_split d lists ∙ ap (instance_of d d.parameterization) e ∙ ap (λ p. instance_of d p (Some first)) f

-- ---- what stands in them

pub entered_opaque : (s : Site) (at : TypePlace) (i : Instance) (xs : List Site) → s.is_opaque ≡ true → xs ≡ xs ++ entered_sites s at i
entered_opaque s at i xs e = sym (ap (λ b. xs ++ (if b || list_any (bytes_eq i.template.name) s.nest then [] else template_sites (inner_site s i) at i)) e ∙ ended xs)

pub entered_again : (s : Site) (at : TypePlace) (i : Instance) (xs : List Site) → s.is_opaque ≡ false → list_any (bytes_eq i.template.name) s.nest ≡ true → xs ≡ xs ++ entered_sites s at i
entered_again s at i xs e f =
    sym (ap (λ b. xs ++ (if b || list_any (bytes_eq i.template.name) s.nest then [] else template_sites (inner_site s i) at i)) e
    ∙ ap (λ b. xs ++ (if b then [] else template_sites (inner_site s i) at i)) f ∙ ended xs)

pub entered_inside : (s inside : Site) (at : TypePlace) (i : Instance) (scope : Scope) (xs all : List Site) → s.is_opaque ≡ false → list_any (bytes_eq i.template.name) s.nest ≡ false →
    scope ≡ inner_scope s i → inside ≡ record s { scope = scope; nest = i.template.name ∷ s.nest; way = [] } → all ≡ xs ++ template_sites inside at i → all ≡ xs ++ entered_sites s at i
entered_inside s inside at i scope xs all e f g h is =
    is ∙ ap (λ x. xs ++ template_sites x at i) (h ∙ ap (λ x. record s { scope = x; nest = i.template.name ∷ s.nest; way = [] }) g)
    ∙ sym (ap (λ b. xs ++ (if b || list_any (bytes_eq i.template.name) s.nest then [] else template_sites (inner_site s i) at i)) e
    ∙ ap (λ b. xs ++ (if b then [] else template_sites (inner_site s i) at i)) f)

pub instance_done : (s : Site) (at : TypePlace) (lists : List (List Parameter)) (i : Instance) (scope : Scope) (xs first some all : List Site) → scope ≡ inner_scope s i →
    first ≡ xs ++ argument_sites s scope i.dummies i.arguments → some ≡ first ++ entered_sites s at i → all ≡ some ++ loose_lists s i.others → all ≡ xs ++ instance_sites s at lists (Some i)
instance_done s at lists i scope xs first some all e f g h =
    then_two all some first xs (argument_sites s (inner_scope s i) i.dummies i.arguments) (entered_sites s at i) (loose_lists s i.others)
    (f ∙ ap (λ x. xs ++ argument_sites s x i.dummies i.arguments) e) g h
