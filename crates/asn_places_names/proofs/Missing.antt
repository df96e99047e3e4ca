-- Names without a definition, as the index sees them.
use Rattle.std.proofs.Common.{◌≡◌, ℕ, List, Bool, true, false, Option, Some, None, refl, ap, ◌∙◌, if◌then◌else◌}
use Rattle.std.specs.Prelude.{codes, is_some, not, ◌&&◌}
use Rattle.std.specs.Str.{bytes_eq}
use Rattle.asn_tree.specs.declared.definitions.ToplevelDefinition.{ToplevelDefinition}
use Rattle.asn_names_index.specs.Definitions.{last_named, seen}
use Rattle.asn_meaning.specs.Answers.{once}
use Rattle.asn_meaning.specs.Definitions.{Definitions, built_in}
use Rattle.asn_needs.specs.Occurrences.{Need, Occurrence, OfClasses, lacks_list, parameters_of, sort_of, takes}
use Rattle.asn_places_names.specs.inner.Lacks.{lacks}

-- what is told of the definition that a name sees
abbrev lacking : Need → Option ToplevelDefinition → Bool
lacking need o = once true o (λ d. not (takes need (sort_of d)))

pub lacks_built_in : (defs : Definitions) (need : Need) (name : List ℕ) → bytes_eq name (codes "TYPE-IDENTIFIER") ≡ true → lacks defs need name ≡ not (takes need OfClasses)
unfolding built_in
lacks_built_in defs need name e = ap (λ b. lacking need (if b then Some built_in else last_named defs name)) e

pub lacks_seen : (defs : Definitions) (need : Need) (name : List ℕ) → bytes_eq name (codes "TYPE-IDENTIFIER") ≡ false →
    lacks defs need name ≡ once true (seen defs name) (λ d. not (takes need (sort_of d)))
lacks_seen defs need name e = go (bytes_eq name (codes "TYPE-IDENTIFIER")) e
  where
    go : (b : Bool) → b ≡ false → lacking need (if b then Some built_in else last_named defs name) ≡ lacking need (if b then None else last_named defs name)
    go true f = absurd cc
    go false f = refl

abbrev listless : Occurrence → Option ToplevelDefinition → Bool
listless o d = once false d (λ d. takes o.need (sort_of d) && (is_some (parameters_of d) && not o.has_list))

pub list_is_seen : (defs : Definitions) (o : Occurrence) →
    lacks_list defs o ≡ once false (seen defs o.name) (λ d. takes o.need (sort_of d) && (is_some (parameters_of d) && not o.has_list))
unfolding built_in
list_is_seen defs o = go (bytes_eq o.name (codes "TYPE-IDENTIFIER"))
  where
    no_list : (b : Bool) → (b && (false && not o.has_list)) ≡ false
    no_list true = refl
    no_list false = refl

    go : (b : Bool) → listless o (if b then Some built_in else last_named defs o.name) ≡ listless o (if b then None else last_named defs o.name)
    go true = no_list (takes o.need OfClasses)
    go false = refl

pub list_unseen : (defs : Definitions) (o : Occurrence) → seen defs o.name ≡ None → lacks_list defs o ≡ false
list_unseen defs o e = list_is_seen defs o ∙ ap (listless o) e
