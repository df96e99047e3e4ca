-- The last definition of a name among the given ones is the last of the name in the reading, as linking gives it.
use Rattle.std.proofs.Common.{◌≡◌, ℕ, ◌+◌, List, [], ◌∷◌, true, false, Bool, Option, Some, None, refl, sym, subst}
use Rattle.std.specs.Prelude.{if◌then◌else◌}
use Rattle.std.specs.Str.{bytes_eq}
use Rattle.asn_tree.specs.declared.definitions.ToplevelDefinition.{ToplevelDefinition}
use Rattle.asn_tree.specs.declared.definitions.ToplevelDefinition.TheVariants.{TypeDef, Value, Information}
use Rattle.asn_tree_headers.specs.declared.headers.TaggingEnvironment.{TaggingEnvironment}
use Rattle.asn_names_index.specs.Definitions.{name_of, is_named}
use Rattle.asn_names.specs.Definitions.{Definitions, Module, definitions_of, last_named}
use Rattle.asn_names.specs.Given.{IsGiven, given, given_from, given_since, given_definitions}
use Rattle.asn_names_index.proofs.Seen.{last_append, or_else}

or_else_given : (a b c d : Option ToplevelDefinition) → IsGiven a b → IsGiven c d → IsGiven (or_else a c) (or_else b d)
or_else_given None None c d p q = q
or_else_given (Some x) (Some y) c d p q = p
or_else_given (Some x) None c d p q = absurd p
or_else_given None (Some y) c d p q = absurd p

here_given : (e : TaggingEnvironment) (home item : ℕ) (name : List ℕ) (d : ToplevelDefinition) →
    IsGiven (if is_named name d then Some d else None) (if is_named name (given e home item d) then Some (given e home item d) else None)
here_given e home item name d = subst (λ n. IsGiven (here d d) (if bytes_eq n name then Some (given e home item d) else None)) (sym (name_given d)) (go (is_named name d))
  where
    here : ToplevelDefinition → ToplevelDefinition → Option ToplevelDefinition
    here d x = if is_named name d then Some x else None

    name_given : (d : ToplevelDefinition) → name_of (given e home item d) ≡ name_of d
    name_given (TypeDef d) = refl
    name_given (Value d) = refl
    name_given (Information d) = refl

    go : (b : Bool) → IsGiven (if b then Some d else None) (if b then Some (given e home item d) else None)
    go true = (e, home, item, refl)
    go false = tt

module_given : (e : TaggingEnvironment) (home item : ℕ) (name : List ℕ) (ds : Definitions) → IsGiven (last_named ds name) (last_named (given_from e home item ds) name)
module_given e home item name [] = tt
module_given e home item name (d ∷ ds) = or_else_given _ _ _ _ (module_given e home (item + 1) name ds) (here_given e home item name d)

modules_given : (home : ℕ) (name : List ℕ) (ms : List Module) → IsGiven (last_named (definitions_of ms) name) (last_named (given_since home ms) name)
modules_given home name [] = tt
modules_given home name (m ∷ ms) =
    let given_here = given_from m.0.tagging_environment home 0 m.1 in
    subst (λ o. IsGiven o (last_named (given_since home (m ∷ ms)) name)) (sym (last_append name m.1 (definitions_of ms)))
    (subst (λ o. IsGiven (or_else (last_named (definitions_of ms) name) (last_named m.1 name)) o) (sym (last_append name given_here (given_since (home + 1) ms)))
    (or_else_given _ _ _ _ (modules_given (home + 1) name ms) (module_given m.0.tagging_environment home 0 name m.1)))

pub last_given : (reading : List Module) (name : List ℕ) → IsGiven (last_named (definitions_of reading) name) (last_named (given_definitions reading) name)
last_given reading name = modules_given 0 name reading
