-- Argument lists, one by one.
use Rattle.std.specs.Prelude.{List, [], ◌∷◌, Option, Some, None}
use Rattle.asn_tree.specs.declared.constraints.Parameter.{Parameter}
use Rattle.asn_tree.specs.declared.definitions.ParameterizationArgument.{ParameterizationArgument}
use Rattle.asn_meaning.specs.Names.{lists_in}
use Rattle.asn_meaning.specs.Scopes.{Scope}
use Rattle.asn_needs.specs.Sites.{AnArgument, NoArgument, Site, beside}
use Rattle.asn_places_types.specs.declared.instances.FirstList.{FirstList}

-- the first list, and those behind it
abbrev pub split : List (List Parameter) → Option (List Parameter × List (List Parameter))
split [] = None
split (arguments ∷ others) = Some (arguments, others)

abbrev pub shown_first : FirstList → List Parameter × List (List Parameter)
shown_first x = (x.arguments.now, lists_in x.behind.now)

-- a dummy with the first of these arguments
abbrev pub argument_site : Site → Scope → ParameterizationArgument → List Parameter → Site
argument_site s inner dummy [] = beside s NoArgument
argument_site s inner dummy (a ∷ arguments) = beside s (AnArgument a dummy inner)
