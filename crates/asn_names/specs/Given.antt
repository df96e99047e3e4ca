-- What linking gives of each definition: its numbers, its module's tagging environment, and all else as read.
use Rattle.std.specs.Prelude.{◌≡◌, ℕ, ◌+◌, List, [], ◌∷◌, ◌++◌, Option, Some, None}
use Rattle.asn_tree.specs.Calls.{numbered}
use Rattle.asn_tree.specs.Tagging.{retagged_definition}
use Rattle.asn_tree.specs.declared.definitions.ToplevelDefinition.{ToplevelDefinition}
use Rattle.asn_tree_headers.specs.declared.headers.TaggingEnvironment.{TaggingEnvironment}
use Rattle.asn_names.specs.Definitions.{Definitions, Module}

-- The definition of this number in the module of this number and environment, as linking gives it.
abbrev pub given : TaggingEnvironment → ℕ → ℕ → ToplevelDefinition → ToplevelDefinition
given environment home item d = numbered home item (retagged_definition environment d)

-- the definitions of one module, the first of them of this number
abbrev pub given_from : TaggingEnvironment → ℕ → ℕ → Definitions → Definitions
given_from environment home item [] = []
given_from environment home item (d ∷ ds) = given environment home item d ∷ given_from environment home (item + 1) ds

-- the definitions of modules, the first of them of this number
abbrev pub given_since : ℕ → List Module → Definitions
given_since home [] = []
given_since home (m ∷ ms) = given_from m.0.tagging_environment home 0 m.1 ++ given_since (home + 1) ms

-- All definitions of a reading, in order, as linking gives them.
abbrev pub given_definitions : List Module → Definitions
given_definitions reading = given_since 0 reading

-- The second is the first as linking gives it, in some module at some place; or neither is there.
abbrev pub IsGiven : Option ToplevelDefinition → Option ToplevelDefinition → Type 0
IsGiven None None = Unit {0}
IsGiven (Some d) (Some e) = (environment : TaggingEnvironment) × (home : ℕ) × (item : ℕ) × (e ≡ given environment home item d)
IsGiven (Some d) None = ⊥
IsGiven None (Some e) = ⊥
