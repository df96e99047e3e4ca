-- What is asked of definitions, by part of the definitions of asn_needs.
use Rattle.std.specs.Prelude.{Bool}
use Rattle.asn_tree.specs.declared.definitions.ToplevelDefinition.{ToplevelDefinition}
use Rattle.asn_needs.specs.Occurrences.{NeedsType, sort_of, takes}

-- whether a definition is that of a type
abbrev pub is_type_definition : ToplevelDefinition → Bool
is_type_definition d = takes NeedsType (sort_of d)
