use Rattle.std.proofs.Common.{◌≡◌, None, true}
use Rattle.std.specs.Prelude.{Contains, is_none}
use Rattle.std.proofs.lemmas.Bool.{and_parts}
use Rattle.asn_tree.specs.declared.definitions.ToplevelDefinition.TheVariants.{TypeDef}
use Rattle.asn_tree.specs.declared.definitions.ToplevelTypeDefinition.{ToplevelTypeDefinition}
use Rattle.asn_link_closed.specs.StayingNames.{StayingName, staying_names}
use Rattle.asn_meaning_unchanged.specs.References.{names_in, names_of}
use Rattle.asn_meaning_unchanged.specs.Unchanged.{is_left, is_unchanged, linking}
use Rattle.asn_link_closed.proofs.Named.{found, references}
use Rattle.asn_link_closed.proofs.own_instances.unchanged_names_are_references.Goals as goal

of_definition : (d : ToplevelTypeDefinition) → is_unchanged (TypeDef d) ≡ true → (x : StayingName) → Contains (staying_names d.ty) x →
    (x.0 ≡ None) × Contains (names_of (TypeDef d)) x.1
unfolding is_unchanged names_of
of_definition d h = found (staying_names d.ty) (names_in d.ty) (references d.ty (and_parts (is_none d.parameterization) (is_left (linking d.ty)) h).1)

pub returns : goal.returns
returns c = of_definition
