use Rattle.std.proofs.Common.{◌≡◌, ◌++◌, drop}
use Rattle.asn_tree_notation.specs.Paths.{path_behind}
use Rattle.asn_calls.proofs.paths.InformationObjectFieldReferenceInformationObjectFieldReferenceCalls.field_path_as_str.Given as goal

abbrev pub invariant-loop-field : goal.invariant-loop-field
invariant-loop-field l = l.text ++ path_behind (drop l.field-index l.others) ≡ l.initial.text ++ path_behind l.others
