-- The whole number of a tree.
use Rattle.std.specs.Prelude.{ℤ, Option, Some, None}
use Rattle.asn_meaning.specs.ValueTrees.{ValueTree, WholeNumber}

abbrev pub whole_in : ValueTree → Option ℤ
whole_in (WholeNumber i) = Some i
whole_in _ = None
