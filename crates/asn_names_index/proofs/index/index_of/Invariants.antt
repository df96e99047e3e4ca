use Rattle.std.proofs.Common.{take}
use Rattle.asn_names_index.specs.Index.{IsIndexOf}
use Rattle.asn_names_index.proofs.index.index_of.Given as goal

abbrev pub invariant-loop-at : goal.invariant-loop-at
invariant-loop-at l = IsIndexOf (take l.at l.definitions) l.index
