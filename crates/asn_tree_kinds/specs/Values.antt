-- What the value of a field holds.
use Rattle.asn_tree_kinds.specs.declared.values.StructLikeFieldValueOver.{StructLikeFieldValueOver}
use Rattle.asn_tree_kinds.specs.declared.values.StructLikeFieldValueOver.TheVariants.{Explicit, Implicit}

-- the value, whether it is written or the default
abbrev pub held : {V : Type 0} → StructLikeFieldValueOver V → V
held (Explicit v) = v
held (Implicit v) = v
