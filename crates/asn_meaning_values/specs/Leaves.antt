-- What is denoted, where it has no parts.
use Rattle.std.specs.Prelude.{Option, Some, None}
use Rattle.asn_meaning.specs.Answers.{Denotation, Denoted, Nothing, Unsure}
use Rattle.asn_meaning.specs.ValueTrees.{ValueTree, Struct, Elements, Alternative}

-- a tree without parts
abbrev pub without_parts : ValueTree → Option ValueTree
without_parts (Struct fields) = None
without_parts (Elements trees) = None
without_parts (Alternative name t) = None
without_parts t = Some t

abbrev pub leaf : Denotation ValueTree → Option ValueTree
leaf (Denoted t) = without_parts t
leaf Nothing = None
leaf Unsure = None
