-- The characters of a tree that is a text.
use Rattle.std.specs.Prelude.{ℕ, List, [], ◌∷◌, Option, Some, None}
use Rattle.asn_meaning.specs.Answers.{once}
use Rattle.asn_meaning.specs.ValueTrees.{ValueTree, Characters}

abbrev pub characters_in : ValueTree → Option (List ℕ)
characters_in (Characters cs) = Some cs
characters_in _ = None

-- the item of a list of one
abbrev pub only_item : List ℕ → Option ℕ
only_item (c ∷ []) = Some c
only_item _ = None

-- the character of a text of one
abbrev pub character_in : ValueTree → Option ℕ
character_in t = once None (characters_in t) only_item
