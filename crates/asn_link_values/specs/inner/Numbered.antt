-- The items of a number.
use Rattle.std.specs.Prelude.{ℤ, ℕ, List, Option, Some, None, if◌then◌else◌}
use Rattle.std.specs.List.{find}
use Rattle.asn_tree_kinds.specs.declared.types.Enumeral.{Enumeral}
use Rattle.asn_meaning.specs.Answers.{once}
use Rattle.asn_meaning.specs.Members.{item_named}
use Rattle.asn_meaning.specs.ValueTrees.{same_number}

-- the first item of the number
abbrev pub first_numbered : List Enumeral → ℤ → Option Enumeral
first_numbered items i = find (λ item. same_number item.index i) items

-- the item's name, where the first item of the name has the number too
abbrev pub numbered_by : List Enumeral → ℤ → Enumeral → Option (List ℕ)
numbered_by items i item = once None (item_named items item.name) (λ k. if same_number k i then Some item.name else None)
