-- Trees on which Judge answers yes or no, and within how many steps.
use Rattle.std.specs.Prelude.{ℕ, ◌+◌, ◌≤◌, List}
use Rattle.asn_tree.specs.declared.definitions.ToplevelDefinition.{ToplevelDefinition}
use Rattle.asn_tree.specs.declared.types.ASN1Type.{ASN1Type}
use Rattle.asn_meaning.specs.Accepts.{judge}
use Rattle.asn_meaning.specs.Answers.{Answer, Yes, No, Unknown}
use Rattle.asn_meaning.specs.Scopes.{Empty}
use Rattle.asn_meaning.specs.ValueTrees.{ValueTree, NullValue, TruthValue, WholeNumber, ItemNumber, RealNumber, Bits, Octets, Characters, ObjectIdentifierArcs, Struct, Elements, Alternative, Opaque, Fields, no_field, field, ValueTrees, no_tree, tree}
use Rattle.asn_needs.specs.Needs.{NameHasHeight}
use Rattle.asn_names.specs.Definitions.{Definitions}
use Rattle.asn_names.specs.Occurrences.{Reaches}

-- The answer is yes or no.
abbrev pub IsYesOrNo : Answer → Type 0
IsYesOrNo Yes = Unit {0}
IsYesOrNo No = Unit {0}
IsYesOrNo Unknown = ⊥

-- ---- steps

-- what one level of a tree costs: the names that are followed to a head, and the ends of ranges
abbrev pub level_steps : ℕ → ℕ
level_steps h = h + 5

abbrev mutual
  -- How many steps decide a tree, where every name that is met has at most this height in the order of needs.
  pub steps_of : ℕ → ValueTree → ℕ
  steps_of h NullValue = level_steps h
  steps_of h (TruthValue b) = level_steps h
  steps_of h (WholeNumber i) = level_steps h
  steps_of h (ItemNumber i) = level_steps h
  steps_of h (RealNumber m b e) = level_steps h
  steps_of h (Bits bs) = level_steps h
  steps_of h (Octets os) = level_steps h
  steps_of h (Characters cs) = level_steps h
  steps_of h (ObjectIdentifierArcs arcs) = level_steps h
  steps_of h (Struct fs) = steps_of_fields h fs + level_steps h
  steps_of h (Elements ts) = steps_of_trees h ts + level_steps h
  steps_of h (Alternative name t) = steps_of h t + level_steps h
  steps_of h Opaque = level_steps h

  pub steps_of_fields : ℕ → Fields → ℕ
  steps_of_fields h no_field = 0
  steps_of_fields h (field name t fs) = steps_of h t + steps_of_fields h fs

  pub steps_of_trees : ℕ → ValueTrees → ℕ
  steps_of_trees h no_tree = 0
  steps_of_trees h (tree t ts) = steps_of h t + steps_of_trees h ts

-- ---- decided

-- Each name that the definition reaches has at most this height in the order of needs.
abbrev pub HasHeights : Definitions → ℕ → ToplevelDefinition → Type 0
HasHeights defs h d = (name : List ℕ) → Reaches defs d name → NameHasHeight defs h name

-- So many steps, and any more, give yes or no.
abbrev pub IsDecidedIn : Definitions → ℕ → ASN1Type → ValueTree → Type 0
IsDecidedIn defs n ty t = (k : ℕ) → n ≤ k → IsYesOrNo (judge defs k Empty ty t)
