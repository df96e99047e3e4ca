-- What names and paths of values stand for under a head, before it is known what that denotes.
use Rattle.std.specs.Prelude.{ℕ, List, Option, Some, None}
use Rattle.asn_tree.specs.declared.values.ASN1Value.{ASN1Value}
use Rattle.asn_meaning_values.specs.declared.stands.Stands.{Stands as LentStands}
use Rattle.asn_meaning_values.specs.declared.stands.Stands.TheVariants as lent
use Rattle.asn_meaning_values.specs.inner.Reading.{read_outside, shown_read}
use Rattle.asn_meaning_shapes.specs.Trees.{shown_tree}
use Rattle.asn_meaning.specs.Answers.{Denotation, Denoted, Unsure, once}
use Rattle.asn_meaning.specs.Definitions.{Definitions, value_named}
use Rattle.asn_meaning.specs.Denotes.{Read, argument_of, defined_read, own_name, path_value, read_denoted, shaped}
use Rattle.asn_meaning.specs.Meaning.{Meaning}
use Rattle.asn_meaning.specs.Names.{FieldType, Open, Fixed}
use Rattle.asn_meaning.specs.Scopes.{Scope, Bound, bound_to, Place}
use Rattle.asn_meaning.specs.ValueTrees.{ValueTree, Opaque}

pub data Stands : Type 0 where
  -- a tree of the head's own
  ForTree : ValueTree → Stands
  -- a value that is read elsewhere
  ForRead : Read → Stands
  -- a value of an open type
  ForOpen : Stands
  -- nothing: the name leads nowhere
  ForNothing : Stands

abbrev pub shown_stands : LentStands → Stands
shown_stands (lent.Tree t) = ForTree (shown_tree t)
shown_stands (lent.Read r) = ForRead (shown_read r)
shown_stands lent.Open = ForOpen
shown_stands lent.Nothing = ForNothing

abbrev pub dummy_stands : Scope → Bound → Stands
dummy_stands scope b = once ForNothing (argument_of scope b) ForRead

abbrev pub defined_stands : Definitions → List ℕ → Stands
defined_stands defs name = once ForNothing (value_named defs name) (λ d. ForRead (defined_read d))

abbrev pub own_or : Option ValueTree → Stands → Stands
own_or (Some t) other = ForTree t
own_or None other = other

abbrev pub own_or_defined : Definitions → Place → List ℕ → Stands
own_or_defined defs head name = own_or (own_name head name) (defined_stands defs name)

abbrev pub name_stands : Definitions → Scope → Place → List ℕ → Option Bound → Stands
name_stands defs scope head name (Some b) = dummy_stands scope b
name_stands defs scope head name None = own_or_defined defs head name

abbrev pub field_stands : ASN1Value × FieldType → Stands
field_stands (v, Open) = ForOpen
field_stands (v, Fixed ty) = ForRead (read_outside v ty)

abbrev pub path_stands : Definitions → Scope → List ℕ → List ℕ → Stands
path_stands defs scope o name = once ForNothing (path_value defs scope o name) field_stands

abbrev pub reference_stands : Definitions → Scope → Place → Option (List ℕ) → List ℕ → Stands
reference_stands defs scope head None name = name_stands defs scope head name (bound_to scope name)
reference_stands defs scope head (Some o) name = path_stands defs scope o name

-- what is denoted by what stands for a name
abbrev pub stands_denoted : Meaning → Place → Stands → Denotation ValueTree
stands_denoted M head (ForTree t) = Denoted t
stands_denoted M head (ForRead r) = shaped M head (read_denoted M r)
stands_denoted M head ForOpen = shaped M head (Denoted Opaque)
stands_denoted M head ForNothing = Unsure
