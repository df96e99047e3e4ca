-- Argument lists as far as they count: none, one, or several.
use Rattle.std.specs.Prelude.{List, [], ◌∷◌}
use Rattle.asn_tree.specs.declared.constraints.Constraint.{Constraint-F}
use Rattle.asn_tree.specs.declared.constraints.Parameter.{Parameter}
use Rattle.asn_meaning_heads.specs.declared.lists.ArgumentLists.{ArgumentLists}
use Rattle.asn_meaning_heads.specs.declared.lists.ArgumentLists.TheVariants as lent
use Rattle.asn_meaning.specs.Layers.{ConstraintLayer}

pub data Lists : Type 0 where
  NoList : Lists
  OneList : List Parameter → Lists
  SeveralLists : Lists

abbrev pub shown_lists : ArgumentLists → Lists
shown_lists lent.Nothing = NoList
shown_lists (lent.One arguments) = OneList arguments.now
shown_lists lent.Several = SeveralLists

abbrev pub with_list : Lists → List Parameter → Lists
with_list NoList arguments = OneList arguments
with_list (OneList others) arguments = SeveralLists
with_list SeveralLists arguments = SeveralLists

abbrev pub with_layer : Lists → ConstraintLayer → Lists
with_layer lists (Constraint-F.SubtypeConstraint set) = lists
with_layer lists (Constraint-F.TableConstraint table) = lists
with_layer lists (Constraint-F.Parameter arguments) = with_list lists arguments
with_layer lists (Constraint-F.ContentConstraint content) = lists

abbrev pub joined : Lists → List (List Parameter) → Lists
joined lists [] = lists
joined lists (arguments ∷ others) = joined (with_list lists arguments) others

abbrev pub counted : List (List Parameter) → Lists
counted lists = joined NoList lists
