-- Parts that are put together one by one.
use Rattle.std.specs.Prelude.{ℕ, List, [], ◌∷◌, ◌++◌, map}
use Rattle.asn_meaning_values.specs.declared.denotation.Denotation.{Denotation as LentDenotation}
use Rattle.asn_meaning_values.specs.Denotation.{shown_by}
use Rattle.asn_meaning_shapes.specs.declared.trees.Field.{Field}
use Rattle.asn_meaning_shapes.specs.declared.trees.Tree.{Tree}
use Rattle.asn_meaning_shapes.specs.Trees.{Named, fields, shown_field, shown_tree, trees}
use Rattle.asn_meaning.specs.Answers.{Denotation}
use Rattle.asn_meaning.specs.ValueTrees.{ValueTree, Struct, Elements}

abbrev pub shown_parts : LentDenotation (List Field) → Denotation (List Named)
shown_parts d = shown_by (map shown_field) d

abbrev pub shown_elements : LentDenotation (List Tree) → Denotation (List ValueTree)
shown_elements d = shown_by (map shown_tree) d

abbrev pub with_part : List ℕ → List Named → ValueTree → List Named
with_part name parts t = parts ++ (name, t) ∷ []

abbrev pub with_element : List ValueTree → ValueTree → List ValueTree
with_element elements t = elements ++ t ∷ []

abbrev pub struct_of : List Named → ValueTree
struct_of parts = Struct (fields parts)

abbrev pub elements_of : List ValueTree → ValueTree
elements_of elements = Elements (trees elements)
