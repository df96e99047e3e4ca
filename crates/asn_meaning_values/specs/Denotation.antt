-- The denotation of meaning that one of the code stands for.
use Rattle.asn_meaning_values.specs.declared.denotation.Denotation.{Denotation as LentDenotation}
use Rattle.asn_meaning_values.specs.declared.denotation.Denotation.TheVariants as lent
use Rattle.asn_meaning_shapes.specs.declared.trees.Tree.{Tree}
use Rattle.asn_meaning_shapes.specs.Trees.{shown_tree}
use Rattle.asn_meaning.specs.Answers.{Denotation, Denoted, Nothing, Unsure}
use Rattle.asn_meaning.specs.ValueTrees.{ValueTree}

-- what is denoted, where a part of it stands for this
abbrev pub shown_by : {A B : Type 0} → (A → B) → LentDenotation A → Denotation B
shown_by f (lent.Denoted x) = Denoted (f x)
shown_by f lent.Nothing = Nothing
shown_by f lent.Unsure = Unsure

abbrev pub shown_denotation : LentDenotation Tree → Denotation ValueTree
shown_denotation d = shown_by shown_tree d
