-- The parts of a value, as they are written and as they are put together.
use Rattle.std.specs.Prelude.{ℕ, List, Option, Some, None}
use Rattle.asn_tree.specs.declared.values.ASN1Value.{ASN1Value}
use Rattle.asn_meaning_values.specs.declared.values.Chosen.{Chosen}
use Rattle.asn_meaning_shapes.specs.Trees.{Named, fields, trees}
use Rattle.asn_meaning.specs.Answers.{Denotation, made_of}
use Rattle.asn_meaning.specs.ValueTrees.{ValueTree, Fields, ValueTrees}
use Rattle.asn_meaning.specs.Written.{Written, AlternativeWritten}

abbrev pub shown_chosen : Chosen → List ℕ × ASN1Value
shown_chosen x = (x.name.now, x.value.now)

-- the alternative that is written
abbrev pub alternative_written : Written → Option (List ℕ × ASN1Value)
alternative_written (AlternativeWritten name v) = Some (name, v)
alternative_written _ = None

abbrev pub made_parts : Denotation (List Named) → Denotation Fields
made_parts d = made_of fields d

abbrev pub made_elements : Denotation (List ValueTree) → Denotation ValueTrees
made_elements d = made_of trees d
