-- A CHOICE is determined by its parts, and so is a SEQUENCE or SET.
use Rattle.std.proofs.Common.{◌≡◌, ◌∙◌, sym, ap}
use Rattle.asn_tree.specs.declared.types.Choice.{Choice, out-Choice, roll-Choice, roll-out-Choice}
use Rattle.asn_tree.specs.declared.types.SequenceOrSet.{SequenceOrSet, out-SequenceOrSet, roll-SequenceOrSet, roll-out-SequenceOrSet}

pub choice_is : (x y : Choice) → (out-Choice x).extensible ≡ (out-Choice y).extensible → (out-Choice x).options ≡ (out-Choice y).options → (out-Choice x).constraints ≡ (out-Choice y).constraints → x ≡ y
choice_is x y e f g = sym (roll-out-Choice x) ∙ (λ i. roll-Choice (record { extensible = e i; options = f i; constraints = g i })) ∙ roll-out-Choice y

pub sequence_is : (x y : SequenceOrSet) → (out-SequenceOrSet x).components_of ≡ (out-SequenceOrSet y).components_of → (out-SequenceOrSet x).components_at ≡ (out-SequenceOrSet y).components_at → (out-SequenceOrSet x).extensible ≡ (out-SequenceOrSet y).extensible → (out-SequenceOrSet x).constraints ≡ (out-SequenceOrSet y).constraints → (out-SequenceOrSet x).members ≡ (out-SequenceOrSet y).members → x ≡ y
sequence_is x y a b c d e = sym (roll-out-SequenceOrSet x) ∙ (λ i. roll-SequenceOrSet (record { components_of = a i; components_at = b i; extensible = c i; constraints = d i; members = e i })) ∙ roll-out-SequenceOrSet y
