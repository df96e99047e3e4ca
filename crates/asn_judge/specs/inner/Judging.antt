-- What is asked of the parts of trees, and of the elements of sets.
use Rattle.std.specs.Prelude.{ℕ, List, [], ◌∷◌}
use Rattle.asn_tree.specs.declared.constraints.ElementOrSetOperation.{ElementOrSetOperation}
use Rattle.asn_tree.specs.declared.constraints.SubtypeElement.{SubtypeElement}
use Rattle.asn_tree.specs.declared.types.ASN1Type.{ASN1Type}
use Rattle.asn_meaning.specs.Answers.{Answer, each}
use Rattle.asn_meaning.specs.Constraints.{set_holds}
use Rattle.asn_meaning.specs.Meaning.{Meaning, Parent, CharactersOf}
use Rattle.asn_meaning.specs.Numbers.{Numbers}
use Rattle.asn_meaning.specs.Scopes.{Scope}
use Rattle.asn_meaning.specs.ValueTrees.{ValueTree, Characters}

-- whether a type that is written in a scope accepts a tree
abbrev pub type_accepts : Meaning → Scope → ASN1Type → ValueTree → Answer
type_accepts M scope ty t = M.accepts (record { scope = scope; ty = ty }) [] t

-- whether an element holds of a tree
abbrev pub element_holds : Meaning → Scope → Parent → ValueTree → SubtypeElement → Answer
element_holds M scope parent t e = M.holds scope parent e t

-- whether a set has a character, where the characters are of these codes
abbrev pub character_holds : Meaning → Scope → Numbers → ElementOrSetOperation → ℕ → Answer
character_holds M scope codes set c = set_holds M scope (CharactersOf codes) set (Characters (c ∷ []))

-- whether it has each of them
abbrev pub characters_hold : Meaning → Scope → Numbers → ElementOrSetOperation → List ℕ → Answer
characters_hold M scope codes set cs = each (character_holds M scope codes set) cs
