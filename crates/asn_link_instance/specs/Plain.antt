-- What is chosen plainly, so that instances are in plain form.
use Rattle.std.specs.Prelude.{◌≡◌, ℕ, ◌+◌, true, Some}
use Rattle.asn_tree.specs.declared.values.ASN1Value.{ASN1Value}
use Rattle.asn_meaning.specs.Definitions.{Definitions}
use Rattle.asn_meaning.specs.Everything.{plain_text}
use Rattle.asn_meaning.specs.Judge.{meaning}
use Rattle.asn_meaning.specs.Meaning.{Meaning}
use Rattle.asn_meaning.specs.Names.{IsHead, lead}
use Rattle.asn_meaning.specs.Plain.{plainness}
use Rattle.asn_meaning.specs.Scopes.{Scope, Place}
use Rattle.asn_link_instance.specs.Heads.{Alike, Before}
use Rattle.asn_link_instance.specs.Subjects.{Choices, Subject, OnValues, OnCharacters, values_read, ends_read}

-- from some number of steps on
pub record Eventually (P : ℕ → Type 0) : Type 0 where
  pub steps : ℕ
  pub stays : (m : ℕ) → P (steps + m)

-- a head, whatever is known
abbrev pub StandsAsHead : Definitions → Place → Type 0
StandsAsHead defs p = (N : Meaning) → lead defs N p ≡ IsHead

module _ (C : Choices) (defs others : Definitions) (j : ℕ) where
  -- what a constraint on such a subject is put on in an instance: a head that is alike, or characters
  abbrev pub PutOn : Subject → Place → Type 0
  PutOn (OnValues p) q = Alike C defs others j p q
  PutOn OnCharacters q = q ≡ plain_text

  -- A single value that is chosen is plain under the head that its constraint is put on, and so is the end of a range.
  pub record WritesPlain : Type 0 where
    pub value :
        (i : ℕ) (scope : Scope) (v w : ASN1Value) (s : Subject) (q : Place) → Before C defs j i → C.value (meaning defs i) scope v (values_read s) ≡ Some w →
        PutOn s q → StandsAsHead others q →
        Eventually (λ m. (plainness others m).of_value w q ≡ true)
    pub end :
        (i : ℕ) (scope : Scope) (v w : ASN1Value) (s : Subject) (q : Place) → Before C defs j i → C.end (meaning defs i) scope v (ends_read s) ≡ Some w →
        PutOn s q → StandsAsHead others q →
        Eventually (λ m. (plainness others m).of_value w q ≡ true)
