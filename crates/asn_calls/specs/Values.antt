-- What the calls on values answer.
use Rattle.std.specs.Prelude.{ℕ, nat_eq, ℤ, pos, int_le, Bool, true, false, List, [], ◌∷◌, Option, Some, None, IsSome, ⊤, if◌then◌else◌}
use Rattle.std.specs.Int.{int_min}
use Rattle.std.specs.List.{fold}
use Rattle.std.specs.Option.{option_and_then, option_copied, option_map, option_or}
use Rattle.std.specs.Borrow.{Bor}
use Rattle.std.specs.BTreeMap.{BTreeMap}
use Rattle.asn_calls.specs.declared.values.Pick.{Pick}
use Rattle.asn_calls.specs.declared.values.Pick.TheVariants.{Lesser, Greater}
use Rattle.asn_calls.specs.Constraints.{both, number_of}
use Rattle.asn_tree_leaves.specs.declared.errors.GrammarError.{GrammarError}
use Rattle.asn_tree_leaves.specs.declared.errors.LinkFault.{LinkFault}
use Rattle.asn_tree_leaves.specs.declared.errors.LinkFault.TheVariants.{Grammar, OutOfMemory}
use Rattle.asn_tree.specs.declared.values.ASN1Value.{ASN1Value, ASN1Value-F, out-ASN1Value}
use Rattle.asn_tree.specs.declared.values.ASN1Value.TheVariants as value
use Rattle.asn_tree_kinds.specs.declared.values.StructLikeFieldValueOver.{StructLikeFieldValueOver}
use Rattle.asn_tree_kinds.specs.declared.values.StructLikeFieldValueOver.TheVariants as field
use Rattle.asn_tree.specs.Layers.{ValueLayer}

abbrev pub text_at : ValueLayer → Option (List ℕ)
text_at (ASN1Value-F.String s) = Some s
text_at _ = None

-- the text, where the value is one between quotes (X.680 41.8)
abbrev pub text_of : ASN1Value → Option (List ℕ)
text_of v = text_at (out-ASN1Value v)

-- a set's characters with their numbers
abbrev pub entries_of : Option (Bor (BTreeMap ℕ ℕ)) → Option (List (ℕ × ℕ))
entries_of set = option_map (λ m. m.entries) (option_copied set)

-- the lesser of a number, if there is one, and a further one
abbrev pub lesser_of : Option ℤ → ℤ → ℤ
lesser_of None n = n
lesser_of (Some m) n = int_min m n

-- the least number that a set gives a character
abbrev pub number_in_set : ℕ → List (ℕ × ℕ) → Option ℤ
number_in_set c entries = fold (λ least e. if nat_eq e.1 c then Some (lesser_of least (pos e.0)) else least) None entries

-- the least number that a set gives the character that a text of one byte is
abbrev pub place_in : Option (List (ℕ × ℕ)) → List ℕ → Option ℤ
place_in (Some set) (c ∷ []) = number_in_set c set
place_in set text = None

-- whether the first of two is the one that is asked for, which it is on a tie
abbrev pub keeps_first : Pick → ℤ → ℤ → Bool
keeps_first Lesser i j = int_le i j
keeps_first Greater i j = int_le j i

-- of two whole numbers the one that is asked for
abbrev pub chosen_number : Pick → ASN1Value → ASN1Value → Option ℤ
chosen_number pick v w = option_map (λ p. if keeps_first pick p.0 p.1 then p.0 else p.1) (both (number_of v) (number_of w))

abbrev pub chosen_of_texts : Pick → Option (List (ℕ × ℕ)) → List ℕ → List ℕ → Option (List ℕ)
chosen_of_texts pick set s t = option_map (λ p. if keeps_first pick p.0 p.1 then s else t) (both (place_in set s) (place_in set t))

-- of two texts the one that is asked for, by their characters' numbers in the set
abbrev pub chosen_text : Pick → ASN1Value → ASN1Value → Option (List (ℕ × ℕ)) → Option (List ℕ)
chosen_text pick v w set = option_and_then (λ s. option_and_then (chosen_of_texts pick set s) (text_of w)) (text_of v)

-- of two values the one that is asked for
abbrev pub chosen : Pick → ASN1Value → ASN1Value → Option (List (ℕ × ℕ)) → Option ASN1Value
chosen pick v w set = option_or (option_map value.Integer (chosen_number pick v w)) (option_map value.String (chosen_text pick v w set))

-- the lesser of two whole numbers, or of two texts of one byte by their numbers in the set; on a tie the first
abbrev pub lesser : ASN1Value → ASN1Value → Option (List (ℕ × ℕ)) → Option ASN1Value
lesser v w set = chosen Lesser v w set

-- the greater of them
abbrev pub greater : ASN1Value → ASN1Value → Option (List (ℕ × ℕ)) → Option ASN1Value
greater v w set = chosen Greater v w set

-- there is a value, and it is a text
abbrev pub IsText : Option ASN1Value → Type 0
IsText answer = IsSome (option_and_then text_of answer)

-- what holds of a refusal
abbrev pub IfRefused : LinkFault → (GrammarError → Type 0) → Type 0
IfRefused (Grammar refusal) P = P refusal
IfRefused OutOfMemory P = ⊤

-- what holds where memory is wanting
abbrev pub IfWanting : LinkFault → Type 0 → Type 0
IfWanting (Grammar refusal) P = ⊤
IfWanting OutOfMemory P = P

abbrev pub is_elsewhere_at : ValueLayer → Bool
is_elsewhere_at (ASN1Value-F.EnumeratedValue enumerated enumerable) = true
is_elsewhere_at (ASN1Value-F.ElsewhereDeclaredValue parent identifier) = true
is_elsewhere_at _ = false

-- whether a value is the name of a value or of an item of an ENUMERATED
abbrev pub is_elsewhere : ASN1Value → Bool
is_elsewhere v = is_elsewhere_at (out-ASN1Value v)

-- the value of a field, whether it is written or the default
abbrev pub behind : StructLikeFieldValueOver ASN1Value → ASN1Value
behind (field.Explicit v) = v
behind (field.Implicit v) = v

-- the field with another value, which is written where the first is
abbrev pub with_behind : StructLikeFieldValueOver ASN1Value → ASN1Value → StructLikeFieldValueOver ASN1Value
with_behind (field.Explicit v) w = field.Explicit w
with_behind (field.Implicit v) w = field.Implicit w
