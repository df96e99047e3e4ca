-- What readers ask of the table of the whole of ASN.1: computed from its rows. What is asked of types and headers is here for the readers to come.
use Rattle.std.proofs.Common.{◌≡◌, ℕ, List, [], ◌∷◌, true, Some, None, refl}
use Rattle.std.specs.Prelude.{nat_eq, not}
use Rattle.asn_rules.specs.LexicalRules.{lexical_rules_before}
use Rattle.asn_rules.specs.ValueRules.{value_rules_before}
use Rattle.asn_rules.specs.TypeRules.{type_rules_before}
use Rattle.asn_rules.specs.ConstraintRules.{constraint_rules_before}
use Rattle.asn_rules.specs.ObjectRules.{object_rules_before}
use Rattle.asn_rules.specs.HeaderRules.{header_rules_before}
use Rattle.asn_rules.specs.DefinitionRules.{definition_rules_before}
use Rattle.asn_rules.specs.Whole.{whole_rules}
use Rattle.asn_rules.specs.Children.{StandsBy, Is}
use Rattle.asn_rules.specs.declared.node.Node.{Node}
use Rattle.asn_rules.specs.declared.node.Node.TheViews.{out-Node}
use Rattle.asn_rules.proofs.Children.{words_of, asks, counts, is_among, EachOf, one_child, each_of}

-- a range and perhaps a tail, in parentheses or without
pub range_words : words_of whole_rules 133 ≡ Some ((132 ∷ 116 ∷ []) ∷ (132 ∷ []) ∷ [])
unfolding whole_rules lexical_rules_before value_rules_before type_rules_before constraint_rules_before object_rules_before header_rules_before definition_rules_before
range_words = refl

-- low end, dots, high end; a mark may stand beside either end
pub range_body_words : words_of whole_rules 132 ≡ Some ((130 ∷ 217 ∷ 20 ∷ 218 ∷ 131 ∷ []) ∷ (130 ∷ 217 ∷ 20 ∷ 131 ∷ []) ∷ (130 ∷ 20 ∷ 218 ∷ 131 ∷ []) ∷ (130 ∷ 20 ∷ 131 ∷ []) ∷ [])
unfolding whole_rules lexical_rules_before value_rules_before type_rules_before constraint_rules_before object_rules_before header_rules_before definition_rules_before
range_body_words = refl

-- name, tag, type, constraint, optional mark, default; the second and the fourth may lack
pub member_words : words_of whole_rules 70 ≡ Some ((8 ∷ 73 ∷ 101 ∷ 102 ∷ 71 ∷ 72 ∷ []) ∷ (8 ∷ 73 ∷ 101 ∷ 71 ∷ 72 ∷ []) ∷ (8 ∷ 101 ∷ 102 ∷ 71 ∷ 72 ∷ []) ∷ (8 ∷ 101 ∷ 71 ∷ 72 ∷ []) ∷ [])
unfolding whole_rules lexical_rules_before value_rules_before type_rules_before constraint_rules_before object_rules_before header_rules_before definition_rules_before
member_words = refl

-- a member has a name
pub member_has_name : asks whole_rules 70 8 ≡ true
unfolding whole_rules lexical_rules_before value_rules_before type_rules_before constraint_rules_before object_rules_before header_rules_before definition_rules_before
member_has_name = refl

-- and a type
pub member_has_type : asks whole_rules 70 101 ≡ true
unfolding whole_rules lexical_rules_before value_rules_before type_rules_before constraint_rules_before object_rules_before header_rules_before definition_rules_before
member_has_type = refl

-- components, perhaps a marker, additions
pub body_words : words_of whole_rules 62 ≡ Some ((64 ∷ 63 ∷ 65 ∷ []) ∷ (64 ∷ 65 ∷ []) ∷ [])
unfolding whole_rules lexical_rules_before value_rules_before type_rules_before constraint_rules_before object_rules_before header_rules_before definition_rules_before
body_words = refl

-- a type is one child
pub type_is_one : counts whole_rules 101 (λ q. true) 1 (Some 1) ≡ true
unfolding whole_rules lexical_rules_before value_rules_before type_rules_before constraint_rules_before object_rules_before header_rules_before definition_rules_before
type_is_one = refl

-- of one of these rules
pub type_is_of : counts whole_rules 101 (λ q. not (is_among (54 ∷ 55 ∷ 56 ∷ 58 ∷ 59 ∷ 60 ∷ 61 ∷ 74 ∷ 75 ∷ 76 ∷ 77 ∷ 78 ∷ 79 ∷ 80 ∷ 85 ∷ 88 ∷ 93 ∷ 94 ∷ 95 ∷ 96 ∷ 97 ∷ 99 ∷ 100 ∷ []) q)) 0 (Some 0) ≡ true
unfolding whole_rules lexical_rules_before value_rules_before type_rules_before constraint_rules_before object_rules_before header_rules_before definition_rules_before
type_is_of = refl

-- name, definitive, environments, assignment, exports, imports
pub header_words : words_of whole_rules 176 ≡ Some ((8 ∷ 164 ∷ 167 ∷ 22 ∷ 170 ∷ 175 ∷ []) ∷ (8 ∷ 164 ∷ 167 ∷ 22 ∷ 170 ∷ []) ∷ (8 ∷ 164 ∷ 167 ∷ 22 ∷ 175 ∷ []) ∷ (8 ∷ 164 ∷ 167 ∷ 22 ∷ []) ∷ (8 ∷ 167 ∷ 22 ∷ 170 ∷ 175 ∷ []) ∷ (8 ∷ 167 ∷ 22 ∷ 170 ∷ []) ∷ (8 ∷ 167 ∷ 22 ∷ 175 ∷ []) ∷ (8 ∷ 167 ∷ 22 ∷ []) ∷ [])
unfolding whole_rules lexical_rules_before value_rules_before type_rules_before constraint_rules_before object_rules_before header_rules_before definition_rules_before
header_words = refl

-- comments, name, parameters, assignment, tag, type
pub type_definition_words : words_of whole_rules 185 ≡ Some ((180 ∷ 9 ∷ 139 ∷ 22 ∷ 73 ∷ 101 ∷ []) ∷ (180 ∷ 9 ∷ 139 ∷ 22 ∷ 101 ∷ []) ∷ (180 ∷ 9 ∷ 22 ∷ 73 ∷ 101 ∷ []) ∷ (180 ∷ 9 ∷ 22 ∷ 101 ∷ []) ∷ [])
unfolding whole_rules lexical_rules_before value_rules_before type_rules_before constraint_rules_before object_rules_before header_rules_before definition_rules_before
type_definition_words = refl

-- blanks, blanks behind the sign, digits, decimals, exponent
pub dot_words : words_of whole_rules 28 ≡ Some ((1 ∷ 1 ∷ 14 ∷ 14 ∷ 29 ∷ []) ∷ (1 ∷ 1 ∷ 14 ∷ 14 ∷ []) ∷ [])
unfolding whole_rules lexical_rules_before value_rules_before type_rules_before constraint_rules_before object_rules_before header_rules_before definition_rules_before
dot_words = refl

-- name, perhaps a type and the mark of UNIQUE, optional mark, default
pub field_words : words_of whole_rules 144 ≡ Some ((142 ∷ 101 ∷ 219 ∷ 71 ∷ 72 ∷ []) ∷ (142 ∷ 101 ∷ 71 ∷ 72 ∷ []) ∷ (142 ∷ 219 ∷ 71 ∷ 72 ∷ []) ∷ (142 ∷ 71 ∷ 72 ∷ []) ∷ [])
unfolding whole_rules lexical_rules_before value_rules_before type_rules_before constraint_rules_before object_rules_before header_rules_before definition_rules_before
field_words = refl

-- symbols, module, and the mark of SUCCESSORS or DESCENDANTS
pub import_words : words_of whole_rules 174 ≡ Some ((169 ∷ 173 ∷ 222 ∷ []) ∷ (169 ∷ 173 ∷ 223 ∷ []) ∷ (169 ∷ 173 ∷ []) ∷ [])
unfolding whole_rules lexical_rules_before value_rules_before type_rules_before constraint_rules_before object_rules_before header_rules_before definition_rules_before
import_words = refl

-- components and nothing else
pub components_are : counts whole_rules 64 (λ q. not (nat_eq q 69)) 0 (Some 0) ≡ true
unfolding whole_rules lexical_rules_before value_rules_before type_rules_before constraint_rules_before object_rules_before header_rules_before definition_rules_before
components_are = refl

-- a group has at least one component
pub group_has_components : counts whole_rules 66 (λ q. nat_eq q 69) 1 None ≡ true
unfolding whole_rules lexical_rules_before value_rules_before type_rules_before constraint_rules_before object_rules_before header_rules_before definition_rules_before
group_has_components = refl

-- and at most one number
pub group_has_a_number : counts whole_rules 66 (λ q. nat_eq q 67) 0 (Some 1) ≡ true
unfolding whole_rules lexical_rules_before value_rules_before type_rules_before constraint_rules_before object_rules_before header_rules_before definition_rules_before
group_has_a_number = refl

-- a reference to a field has at least one step
pub field_steps : counts whole_rules 99 (λ q. nat_eq q 98) 1 None ≡ true
unfolding whole_rules lexical_rules_before value_rules_before type_rules_before constraint_rules_before object_rules_before header_rules_before definition_rules_before
field_steps = refl

-- What a reader of a type sees: one child, of one of the rules of types, and that stands by its own row.
pub type_child : (text : List ℕ) (n : Node) → Is whole_rules text 101 n → (c : Node) × ((out-Node n).children ≡ c ∷ []) × StandsBy whole_rules text c
type_child text n is = one_child whole_rules text 101 n is type_is_one

pub type_child_is : (text : List ℕ) (n : Node) → Is whole_rules text 101 n → EachOf (54 ∷ 55 ∷ 56 ∷ 58 ∷ 59 ∷ 60 ∷ 61 ∷ 74 ∷ 75 ∷ 76 ∷ 77 ∷ 78 ∷ 79 ∷ 80 ∷ 85 ∷ 88 ∷ 93 ∷ 94 ∷ 95 ∷ 96 ∷ 97 ∷ 99 ∷ 100 ∷ []) (out-Node n).children
type_child_is text n is = each_of whole_rules text 101 (54 ∷ 55 ∷ 56 ∷ 58 ∷ 59 ∷ 60 ∷ 61 ∷ 74 ∷ 75 ∷ 76 ∷ 77 ∷ 78 ∷ 79 ∷ 80 ∷ 85 ∷ 88 ∷ 93 ∷ 94 ∷ 95 ∷ 96 ∷ 97 ∷ 99 ∷ 100 ∷ []) n is type_is_of
