-- Following the whole syntax of a class.
use Rattle.std.proofs.Common.{◌≡◌, ℕ, List, [], ◌∷◌, ◌++◌, map, Bool, true, false, Option, Some, None, refl, sym, ap, ◌∙◌, codes}
use Rattle.std.proofs.lemmas.List.{append-nil}
use Rattle.asn_tree_leaves.specs.declared.objects.ObjectFieldIdentifier.TheVariants.{SingleValue, MultipleValue}
use Rattle.asn_tree_leaves.specs.declared.objects.SyntaxExpression.{SyntaxExpression}
use Rattle.asn_tree_leaves.specs.declared.objects.SyntaxExpression.TheVariants.{Required}
use Rattle.asn_tree_leaves.specs.declared.objects.SyntaxToken.{SyntaxToken}
use Rattle.asn_tree_leaves.specs.declared.objects.SyntaxToken.TheVariants.{Literal, Field}
use Rattle.asn_meaning_heads.specs.Tokens.{tokens_by}
use Rattle.asn_meaning_heads.proofs.Due.{part_required}
use Rattle.asn_meaning_fields.specs.inner.Walks.{built_in_walked, by_walked, identified_walked, identifier_walked, walked}
use Rattle.asn_meaning_fields.proofs.Walking.{Fields, Items, Tokens, walked_on}
use Rattle.asn_meaning.specs.Answers.{once}
use Rattle.asn_meaning.specs.Definitions.{type_identifier}
use Rattle.asn_meaning.specs.Objects.{applied, follow_each, if_ended, part_of, take_item, tokens_in}

-- ---- behind nothing

walked_first : (r : Option (Fields × Items)) → walked [] r ≡ r
walked_first None = refl
walked_first (Some (fields, left)) = refl

syntax_is : (parts : List SyntaxExpression) (items left : Items) (behind : Tokens) (before : Fields) (r : Option (Fields × Items)) → behind ≡ [] → before ≡ [] → left ≡ items →
    walked before (follow_each (tokens_by false) (map part_of parts) behind left) ≡ r → applied (Some (record { expressions = parts })) items ≡ once None r if_ended
syntax_is parts items left behind before r e f g is =
    ap (λ r. once None r if_ended)
    (sym (walked_first (follow_each tokens_in (map part_of parts) [] items)) ∙ ap (λ b. walked b (follow_each tokens_in (map part_of parts) [] items)) (sym f)
    ∙ ap (λ b. walked before (follow_each tokens_in (map part_of parts) b items)) (sym e) ∙ ap (λ xs. walked before (follow_each tokens_in (map part_of parts) behind xs)) (sym g) ∙ is)

pub syntax_fails : (parts : List SyntaxExpression) (items left : Items) (behind : Tokens) (before : Fields) → behind ≡ [] → before ≡ [] → left ≡ items →
    walked before (follow_each (tokens_by false) (map part_of parts) behind left) ≡ None → applied (Some (record { expressions = parts })) items ≡ None
syntax_fails parts items left behind before e f g is = syntax_is parts items left behind before None e f g is

pub syntax_followed : (parts : List SyntaxExpression) (items left : Items) (behind : Tokens) (before : Fields) (w : Fields × Items) → behind ≡ [] → before ≡ [] → left ≡ items →
    walked before (follow_each (tokens_by false) (map part_of parts) behind left) ≡ Some w → applied (Some (record { expressions = parts })) items ≡ if_ended w
syntax_followed parts items left behind before w e f g is = syntax_is parts items left behind before (Some w) e f g is

-- ---- tokens that must stand, one behind the other

abbrev required : SyntaxToken → Bool × SyntaxToken
required t = (true, t)

abbrev all_taken : Fields → List SyntaxToken → Items → Option (Fields × Items)
all_taken before [] items = Some (before, items)
all_taken before (t ∷ ts) items = once None (walked before (take_item t (map required ts) items)) (λ w. all_taken w.0 ts w.1)

tokens_all : (ts : List SyntaxToken) → tokens_in (map part_of (map Required ts)) ++ [] ≡ map required ts
tokens_all [] = refl
tokens_all (t ∷ ts) =
    ap (λ p. (p.tokens ++ tokens_in (map part_of (map Required ts))) ++ []) (part_required (Required t) t refl) ∙ ap (λ xs. required t ∷ xs) (tokens_all ts)

once_alike : {A B : Type 0} (r : Option A) (f g : A → Option B) → ((x : A) → f x ≡ g x) → once None r f ≡ once None r g
once_alike None f g e = refl
once_alike (Some x) f g e = e x

all_is : (before : Fields) (ts : List SyntaxToken) (items : Items) → walked before (follow_each tokens_in (map part_of (map Required ts)) [] items) ≡ all_taken before ts items
all_is before [] items = ap (λ f. Some (f, items)) (append-nil before)
all_is before (t ∷ ts) items =
    walked_on before ((part_of (Required t)).follow (tokens_in (map part_of (map Required ts)) ++ []) items) (follow_each tokens_in (map part_of (map Required ts)) [])
    ∙ ap (λ r. once None (walked before r) (λ w. walked w.0 (follow_each tokens_in (map part_of (map Required ts)) [] w.1)))
    (ap (λ p. p.follow (tokens_in (map part_of (map Required ts)) ++ []) items) (part_required (Required t) t refl) ∙ ap (λ b. take_item t b items) (tokens_all ts))
    ∙ once_alike (walked before (take_item t (map required ts) items)) (λ w. walked w.0 (follow_each tokens_in (map part_of (map Required ts)) [] w.1)) (λ w. all_taken w.0 ts w.1) (λ w. all_is w.0 ts w.1)

all_next : (before : Fields) (t : SyntaxToken) (ts : List SyntaxToken) (items : Items) (b : Tokens) (f : Fields → Items → Option (Fields × Items)) →
    take_item t (map required ts) items ≡ take_item t b items → ((w : Fields × Items) → all_taken w.0 ts w.1 ≡ f w.0 w.1) →
    all_taken before (t ∷ ts) items ≡ once None (walked before (take_item t b items)) (λ w. f w.0 w.1)
all_next before t ts items b f alike e =
    ap (λ r. once None (walked before r) (λ w. all_taken w.0 ts w.1)) alike ∙ once_alike (walked before (take_item t b items)) (λ w. all_taken w.0 ts w.1) (λ w. f w.0 w.1) e

-- what stands behind is asked for a type or a set alone, up to the next word that must stand

alike_type : (name word : List ℕ) (a : Tokens) (items : Items) →
    take_item (Field (MultipleValue name)) ((true, Literal word) ∷ a) items ≡ take_item (Field (MultipleValue name)) ((true, Literal word) ∷ []) items
alike_type name word a [] = refl
alike_type name word a (item ∷ items) = refl

alike_word : (word : List ℕ) (a b : Tokens) (items : Items) → take_item (Literal word) a items ≡ take_item (Literal word) b items
alike_word word a b [] = refl
alike_word word a b (item ∷ items) = refl

alike_value : (name : List ℕ) (a b : Tokens) (items : Items) → take_item (Field (SingleValue name)) a items ≡ take_item (Field (SingleValue name)) b items
alike_value name a b [] = refl
alike_value name a b (item ∷ items) = refl

-- ---- the syntax of the built-in class

abbrev type_token : SyntaxToken
type_token = Field (MultipleValue (codes "&Type"))

abbrev identified_token : SyntaxToken
identified_token = Literal (codes "IDENTIFIED")

abbrev by_token : SyntaxToken
by_token = Literal (codes "BY")

abbrev identifier_token : SyntaxToken
identifier_token = Field (SingleValue (codes "&id"))

from_identifier : (before : Fields) (items : Items) → all_taken before (identifier_token ∷ []) items ≡ identifier_walked before items
from_identifier before items =
    ap (λ r. once None (walked before r) (λ w. Some w)) (alike_value (codes "&id") (map required []) [] items) ∙ same (identifier_walked before items)
  where
    same : (r : Option (Fields × Items)) → once None r (λ w. Some w) ≡ r
    same None = refl
    same (Some w) = refl

from_by : (before : Fields) (items : Items) → all_taken before (by_token ∷ identifier_token ∷ []) items ≡ by_walked before items
from_by before items =
    all_next before by_token (identifier_token ∷ []) items [] identifier_walked (alike_word (codes "BY") (map required (identifier_token ∷ [])) [] items) (λ w. from_identifier w.0 w.1)

from_identified : (before : Fields) (items : Items) → all_taken before (identified_token ∷ by_token ∷ identifier_token ∷ []) items ≡ identified_walked before items
from_identified before items =
    all_next before identified_token (by_token ∷ identifier_token ∷ []) items [] by_walked (alike_word (codes "IDENTIFIED") (map required (by_token ∷ identifier_token ∷ [])) [] items) (λ w. from_by w.0 w.1)

from_type : (before : Fields) (items : Items) → all_taken before (type_token ∷ identified_token ∷ by_token ∷ identifier_token ∷ []) items ≡ built_in_walked before items
from_type before items =
    all_next before type_token (identified_token ∷ by_token ∷ identifier_token ∷ []) items ((true, identified_token) ∷ []) identified_walked
    (alike_type (codes "&Type") (codes "IDENTIFIED") (map required (by_token ∷ identifier_token ∷ [])) items) (λ w. from_identified w.0 w.1)

built_in_is : (items left : Items) (before : Fields) (r : Option (Fields × Items)) → before ≡ [] → left ≡ items → built_in_walked before left ≡ r → applied type_identifier.syntax items ≡ once None r if_ended
built_in_is items left before r f g is =
    ap (λ r. once None r if_ended)
    (sym (walked_first (follow_each tokens_in (map part_of (map Required (type_token ∷ identified_token ∷ by_token ∷ identifier_token ∷ []))) [] items))
    ∙ all_is [] (type_token ∷ identified_token ∷ by_token ∷ identifier_token ∷ []) items ∙ from_type [] items
    ∙ ap (λ b. built_in_walked b items) (sym f) ∙ ap (built_in_walked before) (sym g) ∙ is)

pub built_in_fails : (items left : Items) (before : Fields) → before ≡ [] → left ≡ items → built_in_walked before left ≡ None → applied type_identifier.syntax items ≡ None
built_in_fails items left before f g is = built_in_is items left before None f g is

pub built_in_followed : (items left : Items) (before : Fields) (w : Fields × Items) → before ≡ [] → left ≡ items → built_in_walked before left ≡ Some w → applied type_identifier.syntax items ≡ if_ended w
built_in_followed items left before w f g is = built_in_is items left before (Some w) f g is
