-- Following a syntax, part by part.
use Rattle.std.proofs.Common.{◌≡◌, ℕ, ◌+◌, ◌<◌, ◌≤◌, List, [], ◌∷◌, ◌++◌, map, drop, length, get_or, Bool, true, false, if◌then◌else◌, Option, Some, None, refl, sym, ap, ◌∙◌, append_assoc, codes, arith}
use Rattle.std.specs.Prelude.{is_some}
use Rattle.std.specs.Str.{bytes_eq}
use Rattle.std.proofs.lemmas.List.{at_drop_all, drop_more}
use Rattle.asn_tree_leaves.specs.declared.objects.ObjectFieldIdentifier.TheVariants.{SingleValue, MultipleValue}
use Rattle.asn_tree_leaves.specs.declared.objects.SyntaxExpression.{SyntaxExpression}
use Rattle.asn_tree_leaves.specs.declared.objects.SyntaxExpression.TheVariants.{Required, Optional}
use Rattle.asn_tree_leaves.specs.declared.objects.SyntaxToken.{SyntaxToken}
use Rattle.asn_tree_leaves.specs.declared.objects.SyntaxToken.TheVariants.{Literal, Comma, Field}
use Rattle.asn_tree.specs.declared.objects.InformationObjectField.{InformationObjectField}
use Rattle.asn_tree.specs.declared.objects.InformationObjectField.TheVariants as field
use Rattle.asn_tree.specs.declared.objects.SyntaxApplication.{SyntaxApplication, out-SyntaxApplication}
use Rattle.asn_meaning_heads.specs.declared.objects.GivenField.{GivenField}
use Rattle.asn_meaning_heads.specs.declared.objects.Gives.{Gives}
use Rattle.asn_meaning_heads.specs.declared.objects.Gives.TheVariants as lent
use Rattle.asn_meaning_heads.specs.Following.{at_first, earlier, ended, named, shown_fields, walked, where_it}
use Rattle.asn_meaning_heads.specs.Objects.{shown_given, shown_gives}
use Rattle.asn_meaning_heads.specs.Tokens.{marked_by, tokens_by}
use Rattle.asn_meaning_heads.proofs.Due.{part_optional, part_required, tokens_end, tokens_more}
use Rattle.asn_meaning.specs.Answers.{once}
use Rattle.asn_meaning.specs.Definitions.{type_identifier}
use Rattle.asn_meaning.specs.Objects.{Part, applied, begins, follow_each, if_ended, item_gives, optional_tokens, part_of, take_item, tokens_in}
use Rattle.asn_tree_notation.specs.Syntax.{given_name, given_name_at, matches}

-- ---- the field of the name

name_is : (name : List ℕ) (g : Gives) → given_name (shown_gives name g) ≡ name
name_is name (lent.Type ty) = ap given_name_at (field.outs-TypeField _)
name_is name (lent.Value v) = ap given_name_at (field.outs-FixedValueField _)
name_is name (lent.Set s) = ap given_name_at (field.outs-ObjectSetField _)

alone : (b : Bool) (name : List ℕ) (f : InformationObjectField) → bytes_eq (given_name f) name ≡ b → named name (f ∷ []) ≡ (if b then Some f else None)
alone b name f e = ap (λ x. if x then Some f else None) e

pub has_name : (name : List ℕ) (g : GivenField) → bytes_eq g.name.now name ≡ true → named name (shown_fields (Some g)) ≡ Some (shown_given g)
has_name name g e = alone true name (shown_given g) (ap (λ x. bytes_eq x name) (name_is g.name.now g.gives) ∙ e)

pub lacks_name : (name : List ℕ) (g : GivenField) → bytes_eq g.name.now name ≡ false → named name (shown_fields (Some g)) ≡ None
lacks_name name g e = alone false name (shown_given g) (ap (λ x. bytes_eq x name) (name_is g.name.now g.gives) ∙ e)

pub earlier_none : (found : Option InformationObjectField) → earlier found None ≡ found
earlier_none (Some f) = refl
earlier_none None = refl

named_append : (name : List ℕ) (a b : List InformationObjectField) → named name (a ++ b) ≡ earlier (named name a) (named name b)
named_append name [] b = refl
named_append name (f ∷ a) b = go (bytes_eq (given_name f) name) (named_append name a b)
  where
    go : (here : Bool) → named name (a ++ b) ≡ earlier (named name a) (named name b) →
        (if here then Some f else named name (a ++ b)) ≡ earlier (if here then Some f else named name a) (named name b)
    go true e = refl
    go false e = e

earlier_append : (name : List ℕ) (found : Option InformationObjectField) (a b : List InformationObjectField) →
    earlier found (named name (a ++ b)) ≡ earlier (earlier found (named name a)) (named name b)
earlier_append name (Some f) a b = refl
earlier_append name None a b = named_append name a b

-- ---- whether a group begins

abbrev or_else : Option Bool → Option Bool → Option Bool
or_else (Some stands) other = Some stands
or_else None other = other

here_is : (a b : Option Bool) → is_some a ≡ true → or_else a b ≡ a
here_is (Some stands) b e = refl
here_is None b e = absurd cc

past_is : (a b : Option Bool) → is_some a ≡ false → or_else a b ≡ b
past_is (Some stands) b e = absurd cc
past_is None b e = refl

marks_alike : (item : SyntaxApplication) (t : SyntaxToken) (a b : Bool) (behind : List (Bool × SyntaxToken)) → matches item t ((a, t) ∷ behind) 0 ≡ matches item t ((b, t) ∷ behind) 0
marks_alike item Comma a b behind = refl
marks_alike item (Literal word) a b behind = refl
marks_alike item (Field (MultipleValue name)) a b behind = refl
marks_alike item (Field (SingleValue name)) a b behind = refl

pub first_of_token : (part : SyntaxExpression) (t : SyntaxToken) (behind : List (Bool × SyntaxToken)) (item : SyntaxApplication) → part ≡ Required t →
    at_first (marked_by true (part_of part).tokens) behind item ≡ Some (matches item t ((true, t) ∷ behind) 0)
first_of_token part t behind item e =
    ap (λ p. at_first (marked_by true p.tokens) behind item) (part_required part t e) ∙ ap Some (marks_alike item t false true behind)

unmarked_twice : (a : List (Bool × SyntaxToken)) → marked_by true (marked_by true a) ≡ marked_by true a
unmarked_twice [] = refl
unmarked_twice (t ∷ a) = ap (λ ts. (false, t.1) ∷ ts) (unmarked_twice a)

pub first_of_group : (part : SyntaxExpression) (group : List SyntaxExpression) (behind : List (Bool × SyntaxToken)) (item : SyntaxApplication) → part ≡ Optional group →
    at_first (marked_by true (part_of part).tokens) behind item ≡ at_first (optional_tokens (map part_of group)) behind item
first_of_group part group behind item e =
    ap (λ p. at_first (marked_by true p.tokens) behind item) (part_optional part group e)
    ∙ ap (λ ts. at_first ts behind item) (unmarked_twice (tokens_in (map part_of group)))

first_append : (a b behind : List (Bool × SyntaxToken)) (item : SyntaxApplication) → at_first (a ++ b) behind item ≡ or_else (at_first a (b ++ behind) item) (at_first b behind item)
first_append [] b behind item = refl
first_append (t ∷ a) b behind item = ap (λ ts. Some (matches item t.1 (t ∷ ts) 0)) (append_assoc a b behind)

pub first_ends : (parts : List SyntaxExpression) (i : ℕ) (behind : List (Bool × SyntaxToken)) (item : SyntaxApplication) → length parts ≤ i →
    at_first (optional_tokens (map part_of (drop i parts))) behind item ≡ None
first_ends parts i behind item le = ap (λ ts. at_first ts behind item) (tokens_end true parts i le)

first_more : (parts : List SyntaxExpression) (i : ℕ) (part : SyntaxExpression) (behind rest : List (Bool × SyntaxToken)) (item : SyntaxApplication) → i < length parts → part ≡ get_or parts i part →
    rest ≡ tokens_by true (map part_of (drop (i + 1) parts)) ++ behind →
    at_first (optional_tokens (map part_of (drop i parts))) behind item
    ≡ or_else (at_first (marked_by true (part_of part).tokens) rest item) (at_first (optional_tokens (map part_of (drop (i + 1) parts))) behind item)
first_more parts i part behind rest item lt e is =
    ap (λ ts. at_first ts behind item) (tokens_more true parts i part lt e)
    ∙ first_append (marked_by true (part_of part).tokens) (optional_tokens (map part_of (drop (i + 1) parts))) behind item
    ∙ ap (λ r. or_else (at_first (marked_by true (part_of part).tokens) r item) (at_first (optional_tokens (map part_of (drop (i + 1) parts))) behind item)) (sym is)

pub first_here : (parts : List SyntaxExpression) (i : ℕ) (part : SyntaxExpression) (behind rest : List (Bool × SyntaxToken)) (item : SyntaxApplication) → i < length parts → part ≡ get_or parts i part →
    rest ≡ tokens_by true (map part_of (drop (i + 1) parts)) ++ behind → is_some (at_first (marked_by true (part_of part).tokens) rest item) ≡ true →
    at_first (optional_tokens (map part_of (drop i parts))) behind item ≡ at_first (marked_by true (part_of part).tokens) rest item
first_here parts i part behind rest item lt e is some =
    first_more parts i part behind rest item lt e is
    ∙ here_is (at_first (marked_by true (part_of part).tokens) rest item) (at_first (optional_tokens (map part_of (drop (i + 1) parts))) behind item) some

pub first_past : (parts : List SyntaxExpression) (i : ℕ) (part : SyntaxExpression) (behind rest : List (Bool × SyntaxToken)) (item : SyntaxApplication) → i < length parts → part ≡ get_or parts i part →
    rest ≡ tokens_by true (map part_of (drop (i + 1) parts)) ++ behind → is_some (at_first (marked_by true (part_of part).tokens) rest item) ≡ false →
    at_first (optional_tokens (map part_of (drop i parts))) behind item ≡ at_first (optional_tokens (map part_of (drop (i + 1) parts))) behind item
first_past parts i part behind rest item lt e is some =
    first_more parts i part behind rest item lt e is
    ∙ past_is (at_first (marked_by true (part_of part).tokens) rest item) (at_first (optional_tokens (map part_of (drop (i + 1) parts))) behind item) some

begins_at : (tokens behind : List (Bool × SyntaxToken)) (item : SyntaxApplication) (items : List SyntaxApplication) (stands : Option Bool) → at_first tokens behind item ≡ stands →
    begins tokens behind (item ∷ items) ≡ once false stands (λ b. b)
begins_at [] behind item items None e = refl
begins_at [] behind item items (Some b) e = absurd cc
begins_at (t ∷ tokens) behind item items None e = absurd cc
begins_at (t ∷ tokens) behind item items (Some b) e = cc

first_item : (items : List SyntaxApplication) (item : SyntaxApplication) → 0 < length items → item ≡ get_or items 0 item → items ≡ item ∷ drop 1 items
first_item [] item lt e = absurd (omega arith)
first_item (x ∷ items) item lt e = ap (λ y. y ∷ items) (sym e)

pub begins_tokenless : (tokens behind : List (Bool × SyntaxToken)) (item : SyntaxApplication) (items : List SyntaxApplication) → 0 < length items → item ≡ get_or items 0 item →
    at_first tokens behind item ≡ None → begins tokens behind items ≡ false
begins_tokenless tokens behind item items lt e is = ap (begins tokens behind) (first_item items item lt e) ∙ begins_at tokens behind item (drop 1 items) None is

pub begins_first : (tokens behind : List (Bool × SyntaxToken)) (item : SyntaxApplication) (items : List SyntaxApplication) (stands : Bool) → 0 < length items → item ≡ get_or items 0 item →
    at_first tokens behind item ≡ Some stands → begins tokens behind items ≡ stands
begins_first tokens behind item items stands lt e is = ap (begins tokens behind) (first_item items item lt e) ∙ begins_at tokens behind item (drop 1 items) (Some stands) is

-- ---- an item at a token

abbrev taken : Bool → List InformationObjectField → List SyntaxApplication → Option (List InformationObjectField × List SyntaxApplication)
taken b fields left = if b then Some (fields, left) else None

pub take_refused : (t : SyntaxToken) (behind : List (Bool × SyntaxToken)) (items : List SyntaxApplication) (item : SyntaxApplication) → 0 < length items → item ≡ get_or items 0 item →
    matches item t ((true, t) ∷ behind) 0 ≡ false → take_item t behind items ≡ None
take_refused t behind items item lt e is =
    ap (take_item t behind) (first_item items item lt e) ∙ ap (λ b. taken b (item_gives t (out-SyntaxApplication item)) (drop 1 items)) is

pub take_first : (t : SyntaxToken) (behind : List (Bool × SyntaxToken)) (items : List SyntaxApplication) (item : SyntaxApplication) → 0 < length items → item ≡ get_or items 0 item →
    matches item t ((true, t) ∷ behind) 0 ≡ true → take_item t behind items ≡ Some (item_gives t (out-SyntaxApplication item), drop 1 items)
take_first t behind items item lt e is =
    ap (take_item t behind) (first_item items item lt e) ∙ ap (λ b. taken b (item_gives t (out-SyntaxApplication item)) (drop 1 items)) is

pub taken_is : (name : List ℕ) (found : Option InformationObjectField) (t : SyntaxToken) (behind : List (Bool × SyntaxToken)) (items : List SyntaxApplication) (item : SyntaxApplication) (fields : List InformationObjectField) →
    0 < length items → item ≡ get_or items 0 item → Some fields ≡ where_it (matches item t ((true, t) ∷ behind) 0) (item_gives t (out-SyntaxApplication item)) →
    Some (earlier found (named name fields), drop 1 items) ≡ walked name found (take_item t behind items)
taken_is name found t behind items item fields lt e is =
    go (matches item t ((true, t) ∷ behind) 0) (item_gives t (out-SyntaxApplication item)) is ∙ sym (ap (λ xs. walked name found (take_item t behind xs)) (first_item items item lt e))
  where
    go : (b : Bool) (given : List InformationObjectField) → Some fields ≡ where_it b given → Some (earlier found (named name fields), drop 1 items) ≡ walked name found (taken b given (drop 1 items))
    go true given e = cc
    go false given e = absurd cc

-- ---- parts

pub part_of_token : (part : SyntaxExpression) (t : SyntaxToken) (behind : List (Bool × SyntaxToken)) (items : List SyntaxApplication) → part ≡ Required t →
    (part_of part).follow behind items ≡ take_item t behind items
part_of_token part t behind items e = ap (λ p. p.follow behind items) (part_required part t e)

abbrev group_follows : Bool → List Part → List (Bool × SyntaxToken) → List SyntaxApplication → Option (List InformationObjectField × List SyntaxApplication)
group_follows b group behind items = if b then follow_each optional_tokens group behind items else Some ([], items)

pub part_of_group : (part : SyntaxExpression) (group : List SyntaxExpression) (behind : List (Bool × SyntaxToken)) (items : List SyntaxApplication) → part ≡ Optional group →
    begins (optional_tokens (map part_of group)) behind items ≡ true → (part_of part).follow behind items ≡ follow_each (tokens_by true) (map part_of group) behind items
part_of_group part group behind items e is =
    ap (λ p. p.follow behind items) (part_optional part group e) ∙ ap (λ b. group_follows b (map part_of group) behind items) is

pub part_left_out : (name : List ℕ) (found : Option InformationObjectField) (part : SyntaxExpression) (group : List SyntaxExpression) (behind : List (Bool × SyntaxToken)) (items : List SyntaxApplication) → part ≡ Optional group →
    begins (optional_tokens (map part_of group)) behind items ≡ false → walked name found ((part_of part).follow behind items) ≡ Some (found, items)
part_left_out name found part group behind items e is =
    ap (walked name found) (ap (λ p. p.follow behind items) (part_optional part group e) ∙ ap (λ b. group_follows b (map part_of group) behind items) is)
    ∙ ap (λ f. Some (f, items)) (earlier_none found)

-- ---- parts in order

walked_on : (name : List ℕ) (found : Option InformationObjectField) (first : Option (List InformationObjectField × List SyntaxApplication)) (others : List SyntaxApplication → Option (List InformationObjectField × List SyntaxApplication)) →
    walked name found (once None first (λ f. once None (others f.1) (λ o. Some (f.0 ++ o.0, o.1)))) ≡ once None (walked name found first) (λ w. walked name w.0 (others w.1))
walked_on name found None others = refl
walked_on name found (Some (fields, left)) others = go (others left)
  where
    go : (o : Option (List InformationObjectField × List SyntaxApplication)) →
        walked name found (once None o (λ o. Some (fields ++ o.0, o.1))) ≡ walked name (earlier found (named name fields)) o
    go None = refl
    go (Some (more, rest)) = ap (λ f. Some (f, rest)) (earlier_append name found fields more)

pub each_ends : (name : List ℕ) (found : Option InformationObjectField) (grouped : Bool) (parts : List SyntaxExpression) (i : ℕ) (behind : List (Bool × SyntaxToken)) (items : List SyntaxApplication) → length parts ≤ i →
    walked name found (follow_each (tokens_by grouped) (map part_of (drop i parts)) behind items) ≡ Some (found, items)
each_ends name found grouped parts i behind items le =
    at_drop_all (λ ps. walked name found (follow_each (tokens_by grouped) (map part_of ps) behind items)) parts i le ∙ ap (λ f. Some (f, items)) (earlier_none found)

each_more : (name : List ℕ) (found : Option InformationObjectField) (grouped : Bool) (parts : List SyntaxExpression) (i : ℕ) (part : SyntaxExpression) (behind rest : List (Bool × SyntaxToken)) (items : List SyntaxApplication) →
    i < length parts → part ≡ get_or parts i part → rest ≡ tokens_by grouped (map part_of (drop (i + 1) parts)) ++ behind →
    walked name found (follow_each (tokens_by grouped) (map part_of (drop i parts)) behind items)
    ≡ once None (walked name found ((part_of part).follow rest items)) (λ w. walked name w.0 (follow_each (tokens_by grouped) (map part_of (drop (i + 1) parts)) behind w.1))
each_more name found grouped parts i part behind rest items lt e is =
    ap (λ ps. walked name found (follow_each (tokens_by grouped) (map part_of ps) behind items)) (drop_more parts i part lt ∙ ap (λ x. x ∷ drop (i + 1) parts) (sym e))
    ∙ walked_on name found ((part_of part).follow (tokens_by grouped (map part_of (drop (i + 1) parts)) ++ behind) items) (follow_each (tokens_by grouped) (map part_of (drop (i + 1) parts)) behind)
    ∙ ap (λ r. once None (walked name found ((part_of part).follow r items)) (λ w. walked name w.0 (follow_each (tokens_by grouped) (map part_of (drop (i + 1) parts)) behind w.1))) (sym is)

pub each_fails : (name : List ℕ) (found : Option InformationObjectField) (grouped : Bool) (parts : List SyntaxExpression) (i : ℕ) (part : SyntaxExpression) (behind rest : List (Bool × SyntaxToken)) (items : List SyntaxApplication) →
    i < length parts → part ≡ get_or parts i part → rest ≡ tokens_by grouped (map part_of (drop (i + 1) parts)) ++ behind → walked name found ((part_of part).follow rest items) ≡ None →
    walked name found (follow_each (tokens_by grouped) (map part_of (drop i parts)) behind items) ≡ None
each_fails name found grouped parts i part behind rest items lt e is fails =
    each_more name found grouped parts i part behind rest items lt e is
    ∙ ap (λ w. once None w (λ w. walked name w.0 (follow_each (tokens_by grouped) (map part_of (drop (i + 1) parts)) behind w.1))) fails

pub each_next : (name : List ℕ) (found : Option InformationObjectField) (grouped : Bool) (parts : List SyntaxExpression) (i : ℕ) (part : SyntaxExpression) (behind rest : List (Bool × SyntaxToken)) (items : List SyntaxApplication)
    (later : Option InformationObjectField) (left : List SyntaxApplication) → i < length parts → part ≡ get_or parts i part → rest ≡ tokens_by grouped (map part_of (drop (i + 1) parts)) ++ behind →
    walked name found ((part_of part).follow rest items) ≡ Some (later, left) →
    walked name found (follow_each (tokens_by grouped) (map part_of (drop i parts)) behind items) ≡ walked name later (follow_each (tokens_by grouped) (map part_of (drop (i + 1) parts)) behind left)
each_next name found grouped parts i part behind rest items later left lt e is next =
    each_more name found grouped parts i part behind rest items lt e is
    ∙ ap (λ w. once None w (λ w. walked name w.0 (follow_each (tokens_by grouped) (map part_of (drop (i + 1) parts)) behind w.1))) next

-- ---- whole syntaxes

pub ended_is : (name : List ℕ) (r : Option (List InformationObjectField × List SyntaxApplication)) → once None (once None r if_ended) (named name) ≡ once None (walked name None r) ended
ended_is name None = refl
ended_is name (Some (fields, [])) = refl
ended_is name (Some (fields, item ∷ items)) = refl

-- what items of a syntax come to
pub syntax_fails : (name : List ℕ) (parts : List SyntaxExpression) (items : List SyntaxApplication) (behind : List (Bool × SyntaxToken)) → behind ≡ [] →
    walked name None (follow_each (tokens_by false) (map part_of parts) behind items) ≡ None → once None (applied (Some (record { expressions = parts })) items) (named name) ≡ None
syntax_fails name parts items behind e is =
    ended_is name (follow_each tokens_in (map part_of parts) [] items)
    ∙ ap (λ w. once None w ended) (ap (λ b. walked name None (follow_each (tokens_by false) (map part_of parts) b items)) (sym e) ∙ is)

pub syntax_followed : (name : List ℕ) (parts : List SyntaxExpression) (items : List SyntaxApplication) (behind : List (Bool × SyntaxToken)) (w : Option InformationObjectField × List SyntaxApplication) → behind ≡ [] →
    walked name None (follow_each (tokens_by false) (map part_of parts) behind items) ≡ Some w → once None (applied (Some (record { expressions = parts })) items) (named name) ≡ ended w
syntax_followed name parts items behind w e is =
    ended_is name (follow_each tokens_in (map part_of parts) [] items)
    ∙ ap (λ w. once None w ended) (ap (λ b. walked name None (follow_each (tokens_by false) (map part_of parts) b items)) (sym e) ∙ is)

-- ---- tokens that must stand, one behind the other

abbrev required : SyntaxToken → Bool × SyntaxToken
required t = (true, t)

abbrev all_taken : List ℕ → Option InformationObjectField → List SyntaxToken → List SyntaxApplication → Option (Option InformationObjectField × List SyntaxApplication)
all_taken name found [] items = Some (found, items)
all_taken name found (t ∷ ts) items = once None (walked name found (take_item t (map required ts) items)) (λ w. all_taken name w.0 ts w.1)

tokens_all : (ts : List SyntaxToken) → tokens_in (map part_of (map Required ts)) ++ [] ≡ map required ts
tokens_all [] = refl
tokens_all (t ∷ ts) =
    ap (λ p. (p.tokens ++ tokens_in (map part_of (map Required ts))) ++ []) (part_required (Required t) t refl) ∙ ap (λ xs. required t ∷ xs) (tokens_all ts)

once_alike : {A B : Type 0} (r : Option A) (f g : A → Option B) → ((x : A) → f x ≡ g x) → once None r f ≡ once None r g
once_alike None f g e = refl
once_alike (Some x) f g e = e x

all_is : (name : List ℕ) (found : Option InformationObjectField) (ts : List SyntaxToken) (items : List SyntaxApplication) →
    walked name found (follow_each tokens_in (map part_of (map Required ts)) [] items) ≡ all_taken name found ts items
all_is name found [] items = ap (λ f. Some (f, items)) (earlier_none found)
all_is name found (t ∷ ts) items =
    walked_on name found ((part_of (Required t)).follow (tokens_in (map part_of (map Required ts)) ++ []) items) (follow_each tokens_in (map part_of (map Required ts)) [])
    ∙ ap (λ r. once None (walked name found r) (λ w. walked name w.0 (follow_each tokens_in (map part_of (map Required ts)) [] w.1)))
    (ap (λ p. p.follow (tokens_in (map part_of (map Required ts)) ++ []) items) (part_required (Required t) t refl) ∙ ap (λ b. take_item t b items) (tokens_all ts))
    ∙ once_alike (walked name found (take_item t (map required ts) items)) (λ w. walked name w.0 (follow_each tokens_in (map part_of (map Required ts)) [] w.1)) (λ w. all_taken name w.0 ts w.1) (λ w. all_is name w.0 ts w.1)

all_next : (name : List ℕ) (found : Option InformationObjectField) (t : SyntaxToken) (ts : List SyntaxToken) (items : List SyntaxApplication) (b : List (Bool × SyntaxToken)) (w : Option InformationObjectField × List SyntaxApplication) →
    take_item t (map required ts) items ≡ take_item t b items → walked name found (take_item t b items) ≡ Some w → all_taken name found (t ∷ ts) items ≡ all_taken name w.0 ts w.1
all_next name found t ts items b w alike is = ap (λ r. once None r (λ w. all_taken name w.0 ts w.1)) (ap (walked name found) alike ∙ is)

all_fails : (name : List ℕ) (found : Option InformationObjectField) (t : SyntaxToken) (ts : List SyntaxToken) (items : List SyntaxApplication) (b : List (Bool × SyntaxToken)) →
    take_item t (map required ts) items ≡ take_item t b items → walked name found (take_item t b items) ≡ None → all_taken name found (t ∷ ts) items ≡ None
all_fails name found t ts items b alike is = ap (λ r. once None r (λ w. all_taken name w.0 ts w.1)) (ap (walked name found) alike ∙ is)

alike_type : (name word : List ℕ) (a b : List (Bool × SyntaxToken)) (items : List SyntaxApplication) → b ≡ (true, Literal word) ∷ [] →
    take_item (Field (MultipleValue name)) ((true, Literal word) ∷ a) items ≡ take_item (Field (MultipleValue name)) b items
alike_type name word a b [] e = refl
alike_type name word a b (item ∷ items) e = ap (λ x. take_item (Field (MultipleValue name)) x (item ∷ items)) (sym e)

alike_word : (word : List ℕ) (a b : List (Bool × SyntaxToken)) (items : List SyntaxApplication) → take_item (Literal word) a items ≡ take_item (Literal word) b items
alike_word word a b [] = refl
alike_word word a b (item ∷ items) = refl

alike_value : (name : List ℕ) (a b : List (Bool × SyntaxToken)) (items : List SyntaxApplication) → take_item (Field (SingleValue name)) a items ≡ take_item (Field (SingleValue name)) b items
alike_value name a b [] = refl
alike_value name a b (item ∷ items) = refl

-- ---- the syntax of the built-in class

abbrev one : SyntaxToken
one = Field (MultipleValue (codes "&Type"))

abbrev two : SyntaxToken
two = Literal (codes "IDENTIFIED")

abbrev three : SyntaxToken
three = Literal (codes "BY")

abbrev four : SyntaxToken
four = Field (SingleValue (codes "&id"))

abbrev Tokens : Type 0
Tokens = List (Bool × SyntaxToken)

abbrev Items : Type 0
Items = List SyntaxApplication

abbrev Found : Type 0
Found = Option InformationObjectField

built_in_is : (name : List ℕ) (items : Items) → once None (applied type_identifier.syntax items) (named name) ≡ once None (all_taken name None (one ∷ two ∷ three ∷ four ∷ []) items) ended
built_in_is name items =
    ended_is name (follow_each tokens_in (map part_of (map Required (one ∷ two ∷ three ∷ four ∷ []))) [] items)
    ∙ ap (λ w. once None w ended) (all_is name None (one ∷ two ∷ three ∷ four ∷ []) items)

pub built_in_first : (name : List ℕ) (items : Items) (a : Tokens) → a ≡ (true, two) ∷ [] → walked name None (take_item one a items) ≡ None →
    once None (applied type_identifier.syntax items) (named name) ≡ None
built_in_first name items a e f = built_in_is name items ∙ ap (λ w. once None w ended) (all_fails name None one (two ∷ three ∷ four ∷ []) items a (alike_type (codes "&Type") (codes "IDENTIFIED") (map required (three ∷ four ∷ [])) a items e) f)

from_second : (name : List ℕ) (items : Items) (a : Tokens) (v : Found) (l : Items) → a ≡ (true, two) ∷ [] → walked name None (take_item one a items) ≡ Some (v, l) →
    once None (applied type_identifier.syntax items) (named name) ≡ once None (all_taken name v (two ∷ three ∷ four ∷ []) l) ended
from_second name items a v l e f =
    built_in_is name items ∙ ap (λ w. once None w ended) (all_next name None one (two ∷ three ∷ four ∷ []) items a (v, l) (alike_type (codes "&Type") (codes "IDENTIFIED") (map required (three ∷ four ∷ [])) a items e) f)

pub built_in_second : (name : List ℕ) (items : Items) (a b : Tokens) (v : Found) (l : Items) → a ≡ (true, two) ∷ [] → walked name None (take_item one a items) ≡ Some (v, l) →
    walked name v (take_item two b l) ≡ None → once None (applied type_identifier.syntax items) (named name) ≡ None
built_in_second name items a b v l e f g =
    from_second name items a v l e f ∙ ap (λ w. once None w ended) (all_fails name v two (three ∷ four ∷ []) l b (alike_word (codes "IDENTIFIED") (map required (three ∷ four ∷ [])) b l) g)

from_third : (name : List ℕ) (items : Items) (a b : Tokens) (v : Found) (l : Items) (v2 : Found) (l2 : Items) → a ≡ (true, two) ∷ [] → walked name None (take_item one a items) ≡ Some (v, l) →
    walked name v (take_item two b l) ≡ Some (v2, l2) → once None (applied type_identifier.syntax items) (named name) ≡ once None (all_taken name v2 (three ∷ four ∷ []) l2) ended
from_third name items a b v l v2 l2 e f g =
    from_second name items a v l e f ∙ ap (λ w. once None w ended) (all_next name v two (three ∷ four ∷ []) l b (v2, l2) (alike_word (codes "IDENTIFIED") (map required (three ∷ four ∷ [])) b l) g)

pub built_in_third : (name : List ℕ) (items : Items) (a b d : Tokens) (v : Found) (l : Items) (v2 : Found) (l2 : Items) → a ≡ (true, two) ∷ [] → walked name None (take_item one a items) ≡ Some (v, l) →
    walked name v (take_item two b l) ≡ Some (v2, l2) → walked name v2 (take_item three d l2) ≡ None → once None (applied type_identifier.syntax items) (named name) ≡ None
built_in_third name items a b d v l v2 l2 e f g h =
    from_third name items a b v l v2 l2 e f g ∙ ap (λ w. once None w ended) (all_fails name v2 three (four ∷ []) l2 d (alike_word (codes "BY") (map required (four ∷ [])) d l2) h)

from_fourth : (name : List ℕ) (items : Items) (a b d : Tokens) (v : Found) (l : Items) (v2 : Found) (l2 : Items) (v3 : Found) (l3 : Items) → a ≡ (true, two) ∷ [] → walked name None (take_item one a items) ≡ Some (v, l) →
    walked name v (take_item two b l) ≡ Some (v2, l2) → walked name v2 (take_item three d l2) ≡ Some (v3, l3) → once None (applied type_identifier.syntax items) (named name) ≡ once None (all_taken name v3 (four ∷ []) l3) ended
from_fourth name items a b d v l v2 l2 v3 l3 e f g h =
    from_third name items a b v l v2 l2 e f g ∙ ap (λ w. once None w ended) (all_next name v2 three (four ∷ []) l2 d (v3, l3) (alike_word (codes "BY") (map required (four ∷ [])) d l2) h)

pub built_in_fourth : (name : List ℕ) (items : Items) (a b d i : Tokens) (v : Found) (l : Items) (v2 : Found) (l2 : Items) (v3 : Found) (l3 : Items) → a ≡ (true, two) ∷ [] →
    walked name None (take_item one a items) ≡ Some (v, l) → walked name v (take_item two b l) ≡ Some (v2, l2) → walked name v2 (take_item three d l2) ≡ Some (v3, l3) →
    walked name v3 (take_item four i l3) ≡ None → once None (applied type_identifier.syntax items) (named name) ≡ None
built_in_fourth name items a b d i v l v2 l2 v3 l3 e f g h j =
    from_fourth name items a b d v l v2 l2 v3 l3 e f g h ∙ ap (λ w. once None w ended) (all_fails name v3 four [] l3 i (alike_value (codes "&id") (map required []) i l3) j)

pub built_in_ends : (name : List ℕ) (items : Items) (a b d i : Tokens) (v : Found) (l : Items) (v2 : Found) (l2 : Items) (v3 : Found) (l3 : Items) (v4 : Found) (l4 : Items) → a ≡ (true, two) ∷ [] →
    walked name None (take_item one a items) ≡ Some (v, l) → walked name v (take_item two b l) ≡ Some (v2, l2) → walked name v2 (take_item three d l2) ≡ Some (v3, l3) →
    walked name v3 (take_item four i l3) ≡ Some (v4, l4) → once None (applied type_identifier.syntax items) (named name) ≡ ended (v4, l4)
built_in_ends name items a b d i v l v2 l2 v3 l3 v4 l4 e f g h j =
    from_fourth name items a b d v l v2 l2 v3 l3 e f g h ∙ ap (λ w. once None w ended) (all_next name v3 four [] l3 i (v4, l4) (alike_value (codes "&id") (map required []) i l3) j)
