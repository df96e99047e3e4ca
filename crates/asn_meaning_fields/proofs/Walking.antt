-- Following a syntax, part by part.
use Rattle.std.proofs.Common.{◌≡◌, ℕ, ◌+◌, ◌<◌, ◌≤◌, List, [], ◌∷◌, ◌++◌, map, drop, length, get_or, Bool, true, false, if◌then◌else◌, Option, Some, None, refl, sym, ap, ◌∙◌, append_assoc}
use Rattle.std.proofs.lemmas.List.{append-nil, at_drop_all, drop_more, map-append}
use Rattle.asn_tree_leaves.specs.declared.objects.SyntaxExpression.{SyntaxExpression}
use Rattle.asn_tree_leaves.specs.declared.objects.SyntaxExpression.TheVariants.{Optional}
use Rattle.asn_tree_leaves.specs.declared.objects.SyntaxToken.{SyntaxToken}
use Rattle.asn_tree.specs.declared.objects.InformationObjectField.{InformationObjectField}
use Rattle.asn_tree.specs.declared.objects.SyntaxApplication.{SyntaxApplication, out-SyntaxApplication}
use Rattle.asn_meaning_heads.specs.declared.objects.GivenField.{GivenField}
use Rattle.asn_meaning_heads.specs.Following.{where_it}
use Rattle.asn_meaning_heads.specs.Objects.{shown_given}
use Rattle.asn_meaning_heads.specs.Tokens.{tokens_by}
use Rattle.asn_meaning_heads.proofs.Due.{part_optional}
use Rattle.asn_meaning_heads.proofs.Walking.{take_first, take_refused}
use Rattle.asn_meaning_fields.specs.Given.{shown_given_fields}
use Rattle.asn_meaning_fields.specs.inner.Walks.{walked}
use Rattle.asn_meaning.specs.Answers.{once}
use Rattle.asn_meaning.specs.Objects.{Part, begins, follow_each, item_gives, optional_tokens, part_of, take_item}
use Rattle.asn_tree_notation.specs.Syntax.{matches}

abbrev pub Tokens : Type 0
Tokens = List (Bool × SyntaxToken)

abbrev pub Items : Type 0
Items = List SyntaxApplication

abbrev pub Fields : Type 0
Fields = List InformationObjectField

-- ---- lists of fields

pub one_more : (all xs : List GivenField) (x : GivenField) → all ≡ xs ++ x ∷ [] → shown_given_fields all ≡ shown_given_fields xs ++ shown_given x ∷ []
one_more all xs x e = ap shown_given_fields e ∙ map-append shown_given xs (x ∷ [])

pub nothing_more : (xs : Fields) → xs ≡ xs ++ []
nothing_more xs = sym (append-nil xs)

-- ---- an item at a token

pub take_none : (before : Fields) (t : SyntaxToken) (behind : Tokens) (items : Items) (item : SyntaxApplication) → 0 < length items → item ≡ get_or items 0 item →
    None ≡ where_it (matches item t ((true, t) ∷ behind) 0) (item_gives t (out-SyntaxApplication item)) → walked before (take_item t behind items) ≡ None
take_none before t behind items item lt e is = go (matches item t ((true, t) ∷ behind) 0) refl is
  where
    go : (b : Bool) → matches item t ((true, t) ∷ behind) 0 ≡ b → None ≡ where_it b (item_gives t (out-SyntaxApplication item)) → walked before (take_item t behind items) ≡ None
    go true m is = absurd cc
    go false m is = ap (walked before) (take_refused t behind items item lt e m)

pub take_some : (before : Fields) (t : SyntaxToken) (behind : Tokens) (items : Items) (item : SyntaxApplication) (fields : Fields) → 0 < length items → item ≡ get_or items 0 item →
    Some fields ≡ where_it (matches item t ((true, t) ∷ behind) 0) (item_gives t (out-SyntaxApplication item)) → walked before (take_item t behind items) ≡ Some (before ++ fields, drop 1 items)
take_some before t behind items item fields lt e is = go (matches item t ((true, t) ∷ behind) 0) refl is
  where
    go : (b : Bool) → matches item t ((true, t) ∷ behind) 0 ≡ b → Some fields ≡ where_it b (item_gives t (out-SyntaxApplication item)) →
        walked before (take_item t behind items) ≡ Some (before ++ fields, drop 1 items)
    go true m is = ap (walked before) (take_first t behind items item lt e m) ∙ cc
    go false m is = absurd cc

-- ---- parts

abbrev group_follows : Bool → List Part → Tokens → Items → Option (Fields × Items)
group_follows b group behind items = if b then follow_each optional_tokens group behind items else Some ([], items)

pub part_left_out : (before : Fields) (part : SyntaxExpression) (group : List SyntaxExpression) (behind : Tokens) (items : Items) → part ≡ Optional group →
    begins (optional_tokens (map part_of group)) behind items ≡ false → walked before ((part_of part).follow behind items) ≡ Some (before, items)
part_left_out before part group behind items e is =
    ap (walked before) (ap (λ p. p.follow behind items) (part_optional part group e) ∙ ap (λ b. group_follows b (map part_of group) behind items) is)
    ∙ ap (λ fields. Some (fields, items)) (append-nil before)

-- ---- parts in order

pub walked_on : (before : Fields) (first : Option (Fields × Items)) (others : Items → Option (Fields × Items)) →
    walked before (once None first (λ f. once None (others f.1) (λ o. Some (f.0 ++ o.0, o.1)))) ≡ once None (walked before first) (λ w. walked w.0 (others w.1))
walked_on before None others = refl
walked_on before (Some (fields, left)) others = go (others left)
  where
    go : (o : Option (Fields × Items)) → walked before (once None o (λ o. Some (fields ++ o.0, o.1))) ≡ walked (before ++ fields) o
    go None = refl
    go (Some (more, rest)) = ap (λ f. Some (f, rest)) (sym (append_assoc before fields more))

pub each_ends : (before : Fields) (grouped : Bool) (parts : List SyntaxExpression) (i : ℕ) (behind : Tokens) (items : Items) → length parts ≤ i →
    walked before (follow_each (tokens_by grouped) (map part_of (drop i parts)) behind items) ≡ Some (before, items)
each_ends before grouped parts i behind items le =
    at_drop_all (λ ps. walked before (follow_each (tokens_by grouped) (map part_of ps) behind items)) parts i le ∙ ap (λ f. Some (f, items)) (append-nil before)

-- the parts behind the first of these, from where the first led
abbrev others_walked : Bool → List SyntaxExpression → ℕ → Tokens → Option (Fields × Items) → Option (Fields × Items)
others_walked grouped parts i behind first = once None first (λ w. walked w.0 (follow_each (tokens_by grouped) (map part_of (drop (i + 1) parts)) behind w.1))

each_more : (before : Fields) (grouped : Bool) (parts : List SyntaxExpression) (i : ℕ) (part : SyntaxExpression) (behind rest : Tokens) (items : Items) →
    i < length parts → part ≡ get_or parts i part → rest ≡ tokens_by grouped (map part_of (drop (i + 1) parts)) ++ behind →
    walked before (follow_each (tokens_by grouped) (map part_of (drop i parts)) behind items) ≡ others_walked grouped parts i behind (walked before ((part_of part).follow rest items))
each_more before grouped parts i part behind rest items lt e is =
    ap (λ ps. walked before (follow_each (tokens_by grouped) (map part_of ps) behind items)) (drop_more parts i part lt ∙ ap (λ x. x ∷ drop (i + 1) parts) (sym e))
    ∙ walked_on before ((part_of part).follow (tokens_by grouped (map part_of (drop (i + 1) parts)) ++ behind) items) (follow_each (tokens_by grouped) (map part_of (drop (i + 1) parts)) behind)
    ∙ ap (λ r. others_walked grouped parts i behind (walked before ((part_of part).follow r items))) (sym is)

pub each_fails : (before : Fields) (grouped : Bool) (parts : List SyntaxExpression) (i : ℕ) (part : SyntaxExpression) (behind rest : Tokens) (items : Items) →
    i < length parts → part ≡ get_or parts i part → rest ≡ tokens_by grouped (map part_of (drop (i + 1) parts)) ++ behind → walked before ((part_of part).follow rest items) ≡ None →
    walked before (follow_each (tokens_by grouped) (map part_of (drop i parts)) behind items) ≡ None
each_fails before grouped parts i part behind rest items lt e is fails =
    each_more before grouped parts i part behind rest items lt e is ∙ ap (others_walked grouped parts i behind) fails

pub each_next : (before : Fields) (grouped : Bool) (parts : List SyntaxExpression) (i : ℕ) (part : SyntaxExpression) (behind rest : Tokens) (items : Items) (later : Fields) (left : Items) →
    i < length parts → part ≡ get_or parts i part → rest ≡ tokens_by grouped (map part_of (drop (i + 1) parts)) ++ behind → walked before ((part_of part).follow rest items) ≡ Some (later, left) →
    walked before (follow_each (tokens_by grouped) (map part_of (drop i parts)) behind items) ≡ walked later (follow_each (tokens_by grouped) (map part_of (drop (i + 1) parts)) behind left)
each_next before grouped parts i part behind rest items later left lt e is next =
    each_more before grouped parts i part behind rest items lt e is ∙ ap (others_walked grouped parts i behind) next
