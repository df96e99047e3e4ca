-- The tokens of parts, and those that may come next.
use Rattle.std.proofs.Common.{◌≡◌, ℕ, ◌+◌, ◌<◌, ◌≤◌, List, [], ◌∷◌, ◌++◌, map, drop, length, get_or, Bool, true, false, ◌||◌, if◌then◌else◌, Option, Some, None, refl, sym, ap, ◌∙◌}
use Rattle.std.specs.Prelude.{is_some}
use Rattle.std.specs.Borrow.{Bor}
use Rattle.std.specs.List.{list_any}
use Rattle.std.specs.Str.{bytes_eq}
use Rattle.std.proofs.lemmas.List.{at_drop_all, drop_more}
use Rattle.asn_tree_leaves.specs.declared.objects.SyntaxExpression.{SyntaxExpression, SyntaxExpression-F, out-SyntaxExpression, fold_out-SyntaxExpression, map-SyntaxExpression}
use Rattle.asn_tree_leaves.specs.declared.objects.SyntaxExpression.TheVariants.{Required, Optional, outs-Required, outs-Optional}
use Rattle.asn_tree_leaves.specs.declared.objects.SyntaxToken.{SyntaxToken}
use Rattle.asn_tree_leaves.specs.declared.objects.SyntaxToken.TheVariants as token
use Rattle.asn_meaning_heads.specs.declared.tokens.Behind.{Behind, Behind-F, out-Behind, fold_out-Behind, map-Behind}
use Rattle.asn_meaning_heads.specs.declared.tokens.Behind.TheVariants as own
use Rattle.asn_meaning_heads.specs.Tokens.{behind_at, due_in, marked_by, shown_behind, tokens_by}
use Rattle.asn_meaning.specs.Objects.{Part, optional_tokens, part_at, part_of, tokens_in}
use Rattle.asn_tree_notation.specs.Syntax.{is_text_of, marked_optional, up_to_required}

-- ---- parts

pub part_required : (part : SyntaxExpression) (t : SyntaxToken) → part ≡ Required t → part_of part ≡ part_at (SyntaxExpression-F.Required t)
part_required part t e =
    fold_out-SyntaxExpression Part part_at part ∙ ap (λ x. part_at (map-SyntaxExpression SyntaxExpression Part part_of x)) (ap out-SyntaxExpression e ∙ outs-Required t)

pub part_optional : (part : SyntaxExpression) (group : List SyntaxExpression) → part ≡ Optional group → part_of part ≡ part_at (SyntaxExpression-F.Optional (map part_of group))
part_optional part group e =
    fold_out-SyntaxExpression Part part_at part ∙ ap (λ x. part_at (map-SyntaxExpression SyntaxExpression Part part_of x)) (ap out-SyntaxExpression e ∙ outs-Optional group)

abbrev pub unmarked : List (Bool × SyntaxToken) → List (Bool × SyntaxToken)
unmarked tokens = map (λ t. marked_optional t.1) tokens

unmarked_append : (a b : List (Bool × SyntaxToken)) → unmarked (a ++ b) ≡ unmarked a ++ unmarked b
unmarked_append [] b = refl
unmarked_append (t ∷ a) b = ap (λ ts. marked_optional t.1 ∷ ts) (unmarked_append a b)

unmarked_twice : (a : List (Bool × SyntaxToken)) → unmarked (unmarked a) ≡ unmarked a
unmarked_twice [] = refl
unmarked_twice (t ∷ a) = ap (λ ts. marked_optional t.1 ∷ ts) (unmarked_twice a)

pub tokens_next : (grouped : Bool) (p : Part) (ps : List Part) → tokens_by grouped (p ∷ ps) ≡ marked_by grouped p.tokens ++ tokens_by grouped ps
tokens_next true p ps = unmarked_append p.tokens (tokens_in ps)
tokens_next false p ps = refl

pub tokens_of_none : (grouped : Bool) → tokens_by grouped [] ≡ []
tokens_of_none true = refl
tokens_of_none false = refl

pub group_marked : (grouped : Bool) (ps : List Part) → marked_by grouped (optional_tokens ps) ≡ optional_tokens ps
group_marked true ps = unmarked_twice (tokens_in ps)
group_marked false ps = refl

pub tokens_more : (grouped : Bool) (parts : List SyntaxExpression) (i : ℕ) (part : SyntaxExpression) → i < length parts → part ≡ get_or parts i part →
    tokens_by grouped (map part_of (drop i parts)) ≡ marked_by grouped (part_of part).tokens ++ tokens_by grouped (map part_of (drop (i + 1) parts))
tokens_more grouped parts i part lt e =
    ap (λ xs. tokens_by grouped (map part_of xs)) (drop_more parts i part lt ∙ ap (λ x. x ∷ drop (i + 1) parts) (sym e))
    ∙ tokens_next grouped (part_of part) (map part_of (drop (i + 1) parts))

pub tokens_end : (grouped : Bool) (parts : List SyntaxExpression) (i : ℕ) → length parts ≤ i → tokens_by grouped (map part_of (drop i parts)) ≡ []
tokens_end grouped parts i le = at_drop_all (λ xs. tokens_by grouped (map part_of xs)) parts i le ∙ tokens_of_none grouped

-- ---- whether a text is due among tokens

abbrev or_else : Option Bool → Option Bool → Option Bool
or_else (Some due) other = Some due
or_else None other = other

due_append : (text : List ℕ) (a b : List (Bool × SyntaxToken)) → due_in text (a ++ b) ≡ or_else (due_in text a) (due_in text b)
due_append text [] b = refl
due_append text ((required, t) ∷ a) b = go required (is_text_of text t) (due_append text a b)
  where
    go : (required here : Bool) → due_in text (a ++ b) ≡ or_else (due_in text a) (due_in text b) →
        (if here then Some true else if required then Some false else due_in text (a ++ b)) ≡ or_else (if here then Some true else if required then Some false else due_in text a) (due_in text b)
    go required true e = refl
    go true false e = refl
    go false false e = e

pub due_of_token : (text : List ℕ) (grouped : Bool) (part : SyntaxExpression) (t : SyntaxToken) → part ≡ Required t →
    due_in text (marked_by grouped (part_of part).tokens) ≡ due_in text (marked_by grouped ((true, t) ∷ []))
due_of_token text grouped part t e = ap (λ p. due_in text (marked_by grouped p.tokens)) (part_required part t e)

pub due_of_group : (text : List ℕ) (grouped : Bool) (part : SyntaxExpression) (group : List SyntaxExpression) → part ≡ Optional group →
    due_in text (marked_by grouped (part_of part).tokens) ≡ due_in text (tokens_by true (map part_of (drop 0 group)))
due_of_group text grouped part group e =
    ap (λ p. due_in text (marked_by grouped p.tokens)) (part_optional part group e) ∙ ap (due_in text) (group_marked grouped (map part_of group))

pub due_ends : (text : List ℕ) (grouped : Bool) (parts : List SyntaxExpression) (i : ℕ) → length parts ≤ i → due_in text (tokens_by grouped (map part_of (drop i parts))) ≡ None
due_ends text grouped parts i le = ap (due_in text) (tokens_end grouped parts i le)

due_more : (text : List ℕ) (grouped : Bool) (parts : List SyntaxExpression) (i : ℕ) (part : SyntaxExpression) → i < length parts → part ≡ get_or parts i part →
    due_in text (tokens_by grouped (map part_of (drop i parts)))
    ≡ or_else (due_in text (marked_by grouped (part_of part).tokens)) (due_in text (tokens_by grouped (map part_of (drop (i + 1) parts))))
due_more text grouped parts i part lt e =
    ap (due_in text) (tokens_more grouped parts i part lt e) ∙ due_append text (marked_by grouped (part_of part).tokens) (tokens_by grouped (map part_of (drop (i + 1) parts)))

here_is : (a b : Option Bool) → is_some a ≡ true → or_else a b ≡ a
here_is (Some due) b e = refl
here_is None b e = absurd cc

past_is : (a b : Option Bool) → is_some a ≡ false → or_else a b ≡ b
past_is (Some due) b e = absurd cc
past_is None b e = refl

pub due_here : (text : List ℕ) (grouped : Bool) (parts : List SyntaxExpression) (i : ℕ) (part : SyntaxExpression) → i < length parts → part ≡ get_or parts i part →
    is_some (due_in text (marked_by grouped (part_of part).tokens)) ≡ true →
    due_in text (tokens_by grouped (map part_of (drop i parts))) ≡ due_in text (marked_by grouped (part_of part).tokens)
due_here text grouped parts i part lt e is =
    due_more text grouped parts i part lt e ∙ here_is (due_in text (marked_by grouped (part_of part).tokens)) (due_in text (tokens_by grouped (map part_of (drop (i + 1) parts)))) is

pub due_past : (text : List ℕ) (grouped : Bool) (parts : List SyntaxExpression) (i : ℕ) (part : SyntaxExpression) → i < length parts → part ≡ get_or parts i part →
    is_some (due_in text (marked_by grouped (part_of part).tokens)) ≡ false →
    due_in text (tokens_by grouped (map part_of (drop i parts))) ≡ due_in text (tokens_by grouped (map part_of (drop (i + 1) parts)))
due_past text grouped parts i part lt e is =
    due_more text grouped parts i part lt e ∙ past_is (due_in text (marked_by grouped (part_of part).tokens)) (due_in text (tokens_by grouped (map part_of (drop (i + 1) parts)))) is

-- ---- what stands behind

abbrev pub due_behind : List ℕ → List (Bool × SyntaxToken) → Bool
due_behind text tokens = list_any (is_text_of text) (up_to_required tokens)

abbrev told : Option Bool → Bool → Bool
told (Some due) other = due
told None other = other

due_then : (text : List ℕ) (a behind : List (Bool × SyntaxToken)) → due_behind text (a ++ behind) ≡ told (due_in text a) (due_behind text behind)
due_then text [] behind = refl
due_then text ((true, t) ∷ a) behind = go (is_text_of text t)
  where
    go : (here : Bool) → (here || false) ≡ told (if here then Some true else Some false) (due_behind text behind)
    go true = refl
    go false = refl
due_then text ((false, t) ∷ a) behind = go (is_text_of text t) (due_then text a behind)
  where
    go : (here : Bool) → due_behind text (a ++ behind) ≡ told (due_in text a) (due_behind text behind) →
        (here || due_behind text (a ++ behind)) ≡ told (if here then Some true else due_in text a) (due_behind text behind)
    go true e = refl
    go false e = e

level : Behind-F Behind → List (Bool × SyntaxToken)
level Behind-F.End = []
level (Behind-F.Word word) = (true, token.Literal word.now) ∷ []
level (Behind-F.Parts parts from grouped others) = tokens_by grouped (map part_of (drop from parts.now)) ++ shown_behind others.now

behind_is : (b : Behind) → shown_behind b ≡ level (out-Behind b)
unfolding shown_behind level
behind_is b = fold_out-Behind (List (Bool × SyntaxToken)) behind_at b ∙ go (out-Behind b)
  where
    go : (x : Behind-F Behind) → behind_at (map-Behind Behind (List (Bool × SyntaxToken)) shown_behind x) ≡ level x
    go Behind-F.End = refl
    go (Behind-F.Word word) = refl
    go (Behind-F.Parts parts from grouped others) = refl

pub behind_end : (b : Behind) → b ≡ own.End → shown_behind b ≡ []
unfolding level
behind_end b e = behind_is b ∙ ap level (ap out-Behind e ∙ own.outs-End)

pub behind_word : (b : Behind) (word : Bor (List ℕ)) → b ≡ own.Word word → shown_behind b ≡ (true, token.Literal word.now) ∷ []
unfolding level
behind_word b word e = behind_is b ∙ ap level (ap out-Behind e ∙ own.outs-Word word)

pub behind_parts : (b : Behind) (parts : Bor (List SyntaxExpression)) (from : ℕ) (grouped : Bool) (others : Bor Behind) → b ≡ own.Parts parts from grouped others →
    shown_behind b ≡ tokens_by grouped (map part_of (drop from parts.now)) ++ shown_behind others.now
unfolding level
behind_parts b parts from grouped others e = behind_is b ∙ ap level (ap out-Behind e ∙ own.outs-Parts parts from grouped others)

pub due_at_end : (text : List ℕ) (b : Behind) → b ≡ own.End → list_any (is_text_of text) (up_to_required (shown_behind b)) ≡ false
due_at_end text b e = ap (due_behind text) (behind_end b e)

or_false : (b : Bool) → (b || false) ≡ b
or_false true = refl
or_false false = refl

pub due_at_word : (text : List ℕ) (b : Behind) (word : Bor (List ℕ)) → b ≡ own.Word word → list_any (is_text_of text) (up_to_required (shown_behind b)) ≡ bytes_eq word.now text
due_at_word text b word e = ap (due_behind text) (behind_word b word e) ∙ or_false (bytes_eq word.now text)

due_parts : (text : List ℕ) (b : Behind) (parts : Bor (List SyntaxExpression)) (from : ℕ) (grouped : Bool) (others : Bor Behind) → b ≡ own.Parts parts from grouped others →
    list_any (is_text_of text) (up_to_required (shown_behind b)) ≡ told (due_in text (tokens_by grouped (map part_of (drop from parts.now)))) (due_behind text (shown_behind others.now))
due_parts text b parts from grouped others e =
    ap (due_behind text) (behind_parts b parts from grouped others e) ∙ due_then text (tokens_by grouped (map part_of (drop from parts.now))) (shown_behind others.now)

pub due_in_parts : (text : List ℕ) (b : Behind) (parts : Bor (List SyntaxExpression)) (from : ℕ) (grouped : Bool) (others : Bor Behind) (due : Bool) → b ≡ own.Parts parts from grouped others →
    due_in text (tokens_by grouped (map part_of (drop from parts.now))) ≡ Some due → list_any (is_text_of text) (up_to_required (shown_behind b)) ≡ due
due_in_parts text b parts from grouped others due e is =
    due_parts text b parts from grouped others e ∙ ap (λ x. told x (due_behind text (shown_behind others.now))) is

pub due_behind_parts : (text : List ℕ) (b : Behind) (parts : Bor (List SyntaxExpression)) (from : ℕ) (grouped : Bool) (others : Bor Behind) → b ≡ own.Parts parts from grouped others →
    due_in text (tokens_by grouped (map part_of (drop from parts.now))) ≡ None → list_any (is_text_of text) (up_to_required (shown_behind b)) ≡ list_any (is_text_of text) (up_to_required (shown_behind others.now))
due_behind_parts text b parts from grouped others e is =
    due_parts text b parts from grouped others e ∙ ap (λ x. told x (due_behind text (shown_behind others.now))) is
