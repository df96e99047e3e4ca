-- Whether a type accepts a value tree, and all that is known within a number of steps.
use Rattle.std.specs.Prelude.{ℕ, zero, suc, nat_eq, Bool, List, [], Option, None}
use Rattle.std.specs.List.{list_all, list_any}
use Rattle.asn_tree.specs.declared.constraints.Constraint.{Constraint}
use Rattle.asn_tree.specs.declared.constraints.ElementOrSetOperation.{out-ElementOrSetOperation}
use Rattle.asn_tree.specs.declared.constraints.SubtypeElement.{out-SubtypeElement}
use Rattle.asn_meaning.specs.Answers.{Answer, Yes, Unknown, both, answer_of, once, Unsure}
use Rattle.asn_meaning.specs.Constraints.{all_hold, chain_at, holds_at}
use Rattle.asn_meaning.specs.Definitions.{Definitions}
use Rattle.asn_meaning.specs.Denotes.{denotes_at}
use Rattle.asn_meaning.specs.Everything.{is_all_at}
use Rattle.asn_meaning.specs.Kinds.{Kind, CharacterStringKind, ChoiceKind, ListKind, StructKind, kind_of}
use Rattle.asn_meaning.specs.Layers.{OptionLayer}
use Rattle.asn_meaning.specs.Meaning.{Meaning, Member}
use Rattle.asn_meaning.specs.Members.{member_place, members_at}
use Rattle.asn_meaning.specs.Names.{Lead, IsHead, LeadsTo, IsLost, head_at, lead}
use Rattle.asn_meaning.specs.Ranges.{all_constraints, numbers_at, numbers_before, restricted}
use Rattle.asn_meaning.specs.Scopes.{Scope, Place}
use Rattle.asn_meaning.specs.Shapes.{choice_judged, fits_at, is_of_kind, kind_or_parts, list_judged, option_place, struct_judged}
use Rattle.asn_meaning.specs.ValueTrees.{ValueTree, Characters}
use Rattle.asn_meaning.specs.Written.{as_written}

-- ---- heads

abbrev pub is_within : List ℕ → List ℕ → Bool
is_within set cs = list_all (λ c. list_any (nat_eq c) set) cs

abbrev pub in_set : Option (List ℕ) → ValueTree → Answer
in_set set (Characters cs) = once Yes set (λ s. answer_of (is_within s cs))
in_set set _ = Yes

-- NumericString, PrintableString, VisibleString and IA5String have the characters of their sets alone (X.680 41).
abbrev pub characters_at : ValueTree → Kind → Answer
characters_at t (CharacterStringKind ty) = in_set (restricted ty) t
characters_at t _ = Yes

-- a member's, an option's and an element's type, with the constraints of its place
abbrev pub member_accepts : Meaning → Member → ValueTree → Answer
member_accepts M m t = M.accepts (member_place m) m.written.constraints t

abbrev pub option_accepts : Meaning → Scope → OptionLayer → ValueTree → Answer
option_accepts M scope o t = M.accepts (option_place scope o) o.constraints t

-- a tree with parts, each of which its type accepts
abbrev pub parts_accepted : Meaning → Scope → ValueTree → Kind → Answer
parts_accepted M scope t (StructKind x) = struct_judged (member_accepts M) (M.members scope x) t
parts_accepted M scope t (ListKind ty) = list_judged (M.accepts (record { scope = scope; ty = ty }) []) t
parts_accepted M scope t (ChoiceKind options) = choice_judged (option_accepts M scope) options t
parts_accepted M scope t _ = Unknown

-- a head without its constraints; an open type accepts every tree
abbrev pub head_accepts : Meaning → ValueTree → Place → Answer
head_accepts M t head =
    both (characters_at t (kind_of head)) (kind_or_parts (is_of_kind (kind_of head)) (parts_accepted M head.scope t (kind_of head)) t)

-- ---- Judge

-- what a type stands for, with the constraints that come along
abbrev pub stands_for : Meaning → ValueTree → Place → Lead → Answer
stands_for M t p IsHead = head_accepts M t p
stands_for M t p (LeadsTo x) = M.accepts x.place x.constraints t
stands_for M t p IsLost = Unknown

-- Judge: a type accepts a tree where what it stands for does, and all constraints of the type and of its place hold.
abbrev pub accepts_at : Definitions → Meaning → Place → List Constraint → ValueTree → Answer
accepts_at defs M p cs t =
    both (stands_for M t p (lead defs M p))
    (once Unknown (M.head p) (λ head. all_hold M p.scope head (numbers_before defs M p) (all_constraints p cs) t))

-- ---- steps

-- nothing is known without steps
unfoldable pub nothing_known : Meaning
nothing_known =
    record {
      head = λ p. None;
      members = λ scope x. None;
      chain = λ set. None;
      fits = λ p t. Unknown;
      denotes = λ scope v p. Unsure;
      is_all = λ scope v p. Unknown;
      numbers = λ p cs. None;
      accepts = λ p cs t. Unknown;
      holds = λ scope parent e t. Unknown;
    }

-- one step more than is known
unfoldable pub step : Definitions → Meaning → Meaning
step defs M =
    record {
      head = head_at defs M;
      members = members_at M;
      chain = λ set. chain_at M (out-ElementOrSetOperation set);
      fits = fits_at M;
      denotes = denotes_at defs M;
      is_all = λ scope v p. is_all_at defs M scope p (as_written v);
      numbers = numbers_at defs M;
      accepts = accepts_at defs M;
      holds = λ scope parent e t. holds_at M scope parent t (out-SubtypeElement e);
    }

-- What is known within a number of steps.
unfoldable pub meaning : Definitions → ℕ → Meaning
meaning defs zero = nothing_known
meaning defs (suc n) = step defs (meaning defs n)
