-- Where names and types lead, and the head within a number of steps.
use Rattle.std.proofs.Common.{◌≡◌, ℕ, ◌+◌, ◌-◌, ◌<◌, suc, List, Some, None, ap, ◌∙◌, arith}
use Rattle.asn_tree.specs.declared.constraints.Parameter.{Parameter}
use Rattle.asn_tree.specs.declared.definitions.ToplevelTypeDefinition.{ToplevelTypeDefinition}
use Rattle.asn_tree_kinds.specs.declared.types.ChoiceSelectionType.{ChoiceSelectionType}
use Rattle.asn_meaning_heads.specs.Leads.{option_target}
use Rattle.asn_meaning.specs.Answers.{once}
use Rattle.asn_meaning.specs.Definitions.{Definitions, type_named}
use Rattle.asn_meaning.specs.Judge.{meaning, step}
use Rattle.asn_meaning.specs.Meaning.{Meaning}
use Rattle.asn_meaning.specs.Names.{IsHead, LeadsTo, IsLost, dummy_target, head_from, head_named, instance, lead, name_target, option_named, options_of, selection_target}
use Rattle.asn_meaning.specs.Scopes.{Bound, Place, Scope, Target, bound_to}

pub name_of_dummy : (defs : Definitions) (scope : Scope) (name : List ℕ) (lists : List (List Parameter)) (b : Bound) → bound_to scope name ≡ Some b →
    name_target defs scope name lists (bound_to scope name) ≡ dummy_target b b.governor lists
name_of_dummy defs scope name lists b e = ap (name_target defs scope name lists) e

pub name_of_none : (defs : Definitions) (scope : Scope) (name : List ℕ) (lists : List (List Parameter)) → bound_to scope name ≡ None → type_named defs name ≡ None →
    name_target defs scope name lists (bound_to scope name) ≡ None
name_of_none defs scope name lists free e =
    ap (name_target defs scope name lists) free ∙ ap (λ d. once None d (λ d. instance scope d d.parameterization lists)) e

pub name_of_definition : (defs : Definitions) (scope : Scope) (name : List ℕ) (lists : List (List Parameter)) (d : ToplevelTypeDefinition) → bound_to scope name ≡ None → type_named defs name ≡ Some d →
    name_target defs scope name lists (bound_to scope name) ≡ instance scope d d.parameterization lists
name_of_definition defs scope name lists d free e =
    ap (name_target defs scope name lists) free ∙ ap (λ d. once None d (λ d. instance scope d d.parameterization lists)) e

-- ---- selections

pub selection_of_none : (M : Meaning) (scope : Scope) (x : ChoiceSelectionType) → head_named M scope x.choice_name ≡ None → selection_target M scope x ≡ None
selection_of_none M scope x e =
    ap (λ h. once None h (λ h. once None (option_named (options_of h) x.selected_option) (option_target h.scope))) e

pub selection_of_head : (M : Meaning) (scope : Scope) (x : ChoiceSelectionType) (h : Place) → head_named M scope x.choice_name ≡ Some h →
    selection_target M scope x ≡ once None (option_named (options_of h) x.selected_option) (option_target h.scope)
selection_of_head M scope x h e =
    ap (λ h. once None h (λ h. once None (option_named (options_of h) x.selected_option) (option_target h.scope))) e

-- ---- heads

pub head_at_more : (defs : Definitions) (n k : ℕ) (p : Place) → n ≡ suc k → (meaning defs n).head p ≡ head_from (meaning defs k) p (lead defs (meaning defs k) p)
unfolding meaning step
head_at_more defs n k p more = ap (λ i. (meaning defs i).head p) more

pub one_more : (n m : ℕ) → 0 < n → n + m ≡ suc (n - 1 + m)
one_more n m lt = omega arith

pub head_is : (defs : Definitions) (n m : ℕ) (p : Place) → 0 < n → lead defs (meaning defs (n - 1 + m)) p ≡ IsHead → (meaning defs (n + m)).head p ≡ Some p
head_is defs n m p lt e = head_at_more defs (n + m) (n - 1 + m) p (one_more n m lt) ∙ ap (head_from (meaning defs (n - 1 + m)) p) e

pub head_beyond : (defs : Definitions) (n m : ℕ) (p : Place) (x : Target) → 0 < n → lead defs (meaning defs (n - 1 + m)) p ≡ LeadsTo x →
    (meaning defs (n + m)).head p ≡ (meaning defs (n - 1 + m)).head x.place
head_beyond defs n m p x lt e = head_at_more defs (n + m) (n - 1 + m) p (one_more n m lt) ∙ ap (head_from (meaning defs (n - 1 + m)) p) e

pub head_lost : (defs : Definitions) (n m : ℕ) (p : Place) → 0 < n → lead defs (meaning defs (n - 1 + m)) p ≡ IsLost → (meaning defs (n + m)).head p ≡ None
head_lost defs n m p lt e = head_at_more defs (n + m) (n - 1 + m) p (one_more n m lt) ∙ ap (head_from (meaning defs (n - 1 + m)) p) e
