-- Following a type's names to a dummy without an argument, one place at a time.
use Rattle.std.proofs.Common.{◌≡◌, ℕ, zero, suc, ◌+◌, ◌-◌, ◌<◌, Bool, true, false, ◌||◌, is_none, List, [], ◌∷◌, Option, Some, None, refl, sym, subst, ap, ◌∙◌, arith, if◌then◌else◌}
use Rattle.std.specs.Prelude.{is_some}
use Rattle.asn_tree_kinds.specs.declared.types.ChoiceSelectionType.{ChoiceSelectionType}
use Rattle.asn_tree.specs.declared.constraints.Parameter.{Parameter, out-Parameter}
use Rattle.asn_tree.specs.declared.definitions.ParameterGovernor.{ParameterGovernor}
use Rattle.asn_tree.specs.declared.definitions.ParameterGovernor.TheVariants as governor
use Rattle.asn_tree.specs.declared.objects.InformationObjectField.{InformationObjectField, out-InformationObjectField}
use Rattle.asn_tree.specs.declared.types.ASN1Type.TheVariants as type_of_kind
use Rattle.asn_meaning_heads.proofs.Leading.{head_at_more}
use Rattle.asn_meaning_dummies.specs.inner.Hanging.{Next, Ends, GoesTo, choice_name, choice_next, hung, lost_next, told_by}
use Rattle.asn_meaning.specs.Accepts.{place}
use Rattle.asn_meaning.specs.Answers.{once}
use Rattle.asn_meaning.specs.Definitions.{Definitions}
use Rattle.asn_meaning.specs.Judge.{meaning, nothing_known}
use Rattle.asn_meaning.specs.Kinds.{Kind, NullKind, FieldKind, ReferenceKind, SelectionKind, kind_at, kind_of}
use Rattle.asn_meaning.specs.Layers.{ReferenceLayer}
use Rattle.asn_meaning.specs.Meaning.{Meaning}
use Rattle.asn_meaning.specs.Names.{FieldType, Lead, IsHead, LeadsTo, IsLost, dummy_target, field_lead, head_from, head_named, lead, lead_at, leading, lists_in, name_target, options_of, option_named, plain_name, reference_of, selection_target, type_argument, type_of_field}
use Rattle.asn_meaning.specs.Scopes.{Argument, Bound, Place, Scope, Target, bound_to}
use Rattle.asn_meaning.proofs.More.{More, Leads, lead_more}
use Rattle.asn_meaning.proofs.Steps.{more_known}
use Rattle.asn_needs.specs.Dummies.{choice_at, hangs, is_free_dummy, names_free_at, next_place}

-- ---- a name of a dummy without an argument leads nowhere

abbrev pub is_open : Option Bound → Bool
is_open o = once false o (λ b. is_none b.argument)

no_argument : (b : Bound) (g : ParameterGovernor) (lists : List (List Parameter)) → is_none b.argument ≡ true → dummy_target b g lists ≡ None
no_argument b governor.None [] e = go b.argument e
  where
    go : (a : Option Argument) → is_none a ≡ true → once None a (λ x. type_argument x.scope (out-Parameter x.tree)) ≡ None
    go None f = refl
    go (Some x) f = absurd cc
no_argument b governor.None (list ∷ lists) e = refl
no_argument b (governor.TypeOrClass g) lists e = refl
no_argument b (governor.Class name) lists e = refl

open_name : (defs : Definitions) (scope : Scope) (name : List ℕ) (lists : List (List Parameter)) (o : Option Bound) → is_open o ≡ true → name_target defs scope name lists o ≡ None
open_name defs scope name lists None e = absurd cc
open_name defs scope name lists (Some b) e = no_argument b b.governor lists e

open_object : (defs : Definitions) (name field : List ℕ) (o : Option Bound) (other : Option InformationObjectField) → is_open o ≡ true →
    once None (if is_some o then None else other) (λ f. type_of_field (out-InformationObjectField f)) ≡ None
open_object defs name field None other e = absurd cc
open_object defs name field (Some b) other e = refl

open_reference : (defs : Definitions) (scope : Scope) (x : ReferenceLayer) (parent : Option (List ℕ)) →
    once (is_free_dummy scope x.identifier) parent (is_free_dummy scope) ≡ true → reference_of defs scope x parent ≡ None
open_reference defs scope x None e = open_name defs scope x.identifier (lists_in x.constraints) (bound_to scope x.identifier) e
open_reference defs scope x (Some parent) e = open_object defs parent x.identifier (bound_to scope parent) _ e

open_class : (o : Option Bound) (other : Option FieldType) → is_open o ≡ true → field_lead (if is_some o then None else other) ≡ IsLost
open_class None other e = absurd cc
open_class (Some b) other e = refl

kind_of_name : (scope : Scope) (name : List ℕ) → kind_of (place scope (plain_name name)) ≡ ReferenceKind (record { parent = None; identifier = name; constraints = [] })
kind_of_name scope name = ap kind_at (type_of_kind.outs-ElsewhereDeclaredType (record { parent = None; identifier = name; constraints = [] }))

open_choice : (defs : Definitions) (n : ℕ) (scope : Scope) (name : List ℕ) → is_free_dummy scope name ≡ true → head_named (meaning defs n) scope name ≡ None
unfolding meaning nothing_known
open_choice defs zero scope name e = refl
open_choice defs (suc n) scope name e =
    head_at_more defs (suc n) n (place scope (plain_name name)) refl
    ∙ ap (λ k. head_from (meaning defs n) (place scope (plain_name name)) (lead_at defs (meaning defs n) scope k)) (kind_of_name scope name)
    ∙ ap (λ t. head_from (meaning defs n) (place scope (plain_name name)) (leading t)) (open_name defs scope name [] (bound_to scope name) e)

no_choice : (M : Meaning) (scope : Scope) (x : ChoiceSelectionType) (h : Option Place) → head_named M scope x.choice_name ≡ h → h ≡ None → selection_target M scope x ≡ None
no_choice M scope x None e f =
    ap (λ o. once None o (λ h. once None (option_named (options_of h) x.selected_option) (λ o. Some (record { place = record { scope = h.scope; ty = o.ty }; constraints = o.constraints })))) e
no_choice M scope x (Some h) e f = absurd cc

-- a place that names such a dummy is lost
lost_kind : (defs : Definitions) (n : ℕ) (scope : Scope) (k : Kind) → names_free_at scope k ≡ true → lead_at defs (meaning defs n) scope k ≡ IsLost
lost_kind defs n scope (ReferenceKind x) e = ap leading (open_reference defs scope x x.parent e)
lost_kind defs n scope (SelectionKind x) e =
    ap leading (no_choice (meaning defs n) scope x (head_named (meaning defs n) scope x.choice_name) refl (open_choice defs n scope x.choice_name e))
lost_kind defs n scope (FieldKind x) e = open_class (bound_to scope x.class) _ e
lost_kind defs n scope NullKind e = absurd cc
lost_kind defs n scope k e = absurd cc

not_lost : (l : Lead) (b : Bool) → (b ≡ true → l ≡ IsLost) → (l ≡ IsLost → ⊥) → b ≡ false
not_lost l false lost f = refl
not_lost l true lost f = absurd (f (lost refl))

-- ---- whole steps

abbrev pub by_parts : Definitions → Meaning → ℕ → Bool → Option Place → Option Place → Bool
by_parts defs M n free choice next = free || (once false choice (hangs defs M n) || once false next (hangs defs M n))

or_false : (b : Bool) → (b || false) ≡ b
or_false true = refl
or_false false = refl

by_lost : (defs : Definitions) (M : Meaning) (n : ℕ) (free : Bool) (choice : Option Place) →
    by_parts defs M n free choice None ≡ told_by (hangs defs M n) (if free then Ends true else choice_next choice)
by_lost defs M n true choice = refl
by_lost defs M n false None = refl
by_lost defs M n false (Some p) = or_false (hangs defs M n p)

at_lost_step : (defs : Definitions) (M : Meaning) (n : ℕ) (p : Place) → lead defs M p ≡ IsLost → hangs defs M (suc n) p ≡ told_by (hangs defs M n) (lost_next p)
at_lost_step defs M n p e =
    ap (λ l. by_parts defs M n (names_free_at p.scope (kind_of p)) (choice_at p.scope (kind_of p)) (next_place l)) e
    ∙ by_lost defs M n (names_free_at p.scope (kind_of p)) (choice_at p.scope (kind_of p))

-- a head is no selection
head_kind : (defs : Definitions) (M : Meaning) (scope : Scope) (k : Kind) → lead_at defs M scope k ≡ IsHead → choice_at scope k ≡ None
head_kind defs M scope (SelectionKind x) e = go (selection_target M scope x) e
  where
    go : (o : Option Target) → leading o ≡ IsHead → Some (place scope (plain_name x.choice_name)) ≡ None
    go None f = absurd cc
    go (Some t) f = absurd cc
head_kind defs M scope NullKind e = refl
head_kind defs M scope k e = refl

head_is_no_loss : (l : Lead) → l ≡ IsHead → l ≡ IsLost → ⊥
head_is_no_loss l e f = go (sym e ∙ f)
  where
    go : IsHead ≡ IsLost → ⊥
    go g = absurd cc

target_is_no_loss : (l : Lead) (x : Target) → l ≡ LeadsTo x → l ≡ IsLost → ⊥
target_is_no_loss l x e f = go (sym e ∙ f)
  where
    go : LeadsTo x ≡ IsLost → ⊥
    go g = absurd cc

at_head_step : (defs : Definitions) (m n : ℕ) (p : Place) → lead defs (meaning defs m) p ≡ IsHead → hangs defs (meaning defs m) (suc n) p ≡ false
at_head_step defs m n p e =
    let free : names_free_at p.scope (kind_of p) ≡ false = not_lost (lead defs (meaning defs m) p) _ (lost_kind defs m p.scope (kind_of p)) (head_is_no_loss _ e) in
    ap (λ l. by_parts defs (meaning defs m) n (names_free_at p.scope (kind_of p)) (choice_at p.scope (kind_of p)) (next_place l)) e
    ∙ ap (λ c. by_parts defs (meaning defs m) n (names_free_at p.scope (kind_of p)) c None) (head_kind defs (meaning defs m) p.scope (kind_of p) e)
    ∙ ap (λ b. by_parts defs (meaning defs m) n b None None) free

-- where the CHOICE of a selection that leads on is told not to hang
choice_rests : (defs : Definitions) (M : Meaning) (scope : Scope) (k : Kind) (x : Target) (f : Place → Bool) → lead_at defs M scope k ≡ LeadsTo x →
    ((p h : Place) → M.head p ≡ Some h → f p ≡ false) → once false (choice_at scope k) f ≡ false
choice_rests defs M scope (SelectionKind s) x f e rest = go (head_named M scope s.choice_name) refl
  where
    go : (o : Option Place) → head_named M scope s.choice_name ≡ o → f (place scope (plain_name s.choice_name)) ≡ false
    go (Some h) g = rest (place scope (plain_name s.choice_name)) h g
    go None g = absurd (target_is_no_loss _ x e (ap leading (no_choice M scope s None g refl)))
choice_rests defs M scope NullKind x f e rest = refl
choice_rests defs M scope k x f e rest = refl

by_target : (defs : Definitions) (M : Meaning) (n : ℕ) (free : Bool) (choice : Option Place) (p : Place) → free ≡ false → once false choice (hangs defs M n) ≡ false →
    by_parts defs M n free choice (Some p) ≡ hangs defs M n p
by_target defs M n free choice p e f =
    ap (λ b. b || (once false choice (hangs defs M n) || hangs defs M n p)) e ∙ ap (λ b. b || hangs defs M n p) f

target_step : (defs : Definitions) (m n : ℕ) (p : Place) (x : Target) → lead defs (meaning defs m) p ≡ LeadsTo x →
    once false (choice_at p.scope (kind_of p)) (hangs defs (meaning defs m) n) ≡ false → hangs defs (meaning defs m) (suc n) p ≡ hangs defs (meaning defs m) n x.place
target_step defs m n p x e f =
    let free : names_free_at p.scope (kind_of p) ≡ false = not_lost (lead defs (meaning defs m) p) _ (lost_kind defs m p.scope (kind_of p)) (target_is_no_loss _ x e) in
    ap (λ l. by_parts defs (meaning defs m) n (names_free_at p.scope (kind_of p)) (choice_at p.scope (kind_of p)) (next_place l)) e
    ∙ by_target defs (meaning defs m) n (names_free_at p.scope (kind_of p)) (choice_at p.scope (kind_of p)) x.place free f

-- ---- what has a head does not hang

nothing_found : (p h : Place) → nothing_known.head p ≡ Some h → ⊥
unfolding nothing_known
nothing_found p h e = cc

found_without_steps : (defs : Definitions) (p h : Place) → (meaning defs zero).head p ≡ Some h → ⊥
unfolding meaning
found_without_steps defs p h e = nothing_found p h e

more_at : (defs : Definitions) (n k d : ℕ) → n ≡ k + d → More (meaning defs k) (meaning defs n)
more_at defs n k d e = subst (λ i. More (meaning defs k) (meaning defs i)) (sym e) (more_known defs k d)

rests : (defs : Definitions) (n k d : ℕ) (p h : Place) → n ≡ k + d → (meaning defs k).head p ≡ Some h → (j : ℕ) → hangs defs (meaning defs n) j p ≡ false
rests defs n zero d p h e f j = absurd (found_without_steps defs p h f)
rests defs n (suc k) d p h e f zero = refl
rests defs n (suc k) d p h e f (suc j) =
    let less : n ≡ k + suc d = omega arith in
    by_lead (lead defs (meaning defs k) p) refl (lead_more (meaning defs k) (meaning defs n) (more_at defs n k (suc d) less) defs p)
    (sym (head_at_more defs (suc k) k p refl) ∙ f) (λ q i g. rests defs n k (suc d) q i less g j)
  where
    by_lead : (l : Lead) → lead defs (meaning defs k) p ≡ l → Leads (lead defs (meaning defs k) p) (lead defs (meaning defs n) p) → head_from (meaning defs k) p l ≡ Some h →
        ((q i : Place) → (meaning defs k).head q ≡ Some i → hangs defs (meaning defs n) j q ≡ false) → hangs defs (meaning defs n) (suc j) p ≡ false
    by_lead IsHead is more g rest = at_head_step defs n j p (subst (λ l. Leads l (lead defs (meaning defs n) p)) is more)
    by_lead (LeadsTo x) is more g rest =
        target_step defs n j p x (subst (λ l. Leads l (lead defs (meaning defs n) p)) is more)
        (choice_rests defs (meaning defs k) p.scope (kind_of p) x (hangs defs (meaning defs n) j) is rest)
        ∙ rest x.place h g
    by_lead IsLost is more g rest = absurd cc

-- ---- what the code asks

pub at_head : (defs : Definitions) (m k : ℕ) (p : Place) → lead defs (meaning defs m) p ≡ IsHead →
    hung defs (meaning defs m) (suc k) p ≡ false
unfolding hung
at_head defs m k p e = at_head_step defs m k p e

pub at_target : (defs : Definitions) (m k : ℕ) (p : Place) (x : Target) → lead defs (meaning defs m) p ≡ LeadsTo x →
    hung defs (meaning defs m) (suc k) p ≡ hung defs (meaning defs m) k x.place
unfolding hung
at_target defs m k p x e =
    target_step defs m k p x e
    (choice_rests defs (meaning defs m) p.scope (kind_of p) x (hangs defs (meaning defs m) k) e (λ q h g. rests defs m m 0 q h (omega arith) g k))

pub at_lost : (defs : Definitions) (m k : ℕ) (p : Place) (next : Next) → lead defs (meaning defs m) p ≡ IsLost → next ≡ lost_next p →
    hung defs (meaning defs m) (suc k) p ≡ told_by (hung defs (meaning defs m) k) next
unfolding hung
at_lost defs m k p next e f = at_lost_step defs (meaning defs m) k p e ∙ ap (told_by (hangs defs (meaning defs m) k)) (sym f)

-- ---- the next of a lost place

abbrev pub lost_by : Bool → Option Place → Next
lost_by free choice = if free then Ends true else choice_next choice

pub lost_free : (p : Place) → names_free_at p.scope (kind_of p) ≡ true → lost_next p ≡ Ends true
lost_free p e = ap (λ b. lost_by b (choice_at p.scope (kind_of p))) e

choice_is : (scope : Scope) (k : Kind) → choice_at scope k ≡ once None (choice_name k) (λ name. Some (place scope (plain_name name)))
choice_is scope (SelectionKind x) = refl
choice_is scope NullKind = refl
choice_is scope k = refl

pub lost_ends : (p : Place) → names_free_at p.scope (kind_of p) ≡ false → choice_name (kind_of p) ≡ None → lost_next p ≡ Ends false
lost_ends p e f =
    ap (λ b. lost_by b (choice_at p.scope (kind_of p))) e ∙ ap choice_next (choice_is p.scope (kind_of p))
    ∙ ap (λ o. choice_next (once None o (λ name. Some (place p.scope (plain_name name))))) f

pub lost_goes : (p q : Place) (name : List ℕ) → names_free_at p.scope (kind_of p) ≡ false → choice_name (kind_of p) ≡ Some name → q ≡ place p.scope (plain_name name) →
    lost_next p ≡ GoesTo q
lost_goes p q name e f g =
    ap (λ b. lost_by b (choice_at p.scope (kind_of p))) e ∙ ap choice_next (choice_is p.scope (kind_of p))
    ∙ ap (λ o. choice_next (once None o (λ name. Some (place p.scope (plain_name name))))) f ∙ ap GoesTo (sym g)

-- ---- the loop

above : (n m : ℕ) → 0 < n → n + m ≡ suc (n - 1 + m)
above n m lt = omega arith

pub ends : (defs : Definitions) (M : Meaning) (n m : ℕ) (p : Place) (next : Next) (b : Bool) → 0 < n →
    hung defs M (suc (n - 1 + m)) p ≡ told_by (hung defs M (n - 1 + m)) next → next ≡ Ends b → hangs defs M (n + m) p ≡ b
unfolding hung
ends defs M n m p next b lt e f = ap (λ k. hangs defs M k p) (above n m lt) ∙ e ∙ ap (told_by (hangs defs M (n - 1 + m))) f

pub goes : (defs : Definitions) (M : Meaning) (n m : ℕ) (p q : Place) (next : Next) → 0 < n →
    hung defs M (suc (n - 1 + m)) p ≡ told_by (hung defs M (n - 1 + m)) next → next ≡ GoesTo q → hangs defs M (n + m) p ≡ hangs defs M (n - 1 + m) q
unfolding hung
goes defs M n m p q next lt e f = ap (λ k. hangs defs M k p) (above n m lt) ∙ e ∙ ap (told_by (hangs defs M (n - 1 + m))) f
