-- What a type accepts fits its kind at every depth.
use Rattle.std.proofs.Common.{◌≡◌, ℕ, zero, suc, Bool, List, [], ◌∷◌, Option, Some, None, refl, sym, subst, ◌∙◌}
use Rattle.asn_tree.specs.declared.constraints.Constraint.{Constraint}
use Rattle.asn_tree.specs.declared.types.ASN1Type.{ASN1Type}
use Rattle.asn_tree.specs.declared.types.ChoiceOption.{ChoiceOption}
use Rattle.asn_meaning.specs.Accepts.{place, judge, shape}
use Rattle.asn_meaning.specs.Answers.{Answer, Yes, No, Unknown, both, each, once, Refines}
use Rattle.asn_meaning.specs.Constraints.{all_hold}
use Rattle.asn_meaning.specs.Definitions.{Definitions}
use Rattle.asn_meaning.specs.Judge.{characters_at, member_accepts, option_accepts, parts_accepted, head_accepts, stands_for, accepts_at, nothing_known, step, meaning}
use Rattle.asn_meaning.specs.Kinds.{Kind, ChoiceKind, ListKind, StructKind, kind_of}
use Rattle.asn_meaning.specs.Layers.{OptionLayer}
use Rattle.asn_meaning.specs.Meaning.{Meaning, Member}
use Rattle.asn_meaning.specs.Members.{member_place}
use Rattle.asn_meaning.specs.Names.{Lead, IsHead, LeadsTo, IsLost, lead, head_from, head_at, option_named}
use Rattle.asn_meaning.specs.Ranges.{all_constraints, numbers_before}
use Rattle.asn_meaning.specs.Scopes.{Scope, Place, Target}
use Rattle.asn_meaning.specs.Shapes.{Asking, member_judged, fields_judged, struct_judged, trees_judged, list_judged, choice_judged, parts_fit, kind_or_parts, is_of_kind, head_fits, fits_at, option_place}
use Rattle.asn_meaning.specs.ValueTrees.{ValueTree, Struct, Elements, Alternative, field_named, ValueTrees, no_tree, tree}
use Rattle.asn_meaning.proofs.More.{Leads, lead_more}
use Rattle.asn_meaning.proofs.MoreMembers.{head_fits_more}
use Rattle.asn_meaning.proofs.Steps.{one_more}

-- a yes gives a yes
abbrev pub Grants : Answer → Answer → Type 0
Grants a b = a ≡ Yes → b ≡ Yes

pub both_grants : (a c b d : Answer) → Grants a c → Grants b d → Grants (both a b) (both c d)
both_grants Yes c b d p q e = subst (λ z. both z d ≡ Yes) (sym (p refl)) (q e)
both_grants No c b d p q e = absurd cc
both_grants Unknown c Yes d p q e = absurd cc
both_grants Unknown c No d p q e = absurd cc
both_grants Unknown c Unknown d p q e = absurd cc

pub first_yes : (a b : Answer) → both a b ≡ Yes → a ≡ Yes
first_yes Yes b e = refl
first_yes No b e = e
first_yes Unknown Yes e = e
first_yes Unknown No e = absurd cc
first_yes Unknown Unknown e = e

pub second_yes : (a b : Answer) → both a b ≡ Yes → b ≡ Yes
second_yes Yes b e = e
second_yes No b e = absurd cc
second_yes Unknown Yes e = refl
second_yes Unknown No e = absurd cc
second_yes Unknown Unknown e = e

pub each_grants : {A : Type 0} (f g : A → Answer) → ((x : A) → Grants (f x) (g x)) → (xs : List A) → Grants (each f xs) (each g xs)
each_grants f g h [] e = e
each_grants f g h (x ∷ xs) e = both_grants (f x) (g x) (each f xs) (each g xs) (h x) (each_grants f g h xs) e

pub once_grants : {A : Type 0} (u : Answer) (o : Option A) (f g : A → Answer) → ((x : A) → Grants (f x) (g x)) → Grants (once u o f) (once u o g)
once_grants u None f g h e = e
once_grants u (Some x) f g h e = h x e

-- ---- parts

module _ (M : Meaning) where
  member_grants : (ask next : Asking) → ((s : Member) (t : ValueTree) → Grants (ask s t) (next s t)) → (s : Member) (t : Option ValueTree) → Grants (member_judged ask s t) (member_judged next s t)
  member_grants ask next h s None e = e
  member_grants ask next h s (Some t) e = h s t e

  struct_grants : (ask next : Asking) → ((s : Member) (t : ValueTree) → Grants (ask s t) (next s t)) → (o : Option (List Member)) (t : ValueTree) → Grants (struct_judged ask o t) (struct_judged next o t)
  struct_grants ask next h o (Struct fs) e =
      once_grants Unknown o (fields_judged ask fs) (fields_judged next fs)
      (λ ms. both_grants _ _ _ _ (λ d. d) (each_grants _ _ (λ s. member_grants ask next h s (field_named fs s.written.name)) ms)) e
  struct_grants ask next h o _ e = absurd cc

  trees_grants : (ask next : ValueTree → Answer) → ((t : ValueTree) → Grants (ask t) (next t)) → (ts : ValueTrees) → Grants (trees_judged ask ts) (trees_judged next ts)
  trees_grants ask next h no_tree e = e
  trees_grants ask next h (tree t ts) e = both_grants (ask t) (next t) (trees_judged ask ts) (trees_judged next ts) (h t) (trees_grants ask next h ts) e

  list_grants : (ask next : ValueTree → Answer) → ((t : ValueTree) → Grants (ask t) (next t)) → (t : ValueTree) → Grants (list_judged ask t) (list_judged next t)
  list_grants ask next h (Elements ts) e = trees_grants ask next h ts e
  list_grants ask next h _ e = absurd cc

  choice_grants : (ask next : OptionLayer → ValueTree → Answer) → ((o : OptionLayer) (t : ValueTree) → Grants (ask o t) (next o t)) → (options : List ChoiceOption) (t : ValueTree) → Grants (choice_judged ask options t) (choice_judged next options t)
  choice_grants ask next h options (Alternative name t) e = once_grants No (option_named options name) (λ o. ask o t) (λ o. next o t) (λ o. h o t) e
  choice_grants ask next h options _ e = absurd cc

  module _ (meant : (p : Place) (cs : List Constraint) (t : ValueTree) → Grants (M.accepts p cs t) (M.fits p t)) where
    parts_grant : (scope : Scope) (t : ValueTree) (k : Kind) → Grants (parts_accepted M scope t k) (parts_fit M scope t k)
    parts_grant scope t (StructKind x) e = struct_grants (member_accepts M) (λ s u. M.fits (member_place s) u) (λ s u. meant (member_place s) s.written.constraints u) (M.members scope x) t e
    parts_grant scope t (ListKind ty) e = list_grants (M.accepts (record { scope = scope; ty = ty }) []) (M.fits (record { scope = scope; ty = ty })) (meant (record { scope = scope; ty = ty }) []) t e
    parts_grant scope t (ChoiceKind options) e = choice_grants (option_accepts M scope) (λ o u. M.fits (option_place scope o) u) (λ o u. meant (option_place scope o) o.constraints u) options t e
    parts_grant scope t _ e = absurd cc

    kind_grants : (k : Option (ValueTree → Bool)) (a b : Answer) (t : ValueTree) → Grants a b → Grants (kind_or_parts k a t) (kind_or_parts k b t)
    kind_grants (Some test) a b t h e = e
    kind_grants None a b t h e = h e

    head_grants : (t : ValueTree) (head : Place) → Grants (head_accepts M t head) (head_fits M t head)
    head_grants t head e = kind_grants (is_of_kind (kind_of head)) _ _ t (parts_grant head.scope t (kind_of head)) (second_yes (characters_at t (kind_of head)) _ e)

-- ---- heads

-- something is known where the answer is yes
pub known_of : {A : Type 0} (o : Option A) (f : A → Answer) → once Unknown o f ≡ Yes → (x : A) × (o ≡ Some x) × (f x ≡ Yes)
known_of None f e = absurd cc
known_of (Some x) f e = (x, refl, e)

module _ (defs : Definitions) where
  -- where a lead is that of one step before
  leads_back : (n : ℕ) (p : Place) (l : Lead) → lead defs (meaning defs n) p ≡ l → Leads l (lead defs (meaning defs (suc n)) p)
  leads_back n p l e = subst (λ z. Leads z (lead defs (meaning defs (suc n)) p)) e (lead_more (meaning defs n) (meaning defs (suc n)) (one_more defs n) defs p)

  pub head_unfolds : (n : ℕ) (p : Place) → (meaning defs (suc n)).head p ≡ head_at defs (meaning defs n) p
  unfolding meaning step
  head_unfolds n p = refl

  pub fits_unfolds : (n : ℕ) (p : Place) (t : ValueTree) → (meaning defs (suc n)).fits p t ≡ fits_at (meaning defs n) p t
  unfolding meaning step
  fits_unfolds n p t = refl

  pub accepts_unfolds : (n : ℕ) (p : Place) (cs : List Constraint) (t : ValueTree) → (meaning defs (suc n)).accepts p cs t ≡ accepts_at defs (meaning defs n) p cs t
  unfolding meaning step
  accepts_unfolds n p cs t = refl

  nothing_accepts : (p : Place) (cs : List Constraint) (t : ValueTree) → (meaning defs zero).accepts p cs t ≡ Yes → ⊥
  unfolding meaning nothing_known
  nothing_accepts p cs t e = cc

  pub nothing_head : (p h : Place) → (meaning defs zero).head p ≡ Some h → ⊥
  unfolding meaning nothing_known
  nothing_head p h e = cc

  -- the head of a head is itself
  own_head_from : (n : ℕ) (p h : Place) (l : Lead) → lead defs (meaning defs n) p ≡ l → lead defs (meaning defs (suc n)) p ≡ IsHead → head_from (meaning defs n) p l ≡ Some h → p ≡ h
  own_head_from n p h IsHead is own e = cc
  own_head_from n p h (LeadsTo x) is own e = let d : lead defs (meaning defs (suc n)) p ≡ LeadsTo x = leads_back n p (LeadsTo x) is in absurd cc
  own_head_from n p h IsLost is own e = absurd cc

  pub own_head : (n : ℕ) (p h : Place) → lead defs (meaning defs n) p ≡ IsHead → (meaning defs n).head p ≡ Some h → p ≡ h
  own_head zero p h is e = absurd (nothing_head p h e)
  own_head (suc n) p h is e = own_head_from n p h (lead defs (meaning defs n) p) refl is (sym (head_unfolds n p) ∙ e)

  -- the head that a lead comes to
  led_from : (n : ℕ) (p h : Place) (x : Target) (l : Lead) → lead defs (meaning defs n) p ≡ l → lead defs (meaning defs (suc n)) p ≡ LeadsTo x → head_from (meaning defs n) p l ≡ Some h → (meaning defs n).head x.place ≡ Some h
  led_from n p h x IsHead is on e = let d : lead defs (meaning defs (suc n)) p ≡ IsHead = leads_back n p IsHead is in absurd cc
  led_from n p h x (LeadsTo y) is on e =
      let d : lead defs (meaning defs (suc n)) p ≡ LeadsTo y = leads_back n p (LeadsTo y) is in
      let same : y ≡ x = cc in
      subst (λ z. (meaning defs n).head z.place ≡ Some h) same e
  led_from n p h x IsLost is on e = absurd cc

  led_head : (n : ℕ) (p h : Place) (x : Target) → lead defs (meaning defs (suc n)) p ≡ LeadsTo x → (meaning defs (suc n)).head p ≡ Some h → (meaning defs n).head x.place ≡ Some h
  led_head n p h x on e = led_from n p h x (lead defs (meaning defs n) p) refl on (sym (head_unfolds n p) ∙ e)

  nothing_fits : (p : Place) (t : ValueTree) → (meaning defs zero).fits p t ≡ Yes → ⊥
  unfolding meaning nothing_known
  nothing_fits p t e = cc

  -- what fits a place fits its head
  pub fits_head : (n : ℕ) (q h : Place) (t : ValueTree) → (meaning defs (suc n)).fits q t ≡ Yes → (meaning defs n).head q ≡ Some h → head_fits (meaning defs n) t h ≡ Yes
  fits_head n q h t e is =
      let k = known_of ((meaning defs n).head q) (head_fits (meaning defs n) t) (sym (fits_unfolds n q t) ∙ e) in
      let same : k.0 ≡ h = some_one k.0 h (sym k.1 ∙ is) in
      subst (λ z. head_fits (meaning defs n) t z ≡ Yes) same k.2
    where
      some_one : (a b : Place) → Some a ≡ Some b → a ≡ b
      some_one a b f = cc

  pub later_fits : (n : ℕ) (h : Place) (t : ValueTree) → head_fits (meaning defs n) t h ≡ Yes → head_fits (meaning defs (suc n)) t h ≡ Yes
  later_fits n h t e = subst (λ z. Refines z (head_fits (meaning defs (suc n)) t h)) e (head_fits_more (meaning defs n) (meaning defs (suc n)) (one_more defs n) t h)

  led_fits : (n : ℕ) (p h : Place) (x : Target) (t : ValueTree) → lead defs (meaning defs n) p ≡ LeadsTo x → (meaning defs n).head p ≡ Some h → (meaning defs n).fits x.place t ≡ Yes → head_fits (meaning defs n) t h ≡ Yes
  led_fits zero p h x t on is e = absurd (nothing_head p h is)
  led_fits (suc n) p h x t on is e = later_fits n h t (fits_head n x.place h t e (led_head n p h x on is))

  stands_fits : (n : ℕ) (p h : Place) (t : ValueTree) (l : Lead) → ((q : Place) (cs : List Constraint) (u : ValueTree) → Grants ((meaning defs n).accepts q cs u) ((meaning defs n).fits q u)) → lead defs (meaning defs n) p ≡ l → (meaning defs n).head p ≡ Some h → stands_for (meaning defs n) t p l ≡ Yes → head_fits (meaning defs n) t h ≡ Yes
  stands_fits n p h t IsHead meant on is e = subst (λ z. head_fits (meaning defs n) t z ≡ Yes) (own_head n p h on is) (head_grants (meaning defs n) meant t p e)
  stands_fits n p h t (LeadsTo x) meant on is e = led_fits n p h x t on is (meant x.place x.constraints t e)
  stands_fits n p h t IsLost meant on is e = absurd cc

  pub accepted_fits_at : (n : ℕ) (p : Place) (cs : List Constraint) (t : ValueTree) → Grants ((meaning defs n).accepts p cs t) ((meaning defs n).fits p t)
  accepted_fits_at zero p cs t e = absurd (nothing_accepts p cs t e)
  accepted_fits_at (suc n) p cs t e =
      let a : accepts_at defs (meaning defs n) p cs t ≡ Yes = sym (accepts_unfolds n p cs t) ∙ e in
      let k = known_of ((meaning defs n).head p) (λ head. all_hold (meaning defs n) p.scope head (numbers_before defs (meaning defs n) p) (all_constraints p cs) t) (second_yes (stands_for (meaning defs n) t p (lead defs (meaning defs n) p)) _ a) in
      let f = stands_fits n p k.0 t (lead defs (meaning defs n) p) (accepted_fits_at n) refl k.1 (first_yes _ _ a) in
      fits_unfolds n p t ∙ subst (λ z. once Unknown z (head_fits (meaning defs n) t) ≡ Yes) (sym k.1) f

pub accepted_fits : (defs : Definitions) (n : ℕ) (scope : Scope) (ty : ASN1Type) (t : ValueTree) → judge defs n scope ty t ≡ Yes → shape defs n (place scope ty) t ≡ Yes
accepted_fits defs n scope ty t e = accepted_fits_at defs n (place scope ty) [] t e
