-- What comes back to itself hangs on no dummy, and neither does what has a head.
use Rattle.std.proofs.Common.{◌≡◌, ℕ, zero, suc, inl, inr, Bool, true, false, ◌||◌, List, [], ◌∷◌, Option, Some, None, refl, sym, subst, ap, ◌∙◌, is_none, if◌then◌else◌}
use Rattle.std.specs.Prelude.{is_some}
use Rattle.asn_tree.specs.declared.constraints.Parameter.{Parameter, out-Parameter}
use Rattle.asn_tree.specs.declared.definitions.ParameterGovernor.{ParameterGovernor}
use Rattle.asn_tree.specs.declared.definitions.ParameterGovernor.TheVariants as governor
use Rattle.asn_tree.specs.declared.objects.InformationObjectField.{out-InformationObjectField}
use Rattle.asn_tree.specs.declared.types.ASN1Type.TheVariants as type_of_kind
use Rattle.asn_meaning.specs.Accepts.{place}
use Rattle.asn_meaning.specs.Answers.{once}
use Rattle.asn_meaning.specs.Definitions.{Definitions}
use Rattle.asn_meaning.specs.Judge.{meaning}
use Rattle.asn_meaning.specs.Kinds.{Kind, NullKind, FieldKind, ReferenceKind, SelectionKind, kind_at, kind_of, kind_of_type}
use Rattle.asn_meaning.specs.Layers.{ReferenceLayer}
use Rattle.asn_meaning.specs.Meaning.{Meaning}
use Rattle.asn_meaning.specs.Names.{Lead, IsHead, LeadsTo, IsLost, dummy_target, field_lead, head_from, lead, lead_at, leading, lists_in, name_target, plain_name, reference_of, type_argument, type_of_field}
use Rattle.asn_meaning.specs.Scopes.{Scope, Argument, Bound, bound_to, Place, Target}
use Rattle.asn_needs.specs.Dummies.{choice_at, hangs, is_free_dummy, names_free_at, next_place}
use Rattle.asn_meaning_endless.specs.Endless.{ComesBack, Passes, here, for_choice, onward}
use Rattle.asn_meaning_endless.specs.Keys.{Key, choice_in, key, key_at, reference_key}
use Rattle.asn_meaning_endless.specs.Laws.{ComesBackUnhung}
use Rattle.asn_meaning_endless.proofs.Circling.{choice_place, lost_choice, on_way, up_to}
use Rattle.asn_meaning_endless.proofs.Entering.{Enters, enters, key_kept}
use Rattle.asn_meaning_endless.proofs.Filling.{ArgumentFilled, BoundFilled, Fills, PlaceFilled, bound_filled}
use Rattle.asn_meaning_endless.proofs.Leading.{LeadFilled, agree, lead_filled, no_steps, one_step}

-- ---- free dummies

abbrev free_in : Option Bound → Bool
free_in o = once false o (λ b. is_none b.argument)

argument_kept : (x y : Option Argument) → ArgumentFilled x y → is_none x ≡ false → is_none y ≡ false
argument_kept None y r e = absurd cc
argument_kept (Some a) y (s, f, e) i = ap is_none e

bound_kept : (o u : Option Bound) → BoundFilled o u → free_in o ≡ false → free_in u ≡ false
bound_kept None u e f = ap free_in e
bound_kept (Some b) u (c, g, a, e) f = ap free_in e ∙ argument_kept b.argument c.argument a f

free_kept : (s t : Scope) → Fills s t → (name : List ℕ) → is_free_dummy s name ≡ false → is_free_dummy t name ≡ false
free_kept s t f name e = bound_kept (bound_to s name) (bound_to t name) (bound_filled s t f name) e

reference_kept : (s t : Scope) → Fills s t → (name : List ℕ) (o : Option (List ℕ)) → once (is_free_dummy s name) o (is_free_dummy s) ≡ false → once (is_free_dummy t name) o (is_free_dummy t) ≡ false
reference_kept s t f name None e = free_kept s t f name e
reference_kept s t f name (Some o) e = free_kept s t f o e

names_kept : (s t : Scope) → Fills s t → (k : Kind) → names_free_at s k ≡ false → names_free_at t k ≡ false
names_kept s t f NullKind e = refl
names_kept s t f (ReferenceKind x) e = reference_kept s t f x.identifier x.parent e
names_kept s t f (SelectionKind x) e = free_kept s t f x.choice_name e
names_kept s t f (FieldKind x) e = free_kept s t f x.class e
names_kept s t f _ e = refl

unfree_kept : (p q : Place) → PlaceFilled p q → names_free_at p.scope (kind_of p) ≡ false → names_free_at q.scope (kind_of q) ≡ false
unfree_kept p q (s, f, e) i = subst (λ z. names_free_at z.scope (kind_of z) ≡ false) (sym e) (names_kept p.scope s f (kind_of p) i)

three : (a b c : Bool) → a ≡ false → b ≡ false → c ≡ false → (a || (b || c)) ≡ false
three false false false e f g = refl
three true b c e f g = absurd cc
three false true c e f g = absurd cc
three false false true e f g = absurd cc

pub same_choice : (s : Scope) (k : Kind) → choice_at s k ≡ choice_in s k
same_choice s NullKind = refl
same_choice s (SelectionKind x) = refl
same_choice s _ = refl

plain_kind : (name : List ℕ) → kind_of_type (plain_name name) ≡ ReferenceKind (record { parent = None; identifier = name; constraints = [] })
plain_kind name = ap kind_at (type_of_kind.outs-ElsewhereDeclaredType (record { parent = None; identifier = name; constraints = [] }))

-- ---- what is free is lost

none_lost : (a : Option Argument) → is_none a ≡ true → leading (once None a (λ x. type_argument x.scope (out-Parameter x.tree))) ≡ IsLost
none_lost None e = refl
none_lost (Some a) e = absurd cc

dummy_lost : (b : Bound) (g : ParameterGovernor) (lists : List (List Parameter)) → is_none b.argument ≡ true → leading (dummy_target b g lists) ≡ IsLost
dummy_lost b governor.None [] e = none_lost b.argument e
dummy_lost b governor.None (list ∷ lists) e = refl
dummy_lost b (governor.TypeOrClass g) lists e = refl
dummy_lost b (governor.Class name) lists e = refl

name_lost : (defs : Definitions) (s : Scope) (name : List ℕ) (lists : List (List Parameter)) (o : Option Bound) → free_in o ≡ true → leading (name_target defs s name lists o) ≡ IsLost
name_lost defs s name lists None e = absurd cc
name_lost defs s name lists (Some b) e = dummy_lost b b.governor lists e

none_told : {A : Type 0} (o : Option Bound) (x : Option A) → free_in o ≡ true → (if is_some o then None else x) ≡ None
none_told None x e = absurd cc
none_told (Some b) x e = refl

module _ (defs : Definitions) where
  -- a dummy without an argument has no head
  Unfree : Meaning → Type 0
  Unfree M = (s : Scope) (name : List ℕ) → is_free_dummy s name ≡ true → M.head (place s (plain_name name)) ≡ None

  reference_lost : (s : Scope) (x : ReferenceLayer) (o : Option (List ℕ)) → once (is_free_dummy s x.identifier) o (is_free_dummy s) ≡ true → leading (reference_of defs s x o) ≡ IsLost
  reference_lost s x None e = name_lost defs s x.identifier (lists_in x.constraints) (bound_to s x.identifier) e
  reference_lost s x (Some o) e = ap (λ z. leading (once None z (λ f. type_of_field (out-InformationObjectField f)))) (none_told (bound_to s o) _ e)

  free_is_lost : (M : Meaning) → Unfree M → (s : Scope) (k : Kind) → names_free_at s k ≡ true → lead_at defs M s k ≡ IsLost
  unfolding Unfree
  free_is_lost M u s NullKind e = absurd cc
  free_is_lost M u s (ReferenceKind x) e = reference_lost s x x.parent e
  free_is_lost M u s (SelectionKind x) e = lost_choice defs M s (SelectionKind x) (place s (plain_name x.choice_name)) refl (u s x.choice_name e)
  free_is_lost M u s (FieldKind x) e = ap field_lead (none_told (bound_to s x.class) _ e)
  free_is_lost M u s _ e = absurd cc

  plain_lost : (M : Meaning) (s : Scope) (name : List ℕ) → is_free_dummy s name ≡ true → lead defs M (place s (plain_name name)) ≡ IsLost
  plain_lost M s name e = ap (lead_at defs M s) (plain_kind name) ∙ name_lost defs s name [] (bound_to s name) e

  no_free_head : (n : ℕ) → Unfree (meaning defs n)
  unfolding Unfree
  no_free_head zero s name e = no_steps defs (place s (plain_name name))
  no_free_head (suc n) s name e =
      one_step defs n (place s (plain_name name)) ∙ ap (head_from (meaning defs n) (place s (plain_name name))) (plain_lost (meaning defs n) s name e)

  by_test : (M : Meaning) → Unfree M → (p : Place) → (lead defs M p ≡ IsLost → ⊥) → (b : Bool) → names_free_at p.scope (kind_of p) ≡ b → names_free_at p.scope (kind_of p) ≡ false
  by_test M u p there true e = absurd (there (free_is_lost M u p.scope (kind_of p) e))
  by_test M u p there false e = e

  -- what leads somewhere, and what is a head, names no free dummy
  not_free : (n : ℕ) (p : Place) → (lead defs (meaning defs n) p ≡ IsLost → ⊥) → names_free_at p.scope (kind_of p) ≡ false
  not_free n p there = by_test (meaning defs n) (no_free_head n) p there (names_free_at p.scope (kind_of p)) refl

  -- ---- what has a head

  Unhung : Place → Type 0
  Unhung p = (q : Place) → PlaceFilled p q → (n k : ℕ) → hangs defs (meaning defs n) k q ≡ false

  next_unhung : (M : Meaning) (k : ℕ) (a b : Lead) → LeadFilled a b → (a ≡ IsLost → ⊥) → ((x y : Target) → a ≡ LeadsTo x → PlaceFilled x.place y.place → hangs defs M k y.place ≡ false) →
      once false (next_place b) (hangs defs M k) ≡ false
  next_unhung M k IsHead b e there f = ap (λ z. once false (next_place z) (hangs defs M k)) e
  next_unhung M k (LeadsTo x) b (inl e) there f = ap (λ z. once false (next_place z) (hangs defs M k)) e
  next_unhung M k (LeadsTo x) b (inr (y, r, e)) there f = ap (λ z. once false (next_place z) (hangs defs M k)) e ∙ f x y refl r
  next_unhung M k IsLost b e there f = absurd (there refl)

  -- the CHOICE of a selection that leads somewhere has a head
  headed_choice : (M : Meaning) (s : Scope) (k : Kind) (c : Place) → choice_in s k ≡ Some c → (lead_at defs M s k ≡ IsLost → ⊥) → (o : Option Place) → M.head c ≡ o → (h : Place) × (M.head c ≡ Some h)
  headed_choice M s k c e there None f = absurd (there (lost_choice defs M s k c e f))
  headed_choice M s k c e there (Some h) f = (h, f)

  choice_unhung : (n k : ℕ) (p q : Place) → PlaceFilled p q → (o : Option Place) → choice_in p.scope (kind_of p) ≡ o → ((c : Place) → o ≡ Some c → Unhung c) →
      once false (choice_at q.scope (kind_of q)) (hangs defs (meaning defs n) k) ≡ false
  unfolding Unhung
  choice_unhung n k p q (s, f, e) o i u =
      subst (λ z. once false (choice_at z.scope (kind_of z)) (hangs defs (meaning defs n) k) ≡ false) (sym e)
      (by_kind (kind_of p) (λ c j. u c (sym i ∙ j)))
    where
      by_kind : (l : Kind) → ((c : Place) → choice_in p.scope l ≡ Some c → (q : Place) → PlaceFilled c q → (n k : ℕ) → hangs defs (meaning defs n) k q ≡ false) →
          once false (choice_at s l) (hangs defs (meaning defs n) k) ≡ false
      by_kind NullKind v = refl
      by_kind (SelectionKind x) v = v (place p.scope (plain_name x.choice_name)) refl (place s (plain_name x.choice_name)) (s, f, refl) n k
      by_kind _ v = refl

  by_head : (M : Meaning) (p h : Place) (a : Lead) → head_from M p a ≡ Some h → (a ≡ IsLost → ⊥) × ((x : Target) → a ≡ LeadsTo x → M.head x.place ≡ Some h)
  by_head M p h IsHead e = ((λ i. absurd cc), λ x i. absurd cc)
  by_head M p h (LeadsTo x) e = ((λ i. absurd cc), λ y i. let same : x ≡ y = cc in subst (λ z. M.head z.place ≡ Some h) same e)
  by_head M p h IsLost e = absurd cc

  headed : (m : ℕ) (p h : Place) → (meaning defs m).head p ≡ Some h → Unhung p
  unfolding Unhung
  headed zero p h e q f n k = absurd (nothing (sym (no_steps defs p) ∙ e))
    where
      nothing : None ≡ Some h → ⊥
      nothing z = absurd cc
  headed (suc m) p h e q f n zero = refl
  headed (suc m) p h e q f n (suc k) =
      let w : (lead defs (meaning defs m) p ≡ IsLost → ⊥) × ((x : Target) → lead defs (meaning defs m) p ≡ LeadsTo x → (meaning defs m).head x.place ≡ Some h)
      = by_head (meaning defs m) p h (lead defs (meaning defs m) p) (sym (one_step defs m p) ∙ e) in
      three (names_free_at q.scope (kind_of q)) (once false (choice_at q.scope (kind_of q)) (hangs defs (meaning defs n) k)) (once false (next_place (lead defs (meaning defs n) q)) (hangs defs (meaning defs n) k))
      (unfree_kept p q f (not_free m p w.0))
      (choice_unhung n k p q f (choice_in p.scope (kind_of p)) refl (λ c i.
      let g : (h : Place) × ((meaning defs m).head c ≡ Some h) = headed_choice (meaning defs m) p.scope (kind_of p) c i w.0 ((meaning defs m).head c) refl in
      headed m c g.0 g.1))
      (next_unhung (meaning defs n) k (lead defs (meaning defs m) p) (lead defs (meaning defs n) q) (lead_filled defs (meaning defs m) (meaning defs n) (agree defs m n) p q f) w.0
      (λ x y i r. headed m x.place h (w.1 x i) y.place r n k))

  -- ---- what comes back

  told_free : (o : Option Bound) (k goal : Key) → (if is_some o then None else Some k) ≡ Some goal → free_in o ≡ false
  told_free None k goal e = refl
  told_free (Some b) k goal e = absurd cc

  reference_told : (s : Scope) (x : ReferenceLayer) (o : Option (List ℕ)) (goal : Key) → reference_key s x o ≡ Some goal → once (is_free_dummy s x.identifier) o (is_free_dummy s) ≡ false
  reference_told s x None goal e = told_free (bound_to s x.identifier) _ goal e
  reference_told s x (Some o) goal e = told_free (bound_to s o) _ goal e

  keyed : (s : Scope) (k : Kind) (goal : Key) → key_at s k ≡ Some goal → names_free_at s k ≡ false
  keyed s NullKind goal e = refl
  keyed s (ReferenceKind x) goal e = reference_told s x x.parent goal e
  keyed s (FieldKind x) goal e = told_free (bound_to s x.class) _ goal e
  keyed s _ goal e = absurd cc

  pub unchosen : (s : Scope) (k : Kind) (goal : Key) → key_at s k ≡ Some goal → choice_at s k ≡ None
  unchosen s NullKind goal e = refl
  unchosen s (SelectionKind x) goal e = absurd cc
  unchosen s _ goal e = refl

  choice_unfree : (s : Scope) (k : Kind) (c : Place) → choice_in s k ≡ Some c → names_free_at c.scope (kind_of c) ≡ false → names_free_at s k ≡ false
  choice_unfree s NullKind c e f = refl
  choice_unfree s (SelectionKind x) c e f =
      let same : place s (plain_name x.choice_name) ≡ c = cc in
      sym (ap (names_free_at s) (plain_kind x.choice_name)) ∙ subst (λ z. names_free_at z.scope (kind_of z) ≡ false) (sym same) f
  choice_unfree s _ c e f = absurd cc

  leads : (m : ℕ) (p : Place) (x : Target) → lead defs (meaning defs m) p ≡ LeadsTo x → lead defs (meaning defs m) p ≡ IsLost → ⊥
  leads m p x e f = no (sym e ∙ f)
    where
      no : LeadsTo x ≡ IsLost → ⊥
      no i = absurd cc

  module _ (goal : Key) where
    unfree : {p : Place} → Passes defs goal p → names_free_at p.scope (kind_of p) ≡ false
    unfree {p} (here e) = keyed p.scope (kind_of p) goal e
    unfree {p} (for_choice c e w) = choice_unfree p.scope (kind_of p) c e (unfree w)
    unfree {p} (onward m x e w) = not_free m p (leads m p x e)

    abbrev NoneAt : ℕ → ℕ → Type 0
    NoneAt n k = (p : Place) → key p ≡ Some goal → hangs defs (meaning defs n) k p ≡ false

    abbrev UpTo : ℕ → ℕ → Type 0
    UpTo n zero = NoneAt n zero
    UpTo n (suc k) = NoneAt n (suc k) × UpTo n k

    at_most : (n k : ℕ) → UpTo n k → NoneAt n k
    at_most n zero none = none
    at_most n (suc k) none = none.0

    hung_way : ComesBack defs goal → {p : Place} → Passes defs goal p → (q : Place) → PlaceFilled p q → (n k : ℕ) → UpTo n k → hangs defs (meaning defs n) k q ≡ false
    hung_way b {p} (here e) q f n k none = at_most n k none q (key_kept p q f ∙ e)
    hung_way b {p} (for_choice c e w) q f n zero none = refl
    hung_way b {p} (for_choice c e w) q f n (suc k) none =
        let d : (d : Place) × PlaceFilled c d × (choice_in q.scope (kind_of q) ≡ Some d) = choice_place p q f c e in
        let lost : lead defs (meaning defs n) q ≡ IsLost = lost_choice defs (meaning defs n) q.scope (kind_of q) d.0 d.2 (on_way defs goal w d.0 d.1 n (up_to defs goal b n)) in
        three (names_free_at q.scope (kind_of q)) (once false (choice_at q.scope (kind_of q)) (hangs defs (meaning defs n) k)) (once false (next_place (lead defs (meaning defs n) q)) (hangs defs (meaning defs n) k))
        (unfree_kept p q f (unfree (for_choice c e w)))
        (ap (λ z. once false z (hangs defs (meaning defs n) k)) (same_choice q.scope (kind_of q) ∙ d.2) ∙ hung_way b w d.0 d.1 n k none.1)
        (ap (λ z. once false (next_place z) (hangs defs (meaning defs n) k)) lost)
    hung_way b {p} (onward m x e w) q f n zero none = refl
    hung_way b {p} (onward m x e w) q f n (suc k) none =
        three (names_free_at q.scope (kind_of q)) (once false (choice_at q.scope (kind_of q)) (hangs defs (meaning defs n) k)) (once false (next_place (lead defs (meaning defs n) q)) (hangs defs (meaning defs n) k))
        (unfree_kept p q f (not_free m p (leads m p x e)))
        (choice_unhung n k p q f (choice_in p.scope (kind_of p)) refl (λ c i.
        let g : (h : Place) × ((meaning defs m).head c ≡ Some h) = headed_choice (meaning defs m) p.scope (kind_of p) c i (leads m p x e) ((meaning defs m).head c) refl in
        headed m c g.0 g.1))
        (next_unhung (meaning defs n) k (lead defs (meaning defs m) p) (lead defs (meaning defs n) q) (lead_filled defs (meaning defs m) (meaning defs n) (agree defs m n) p q f) (leads m p x e)
        (λ z y i r. hung_way b w y.place (subst (λ t. PlaceFilled t.place y.place) (one_target z (sym i ∙ e)) r) n k none.1))
      where
        one_target : (z : Target) → LeadsTo z ≡ LeadsTo x → z ≡ x
        one_target z i = cc

    entry : (M : Meaning) (k : ℕ) (g : Place) (b : Lead) → Enters g b → ((y : Place) → PlaceFilled g y → hangs defs M k y ≡ false) → once false (next_place b) (hangs defs M k) ≡ false
    entry M k g IsHead e f = absurd e
    entry M k g (LeadsTo y) e f = f y.place e
    entry M k g IsLost e f = refl

    hung_up_to : ComesBack defs goal → (n k : ℕ) → UpTo n k
    hung_up_to b n zero = λ p e. refl
    hung_up_to b n (suc k) = (
      (λ p e.
          three (names_free_at p.scope (kind_of p)) (once false (choice_at p.scope (kind_of p)) (hangs defs (meaning defs n) k)) (once false (next_place (lead defs (meaning defs n) p)) (hangs defs (meaning defs n) k))
          (keyed p.scope (kind_of p) goal e)
          (ap (λ z. once false z (hangs defs (meaning defs n) k)) (unchosen p.scope (kind_of p) goal e))
          (entry (meaning defs n) k b.first (lead defs (meaning defs n) p) (enters defs (meaning defs n) p goal b.first e b.begins) (λ y f. hung_way b b.back y f n k (hung_up_to b n k)))),
      hung_up_to b n k,
    )

pub comes_back_unhung : ComesBackUnhung
comes_back_unhung defs goal b p e n k = at_most defs goal n k (hung_up_to defs goal b n k) p e
