-- What includes itself has no members.
use Rattle.std.proofs.Common.{◌≡◌, ℕ, zero, suc, inl, inr, Bool, List, Option, Some, None, refl, sym, subst, ap, ◌∙◌}
use Rattle.asn_meaning.specs.Accepts.{place}
use Rattle.asn_meaning.specs.Answers.{once}
use Rattle.asn_meaning.specs.Definitions.{Definitions}
use Rattle.asn_meaning.specs.Judge.{meaning, nothing_known, step}
use Rattle.asn_meaning.specs.Layers.{StructLayer}
use Rattle.asn_meaning.specs.Meaning.{Meaning}
use Rattle.asn_meaning.specs.Members.{components_of, members_at, members_of, struct_of}
use Rattle.asn_meaning.specs.Names.{Lead, IsHead, LeadsTo, IsLost, head_from, lead, plain_name}
use Rattle.asn_meaning.specs.Scopes.{Scope, Place, Target}
use Rattle.asn_meaning_endless.specs.Endless.{Includes, at_name, led, behind_components, IncludesItself}
use Rattle.asn_meaning_endless.specs.Keys.{Key, key}
use Rattle.asn_meaning_endless.specs.Laws.{IncludesMemberless}
use Rattle.asn_meaning_endless.proofs.Entering.{Enters, enters, key_kept}
use Rattle.asn_meaning_endless.proofs.Filling.{PlaceFilled}
use Rattle.asn_meaning_endless.proofs.Leading.{LeadFilled, agree, lead_filled, no_steps, one_step}

no_members : (defs : Definitions) (s : Scope) (x : StructLayer) → (meaning defs zero).members s x ≡ None
unfolding meaning nothing_known
no_members defs s x = refl

more_members : (defs : Definitions) (n : ℕ) (s : Scope) (x : StructLayer) → (meaning defs (suc n)).members s x ≡ members_at (meaning defs n) s x
unfolding meaning step
more_members defs n s x = refl

-- what is known of no head, or of no members of it, is not known
unknown : {A B C : Type 0} (o : Option A) (f : A → Option B) (g : B → Option C) → once None o f ≡ None → once None o (λ h. once None (f h) g) ≡ None
unknown None f g e = refl
unknown (Some h) f g e = ap (λ z. once None z g) e

module _ (defs : Definitions) (goal : Key) where
  abbrev Partless : ℕ → ℕ → Place → Type 0
  Partless n a q = once None ((meaning defs a).head q) (members_of (meaning defs n)) ≡ None

  -- so it is of what goes by the goal
  abbrev NoneAt : ℕ → ℕ → Type 0
  NoneAt n a = (q : Place) → key q ≡ Some goal → Partless n a q

  abbrev Row : ℕ → ℕ → Type 0
  Row n zero = NoneAt n zero
  Row n (suc a) = NoneAt n (suc a) × Row n a

  abbrev Below : ℕ → Type 0
  Below zero = Unit {0}
  Below (suc n) = ((a : ℕ) → Row n a) × Below n

  last : (n a : ℕ) → Row n a → NoneAt n a
  last n zero row = row
  last n (suc a) row = row.0

  headless : (n a : ℕ) (q : Place) → (meaning defs a).head q ≡ None → Partless n a q
  headless n a q e = ap (λ z. once None z (members_of (meaning defs n))) e

  at_lead : (n a : ℕ) (q : Place) (b : Lead) → lead defs (meaning defs a) q ≡ b → once None (head_from (meaning defs a) q b) (members_of (meaning defs n)) ≡ None → Partless n (suc a) q
  at_lead n a q b e f = ap (λ z. once None z (members_of (meaning defs n))) (one_step defs a q ∙ ap (head_from (meaning defs a) q) e) ∙ f

  led_on : (n a : ℕ) (q : Place) (x : Target) (b : Lead) → lead defs (meaning defs a) q ≡ b → LeadFilled (LeadsTo x) b → ((y : Place) → PlaceFilled x.place y → Partless n a y) → Partless n (suc a) q
  led_on n a q x b i (inl e) f = at_lead n a q IsLost (i ∙ e) refl
  led_on n a q x b i (inr (y, r, e)) f = at_lead n a q (LeadsTo y) (i ∙ e) (f y.place r)

  at_struct : (n : ℕ) (q : Place) (x : StructLayer) → struct_of q ≡ Some x → (meaning defs n).members q.scope x ≡ None → members_of (meaning defs n) q ≡ None
  at_struct n q x e f = ap (λ z. once None z ((meaning defs n).members q.scope)) e ∙ f

  same_struct : (p q : Place) → PlaceFilled p q → struct_of q ≡ struct_of p
  same_struct p q (s, f, e) = ap struct_of e

  scope_filled : (p q : Place) → PlaceFilled p q → (name : List ℕ) → PlaceFilled (place p.scope (plain_name name)) (place q.scope (plain_name name))
  scope_filled p q (s, f, e) name = subst (λ z. PlaceFilled (place p.scope (plain_name name)) (place z.scope (plain_name name))) (sym e) (s, f, refl)

  asked : (M : Meaning) (s : Scope) (name : List ℕ) → once None (M.head (place s (plain_name name))) (members_of M) ≡ None → (among : Bool) → components_of M s among name ≡ None
  asked M s name e among = unknown (M.head (place s (plain_name name))) (members_of M) _ e

  on_way : {p : Place} → Includes defs goal p → (q : Place) → PlaceFilled p q → (n a : ℕ) → Row n a → Below n → Partless n a q
  on_way {p} (at_name e) q f n a row below = last n a row q (key_kept p q f ∙ e)
  on_way {p} (led m x e w) q f n zero row below = headless n zero q (no_steps defs q)
  on_way {p} (led m x e w) q f n (suc a) row below =
      led_on n a q x (lead defs (meaning defs a) q) refl
      (subst (λ z. LeadFilled z (lead defs (meaning defs a) q)) e (lead_filled defs (meaning defs m) (meaning defs a) (agree defs m a) p q f))
      (λ y r. on_way w y r n a row.1 below)
  on_way {p} (behind_components m x name i e asks w) q f n zero row below = headless n zero q (no_steps defs q)
  on_way {p} (behind_components m x name i e asks w) q f zero (suc a) row below =
      at_lead zero a q IsHead (subst (λ z. LeadFilled z (lead defs (meaning defs a) q)) i (lead_filled defs (meaning defs m) (meaning defs a) (agree defs m a) p q f))
      (at_struct zero q x (same_struct p q f ∙ e) (no_members defs q.scope x))
  on_way {p} (behind_components m x name i e asks w) q f (suc n) (suc a) row below =
      at_lead (suc n) a q IsHead (subst (λ z. LeadFilled z (lead defs (meaning defs a) q)) i (lead_filled defs (meaning defs m) (meaning defs a) (agree defs m a) p q f))
      (at_struct (suc n) q x (same_struct p q f ∙ e)
      (more_members defs n q.scope x
      ∙ asks (meaning defs n) q.scope (asked (meaning defs n) q.scope name (on_way w (place q.scope (plain_name name)) (scope_filled p q f name) n n (below.0 n) below.1))))

  entry : (n a : ℕ) (q g : Place) (b : Lead) → lead defs (meaning defs a) q ≡ b → Enters g b → ((y : Place) → PlaceFilled g y → Partless n a y) → Partless n (suc a) q
  entry n a q g IsHead i e f = absurd e
  entry n a q g (LeadsTo y) i e f = at_lead n a q (LeadsTo y) i (f y.place e)
  entry n a q g IsLost i e f = at_lead n a q IsLost i refl

  row_of : IncludesItself defs goal → (n : ℕ) → Below n → (a : ℕ) → Row n a
  row_of c n below zero = λ q e. headless n zero q (no_steps defs q)
  row_of c n below (suc a) = (
    (λ q e. entry n a q c.first (lead defs (meaning defs a) q) refl (enters defs (meaning defs a) q goal c.first e c.begins)
        (λ y f. on_way c.back y f n a (row_of c n below a) below)),
    row_of c n below a,
  )

  all_below : IncludesItself defs goal → (n : ℕ) → Below n
  all_below c zero = tt
  all_below c (suc n) = (row_of c n (all_below c n), all_below c n)

pub includes_memberless : IncludesMemberless
includes_memberless defs goal c p e n m = last defs goal n m (row_of defs goal c n (all_below defs goal c n) m) p e
