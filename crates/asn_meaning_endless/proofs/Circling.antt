-- What comes back to itself has no head.
use Rattle.std.proofs.Common.{◌≡◌, ℕ, zero, suc, inl, inr, Some, None, refl, sym, subst, ap, ◌∙◌}
use Rattle.asn_meaning.specs.Accepts.{place}
use Rattle.asn_meaning.specs.Answers.{once}
use Rattle.asn_meaning.specs.Definitions.{Definitions}
use Rattle.asn_meaning.specs.Judge.{meaning}
use Rattle.asn_meaning.specs.Kinds.{Kind, NullKind, SelectionKind, kind_of}
use Rattle.asn_meaning.specs.Meaning.{Meaning}
use Rattle.asn_meaning.specs.Names.{Lead, IsHead, LeadsTo, IsLost, head_from, lead, lead_at, leading, option_named, options_of, plain_name}
use Rattle.asn_meaning.specs.Scopes.{Scope, Place, Target}
use Rattle.asn_meaning_endless.specs.Endless.{ComesBack, Passes, here, for_choice, onward}
use Rattle.asn_meaning_endless.specs.Keys.{Key, choice_in, key}
use Rattle.asn_meaning_endless.specs.Laws.{ComesBackHeadless}
use Rattle.asn_meaning_endless.proofs.Entering.{Enters, enters, key_kept}
use Rattle.asn_meaning_endless.proofs.Filling.{Fills, PlaceFilled}
use Rattle.asn_meaning_endless.proofs.Leading.{LeadFilled, agree, lead_filled, no_steps, one_step}

-- ---- selections

pub lost_choice : (defs : Definitions) (M : Meaning) (s : Scope) (k : Kind) (c : Place) → choice_in s k ≡ Some c → M.head c ≡ None → lead_at defs M s k ≡ IsLost
lost_choice defs M s NullKind c e f = absurd cc
lost_choice defs M s (SelectionKind x) c e f =
    let same : place s (plain_name x.choice_name) ≡ c = cc in
    ap (λ o. leading (once None o (λ h. once None (option_named (options_of h) x.selected_option) (λ o. Some (record { place = record { scope = h.scope; ty = o.ty }; constraints = o.constraints })))))
    (ap M.head same ∙ f)
lost_choice defs M s _ c e f = absurd cc

pub choice_filled : (s t : Scope) → Fills s t → (k : Kind) (c : Place) → choice_in s k ≡ Some c → (d : Place) × PlaceFilled c d × (choice_in t k ≡ Some d)
choice_filled s t f NullKind c e = absurd cc
choice_filled s t f (SelectionKind x) c e =
    let same : place s (plain_name x.choice_name) ≡ c = cc in
    (place t (plain_name x.choice_name), subst (λ z. PlaceFilled z (place t (plain_name x.choice_name))) same (t, f, refl), refl)
choice_filled s t f _ c e = absurd cc

pub choice_place : (p q : Place) → PlaceFilled p q → (c : Place) → choice_in p.scope (kind_of p) ≡ Some c → (d : Place) × PlaceFilled c d × (choice_in q.scope (kind_of q) ≡ Some d)
choice_place p q (s, f, e) c i = subst (λ z. (d : Place) × PlaceFilled c d × (choice_in z.scope (kind_of z) ≡ Some d)) (sym e) (choice_filled p.scope s f (kind_of p) c i)

module _ (defs : Definitions) (goal : Key) where
  -- within so many steps nothing that goes by it has a head
  abbrev NoneAt : ℕ → Type 0
  NoneAt n = (p : Place) → key p ≡ Some goal → (meaning defs n).head p ≡ None

  -- within so many, and within all fewer
  abbrev NoneUpTo : ℕ → Type 0
  NoneUpTo zero = NoneAt zero
  NoneUpTo (suc n) = NoneAt (suc n) × NoneUpTo n

  pub at_most : (n : ℕ) → NoneUpTo n → NoneAt n
  at_most zero none = none
  at_most (suc n) none = none.0

  -- ---- on the way

  headless_onward : (M : Meaning) (q : Place) (x : Target) (b : Lead) → LeadFilled (LeadsTo x) b → ((y : Target) → PlaceFilled x.place y.place → M.head y.place ≡ None) → head_from M q b ≡ None
  headless_onward M q x b (inl e) none = ap (head_from M q) e
  headless_onward M q x b (inr (y, f, e)) none = ap (head_from M q) e ∙ none y f

  pub on_way : {p : Place} → Passes defs goal p → (q : Place) → PlaceFilled p q → (n : ℕ) → NoneUpTo n → (meaning defs n).head q ≡ None
  on_way {p} (here e) q f n none = at_most n none q (key_kept p q f ∙ e)
  on_way {p} (for_choice c e w) q f zero none = no_steps defs q
  on_way {p} (for_choice c e w) q f (suc n) none =
      let d : (d : Place) × PlaceFilled c d × (choice_in q.scope (kind_of q) ≡ Some d) = choice_place p q f c e in
      one_step defs n q ∙ ap (head_from (meaning defs n) q) (lost_choice defs (meaning defs n) q.scope (kind_of q) d.0 d.2 (on_way w d.0 d.1 n none.1))
  on_way {p} (onward m x e w) q f zero none = no_steps defs q
  on_way {p} (onward m x e w) q f (suc n) none =
      one_step defs n q
      ∙ headless_onward (meaning defs n) q x (lead defs (meaning defs n) q)
      (subst (λ a. LeadFilled a (lead defs (meaning defs n) q)) e (lead_filled defs (meaning defs m) (meaning defs n) (agree defs m n) p q f))
      (λ y g. on_way w y.place g n none.1)

  -- ---- the circle

  headless_entry : (M : Meaning) (q g : Place) (b : Lead) → Enters g b → ((y : Place) → PlaceFilled g y → M.head y ≡ None) → head_from M q b ≡ None
  headless_entry M q g IsHead e none = absurd e
  headless_entry M q g (LeadsTo y) e none = none y.place e
  headless_entry M q g IsLost e none = refl

  pub up_to : ComesBack defs goal → (n : ℕ) → NoneUpTo n
  up_to c zero = λ p e. no_steps defs p
  up_to c (suc n) = (
    (λ p e. one_step defs n p
        ∙ headless_entry (meaning defs n) p c.first (lead defs (meaning defs n) p) (enters defs (meaning defs n) p goal c.first e c.begins)
        (λ y f. on_way c.back y f n (up_to c n))),
    up_to c n,
  )

pub comes_back_headless : ComesBackHeadless
comes_back_headless defs goal c p e n = at_most defs goal n (up_to defs goal c n) p e
