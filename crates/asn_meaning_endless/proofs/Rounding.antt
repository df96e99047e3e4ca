-- What is followed once round is all that is followed.
use Rattle.std.proofs.Common.{◌≡◌, ℕ, zero, suc, ◌⊎◌, inl, inr, List, [], ◌∷◌, ◌++◌, Option, Some, None, refl, sym, subst, ap, ◌∙◌, if◌then◌else◌}
use Rattle.std.specs.Prelude.{is_some, ◌||◌, codes}
use Rattle.std.specs.Str.{bytes_eq}
use Rattle.asn_tree_notation.specs.Paths.{field_name}
use Rattle.asn_meaning.specs.Answers.{once}
use Rattle.asn_meaning.specs.Definitions.{Definitions, class_named}
use Rattle.asn_meaning.specs.Judge.{meaning}
use Rattle.asn_meaning.specs.Kinds.{Kind, NullKind, FieldKind, ReferenceKind, SelectionKind, kind_of}
use Rattle.asn_meaning.specs.Layers.{ReferenceLayer}
use Rattle.asn_meaning.specs.Meaning.{Meaning}
use Rattle.asn_meaning.specs.Names.{Lead, IsHead, LeadsTo, IsLost, lead, lead_at, leading, selection_target}
use Rattle.asn_meaning.specs.Objects.{field_at_path}
use Rattle.asn_meaning.specs.Scopes.{Scope, bound_to, Place, Target}
use Rattle.asn_needs.specs.Dummies.{choice_at, next_place}
use Rattle.asn_needs.specs.Followed.{followed_by, followed_to_head, named_by, to_name, undummied}
use Rattle.asn_needs.specs.Sites.{Node, ToField}
use Rattle.asn_meaning_endless.specs.Endless.{ComesBack}
use Rattle.asn_meaning_endless.specs.Keys.{Key, ByName, ByObject, ByField, choice_in, key, key_at, reference_key}
use Rattle.asn_meaning_endless.specs.Laws.{FollowedOnceRound}
use Rattle.asn_meaning_endless.specs.Rounds.{Among, Round, at_goal, at_head, at_name, at_selection, at_endless}
use Rattle.asn_meaning_endless.proofs.Circling.{choice_place, lost_choice, on_way, up_to}
use Rattle.asn_meaning_endless.proofs.Entering.{Enters, enters, key_kept, no_dummy}
use Rattle.asn_meaning_endless.proofs.Filling.{Fills, PlaceFilled, dummy_filled, place_itself}
use Rattle.asn_meaning_endless.proofs.Hanging.{same_choice, unchosen}
use Rattle.asn_meaning_endless.proofs.Leading.{LeadFilled, agree, lead_filled}

-- ---- lists

module _ {A : Type 0} where
  pub in_left : (xs ys : List A) (y : A) → Among xs y → Among (xs ++ ys) y
  in_left [] ys y m = absurd m
  in_left (x ∷ xs) ys y (inl e) = inl e
  in_left (x ∷ xs) ys y (inr m) = inr (in_left xs ys y m)

  pub in_right : (xs ys : List A) (y : A) → Among ys y → Among (xs ++ ys) y
  in_right [] ys y m = m
  in_right (x ∷ xs) ys y m = inr (in_right xs ys y m)

  pub in_either : (xs ys : List A) (y : A) → Among (xs ++ ys) y → Among xs y ⊎ Among ys y
  in_either [] ys y m = inr m
  in_either (x ∷ xs) ys y (inl e) = inl (inl e)
  in_either (x ∷ xs) ys y (inr m) = elim (in_either xs ys y m) [ inl a ↦ inl (inr a) | inr b ↦ inr b ]

-- ---- names under more arguments

module _ (defs : Definitions) where
  undummied_kept : (s t : Scope) → Fills s t → (name : List ℕ) → undummied defs t name ≡ undummied defs s name
  undummied_kept s t f name = ap (λ b. if b then [] else to_name defs name) (dummy_filled s t f name)

  named_kept : (s t : Scope) → Fills s t → (k : Kind) → named_by defs t k ≡ named_by defs s k
  named_kept s t f NullKind = refl
  named_kept s t f (ReferenceKind x) = undummied_kept s t f (once x.identifier x.parent (λ o. o))
  named_kept s t f (SelectionKind x) = undummied_kept s t f x.choice_name
  named_kept s t f (FieldKind x) =
      ap (λ b. if b || bytes_eq x.class (codes "TYPE-IDENTIFIER") then [] else
      once [] (class_named defs x.class) (λ c. once [] (field_at_path c x.field_path) (λ f. ToField x.class (field_name f.identifier) ∷ []))) (dummy_filled s t f x.class)
  named_kept s t f _ = refl

  pub place_named : (p q : Place) → PlaceFilled p q → named_by defs q.scope (kind_of q) ≡ named_by defs p.scope (kind_of p)
  place_named p q (s, f, e) = ap (λ z. named_by defs z.scope (kind_of z)) e ∙ named_kept p.scope s f (kind_of p)

  -- what is followed in one step
  Parts : Meaning → ℕ → Place → Lead → Node → Type 0
  Parts M k q b y =
      Among (followed_by defs q b) y
      ⊎ (Among (once [] (choice_at q.scope (kind_of q)) (followed_to_head defs M k)) y
      ⊎ Among (once [] (next_place b) (followed_to_head defs M k)) y)

  one_level : (M : Meaning) (k : ℕ) (q : Place) (y : Node) → Among (followed_to_head defs M (suc k) q) y → Parts M k q (lead defs M q) y
  unfolding Parts
  one_level M k q y m =
      by_first (in_either (followed_by defs q (lead defs M q) ++ once [] (choice_at q.scope (kind_of q)) (followed_to_head defs M k)) (once [] (next_place (lead defs M q)) (followed_to_head defs M k)) y m)
    where
      by_first : Among (followed_by defs q (lead defs M q) ++ once [] (choice_at q.scope (kind_of q)) (followed_to_head defs M k)) y ⊎ Among (once [] (next_place (lead defs M q)) (followed_to_head defs M k)) y →
          Parts M k q (lead defs M q) y
      by_first (inr b) = inr (inr b)
      by_first (inl a) = elim (in_either (followed_by defs q (lead defs M q)) (once [] (choice_at q.scope (kind_of q)) (followed_to_head defs M k)) y a) [ inl c ↦ inl c | inr d ↦ inr (inl d) ]

  -- what stands in one of the parts
  from_parts : {R : Type 0} (M : Meaning) (k : ℕ) (q : Place) (b : Lead) (y : Node) → Parts M k q b y →
      ((z : Target) → b ≡ LeadsTo z → Among (named_by defs q.scope (kind_of q)) y → R) →
      ((d : Place) → choice_in q.scope (kind_of q) ≡ Some d → Among (followed_to_head defs M k d) y → R) →
      ((z : Target) → b ≡ LeadsTo z → Among (followed_to_head defs M k z.place) y → R) → R
  unfolding Parts
  from_parts {R} M k q b y m named chosen next = elim m [ inl a ↦ by_name b named a | inr r ↦ elim r [ inl a ↦ by_choice (choice_at q.scope (kind_of q)) (sym (same_choice q.scope (kind_of q))) a | inr a ↦ by_next b next a ] ]
    where
      by_name : (b : Lead) → ((z : Target) → b ≡ LeadsTo z → Among (named_by defs q.scope (kind_of q)) y → R) → Among (followed_by defs q b) y → R
      by_name IsHead f a = absurd a
      by_name (LeadsTo z) f a = f z refl a
      by_name IsLost f a = absurd a

      by_choice : (o : Option Place) → choice_in q.scope (kind_of q) ≡ o → Among (once [] o (followed_to_head defs M k)) y → R
      by_choice None e a = absurd a
      by_choice (Some d) e a = chosen d e a

      by_next : (b : Lead) → ((z : Target) → b ≡ LeadsTo z → Among (followed_to_head defs M k z.place) y → R) → Among (once [] (next_place b) (followed_to_head defs M k)) y → R
      by_next IsHead f a = absurd a
      by_next (LeadsTo z) f a = f z refl a
      by_next IsLost f a = absurd a

  -- ---- the goal's own names

  unfoldable pub names_of : Key → List Node
  names_of (ByName name) = to_name defs name
  names_of (ByObject o field) = to_name defs o
  names_of (ByField class path) =
      if bytes_eq class (codes "TYPE-IDENTIFIER") then [] else once [] (class_named defs class) (λ c. once [] (field_at_path c path) (λ f. ToField class (field_name f.identifier) ∷ []))

  not_bound : (s : Scope) (name : List ℕ) → bound_to s name ≡ None → undummied defs s name ≡ to_name defs name
  not_bound s name e = ap (λ o. if is_some o then [] else to_name defs name) e

  reference_names : (s : Scope) (x : ReferenceLayer) (o : Option (List ℕ)) (goal : Key) → reference_key s x o ≡ Some goal → undummied defs s (once x.identifier o (λ n. n)) ≡ names_of goal
  unfolding names_of
  reference_names s x None goal e =
      let w : (bound_to s x.identifier ≡ None) × (ByName x.identifier ≡ goal) = no_dummy (bound_to s x.identifier) (ByName x.identifier) goal e in
      not_bound s x.identifier w.0 ∙ ap names_of w.1
  reference_names s x (Some o) goal e =
      let w : (bound_to s o ≡ None) × (ByObject o x.identifier ≡ goal) = no_dummy (bound_to s o) (ByObject o x.identifier) goal e in
      not_bound s o w.0 ∙ ap names_of w.1

  pub keyed_names : (s : Scope) (k : Kind) (goal : Key) → key_at s k ≡ Some goal → named_by defs s k ≡ names_of goal
  unfolding names_of
  keyed_names s NullKind goal e = absurd cc
  keyed_names s (ReferenceKind x) goal e = reference_names s x x.parent goal e
  keyed_names s (FieldKind x) goal e =
      let w : (bound_to s x.class ≡ None) × (ByField x.class x.field_path ≡ goal) = no_dummy (bound_to s x.class) (ByField x.class x.field_path) goal e in
      ap (λ o. if is_some o || bytes_eq x.class (codes "TYPE-IDENTIFIER") then [] else
      once [] (class_named defs x.class) (λ c. once [] (field_at_path c x.field_path) (λ f. ToField x.class (field_name f.identifier) ∷ []))) w.0
      ∙ ap names_of w.1
  keyed_names s _ goal e = absurd cc

  -- ---- one kind

  pub no_head : (o : Option Target) → leading o ≡ IsHead → ⊥
  no_head None e = absurd cc
  no_head (Some x) e = absurd cc

  unchosen_head : (M : Meaning) (s : Scope) (k : Kind) (d : Place) → lead_at defs M s k ≡ IsHead → choice_in s k ≡ Some d → ⊥
  unchosen_head M s NullKind d e f = absurd cc
  unchosen_head M s (SelectionKind x) d e f = no_head (selection_target M s x) e
  unchosen_head M s _ d e f = absurd cc

  none_kept : (s t : Scope) (k : Kind) → choice_in s k ≡ None → choice_in t k ≡ None
  none_kept s t NullKind e = refl
  none_kept s t (SelectionKind x) e = absurd cc
  none_kept s t _ e = refl

  none_there : (p q : Place) → PlaceFilled p q → choice_in p.scope (kind_of p) ≡ None → choice_in q.scope (kind_of q) ≡ None
  none_there p q (s, f, e) i = subst (λ z. choice_in z.scope (kind_of z) ≡ None) (sym e) (none_kept p.scope s (kind_of p) i)

  pub unlike : (o : Option Place) (d : Place) → o ≡ None → o ≡ Some d → ⊥
  unlike o d e f = clash (sym e ∙ f)
    where
      clash : None ≡ Some d → ⊥
      clash i = absurd cc

  pub head_leads : (b : Lead) (z : Target) → b ≡ IsHead → b ≡ LeadsTo z → ⊥
  head_leads b z e f = clash (sym e ∙ f)
    where
      clash : IsHead ≡ LeadsTo z → ⊥
      clash i = absurd cc

  pub lost_leads : (b : Lead) (z : Target) → b ≡ IsLost → b ≡ LeadsTo z → ⊥
  lost_leads b z e f = clash (sym e ∙ f)
    where
      clash : IsLost ≡ LeadsTo z → ⊥
      clash i = absurd cc

  same_target : (y z : Target) (b : Lead) → b ≡ LeadsTo y → b ≡ LeadsTo z → y ≡ z
  same_target y z b e f = one (sym e ∙ f)
    where
      one : LeadsTo y ≡ LeadsTo z → y ≡ z
      one i = cc

  same_place : (c d : Place) (o : Option Place) → o ≡ Some c → o ≡ Some d → c ≡ d
  same_place c d o e f = one (sym e ∙ f)
    where
      one : Some c ≡ Some d → c ≡ d
      one i = cc

  -- where it leads under more arguments, if anywhere
  pub onward_to : (x z : Target) (b : Lead) → LeadFilled (LeadsTo x) b → b ≡ LeadsTo z → PlaceFilled x.place z.place
  onward_to x z b (inl e) f = absurd (lost_leads b z e f)
  onward_to x z b (inr (y, r, e)) f = subst (λ t. PlaceFilled x.place t.place) (same_target y z b e f) r

  pub entered_to : (g : Place) (z : Target) (b : Lead) → Enters g b → b ≡ LeadsTo z → PlaceFilled g z.place
  entered_to g z b e f = subst (Enters g) f e

  -- ---- once round

  module _ (goal : Key) (c : ComesBack defs goal) (ys : List Node) (round : Round defs goal ys c.first) where
    abbrev pub Bounded : List Node → Node → Type 0
    Bounded zs y = Among zs y ⊎ Among (names_of goal ++ ys) y

    pub wider : (zs us : List Node) (y : Node) → ((Among zs y) → Among us y) → Bounded zs y → Bounded us y
    wider zs us y f (inl a) = inl (f a)
    wider zs us y f (inr b) = inr b

    pub by_goal : (y : Node) → Bounded ys y → Bounded [] y
    by_goal y (inl a) = inr (in_right (names_of goal) ys y a)
    by_goal y (inr b) = inr b

    bounded : (k : ℕ) (zs : List Node) (p : Place) → Round defs goal zs p → (q : Place) → PlaceFilled p q → (n : ℕ) (y : Node) → Among (followed_to_head defs (meaning defs n) k q) y → Bounded zs y
    bounded zero zs p r q f n y m = absurd m
    bounded (suc k) zs p (at_goal e) q f n y m =
        let is : key q ≡ Some goal = key_kept p q f ∙ e in
        from_parts (meaning defs n) k q (lead defs (meaning defs n) q) y (one_level (meaning defs n) k q y m)
        (λ z i a. inr (in_left (names_of goal) ys y (subst (λ l. Among l y) (keyed_names q.scope (kind_of q) goal is) a)))
        (λ d i a. absurd (unlike (choice_in q.scope (kind_of q)) d (sym (same_choice q.scope (kind_of q)) ∙ unchosen defs q.scope (kind_of q) goal is) i))
        (λ z i a. by_goal y (bounded k ys c.first round z.place (entered_to c.first z (lead defs (meaning defs n) q) (enters defs (meaning defs n) q goal c.first is c.begins) i) n y a))
    bounded (suc k) zs p (at_head h e) q f n y m =
        let is : lead defs (meaning defs n) q ≡ IsHead = subst (λ z. LeadFilled z (lead defs (meaning defs n) q)) e (lead_filled defs (meaning defs h) (meaning defs n) (agree defs h n) p q f) in
        from_parts (meaning defs n) k q (lead defs (meaning defs n) q) y (one_level (meaning defs n) k q y m)
        (λ z i a. absurd (head_leads (lead defs (meaning defs n) q) z is i))
        (λ d i a. absurd (unchosen_head (meaning defs n) q.scope (kind_of q) d is i))
        (λ z i a. absurd (head_leads (lead defs (meaning defs n) q) z is i))
    bounded (suc k) zs p (at_name {ys = us} h x o e r) q f n y m =
        let is : LeadFilled (LeadsTo x) (lead defs (meaning defs n) q) = subst (λ z. LeadFilled z (lead defs (meaning defs n) q)) e (lead_filled defs (meaning defs h) (meaning defs n) (agree defs h n) p q f) in
        from_parts (meaning defs n) k q (lead defs (meaning defs n) q) y (one_level (meaning defs n) k q y m)
        (λ z i a. inl (in_left (named_by defs p.scope (kind_of p)) us y (subst (λ l. Among l y) (place_named p q f) a)))
        (λ d i a. absurd (unlike (choice_in q.scope (kind_of q)) d (none_there p q f o) i))
        (λ z i a. wider us (named_by defs p.scope (kind_of p) ++ us) y (in_right (named_by defs p.scope (kind_of p)) us y)
        (bounded k us x.place r z.place (onward_to x z (lead defs (meaning defs n) q) is i) n y a))
    bounded (suc k) zs p (at_selection {zs = ws} {ys = us} h x s o e r1 r2) q f n y m =
        let is : LeadFilled (LeadsTo x) (lead defs (meaning defs n) q) = subst (λ z. LeadFilled z (lead defs (meaning defs n) q)) e (lead_filled defs (meaning defs h) (meaning defs n) (agree defs h n) p q f) in
        let d : (d : Place) × PlaceFilled s d × (choice_in q.scope (kind_of q) ≡ Some d) = choice_place p q f s o in
        from_parts (meaning defs n) k q (lead defs (meaning defs n) q) y (one_level (meaning defs n) k q y m)
        (λ z i a. inl (in_left (named_by defs p.scope (kind_of p) ++ ws) us y (in_left (named_by defs p.scope (kind_of p)) ws y (subst (λ l. Among l y) (place_named p q f) a))))
        (λ t i a. wider ws ((named_by defs p.scope (kind_of p) ++ ws) ++ us) y (λ b. in_left (named_by defs p.scope (kind_of p) ++ ws) us y (in_right (named_by defs p.scope (kind_of p)) ws y b))
        (bounded k ws s r1 t (subst (PlaceFilled s) (same_place d.0 t (choice_in q.scope (kind_of q)) d.2 i) d.1) n y a))
        (λ z i a. wider us ((named_by defs p.scope (kind_of p) ++ ws) ++ us) y (in_right (named_by defs p.scope (kind_of p) ++ ws) us y)
        (bounded k us x.place r2 z.place (onward_to x z (lead defs (meaning defs n) q) is i) n y a))
    bounded (suc k) zs p (at_endless s o w r) q f n y m =
        let d : (d : Place) × PlaceFilled s d × (choice_in q.scope (kind_of q) ≡ Some d) = choice_place p q f s o in
        let lost : lead defs (meaning defs n) q ≡ IsLost = lost_choice defs (meaning defs n) q.scope (kind_of q) d.0 d.2 (on_way defs goal w d.0 d.1 n (up_to defs goal c n)) in
        from_parts (meaning defs n) k q (lead defs (meaning defs n) q) y (one_level (meaning defs n) k q y m)
        (λ z i a. absurd (lost_leads (lead defs (meaning defs n) q) z lost i))
        (λ t i a. bounded k zs s r t (subst (PlaceFilled s) (same_place d.0 t (choice_in q.scope (kind_of q)) d.2 i) d.1) n y a)
        (λ z i a. absurd (lost_leads (lead defs (meaning defs n) q) z lost i))

    at_place : (p : Place) → key p ≡ Some goal → (n k : ℕ) (y : Node) → Among (followed_to_head defs (meaning defs n) k p) y → Among (named_by defs p.scope (kind_of p) ++ ys) y
    at_place p e n k y m =
        subst (λ l. Among (l ++ ys) y) (sym (keyed_names p.scope (kind_of p) goal e))
        (elim (bounded k [] p (at_goal e) p (place_itself p) n y m) [ inl a ↦ absurd a | inr b ↦ b ])

pub followed_once_round : FollowedOnceRound
followed_once_round defs goal c ys r p e n k y m = at_place defs goal c ys r p e n k y m
