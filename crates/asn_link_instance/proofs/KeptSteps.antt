-- One step more keeps what is kept.
use Rattle.std.proofs.Common.{Bool, List, None, Option, Some, [], ap, false, inl, inr, refl, true, subst, sym, ℕ, ◌++◌, ◌+◌, ◌∙◌, ◌∷◌, ◌≡◌}
use Rattle.asn_tree.specs.declared.constraints.Constraint.{Constraint}
use Rattle.asn_tree.specs.declared.constraints.ElementOrSetOperation.{ElementOrSetOperation, ElementOrSetOperation-F, out-ElementOrSetOperation}
use Rattle.asn_tree.specs.declared.constraints.SetOperation.{out-SetOperation, out-roll-SetOperation}
use Rattle.asn_tree.specs.declared.types.ASN1Type.{ASN1Type, out-ASN1Type}
use Rattle.asn_meaning.specs.Accepts.{place}
use Rattle.asn_meaning.specs.Answers.{Unknown, both, once}
use Rattle.asn_meaning.specs.Constraints.{all_hold, chain_at, chain_behind}
use Rattle.asn_meaning.specs.Definitions.{Definitions}
use Rattle.asn_meaning.specs.Judge.{accepts_at, meaning, stands_for}
use Rattle.asn_meaning.specs.Kinds.{kind_of_type}
use Rattle.asn_meaning.specs.Layers.{OperationLayer, SetLayer}
use Rattle.asn_meaning.specs.Meaning.{Meaning}
use Rattle.asn_meaning.specs.Names.{IsHead, IsLost, Lead, LeadsTo, head_at, head_from, lead, lead_at, leading, lists_in}
use Rattle.asn_meaning.specs.Numbers.{Chain}
use Rattle.asn_meaning.specs.Ranges.{narrowed_by_all, numbers_at, numbers_at_head, numbers_before, numbers_from_lead}
use Rattle.asn_meaning.specs.Scopes.{Empty, Place, Scope, Target}
use Rattle.asn_meaning.specs.ValueTrees.{ValueTree}
use Rattle.asn_meaning.proofs.Answering.{both_through}
use Rattle.asn_meaning.proofs.Ways.{all_hold_append, narrowed_append}
use Rattle.asn_link_instance.specs.Heads.{Alike, Before, KindForm, constraints_made}
use Rattle.asn_link_instance.specs.Instance.{has_no_place, instance, operation_instance, set_instance}
use Rattle.asn_link_instance.specs.Subjects.{Choices, Subject}
use Rattle.asn_link_instance.specs.Ways.{Back, Forth, Known, Refined, Way}
use Rattle.asn_link_instance.proofs.Below.{Below, Constrained, First, Instanced, Led, MadeChain, MadeSet, accepts_upto, floor_before, numbers_upto}
use Rattle.asn_link_instance.proofs.Falling.{FreeHeads, falls, leads_free}
use Rattle.asn_link_instance.proofs.Forms.{Beside, Followed, Owns, alike_blind, beside_through, fallen, form_beside, lead_beside, lists_append, numbers_blind, own, same_beside}
use Rattle.asn_link_instance.proofs.Holding.{Holds, once_holds, result_holds}
use Rattle.asn_link_instance.proofs.KeptConstraints.{both_kept, both_numbers, unlisted}
use Rattle.asn_link_instance.proofs.KeptHeads.{head_kept}
use Rattle.asn_link_instance.proofs.KeptSets.{set_made}
use Rattle.asn_link_instance.proofs.KeptTypes.{BothLed, Fallen, Made, Replaced, Stayed, View, numbers_lists, upto_lists}
use Rattle.asn_link_instance.proofs.Pairs.{Paired, both_paired, both_refined, equal_known, known_paired, nothing_paired, same_known, same_refined, then_paired}

append_through : {A : Type 0} (b c d : List A) → (b ++ c) ++ d ≡ b ++ (c ++ d)
append_through [] c d = refl
append_through (x ∷ b) c d = ap (λ z. x ∷ z) (append_through b c d)

regroup : {A : Type 0} (a b c d : List A) → (a ++ (b ++ c)) ++ d ≡ (a ++ b) ++ (c ++ d)
regroup [] b c d = append_through b c d
regroup (x ∷ a) b c d = ap (λ z. x ∷ z) (regroup a b c d)

module _ (C : Choices) (defs others : Definitions) (j : ℕ) (way : Way) (M L : Meaning) (b : Below C defs others j way M L) where
  -- what is asked of a place by the first of its constraints, and then by the others
  upto_split : (r : Place) (first later : List Constraint) (t : ValueTree) →
      accepts_upto others L r (first ++ later) t ≡ both (accepts_upto others L r first t) (once Unknown (L.head r) (λ k. all_hold L r.scope k (narrowed_by_all L r.scope k (numbers_before others L r) first) later t))
  upto_split r first later t = at (L.head r)
    where
      at : (d : Option Place) → both (stands_for L t r (lead others L r)) (once Unknown d (λ k. all_hold L r.scope k (numbers_before others L r) (first ++ later) t))
          ≡ both (both (stands_for L t r (lead others L r)) (once Unknown d (λ k. all_hold L r.scope k (numbers_before others L r) first t))) (once Unknown d (λ k. all_hold L r.scope k (narrowed_by_all L r.scope k (numbers_before others L r) first) later t))
      at None = sym (both_through (stands_for L t r (lead others L r)) Unknown Unknown)
      at (Some k) = ap (both (stands_for L t r (lead others L r))) (all_hold_append L r.scope k (numbers_before others L r) first later t) ∙ sym (both_through (stands_for L t r (lead others L r)) _ _)

  numbers_split : (r : Place) (first later : List Constraint) → numbers_upto others L r (first ++ later) ≡ once None (L.head r) (λ k. narrowed_by_all L r.scope k (narrowed_by_all L r.scope k (numbers_before others L r) first) later)
  numbers_split r first later = at (L.head r)
    where
      at : (d : Option Place) → once None d (λ k. narrowed_by_all L r.scope k (numbers_before others L r) (first ++ later)) ≡ once None d (λ k. narrowed_by_all L r.scope k (narrowed_by_all L r.scope k (numbers_before others L r) first) later)
      at None = refl
      at (Some k) = narrowed_append L r.scope k (numbers_before others L r) first later

  -- a type in its scope, its instance, and a type beside the instance
  module _ (floor i : ℕ) (n : Before C defs j (floor + i)) (first : First C defs others j way M L floor i) (down : Bool) (scope : Scope) (ty uy ry : ASN1Type) (made : Instanced C defs j down scope ty uy) (s : Beside (out-ASN1Type uy) (out-ASN1Type ry)) where
    abbrev p : Place
    p = place scope ty

    abbrev r : Place
    r = place Empty ry

    abbrev FoundHeads : Option Place → Option Place → Type 0
    FoundHeads c d = Paired way (λ h k. Alike C defs others j h k) c d

    found : FoundHeads (M.head p) (L.head r)
    found = b.head down scope ty uy ry made s

    lead_same : (d : Lead) → ((N : Meaning) → lead_at others N Empty (kind_of_type uy) ≡ d) → lead others L r ≡ d
    lead_same d f = lead_beside others L Empty (out-ASN1Type uy) (out-ASN1Type ry) s ∙ f L

    alike : KindForm C defs floor i scope (kind_of_type ty) (kind_of_type uy) → Alike C defs others j p r
    alike f = inr (refl, (floor, i, n, form_beside C defs floor i scope (kind_of_type ty) (out-ASN1Type uy) (out-ASN1Type ry) f s))

    beside_made : (x : Target) (vy : ASN1Type) (es fs : List Constraint) → constraints_made C defs floor i x.place.scope x.place x.constraints ≡ Some es → constraints_made C defs floor i scope p (own (out-ASN1Type ty)) ≡ Some fs →
        Followed (out-ASN1Type vy) (es ++ fs) (out-ASN1Type uy) → Beside (out-ASN1Type vy) (out-ASN1Type ry)
    beside_made x vy es fs v w fw =
        let e : lists_in es ≡ [] = result_holds (constraints_made C defs floor i x.place.scope x.place x.constraints) (λ ds. lists_in ds ≡ []) es (unlisted C defs floor i x.place.scope x.place x.constraints) v in
        let f : lists_in fs ≡ [] = result_holds (constraints_made C defs floor i scope p (own (out-ASN1Type ty))) (λ ds. lists_in ds ≡ []) fs (unlisted C defs floor i scope p (own (out-ASN1Type ty))) w in
        beside_through (out-ASN1Type vy) (out-ASN1Type uy) (out-ASN1Type ry) (fw.beside (lists_append es fs f ∙ e)) s

    -- what takes the place of a name, where it has no place for constraints
    beside_fallen : (vy : ASN1Type) → out-ASN1Type uy ≡ out-ASN1Type vy → Beside (out-ASN1Type vy) (out-ASN1Type ry)
    beside_fallen vy same = subst (λ z. Beside z (out-ASN1Type ry)) same s

    followed_fallen : (vy : ASN1Type) → has_no_place (out-ASN1Type vy) ≡ true → out-ASN1Type uy ≡ out-ASN1Type vy → Followed (out-ASN1Type vy) [] (out-ASN1Type uy)
    followed_fallen vy e same = subst (λ z. Followed (out-ASN1Type vy) [] z) (sym same) (fallen (out-ASN1Type vy) e)

    target_free : (x : Target) (vy : ASN1Type) → (instance C defs floor i).of_type down x.place.scope x.place.ty ≡ Some vy → has_no_place (out-ASN1Type vy) ≡ true → FreeHeads defs x.place
    target_free x vy u e = falls C defs floor i down x.place.scope x.place.ty vy u e

    -- ---- heads

    lead_heads : (u v : Lead) → lead defs M p ≡ u → lead others L r ≡ v → FoundHeads (head_from M p u) (head_from L r v) → FoundHeads (head_at defs M p) (head_at others L r)
    lead_heads u v e f h = subst (λ z. FoundHeads (head_from M p z) (head_at others L r)) (sym e) (subst (λ z. FoundHeads (head_from M p u) (head_from L r z)) (sym f) h)

    leading_heads : (d c : Option Target) → BothLed C defs others j d c → FoundHeads (head_from M p (leading d)) (head_from L r (leading c))
    leading_heads None c (inl (same, e)) = subst (λ z. FoundHeads None (head_from L r (leading z))) (sym e) (nothing_paired way (λ h k. Alike C defs others j h k))
    leading_heads (Some x) c (inl (same, e)) = subst (λ z. FoundHeads (M.head x.place) (head_from L r (leading z))) (sym e) (known_paired way (λ h k. Alike C defs others j h k) _ _ (λ h. inl (refl, inl same)) ((b.more same).head x.place))
    leading_heads None c (inr e) = subst (λ z. FoundHeads None (head_from L r (leading z))) (sym e) (nothing_paired way (λ h k. Alike C defs others j h k))
    leading_heads (Some x) c (inr (vy, wy, e, f, u)) = subst (λ z. FoundHeads (M.head z.place) (head_from L r (leading c))) (sym e) (subst (λ z. FoundHeads (M.head (place Empty vy)) (head_from L r (leading z))) (sym f) (b.head false Empty vy wy wy u (same_beside (out-ASN1Type wy))))

    -- what leads on by what the instance knew
    by_led : (way : Way) (P : Way → Lead → Type 0) (a : Lead) (x : Target) → Led way a x → P Forth IsLost → P way (LeadsTo x) → P way a
    by_led Forth P a x (inl e) f g = subst (λ z. P Forth z) (sym e) f
    by_led Forth P a x (inr e) f g = subst (λ z. P Forth z) (sym e) g
    by_led Back P a x e f g = subst (λ z. P Back z) (sym e) g

    pub type_head : View C defs others j floor i down scope ty (out-ASN1Type ty) (out-ASN1Type uy) → FoundHeads (head_at defs M p) (head_at others L r)
    type_head (Made f g form ds e o) = lead_heads IsHead IsHead (f M) (lead_same IsHead g) (both_paired way (λ h k. Alike C defs others j h k) p r (alike form))
    type_head (Stayed y is asked d c both f g ds e o) = lead_heads (leading d) (leading c) (f M) (lead_same (leading c) g) (leading_heads d c both)
    type_head (Replaced x l vy u es v fs w fw) =
        by_led way (λ way a. Paired way (λ h k. Alike C defs others j h k) (head_from M p a) (head_at others L r)) (lead defs M p) x (b.led floor (floor_before C defs j floor i n) p x l) tt (first.head down x.place.scope x.place.ty vy ry u (beside_made x vy es fs v w fw))
    type_head (Fallen x l vy u e same) =
        by_led way (λ way a. Paired way (λ h k. Alike C defs others j h k) (head_from M p a) (head_at others L r)) (lead defs M p) x (b.led floor (floor_before C defs j floor i n) p x l) tt (first.head down x.place.scope x.place.ty vy ry u (beside_fallen vy same))

    -- ---- whole numbers and answers

    leading_stands : (d c : Option Target) → BothLed C defs others j d c → (t : ValueTree) → Refined way (stands_for M t p (leading d)) (stands_for L t r (leading c))
    leading_stands None c (inl (same, e)) t = subst (λ z. Refined way Unknown (stands_for L t r (leading z))) (sym e) (same_refined way Unknown)
    leading_stands (Some x) c (inl (same, e)) t = subst (λ z. Refined way (M.accepts x.place x.constraints t) (stands_for L t r (leading z))) (sym e) ((b.more same).accepts x.place x.constraints t)
    leading_stands None c (inr e) t = subst (λ z. Refined way Unknown (stands_for L t r (leading z))) (sym e) (same_refined way Unknown)
    leading_stands (Some x) c (inr (vy, wy, e, f, (floor, i, n, u))) t =
        subst (λ z. Refined way (M.accepts z.place z.constraints t) (stands_for L t r (leading c))) (sym e)
        (subst (λ z. Refined way (M.accepts (place Empty vy) [] t) (stands_for L t r (leading z))) (sym f) (b.accepts false Empty vy wy [] [] t (floor, i, n, u) (inl (floor, i, n, refl))))

    leading_numbers : (d c : Option Target) → BothLed C defs others j d c → Known way (numbers_from_lead M p (leading d)) (numbers_from_lead L r (leading c))
    leading_numbers None c (inl (same, e)) = subst (λ z. Known way None (numbers_from_lead L r (leading z))) (sym e) (same_known way None)
    leading_numbers (Some x) c (inl (same, e)) = subst (λ z. Known way (M.numbers x.place x.constraints) (numbers_from_lead L r (leading z))) (sym e) ((b.more same).numbers x.place x.constraints)
    leading_numbers None c (inr e) = subst (λ z. Known way None (numbers_from_lead L r (leading z))) (sym e) (same_known way None)
    leading_numbers (Some x) c (inr (vy, wy, e, f, (floor, i, n, u))) =
        subst (λ z. Known way (M.numbers z.place z.constraints) (numbers_from_lead L r (leading c))) (sym e)
        (subst (λ z. Known way (M.numbers (place Empty vy) []) (numbers_from_lead L r (leading z))) (sym f) (b.numbers false Empty vy wy [] [] (floor, i, n, u) (inl (floor, i, n, refl))))

    lead_numbers : (u v : Lead) → lead defs M p ≡ u → lead others L r ≡ v → Known way (numbers_from_lead M p u) (numbers_from_lead L r v) → Known way (numbers_before defs M p) (numbers_before others L r)
    lead_numbers u v e f h = subst (λ z. Known way (numbers_from_lead M p z) (numbers_before others L r)) (sym e) (subst (λ z. Known way (numbers_from_lead M p u) (numbers_from_lead L r z)) (sym f) h)

    head_numbers : KindForm C defs floor i scope (kind_of_type ty) (kind_of_type uy) → ((N : Meaning) → lead_at defs N scope (kind_of_type ty) ≡ IsHead) → ((N : Meaning) → lead_at others N Empty (kind_of_type uy) ≡ IsHead) →
        Known way (numbers_before defs M p) (numbers_before others L r)
    head_numbers form f g =
        lead_numbers IsHead IsHead (f M) (lead_same IsHead g) (equal_known way _ _ (ap Some (alike_blind C defs others numbers_at_head numbers_blind j p r (alike form))))

    stayed_numbers : (d c : Option Target) → BothLed C defs others j d c → ((N : Meaning) → lead_at defs N scope (kind_of_type ty) ≡ leading d) → ((N : Meaning) → lead_at others N Empty (kind_of_type uy) ≡ leading c) → Known way (numbers_before defs M p) (numbers_before others L r)
    stayed_numbers d c both f g = lead_numbers (leading d) (leading c) (f M) (lead_same (leading c) g) (leading_numbers d c both)

    lead_stands : (t : ValueTree) (u v : Lead) → lead defs M p ≡ u → lead others L r ≡ v → Refined way (stands_for M t p u) (stands_for L t r v) → Refined way (stands_for M t p (lead defs M p)) (stands_for L t r (lead others L r))
    lead_stands t u v e f h = subst (λ z. Refined way (stands_for M t p z) (stands_for L t r (lead others L r))) (sym e) (subst (λ z. Refined way (stands_for M t p u) (stands_for L t r z)) (sym f) h)

    module _ (cs ds : List Constraint) (m : Constrained C defs j scope p cs ds) where
      -- a head or a name that stays
      own_accepts : (t : ValueTree) (es : List Constraint) → constraints_made C defs floor i scope p (own (out-ASN1Type ty)) ≡ Some es → Owns (out-ASN1Type uy) es → Known way (numbers_before defs M p) (numbers_before others L r) →
          Refined way (stands_for M t p (lead defs M p)) (stands_for L t r (lead others L r)) → Refined way (accepts_at defs M p cs t) (accepts_upto others L r (own (out-ASN1Type uy) ++ ds) t)
      own_accepts t es e o w h =
          subst (λ z. Refined way (accepts_at defs M p cs t) z) (upto_lists C defs others j way M L b (out-ASN1Type uy) ry es ds t s o)
          (both_refined way _ _ _ _ h (both_kept C defs others j way M L b scope p r (own (out-ASN1Type ty)) es cs ds (numbers_before defs M p) (λ k. numbers_before others L r) found (inl (floor, i, n, e)) m (λ k f. w) t))

      own_numbers : (es : List Constraint) → constraints_made C defs floor i scope p (own (out-ASN1Type ty)) ≡ Some es → Owns (out-ASN1Type uy) es → Known way (numbers_before defs M p) (numbers_before others L r) →
          Known way (numbers_at defs M p cs) (numbers_upto others L r (own (out-ASN1Type uy) ++ ds))
      own_numbers es e o w =
          subst (λ z. Known way (numbers_at defs M p cs) z) (numbers_lists C defs others j way M L b (out-ASN1Type uy) ry es ds s o)
          (both_numbers C defs others j way M L b scope p r (own (out-ASN1Type ty)) es cs ds (numbers_before defs M p) (λ k. numbers_before others L r) found (inl (floor, i, n, e)) m (λ k f. w))

      module _ (x : Target) (l : lead defs (meaning defs floor) p ≡ LeadsTo x) (vy : ASN1Type) (u : (instance C defs floor i).of_type down x.place.scope x.place.ty ≡ Some vy) (es : List Constraint) (v : Constrained C defs j x.place.scope x.place x.constraints es)
          (fs : List Constraint) (w : Constrained C defs j scope p (own (out-ASN1Type ty)) fs) (fw : Followed (out-ASN1Type vy) (es ++ fs) (out-ASN1Type uy)) (bs : Beside (out-ASN1Type vy) (out-ASN1Type ry)) where
        abbrev firsts : List Constraint
        firsts = own (out-ASN1Type vy) ++ es

        first_numbers : Known way (numbers_before defs M p) (numbers_upto others L r firsts)
        first_numbers = by_led way (λ way a. Known way (numbers_from_lead M p a) (numbers_upto others L r firsts)) (lead defs M p) x (b.led floor (floor_before C defs j floor i n) p x l) tt (first.numbers down x.place.scope x.place.ty vy ry x.constraints es u bs v)

        first_accepts : (t : ValueTree) → Refined way (stands_for M t p (lead defs M p)) (accepts_upto others L r firsts t)
        first_accepts t = by_led way (λ way a. Refined way (stands_for M t p a) (accepts_upto others L r firsts t)) (lead defs M p) x (b.led floor (floor_before C defs j floor i n) p x l) tt (first.accepts down x.place.scope x.place.ty vy ry x.constraints es t u bs v)

        under : (k : Place) → L.head r ≡ Some k → Known way (numbers_before defs M p) (narrowed_by_all L Empty k (numbers_before others L r) firsts)
        under k e = subst (λ z. Known way (numbers_before defs M p) (once None z (λ k. narrowed_by_all L Empty k (numbers_before others L r) firsts))) e first_numbers

        replaced_accepts : (t : ValueTree) → Refined way (accepts_at defs M p cs t) (accepts_upto others L r (own (out-ASN1Type uy) ++ ds) t)
        replaced_accepts t =
            subst (λ z. Refined way (accepts_at defs M p cs t) z) (upto_lists C defs others j way M L b (out-ASN1Type uy) ry (own (out-ASN1Type vy) ++ (es ++ fs)) ds t s fw.owns)
            (subst (λ z. Refined way (accepts_at defs M p cs t) (accepts_upto others L r z t)) (sym (regroup (own (out-ASN1Type vy)) es fs ds))
            (subst (λ z. Refined way (accepts_at defs M p cs t) z) (sym (upto_split r firsts (fs ++ ds) t))
            (both_refined way _ _ _ _ (first_accepts t)
            (both_kept C defs others j way M L b scope p r (own (out-ASN1Type ty)) fs cs ds (numbers_before defs M p) (λ k. narrowed_by_all L Empty k (numbers_before others L r) firsts) found w m under t))))

        replaced_numbers : Known way (numbers_at defs M p cs) (numbers_upto others L r (own (out-ASN1Type uy) ++ ds))
        replaced_numbers =
            subst (λ z. Known way (numbers_at defs M p cs) z) (numbers_lists C defs others j way M L b (out-ASN1Type uy) ry (own (out-ASN1Type vy) ++ (es ++ fs)) ds s fw.owns)
            (subst (λ z. Known way (numbers_at defs M p cs) (numbers_upto others L r z)) (sym (regroup (own (out-ASN1Type vy)) es fs ds))
            (subst (λ z. Known way (numbers_at defs M p cs) z) (sym (numbers_split r firsts (fs ++ ds)))
            (both_numbers C defs others j way M L b scope p r (own (out-ASN1Type ty)) fs cs ds (numbers_before defs M p) (λ k. narrowed_by_all L Empty k (numbers_before others L r) firsts) found w m under)))

      pub made_accepts : (t : ValueTree) → View C defs others j floor i down scope ty (out-ASN1Type ty) (out-ASN1Type uy) → Refined way (accepts_at defs M p cs t) (accepts_upto others L r (own (out-ASN1Type uy) ++ ds) t)
      made_accepts t (Made f g form es e o) = own_accepts t es e o (head_numbers form f g) (lead_stands t IsHead IsHead (f M) (lead_same IsHead g) (head_kept C defs others j way M L b p r (alike form) t))
      made_accepts t (Stayed y is asked d c both f g es e o) = own_accepts t es e o (stayed_numbers d c both f g) (lead_stands t (leading d) (leading c) (f M) (lead_same (leading c) g) (leading_stands d c both t))
      made_accepts t (Replaced x l vy u es v fs w fw) = replaced_accepts x l vy u es (inl (floor, i, n, v)) fs (inl (floor, i, n, w)) fw (beside_made x vy es fs v w fw) t
      made_accepts t (Fallen x l vy u e same) = replaced_accepts x l vy u [] (inr (refl, target_free x vy u e)) [] (inr (refl, leads_free defs floor p x l (target_free x vy u e))) (followed_fallen vy e same) (beside_fallen vy same) t

      pub made_numbers : View C defs others j floor i down scope ty (out-ASN1Type ty) (out-ASN1Type uy) → Known way (numbers_at defs M p cs) (numbers_upto others L r (own (out-ASN1Type uy) ++ ds))
      made_numbers (Made f g form es e o) = own_numbers es e o (head_numbers form f g)
      made_numbers (Stayed y is asked d c both f g es e o) = own_numbers es e o (stayed_numbers d c both f g)
      made_numbers (Replaced x l vy u es v fs w fw) = replaced_numbers x l vy u es (inl (floor, i, n, v)) fs (inl (floor, i, n, w)) fw (beside_made x vy es fs v w fw)
      made_numbers (Fallen x l vy u e same) = replaced_numbers x l vy u [] (inr (refl, target_free x vy u e)) [] (inr (refl, leads_free defs floor p x l (target_free x vy u e))) (followed_fallen vy e same) (beside_fallen vy same)

  -- ---- chains

  abbrev Chained : Scope → Subject → Option Chain → Option Chain → Type 0
  Chained scope q c d = Paired way (λ c d. MadeChain C defs j scope q c d) c d

  behind : (scope : Scope) (q : Subject) (floor i : ℕ) → Before C defs j (floor + i) → (x y : OperationLayer) → y.operator ≡ x.operator → (instance C defs floor i).of_element scope q x.base ≡ Some y.base → (instance C defs floor i).of_set scope q x.operant ≡ Some y.operant →
      Chained scope q (once None (M.chain x.operant) (λ c. Some (chain_behind x c))) (once None (L.chain y.operant) (λ c. Some (chain_behind y c)))
  behind scope q floor i n x y same e f =
      then_paired way (λ c d. MadeChain C defs j scope q c d) (λ c d. MadeChain C defs j scope q c d) (M.chain x.operant) (L.chain y.operant) (chain_behind x) (chain_behind y) (b.chain scope q x.operant y.operant (floor, i, n, f)) (λ c d m. ((floor, i, n, e), (same, m.0, m.1)))

  set_chain : (scope : Scope) (q : Subject) (floor i : ℕ) → Before C defs j (floor + i) → (l : SetLayer) → Holds (set_instance C defs (meaning defs floor) (instance C defs floor i) scope q l) (λ r. Chained scope q (chain_at M l) (chain_at L r))
  set_chain scope q floor i n (ElementOrSetOperation-F.Element e) = once_holds ((instance C defs floor i).of_element scope q e) _ _ (λ f u. both_paired way (λ c d. MadeChain C defs j scope q c d) _ _ ((floor, i, n, u), tt))
  set_chain scope q floor i n (ElementOrSetOperation-F.SetOperation x) =
      once_holds (operation_instance C defs (meaning defs floor) (instance C defs floor i) scope q (out-SetOperation x)) _ _ (λ y u.
      subst (λ z. Chained scope q (once None (M.chain (out-SetOperation x).operant) (λ c. Some (chain_behind (out-SetOperation x) c))) (once None (L.chain z.operant) (λ c. Some (chain_behind z c)))) (sym (out-roll-SetOperation y))
      (result_holds (operation_instance C defs (meaning defs floor) (instance C defs floor i) scope q (out-SetOperation x)) (λ y. Chained scope q (once None (M.chain (out-SetOperation x).operant) (λ c. Some (chain_behind (out-SetOperation x) c))) (once None (L.chain y.operant) (λ c. Some (chain_behind y c)))) y (operation_chain (out-SetOperation x)) u))
    where
      operation_chain : (x : OperationLayer) → Holds (operation_instance C defs (meaning defs floor) (instance C defs floor i) scope q x) (λ y. Chained scope q (once None (M.chain x.operant) (λ c. Some (chain_behind x c))) (once None (L.chain y.operant) (λ c. Some (chain_behind y c))))
      operation_chain x = once_holds ((instance C defs floor i).of_element scope q x.base) _ _ (λ e u. once_holds ((instance C defs floor i).of_set scope q x.operant) _ _ (λ o v. behind scope q floor i n x (record x { base = e; operant = o }) refl u v))

  pub chain_made : (scope : Scope) (q : Subject) (x y : ElementOrSetOperation) → MadeSet C defs j scope q x y → Chained scope q (chain_at M (out-ElementOrSetOperation x)) (chain_at L (out-ElementOrSetOperation y))
  chain_made scope q x y m = set_made C defs j scope q x y (λ r. Chained scope q (chain_at M (out-ElementOrSetOperation x)) (chain_at L r)) m (λ floor i n. set_chain scope q floor i n (out-ElementOrSetOperation x))
