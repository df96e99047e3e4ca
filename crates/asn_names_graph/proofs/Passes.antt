-- Edges that are passed, and parts that become one.
use Rattle.std.proofs.Common.{◌≡◌, ℕ, ◌+◌, ◌-◌, ◌<◌, ◌≤◌, ◌⊎◌, inl, inr, Some, length, drop, get_or, ap, sym, ◌∙◌, subst, arith}
use Rattle.std.proofs.Math.ListN.{set}
use Rattle.std.proofs.lemmas.List.{length-set, length-drop, get_or-drop}
use Rattle.std.proofs.lemmas.Bool.{cases_lt}
use Rattle.asn_names_graph.specs.Graphs.{Edges, Has, HasEdge, IsNode}
use Rattle.asn_names_graph.specs.declared.mark.Mark.TheVariants.{New, OnPath, Done}
use Rattle.asn_names_graph.specs.inner.State.{State, mark_of, joined, passed, down_to, top_of}
use Rattle.asn_names_graph.specs.inner.Valid.{Leads, onward, SamePart, Handled, to_done, to_part, Valid, edges_left, StepsOn}
use Rattle.asn_names_graph.proofs.Lists.{leads_on, top_highest, top_has, down_has, down_keeps, down_descends, down_at_most, number_cases, place_one, edges_left-set}

module _ (g : Edges) (s : State) (px x : ℕ) (v : Valid g s) (top : top_of s.calls ≡ Some px) (at : mark_of s.marks x ≡ OnPath px) where
  highest : (b : ℕ) → Has s.bounds b → b ≤ px
  highest b h = top_highest s.calls px b top v.stacked.calls_down (v.stacked.called b h)

  pub top_node : IsNode g x
  top_node = subst (λ k. IsNode g k) (v.tidy.stands x px at) (v.tidy.nodes px (v.tidy.placed x px at))

  reach : (z p : ℕ) → mark_of s.marks z ≡ OnPath p → Leads g z x
  reach z p e = go (cases_lt px p)
    where
      go : (px < p) ⊎ (p ≤ px) → Leads g z x
      go (inl h) = v.linked.same z x p px e at (λ b i. ((λ l. highest b i), (λ l. omega arith)))
      go (inr h) = v.linked.later z x p px e at h

  -- whatever stands on the path leads to where an edge of the top leads
  pub reach_edge : (y : ℕ) → HasEdge g x y → (z p : ℕ) → mark_of s.marks z ≡ OnPath p → Leads g z y
  reach_edge y edge z p e = onward (reach z p e) edge

  pub join_valid : (q y : ℕ) → mark_of s.marks y ≡ OnPath q → HasEdge g x y → Valid g (joined s q)
  join_valid q y to edge = record {
    tidy = v.tidy;
    stacked = record {
      finished = v.stacked.finished;
      called = λ b h. v.stacked.called b (down_has q s.bounds b h);
      calls_down = v.stacked.calls_down;
      bounds_down = down_descends q s.bounds v.stacked.bounds_down;
      calls_within = v.stacked.calls_within;
      bottom = λ h. down_keeps q s.bounds 0 (v.stacked.bottom h) (omega arith);
    };
    linked = record {
      later = v.linked.later;
      same = λ z w p r e f same. same_of z w p r e f same (cases_lt q p) (cases_lt r p);
      handled = λ z p k e h l. weaker p (get_or g.targets k 0) (v.linked.handled z p k e h l);
    };
    sorted = v.sorted;
  }
    where
      weaker : (p t : ℕ) → Handled s.marks s.bounds p t → Handled s.marks (down_to q s.bounds) p t
      weaker p t (to_done c e) = to_done c e
      weaker p t (to_part r e same) = to_part r e (λ b h. same b (down_has q s.bounds b h))

      from_lower : (z p : ℕ) → mark_of s.marks z ≡ OnPath p → ((b : ℕ) → Has (down_to q s.bounds) b → b ≤ p) → (p < q) ⊎ (q ≤ p) → Leads g y z
      from_lower z p e below (inl h) = v.linked.same y z q p to e (λ b i. ((λ l. below b (down_keeps q s.bounds b i l)), (λ l. omega arith)))
      from_lower z p e below (inr h) = v.linked.later y z q p to e h

      same_of : (z w p r : ℕ) → mark_of s.marks z ≡ OnPath p → mark_of s.marks w ≡ OnPath r → SamePart (down_to q s.bounds) p r → (q < p) ⊎ (p ≤ q) → (r < p) ⊎ (p ≤ r) → Leads g z w
      same_of z w p r e f same (inl h) c =
          leads_on (reach_edge y edge z p e)
          (from_lower w r f (λ b i. (same b i).0 (let k : b ≤ q = down_at_most q s.bounds v.stacked.bounds_down b i in omega arith)) (cases_lt r q))
      same_of z w p r e f same (inr h) (inl c) =
          v.linked.same z w p r e f (λ b i. ((λ l. (same b (down_keeps q s.bounds b i (omega arith))).0 l), (λ l. (same b (down_keeps q s.bounds b i (omega arith))).1 l)))
      same_of z w p r e f same (inr h) (inr c) = v.linked.later z w p r e f c

  -- after a join the top and the place are in one part
  join_same : (q : ℕ) → SamePart (down_to q s.bounds) px q
  join_same q b h = ((λ l. down_at_most q s.bounds v.stacked.bounds_down b h), (λ l. highest b (down_has q s.bounds b h)))

  module _ (left : get_or s.next x 0 < get_or g.starts (x + 1) 0) where
    in_next : x < length s.next
    in_next = let e : length s.next ≡ length g.starts = v.tidy.next_length in let n : x + 1 < length g.starts = top_node in omega arith

    pub pass_valid : Handled s.marks s.bounds px (get_or g.targets (get_or s.next x 0) 0) → Valid g (passed s x)
    pass_valid met = record {
      tidy = record {
        marks_length = v.tidy.marks_length;
        next_length = length-set s.next x (get_or s.next x 0 + 1) ∙ v.tidy.next_length;
        nodes = v.tidy.nodes;
        standing = v.tidy.standing;
        placed = v.tidy.placed;
        stands = v.tidy.stands;
        fresh = λ z e. fresh_of z e (cases z);
        not_before = λ z. not_before_of z (cases z);
        not_past = λ z n. not_past_of z n (cases z);
      };
      stacked = record {
        finished = λ z p e unless. finished_of z p e unless (cases z);
        called = v.stacked.called;
        calls_down = v.stacked.calls_down;
        bounds_down = v.stacked.bounds_down;
        calls_within = v.stacked.calls_within;
        bottom = v.stacked.bottom;
      };
      linked = record {
        later = v.linked.later;
        same = v.linked.same;
        handled = λ z p k e h l. handled_of z p k e h l (cases z);
      };
      sorted = v.sorted;
    }
      where
        cases : (z : ℕ) → ((z ≡ x) × (get_or (set s.next x (get_or s.next x 0 + 1)) z 0 ≡ get_or s.next x 0 + 1)) ⊎ ((z ≡ x → ⊥) × (get_or (set s.next x (get_or s.next x 0 + 1)) z 0 ≡ get_or s.next z 0))
        cases z = number_cases s.next x z (get_or s.next x 0 + 1) in_next

        fresh_of : (z : ℕ) → mark_of s.marks z ≡ New → ((z ≡ x) × (get_or (set s.next x (get_or s.next x 0 + 1)) z 0 ≡ get_or s.next x 0 + 1)) ⊎ ((z ≡ x → ⊥) × (get_or (set s.next x (get_or s.next x 0 + 1)) z 0 ≡ get_or s.next z 0)) → get_or (set s.next x (get_or s.next x 0 + 1)) z 0 ≡ get_or g.starts z 0
        fresh_of z e (inl i) = absurd (let f : New ≡ OnPath px = sym e ∙ ap (λ k. mark_of s.marks k) i.0 ∙ at in cc)
        fresh_of z e (inr i) = i.1 ∙ v.tidy.fresh z e

        not_before_of : (z : ℕ) → ((z ≡ x) × (get_or (set s.next x (get_or s.next x 0 + 1)) z 0 ≡ get_or s.next x 0 + 1)) ⊎ ((z ≡ x → ⊥) × (get_or (set s.next x (get_or s.next x 0 + 1)) z 0 ≡ get_or s.next z 0)) → get_or g.starts z 0 ≤ get_or (set s.next x (get_or s.next x 0 + 1)) z 0
        not_before_of z (inl i) = let e : get_or g.starts z 0 ≡ get_or g.starts x 0 = ap (λ k. get_or g.starts k 0) i.0 in let h : get_or g.starts x 0 ≤ get_or s.next x 0 = v.tidy.not_before x in omega (arith, i.1)
        not_before_of z (inr i) = let h : get_or g.starts z 0 ≤ get_or s.next z 0 = v.tidy.not_before z in omega (arith, i.1)

        not_past_of : (z : ℕ) → IsNode g z → ((z ≡ x) × (get_or (set s.next x (get_or s.next x 0 + 1)) z 0 ≡ get_or s.next x 0 + 1)) ⊎ ((z ≡ x → ⊥) × (get_or (set s.next x (get_or s.next x 0 + 1)) z 0 ≡ get_or s.next z 0)) → get_or (set s.next x (get_or s.next x 0 + 1)) z 0 ≤ get_or g.starts (z + 1) 0
        not_past_of z n (inl i) = let e : get_or g.starts (z + 1) 0 ≡ get_or g.starts (x + 1) 0 = ap (λ k. get_or g.starts (k + 1) 0) i.0 in omega (arith, i.1)
        not_past_of z n (inr i) = let h : get_or s.next z 0 ≤ get_or g.starts (z + 1) 0 = v.tidy.not_past z n in omega (arith, i.1)

        finished_of : (z p : ℕ) → mark_of s.marks z ≡ OnPath p → (Has s.calls p → ⊥) → ((z ≡ x) × (get_or (set s.next x (get_or s.next x 0 + 1)) z 0 ≡ get_or s.next x 0 + 1)) ⊎ ((z ≡ x → ⊥) × (get_or (set s.next x (get_or s.next x 0 + 1)) z 0 ≡ get_or s.next z 0)) → get_or (set s.next x (get_or s.next x 0 + 1)) z 0 ≡ get_or g.starts (z + 1) 0
        finished_of z p e unless (inl i) = absurd (unless (subst (λ k. Has s.calls k) (place_one px p (sym at ∙ ap (λ k. mark_of s.marks k) (sym i.0) ∙ e)) (top_has s.calls px top)))
        finished_of z p e unless (inr i) = i.1 ∙ v.stacked.finished z p e unless

        handled_of : (z p k : ℕ) → mark_of s.marks z ≡ OnPath p → get_or g.starts z 0 ≤ k → k < get_or (set s.next x (get_or s.next x 0 + 1)) z 0 → ((z ≡ x) × (get_or (set s.next x (get_or s.next x 0 + 1)) z 0 ≡ get_or s.next x 0 + 1)) ⊎ ((z ≡ x → ⊥) × (get_or (set s.next x (get_or s.next x 0 + 1)) z 0 ≡ get_or s.next z 0)) → Handled s.marks s.bounds p (get_or g.targets k 0)
        handled_of z p k e h l (inl i) = last (cases_lt k (get_or s.next z 0))
          where
            last : (k < get_or s.next z 0) ⊎ (get_or s.next z 0 ≤ k) → Handled s.marks s.bounds p (get_or g.targets k 0)
            last (inl j) = v.linked.handled z p k e h j
            last (inr j) =
                let n : get_or s.next z 0 ≡ get_or s.next x 0 = ap (λ w. get_or s.next w 0) i.0 in
                let f : get_or s.next x 0 ≡ k = omega (arith, i.1) in
                subst (λ w. Handled s.marks s.bounds p (get_or g.targets w 0)) f (subst (λ w. Handled s.marks s.bounds w (get_or g.targets (get_or s.next x 0) 0)) (place_one px p (sym at ∙ ap (λ w. mark_of s.marks w) (sym i.0) ∙ e)) met)
        handled_of z p k e h l (inr i) = v.linked.handled z p k e h (omega (arith, i.1))

    pass_less : edges_left (drop 1 g.starts) (set s.next x (get_or s.next x 0 + 1)) + 1 ≡ edges_left (drop 1 g.starts) s.next
    pass_less =
        let n : x + 1 < length g.starts = top_node in
        let l : length (drop 1 g.starts) ≡ length g.starts - 1 = length-drop 1 g.starts in
        let i : 1 + x ≡ x + 1 = omega arith in
        let e : get_or (drop 1 g.starts) x 0 ≡ get_or g.starts (x + 1) 0 = get_or-drop 1 g.starts x 0 ∙ ap (λ k. get_or g.starts k 0) i in
        edges_left-set (drop 1 g.starts) s.next x (omega arith) in_next (omega arith)

    -- an edge to a node that is done is passed
    pub pass_steps : (t : State) (c : ℕ) → mark_of s.marks (get_or g.targets (get_or s.next x 0) 0) ≡ Done c → t ≡ passed s x → StepsOn g s t
    pass_steps t c e f = subst (λ u. StepsOn g s u) (sym f) (record {
      valid = pass_valid (to_done c e);
      known = λ z unless i. unless i;
      less = (let k : edges_left (drop 1 g.starts) (set s.next x (get_or s.next x 0 + 1)) + 1 ≡ edges_left (drop 1 g.starts) s.next = pass_less in omega arith);
    })

module _ (g : Edges) (s : State) (px x : ℕ) (v : Valid g s) (top : top_of s.calls ≡ Some px) (at : mark_of s.marks x ≡ OnPath px) (left : get_or s.next x 0 < get_or g.starts (x + 1) 0) where
  -- an edge back into the path is passed, and makes one part of all that it spans
  pub join_steps : (t : State) (q : ℕ) → mark_of s.marks (get_or g.targets (get_or s.next x 0) 0) ≡ OnPath q → HasEdge g x (get_or g.targets (get_or s.next x 0) 0) → t ≡ passed (joined s q) x → StepsOn g s t
  join_steps t q e edge f = subst (λ u. StepsOn g s u) (sym f) (record {
    valid = pass_valid g (joined s q) px x (join_valid g s px x v top at q (get_or g.targets (get_or s.next x 0) 0) e edge) top at left (to_part q e (join_same g s px x v top at q));
    known = λ z unless i. unless i;
    less = (let k : edges_left (drop 1 g.starts) (set s.next x (get_or s.next x 0 + 1)) + 1 ≡ edges_left (drop 1 g.starts) s.next = pass_less g s px x v top at left in omega arith);
  })
