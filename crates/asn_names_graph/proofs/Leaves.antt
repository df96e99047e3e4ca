-- A node that is left, and a part that comes out.
use Rattle.std.proofs.Common.{◌≡◌, ℕ, ◌+◌, ◌-◌, ◌<◌, ◌≤◌, ◌⊎◌, inl, inr, Some, None, ◌∷◌, ◌++◌, length, take, drop, get_or, refl, ap, sym, ◌∙◌, subst, arith, length-append}
use Rattle.std.proofs.Math.ListN.{get_or-append}
use Rattle.std.proofs.Math.Seq.{get_or-append_right}
use Rattle.std.proofs.lemmas.List.{length-drop, length-take-le, get_or-drop, get_or-take}
use Rattle.std.proofs.lemmas.Bool.{cases_eq, cases_lt}
use Rattle.asn_names_graph.specs.Graphs.{Edges, Has, HasEdge, IsNode}
use Rattle.asn_names_graph.specs.declared.mark.Mark.{Mark}
use Rattle.asn_names_graph.specs.declared.mark.Mark.TheVariants.{New, OnPath, Done}
use Rattle.asn_names_graph.specs.inner.State.{State, mark_of, closed, closed_marks, left_behind, top_of, under}
use Rattle.asn_names_graph.specs.inner.Valid.{Leads, Descends, SamePart, Handled, to_done, to_part, DoneBy, StandsIn, Tidy, Stacked, Linked, Sorted, Valid, new_count, StepsOn}
use Rattle.asn_names_graph.proofs.Closing.{closed_in, closed_out, length-closed_marks, new_count-closed}
use Rattle.asn_names_graph.proofs.Lists.{none_has, top_has, top_split, top_highest, place_one, part_one, not_new_path, not_new_done, not_path_done}

module _ (g : Edges) (s : State) (px x : ℕ) (v : Valid g s) (top : top_of s.calls ≡ Some px) (at : mark_of s.marks x ≡ OnPath px) (ended : get_or s.next x 0 ≡ get_or g.starts (x + 1) 0) where
  calls_are : s.calls ≡ px ∷ under s.calls
  calls_are = top_split s.calls px top

  calls_down : Descends (px ∷ under s.calls)
  calls_down = subst (λ l. Descends l) calls_are v.stacked.calls_down

  call_cases : (b : ℕ) → Has s.calls b → (b ≡ px) ⊎ Has (under s.calls) b
  call_cases b h = subst (λ l. Has l b) calls_are h

  call_back : (b : ℕ) → (b ≡ px) ⊎ Has (under s.calls) b → Has s.calls b
  call_back b h = subst (λ l. Has l b) (sym calls_are) h

  in_path : px < length s.path
  in_path = v.tidy.placed x px at

  fewer_calls : length (under s.calls) + 1 ≡ length s.calls
  fewer_calls = let e : length s.calls ≡ length (px ∷ under s.calls) = ap length calls_are in omega arith

  -- all edges of the node at a place where no call is left were passed
  ended_at : (z p : ℕ) → mark_of s.marks z ≡ OnPath p → (Has (under s.calls) p → ⊥) → get_or s.next z 0 ≡ get_or g.starts (z + 1) 0
  ended_at z p e unless = go (cases_eq p px)
    where
      go : (p ≡ px) ⊎ (p ≡ px → ⊥) → get_or s.next z 0 ≡ get_or g.starts (z + 1) 0
      go (inl i) =
          let f : z ≡ x = sym (v.tidy.stands z p e) ∙ ap (λ k. get_or s.path k 0) i ∙ v.tidy.stands x px at in
          ap (λ k. get_or s.next k 0) f ∙ ended ∙ ap (λ k. get_or g.starts (k + 1) 0) (sym f)
      go (inr n) = v.stacked.finished z p e (λ h. other (call_cases p h))
        where
          other : (p ≡ px) ⊎ Has (under s.calls) p → ⊥
          other (inl i) = n i
          other (inr h) = unless h

  left_valid : (Has s.bounds px → ⊥) → Valid g (left_behind s)
  left_valid no_bound = record {
    tidy = v.tidy;
    stacked = record {
      finished = ended_at;
      called = λ b h. called_of b h (call_cases b (v.stacked.called b h));
      calls_down = calls_down.1;
      bounds_down = v.stacked.bounds_down;
      calls_within = λ b h. v.stacked.calls_within b (call_back b (inr h));
      bottom = v.stacked.bottom;
    };
    linked = v.linked;
    sorted = v.sorted;
  }
    where
      called_of : (b : ℕ) → Has s.bounds b → (b ≡ px) ⊎ Has (under s.calls) b → Has (under s.calls) b
      called_of b h (inl i) = absurd (no_bound (subst (λ k. Has s.bounds k) i h))
      called_of b h (inr i) = i

  -- a node that is not the first of its part is left
  pub left_steps : (t : State) → (Has s.bounds px → ⊥) → t ≡ left_behind s → StepsOn g s t
  left_steps t no_bound e = subst (λ u. StepsOn g s u) (sym e) (record {
    valid = left_valid no_bound;
    known = λ z unless i. unless i;
    less = (let k : length (under s.calls) + 1 ≡ length s.calls = fewer_calls in omega arith);
  })

  module _ (first : top_of s.bounds ≡ Some px) where
    bounds_are : s.bounds ≡ px ∷ under s.bounds
    bounds_are = top_split s.bounds px first

    bounds_down : Descends (px ∷ under s.bounds)
    bounds_down = subst (λ l. Descends l) bounds_are v.stacked.bounds_down

    bound_cases : (b : ℕ) → Has s.bounds b → (b ≡ px) ⊎ Has (under s.bounds) b
    bound_cases b h = subst (λ l. Has l b) bounds_are h

    bound_back : (b : ℕ) → (b ≡ px) ⊎ Has (under s.bounds) b → Has s.bounds b
    bound_back b h = subst (λ l. Has l b) (sym bounds_are) h

    bound_at : Has s.bounds px
    bound_at = bound_back px (inl refl)

    highest : (b : ℕ) → Has s.bounds b → b ≤ px
    highest b h = top_highest s.bounds px b first v.stacked.bounds_down h

    rest_length : length (drop px s.path) ≡ length s.path - px
    rest_length = length-drop px s.path

    rest_at : (k : ℕ) → get_or (drop px s.path) k 0 ≡ get_or s.path (px + k) 0
    rest_at k = get_or-drop px s.path k 0

    gone : (z p : ℕ) → mark_of s.marks z ≡ OnPath p → px ≤ p → mark_of (closed s px).marks z ≡ Done (length s.order)
    gone z p e l =
        let h : p < length s.path = v.tidy.placed z p e in
        let d : length (drop px s.path) ≡ length s.path - px = rest_length in
        let i : px + (p - px) ≡ p = omega arith in
        let n : IsNode g z = subst (λ k. IsNode g k) (v.tidy.stands z p e) (v.tidy.nodes p h) in
        let m : length s.marks ≡ length g.starts = v.tidy.marks_length in
        closed_in (length s.order) (drop px s.path) s.marks z (p - px) (omega arith) (rest_at (p - px) ∙ ap (λ k. get_or s.path k 0) i ∙ v.tidy.stands z p e) (omega arith)

    kept : (z : ℕ) → ((p : ℕ) → mark_of s.marks z ≡ OnPath p → p < px) → mark_of (closed s px).marks z ≡ mark_of s.marks z
    kept z below =
        closed_out (length s.order) (drop px s.path) s.marks z
        (λ k h e.
        let d : length (drop px s.path) ≡ length s.path - px = rest_length in
        let l : px + k < px = below (px + k) (ap (λ w. mark_of s.marks w) (sym e ∙ rest_at k) ∙ v.tidy.standing (px + k) (omega arith)) in
        omega arith)

    kept_done : (z c : ℕ) → mark_of s.marks z ≡ Done c → mark_of (closed s px).marks z ≡ Done c
    kept_done z c e = kept z (λ p f. absurd (not_path_done p c (sym f ∙ e))) ∙ e

    kept_path : (z p : ℕ) → mark_of s.marks z ≡ OnPath p → p < px → mark_of (closed s px).marks z ≡ OnPath p
    kept_path z p e l = kept z (λ q f. let i : p ≡ q = place_one p q (sym e ∙ f) in omega arith) ∙ e

    from_path : (z p : ℕ) → mark_of (closed s px).marks z ≡ OnPath p → (mark_of s.marks z ≡ OnPath p) × (p < px)
    from_path z p e = go (mark_of s.marks z) refl
      where
        go : (m : Mark) → mark_of s.marks z ≡ m → (mark_of s.marks z ≡ OnPath p) × (p < px)
        go New i = absurd (not_new_path p (sym (kept z (λ q f. absurd (not_new_path q (sym i ∙ f))) ∙ i) ∙ e))
        go (Done c) i = absurd (not_path_done p c (sym e ∙ kept_done z c i))
        go (OnPath q) i = side (cases_lt q px)
          where
            side : (q < px) ⊎ (px ≤ q) → (mark_of s.marks z ≡ OnPath p) × (p < px)
            side (inl l) = let j : q ≡ p = place_one q p (sym (kept_path z q i l) ∙ e) in (i ∙ ap OnPath j, omega arith)
            side (inr l) = absurd (not_path_done p (length s.order) (sym e ∙ gone z q i l))

    from_new : (z : ℕ) → mark_of (closed s px).marks z ≡ New → mark_of s.marks z ≡ New
    from_new z e = go (mark_of s.marks z) refl
      where
        go : (m : Mark) → mark_of s.marks z ≡ m → mark_of s.marks z ≡ New
        go New i = i
        go (Done c) i = absurd (not_new_done c (sym e ∙ kept_done z c i))
        go (OnPath q) i = side (cases_lt q px)
          where
            side : (q < px) ⊎ (px ≤ q) → mark_of s.marks z ≡ New
            side (inl l) = absurd (not_new_path q (sym e ∙ kept_path z q i l))
            side (inr l) = absurd (not_new_done (length s.order) (sym e ∙ gone z q i l))

    from_done : (z c : ℕ) → mark_of (closed s px).marks z ≡ Done c → (mark_of s.marks z ≡ Done c) ⊎ ((p : ℕ) × (mark_of s.marks z ≡ OnPath p) × (px ≤ p) × (c ≡ length s.order))
    from_done z c e = go (mark_of s.marks z) refl
      where
        go : (m : Mark) → mark_of s.marks z ≡ m → (mark_of s.marks z ≡ Done c) ⊎ ((p : ℕ) × (mark_of s.marks z ≡ OnPath p) × (px ≤ p) × (c ≡ length s.order))
        go New i = absurd (not_new_done c (sym (kept z (λ q f. absurd (not_new_path q (sym i ∙ f))) ∙ i) ∙ e))
        go (Done d) i = inl (i ∙ ap Done (part_one d c (sym (kept_done z d i) ∙ e)))
        go (OnPath q) i = side (cases_lt q px)
          where
            side : (q < px) ⊎ (px ≤ q) → (mark_of s.marks z ≡ Done c) ⊎ ((p : ℕ) × (mark_of s.marks z ≡ OnPath p) × (px ≤ p) × (c ≡ length s.order))
            side (inl l) = absurd (not_path_done q c (sym (kept_path z q i l) ∙ e))
            side (inr l) = inr (q, i, l, part_one c (length s.order) (sym e ∙ gone z q i l))

    below_length : length (take px s.path) ≡ px
    below_length = length-take-le px s.path (let h : px < length s.path = in_path in omega arith)

    below_at : (p : ℕ) → p < px → get_or (take px s.path) p 0 ≡ get_or s.path p 0
    below_at p h = get_or-take px s.path p 0 h

    closed_tidy : Tidy g (closed s px).marks (closed s px).next (closed s px).path
    closed_tidy = record {
      marks_length = length-closed_marks (length s.order) (drop px s.path) s.marks ∙ v.tidy.marks_length;
      next_length = v.tidy.next_length;
      nodes = λ p h. nodes_of p (low p h);
      standing = λ p h. standing_of p (low p h);
      placed = λ z p e. placed_of p (from_path z p e).1;
      stands = λ z p e. below_at p (from_path z p e).1 ∙ v.tidy.stands z p (from_path z p e).0;
      fresh = λ z e. v.tidy.fresh z (from_new z e);
      not_before = v.tidy.not_before;
      not_past = v.tidy.not_past;
    }
      where
        low : (p : ℕ) → p < length (take px s.path) → p < px
        low p h = let e : length (take px s.path) ≡ px = below_length in omega arith

        placed_of : (p : ℕ) → p < px → p < length (take px s.path)
        placed_of p h = let e : length (take px s.path) ≡ px = below_length in omega arith

        nodes_of : (p : ℕ) → p < px → IsNode g (get_or (take px s.path) p 0)
        nodes_of p h = subst (λ k. IsNode g k) (sym (below_at p h)) (v.tidy.nodes p (let l : px < length s.path = in_path in omega arith))

        standing_of : (p : ℕ) → p < px → mark_of (closed s px).marks (get_or (take px s.path) p 0) ≡ OnPath p
        standing_of p h = ap (λ k. mark_of (closed s px).marks k) (below_at p h) ∙ kept_path (get_or s.path p 0) p (v.tidy.standing p (let l : px < length s.path = in_path in omega arith)) h

    closed_stacked : Stacked g (closed s px).marks (closed s px).next (closed s px).path (closed s px).calls (closed s px).bounds
    closed_stacked = record {
      finished = λ z p e unless. ended_at z p (from_path z p e).0 unless;
      called = λ b h. called_of b (bounds_down.0 b h) (call_cases b (v.stacked.called b (bound_back b (inr h))));
      calls_down = calls_down.1;
      bounds_down = bounds_down.1;
      calls_within = λ b h. (let e : length (take px s.path) ≡ px = below_length in let l : b < px = calls_down.0 b h in omega arith);
      bottom = λ h. bottom_of (let e : length (take px s.path) ≡ px = below_length in omega arith) (bound_cases 0 (v.stacked.bottom (let l : px < length s.path = in_path in omega arith)));
    }
      where
        called_of : (b : ℕ) → b < px → (b ≡ px) ⊎ Has (under s.calls) b → Has (under s.calls) b
        called_of b l (inl i) = absurd (omega arith)
        called_of b l (inr i) = i

        bottom_of : 0 < px → (0 ≡ px) ⊎ Has (under s.bounds) 0 → Has (under s.bounds) 0
        bottom_of l (inl i) = absurd (omega arith)
        bottom_of l (inr i) = i

    closed_linked : Linked g (closed s px).marks (closed s px).next (closed s px).bounds
    closed_linked = record {
      later = λ z w p q e f h. v.linked.later z w p q (from_path z p e).0 (from_path w q f).0 h;
      same = λ z w p q e f h. v.linked.same z w p q (from_path z p e).0 (from_path w q f).0 (more p q (from_path z p e).1 (from_path w q f).1 h);
      handled = λ z p k e h l. handled_of p (get_or g.targets k 0) (from_path z p e).1 (v.linked.handled z p k (from_path z p e).0 h l);
    }
      where
        more : (p q : ℕ) → p < px → q < px → SamePart (under s.bounds) p q → SamePart s.bounds p q
        more p q h k same b i = go (bound_cases b i)
          where
            go : (b ≡ px) ⊎ Has (under s.bounds) b → (b ≤ p → b ≤ q) × (b ≤ q → b ≤ p)
            go (inl j) = ((λ l. absurd (omega arith)), (λ l. absurd (omega arith)))
            go (inr j) = same b j

        handled_of : (p t : ℕ) → p < px → Handled s.marks s.bounds p t → Handled (closed s px).marks (under s.bounds) p t
        handled_of p t l (to_done c e) = to_done c (kept_done t c e)
        handled_of p t l (to_part q e same) = side (cases_lt q px)
          where
            side : (q < px) ⊎ (px ≤ q) → Handled (closed s px).marks (under s.bounds) p t
            side (inl i) = to_part q (kept_path t q e i) (λ b h. same b (bound_back b (inr h)))
            side (inr i) = absurd (let n : px ≤ p = (same px bound_at).1 i in omega arith)

    out_length : length (s.order ++ drop px s.path) ≡ length s.order + (length s.path - px)
    out_length = length-append s.order (drop px s.path) ∙ ap (λ k. length s.order + k) rest_length

    at_old : (i : ℕ) → i < length s.order → get_or (s.order ++ drop px s.path) i 0 ≡ get_or s.order i 0
    at_old i h = get_or-append s.order (drop px s.path) 0 i h

    at_new : (i : ℕ) → length s.order ≤ i → get_or (s.order ++ drop px s.path) i 0 ≡ get_or s.path (px + (i - length s.order)) 0
    at_new i h = get_or-append_right s.order (drop px s.path) i 0 h ∙ rest_at (i - length s.order)

    new_within : (i : ℕ) → length s.order ≤ i → i < length (s.order ++ drop px s.path) → px + (i - length s.order) < length s.path
    new_within i h l = let e : length (s.order ++ drop px s.path) ≡ length s.order + (length s.path - px) = out_length in omega arith

    new_stands : (i : ℕ) → length s.order ≤ i → i < length (s.order ++ drop px s.path) → mark_of s.marks (get_or (s.order ++ drop px s.path) i 0) ≡ OnPath (px + (i - length s.order))
    new_stands i h l = ap (λ k. mark_of s.marks k) (at_new i h) ∙ v.tidy.standing (px + (i - length s.order)) (new_within i h l)

    new_done : (i : ℕ) → length s.order ≤ i → i < length (s.order ++ drop px s.path) → mark_of (closed s px).marks (get_or (s.order ++ drop px s.path) i 0) ≡ Done (length s.order)
    new_done i h l = gone (get_or (s.order ++ drop px s.path) i 0) (px + (i - length s.order)) (new_stands i h l) (omega arith)

    old_done : (i : ℕ) → i < length s.order → DoneBy s.marks (get_or (s.order ++ drop px s.path) i 0) i
    old_done i h = subst (λ k. DoneBy s.marks k i) (sym (at_old i h)) (v.sorted.order_done i h)

    done_more : (t c : ℕ) → DoneBy s.marks t c → DoneBy (closed s px).marks t c
    done_more t c d = record { part = d.part; mark = kept_done t d.part d.mark; bounded = d.bounded }

    old_mark : (i c : ℕ) → i < length s.order → mark_of (closed s px).marks (get_or (s.order ++ drop px s.path) i 0) ≡ Done c → mark_of s.marks (get_or (s.order ++ drop px s.path) i 0) ≡ Done c
    old_mark i c h e =
        let d : DoneBy s.marks (get_or (s.order ++ drop px s.path) i 0) i = old_done i h in
        d.mark ∙ ap Done (part_one d.part c (sym (kept_done (get_or (s.order ++ drop px s.path) i 0) d.part d.mark) ∙ e))

    closed_sorted : Sorted g (closed s px).marks (closed s px).order
    closed_sorted = record {
      edges = λ z w c e h. edges_of z w c (from_done z c e) h;
      one_part = λ z w c e f. one_part_of z w c (from_done z c e) (from_done w c f);
      out = λ z c e. out_of z c (from_done z c e);
      numbers_below = λ z c e. numbers_of z c (from_done z c e);
      order_nodes = λ i h. nodes_of i h (cases_lt i (length s.order));
      order_done = λ i h. done_of i h (cases_lt i (length s.order));
      order_rises = λ i j c d h k e f. rises_of i j c d h k e f (cases_lt i (length s.order)) (cases_lt j (length s.order));
      order_once = λ i j h k e. once_of i j h k e (cases_lt i (length s.order)) (cases_lt j (length s.order));
    }
      where
        handled_of : (p w : ℕ) → px ≤ p → Handled s.marks s.bounds p w → DoneBy (closed s px).marks w (length s.order)
        handled_of p w l (to_done d f) = record { part = d; mark = kept_done w d f; bounded = (let h : d < length s.order = v.sorted.numbers_below w d f in omega arith) }
        handled_of p w l (to_part q f same) = record { part = length s.order; mark = gone w q f ((same px bound_at).0 l); bounded = omega arith }

        ended_of : (z p : ℕ) → mark_of s.marks z ≡ OnPath p → px ≤ p → get_or s.next z 0 ≡ get_or g.starts (z + 1) 0
        ended_of z p e l = ended_at z p e (λ h. let k : p < px = calls_down.0 p h in omega arith)

        edges_of : (z w c : ℕ) → (mark_of s.marks z ≡ Done c) ⊎ ((p : ℕ) × (mark_of s.marks z ≡ OnPath p) × (px ≤ p) × (c ≡ length s.order)) → HasEdge g z w → DoneBy (closed s px).marks w c
        edges_of z w c (inl e) h = done_more w c (v.sorted.edges z w c e h)
        edges_of z w c (inr (p, e, l, f)) h =
            let n : get_or s.next z 0 ≡ get_or g.starts (z + 1) 0 = ended_of z p e l in
            let b : h.place < get_or g.starts (z + 1) 0 = h.before in
            subst (λ k. DoneBy (closed s px).marks w k) (sym f) (subst (λ k. DoneBy (closed s px).marks k (length s.order)) h.leads (handled_of p (get_or g.targets h.place 0) l (v.linked.handled z p h.place e h.from (omega arith))))

        one_part_of : (z w c : ℕ) → (mark_of s.marks z ≡ Done c) ⊎ ((p : ℕ) × (mark_of s.marks z ≡ OnPath p) × (px ≤ p) × (c ≡ length s.order)) → (mark_of s.marks w ≡ Done c) ⊎ ((p : ℕ) × (mark_of s.marks w ≡ OnPath p) × (px ≤ p) × (c ≡ length s.order)) → Leads g z w
        one_part_of z w c (inl e) (inl f) = v.sorted.one_part z w c e f
        one_part_of z w c (inl e) (inr (q, f, l, n)) = absurd (let h : c < length s.order = v.sorted.numbers_below z c e in omega arith)
        one_part_of z w c (inr (p, e, l, n)) (inl f) = absurd (let h : c < length s.order = v.sorted.numbers_below w c f in omega arith)
        one_part_of z w c (inr (p, e, l, n)) (inr (q, f, k, m)) = v.linked.same z w p q e f (λ b h. (let i : b ≤ px = highest b h in ((λ j. omega arith), (λ j. omega arith))))

        out_of : (z c : ℕ) → (mark_of s.marks z ≡ Done c) ⊎ ((p : ℕ) × (mark_of s.marks z ≡ OnPath p) × (px ≤ p) × (c ≡ length s.order)) → StandsIn (s.order ++ drop px s.path) z
        out_of z c (inl e) =
            let o : StandsIn s.order z = v.sorted.out z c e in
            let l : o.place < length s.order = o.within in
            let n : length (s.order ++ drop px s.path) ≡ length s.order + (length s.path - px) = out_length in
            record { place = o.place; within = omega arith; stands = at_old o.place l ∙ o.stands }
        out_of z c (inr (p, e, l, f)) =
            let h : p < length s.path = v.tidy.placed z p e in
            let n : length (s.order ++ drop px s.path) ≡ length s.order + (length s.path - px) = out_length in
            let i : px + ((length s.order + (p - px)) - length s.order) ≡ p = omega arith in
            record { place = length s.order + (p - px); within = omega arith; stands = at_new (length s.order + (p - px)) (omega arith) ∙ ap (λ k. get_or s.path k 0) i ∙ v.tidy.stands z p e }

        numbers_of : (z c : ℕ) → (mark_of s.marks z ≡ Done c) ⊎ ((p : ℕ) × (mark_of s.marks z ≡ OnPath p) × (px ≤ p) × (c ≡ length s.order)) → c < length (s.order ++ drop px s.path)
        numbers_of z c (inl e) = let h : c < length s.order = v.sorted.numbers_below z c e in let n : length (s.order ++ drop px s.path) ≡ length s.order + (length s.path - px) = out_length in omega arith
        numbers_of z c (inr (p, e, l, f)) = let h : p < length s.path = v.tidy.placed z p e in let n : length (s.order ++ drop px s.path) ≡ length s.order + (length s.path - px) = out_length in omega arith

        nodes_of : (i : ℕ) → i < length (s.order ++ drop px s.path) → (i < length s.order) ⊎ (length s.order ≤ i) → IsNode g (get_or (s.order ++ drop px s.path) i 0)
        nodes_of i h (inl l) = subst (λ k. IsNode g k) (sym (at_old i l)) (v.sorted.order_nodes i l)
        nodes_of i h (inr l) = subst (λ k. IsNode g k) (sym (at_new i l)) (v.tidy.nodes (px + (i - length s.order)) (new_within i l h))

        done_of : (i : ℕ) → i < length (s.order ++ drop px s.path) → (i < length s.order) ⊎ (length s.order ≤ i) → DoneBy (closed s px).marks (get_or (s.order ++ drop px s.path) i 0) i
        done_of i h (inl l) = done_more (get_or (s.order ++ drop px s.path) i 0) i (old_done i l)
        done_of i h (inr l) = record { part = length s.order; mark = new_done i l h; bounded = l }

        rises_of : (i j c d : ℕ) → i ≤ j → j < length (s.order ++ drop px s.path) → mark_of (closed s px).marks (get_or (s.order ++ drop px s.path) i 0) ≡ Done c → mark_of (closed s px).marks (get_or (s.order ++ drop px s.path) j 0) ≡ Done d → (i < length s.order) ⊎ (length s.order ≤ i) → (j < length s.order) ⊎ (length s.order ≤ j) → c ≤ d
        rises_of i j c d h k e f (inl l) (inl m) = v.sorted.order_rises i j c d h m (ap (λ w. mark_of s.marks w) (sym (at_old i l)) ∙ old_mark i c l e) (ap (λ w. mark_of s.marks w) (sym (at_old j m)) ∙ old_mark j d m f)
        rises_of i j c d h k e f (inl l) (inr m) =
            let n : d ≡ length s.order = part_one d (length s.order) (sym f ∙ new_done j m k) in
            let o : c < length s.order = v.sorted.numbers_below (get_or (s.order ++ drop px s.path) i 0) c (old_mark i c l e) in
            omega arith
        rises_of i j c d h k e f (inr l) (inl m) = absurd (omega arith)
        rises_of i j c d h k e f (inr l) (inr m) =
            let n : d ≡ length s.order = part_one d (length s.order) (sym f ∙ new_done j m k) in
            let o : c ≡ length s.order = part_one c (length s.order) (sym e ∙ new_done i l (omega arith)) in
            omega arith

        once_of : (i j : ℕ) → i < j → j < length (s.order ++ drop px s.path) → get_or (s.order ++ drop px s.path) i 0 ≡ get_or (s.order ++ drop px s.path) j 0 → (i < length s.order) ⊎ (length s.order ≤ i) → (j < length s.order) ⊎ (length s.order ≤ j) → ⊥
        once_of i j h k e (inl l) (inl m) = v.sorted.order_once i j h m (sym (at_old i l) ∙ e ∙ at_old j m)
        once_of i j h k e (inl l) (inr m) = let d : DoneBy s.marks (get_or (s.order ++ drop px s.path) i 0) i = old_done i l in not_path_done (px + (j - length s.order)) d.part (sym (new_stands j m k) ∙ ap (λ w. mark_of s.marks w) (sym e) ∙ d.mark)
        once_of i j h k e (inr l) (inl m) = omega arith
        once_of i j h k e (inr l) (inr m) =
            let n : px + (i - length s.order) ≡ px + (j - length s.order) = place_one (px + (i - length s.order)) (px + (j - length s.order)) (sym (new_stands i l (omega arith)) ∙ ap (λ w. mark_of s.marks w) e ∙ new_stands j m k) in
            omega arith

    -- the part of the node that is left comes out
    pub closed_steps : (t : State) → t ≡ closed s px → StepsOn g s t
    closed_steps t e = subst (λ u. StepsOn g s u) (sym e) (record {
      valid = record { tidy = closed_tidy; stacked = closed_stacked; linked = closed_linked; sorted = closed_sorted };
      known = λ z unless i. unless (from_new z i);
      less = (let k : length (under s.calls) + 1 ≡ length s.calls = fewer_calls in
          let n : new_count (closed_marks (length s.order) (drop px s.path) s.marks) ≤ new_count s.marks = new_count-closed (length s.order) (drop px s.path) s.marks in omega arith);
    })

pub top_within : (g : Edges) (s : State) (px : ℕ) → Valid g s → top_of s.calls ≡ Some px → px < length s.path
top_within g s px v top = v.stacked.calls_within px (top_has s.calls px top)

module _ (g : Edges) (s : State) (px : ℕ) (v : Valid g s) (top : top_of s.calls ≡ Some px) (ended : get_or s.next (get_or s.path px 0) 0 ≡ get_or g.starts (get_or s.path px 0 + 1) 0) (t : State) where
  pub leave_closes : top_of s.bounds ≡ Some px → t ≡ closed s px → StepsOn g s t
  leave_closes first e = closed_steps g s px (get_or s.path px 0) v top (v.tidy.standing px (top_within g s px v top)) ended first t e

  pub leave_inner : (b : ℕ) → top_of s.bounds ≡ Some b → (b ≡ px → ⊥) → t ≡ left_behind s → StepsOn g s t
  leave_inner b first other e =
      left_steps g s px (get_or s.path px 0) v top (v.tidy.standing px (top_within g s px v top)) ended t
      (λ h.
      let l : px ≤ b = top_highest s.bounds b px first v.stacked.bounds_down h in
      let k : b ≤ px = top_highest s.calls px b top v.stacked.calls_down (v.stacked.called b (top_has s.bounds b first)) in
      other (omega arith))
      e

  pub leave_none : top_of s.bounds ≡ None → t ≡ left_behind s → StepsOn g s t
  leave_none none e = left_steps g s px (get_or s.path px 0) v top (v.tidy.standing px (top_within g s px v top)) ended t (none_has s.bounds px none) e
