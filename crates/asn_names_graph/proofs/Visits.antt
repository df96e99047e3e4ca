-- A node that is put on the path.
use Rattle.std.proofs.Common.{◌≡◌, ℕ, ◌+◌, ◌<◌, ◌≤◌, ◌⊎◌, inl, inr, [], ◌∷◌, ◌++◌, length, get_or, refl, ap, sym, ◌∙◌, subst, arith, get_or-set_same, get_or-set_other, length-append}
use Rattle.std.proofs.Math.ListN.{set, get_or-append}
use Rattle.std.proofs.Math.Seq.{get_or-append_seam}
use Rattle.std.proofs.lemmas.List.{length-set}
use Rattle.std.proofs.lemmas.Bool.{cases_lt}
use Rattle.asn_names_graph.specs.Graphs.{Edges, Has, IsNode}
use Rattle.asn_names_graph.specs.declared.mark.Mark.{Mark}
use Rattle.asn_names_graph.specs.declared.mark.Mark.TheVariants.{New, OnPath, Done}
use Rattle.asn_names_graph.specs.inner.State.{State, mark_of, visited}
use Rattle.asn_names_graph.specs.inner.Valid.{Leads, SamePart, Handled, to_done, to_part, DoneBy, Tidy, Stacked, Linked, Sorted, Valid, new_count, StepsOn}
use Rattle.asn_names_graph.proofs.Closing.{new_count-visited}
use Rattle.asn_names_graph.proofs.Lists.{here_at, set_cases, place_one, not_new_path, not_new_done, not_path_done}

module _ (g : Edges) (s : State) (y : ℕ) (v : Valid g s) (node : IsNode g y) (new : mark_of s.marks y ≡ New) where
  pub in_marks : y < length s.marks
  in_marks = let e : length s.marks ≡ length g.starts = v.tidy.marks_length in omega arith

  longer : length (s.path ++ y ∷ []) ≡ length s.path + 1
  longer = length-append s.path (y ∷ [])

  other : (z : ℕ) (m : Mark) → mark_of s.marks z ≡ m → (New ≡ m → ⊥) → mark_of (visited s y).marks z ≡ m
  other z m e unless = get_or-set_other s.marks y z (OnPath (length s.path)) New (λ i. unless (sym new ∙ ap (λ k. mark_of s.marks k) (sym i) ∙ e)) ∙ e

  pub itself : mark_of (visited s y).marks y ≡ OnPath (length s.path)
  itself = get_or-set_same s.marks y (OnPath (length s.path)) New in_marks

  at_old : (p : ℕ) → p < length s.path → get_or (s.path ++ y ∷ []) p 0 ≡ get_or s.path p 0
  at_old p h = get_or-append s.path (y ∷ []) 0 p h

  at_new : (p : ℕ) → p ≡ length s.path → get_or (s.path ++ y ∷ []) p 0 ≡ y
  at_new p e = ap (λ k. get_or (s.path ++ y ∷ []) k 0) e ∙ get_or-append_seam s.path y [] 0

  from_path : (z p : ℕ) → mark_of (visited s y).marks z ≡ OnPath p → ((z ≡ y) × (p ≡ length s.path)) ⊎ (mark_of s.marks z ≡ OnPath p)
  from_path z p e = go (set_cases s.marks y z (OnPath (length s.path)) (OnPath p) in_marks e)
    where
      go : ((z ≡ y) × (OnPath p ≡ OnPath (length s.path))) ⊎ ((z ≡ y → ⊥) × (mark_of s.marks z ≡ OnPath p)) → ((z ≡ y) × (p ≡ length s.path)) ⊎ (mark_of s.marks z ≡ OnPath p)
      go (inl i) = inl (i.0, place_one _ _ i.1)
      go (inr i) = inr i.1

  from_new : (z : ℕ) → mark_of (visited s y).marks z ≡ New → mark_of s.marks z ≡ New
  from_new z e = go (set_cases s.marks y z (OnPath (length s.path)) New in_marks e)
    where
      go : ((z ≡ y) × (New ≡ OnPath (length s.path))) ⊎ ((z ≡ y → ⊥) × (mark_of s.marks z ≡ New)) → mark_of s.marks z ≡ New
      go (inl i) = absurd (not_new_path _ i.1)
      go (inr i) = i.1

  from_done : (z c : ℕ) → mark_of (visited s y).marks z ≡ Done c → mark_of s.marks z ≡ Done c
  from_done z c e = go (set_cases s.marks y z (OnPath (length s.path)) (Done c) in_marks e)
    where
      go : ((z ≡ y) × (Done c ≡ OnPath (length s.path))) ⊎ ((z ≡ y → ⊥) × (mark_of s.marks z ≡ Done c)) → mark_of s.marks z ≡ Done c
      go (inl i) = absurd (not_path_done _ _ (sym i.1))
      go (inr i) = i.1

  visited_tidy : Tidy g (visited s y).marks (visited s y).next (visited s y).path
  visited_tidy = record {
    marks_length = length-set s.marks y (OnPath (length s.path)) ∙ v.tidy.marks_length;
    next_length = v.tidy.next_length;
    nodes = λ p h. nodes_of p (cases_lt p (length s.path)) h;
    standing = λ p h. standing_of p (cases_lt p (length s.path)) h;
    placed = λ z p e. placed_of z p (from_path z p e);
    stands = λ z p e. stands_of z p (from_path z p e);
    fresh = λ z e. v.tidy.fresh z (from_new z e);
    not_before = v.tidy.not_before;
    not_past = v.tidy.not_past;
  }
    where
      nodes_of : (p : ℕ) → (p < length s.path) ⊎ (length s.path ≤ p) → p < length (s.path ++ y ∷ []) → IsNode g (get_or (s.path ++ y ∷ []) p 0)
      nodes_of p (inl h) l = subst (λ k. IsNode g k) (sym (at_old p h)) (v.tidy.nodes p h)
      nodes_of p (inr h) l = subst (λ k. IsNode g k) (sym (at_new p (let e : length (s.path ++ y ∷ []) ≡ length s.path + 1 = longer in omega arith))) node

      standing_of : (p : ℕ) → (p < length s.path) ⊎ (length s.path ≤ p) → p < length (s.path ++ y ∷ []) → mark_of (visited s y).marks (get_or (s.path ++ y ∷ []) p 0) ≡ OnPath p
      standing_of p (inl h) l = ap (λ k. mark_of (visited s y).marks k) (at_old p h) ∙ other (get_or s.path p 0) (OnPath p) (v.tidy.standing p h) (not_new_path p)
      standing_of p (inr h) l = let e : p ≡ length s.path = (let i : length (s.path ++ y ∷ []) ≡ length s.path + 1 = longer in omega arith) in ap (λ k. mark_of (visited s y).marks k) (at_new p e) ∙ itself ∙ ap OnPath (sym e)

      placed_of : (z p : ℕ) → ((z ≡ y) × (p ≡ length s.path)) ⊎ (mark_of s.marks z ≡ OnPath p) → p < length (s.path ++ y ∷ [])
      placed_of z p (inl i) = let e : length (s.path ++ y ∷ []) ≡ length s.path + 1 = longer in omega (arith, i.1)
      placed_of z p (inr i) = let e : length (s.path ++ y ∷ []) ≡ length s.path + 1 = longer in let h : p < length s.path = v.tidy.placed z p i in omega arith

      stands_of : (z p : ℕ) → ((z ≡ y) × (p ≡ length s.path)) ⊎ (mark_of s.marks z ≡ OnPath p) → get_or (s.path ++ y ∷ []) p 0 ≡ z
      stands_of z p (inl i) = at_new p i.1 ∙ sym i.0
      stands_of z p (inr i) = at_old p (v.tidy.placed z p i) ∙ v.tidy.stands z p i

  visited_stacked : Stacked g (visited s y).marks (visited s y).next (visited s y).path (visited s y).calls (visited s y).bounds
  visited_stacked = record {
    finished = λ z p e unless. finished_of z p (from_path z p e) unless;
    called = λ b h. called_of b h;
    calls_down = (v.stacked.calls_within, v.stacked.calls_down);
    bounds_down = ((λ b h. v.stacked.calls_within b (v.stacked.called b h)), v.stacked.bounds_down);
    calls_within = λ b h. within_of b h;
    bottom = λ h. bottom_of (cases_lt 0 (length s.path));
  }
    where
      finished_of : (z p : ℕ) → ((z ≡ y) × (p ≡ length s.path)) ⊎ (mark_of s.marks z ≡ OnPath p) → (Has (length s.path ∷ s.calls) p → ⊥) → get_or s.next z 0 ≡ get_or g.starts (z + 1) 0
      finished_of z p (inl i) unless = absurd (unless (inl i.1))
      finished_of z p (inr i) unless = v.stacked.finished z p i (λ h. unless (inr h))

      called_of : (b : ℕ) → Has (length s.path ∷ s.bounds) b → Has (length s.path ∷ s.calls) b
      called_of b (inl e) = inl e
      called_of b (inr h) = inr (v.stacked.called b h)

      within_of : (b : ℕ) → Has (length s.path ∷ s.calls) b → b < length (s.path ++ y ∷ [])
      within_of b (inl e) = let i : length (s.path ++ y ∷ []) ≡ length s.path + 1 = longer in omega arith
      within_of b (inr h) = let i : length (s.path ++ y ∷ []) ≡ length s.path + 1 = longer in let l : b < length s.path = v.stacked.calls_within b h in omega arith

      bottom_of : (0 < length s.path) ⊎ (length s.path ≤ 0) → Has (length s.path ∷ s.bounds) 0
      bottom_of (inl h) = inr (v.stacked.bottom h)
      bottom_of (inr h) = inl (omega arith)

  -- parts of the old path are the parts that they were
  same_more : (p q : ℕ) → p < length s.path → q < length s.path → SamePart s.bounds p q → SamePart (length s.path ∷ s.bounds) p q
  same_more p q h k same b (inl e) = ((λ l. absurd (omega arith)), (λ l. absurd (omega arith)))
  same_more p q h k same b (inr i) = same b i

  module _ (leads : (z p : ℕ) → mark_of s.marks z ≡ OnPath p → Leads g z y) where
    visited_linked : Linked g (visited s y).marks (visited s y).next (visited s y).bounds
    visited_linked = record {
      later = λ x z p q e f h. later_of x z p q (from_path x p e) (from_path z q f) h;
      same = λ x z p q e f h. same_of x z p q (from_path x p e) (from_path z q f) h;
      handled = λ x p k e h l. handled_of x p k (from_path x p e) h l;
    }
      where
        later_of : (x z p q : ℕ) → ((x ≡ y) × (p ≡ length s.path)) ⊎ (mark_of s.marks x ≡ OnPath p) → ((z ≡ y) × (q ≡ length s.path)) ⊎ (mark_of s.marks z ≡ OnPath q) → p ≤ q → Leads g x z
        later_of x z p q (inl i) (inl j) h = here_at g x z (i.0 ∙ sym j.0)
        later_of x z p q (inl i) (inr f) h = absurd (omega (arith, i.1, v.tidy.placed z q f))
        later_of x z p q (inr e) (inl j) h = subst (λ k. Leads g x k) (sym j.0) (leads x p e)
        later_of x z p q (inr e) (inr f) h = v.linked.later x z p q e f h

        same_of : (x z p q : ℕ) → ((x ≡ y) × (p ≡ length s.path)) ⊎ (mark_of s.marks x ≡ OnPath p) → ((z ≡ y) × (q ≡ length s.path)) ⊎ (mark_of s.marks z ≡ OnPath q) → SamePart (length s.path ∷ s.bounds) p q → Leads g x z
        same_of x z p q (inl i) (inl j) h = here_at g x z (i.0 ∙ sym j.0)
        same_of x z p q (inl i) (inr f) h = absurd (let k : length s.path ≤ q = (h (length s.path) (inl refl)).0 (omega (arith, i.1)) in omega (arith, v.tidy.placed z q f))
        same_of x z p q (inr e) (inl j) h = subst (λ k. Leads g x k) (sym j.0) (leads x p e)
        same_of x z p q (inr e) (inr f) h = v.linked.same x z p q e f (λ b i. h b (inr i))

        handled_old : (p t : ℕ) → p < length s.path → Handled s.marks s.bounds p t → Handled (visited s y).marks (length s.path ∷ s.bounds) p t
        handled_old p t h (to_done c e) = to_done c (other t (Done c) e (not_new_done c))
        handled_old p t h (to_part q e same) = to_part q (other t (OnPath q) e (not_new_path q)) (same_more p q h (v.tidy.placed t q e) same)

        handled_of : (x p k : ℕ) → ((x ≡ y) × (p ≡ length s.path)) ⊎ (mark_of s.marks x ≡ OnPath p) → get_or g.starts x 0 ≤ k → k < get_or s.next x 0 → Handled (visited s y).marks (length s.path ∷ s.bounds) p (get_or g.targets k 0)
        handled_of x p k (inl i) h l = absurd (let e : get_or s.next x 0 ≡ get_or g.starts x 0 = v.tidy.fresh x (ap (λ z. mark_of s.marks z) i.0 ∙ new) in omega arith)
        handled_of x p k (inr e) h l = handled_old p (get_or g.targets k 0) (v.tidy.placed x p e) (v.linked.handled x p k e h l)

    done_more : (t c : ℕ) → DoneBy s.marks t c → DoneBy (visited s y).marks t c
    done_more t c d = record { part = d.part; mark = other t (Done d.part) d.mark (not_new_done d.part); bounded = d.bounded }

    visited_sorted : Sorted g (visited s y).marks (visited s y).order
    visited_sorted = record {
      edges = λ x z c e h. done_more z c (v.sorted.edges x z c (from_done x c e) h);
      one_part = λ x z c e f. v.sorted.one_part x z c (from_done x c e) (from_done z c f);
      out = λ z c e. v.sorted.out z c (from_done z c e);
      numbers_below = λ z c e. v.sorted.numbers_below z c (from_done z c e);
      order_nodes = v.sorted.order_nodes;
      order_done = λ i h. done_more (get_or s.order i 0) i (v.sorted.order_done i h);
      order_rises = λ i j c d h k e f. v.sorted.order_rises i j c d h k (from_done _ c e) (from_done _ d f);
      order_once = v.sorted.order_once;
    }

    pub visited_valid : Valid g (visited s y)
    visited_valid = record { tidy = visited_tidy; stacked = visited_stacked; linked = visited_linked; sorted = visited_sorted }

    pub visit_steps : (t : State) → t ≡ visited s y → StepsOn g s t
    visit_steps t e = subst (λ u. StepsOn g s u) (sym e) (record {
      valid = visited_valid;
      known = λ z unless i. unless (from_new z i);
      less = (let c : new_count (set s.marks y (OnPath (length s.path))) + 1 ≡ new_count s.marks = new_count-visited s.marks y (length s.path) in_marks new in omega arith);
    })
