-- Members by their numbers, and the marker that divides them.
use Rattle.std.proofs.Common.{◌≡◌, ◌∙◌, ◌+◌, ◌<◌, ◌≤◌, ◌++◌, ◌∷◌, [], Bool, List, None, Option, Some, ap, arith, drop, false, get_or, length, refl, suc, sym, true, ℕ}
use Rattle.std.specs.Prelude.{if◌then◌else◌}
use Rattle.std.proofs.lemmas.List.{drop_all, drop_more, length-append}
use Rattle.asn_tree.specs.declared.types.SequenceOrSetMember.{SequenceOrSetMember, out-SequenceOrSetMember, roll-SequenceOrSetMember, roll-out-SequenceOrSetMember}
use Rattle.asn_link_instance.specs.Instance.{member_instance, of_members}
use Rattle.asn_link_types.specs.inner.Parts.{member_at}
use Rattle.asn_link_types.proofs.Gathering.{done, followed, lost, next}
use Rattle.asn_meaning.specs.Answers.{once}
use Rattle.asn_meaning.specs.Definitions.{Definitions}
use Rattle.asn_meaning.specs.Judge.{meaning}
use Rattle.asn_meaning.specs.Layers.{MemberLayer}
use Rattle.asn_meaning.specs.Meaning.{Member}
use Rattle.asn_meaning.specs.Members.{is_addition_at}
use Rattle.asn_meaning.specs.ValueTrees.{same_truth}
use Rattle.asn_link_values.specs.Choosing.{chosen, instances}
use Rattle.asn_meaning_shapes.specs.declared.members.Member.{Member as LentMember}
use Rattle.asn_meaning_shapes.specs.Members.{shown_member, shown_members}

pub longer : (made : List SequenceOrSetMember) (one : SequenceOrSetMember) → length (made ++ one ∷ []) ≡ length made + 1
longer made one = length-append made (one ∷ [])

module _ (defs : Definitions) (n k : ℕ) (marker : Option ℕ) where
  abbrev pub from : ℕ → List LentMember → Option (List SequenceOrSetMember)
  from number ms = of_members chosen defs (meaning defs n) (instances defs n k) marker number (shown_members ms)

  -- the members from this one on, where something is made of it or nothing
  abbrev with_first : Option MemberLayer → Option (List SequenceOrSetMember) → Option (List SequenceOrSetMember)
  with_first w others = once None w (λ w. followed (roll-SequenceOrSetMember w ∷ []) others)

  divided : (m : Member) (number : ℕ) (b : Bool) (others : Option (List SequenceOrSetMember)) →
      (if b then with_first (member_instance chosen defs (meaning defs n) (instances defs n k) m.scope m.written) others else None)
      ≡ with_first (if b then member_instance chosen defs (meaning defs n) (instances defs n k) m.scope m.written else None) others
  divided m number true others = refl
  divided m number false others = refl

  more : (i : ℕ) → suc i ≡ i + 1
  more i = omega arith

  member_here : (ms : List LentMember) (i : ℕ) (m : LentMember) → i < length ms → m ≡ get_or ms i m →
      from i (drop i ms) ≡ with_first (member_at defs n k marker i (shown_member m)) (from (i + 1) (drop (i + 1) ms))
  member_here ms i m lt e =
      ap (from i) (drop_more ms i m lt ∙ ap (λ x. x ∷ drop (i + 1) ms) (sym e))
      ∙ divided (shown_member m) i (same_truth m.is_addition (is_addition_at marker i)) (from (suc i) (drop (i + 1) ms))
      ∙ ap (λ j. with_first (member_at defs n k marker i (shown_member m)) (from j (drop (i + 1) ms))) (more i)

  pub member_next : (ms : List LentMember) (i : ℕ) (m : LentMember) (made : List SequenceOrSetMember) (one : SequenceOrSetMember) → i < length ms → m ≡ get_or ms i m →
      Some (out-SequenceOrSetMember one) ≡ member_at defs n k marker i (shown_member m) →
      followed (made ++ one ∷ []) (from (i + 1) (drop (i + 1) ms)) ≡ followed made (from i (drop i ms))
  member_next ms i m made one lt e is =
      next made (one ∷ []) (from i (drop i ms)) (from (i + 1) (drop (i + 1) ms))
      (member_here ms i m lt e
      ∙ sym (ap (λ w. with_first w (from (i + 1) (drop (i + 1) ms))) is)
      ∙ ap (λ w. followed (w ∷ []) (from (i + 1) (drop (i + 1) ms))) (roll-out-SequenceOrSetMember one))

  pub member_lost : (ms : List LentMember) (i : ℕ) (m : LentMember) (made : List SequenceOrSetMember) → i < length ms → m ≡ get_or ms i m →
      None ≡ member_at defs n k marker i (shown_member m) → followed made (from i (drop i ms)) ≡ None
  member_lost ms i m made lt e is = lost made (from i (drop i ms)) (member_here ms i m lt e ∙ sym (ap (λ w. with_first w (from (i + 1) (drop (i + 1) ms))) is))

  pub members_done : (ms : List LentMember) (i : ℕ) (made : List SequenceOrSetMember) → length ms ≤ i → followed made (from i (drop i ms)) ≡ Some made
  members_done ms i made le = done made (from i (drop i ms)) (ap (from i) (drop_all i ms le))
