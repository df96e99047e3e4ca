-- The parts of trees one by one.
use Rattle.std.proofs.Common.{◌≡◌, ℕ, ◌+◌, ◌<◌, ◌≤◌, List, ◌∷◌, drop, length, get_or, true, false, sym, ap, ◌∙◌}
use Rattle.std.specs.Prelude.{ℤ, ◌&&◌, ◌||◌}
use Rattle.std.specs.List.{list_any}
use Rattle.std.specs.Str.{bytes_eq}
use Rattle.std.proofs.lemmas.List.{drop_more, drop_all}
use Rattle.asn_tree_kinds.specs.declared.types.Enumeral.{Enumeral}
use Rattle.asn_meaning_shapes.specs.declared.members.Member.{Member as LentMember}
use Rattle.asn_meaning_shapes.specs.declared.trees.Field.{Field, out-Field}
use Rattle.asn_meaning_shapes.specs.Members.{shown_member, shown_members}
use Rattle.asn_meaning_shapes.specs.Trees.{Named, shown_fields}
use Rattle.asn_meaning_shapes.proofs.Showing.{field_shown}
use Rattle.asn_meaning.specs.Members.{member_names}
use Rattle.asn_meaning.specs.ValueTrees.{are_among, is_among, same_number}

-- ---- one by one

pub number_first : (items : List Enumeral) (i : ℕ) (item : Enumeral) (number : ℤ) → i < length items → item ≡ get_or items i item →
    list_any (λ x. same_number x.index number) (drop i items) ≡ (same_number item.index number || list_any (λ x. same_number x.index number) (drop (i + 1) items))
number_first items i item number lt e =
    ap (list_any (λ x. same_number x.index number)) (drop_more items i item lt ∙ ap (λ x. x ∷ drop (i + 1) items) (sym e))

pub among_first : (ms : List LentMember) (i : ℕ) (m : LentMember) (name : List ℕ) → i < length ms → m ≡ get_or ms i m →
    is_among (member_names (shown_members (drop i ms))) name ≡ (bytes_eq (shown_member m).written.name name || is_among (member_names (shown_members (drop (i + 1) ms))) name)
among_first ms i m name lt e =
    ap (λ xs. is_among (member_names (shown_members xs)) name) (drop_more ms i m lt ∙ ap (λ x. x ∷ drop (i + 1) ms) (sym e))

fields_first : (names : List (List ℕ)) (fs : List Field) (i : ℕ) (f : Field) → i < length fs → f ≡ get_or fs i f →
    are_among names (shown_fields (drop i fs)) ≡ (is_among names (out-Field f).name && are_among names (shown_fields (drop (i + 1) fs)))
fields_first names fs i f lt e =
    ap (λ xs. are_among names (shown_fields xs)) (drop_more fs i f lt ∙ ap (λ x. x ∷ drop (i + 1) fs) (sym e))
    ∙ ap (λ (x : Named). is_among names x.0 && are_among names (shown_fields (drop (i + 1) fs))) (field_shown f)

pub fields_in : (names : List (List ℕ)) (fs : List Field) (i : ℕ) (f : Field) → i < length fs → f ≡ get_or fs i f → is_among names (out-Field f).name ≡ true →
    are_among names (shown_fields (drop i fs)) ≡ are_among names (shown_fields (drop (i + 1) fs))
fields_in names fs i f lt e among = fields_first names fs i f lt e ∙ ap (λ b. b && are_among names (shown_fields (drop (i + 1) fs))) among

pub fields_out : (names : List (List ℕ)) (fs : List Field) (i : ℕ) (f : Field) → i < length fs → f ≡ get_or fs i f → is_among names (out-Field f).name ≡ false →
    are_among names (shown_fields (drop i fs)) ≡ false
fields_out names fs i f lt e outside = fields_first names fs i f lt e ∙ ap (λ b. b && are_among names (shown_fields (drop (i + 1) fs))) outside

pub fields_done : (names : List (List ℕ)) (fs : List Field) (i : ℕ) → length fs ≤ i → are_among names (shown_fields (drop i fs)) ≡ true
fields_done names fs i le = ap (λ xs. are_among names (shown_fields xs)) (drop_all i fs le)
