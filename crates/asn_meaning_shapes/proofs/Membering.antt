-- Members one by one.
use Rattle.std.proofs.Common.{◌≡◌, ℕ, ◌+◌, ◌<◌, List, ◌∷◌, drop, length, get_or, Bool, true, false, if◌then◌else◌, Some, refl, sym, ap, ◌∙◌}
use Rattle.std.specs.Str.{bytes_eq}
use Rattle.std.proofs.lemmas.List.{drop_more}
use Rattle.asn_meaning_shapes.specs.declared.members.Member.{Member as LentMember}
use Rattle.asn_meaning_shapes.specs.Members.{shown_member, shown_members}
use Rattle.asn_meaning.specs.Members.{member_named}

pub member_first : (ms : List LentMember) (i : ℕ) (m : LentMember) (name : List ℕ) → i < length ms → m ≡ get_or ms i m →
    member_named (shown_members (drop i ms)) name ≡ (if bytes_eq (shown_member m).written.name name then Some (shown_member m) else member_named (shown_members (drop (i + 1) ms)) name)
member_first ms i m name lt e =
    ap (λ xs. member_named (shown_members xs) name) (drop_more ms i m lt) ∙ ap (λ x. member_named (shown_members (x ∷ drop (i + 1) ms)) name) (sym e)

pub member_here : (ms : List LentMember) (i : ℕ) (m : LentMember) (name : List ℕ) → i < length ms → m ≡ get_or ms i m → bytes_eq (shown_member m).written.name name ≡ true →
    member_named (shown_members (drop i ms)) name ≡ Some (shown_member m)
member_here ms i m name lt e same = member_first ms i m name lt e ∙ here (bytes_eq (shown_member m).written.name name) same
  where
    here : (b : Bool) → b ≡ true → (if b then Some (shown_member m) else member_named (shown_members (drop (i + 1) ms)) name) ≡ Some (shown_member m)
    here true f = refl
    here false f = absurd cc
