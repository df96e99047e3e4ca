-- Root members one by one.
use Rattle.std.proofs.Common.{◌≡◌, ℕ, ◌+◌, ◌<◌, ◌≤◌, List, ◌∷◌, drop, length, get_or, Bool, true, false, if◌then◌else◌, sym, ap, ◌∙◌, arith}
use Rattle.std.specs.Prelude.{not}
use Rattle.std.proofs.lemmas.List.{drop_more, drop_all}
use Rattle.asn_meaning_shapes.specs.declared.members.Member.{Member as LentMember}
use Rattle.asn_meaning_shapes.specs.Members.{shown_member, shown_members}
use Rattle.asn_meaning.specs.Meaning.{Member}
use Rattle.asn_meaning.specs.Members.{root_members}

-- how many root members there are
abbrev pub roots : List LentMember → ℕ
roots ms = length (root_members (shown_members ms))

counted : (b : Bool) (m : Member) (ms : List Member) (count new : ℕ) → new ≡ count + (if b then 0 else 1) →
    new + length ms ≡ count + length (if not b then m ∷ ms else ms)
counted true m ms count new e = omega arith
counted false m ms count new e = omega arith

pub root_next : (ms : List LentMember) (i : ℕ) (m : LentMember) (count new : ℕ) → i < length ms → m ≡ get_or ms i m → new ≡ count + (if m.is_addition then 0 else 1) →
    new + roots (drop (i + 1) ms) ≡ count + roots (drop i ms)
root_next ms i m count new lt e f =
    counted m.is_addition (shown_member m) (root_members (shown_members (drop (i + 1) ms))) count new f
    ∙ sym (ap (λ xs. count + roots xs) (drop_more ms i m lt ∙ ap (λ x. x ∷ drop (i + 1) ms) (sym e)))

pub roots_done : (ms : List LentMember) (i count : ℕ) → length ms ≤ i → count + roots (drop i ms) ≡ count
roots_done ms i count le =
    let none : roots (drop i ms) ≡ 0 = ap roots (drop_all i ms le) in omega arith
