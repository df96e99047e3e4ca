-- Members put together, one by one, and members within a number of steps.
use Rattle.std.proofs.Common.{◌≡◌, ℕ, ◌+◌, ◌-◌, ◌<◌, ◌≤◌, suc, List, [], ◌∷◌, ◌++◌, map, drop, length, get_or, Bool, true, false, if◌then◌else◌, Option, Some, None, refl, sym, ap, ◌∙◌, arith}
use Rattle.std.specs.Prelude.{nat_eq, not}
use Rattle.std.proofs.lemmas.List.{drop_more, drop_all}
use Rattle.asn_tree.specs.declared.types.SequenceOrSetMember.{SequenceOrSetMember}
use Rattle.asn_meaning_shapes.specs.declared.members.Member.{Member as LentMember}
use Rattle.asn_meaning_shapes.specs.Members.{shown_member, shown_members}
use Rattle.asn_meaning.specs.Answers.{once}
use Rattle.asn_meaning.specs.Definitions.{Definitions}
use Rattle.asn_meaning.specs.Judge.{meaning, nothing_known, step}
use Rattle.asn_meaning.specs.Layers.{StructLayer}
use Rattle.asn_meaning.specs.Meaning.{Meaning, Member}
use Rattle.asn_meaning.specs.Members.{and_then, components_of, members_at, members_from, members_of, moved, put_in, root_members, written_member}
use Rattle.asn_meaning.specs.Names.{head_named}
use Rattle.asn_meaning.specs.Scopes.{Place, Scope}

-- ---- lists

both_shown : (ms ns : List LentMember) → shown_members (ms ++ ns) ≡ shown_members ms ++ shown_members ns
both_shown [] ns = refl
both_shown (m ∷ ms) ns = ap (λ xs. shown_member m ∷ xs) (both_shown ms ns)

pub one_more : (all ms : List LentMember) (m : LentMember) → all ≡ ms ++ m ∷ [] → shown_members all ≡ shown_members ms ++ shown_member m ∷ []
one_more all ms m e = ap shown_members e ∙ both_shown ms (m ∷ [])

pub all_of_both : (all ms ns : List LentMember) → all ≡ ms ++ ns → shown_members all ≡ shown_members ms ++ shown_members ns
all_of_both all ms ns e = ap shown_members e ∙ both_shown ms ns

regrouped : (a b c : List Member) → (a ++ b) ++ c ≡ a ++ (b ++ c)
regrouped [] b c = refl
regrouped (x ∷ a) b c = ap (λ xs. x ∷ xs) (regrouped a b c)

ended : (a : List Member) → a ++ [] ≡ a
ended [] = refl
ended (x ∷ a) = ap (λ xs. x ∷ xs) (ended a)

-- ---- root members

abbrev pub roots : Bool → List LentMember → List Member
roots among ms = map (moved among) (root_members (shown_members ms))

roots_first : (among : Bool) (m : LentMember) (ms : List LentMember) → roots among (m ∷ ms) ≡ (if not m.is_addition then moved among (shown_member m) ∷ roots among ms else roots among ms)
roots_first among m ms = go m.is_addition
  where
    go : (b : Bool) → map (moved among) (if not b then shown_member m ∷ root_members (shown_members ms) else root_members (shown_members ms)) ≡ (if not b then moved among (shown_member m) ∷ roots among ms else roots among ms)
    go true = refl
    go false = refl

root_step : (among : Bool) (ms : List LentMember) (i : ℕ) (m : LentMember) → i < length ms → m ≡ get_or ms i m →
    roots among (drop i ms) ≡ (if not m.is_addition then moved among (shown_member m) ∷ roots among (drop (i + 1) ms) else roots among (drop (i + 1) ms))
root_step among ms i m lt e =
    ap (roots among) (drop_more ms i m lt ∙ ap (λ x. x ∷ drop (i + 1) ms) (sym e)) ∙ roots_first among m (drop (i + 1) ms)

pub root_passed : (among : Bool) (ms : List LentMember) (i : ℕ) (m : LentMember) → i < length ms → m ≡ get_or ms i m → m.is_addition ≡ true →
    roots among (drop i ms) ≡ roots among (drop (i + 1) ms)
root_passed among ms i m lt e is =
    root_step among ms i m lt e ∙ ap (λ b. if not b then moved among (shown_member m) ∷ roots among (drop (i + 1) ms) else roots among (drop (i + 1) ms)) is

pub root_taken : (among : Bool) (ms : List LentMember) (i : ℕ) (m : LentMember) (out : List Member) → i < length ms → m ≡ get_or ms i m → m.is_addition ≡ false →
    out ++ roots among (drop i ms) ≡ (out ++ moved among (shown_member m) ∷ []) ++ roots among (drop (i + 1) ms)
root_taken among ms i m out lt e is =
    ap (λ xs. out ++ xs) (root_step among ms i m lt e ∙ ap (λ b. if not b then moved among (shown_member m) ∷ roots among (drop (i + 1) ms) else roots among (drop (i + 1) ms)) is)
    ∙ sym (regrouped out (moved among (shown_member m) ∷ []) (roots among (drop (i + 1) ms)))

pub roots_done : (among : Bool) (ms : List LentMember) (i : ℕ) (out : List Member) → length ms ≤ i → out ++ roots among (drop i ms) ≡ out
roots_done among ms i out le = ap (λ xs. out ++ roots among xs) (drop_all i ms le) ∙ ended out

-- ---- runs of members

begun : (b : Option (List Member)) → and_then (Some []) b ≡ b
begun None = refl
begun (Some ns) = refl

then_found : (out ms : List Member) (b : Option (List Member)) → and_then (Some out) (and_then (Some ms) b) ≡ and_then (Some (out ++ ms)) b
then_found out ms None = refl
then_found out ms (Some ns) = ap Some (sym (regrouped out ms ns))

then_nothing : (out : List Member) → and_then (Some out) (Some []) ≡ Some out
then_nothing out = ap Some (ended out)

-- ---- what names after COMPONENTS OF put in

abbrev pub put_at : Meaning → Scope → ℕ → List ℕ → ℕ × Bool → Option (List Member)
put_at M scope number name at = if nat_eq at.0 number then components_of M scope at.1 name else Some []

pub put_begin : (M : Meaning) (scope : Scope) (number : ℕ) (names : List (List ℕ)) (ats : List (ℕ × Bool)) →
    and_then (Some []) (put_in M scope number names ats) ≡ put_in M scope number names ats
put_begin M scope number names ats = begun (put_in M scope number names ats)

put_first : (M : Meaning) (scope : Scope) (number : ℕ) (names : List (List ℕ)) (ats : List (ℕ × Bool)) (i : ℕ) → i < length names → i < length ats → (name : List ℕ) → (at : ℕ × Bool) →
    put_in M scope number (drop i names) (drop i ats) ≡ and_then (put_at M scope number (get_or names i name) (get_or ats i at)) (put_in M scope number (drop (i + 1) names) (drop (i + 1) ats))
put_first M scope number names ats i lt less name at =
    ap (λ xs. put_in M scope number xs (drop i ats)) (drop_more names i name lt)
    ∙ ap (λ xs. put_in M scope number (get_or names i name ∷ drop (i + 1) names) xs) (drop_more ats i at less)

pub put_lost : (M : Meaning) (scope : Scope) (number : ℕ) (names : List (List ℕ)) (ats : List (ℕ × Bool)) (i : ℕ) (name : List ℕ) (at : ℕ × Bool) (out : List Member) →
    i < length names → i < length ats → name ≡ get_or names i name → at ≡ get_or ats i at → put_at M scope number name at ≡ None →
    and_then (Some out) (put_in M scope number (drop i names) (drop i ats)) ≡ None
put_lost M scope number names ats i name at out lt less is stands lost =
    ap (and_then (Some out)) (put_first M scope number names ats i lt less name at
    ∙ ap (λ x. and_then x (put_in M scope number (drop (i + 1) names) (drop (i + 1) ats)))
    (ap (λ n. put_at M scope number n (get_or ats i at)) (sym is) ∙ ap (put_at M scope number name) (sym stands) ∙ lost))

pub put_next : (M : Meaning) (scope : Scope) (number : ℕ) (names : List (List ℕ)) (ats : List (ℕ × Bool)) (i : ℕ) (name : List ℕ) (at : ℕ × Bool) (out ms all : List Member) →
    i < length names → i < length ats → name ≡ get_or names i name → at ≡ get_or ats i at → put_at M scope number name at ≡ Some ms → all ≡ out ++ ms →
    and_then (Some out) (put_in M scope number (drop i names) (drop i ats)) ≡ and_then (Some all) (put_in M scope number (drop (i + 1) names) (drop (i + 1) ats))
put_next M scope number names ats i name at out ms all lt less is stands found e =
    ap (and_then (Some out)) (put_first M scope number names ats i lt less name at
    ∙ ap (λ x. and_then x (put_in M scope number (drop (i + 1) names) (drop (i + 1) ats)))
    (ap (λ n. put_at M scope number n (get_or ats i at)) (sym is) ∙ ap (put_at M scope number name) (sym stands) ∙ found))
    ∙ then_found out ms (put_in M scope number (drop (i + 1) names) (drop (i + 1) ats))
    ∙ ap (λ xs. and_then (Some xs) (put_in M scope number (drop (i + 1) names) (drop (i + 1) ats))) (sym e)

pub put_done : (M : Meaning) (scope : Scope) (number : ℕ) (names : List (List ℕ)) (ats : List (ℕ × Bool)) (i : ℕ) (out : List Member) → length names ≤ i →
    and_then (Some out) (put_in M scope number (drop i names) (drop i ats)) ≡ Some out
put_done M scope number names ats i out le = ap (λ xs. and_then (Some out) (put_in M scope number xs (drop i ats))) (drop_all i names le) ∙ then_nothing out

none_behind : (M : Meaning) (scope : Scope) (number : ℕ) (names : List (List ℕ)) → put_in M scope number names [] ≡ Some []
none_behind M scope number [] = refl
none_behind M scope number (name ∷ names) = refl

pub put_short : (M : Meaning) (scope : Scope) (number : ℕ) (names : List (List ℕ)) (ats : List (ℕ × Bool)) (i : ℕ) (out : List Member) → length ats ≤ i →
    and_then (Some out) (put_in M scope number (drop i names) (drop i ats)) ≡ Some out
put_short M scope number names ats i out le =
    ap (λ xs. and_then (Some out) (put_in M scope number (drop i names) xs)) (drop_all i ats le)
    ∙ ap (and_then (Some out)) (none_behind M scope number (drop i names)) ∙ then_nothing out

-- ---- the members from a number on

abbrev pub from : Meaning → Scope → StructLayer → ℕ → Option (List Member)
from M scope x number = members_from M scope x number (drop number x.members)

abbrev pub put_before : Meaning → Scope → StructLayer → ℕ → Option (List Member)
put_before M scope x number = put_in M scope number x.components_of x.components_at

pub members_begin : (M : Meaning) (scope : Scope) (x : StructLayer) → and_then (Some []) (from M scope x 0) ≡ members_at M scope x
members_begin M scope x = begun (members_at M scope x)

from_first : (M : Meaning) (scope : Scope) (x : StructLayer) (i : ℕ) (m : SequenceOrSetMember) → i < length x.members → m ≡ get_or x.members i m →
    from M scope x i ≡ and_then (put_before M scope x i) (and_then (Some (written_member scope x.extensible i m ∷ [])) (from M scope x (i + 1)))
from_first M scope x i m lt e =
    let next : suc i ≡ i + 1 = omega arith in
    ap (members_from M scope x i) (drop_more x.members i m lt ∙ ap (λ y. y ∷ drop (i + 1) x.members) (sym e))
    ∙ ap (λ k. and_then (put_before M scope x i) (and_then (Some (written_member scope x.extensible i m ∷ [])) (members_from M scope x k (drop (i + 1) x.members)))) next

pub member_lost : (M : Meaning) (scope : Scope) (x : StructLayer) (i : ℕ) (out : List Member) → i < length x.members → put_before M scope x i ≡ None →
    and_then (Some out) (from M scope x i) ≡ None
member_lost M scope x i out lt lost = go (drop i x.members)
  where
    go : (ms : List SequenceOrSetMember) → and_then (Some out) (members_from M scope x i ms) ≡ None
    go [] = ap (and_then (Some out)) lost
    go (m ∷ ms) = ap (λ p. and_then (Some out) (and_then p (and_then (Some (written_member scope x.extensible i m ∷ [])) (members_from M scope x (suc i) ms)))) lost

pub member_next : (M : Meaning) (scope : Scope) (x : StructLayer) (i : ℕ) (m : SequenceOrSetMember) (out ps before all : List Member) (w : Member) → i < length x.members → m ≡ get_or x.members i m →
    put_before M scope x i ≡ Some ps → before ≡ out ++ ps → w ≡ written_member scope x.extensible i m → all ≡ before ++ w ∷ [] →
    and_then (Some out) (from M scope x i) ≡ and_then (Some all) (from M scope x (i + 1))
member_next M scope x i m out ps before all w lt e found joined written more =
    ap (and_then (Some out)) (from_first M scope x i m lt e ∙ ap (λ p. and_then p (and_then (Some (written_member scope x.extensible i m ∷ [])) (from M scope x (i + 1)))) found)
    ∙ then_found out ps (and_then (Some (written_member scope x.extensible i m ∷ [])) (from M scope x (i + 1)))
    ∙ then_found (out ++ ps) (written_member scope x.extensible i m ∷ []) (from M scope x (i + 1))
    ∙ ap (λ xs. and_then (Some xs) (from M scope x (i + 1)))
    (sym (more ∙ ap (λ y. before ++ y ∷ []) written ∙ ap (λ ys. ys ++ written_member scope x.extensible i m ∷ []) joined))

from_end : (M : Meaning) (scope : Scope) (x : StructLayer) (i : ℕ) → length x.members ≤ i → from M scope x i ≡ put_before M scope x i
from_end M scope x i le = ap (members_from M scope x i) (drop_all i x.members le)

pub members_lost : (M : Meaning) (scope : Scope) (x : StructLayer) (i n : ℕ) (out : List Member) → i ≡ n → length x.members ≡ n → put_before M scope x n ≡ None →
    and_then (Some out) (from M scope x i) ≡ None
members_lost M scope x i n out e f lost =
    ap (and_then (Some out)) (from_end M scope x i (omega arith) ∙ ap (put_before M scope x) e ∙ lost)

pub members_done : (M : Meaning) (scope : Scope) (x : StructLayer) (i n : ℕ) (out ps : List Member) → i ≡ n → length x.members ≡ n → put_before M scope x n ≡ Some ps →
    and_then (Some out) (from M scope x i) ≡ Some (out ++ ps)
members_done M scope x i n out ps e f found =
    ap (and_then (Some out)) (from_end M scope x i (omega arith) ∙ ap (put_before M scope x) e ∙ found)

-- ---- COMPONENTS OF

pub components_headless : (M : Meaning) (scope : Scope) (among : Bool) (name : List ℕ) → head_named M scope name ≡ None → components_of M scope among name ≡ None
components_headless M scope among name e = ap (λ h. once None h (λ h. once None (members_of M h) (λ ms. Some (map (moved among) (root_members ms))))) e

pub components_of_none : (M : Meaning) (scope : Scope) (among : Bool) (name : List ℕ) (h : Place) → head_named M scope name ≡ Some h → members_of M h ≡ None → components_of M scope among name ≡ None
components_of_none M scope among name h e f =
    ap (λ h. once None h (λ h. once None (members_of M h) (λ ms. Some (map (moved among) (root_members ms))))) e
    ∙ ap (λ ms. once None ms (λ ms. Some (map (moved among) (root_members ms)))) f

pub components_found : (M : Meaning) (scope : Scope) (among : Bool) (name : List ℕ) (h : Place) (ms : List Member) → head_named M scope name ≡ Some h → members_of M h ≡ Some ms →
    components_of M scope among name ≡ Some (map (moved among) (root_members ms))
components_found M scope among name h ms e f =
    ap (λ h. once None h (λ h. once None (members_of M h) (λ ms. Some (map (moved among) (root_members ms))))) e
    ∙ ap (λ ms. once None ms (λ ms. Some (map (moved among) (root_members ms)))) f

-- ---- steps

members_at_suc : (defs : Definitions) (n k : ℕ) (scope : Scope) (x : StructLayer) → n ≡ suc k → (meaning defs n).members scope x ≡ members_at (meaning defs k) scope x
unfolding meaning step
members_at_suc defs n k scope x more = ap (λ i. (meaning defs i).members scope x) more

pub members_at_more : (defs : Definitions) (n m : ℕ) (scope : Scope) (x : StructLayer) → 0 < n →
    (meaning defs (n + m)).members scope x ≡ members_at (meaning defs (n - 1 + m)) scope x
members_at_more defs n m scope x lt = members_at_suc defs (n + m) (n - 1 + m) scope x (omega arith)

-- Within no steps nothing has members.
pub no_members : (defs : Definitions) (n m : ℕ) (scope : Scope) (x : StructLayer) → n ≡ 0 → m ≡ 0 → (meaning defs (n + m)).members scope x ≡ None
unfolding meaning nothing_known
no_members defs n m scope x e f =
    let none : n + m ≡ 0 = omega arith in
    ap (λ k. (meaning defs k).members scope x) none
