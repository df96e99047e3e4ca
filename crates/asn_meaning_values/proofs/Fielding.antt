-- Written fields and members, one by one.
use Rattle.std.proofs.Common.{◌≡◌, ℕ, ◌+◌, ◌<◌, ◌≤◌, List, ◌∷◌, drop, length, get_or, true, false, sym, ap, ◌∙◌}
use Rattle.std.specs.Prelude.{◌&&◌, ◌||◌, not}
use Rattle.std.specs.Str.{bytes_eq}
use Rattle.std.proofs.lemmas.List.{drop_more, drop_all}
use Rattle.asn_meaning_values.specs.declared.braces.NamedValue.{NamedValue}
use Rattle.asn_meaning_values.specs.Braces.{shown_named_values}
use Rattle.asn_meaning_values.specs.inner.Structs.{all_stand, names_of, stands_or_lacks}
use Rattle.asn_meaning_shapes.specs.declared.members.Member.{Member as LentMember}
use Rattle.asn_meaning_shapes.specs.Members.{shown_member, shown_members}
use Rattle.asn_meaning.specs.Denotes.{are_distinct}
use Rattle.asn_meaning.specs.ValueTrees.{is_among}

abbrev pub names : List NamedValue → List (List ℕ)
names xs = names_of (shown_named_values xs)

pub named_first : (xs : List NamedValue) (i : ℕ) (x : NamedValue) (name : List ℕ) → i < length xs → x ≡ get_or xs i x →
    is_among (names (drop i xs)) name ≡ (bytes_eq x.name.now name || is_among (names (drop (i + 1) xs)) name)
named_first xs i x name lt e = ap (λ ys. is_among (names ys) name) (drop_more xs i x lt ∙ ap (λ y. y ∷ drop (i + 1) xs) (sym e))

distinct_first : (xs : List NamedValue) (i : ℕ) (x : NamedValue) → i < length xs → x ≡ get_or xs i x →
    are_distinct (names (drop i xs)) ≡ (not (is_among (names (drop (i + 1) xs)) x.name.now) && are_distinct (names (drop (i + 1) xs)))
distinct_first xs i x lt e = ap (λ ys. are_distinct (names ys)) (drop_more xs i x lt ∙ ap (λ y. y ∷ drop (i + 1) xs) (sym e))

pub distinct_next : (xs : List NamedValue) (i : ℕ) (x : NamedValue) → i < length xs → x ≡ get_or xs i x → is_among (names (drop (i + 1) xs)) x.name.now ≡ false →
    are_distinct (names (drop i xs)) ≡ are_distinct (names (drop (i + 1) xs))
distinct_next xs i x lt e is = distinct_first xs i x lt e ∙ ap (λ b. not b && are_distinct (names (drop (i + 1) xs))) is

pub distinct_lost : (xs : List NamedValue) (i : ℕ) (x : NamedValue) → i < length xs → x ≡ get_or xs i x → is_among (names (drop (i + 1) xs)) x.name.now ≡ true →
    are_distinct (names (drop i xs)) ≡ false
distinct_lost xs i x lt e is = distinct_first xs i x lt e ∙ ap (λ b. not b && are_distinct (names (drop (i + 1) xs))) is

pub distinct_done : (xs : List NamedValue) (i : ℕ) → length xs ≤ i → are_distinct (names (drop i xs)) ≡ true
distinct_done xs i le = ap (λ ys. are_distinct (names ys)) (drop_all i xs le)

stand_first : (ns : List (List ℕ)) (ms : List LentMember) (i : ℕ) (m : LentMember) → i < length ms → m ≡ get_or ms i m →
    all_stand ns (shown_members (drop i ms)) ≡ (stands_or_lacks ns (shown_member m) && all_stand ns (shown_members (drop (i + 1) ms)))
stand_first ns ms i m lt e = ap (λ xs. all_stand ns (shown_members xs)) (drop_more ms i m lt ∙ ap (λ x. x ∷ drop (i + 1) ms) (sym e))

pub stand_next : (ns : List (List ℕ)) (ms : List LentMember) (i : ℕ) (m : LentMember) → i < length ms → m ≡ get_or ms i m → stands_or_lacks ns (shown_member m) ≡ true →
    all_stand ns (shown_members (drop i ms)) ≡ all_stand ns (shown_members (drop (i + 1) ms))
stand_next ns ms i m lt e is = stand_first ns ms i m lt e ∙ ap (λ b. b && all_stand ns (shown_members (drop (i + 1) ms))) is

pub stand_lost : (ns : List (List ℕ)) (ms : List LentMember) (i : ℕ) (m : LentMember) → i < length ms → m ≡ get_or ms i m → stands_or_lacks ns (shown_member m) ≡ false →
    all_stand ns (shown_members (drop i ms)) ≡ false
stand_lost ns ms i m lt e is = stand_first ns ms i m lt e ∙ ap (λ b. b && all_stand ns (shown_members (drop (i + 1) ms))) is

pub stand_done : (ns : List (List ℕ)) (ms : List LentMember) (i : ℕ) → length ms ≤ i → all_stand ns (shown_members (drop i ms)) ≡ true
stand_done ns ms i le = ap (λ xs. all_stand ns (shown_members xs)) (drop_all i ms le)
