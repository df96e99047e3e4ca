-- Answers, members and listed components one by one.
use Rattle.std.proofs.Common.{◌≡◌, ◌<◌, ◌≤◌, ℕ, ◌+◌, List, ◌∷◌, drop, length, get_or, Bool, true, false, refl, sym, ap, ◌∙◌}
use Rattle.std.specs.Prelude.{◌||◌, not, is_none, is_some}
use Rattle.std.specs.Str.{bytes_eq}
use Rattle.std.proofs.lemmas.List.{drop_more, drop_all}
use Rattle.asn_meaning_shapes.specs.declared.members.Member.{Member as LentMember}
use Rattle.asn_meaning_shapes.specs.Members.{shown_member, shown_members}
use Rattle.asn_meaning.specs.Answers.{Answer, Yes, No, Unknown, both, each}
use Rattle.asn_meaning.specs.Constraints.{is_left_out, is_listed}
use Rattle.asn_meaning.specs.Layers.{InnerLayer, ListedLayer}
use Rattle.asn_meaning.specs.Meaning.{Member}
use Rattle.asn_meaning.specs.ValueTrees.{Fields, field_named}

pub regrouped : (a b c : Answer) → both (both a b) c ≡ both a (both b c)
regrouped Yes b c = refl
regrouped No b c = refl
regrouped Unknown Yes c = refl
regrouped Unknown No c = refl
regrouped Unknown Unknown Yes = refl
regrouped Unknown Unknown No = refl
regrouped Unknown Unknown Unknown = refl

pub ended : (a : Answer) → both a Yes ≡ a
ended Yes = refl
ended No = refl
ended Unknown = refl

pub item_next : {A : Type 0} (ask : A → Answer) (xs : List A) (i : ℕ) (x : A) (a b : Answer) → i < length xs → x ≡ get_or xs i x → b ≡ ask x →
    both (both a b) (each ask (drop (i + 1) xs)) ≡ both a (each ask (drop i xs))
item_next ask xs i x a b lt e is =
    regrouped a b (each ask (drop (i + 1) xs))
    ∙ ap (λ y. both a (both y (each ask (drop (i + 1) xs)))) is
    ∙ sym (ap (λ ys. both a (each ask ys)) (drop_more xs i x lt ∙ ap (λ y. y ∷ drop (i + 1) xs) (sym e)))

pub items_done : {A : Type 0} (ask : A → Answer) (xs : List A) (i : ℕ) (a : Answer) → length xs ≤ i → both a (each ask (drop i xs)) ≡ a
items_done ask xs i a le = ap (λ ys. both a (each ask ys)) (drop_all i xs le) ∙ ended a

pub member_next : (ask : Member → Answer) (ms : List LentMember) (i : ℕ) (m : LentMember) (a b : Answer) → i < length ms → m ≡ get_or ms i m → b ≡ ask (shown_member m) →
    both (both a b) (each ask (shown_members (drop (i + 1) ms))) ≡ both a (each ask (shown_members (drop i ms)))
member_next ask ms i m a b lt e is =
    regrouped a b (each ask (shown_members (drop (i + 1) ms)))
    ∙ ap (λ y. both a (both y (each ask (shown_members (drop (i + 1) ms))))) is
    ∙ sym (ap (λ ys. both a (each ask (shown_members ys))) (drop_more ms i m lt ∙ ap (λ y. y ∷ drop (i + 1) ms) (sym e)))

pub members_done : (ask : Member → Answer) (ms : List LentMember) (i : ℕ) (a : Answer) → length ms ≤ i → both a (each ask (shown_members (drop i ms))) ≡ a
members_done ask ms i a le = ap (λ ys. both a (each ask (shown_members ys))) (drop_all i ms le) ∙ ended a

pub listed_first : (cs : List ListedLayer) (i : ℕ) (c : ListedLayer) (name : List ℕ) → i < length cs → c ≡ get_or cs i c →
    is_listed (drop i cs) name ≡ (bytes_eq c.identifier name || is_listed (drop (i + 1) cs) name)
listed_first cs i c name lt e = ap (λ xs. is_listed xs name) (drop_more cs i c lt ∙ ap (λ x. x ∷ drop (i + 1) cs) (sym e))

first_or : (a b c : Bool) → (a || b) ≡ true → (a || (b || c)) ≡ true
first_or true b c e = refl
first_or false true c e = refl
first_or false false c e = absurd cc

neither_or : (a b c : Bool) → (a || b) ≡ false → (a || (b || c)) ≡ c
neither_or true b c e = absurd cc
neither_or false true c e = absurd cc
neither_or false false c e = refl

pub left_out_free : (inner : InnerLayer) (fs : Fields) (m : Member) → (inner.is_partial || is_listed inner.constraints m.written.name) ≡ true → is_left_out inner fs m ≡ true
left_out_free inner fs m e =
    first_or inner.is_partial (is_listed inner.constraints m.written.name) (not (m.written.is_optional || is_some m.written.default_value) || is_none (field_named fs m.written.name)) e

pub left_out_bound : (inner : InnerLayer) (fs : Fields) (m : Member) → (inner.is_partial || is_listed inner.constraints m.written.name) ≡ false →
    is_left_out inner fs m ≡ (not (m.written.is_optional || is_some m.written.default_value) || is_none (field_named fs m.written.name))
left_out_bound inner fs m e =
    neither_or inner.is_partial (is_listed inner.constraints m.written.name) (not (m.written.is_optional || is_some m.written.default_value) || is_none (field_named fs m.written.name)) e
