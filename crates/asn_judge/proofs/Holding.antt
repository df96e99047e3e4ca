-- Constraints one by one, and the elements of sets.
use Rattle.std.proofs.Common.{◌≡◌, ℕ, ◌+◌, ◌-◌, ◌<◌, ◌≤◌, suc, List, [], ◌∷◌, ◌++◌, drop, length, get_or, Bool, true, false, Option, Some, None, refl, sym, ap, ◌∙◌, arith}
use Rattle.std.specs.Prelude.{map, pos, if◌then◌else◌}
use Rattle.std.proofs.lemmas.List.{drop_more, drop_all}
use Rattle.asn_tree_kinds.specs.declared.constraints.SetOperator.{SetOperator}
use Rattle.asn_tree_kinds.specs.declared.constraints.SetOperator.TheVariants.{Intersection, Union, Except}
use Rattle.asn_tree.specs.declared.constraints.Constraint.{Constraint, out-Constraint}
use Rattle.asn_tree.specs.declared.constraints.ElementOrSetOperation.{ElementOrSetOperation}
use Rattle.asn_tree.specs.declared.constraints.SubtypeElement.{SubtypeElement, out-SubtypeElement}
use Rattle.asn_meaning_ranges.specs.declared.chains.Chain.{Chain as LentChain}
use Rattle.asn_meaning_ranges.specs.declared.chains.Joined.{Joined}
use Rattle.asn_meaning_ranges.specs.Chains.{shown_chain, shown_joined}
use Rattle.asn_judge.specs.inner.Characters.{characters_in}
use Rattle.asn_judge.specs.inner.Judging.{character_holds, characters_hold, element_holds}
use Rattle.asn_judge.specs.inner.Ranking.{Ranks, begun, joined, told}
use Rattle.asn_judge.proofs.Listing.{ended, item_next, items_done, regrouped}
use Rattle.asn_meaning.specs.Answers.{Answer, Yes, No, Unknown, both, once}
use Rattle.asn_meaning.specs.Constraints.{all_hold, alphabet_holds, component_holds, constraint_at, constraint_holds, holds_at, part_holds, set_holds, size_holds, sizes}
use Rattle.asn_meaning.specs.Definitions.{Definitions}
use Rattle.asn_meaning.specs.Judge.{meaning, step}
use Rattle.asn_meaning.specs.Meaning.{Meaning, Parent, ValuesOf, CharactersOf}
use Rattle.asn_meaning.specs.Members.{element_place}
use Rattle.asn_meaning.specs.Numbers.{Chain, Numbers, answers, numbers_from, ranked, ranked_from}
use Rattle.asn_meaning.specs.Placed.{listed}
use Rattle.asn_meaning.specs.Ranges.{all_constraints, codes_of, integer_named, is_free, narrowed, narrowed_by_all}
use Rattle.asn_tree_notation.specs.Types.{constraints_of}
use Rattle.asn_meaning_ranges.proofs.Narrowing.{own_first}
use Rattle.asn_meaning.specs.Scopes.{Place, Scope}
use Rattle.asn_meaning.specs.Shapes.{list_judged}
use Rattle.asn_meaning.specs.ValueTrees.{ValueTree, NullValue, TruthValue, WholeNumber, ItemNumber, RealNumber, Bits, Octets, Characters, ObjectIdentifierArcs, Struct, Elements, Alternative, Opaque, counted}

-- ---- steps

holds_at_suc : (defs : Definitions) (n k : ℕ) (scope : Scope) (parent : Parent) (e : SubtypeElement) (t : ValueTree) → n ≡ suc k →
    (meaning defs n).holds scope parent e t ≡ holds_at (meaning defs k) scope parent t (out-SubtypeElement e)
unfolding meaning step
holds_at_suc defs n k scope parent e t is = ap (λ i. (meaning defs i).holds scope parent e t) is

pub holds_at_more : (defs : Definitions) (n m : ℕ) (scope : Scope) (parent : Parent) (e : SubtypeElement) (t : ValueTree) → 0 < n →
    (meaning defs (n + m)).holds scope parent e t ≡ holds_at (meaning defs (n - 1 + m)) scope parent t (out-SubtypeElement e)
holds_at_more defs n m scope parent e t lt = holds_at_suc defs (n + m) (n - 1 + m) scope parent e t (omega arith)

-- ---- elements joined by operators

pub chained : (M : Meaning) (scope : Scope) (parent : Parent) (set : ElementOrSetOperation) (t : ValueTree) (c : Chain) → M.chain set ≡ Some c →
    set_holds M scope parent set t ≡ ranked answers (element_holds M scope parent t) c
chained M scope parent set t c e = ap (λ found. once Unknown found (ranked answers (element_holds M scope parent t))) e

abbrev pub ranked_by : (SubtypeElement → Answer) → Ranks → List Joined → Answer
ranked_by f r js = ranked_from answers f r.united r.met r.last (map shown_joined js)

joined_step : (f : SubtypeElement → Answer) (r : Ranks) (operator : SetOperator) (e : SubtypeElement) (others : List (SetOperator × SubtypeElement)) →
    ranked_from answers f (joined operator (f e) r).united (joined operator (f e) r).met (joined operator (f e) r).last others ≡ ranked_from answers f r.united r.met r.last ((operator, e) ∷ others)
joined_step f r Except e others = refl
joined_step f r Intersection e others = refl
joined_step f r Union e others = refl

pub chain_next : (f : SubtypeElement → Answer) (r s : Ranks) (js : List Joined) (i : ℕ) (j : Joined) (a : Answer) → i < length js → j ≡ get_or js i j → a ≡ f j.element.now → s ≡ joined j.operator a r →
    ranked_by f s (drop (i + 1) js) ≡ ranked_by f r (drop i js)
chain_next f r s js i j a lt e is made =
    ap (λ x. ranked_by f x (drop (i + 1) js)) (made ∙ ap (λ b. joined j.operator b r) is)
    ∙ joined_step f r j.operator j.element.now (map shown_joined (drop (i + 1) js))
    ∙ sym (ap (λ xs. ranked_by f r xs) (drop_more js i j lt ∙ ap (λ x. x ∷ drop (i + 1) js) (sym e)))

pub chain_begun : (f : SubtypeElement → Answer) (c : LentChain) (r : Ranks) (a : Answer) → a ≡ f c.first.now → r ≡ begun a → ranked_by f r c.others ≡ ranked answers f (shown_chain c)
chain_begun f c r a is made = ap (λ x. ranked_by f x c.others) (made ∙ ap begun is)

pub chain_done : (f : SubtypeElement → Answer) (r : Ranks) (js : List Joined) (i : ℕ) → length js ≤ i → ranked_by f r (drop i js) ≡ told r
chain_done f r js i le = ap (λ xs. ranked_by f r xs) (drop_all i js le)

-- ---- constraints in a row

by_freedom : (b c : Bool) (x y : Answer) → b ≡ c → (if b then x else y) ≡ (if c then x else y)
by_freedom b c x y e = ap (λ a. if a then x else y) e

pub free : (M : Meaning) (scope : Scope) (h : Place) (n : Option Numbers) (c : Constraint) (t : ValueTree) → is_free h ≡ true → constraint_holds M scope h n c t ≡ Yes
free M scope h n c t e = by_freedom (is_free h) true Yes (constraint_at M scope (ValuesOf h n) t (out-Constraint c)) e

pub bound : (M : Meaning) (scope : Scope) (h : Place) (n : Option Numbers) (c : Constraint) (t : ValueTree) → is_free h ≡ false →
    constraint_holds M scope h n c t ≡ constraint_at M scope (ValuesOf h n) t (out-Constraint c)
bound M scope h n c t e = by_freedom (is_free h) false Yes (constraint_at M scope (ValuesOf h n) t (out-Constraint c)) e

pub constraint_next : (M : Meaning) (scope : Scope) (h : Place) (t : ValueTree) (cs : List Constraint) (i : ℕ) (c : Constraint) (n m : Option Numbers) (a b : Answer) →
    i < length cs → c ≡ get_or cs i c → b ≡ constraint_holds M scope h n c t → m ≡ narrowed M scope h n c →
    both (both a b) (all_hold M scope h m (drop (i + 1) cs) t) ≡ both a (all_hold M scope h n (drop i cs) t)
constraint_next M scope h t cs i c n m a b lt e is left =
    regrouped a b (all_hold M scope h m (drop (i + 1) cs) t)
    ∙ ap (λ x. both a (both x (all_hold M scope h m (drop (i + 1) cs) t))) is
    ∙ ap (λ x. both a (both (constraint_holds M scope h n c t) (all_hold M scope h x (drop (i + 1) cs) t))) left
    ∙ sym (ap (λ xs. both a (all_hold M scope h n xs t)) (drop_more cs i c lt ∙ ap (λ x. x ∷ drop (i + 1) cs) (sym e)))

pub constraints_done : (M : Meaning) (scope : Scope) (h : Place) (t : ValueTree) (cs : List Constraint) (i : ℕ) (n : Option Numbers) (a : Answer) → length cs ≤ i →
    both a (all_hold M scope h n (drop i cs) t) ≡ a
constraints_done M scope h t cs i n a le = ap (λ xs. both a (all_hold M scope h n xs t)) (drop_all i cs le) ∙ ended a

pub narrowed_next : (M : Meaning) (scope : Scope) (h : Place) (cs : List Constraint) (i : ℕ) (c : Constraint) (n m : Option Numbers) → i < length cs → c ≡ get_or cs i c → m ≡ narrowed M scope h n c →
    narrowed_by_all M scope h m (drop (i + 1) cs) ≡ narrowed_by_all M scope h n (drop i cs)
narrowed_next M scope h cs i c n m lt e left =
    ap (λ x. narrowed_by_all M scope h x (drop (i + 1) cs)) left
    ∙ sym (ap (λ xs. narrowed_by_all M scope h n xs) (drop_more cs i c lt ∙ ap (λ x. x ∷ drop (i + 1) cs) (sym e)))

pub narrowed_done : (M : Meaning) (scope : Scope) (h : Place) (cs : List Constraint) (i : ℕ) (n : Option Numbers) → length cs ≤ i → narrowed_by_all M scope h n (drop i cs) ≡ n
narrowed_done M scope h cs i n le = ap (λ xs. narrowed_by_all M scope h n xs) (drop_all i cs le)

held_by_all : (M : Meaning) (scope : Scope) (h : Place) (n : Option Numbers) (cs ds : List Constraint) (t : ValueTree) →
    all_hold M scope h n (cs ++ ds) t ≡ both (all_hold M scope h n cs t) (all_hold M scope h (narrowed_by_all M scope h n cs) ds t)
held_by_all M scope h n [] ds t = refl
held_by_all M scope h n (c ∷ cs) ds t =
    ap (both (constraint_holds M scope h n c t)) (held_by_all M scope h (narrowed M scope h n c) cs ds t)
    ∙ sym (regrouped (constraint_holds M scope h n c t) (all_hold M scope h (narrowed M scope h n c) cs t) (all_hold M scope h (narrowed_by_all M scope h (narrowed M scope h n c) cs) ds t))

held_of_both : (M : Meaning) (scope : Scope) (h : Place) (n m : Option Numbers) (cs ds : List Constraint) (t : ValueTree) (a b : Answer) → a ≡ all_hold M scope h n cs t →
    m ≡ narrowed_by_all M scope h n cs → b ≡ all_hold M scope h m ds t → all_hold M scope h n (cs ++ ds) t ≡ both a b
held_of_both M scope h n m cs ds t a b is left further =
    held_by_all M scope h n cs ds t
    ∙ sym (ap (λ x. both x (all_hold M scope h (narrowed_by_all M scope h n cs) ds t)) is)
    ∙ sym (ap (λ x. both a (all_hold M scope h x ds t)) left)
    ∙ sym (ap (both a) further)

pub held_of_all : (M : Meaning) (h p : Place) (n m : Option Numbers) (own ds : List Constraint) (t : ValueTree) (before a b : Answer) → own ≡ listed (constraints_of p.ty) →
    a ≡ all_hold M p.scope h n own t → m ≡ narrowed_by_all M p.scope h n own → b ≡ all_hold M p.scope h m ds t →
    both before (both a b) ≡ both before (all_hold M p.scope h n (all_constraints p ds) t)
held_of_all M h p n m own ds t before a b at is left further =
    sym (ap (both before) (ap (λ cs. all_hold M p.scope h n (cs ++ ds) t) (sym at) ∙ held_of_both M p.scope h n m own ds t a b is left further))

pub left_of_all : (M : Meaning) (h p : Place) (n m k : Option Numbers) (own ds : List Constraint) → own ≡ listed (constraints_of p.ty) → m ≡ narrowed_by_all M p.scope h n own →
    k ≡ narrowed_by_all M p.scope h m ds → k ≡ narrowed_by_all M p.scope h n (all_constraints p ds)
left_of_all M h p n m k own ds at left further = further ∙ own_first M h p own ds n n m refl at left

pub part_headless : (M : Meaning) (scope : Scope) (p : Place) (cs : List Constraint) (t : ValueTree) → M.head p ≡ None → part_holds M scope p cs t ≡ Unknown
part_headless M scope p cs t e = ap (λ found. once Unknown found (λ head. all_hold M scope head (M.numbers p []) cs t)) e

pub part_headed : (M : Meaning) (scope : Scope) (p h : Place) (n : Option Numbers) (cs : List Constraint) (t : ValueTree) → M.head p ≡ Some h → n ≡ M.numbers p [] →
    part_holds M scope p cs t ≡ all_hold M scope h n cs t
part_headed M scope p h n cs t e f = ap (λ found. once Unknown found (λ head. all_hold M scope head (M.numbers p []) cs t)) e ∙ sym (ap (λ x. all_hold M scope h x cs t) f)

-- ---- characters

alphabet_parts : (M : Meaning) (scope : Scope) (parent : Parent) (set : ElementOrSetOperation) (t : ValueTree) →
    alphabet_holds M scope parent set t ≡ once No (characters_in t) (characters_hold M scope (codes_of parent) set)
alphabet_parts M scope parent set NullValue = refl
alphabet_parts M scope parent set (TruthValue b) = refl
alphabet_parts M scope parent set (WholeNumber i) = refl
alphabet_parts M scope parent set (ItemNumber i) = refl
alphabet_parts M scope parent set (RealNumber m b e) = refl
alphabet_parts M scope parent set (Bits bs) = refl
alphabet_parts M scope parent set (Octets os) = refl
alphabet_parts M scope parent set (Characters cs) = refl
alphabet_parts M scope parent set (ObjectIdentifierArcs arcs) = refl
alphabet_parts M scope parent set (Struct fs) = refl
alphabet_parts M scope parent set (Elements ts) = refl
alphabet_parts M scope parent set (Alternative name t) = refl
alphabet_parts M scope parent set Opaque = refl

pub no_alphabet : (M : Meaning) (scope : Scope) (parent : Parent) (set : ElementOrSetOperation) (t : ValueTree) → characters_in t ≡ None → alphabet_holds M scope parent set t ≡ No
no_alphabet M scope parent set t e = alphabet_parts M scope parent set t ∙ ap (λ found. once No found (characters_hold M scope (codes_of parent) set)) e

pub some_alphabet : (M : Meaning) (scope : Scope) (parent : Parent) (set : ElementOrSetOperation) (t : ValueTree) (cs : List ℕ) (codes : Numbers) →
    characters_in t ≡ Some cs → codes ≡ codes_of parent → alphabet_holds M scope parent set t ≡ characters_hold M scope codes set cs
some_alphabet M scope parent set t cs codes e f =
    alphabet_parts M scope parent set t ∙ ap (λ found. once No found (characters_hold M scope (codes_of parent) set)) e ∙ sym (ap (λ x. characters_hold M scope x set cs) f)

pub character_next : (M : Meaning) (scope : Scope) (codes : Numbers) (set : ElementOrSetOperation) (cs : List ℕ) (i c : ℕ) (a b : Answer) →
    i < length cs → c ≡ get_or cs i c → b ≡ character_holds M scope codes set c →
    both (both a b) (characters_hold M scope codes set (drop (i + 1) cs)) ≡ both a (characters_hold M scope codes set (drop i cs))
character_next M scope codes set cs i c a b lt e is = item_next (character_holds M scope codes set) cs i c a b lt e is

pub characters_done : (M : Meaning) (scope : Scope) (codes : Numbers) (set : ElementOrSetOperation) (cs : List ℕ) (i : ℕ) (a : Answer) → length cs ≤ i →
    both a (characters_hold M scope codes set (drop i cs)) ≡ a
characters_done M scope codes set cs i a le = items_done (character_holds M scope codes set) cs i a le

pub character_asked : (M : Meaning) (scope : Scope) (codes : Numbers) (set : ElementOrSetOperation) (t : ValueTree) (c : ℕ) → t ≡ Characters (c ∷ []) →
    set_holds M scope (CharactersOf codes) set t ≡ character_holds M scope codes set c
character_asked M scope codes set t c e = ap (set_holds M scope (CharactersOf codes) set) e

-- ---- sizes

pub no_size : (M : Meaning) (scope : Scope) (set : ElementOrSetOperation) (t : ValueTree) → counted t ≡ None → size_holds M scope set t ≡ No
no_size M scope set t e = ap (λ found. once No found (λ n. set_holds M scope sizes set (WholeNumber (pos n)))) e

pub some_size : (M : Meaning) (scope : Scope) (set : ElementOrSetOperation) (t : ValueTree) (n : ℕ) → counted t ≡ Some n → size_holds M scope set t ≡ set_holds M scope sizes set (WholeNumber (pos n))
some_size M scope set t n e = ap (λ found. once No found (λ n. set_holds M scope sizes set (WholeNumber (pos n)))) e

pub size_asked : (M : Meaning) (scope : Scope) (set : ElementOrSetOperation) (h : Place) (numbers : Option Numbers) (t : ValueTree) (n : ℕ) →
    h ≡ integer_named None → numbers ≡ Some (numbers_from false (pos 0)) → t ≡ WholeNumber (pos n) →
    set_holds M scope (ValuesOf h numbers) set t ≡ set_holds M scope sizes set (WholeNumber (pos n))
size_asked M scope set h numbers t n e f g =
    ap (λ x. set_holds M scope (ValuesOf x numbers) set t) e
    ∙ ap (λ x. set_holds M scope (ValuesOf (integer_named None) x) set t) f
    ∙ ap (set_holds M scope sizes set) g

-- ---- elements of lists

pub no_component : (M : Meaning) (scope : Scope) (h : Place) (n : Option Numbers) (cs : List Constraint) (t : ValueTree) → element_place h ≡ None →
    component_holds M scope (ValuesOf h n) cs t ≡ No
no_component M scope h n cs t e = ap (λ found. once No found (λ p. list_judged (part_holds M scope p cs) t)) e

pub some_component : (M : Meaning) (scope : Scope) (h p : Place) (n : Option Numbers) (cs : List Constraint) (t : ValueTree) → element_place h ≡ Some p →
    component_holds M scope (ValuesOf h n) cs t ≡ list_judged (part_holds M scope p cs) t
some_component M scope h p n cs t e = ap (λ found. once No found (λ p. list_judged (part_holds M scope p cs) t)) e
