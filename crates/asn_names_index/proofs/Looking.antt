-- What a level shows among all.
use Rattle.std.proofs.Common.{◌≡◌, ℕ, zero, suc, ◌+◌, ◌-◌, ◌<◌, ◌≤◌, Bool, true, false, nat_lt, if◌then◌else◌, List, [], ◌∷◌, ◌++◌, take, drop, length, get_or, slice_get, Option, Some, None, ◌⊎◌, inl, inr, refl, sym, ap, ◌∙◌, subst, arith}
use Rattle.std.proofs.lemmas.List.{get_or_append_left, get_or_at, get_or_past, length-append, length-take-le, take-append-drop, drop_more}
use Rattle.std.proofs.lemmas.Option.{get_or_from_slice_get, slice_get_cases}
use Rattle.std.specs.Option.{option_map}
use Rattle.asn_names_index.specs.declared.bindings.Bindings.{Bindings}
use Rattle.asn_names_index.specs.declared.bindings.Level.{Level}
use Rattle.asn_names_index.specs.Bindings.{below, made, scopes_behind, shown}
use Rattle.asn_names_index.specs.Dummies.{Pair, binding, pair_of}
use Rattle.asn_names_index.proofs.Pairing.{bound_in, found_in}
use Rattle.asn_names_index.proofs.Showing.{many}
use Rattle.asn_meaning.specs.Scopes.{Bound, Scope, Empty, bound_to}

-- what stands in front stays
kept : (scopes : List Scope) (levels : List Level) (n : ℕ) → n < length scopes → get_or (scopes_behind scopes levels) n Empty ≡ get_or scopes n Empty
kept scopes [] n lt = refl
kept scopes (level ∷ levels) n lt =
    let e : length (scopes ++ made scopes level ∷ []) ≡ length scopes + 1 = length-append scopes (made scopes level ∷ []) in
    kept (scopes ++ made scopes level ∷ []) levels n (omega arith) ∙ get_or_append_left scopes (made scopes level ∷ []) Empty n lt

behind_both : (scopes : List Scope) (xs ys : List Level) → scopes_behind scopes (xs ++ ys) ≡ scopes_behind (scopes_behind scopes xs) ys
behind_both scopes [] ys = refl
behind_both scopes (first ∷ xs) ys = behind_both (scopes ++ made scopes first ∷ []) xs ys

-- the scopes before a level, and then those behind it
parted : (scopes : List Scope) (levels : List Level) (i : ℕ) (level : Level) → i < length levels → get_or levels i level ≡ level →
    scopes_behind scopes levels ≡ scopes_behind (scopes_behind scopes (take i levels) ++ made (scopes_behind scopes (take i levels)) level ∷ []) (drop (i + 1) levels)
parted scopes levels i level lt e =
    ap (scopes_behind scopes) (sym (take-append-drop i levels) ∙ ap (λ x. take i levels ++ x) (drop_more levels i level lt ∙ ap (λ x. x ∷ drop (i + 1) levels) e))
    ∙ behind_both scopes (take i levels) (level ∷ drop (i + 1) levels)

same_below : (b : Bindings) (more u : List Scope) (rest : List Level) (number n : ℕ) → scopes_behind (Empty ∷ []) b.levels ≡ scopes_behind more rest → length u ≡ n →
    length more ≡ length u + 1 → get_or u 0 Empty ≡ Empty → ((k : ℕ) → k < n → get_or more k Empty ≡ get_or u k Empty) → 0 < n → get_or u number Empty ≡ shown b (below number n)
unfolding shown
same_below b more u rest number n e l m z same lt = go (nat_lt number n) refl
  where
    go : (t : Bool) → nat_lt number n ≡ t → get_or u number Empty ≡ get_or (scopes_behind (Empty ∷ []) b.levels) (if t then number else 0) Empty
    go true f = sym (ap (λ xs. get_or xs number Empty) e ∙ kept more rest number (grind (arith)) ∙ same number (grind (arith)))
    go false f = get_or_past u number Empty (grind (arith)) ∙ sym (ap (λ xs. get_or xs 0 Empty) e ∙ kept more rest 0 (omega arith) ∙ same 0 lt ∙ z)

before : List Level → ℕ → List Scope
before levels i = scopes_behind (Empty ∷ []) (take i levels)

before_length : (levels : List Level) (i : ℕ) → i < length levels → length (before levels i) ≡ i + 1
unfolding before
before_length levels i lt =
    let e : length (take i levels) ≡ i = length-take-le i levels (omega arith) in
    many (Empty ∷ []) (take i levels) ∙ omega arith

shown_at_number : (b : Bindings) (i : ℕ) (level : Level) → i < length b.levels → slice_get b.levels i ≡ Some level →
    shown b (i + 1) ≡ binding (shown b (below level.scope (i + 1))) level.template.now.parameters level.arguments.now
unfolding shown before
shown_at_number b i level lt e =
    let u : List Scope = before b.levels i in
    let p : scopes_behind (Empty ∷ []) b.levels ≡ scopes_behind (u ++ made u level ∷ []) (drop (i + 1) b.levels)
    = parted (Empty ∷ []) b.levels i level lt (get_or_from_slice_get b.levels i level level e) in
    let l : length u ≡ i + 1 = before_length b.levels i lt in
    let m : length (u ++ made u level ∷ []) ≡ length u + 1 = length-append u (made u level ∷ []) in
    ap (λ xs. get_or xs (i + 1) Empty) p ∙ kept (u ++ made u level ∷ []) (drop (i + 1) b.levels) (i + 1) (omega arith)
    ∙ get_or_at u (made u level) [] Empty (i + 1) l
    ∙ ap (λ s. binding s level.template.now.parameters level.arguments.now)
    (same_below b (u ++ made u level ∷ []) u (drop (i + 1) b.levels) level.scope (i + 1) p l m
    (kept (Empty ∷ []) (take i b.levels) 0 (omega arith))
    (λ k f. get_or_append_left u (made u level ∷ []) Empty k (omega arith)) (omega arith))

pub bound_nowhere : (b : Bindings) (number : ℕ) (name : List ℕ) → number ≡ 0 → bound_to (shown b number) name ≡ None
unfolding shown
bound_nowhere b number name e =
    ap (λ n. bound_to (get_or (scopes_behind (Empty ∷ []) b.levels) n Empty) name) e ∙ ap (λ s. bound_to s name) (kept (Empty ∷ []) b.levels 0 (omega arith))

contrary : (o : Option Level) (x : Level) (a b : Option Bound) → o ≡ Some x → o ≡ None → a ≡ b
contrary o x a b e f = absurd cc

past : (b : Bindings) (number : ℕ) (name : List ℕ) → 0 < number → length b.levels ≤ number - 1 → bound_to (shown b number) name ≡ None
unfolding shown
past b number name lt le =
    ap (λ s. bound_to s name) (get_or_past (scopes_behind (Empty ∷ []) b.levels) number Empty (subst (λ n. n ≤ number) (sym (many (Empty ∷ []) b.levels)) (omega arith)))

pub bound_past : (b : Bindings) (number : ℕ) (name : List ℕ) → 0 < number → slice_get b.levels (number - 1) ≡ None → bound_to (shown b number) name ≡ None
bound_past b number name lt e = go (slice_get_cases b.levels (number - 1)).1
  where
    go : ((x : Level) × (number - 1 < length b.levels) × (slice_get b.levels (number - 1) ≡ Some x) × (get_or b.levels (number - 1) x ≡ x)) ⊎ ((length b.levels ≤ number - 1) × (slice_get b.levels (number - 1) ≡ None)) → bound_to (shown b number) name ≡ None
    go (inl f) = contrary (slice_get b.levels (number - 1)) f.0 (bound_to (shown b number) name) None f.2 e
    go (inr f) = past b number name lt f.0

at : (b : Bindings) (number : ℕ) (level : Level) (name : List ℕ) → 0 < number → number - 1 < length b.levels → slice_get b.levels (number - 1) ≡ Some level →
    bound_to (shown b number) name ≡ option_map (found_in (shown b (below level.scope number))) (pair_of level.template.now.parameters level.arguments.now name)
at b number level name lt le e =
    let q : number - 1 + 1 ≡ number = omega arith in
    ap (λ n. bound_to (shown b n) name) (sym q) ∙ ap (λ s. bound_to s name) (shown_at_number b (number - 1) level le e)
    ∙ bound_in (shown b (below level.scope (number - 1 + 1))) level.template.now.parameters level.arguments.now name
    ∙ ap (λ n. option_map (found_in (shown b (below level.scope n))) (pair_of level.template.now.parameters level.arguments.now name)) q

pub bound_not : (b : Bindings) (number : ℕ) (level : Level) (name : List ℕ) → 0 < number → number - 1 < length b.levels → slice_get b.levels (number - 1) ≡ Some level →
    pair_of level.template.now.parameters level.arguments.now name ≡ None → bound_to (shown b number) name ≡ None
bound_not b number level name lt le e f = at b number level name lt le e ∙ ap (option_map (found_in (shown b (below level.scope number)))) f

pub bound_inside : (b : Bindings) (number : ℕ) (level : Level) (name : List ℕ) (pair : Pair) (scope : ℕ) → 0 < number → number - 1 < length b.levels → slice_get b.levels (number - 1) ≡ Some level →
    pair_of level.template.now.parameters level.arguments.now name ≡ Some pair → scope ≡ below level.scope number →
    bound_to (shown b number) name ≡ Some (record { governor = pair.governor; argument = Some (record { tree = pair.argument; scope = shown b scope }) })
bound_inside b number level name pair scope lt le e f g =
    at b number level name lt le e ∙ ap (option_map (found_in (shown b (below level.scope number)))) f
    ∙ ap (λ n. Some (record { governor = pair.governor; argument = Some (record { tree = pair.argument; scope = shown b n }) })) (sym g)
