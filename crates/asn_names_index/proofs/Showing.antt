-- What the numbers of bindings show, and that entering keeps it.
use Rattle.std.proofs.Common.{◌≡◌, ℕ, ◌+◌, ◌<◌, ◌≤◌, List, [], ◌∷◌, ◌++◌, length, get_or, Option, Some, None, refl, sym, ap, ◌∙◌, subst, arith}
use Rattle.std.proofs.lemmas.List.{get_or_append_left, get_or_at, length-append}
use Rattle.std.specs.Borrow.{Bor}
use Rattle.asn_names_index.specs.declared.bindings.Bindings.{Bindings}
use Rattle.asn_names_index.specs.declared.bindings.Level.{Level}
use Rattle.asn_names_index.specs.Bindings.{Keeps, Known, made, scopes_behind, shown}
use Rattle.asn_names_index.specs.Dummies.{binding}
use Rattle.asn_names_index.proofs.Pairing.{given}
use Rattle.asn_tree.specs.declared.constraints.Parameter.{Parameter}
use Rattle.asn_tree.specs.declared.definitions.Parameterization.{Parameterization}
use Rattle.asn_meaning.specs.Scopes.{Scope, Empty, entered}

pub shown_nothing : (b : Bindings) → b.levels ≡ [] → shown b 0 ≡ Empty
unfolding shown
shown_nothing b e = ap (λ ls. get_or (scopes_behind (Empty ∷ []) ls) 0 Empty) e

-- the scopes of these levels, the empty one among them
scopes_of : List Level → List Scope
scopes_of levels = scopes_behind (Empty ∷ []) levels

one_more : (scopes : List Scope) (levels : List Level) (level : Level) →
    scopes_behind scopes (levels ++ level ∷ []) ≡ scopes_behind scopes levels ++ made (scopes_behind scopes levels) level ∷ []
one_more scopes [] level = refl
one_more scopes (first ∷ levels) level = one_more (scopes ++ made scopes first ∷ []) levels level

pub many : (scopes : List Scope) (levels : List Level) → length (scopes_behind scopes levels) ≡ length scopes + length levels
many scopes [] = omega arith
many scopes (first ∷ levels) =
    let e : length (scopes ++ made scopes first ∷ []) ≡ length scopes + 1 = length-append scopes (made scopes first ∷ []) in
    many (scopes ++ made scopes first ∷ []) levels ∙ omega arith

same_before : (old new : Bindings) (level : Level) → new.levels ≡ old.levels ++ level ∷ [] → (number : ℕ) → number ≤ length old.levels → shown new number ≡ shown old number
unfolding shown
same_before old new level e number le =
    ap (λ ls. get_or (scopes_behind (Empty ∷ []) ls) number Empty) e
    ∙ ap (λ xs. get_or xs number Empty) (one_more (Empty ∷ []) old.levels level)
    ∙ get_or_append_left (scopes_behind (Empty ∷ []) old.levels) (made (scopes_behind (Empty ∷ []) old.levels) level ∷ []) Empty number
    (subst (λ n. number < n) (sym (many (Empty ∷ []) old.levels)) (omega arith))

made_last : (old new : Bindings) (level : Level) → new.levels ≡ old.levels ++ level ∷ [] →
    shown new (length old.levels + 1) ≡ binding (shown old level.scope) level.template.now.parameters level.arguments.now
unfolding shown
made_last old new level e =
    ap (λ ls. get_or (scopes_behind (Empty ∷ []) ls) (length old.levels + 1) Empty) e
    ∙ ap (λ xs. get_or xs (length old.levels + 1) Empty) (one_more (Empty ∷ []) old.levels level)
    ∙ get_or_at (scopes_behind (Empty ∷ []) old.levels) (made (scopes_behind (Empty ∷ []) old.levels) level) [] Empty (length old.levels + 1)
    (many (Empty ∷ []) old.levels ∙ omega arith)

count : (old new : Bindings) (level : Level) → new.levels ≡ old.levels ++ level ∷ [] → length new.levels ≡ length old.levels + 1
count old new level e = ap length e ∙ length-append old.levels (level ∷ [])

pub keeps_same : (old new : Bindings) → new ≡ old → Keeps old new
keeps_same old new e = subst (λ b. Keeps old b) (sym e) (record { known = λ n k. k; same = λ n k. refl })

pub keeps_more : (old new : Bindings) (level : Level) → new.levels ≡ old.levels ++ level ∷ [] → Keeps old new
keeps_more old new level e =
    let c : length new.levels ≡ length old.levels + 1 = count old new level e in
    record { known = λ n k. omega arith; same = same_before old new level e }

at_end : (old new : Bindings) (level : Level) (n : ℕ) → new.levels ≡ old.levels ++ level ∷ [] → n ≡ length new.levels →
    shown new n ≡ binding (shown old level.scope) level.template.now.parameters level.arguments.now
at_end old new level n e m = ap (shown new) (m ∙ count old new level e) ∙ made_last old new level e

pub entered_full : (old new : Bindings) (template : Bor Parameterization) (arguments : Bor (List Parameter)) (scope n : ℕ) →
    new.levels ≡ old.levels ++ (record { template = template; arguments = arguments; scope = scope }) ∷ [] → n ≡ length new.levels →
    shown new n ≡ binding (shown old scope) template.now.parameters arguments.now
entered_full old new template arguments scope n e m = at_end old new (record { template = template; arguments = arguments; scope = scope }) n e m

pub entered_all : (old new : Bindings) (template : Bor Parameterization) (arguments : Bor (List Parameter)) (scope n : ℕ) →
    new.levels ≡ old.levels ++ (record { template = template; arguments = arguments; scope = scope }) ∷ [] → n ≡ length new.levels →
    length template.now.parameters ≤ length arguments.now → Some (shown new n) ≡ entered (shown old scope) template.now.parameters arguments.now
entered_all old new template arguments scope n e m le =
    ap Some (entered_full old new template arguments scope n e m) ∙ sym (given (shown old scope) template.now.parameters arguments.now le)
