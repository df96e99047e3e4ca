-- Scopes of the code by their variant, and what they bind.
use Rattle.std.proofs.Common.{◌≡◌, ℕ, ◌<◌, ◌≤◌, List, length, Option, Some, None, refl, sym, ap, ◌∙◌}
use Rattle.std.specs.Borrow.{Bor}
use Rattle.std.specs.Option.{option_map}
use Rattle.std.specs.declared.rc.Rc.{Rc}
use Rattle.std.specs.declared.alloc.Global.{Global}
use Rattle.asn_tree.specs.declared.constraints.Parameter.{Parameter}
use Rattle.asn_tree.specs.declared.definitions.ParameterizationArgument.{ParameterizationArgument}
use Rattle.asn_meaning_heads.specs.declared.scopes.Scope.{Scope as OwnScope, Scope-F, out-Scope, fold_out-Scope, map-Scope}
use Rattle.asn_meaning_heads.specs.declared.scopes.Scope.TheVariants as own
use Rattle.asn_meaning_heads.specs.inner.Dummies.{Held, held, read_in}
use Rattle.asn_meaning_heads.specs.Scopes.{filling, shown, shown_at}
use Rattle.asn_names_index.proofs.Pairing.{missing}
use Rattle.asn_meaning_heads.proofs.Holding.{bound_in, found_in, given}
use Rattle.asn_meaning.specs.Scopes.{Argument, Scope, Empty, bound_to, entered}

level : Scope-F OwnScope → Scope
level Scope-F.Empty = Empty
level (Scope-F.Entered dummies arguments scope) = filling (shown scope.value) dummies.now arguments.now

shown_is : (s : OwnScope) → shown s ≡ level (out-Scope s)
unfolding shown level
shown_is s = fold_out-Scope Scope shown_at s ∙ go (out-Scope s)
  where
    go : (x : Scope-F OwnScope) → shown_at (map-Scope OwnScope Scope shown x) ≡ level x
    go Scope-F.Empty = refl
    go (Scope-F.Entered dummies arguments scope) = refl

pub shown_empty : (s : OwnScope) → s ≡ own.Empty → shown s ≡ Empty
unfolding level
shown_empty s e = shown_is s ∙ ap level (ap out-Scope e ∙ own.outs-Empty)

pub shown_nothing : shown own.Empty ≡ Empty
shown_nothing = shown_empty own.Empty refl

pub shown_entered : (s : OwnScope) (dummies : Bor (List ParameterizationArgument)) (arguments : Bor (List Parameter)) (scope : Rc OwnScope Global) →
    s ≡ own.Entered dummies arguments scope → shown s ≡ filling (shown scope.value) dummies.now arguments.now
unfolding level
shown_entered s dummies arguments scope e = shown_is s ∙ ap level (ap out-Scope e ∙ own.outs-Entered dummies arguments scope)

-- ---- a copy that shares

pub same_empty : (s copy : OwnScope) → s ≡ own.Empty → copy ≡ own.Empty → shown copy ≡ shown s
same_empty s copy e f = ap shown f ∙ sym (ap shown e)

pub same_entered : (s copy : OwnScope) (dummies : Bor (List ParameterizationArgument)) (arguments : Bor (List Parameter)) (scope other : Rc OwnScope Global) →
    s ≡ own.Entered dummies arguments scope → copy ≡ own.Entered dummies arguments other → other.value ≡ scope.value → shown copy ≡ shown s
same_entered s copy dummies arguments scope other e f g =
    shown_entered copy dummies arguments other f ∙ ap (λ x. filling (shown x) dummies.now arguments.now) g ∙ sym (shown_entered s dummies arguments scope e)

-- ---- what a scope binds a name to

pub bound_outside : (s : OwnScope) (name : List ℕ) → s ≡ own.Empty → bound_to (shown s) name ≡ None
bound_outside s name e = ap (λ x. bound_to x name) (shown_empty s e)

bound_by : (s : OwnScope) (dummies : Bor (List ParameterizationArgument)) (arguments : Bor (List Parameter)) (scope : Rc OwnScope Global) (name : List ℕ) →
    s ≡ own.Entered dummies arguments scope → bound_to (shown s) name ≡ option_map (found_in (shown scope.value)) (held dummies.now arguments.now name)
bound_by s dummies arguments scope name e =
    ap (λ x. bound_to x name) (shown_entered s dummies arguments scope e) ∙ bound_in (shown scope.value) dummies.now arguments.now name

pub bound_not : (s : OwnScope) (dummies : Bor (List ParameterizationArgument)) (arguments : Bor (List Parameter)) (scope : Rc OwnScope Global) (name : List ℕ) →
    s ≡ own.Entered dummies arguments scope → held dummies.now arguments.now name ≡ None → bound_to (shown s) name ≡ None
bound_not s dummies arguments scope name e f = bound_by s dummies arguments scope name e ∙ ap (option_map (found_in (shown scope.value))) f

pub bound_inside : (s : OwnScope) (dummies : Bor (List ParameterizationArgument)) (arguments : Bor (List Parameter)) (scope : Rc OwnScope Global) (name : List ℕ) (h : Held) (inner : OwnScope)
    (argument : Option Argument) → s ≡ own.Entered dummies arguments scope → inner ≡ scope.value → held dummies.now arguments.now name ≡ Some h →
    argument ≡ read_in (shown inner) h.argument → bound_to (shown s) name ≡ Some (record { governor = h.governor; argument = argument })
bound_inside s dummies arguments scope name h inner argument e i f a =
    bound_by s dummies arguments scope name e ∙ ap (option_map (found_in (shown scope.value))) f
    ∙ ap (λ x. Some (record { governor = h.governor; argument = x })) (sym (a ∙ ap (λ x. read_in (shown x) h.argument) i))

-- ---- what entering a template gives

pub entered_short : (scope : OwnScope) (dummies : List ParameterizationArgument) (arguments : List Parameter) → length arguments < length dummies → entered (shown scope) dummies arguments ≡ None
entered_short scope dummies arguments lt = missing (shown scope) dummies arguments lt

pub entered_full : (outer : OwnScope) (dummies : Bor (List ParameterizationArgument)) (arguments : Bor (List Parameter)) (scope : Rc OwnScope Global) →
    length dummies.now ≤ length arguments.now → shown scope.value ≡ shown outer → Some (shown (own.Entered dummies arguments scope)) ≡ entered (shown outer) dummies.now arguments.now
entered_full outer dummies arguments scope le e =
    ap Some (shown_entered (own.Entered dummies arguments scope) dummies arguments scope refl ∙ ap (λ s. filling s dummies.now arguments.now) e)
    ∙ sym (given (shown outer) dummies.now arguments.now le)
