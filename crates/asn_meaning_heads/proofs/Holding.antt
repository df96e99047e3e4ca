-- Dummies with their arguments, one by one, and the scope that they give.
use Rattle.std.proofs.Common.{◌≡◌, ℕ, zero, suc, ◌+◌, ◌<◌, ◌≤◌, Bool, true, false, if◌then◌else◌, List, [], ◌∷◌, drop, length, get_or, slice_get, Option, Some, None, refl, sym, ap, ◌∙◌, arith}
use Rattle.std.proofs.lemmas.List.{drop_more, drop_all}
use Rattle.std.specs.Option.{option_map}
use Rattle.std.specs.Str.{bytes_eq}
use Rattle.asn_tree.specs.declared.constraints.Parameter.{Parameter}
use Rattle.asn_tree.specs.declared.definitions.ParameterizationArgument.{ParameterizationArgument}
use Rattle.asn_meaning_heads.specs.inner.Dummies.{Held, held, read_in}
use Rattle.asn_meaning.specs.Answers.{once}
use Rattle.asn_meaning.specs.Scopes.{Bound, Scope, Empty, Binds, LeavesOpen, bound_to, entered}
use Rattle.asn_meaning_heads.specs.Scopes.{filling}

pub none_left : (dummies : List ParameterizationArgument) (arguments : List Parameter) (name : List ℕ) (i : ℕ) → length dummies ≤ i →
    held (drop i dummies) (drop i arguments) name ≡ None
none_left dummies arguments name i le = ap (λ ds. held ds (drop i arguments) name) (drop_all i dummies le)

chosen : (b : Bool) (x y : Option Held) → b ≡ true → (if b then x else y) ≡ x
chosen true x y e = refl
chosen false x y e = absurd cc

passed : (b : Bool) (x y : Option Held) → b ≡ false → (if b then x else y) ≡ y
passed false x y e = refl
passed true x y e = absurd cc

-- a dummy with the argument of this number
first : (dummy : ParameterizationArgument) (dummies : List ParameterizationArgument) (arguments : List Parameter) (name : List ℕ) (i : ℕ) →
    held (dummy ∷ dummies) (drop i arguments) name
    ≡ (if bytes_eq dummy.dummy_reference name then Some (record { governor = dummy.param_governor; argument = slice_get arguments i }) else held dummies (drop (suc i) arguments) name)
first dummy dummies [] name zero = refl
first dummy dummies (argument ∷ arguments) name zero = refl
first dummy dummies [] name (suc i) = refl
first dummy dummies (argument ∷ arguments) name (suc i) = first dummy dummies arguments name i

next : (dummies : List ParameterizationArgument) (arguments : List Parameter) (name : List ℕ) (i : ℕ) (dummy : ParameterizationArgument) →
    i < length dummies → dummy ≡ get_or dummies i dummy →
    held (drop i dummies) (drop i arguments) name
    ≡ (if bytes_eq dummy.dummy_reference name then Some (record { governor = dummy.param_governor; argument = slice_get arguments i }) else held (drop (i + 1) dummies) (drop (i + 1) arguments) name)
next dummies arguments name i dummy lt d =
    let more : suc i ≡ i + 1 = omega arith in
    ap (λ xs. held xs (drop i arguments) name) (drop_more dummies i dummy lt ∙ ap (λ x. x ∷ drop (i + 1) dummies) (sym d))
    ∙ first dummy (drop (i + 1) dummies) arguments name i
    ∙ ap (λ n. if bytes_eq dummy.dummy_reference name then Some (record { governor = dummy.param_governor; argument = slice_get arguments i }) else held (drop (i + 1) dummies) (drop n arguments) name) more

pub has_name : (dummies : List ParameterizationArgument) (arguments : List Parameter) (name : List ℕ) (i : ℕ) (dummy : ParameterizationArgument) (argument : Option Parameter) →
    i < length dummies → dummy ≡ get_or dummies i dummy → bytes_eq dummy.dummy_reference name ≡ true → argument ≡ slice_get arguments i →
    held (drop i dummies) (drop i arguments) name ≡ Some (record { governor = dummy.param_governor; argument = argument })
has_name dummies arguments name i dummy argument lt d e a =
    next dummies arguments name i dummy lt d ∙ chosen (bytes_eq dummy.dummy_reference name) _ _ e
    ∙ ap (λ x. Some (record { governor = dummy.param_governor; argument = x })) (sym a)

pub lacks_name : (dummies : List ParameterizationArgument) (arguments : List Parameter) (name : List ℕ) (i : ℕ) (dummy : ParameterizationArgument) →
    i < length dummies → dummy ≡ get_or dummies i dummy → bytes_eq dummy.dummy_reference name ≡ false →
    held (drop i dummies) (drop i arguments) name ≡ held (drop (i + 1) dummies) (drop (i + 1) arguments) name
lacks_name dummies arguments name i dummy lt d e = next dummies arguments name i dummy lt d ∙ passed (bytes_eq dummy.dummy_reference name) _ _ e

-- ---- the scope that they give

abbrev pub found_in : Scope → Held → Bound
found_in scope h = record { governor = h.governor; argument = read_in scope h.argument }

either : (b : Bool) (h : Held) (scope : Scope) (x : Option Bound) (y : Option Held) → x ≡ option_map (found_in scope) y →
    (if b then Some (found_in scope h) else x) ≡ option_map (found_in scope) (if b then Some h else y)
either true h scope x y e = refl
either false h scope x y e = e

pub bound_in : (scope : Scope) (dummies : List ParameterizationArgument) (arguments : List Parameter) (name : List ℕ) →
    bound_to (filling scope dummies arguments) name ≡ option_map (found_in scope) (held dummies arguments name)
bound_in scope [] arguments name = refl
bound_in scope (dummy ∷ dummies) [] name =
    either (bytes_eq dummy.dummy_reference name) (record { governor = dummy.param_governor; argument = None }) scope
    (bound_to (filling scope dummies []) name) (held dummies [] name) (bound_in scope dummies [] name)
bound_in scope (dummy ∷ dummies) (argument ∷ arguments) name =
    either (bytes_eq dummy.dummy_reference name) (record { governor = dummy.param_governor; argument = Some argument }) scope
    (bound_to (filling scope dummies arguments) name) (held dummies arguments name) (bound_in scope dummies arguments name)

pub given : (scope : Scope) (dummies : List ParameterizationArgument) (arguments : List Parameter) → length dummies ≤ length arguments →
    entered scope dummies arguments ≡ Some (filling scope dummies arguments)
given scope [] arguments le = refl
given scope (dummy ∷ dummies) [] le = absurd (omega arith)
given scope (dummy ∷ dummies) (argument ∷ arguments) le =
    ap (λ inner. once None inner (λ others. Some (Binds dummy.dummy_reference dummy.param_governor argument scope others))) (given scope dummies arguments (omega arith))
