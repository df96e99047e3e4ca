-- Dummies with their arguments, one by one.
use Rattle.std.proofs.Common.{◌≡◌, ℕ, ◌+◌, ◌<◌, ◌≤◌, Bool, true, false, if◌then◌else◌, List, [], ◌∷◌, drop, length, get_or, Option, Some, None, refl, sym, ap, ◌∙◌, arith}
use Rattle.std.proofs.lemmas.List.{drop_more, drop_all}
use Rattle.std.specs.Option.{option_map}
use Rattle.std.specs.Str.{bytes_eq}
use Rattle.asn_tree.specs.declared.constraints.Parameter.{Parameter}
use Rattle.asn_tree.specs.declared.definitions.ParameterizationArgument.{ParameterizationArgument}
use Rattle.asn_names_index.specs.Dummies.{Pair, binding, pair_of}
use Rattle.asn_meaning.specs.Answers.{once}
use Rattle.asn_meaning.specs.Scopes.{Bound, Scope, Empty, Binds, bound_to, entered}

pub none_left : (dummies : List ParameterizationArgument) (arguments : List Parameter) (name : List ℕ) (i : ℕ) → length dummies ≤ i →
    pair_of (drop i dummies) (drop i arguments) name ≡ None
none_left dummies arguments name i le = ap (λ ds. pair_of ds (drop i arguments) name) (drop_all i dummies le)

pub no_argument : (dummies : List ParameterizationArgument) (arguments : List Parameter) (name : List ℕ) (i : ℕ) → i < length dummies → length arguments ≤ i →
    pair_of (drop i dummies) (drop i arguments) name ≡ None
no_argument [] arguments name i lt le = absurd (omega arith)
no_argument (d ∷ ds) arguments name i lt le =
    ap (λ xs. pair_of (drop i (d ∷ ds)) xs name) (drop_all i arguments le) ∙ ap (λ xs. pair_of xs [] name) (drop_more (d ∷ ds) i d lt)

chosen : (b : Bool) (x y : Option Pair) → b ≡ true → (if b then x else y) ≡ x
chosen true x y e = refl
chosen false x y e = absurd cc

passed : (b : Bool) (x y : Option Pair) → b ≡ false → (if b then x else y) ≡ y
passed false x y e = refl
passed true x y e = absurd cc

next : (dummies : List ParameterizationArgument) (arguments : List Parameter) (name : List ℕ) (i : ℕ) (dummy : ParameterizationArgument) (argument : Parameter) →
    i < length dummies → i < length arguments → dummy ≡ get_or dummies i dummy → argument ≡ get_or arguments i argument →
    pair_of (drop i dummies) (drop i arguments) name
    ≡ (if bytes_eq dummy.dummy_reference name then Some (record { governor = dummy.param_governor; argument = argument }) else pair_of (drop (i + 1) dummies) (drop (i + 1) arguments) name)
next dummies arguments name i dummy argument lt le d a =
    ap (λ xs. pair_of xs (drop i arguments) name) (drop_more dummies i dummy lt ∙ ap (λ x. x ∷ drop (i + 1) dummies) (sym d))
    ∙ ap (λ xs. pair_of (dummy ∷ drop (i + 1) dummies) xs name) (drop_more arguments i argument le ∙ ap (λ x. x ∷ drop (i + 1) arguments) (sym a))

pub has_name : (dummies : List ParameterizationArgument) (arguments : List Parameter) (name : List ℕ) (i : ℕ) (dummy : ParameterizationArgument) (argument : Parameter) →
    i < length dummies → i < length arguments → dummy ≡ get_or dummies i dummy → argument ≡ get_or arguments i argument → bytes_eq dummy.dummy_reference name ≡ true →
    pair_of (drop i dummies) (drop i arguments) name ≡ Some (record { governor = dummy.param_governor; argument = argument })
has_name dummies arguments name i dummy argument lt le d a e =
    next dummies arguments name i dummy argument lt le d a ∙ chosen (bytes_eq dummy.dummy_reference name) _ _ e

pub lacks_name : (dummies : List ParameterizationArgument) (arguments : List Parameter) (name : List ℕ) (i : ℕ) (dummy : ParameterizationArgument) →
    i < length dummies → i < length arguments → dummy ≡ get_or dummies i dummy → bytes_eq dummy.dummy_reference name ≡ false →
    pair_of (drop i dummies) (drop i arguments) name ≡ pair_of (drop (i + 1) dummies) (drop (i + 1) arguments) name
lacks_name dummies [] name i dummy lt le d e = absurd (omega arith)
lacks_name dummies (first ∷ arguments) name i dummy lt le d e =
    ap (λ xs. pair_of xs (drop i (first ∷ arguments)) name) (drop_more dummies i dummy lt ∙ ap (λ x. x ∷ drop (i + 1) dummies) (sym d))
    ∙ ap (λ xs. pair_of (dummy ∷ drop (i + 1) dummies) xs name) (drop_more (first ∷ arguments) i first le)
    ∙ passed (bytes_eq dummy.dummy_reference name) _ _ e

-- ---- the scope that they give

abbrev pub found_in : Scope → Pair → Bound
found_in scope pair = record { governor = pair.governor; argument = Some (record { tree = pair.argument; scope = scope }) }

either : (b : Bool) (pair : Pair) (scope : Scope) (x : Option Bound) (y : Option Pair) → x ≡ option_map (found_in scope) y →
    (if b then Some (found_in scope pair) else x) ≡ option_map (found_in scope) (if b then Some pair else y)
either true pair scope x y e = refl
either false pair scope x y e = e

pub bound_in : (scope : Scope) (dummies : List ParameterizationArgument) (arguments : List Parameter) (name : List ℕ) →
    bound_to (binding scope dummies arguments) name ≡ option_map (found_in scope) (pair_of dummies arguments name)
bound_in scope [] arguments name = refl
bound_in scope (dummy ∷ dummies) [] name = refl
bound_in scope (dummy ∷ dummies) (argument ∷ arguments) name =
    either (bytes_eq dummy.dummy_reference name) (record { governor = dummy.param_governor; argument = argument }) scope
    (bound_to (binding scope dummies arguments) name) (pair_of dummies arguments name) (bound_in scope dummies arguments name)

pub missing : (scope : Scope) (dummies : List ParameterizationArgument) (arguments : List Parameter) → length arguments < length dummies → entered scope dummies arguments ≡ None
missing scope [] arguments lt = absurd (omega arith)
missing scope (dummy ∷ dummies) [] lt = refl
missing scope (dummy ∷ dummies) (argument ∷ arguments) lt =
    ap (λ inner. once None inner (λ others. Some (Binds dummy.dummy_reference dummy.param_governor argument scope others))) (missing scope dummies arguments (omega arith))

pub given : (scope : Scope) (dummies : List ParameterizationArgument) (arguments : List Parameter) → length dummies ≤ length arguments →
    entered scope dummies arguments ≡ Some (binding scope dummies arguments)
given scope [] arguments le = refl
given scope (dummy ∷ dummies) [] le = absurd (omega arith)
given scope (dummy ∷ dummies) (argument ∷ arguments) le =
    ap (λ inner. once None inner (λ others. Some (Binds dummy.dummy_reference dummy.param_governor argument scope others))) (given scope dummies arguments (omega arith))
