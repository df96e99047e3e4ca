-- The scope that arguments give, and the arguments with their dummies, one by one.
use Rattle.std.proofs.Common.{◌≡◌, ℕ, ◌+◌, ◌-◌, ◌<◌, ◌≤◌, zero, suc, List, [], ◌∷◌, ◌++◌, map, drop, length, get_or, refl, sym, ap, ◌∙◌, arith}
use Rattle.std.proofs.lemmas.List.{drop_more, drop_all}
use Rattle.std.specs.Borrow.{Bor}
use Rattle.std.specs.declared.alloc.Global.{Global}
use Rattle.std.specs.declared.rc.Rc.{Rc}
use Rattle.asn_meaning_heads.specs.declared.scopes.Scope.{Scope as OwnScope}
use Rattle.asn_meaning_heads.specs.declared.scopes.Scope.TheVariants as own
use Rattle.asn_tree.specs.declared.constraints.Parameter.{Parameter}
use Rattle.asn_tree.specs.declared.definitions.ParameterizationArgument.{ParameterizationArgument}
use Rattle.asn_meaning_heads.proofs.Scoping.{shown_entered}
use Rattle.asn_meaning.specs.Scopes.{Binds, LeavesOpen, Scope}
use Rattle.asn_needs.specs.PartsOfTypes.{argument_sites}
use Rattle.asn_needs.specs.Dummies.{filled}
use Rattle.asn_meaning_heads.specs.Scopes.{filling, shown}
use Rattle.asn_needs.specs.Sites.{AnArgument, NoArgument, Site, beside}
use Rattle.asn_places_types.specs.inner.Lists.{argument_site}
use Rattle.asn_places_types.proofs.Adding.{regrouped}

-- ---- scopes

same_filling : (scope : Scope) (ds : List ParameterizationArgument) (given : List Parameter) → filling scope ds given ≡ filled scope ds given
same_filling scope [] given = refl
same_filling scope (d ∷ ds) [] = ap (LeavesOpen d.dummy_reference d.param_governor) (same_filling scope ds [])
same_filling scope (d ∷ ds) (a ∷ given) = ap (Binds d.dummy_reference d.param_governor a scope) (same_filling scope ds given)

pub filled_entered : (outer : OwnScope) (dummies : Bor (List ParameterizationArgument)) (arguments : Bor (List Parameter)) (scope : Rc OwnScope Global) →
    shown scope.value ≡ shown outer → shown (own.Entered dummies arguments scope) ≡ filled (shown outer) dummies.now arguments.now
filled_entered outer dummies arguments scope e =
    shown_entered (own.Entered dummies arguments scope) dummies arguments scope refl ∙ same_filling (shown scope.value) dummies.now arguments.now
    ∙ ap (λ x. filled x dummies.now arguments.now) e

-- ---- arguments

arguments_first : (s : Site) (inner : Scope) (d : ParameterizationArgument) (ds : List ParameterizationArgument) (k : ℕ) (given : List Parameter) →
    argument_sites s inner (d ∷ ds) (drop k given) ≡ argument_site s inner d (drop k given) ∷ argument_sites s inner ds (drop (suc k) given)
arguments_first s inner d ds zero [] = refl
arguments_first s inner d ds zero (a ∷ given) = refl
arguments_first s inner d ds (suc k) [] = refl
arguments_first s inner d ds (suc k) (a ∷ given) = arguments_first s inner d ds k given

arguments_step : (s : Site) (inner : Scope) (ds : List ParameterizationArgument) (given : List Parameter) (k : ℕ) (d : ParameterizationArgument) → k < length ds → d ≡ get_or ds k d →
    argument_sites s inner (drop k ds) (drop k given) ≡ argument_site s inner d (drop k given) ∷ argument_sites s inner (drop (k + 1) ds) (drop (k + 1) given)
arguments_step s inner ds given k d lt e =
    let more : suc k ≡ k + 1 = omega arith in
    ap (λ xs. argument_sites s inner xs (drop k given)) (drop_more ds k d lt ∙ ap (λ x. x ∷ drop (k + 1) ds) (sym e))
    ∙ arguments_first s inner d (drop (k + 1) ds) k given
    ∙ ap (λ n. argument_site s inner d (drop k given) ∷ argument_sites s inner (drop (k + 1) ds) (drop n given)) more

pub arguments_next : (s : Site) (inner : Scope) (ds : List ParameterizationArgument) (given : List Parameter) (k : ℕ) (d : ParameterizationArgument) (out : List Site) {more whole : List Site} →
    k < length ds → d ≡ get_or ds k d → out ++ argument_sites s inner (drop k ds) (drop k given) ≡ whole → more ≡ out ++ argument_site s inner d (drop k given) ∷ [] →
    more ++ argument_sites s inner (drop (k + 1) ds) (drop (k + 1) given) ≡ whole
arguments_next s inner ds given k d out lt e h is =
    ap (λ ys. ys ++ argument_sites s inner (drop (k + 1) ds) (drop (k + 1) given)) is
    ∙ regrouped out (argument_site s inner d (drop k given) ∷ []) (argument_sites s inner (drop (k + 1) ds) (drop (k + 1) given))
    ∙ ap (λ ys. out ++ ys) (sym (arguments_step s inner ds given k d lt e)) ∙ h

pub arguments_done : (s : Site) (inner : Scope) (ds : List ParameterizationArgument) (given : List Parameter) (k : ℕ) (out all : List Site) (whole : List Site) →
    k ≡ length ds → out ++ argument_sites s inner (drop k ds) (drop k given) ≡ whole → all ≡ out ++ argument_sites s inner [] (drop (length ds) given) → all ≡ whole
arguments_done s inner ds given k out all whole is h f =
    f ∙ ap (λ n. out ++ argument_sites s inner [] (drop n given)) (sym is)
    ∙ sym (ap (λ xs. out ++ argument_sites s inner xs (drop k given)) (drop_all k ds (omega (arith, is)))) ∙ h

-- ---- one dummy

pub argument_bound : (s : Site) (inner : Scope) (d : ParameterizationArgument) (given : List Parameter) (k : ℕ) (a : Parameter) (xs all : List Site) → k < length given → a ≡ get_or given k a →
    all ≡ xs ++ beside s (AnArgument a d inner) ∷ [] → all ≡ xs ++ argument_site s inner d (drop k given) ∷ []
argument_bound s inner d given k a xs all lt e is =
    is ∙ sym (ap (λ ys. xs ++ argument_site s inner d ys ∷ []) (drop_more given k a lt ∙ ap (λ x. x ∷ drop (k + 1) given) (sym e)))

pub argument_open : (s : Site) (inner : Scope) (d : ParameterizationArgument) (given : List Parameter) (k : ℕ) (xs all : List Site) → length given ≤ k →
    all ≡ xs ++ beside s NoArgument ∷ [] → all ≡ xs ++ argument_site s inner d (drop k given) ∷ []
argument_open s inner d given k xs all le is = is ∙ sym (ap (λ ys. xs ++ argument_site s inner d ys ∷ []) (drop_all k given le))
