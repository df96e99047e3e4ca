-- Dummies without an argument, and arguments that are handed on.
use Rattle.std.proofs.Common.{◌≡◌, ℕ, ◌+◌, ◌-◌, ◌<◌, suc, true, false, List, Option, Some, None, refl, ap, ◌∙◌, arith}
use Rattle.std.specs.Prelude.{is_none}
use Rattle.asn_tree.specs.declared.constraints.Parameter.{out-Parameter}
use Rattle.asn_meaning_dummies.specs.inner.Handing.{dummy_of}
use Rattle.asn_meaning.specs.Answers.{once}
use Rattle.asn_meaning.specs.Scopes.{Argument, Bound, Scope, bound_to}
use Rattle.asn_needs.specs.Dummies.{argument_name, handed_on, is_free_dummy}

-- ---- one dummy

pub free_not : (scope : Scope) (name : List ℕ) → bound_to scope name ≡ None → is_free_dummy scope name ≡ false
free_not scope name e = ap (λ o. once false o (λ b. is_none b.argument)) e

pub free_bound : (scope : Scope) (name : List ℕ) (b : Bound) (a : Argument) → bound_to scope name ≡ Some b → b.argument ≡ Some a → is_free_dummy scope name ≡ false
free_bound scope name b a e f = ap (λ o. once false o (λ b. is_none b.argument)) e ∙ ap (λ o. is_none o) f

pub free_open : (scope : Scope) (name : List ℕ) (b : Bound) → bound_to scope name ≡ Some b → b.argument ≡ None → is_free_dummy scope name ≡ true
free_open scope name b e f = ap (λ o. once false o (λ b. is_none b.argument)) e ∙ ap (λ o. is_none o) f

-- ---- handing on

-- what an argument stands for within one step more, where its scope binds it to this
abbrev passed : ℕ → Argument → Option Bound → Option Argument
passed n a o = once (Some a) o (λ b. once None b.argument (handed_on n))

one_step : (n : ℕ) (a : Argument) → handed_on (suc n) a ≡ passed n a (dummy_of a)
one_step n a = go (argument_name (out-Parameter a.tree))
  where
    go : (o : Option (List ℕ)) →
        once (Some a) o (λ name. once (Some a) (bound_to a.scope name) (λ b. once None b.argument (handed_on n)))
        ≡ once (Some a) (once None o (bound_to a.scope)) (λ b. once None b.argument (handed_on n))
    go None = refl
    go (Some name) = refl

above : (n m : ℕ) → 0 < n → n + m ≡ suc (n - 1 + m)
above n m lt = omega arith

at_step : (n m : ℕ) (a : Argument) → 0 < n → handed_on (n + m) a ≡ passed (n - 1 + m) a (dummy_of a)
at_step n m a lt = ap (λ k. handed_on k a) (above n m lt) ∙ one_step (n - 1 + m) a

pub stays : (n m : ℕ) (a : Argument) → 0 < n → dummy_of a ≡ None → handed_on (n + m) a ≡ Some a
stays n m a lt e = at_step n m a lt ∙ ap (passed (n - 1 + m) a) e

pub ends : (n m : ℕ) (a : Argument) (b : Bound) → 0 < n → dummy_of a ≡ Some b → b.argument ≡ None → handed_on (n + m) a ≡ None
ends n m a b lt e f = at_step n m a lt ∙ ap (passed (n - 1 + m) a) e ∙ ap (λ o. once None o (handed_on (n - 1 + m))) f

pub goes : (n m : ℕ) (a next : Argument) (b : Bound) → 0 < n → dummy_of a ≡ Some b → b.argument ≡ Some next → handed_on (n + m) a ≡ handed_on (n - 1 + m) next
goes n m a next b lt e f = at_step n m a lt ∙ ap (passed (n - 1 + m) a) e ∙ ap (λ o. once None o (handed_on (n - 1 + m))) f
