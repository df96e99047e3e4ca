-- What holds for these steps alone, and what is known within no steps.
use Rattle.std.proofs.Common.{◌≡◌, ℕ, ◌+◌, None, ap, arith}
use Rattle.asn_meaning_heads.specs.declared.spans.Span.TheVariants.{These}
use Rattle.asn_meaning_heads.specs.Spans.{further}
use Rattle.asn_meaning.specs.Definitions.{Definitions}
use Rattle.asn_meaning.specs.Judge.{meaning, nothing_known}
use Rattle.asn_meaning.specs.Meaning.{Meaning}
use Rattle.asn_meaning.specs.Scopes.{Place}

-- What is told of so many steps and none further is told of these steps.
pub of_these : {A : Type 0} (f : Meaning → A) (defs : Definitions) (n : ℕ) → f (meaning defs (n + further These 0)) ≡ f (meaning defs n)
of_these f defs n = ap (λ k. f (meaning defs k)) (omega arith)

-- Within no steps nothing has a head.
pub no_head : (defs : Definitions) (n m : ℕ) (p : Place) → n ≡ 0 → m ≡ 0 → (meaning defs (n + m)).head p ≡ None
unfolding meaning nothing_known
no_head defs n m p e f =
    let none : n + m ≡ 0 = omega arith in
    ap (λ k. (meaning defs k).head p) none
