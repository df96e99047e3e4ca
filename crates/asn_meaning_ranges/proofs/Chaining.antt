-- The elements of a set in order, within a number of steps.
use Rattle.std.proofs.Common.{◌≡◌, ℕ, ◌+◌, ◌-◌, ◌<◌, suc, [], Some, None, ap, ◌∙◌, arith}
use Rattle.asn_tree.specs.declared.constraints.ElementOrSetOperation.{ElementOrSetOperation, out-ElementOrSetOperation}
use Rattle.asn_tree.specs.declared.constraints.ElementOrSetOperation.TheVariants as set
use Rattle.asn_tree.specs.declared.constraints.SetOperation.{SetOperation, out-SetOperation}
use Rattle.asn_tree.specs.declared.constraints.SubtypeElement.{SubtypeElement}
use Rattle.asn_meaning.specs.Answers.{once}
use Rattle.asn_meaning.specs.Constraints.{chain_at, chain_behind}
use Rattle.asn_meaning.specs.Definitions.{Definitions}
use Rattle.asn_meaning.specs.Judge.{meaning, step}
use Rattle.asn_meaning.specs.Numbers.{Chain}

chain_suc : (defs : Definitions) (n k : ℕ) (s : ElementOrSetOperation) → n ≡ suc k → (meaning defs n).chain s ≡ chain_at (meaning defs k) (out-ElementOrSetOperation s)
unfolding meaning step
chain_suc defs n k s e = ap (λ i. (meaning defs i).chain s) e

chain_more : (defs : Definitions) (n m : ℕ) (s : ElementOrSetOperation) → 0 < n → (meaning defs (n + m)).chain s ≡ chain_at (meaning defs (n - 1 + m)) (out-ElementOrSetOperation s)
chain_more defs n m s lt = chain_suc defs (n + m) (n - 1 + m) s (omega arith)

pub one_element : (defs : Definitions) (n m : ℕ) (s : ElementOrSetOperation) (e : SubtypeElement) → 0 < n → s ≡ set.Element e →
    (meaning defs (n + m)).chain s ≡ Some (record { first = e; others = [] })
one_element defs n m s e lt is = chain_more defs n m s lt ∙ ap (chain_at (meaning defs (n - 1 + m))) (ap out-ElementOrSetOperation is ∙ set.outs-Element e)

pub more_elements : (defs : Definitions) (n m : ℕ) (s : ElementOrSetOperation) (x : SetOperation) (c : Chain) → 0 < n → s ≡ set.SetOperation x →
    (meaning defs (n - 1 + m)).chain (out-SetOperation x).operant ≡ Some c → (meaning defs (n + m)).chain s ≡ Some (chain_behind (out-SetOperation x) c)
more_elements defs n m s x c lt is e =
    chain_more defs n m s lt
    ∙ ap (chain_at (meaning defs (n - 1 + m))) (ap out-ElementOrSetOperation is ∙ set.outs-SetOperation x)
    ∙ ap (λ c. once None c (λ c. Some (chain_behind (out-SetOperation x) c))) e
