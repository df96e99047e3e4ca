-- What types accept, within a number of steps.
use Rattle.std.proofs.Common.{◌≡◌, ℕ, ◌+◌, ◌-◌, ◌<◌, suc, List, Bool, Option, Some, None, refl, ap, ◌∙◌, arith}
use Rattle.std.specs.Option.{option_map}
use Rattle.asn_tree.specs.declared.constraints.Constraint.{Constraint}
use Rattle.asn_meaning.specs.Answers.{Answer, Unknown, answer_of, both, once}
use Rattle.asn_meaning.specs.Constraints.{all_hold}
use Rattle.asn_meaning.specs.Definitions.{Definitions}
use Rattle.asn_meaning.specs.Judge.{accepts_at, head_accepts, meaning, stands_for, step}
use Rattle.asn_meaning.specs.Meaning.{Meaning}
use Rattle.asn_meaning.specs.Names.{Lead, IsHead, LeadsTo, IsLost, lead}
use Rattle.asn_meaning.specs.Ranges.{all_constraints, numbers_before}
use Rattle.asn_meaning.specs.Scopes.{Place, Scope, Target}
use Rattle.asn_meaning.specs.Shapes.{kind_or_parts}
use Rattle.asn_meaning.specs.ValueTrees.{ValueTree}

-- ---- steps

pub accepts_suc : (defs : Definitions) (n k : ℕ) (p : Place) (cs : List Constraint) (t : ValueTree) → n ≡ suc k → (meaning defs n).accepts p cs t ≡ accepts_at defs (meaning defs k) p cs t
unfolding meaning step
accepts_suc defs n k p cs t e = ap (λ i. (meaning defs i).accepts p cs t) e

pub accepts_at_more : (defs : Definitions) (n m : ℕ) (p : Place) (cs : List Constraint) (t : ValueTree) → 0 < n →
    (meaning defs (n + m)).accepts p cs t ≡ accepts_at defs (meaning defs (n - 1 + m)) p cs t
accepts_at_more defs n m p cs t lt = accepts_suc defs (n + m) (n - 1 + m) p cs t (omega arith)

-- ---- what a type stands for, and its constraints

pub accepted_headless : (defs : Definitions) (M : Meaning) (p : Place) (cs : List Constraint) (t : ValueTree) → M.head p ≡ None →
    accepts_at defs M p cs t ≡ both (stands_for M t p (lead defs M p)) Unknown
accepted_headless defs M p cs t e =
    ap (λ found. both (stands_for M t p (lead defs M p)) (once Unknown found (λ head. all_hold M p.scope head (numbers_before defs M p) (all_constraints p cs) t))) e

pub accepted_headed : (defs : Definitions) (M : Meaning) (p h : Place) (cs : List Constraint) (t : ValueTree) → M.head p ≡ Some h →
    accepts_at defs M p cs t ≡ both (stands_for M t p (lead defs M p)) (all_hold M p.scope h (numbers_before defs M p) (all_constraints p cs) t)
accepted_headed defs M p h cs t e =
    ap (λ found. both (stands_for M t p (lead defs M p)) (once Unknown found (λ head. all_hold M p.scope head (numbers_before defs M p) (all_constraints p cs) t))) e

pub stands_as_head : (M : Meaning) (t : ValueTree) (p : Place) (l : Lead) → l ≡ IsHead → stands_for M t p l ≡ head_accepts M t p
stands_as_head M t p l e = ap (stands_for M t p) e

pub stands_beyond : (M : Meaning) (t : ValueTree) (p : Place) (l : Lead) (x : Target) → l ≡ LeadsTo x → stands_for M t p l ≡ M.accepts x.place x.constraints t
stands_beyond M t p l x e = ap (stands_for M t p) e

pub stands_lost : (M : Meaning) (t : ValueTree) (p : Place) (l : Lead) → l ≡ IsLost → stands_for M t p l ≡ Unknown
stands_lost M t p l e = ap (stands_for M t p) e

-- ---- kinds

pub judged_by : (test : Option (ValueTree → Bool)) (parts : Answer) (t : ValueTree) (b : Bool) → Some b ≡ option_map (λ f. f t) test → kind_or_parts test parts t ≡ answer_of b
judged_by None parts t b e = absurd cc
judged_by (Some f) parts t b e = ap answer_of (same b (f t) e)
  where
    same : (a b : Bool) → Some a ≡ Some b → b ≡ a
    same a b e = cc

pub judged_beyond : (test : Option (ValueTree → Bool)) (parts : Answer) (t : ValueTree) → None ≡ option_map (λ f. f t) test → kind_or_parts test parts t ≡ parts
judged_beyond None parts t e = refl
judged_beyond (Some f) parts t e = absurd cc
