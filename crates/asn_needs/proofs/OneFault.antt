-- A definition has at most one fault: of two that stand the earlier alone is its fault.
use Rattle.std.proofs.Common.{◌≡◌, ℕ, zero, suc, ◌+◌, ◌<◌, refl, sym, ap, ◌∙◌, subst, arith}
use Rattle.asn_needs.specs.Faults.{Fault, Cycle, Argument, MissingDependency, NotYetInplemented, SyntaxMismatch, LinkerError, InvalidConstraintsError, rank, IsFault}
use Rattle.asn_needs.specs.Laws.{OneFault}
use Rattle.asn_needs.specs.Sites.{Seen, seen, Node}

-- the fault of each number
ranked : ℕ → Fault
ranked n = elim n [
  | zero ↦ Cycle
  | suc a ↦ elim a [
    | zero ↦ Cycle
    | suc b ↦ elim b [
      | zero ↦ Argument
      | suc c ↦ elim c [
        | zero ↦ MissingDependency
        | suc d ↦ elim d [
          | zero ↦ NotYetInplemented
          | suc e ↦ elim e [ zero ↦ SyntaxMismatch | suc f ↦ elim f [ zero ↦ LinkerError | suc g ↦ InvalidConstraintsError ] ]
        ]
      ]
    ]
  ]
]

back : (k : Fault) → ranked (rank k) ≡ k
unfolding ranked
back Cycle = refl
back Argument = refl
back MissingDependency = refl
back NotYetInplemented = refl
back SyntaxMismatch = refl
back LinkerError = refl
back InvalidConstraintsError = refl

same_rank : (k j : Fault) → rank k ≡ rank j → k ≡ j
same_rank k j e = sym (back k) ∙ ap ranked e ∙ back j

module _ (S : Seen) (x : Node) where
  not_below : (k j : Fault) → IsFault S x k → IsFault S x j → rank j < rank k → ⊥
  not_below k j a b lt = a.is_first j lt b.stands

  one : (k j : Fault) → IsFault S x k → IsFault S x j → k ≡ j
  one k j a b = same_rank k j (levels (rank k) (rank j) (not_below k j a b) (not_below j k b a))
    where
      levels : (n m : ℕ) → (m < n → ⊥) → (n < m → ⊥) → n ≡ m
      levels n m f g = omega (arith, f, g)

pub one_fault : OneFault
one_fault defs x k j (n, a) (m, b) = one (seen defs (n + m)) x k j (a m) (subst (λ i. IsFault (seen defs i) x j) (omega arith) (b n))
