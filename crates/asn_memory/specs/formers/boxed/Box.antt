-- How a box holds its value: a recursive type may reach itself through it.
use mathlib.Core.Path.{refl}
use mathlib.Core.Former as former
use mathlib.Core.Former.{Former}
use base.Stored.{gnil}
use base.Fml.{ftrue}
use denote.RattleType.{RattleType}
use denote.Memory.{part_of}
use denote.RawPtr.{Ptr}
use denote.Sharing.{nothing}
use denote.HoleLaws.{Alike}
use denote.HolePlaces.{Recodes, struct_places, laid, one_value}
use denote.Hole.Fix.{over}
use denote.Param.Weighed.{Weighed}
use denote.Model.Placed.{view_places}
use Rattle.std.specs.declared.boxed.Box.{Box}
use Rattle.std.specs.contracts.boxed.Box as std_box
use Rattle.std.specs.declared.alloc.Global.{Global}
use Rattle.std.specs.contracts.alloc.Global as heap
use Rattle.std.specs.contracts.impls.GlobalAllocator.TheImpl.{ghosts}
use Rattle.asn_memory.specs.declared.boxed.Box.TheInside as inside
use Rattle.asn_memory.specs.declared.boxed.Box.TheView.{view, invariant}
use Rattle.asn_memory.specs.contracts.boxed.Box as own
use Rattle.asn_memory.specs.contracts.boxed.Box.TheInside as fields

-- Its value is the one value that it holds.
abbrev pub the_former : Former {0} → Former {0}
the_former g = g

abbrev pub the_weighed : {g : Former {0}} → Weighed g → Weighed (the_former g)
the_weighed w = w

-- the struct as a pointer, an allocator and the value
abbrev as_pointer : Former {0}
as_pointer =
    former.via (former.pair (former.const (Ptr × Global)) former.this) inside.Inside
    (λ X s. ((s.inner.ptr, s.inner.alloc), s.inner.value))
    (λ X v. record { inner = record { ptr = v.0.0; alloc = v.0.1; value = v.1 } }) (λ X s. refl) (λ X v. refl)

-- the same box with another value
abbrev holding : {X Y : Type 0} → Box X Global → Y → Box Y Global
holding b y = record { ptr = b.ptr; alloc = b.alloc; value = y }

abbrev row_of : RattleType → RattleType
row_of R = std_box.the_row R heap.the_row ghosts

module _ (R S : RattleType) (h : R.Denot → S.Denot) where
  std_places : Alike R S h → Alike (row_of R) (row_of S) (λ b. holding b (h b.value))
  unfolding part_of
  std_places alike =
      record {
        mir_same = λ i. (row_of (one_value R (alike.mir_same i) (λ _. ftrue) (λ _ _. nothing) gnil)).mir;
        own_same = λ b i. (row_of (one_value R (alike.mir_same i) (alike.own_same b.value i) (alike.shr_same b.value i) gnil)).own_val (holding b tt);
        shr_same = λ b i. (row_of (one_value R (alike.mir_same i) (alike.own_same b.value i) (alike.shr_same b.value i) gnil)).shr_at (holding b tt);
      }

  pub the_places : Alike R S h → Alike (own.the_row R) (own.the_row S) ((the_former former.this).map R.Denot S.Denot h)
  the_places alike =
      view_places as_pointer former.this view (λ X Y k u. refl) (λ X u. refl) R.Denot S.Denot h
      (own.the_row R).coded (own.the_row S).coded (invariant R.Denot) (invariant S.Denot)
      (λ u p q. refl) (λ u p q. refl) (λ u e. tt) (λ u e. tt) (over (fields.the_row R)) (over (fields.the_row S))
      (struct_places (fields.the_type R) (fields.the_type S) ((λ b. holding b (h b.value)), tt) _ (λ d. refl) refl
      (laid _ _ _ (std_places alike), tt))

  pub the_codes_placed : Recodes R S h → Recodes (own.the_row R) (own.the_row S) ((the_former former.this).map R.Denot S.Denot h)
  the_codes_placed recodes v = recodes v
