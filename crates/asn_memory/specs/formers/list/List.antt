-- How a list holds its items: a recursive type may reach itself through it.
use mathlib.Core.Path.{◌≡◌, refl, sym}
use mathlib.Core.List.{List, []}
use mathlib.Core.Former as former
use mathlib.Core.Former.{Former}
use base.Stored.{code_map}
use denote.RattleType.{RattleType}
use denote.HoleLaws.{Alike}
use denote.HolePlaces.{Recodes, struct_places, laid}
use denote.Hole.Carrier.{listed, list-listed}
use denote.Hole.Fix.{over}
use denote.Param.Weighed.{Weighed, w_list}
use denote.Model.Placed.{view_places}
use Rattle.std.specs.formers.vec.Vec as vec
use Rattle.std.specs.declared.alloc.Global.{Global}
use Rattle.std.specs.contracts.alloc.Global as heap
use Rattle.std.specs.contracts.impls.GlobalAllocator.TheImpl.{ghosts}
use Rattle.asn_memory.specs.declared.list.List.TheInside as inside
use Rattle.asn_memory.specs.declared.list.List.TheView.{view, invariant}
use Rattle.asn_memory.specs.contracts.list.List as own
use Rattle.asn_memory.specs.contracts.list.List.TheInside as fields

-- Its value is a list of the items, with no shape beside them.
abbrev pub the_former : Former {0} → Former {0}
the_former g = former.list g

abbrev pub the_weighed : {g : Former {0}} → Weighed g → Weighed (the_former g)
the_weighed w = w_list w

-- A list may hold nothing.
abbrev pub the_empty : List ⊥
the_empty = []

abbrev pub the_items : (X : Type 0) → List X → List X
the_items X items = items

pub the_items_listed : (X : Type 0) (items : List X) → listed _ (former.children (the_former former.this) X items) ≡ the_items X items
the_items_listed X items = list-listed X items

-- the struct as its one field
abbrev as_vec : Former {0}
as_vec =
    former.via (vec.the_former former.this Global) inside.Inside (λ X s. s.items) (λ X items. record { items = items })
    (λ X s. refl) (λ X items. refl)

module _ (R S : RattleType) (h : R.Denot → S.Denot) where
  pub the_places : Alike R S h → Alike (own.the_row R) (own.the_row S) ((the_former former.this).map R.Denot S.Denot h)
  the_places alike =
      view_places as_vec (former.list former.this) view (λ X Y k u. refl) (λ X u. refl) R.Denot S.Denot h
      (own.the_row R).coded (own.the_row S).coded (invariant R.Denot) (invariant S.Denot)
      (λ u p q. refl) (λ u p q. refl) (λ u e. tt) (λ u e. tt) (over (fields.the_row R)) (over (fields.the_row S))
      (struct_places (fields.the_type R) (fields.the_type S) (vec.mapped h, tt) _ (λ d. refl) refl
      (laid _ _ _ (vec.the_places heap.the_row ghosts R S h alike), tt))

  pub the_codes_placed : Recodes R S h → Recodes (own.the_row R) (own.the_row S) ((the_former former.this).map R.Denot S.Denot h)
  the_codes_placed recodes items = sym (code_map R.coded.code S.coded.code h (λ x. sym (recodes x)) items)
