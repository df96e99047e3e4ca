-- How a list of at least one holds its items: a recursive type may reach itself through it.
use mathlib.Core.Path.{◌≡◌, refl, sym, subst}
use mathlib.Core.List.{List, map}
use mathlib.Core.Former as former
use mathlib.Core.Former.{Former}
use native.Mathlib.Bridge.{le_prop}
use lib.ListN.{length-map}
use base.Stored.{code_map}
use denote.RattleType.{RattleType}
use denote.HoleLaws.{Alike}
use denote.HolePlaces.{Recodes, struct_places, laid}
use denote.Hole.Carrier.{listed, list-listed}
use denote.Hole.Fix.{over}
use denote.Param.Weighed.{Weighed, w_list}
use denote.Model.Placed.{view_places}
use Rattle.std.specs.Prelude.{ℕ, ◌<◌, length}
use Rattle.asn_memory.specs.formers.list.List as list
use Rattle.asn_text.specs.declared.at_least_one.AtLeastOne.TheInside as inside
use Rattle.asn_text.specs.declared.at_least_one.AtLeastOne.TheView.{view, invariant}
use Rattle.asn_text.specs.contracts.at_least_one.AtLeastOne as own
use Rattle.asn_text.specs.contracts.at_least_one.AtLeastOne.TheInside as fields

-- Its value is a list of the items, with no shape beside them.
abbrev pub the_former : Former {0} → Former {0}
the_former g = former.list g

abbrev pub the_weighed : {g : Former {0}} → Weighed g → Weighed (the_former g)
the_weighed w = w_list w

abbrev pub the_items : (X : Type 0) → List X → List X
the_items X items = items

pub the_items_listed : (X : Type 0) (items : List X) → listed _ (former.children (the_former former.this) X items) ≡ the_items X items
the_items_listed X items = list-listed X items

-- the struct as its one field
abbrev as_list : Former {0}
as_list =
    former.via (list.the_former former.this) inside.Inside (λ X s. s.items) (λ X items. record { items = items })
    (λ X s. refl) (λ X items. refl)

module _ (R S : RattleType) (h : R.Denot → S.Denot) where
  still : (items : List R.Denot) → 0 < length items → 0 < length (map h items)
  still items some = let P : ℕ → Type 0 = λ n. 0 < n in subst P (sym (length-map items h)) some

  before : (items : List R.Denot) → 0 < length (map h items) → 0 < length items
  before items some = let P : ℕ → Type 0 = λ n. 0 < n in subst P (length-map items h) some

  pub the_places : Alike R S h → Alike (own.the_row R) (own.the_row S) ((the_former former.this).map R.Denot S.Denot h)
  the_places alike =
      view_places as_list (former.list former.this) view (λ X Y k u. refl) (λ X u. refl) R.Denot S.Denot h
      (own.the_row R).coded (own.the_row S).coded (invariant R.Denot) (invariant S.Denot)
      (λ u p q. le_prop p q) (λ u p q. le_prop p q) (λ u some. still u.items some) (λ u some. before u.items some)
      (over (fields.the_row R)) (over (fields.the_row S))
      (struct_places (fields.the_type R) (fields.the_type S) ((former.list former.this).map R.Denot S.Denot h, tt) _ (λ d. refl) refl
      (laid _ _ _ (list.the_places R S h alike), tt))

  pub the_codes_placed : Recodes R S h → Recodes (own.the_row R) (own.the_row S) ((the_former former.this).map R.Denot S.Denot h)
  the_codes_placed recodes items = sym (code_map R.coded.code S.coded.code h (λ x. sym (recodes x)) items)
