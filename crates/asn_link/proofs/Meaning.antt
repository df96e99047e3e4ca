-- A clean definition means what it meant.
use Rattle.std.proofs.Common.{◌≡◌, ℕ, zero, suc, ◌<◌, ◌≤◌, inl, true, false, Option, Some, None, List, [], ◌∷◌, length, map, get_or, refl, sym, ap, ◌∙◌, subst, arith}
use Rattle.std.specs.List.{AllZip}
use Rattle.std.proofs.lemmas.List.{length-map}
use Rattle.asn_tree_headers.specs.declared.headers.AsnTag.{AsnTag}
use Rattle.asn_tree.specs.declared.definitions.ToplevelDefinition.{ToplevelDefinition}
use Rattle.asn_tree.specs.declared.definitions.ToplevelDefinition.TheVariants.{TypeDef, Value, Information}
use Rattle.asn_tree.specs.declared.types.ASN1Type.{ASN1Type}
use Rattle.asn_meaning.specs.Definitions.{Definitions}
use Rattle.asn_names_graph.specs.Drawn.{Ascend}
use Rattle.asn_names_graph.proofs.Standing.{stands_for}
use Rattle.asn_names_index.specs.Definitions.{last_named, name_of}
use Rattle.asn_link_instance.specs.Closed.{AreClosed as NamesAreClosed}
use Rattle.asn_link_instance.specs.Laws.{ClosedNamesMeanTheSame}
use Rattle.asn_link_closed.specs.Closed.{are_open, is_open, left_in}
use Rattle.asn_link_closed.specs.Laws.{AreLinked, ClosedDefinitionsClose, closed_names, IsLinked, IsMade}
use Rattle.asn_link_closed.specs.OwnInstances.{Eventually}
use Rattle.asn_link_all.specs.Laws.{MadeAreInstances}
use Rattle.asn_link_all.specs.Linked.{AreLinkedTypes}
use Rattle.asn_link_all.specs.Ways.{ways_of}
use Rattle.asn_link_all.specs.declared.ways.Way.{Way}
use Rattle.asn_link.specs.Laws.{CleanMeanTheSame}
use Rattle.asn_link.specs.Linked.{Linking, linked_definitions, linked_one, most_in_circles, most_levels, most_steps}
use Rattle.asn_link.proofs.Long.{all_ways, types_long}
use Rattle.asn_link.proofs.Given.{AsLong, BothStand, both_stand, linked_at, linked_long, name_kept, names_kept, opens}

abbrev Made : Type 0
Made = List (Option ASN1Type)

-- ---- lists

zip_at : {A B : Type 0} (R : A → B → Type 0) (xs : List A) (ys : List B) (i : ℕ) (a : A) (b : B) → AllZip R xs ys → i < length xs → R (get_or xs i a) (get_or ys i b)
zip_at R [] ys i a b all h = absurd (omega (arith, h))
zip_at R (x ∷ xs) [] i a b all h = absurd all
zip_at R (x ∷ xs) (y ∷ ys) zero a b all h = all.0
zip_at R (x ∷ xs) (y ∷ ys) (suc i) a b all h = zip_at R xs ys i a b all.1 (omega (arith, h))

-- whether a definition at a place is open
pub open_at : (ds : Definitions) (made : Made) (x : ℕ) (d : ToplevelDefinition) → length made ≡ length ds → x < length ds →
    get_or (are_open ds made) x false ≡ is_open (get_or ds x d) (get_or made x None)
open_at [] made x d e h = absurd (omega (arith, h))
open_at (y ∷ ds) [] x d e h = absurd cc
open_at (y ∷ ds) (m ∷ made) zero d e h = refl
open_at (y ∷ ds) (m ∷ made) (suc x) d e h = open_at ds made x d (omega (arith, e)) (omega (arith, h))

-- ---- what linking makes of definitions

-- one step fewer than there are
fewer : ℕ
fewer = 4095

all_steps : most_steps ≡ suc fewer
unfolding fewer
all_steps = refl

few_in_circles : most_in_circles ≤ suc fewer
few_in_circles = subst (λ i. most_in_circles ≤ i) all_steps (omega arith)

module _ (instances : MadeAreInstances) {defs : Definitions} (l : Linking defs) where
  abbrev ds : Definitions
  ds = l.standing

  types : AreLinkedTypes defs (suc fewer) most_levels most_in_circles ds l.withheld l.made l.tags l.closed
  types = subst (λ i. AreLinkedTypes defs i most_levels most_in_circles ds l.withheld l.made l.tags l.closed) all_steps l.types

  abbrev ways : List Way
  ways = ways_of types.free l.withheld

  pub as_long : AsLong ds l.tags l.made
  as_long = types_long types

  -- the levels within which all that was made is an instance
  made_there : Eventually (λ j. AllZip (IsMade defs (suc fewer) j) ds l.made)
  made_there =
      let e = instances defs ds ways fewer most_levels most_in_circles few_in_circles (all_ways types) in
      record { levels = e.levels; holds = λ j le. subst (AllZip (IsMade defs (suc fewer) j) ds) (sym types.made_so) (e.holds j le) }

  abbrev levels : ℕ
  levels = made_there.levels

  all_made : AllZip (IsMade defs (suc fewer) levels) ds l.made
  all_made = made_there.holds levels (omega arith)

  long_names : length (map name_of ds) ≡ length ds
  long_names = length-map ds name_of

  -- a closed definition is not open
  not_open : (x : ℕ) (d : ToplevelDefinition) → x < length ds → get_or l.closed x false ≡ true → is_open (get_or ds x d) (get_or l.made x None) ≡ true → ⊥
  not_open x d h c o = (types.closed_so.free.each x within).0 c (inl (open_at ds l.made x d as_long.of_made h ∙ o))
    where
      within : x < length l.closed
      within =
          let f = types.closed_so.free.long in
          let g = types.closed_so.drawn.long in
          let m = length-map l.made left_in in
          let k = as_long.of_made in
          omega (arith, f, g, m, k, h)

  linked_so : (d : ToplevelDefinition) (t : Option AsnTag) (m : Option ASN1Type) → IsMade defs (suc fewer) levels d m → (is_open d m ≡ true → ⊥) → IsLinked d m (Some (linked_one d t m))
  linked_so (TypeDef d) t None i o = absurd (o refl)
  linked_so (TypeDef d) t (Some ty) i o = (i.0, refl)
  linked_so (Value d) t m i o = tt
  linked_so (Information d) t m i o = tt

  abbrev others : Definitions
  others = linked_definitions l

  each : (x : ℕ) (d : ToplevelDefinition) → x < length ds → get_or l.closed x false ≡ true → IsLinked (get_or ds x d) (get_or l.made x None) (last_named others (name_of (get_or ds x d)))
  each x d h c =
      let here = get_or ds x d in
      let made = get_or l.made x None in
      let tag = get_or l.tags x None in
      let up : Ascend (map name_of others) = subst Ascend (sym (names_kept ds l.tags l.made as_long)) l.stand.ascending in
      let there : get_or others x d ≡ linked_one here tag made = linked_at ds l.tags l.made x d d as_long h in
      let named : name_of (get_or others x d) ≡ name_of here = ap name_of there ∙ name_kept here tag made in
      let within : x < length others = (let e = linked_long ds l.tags l.made as_long in omega (arith, e, h)) in
      let stands : last_named others (name_of here) ≡ Some (linked_one here tag made) =
      ap (last_named others) (sym named) ∙ stands_for others x d up within ∙ ap Some there in
      subst (IsLinked here made) (sym stands) (linked_so here tag made (zip_at (IsMade defs (suc fewer) levels) ds l.made x d None all_made h) (not_open x d h c))

  both : (name : List ℕ) → BothStand (last_named defs name) (last_named others name)
  both name = subst (λ o. BothStand o (last_named others name)) (l.stand.each name) (both_stand ds l.tags l.made name as_long)

  none : (name : List ℕ) → last_named defs name ≡ None → last_named others name ≡ None
  none name e = go (last_named others name) (subst (λ o. BothStand o (last_named others name)) e (both name))
    where
      go : (o : Option ToplevelDefinition) → BothStand None o → o ≡ None
      go None s = refl
      go (Some d) s = absurd s

  are_linked : AreLinked defs others ds l.made l.closed
  are_linked = record { each = each; none_added = none; opens = opens defs others both }

  names_closed : ClosedDefinitionsClose → NamesAreClosed (closed_names (map name_of ds) l.closed) defs others (suc fewer) levels
  names_closed close = close defs others ds l.made l.closed (suc fewer) levels l.stand all_made types.closed_so are_linked

pub clean_mean_the_same : MadeAreInstances → ClosedDefinitionsClose → ClosedNamesMeanTheSame → CleanMeanTheSame
clean_mean_the_same instances close same defs l name d clean is =
    same (closed_names (map name_of l.standing) l.closed) defs (linked_definitions l) (suc fewer) (levels instances l) (names_closed instances l close) name d clean is
