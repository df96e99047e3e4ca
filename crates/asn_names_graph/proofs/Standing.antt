-- What the definitions that stand say of names: each name stands for the one definition that has it.
use Rattle.std.proofs.Common.{◌≡◌, ℕ, zero, suc, ◌<◌, Bool, true, false, Option, Some, None, List, [], ◌∷◌, length, map, get_or, refl, sym, ap, ◌∙◌, arith}
use Rattle.std.specs.Prelude.{if◌then◌else◌}
use Rattle.std.specs.Cmp.Lexicographic.{slice_cmp}
use Rattle.std.specs.List.{AllByRecursion}
use Rattle.std.specs.Ordering.{nat_cmp}
use Rattle.std.specs.declared.cmp.Ordering.TheVariants.{Less}
use Rattle.std.proofs.lemmas.Map.Keys.{sorted_head, sorted_tail}
use Rattle.std.proofs.lemmas.Slice.Eq.{bytes_eq-Decides}
use Rattle.asn_tree.specs.declared.definitions.ToplevelDefinition.{ToplevelDefinition}
use Rattle.asn_names_index.specs.Definitions.{Definitions, is_named, last_named, name_of}
use Rattle.asn_names_index.proofs.Seen.{or_else}
use Rattle.asn_names_graph.specs.Drawn.{Ascend}
use Rattle.asn_names_graph.proofs.Ascending.{tie}

-- a definition with the name, and its place
pub record HasName (ds : Definitions) (name : List ℕ) (d : ToplevelDefinition) : Type 0 where
  pub place : ℕ
  pub within : place < length ds
  pub there : get_or ds place d ≡ d
  pub named : name_of d ≡ name

-- what a name stands for has the name
pub has_name : (ds : Definitions) (name : List ℕ) (d : ToplevelDefinition) → last_named ds name ≡ Some d → HasName ds name d
has_name [] name d e = absurd cc
has_name (x ∷ ds) name d e = go (has_name ds name d) (last_named ds name) refl e
  where
    behind : HasName ds name d → HasName (x ∷ ds) name d
    behind h = record { place = suc h.place; within = (let k : h.place < length ds = h.within in omega arith); there = h.there; named = h.named }

    here : (b : Bool) → is_named name x ≡ b → (if b then Some x else None) ≡ Some d → HasName (x ∷ ds) name d
    here true t h =
        let same : x ≡ d = cc in
        record { place = 0; within = omega arith; there = same; named = ap name_of (sym same) ∙ (bytes_eq-Decides (name_of x) name).0 t }
    here false t h = absurd cc

    go : (last_named ds name ≡ Some d → HasName ds name d) → (o : Option ToplevelDefinition) → last_named ds name ≡ o →
        or_else o (if is_named name x then Some x else None) ≡ Some d → HasName (x ∷ ds) name d
    go later (Some y) t h = behind (later (t ∙ h))
    go later None t h = here (is_named name x) refl h

-- a name below all stands for nothing
below_all : (ds : Definitions) (name : List ℕ) → AllByRecursion (λ y. slice_cmp nat_cmp name y ≡ Less) (map name_of ds) → last_named ds name ≡ None
below_all [] name h = refl
below_all (x ∷ ds) name h =
    ap (λ o. or_else o (if is_named name x then Some x else None)) (below_all ds name h.1)
    ∙ go (is_named name x) refl
  where
    go : (b : Bool) → is_named name x ≡ b → (if b then Some x else None) ≡ None
    go true t =
        let equal = tie name (name_of x) (sym ((bytes_eq-Decides (name_of x) name).0 t)) in
        let less : slice_cmp nat_cmp name (name_of x) ≡ Less = h.0 in
        absurd cc
    go false t = refl

-- the name of a definition among those whose names ascend stands for it
pub stands_for : (ds : Definitions) (i : ℕ) (d : ToplevelDefinition) → Ascend (map name_of ds) → i < length ds →
    last_named ds (name_of (get_or ds i d)) ≡ Some (get_or ds i d)
stands_for [] i d up h = absurd (omega arith)
stands_for (x ∷ ds) zero d up h =
    let nothing : last_named ds (name_of x) ≡ None = below_all ds (name_of x) (sorted_head (slice_cmp nat_cmp) (name_of x) (map name_of ds) up) in
    ap (λ o. or_else o (if is_named (name_of x) x then Some x else None)) nothing
    ∙ ap (λ b. if b then Some x else None) ((bytes_eq-Decides (name_of x) (name_of x)).1 refl)
stands_for (x ∷ ds) (suc i) d up h =
    let behind : Ascend (map name_of ds) = sorted_tail (slice_cmp nat_cmp) (name_of x) (map name_of ds) up in
    ap (λ o. or_else o (if is_named (name_of (get_or ds i d)) x then Some x else None)) (stands_for ds i d behind (omega arith))
