-- The graph of the names that stay in what was made of the definitions that stand.
use Rattle.std.proofs.Common.{◌≡◌, ℕ, suc, ◌+◌, List, [], ◌∷◌, Bool, Option, length, map, refl, sym, ap, ◌∙◌, subst, arith}
use Rattle.std.proofs.lemmas.List.{length-map}
use Rattle.std.proofs.lemmas.Simd.{map-map}
use Rattle.asn_tree.specs.declared.definitions.ToplevelDefinition.{ToplevelDefinition}
use Rattle.asn_tree.specs.declared.types.ASN1Type.{ASN1Type}
use Rattle.asn_names_graph.specs.Graphs.{Edges}
use Rattle.asn_names_graph.specs.Reach.{AreFree}
use Rattle.asn_names_index.specs.Definitions.{Definitions, IsStanding, name_of}
use Rattle.asn_names_graph.specs.Drawn.{Ascend, IsDrawn}
use Rattle.asn_link_closed.specs.Closed.{are_open, AreClosed, left_in}

abbrev Made : Type 0
Made = List (Option ASN1Type)

as_many_open : (ds : Definitions) (made : Made) → length ds ≡ length made → length (are_open ds made) ≡ length made
as_many_open [] [] e = refl
as_many_open [] (m ∷ made) e = absurd cc
as_many_open (d ∷ ds) [] e = absurd cc
as_many_open (d ∷ ds) (m ∷ made) e = ap suc (as_many_open ds made (omega (arith, e)))

module _ {X : Type 0} (f : X → ToplevelDefinition) (defs : Definitions) (xs : List X) (standing : IsStanding defs (map f xs)) where
  names_through : map name_of (map f xs) ≡ map (λ x. name_of (f x)) xs
  names_through = map-map name_of f xs

  -- the names of definitions that stand ascend
  pub names_up : (names : List (List ℕ)) → names ≡ map (λ x. name_of (f x)) xs → Ascend names
  names_up names e = subst Ascend (names_through ∙ sym e) standing.ascending

  -- as many marks as nodes
  pub as_many : (made : Made) (names : List (List ℕ)) (drawn edges : Edges) (open_ones : List Bool) → length xs ≡ length made → IsDrawn names (map left_in made) drawn → edges ≡ drawn →
      open_ones ≡ are_open (map f xs) made → length open_ones + 1 ≡ length edges.starts
  as_many made names drawn edges open_ones e is same are =
      let l : length (map left_in made) ≡ length made = length-map made left_in in
      let d : length drawn.starts ≡ length (map left_in made) + 1 = is.long in
      let m : length edges.starts ≡ length drawn.starts = ap (λ g. length g.starts) same in
      let o : length open_ones ≡ length made = ap length are ∙ as_many_open (map f xs) made (length-map xs f ∙ e) in
      omega (arith, l, d, m, o)

  pub closed_told : (made : Made) (names : List (List ℕ)) (drawn edges : Edges) (open_ones closed : List Bool) → names ≡ map (λ x. name_of (f x)) xs →
      IsDrawn names (map left_in made) drawn → edges ≡ drawn → open_ones ≡ are_open (map f xs) made → AreFree edges open_ones closed → AreClosed (map f xs) made closed
  closed_told made names drawn edges open_ones closed named is same are free =
      record {
        graph = drawn;
        drawn = subst (λ ns. IsDrawn ns (map left_in made) drawn) (named ∙ sym names_through) is;
        free = subst (λ g. AreFree g (are_open (map f xs) made) closed) same (subst (λ os. AreFree edges os closed) are free);
      }
