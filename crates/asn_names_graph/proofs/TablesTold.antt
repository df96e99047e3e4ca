-- The tables of a graph's components are right.
use Rattle.std.proofs.Common.{◌≡◌, ℕ, ◌+◌, ◌<◌, ◌≤◌, ◌⊎◌, ◌↔◌, inl, inr, Bool, true, false, List, [], ◌∷◌, ◌++◌, length, get_or, ap, sym, ◌∙◌, subst, arith}
use Rattle.std.specs.Prelude.{filter}
use Rattle.std.proofs.Math.ListN.{get_or-append}
use Rattle.std.proofs.Math.Seq.{get_or-append_seam}
use Rattle.std.proofs.lemmas.Bool.{cases_lt}
use Rattle.asn_names_graph.specs.Graphs.{Edges, edges_of, IsGraph, IsNode, NeedsNoCycle}
use Rattle.asn_names_graph.specs.inner.Numbered.{Numbered, ReturnsTo}
use Rattle.asn_names_graph.specs.inner.Told.{IsTold}
use Rattle.asn_names_graph.specs.inner.Valid.{StandsIn}
use Rattle.asn_names_graph.proofs.Needs.{itself_iff, one_iff}
use Rattle.asn_names_graph.proofs.Orders.{is_order, is_order_of_free}

pub told : (g : Edges) (numbers order free_order : List ℕ) (cyclic free : List Bool) → IsGraph g → Numbered g numbers order →
    length cyclic + 1 ≡ length g.starts → ((x : ℕ) → IsNode g x → ((get_or cyclic x false ≡ true) ↔ ReturnsTo g numbers x)) →
    length free ≡ length g.starts → ((i : ℕ) → i < length order → ((get_or free (get_or order i 0) false ≡ true) ↔ NeedsNoCycle g (get_or order i 0))) →
    free_order ≡ filter (λ x. get_or free x false) order → IsTold g numbers order free_order cyclic free
told g numbers order free_order cyclic free graph n long stays free_long frees is = record {
  numbers_long = n.length_is;
  cyclic_long = long;
  free_long = free_long;
  itself = λ x k. ((λ e. (itself_iff g numbers order graph n x).0 ((stays x k).0 e)), (λ m. (stays x k).1 ((itself_iff g numbers order graph n x).1 m)));
  no_cycle = λ x k. at (n.out x k);
  one = λ x y a b. one_iff g numbers order graph n x y a b;
  falls = n.falls;
  in_order = is_order g numbers order graph n;
  in_free_order = is_order_of_free g numbers order graph n (λ x. get_or free x false) free_order frees is;
}
  where
    at : {x : ℕ} → StandsIn order x → (get_or free x false ≡ true) ↔ NeedsNoCycle g x
    at o = subst (λ z. (get_or free z false ≡ true) ↔ NeedsNoCycle g z) o.stands (frees o.place o.within)

-- the same of lists that are equal
pub told_same : (g : Edges) (starts targets numbers order numbers' order' free_order : List ℕ) (cyclic free : List Bool) → starts ≡ g.starts → targets ≡ g.targets → numbers ≡ numbers' → order ≡ order' →
    IsTold (edges_of starts targets) numbers order free_order cyclic free → IsTold g numbers' order' free_order cyclic free
told_same g starts targets numbers order numbers' order' free_order cyclic free e f h k t =
    subst (λ o. IsTold g numbers' o free_order cyclic free) k
    (subst (λ n. IsTold g n order free_order cyclic free) h
    (subst (λ ts. IsTold (edges_of g.starts ts) numbers order free_order cyclic free) f
    (subst (λ ss. IsTold (edges_of ss targets) numbers order free_order cyclic free) e t)))

-- tables over a slice that is the table
pub told_slice : (g : Edges) (numbers order free_order : List ℕ) (cyclic free free' : List Bool) → IsGraph g → Numbered g numbers order →
    length cyclic + 1 ≡ length g.starts → ((x : ℕ) → IsNode g x → ((get_or cyclic x false ≡ true) ↔ ReturnsTo g numbers x)) →
    length free ≡ length g.starts → ((i : ℕ) → i < length order → ((get_or free (get_or order i 0) false ≡ true) ↔ NeedsNoCycle g (get_or order i 0))) →
    free' ≡ free → free_order ≡ filter (λ x. get_or free' x false) order → IsTold g numbers order free_order cyclic free
told_slice g numbers order free_order cyclic free free' graph n long stays free_long frees same is =
    told g numbers order free_order cyclic free graph n long stays free_long frees (is ∙ ap (λ t. filter (λ x. get_or t x false) order) same)

-- a table of what stays in its component goes one node further
pub stays_more : (g : Edges) (numbers : List ℕ) (table : List Bool) (i : ℕ) (b : Bool) → length table ≡ i → ((x : ℕ) → x < i → ((get_or table x false ≡ true) ↔ ReturnsTo g numbers x)) → ((b ≡ true) ↔ ReturnsTo g numbers i) →
    (x : ℕ) → x < i + 1 → ((get_or (table ++ b ∷ []) x false ≡ true) ↔ ReturnsTo g numbers x)
stays_more g numbers table i b long before now x h = go (cases_lt x i)
  where
    go : (x < i) ⊎ (i ≤ x) → (get_or (table ++ b ∷ []) x false ≡ true) ↔ ReturnsTo g numbers x
    go (inl l) = subst (λ t. (t ≡ true) ↔ ReturnsTo g numbers x) (sym (get_or-append table (b ∷ []) false x (omega arith))) (before x l)
    go (inr l) =
        let e : i ≡ x = omega arith in
        let f : get_or (table ++ b ∷ []) x false ≡ b = ap (λ k. get_or (table ++ b ∷ []) k false) (sym e ∙ sym long) ∙ get_or-append_seam table b [] false in
        subst (λ t. (t ≡ true) ↔ ReturnsTo g numbers x) (sym f) (subst (λ k. (b ≡ true) ↔ ReturnsTo g numbers k) e now)
