-- Lists that readers make of nodes, one for each node of a rule.
use Rattle.std.proofs.Common.{◌≡◌, ℕ, ◌+◌, ◌<◌, Bool, true, false, List, [], ◌∷◌, ◌++◌, length, get_or, drop, append_assoc, Option, Some, None, refl, sym, ap, ◌∙◌}
use Rattle.std.proofs.lemmas.List.{drop_more}
use Rattle.std.specs.Prelude.{cond, nat_eq}
use Rattle.asn_rules.specs.declared.node.Node.{Node}
use Rattle.asn_rules.specs.declared.node.Node.TheViews.{out-Node}
use Rattle.asn_rules.specs.Nodes.{at_children}
use Rattle.asn_read_nodes.specs.Parts.{all_some, of_some}

-- these, and then those, if nothing of them is missing
abbrev pub behind : {A : Type 0} → List A → Option (List A) → Option (List A)
behind xs o = of_some o (λ ys. Some (xs ++ ys))

with_next : {A : Type 0} (xs : List A) (x : A) (o : Option A) (os : List (Option A)) → o ≡ Some x → behind (xs ++ x ∷ []) (all_some os) ≡ behind xs (all_some (o ∷ os))
with_next {A = A} xs x o os e = go (all_some os) ∙ ap (λ o. behind xs (of_some o (λ x. of_some (all_some os) (λ xs. Some (x ∷ xs))))) (sym e)
  where
    go : (r : Option (List A)) → behind (xs ++ x ∷ []) r ≡ behind xs (of_some r (λ xs. Some (x ∷ xs)))
    go None = refl
    go (Some ys) = ap Some (append_assoc xs (x ∷ []) ys)

-- what a loop over nodes has made, and what is to be made of the nodes behind its place
abbrev pub at_place : {A : Type 0} → ℕ → (Node → Option A) → List Node → ℕ → List A → Option (List A)
at_place r f ns i xs = behind xs (all_some (at_children (drop i ns) r f))

by_place : {A : Type 0} (r : ℕ) (f : Node → Option A) (ns : List Node) (i : ℕ) (n : Node) (xs : List A) (b : Bool) → i < length ns → n ≡ get_or ns i n → nat_eq (out-Node n).rule r ≡ b → at_place r f ns i xs ≡ behind xs (all_some (cond b (f n ∷ at_children (drop (i + 1) ns) r f) (at_children (drop (i + 1) ns) r f)))
by_place r f ns i n xs b lt at is =
    let rest = at_children (drop (i + 1) ns) r f in
    ap (λ ms. behind xs (all_some (at_children ms r f))) (drop_more ns i n lt ∙ ap (λ m. m ∷ drop (i + 1) ns) (sym at))
    ∙ ap (λ b. behind xs (all_some (cond b (f n ∷ rest) rest))) is

-- a node of the rule is taken
pub takes_next : {A : Type 0} (r : ℕ) (f : Node → Option A) (ns : List Node) (i : ℕ) (n : Node) (x : A) (xs ys : List A) (o : Option (List A)) → i < length ns → n ≡ get_or ns i n → nat_eq (out-Node n).rule r ≡ true → f n ≡ Some x → ys ≡ xs ++ x ∷ [] → at_place r f ns i xs ≡ o → at_place r f ns (i + 1) ys ≡ o
takes_next r f ns i n x xs ys o lt at same is grown before =
    let rest = at_children (drop (i + 1) ns) r f in
    ap (λ ys. behind ys (all_some rest)) grown ∙ with_next xs x (f n) rest is ∙ sym (by_place r f ns i n xs true lt at same) ∙ before

-- another is passed over
pub passes_next : {A : Type 0} (r : ℕ) (f : Node → Option A) (ns : List Node) (i : ℕ) (n : Node) (xs ys : List A) (o : Option (List A)) → i < length ns → n ≡ get_or ns i n → nat_eq (out-Node n).rule r ≡ false → ys ≡ xs → at_place r f ns i xs ≡ o → at_place r f ns (i + 1) ys ≡ o
passes_next r f ns i n xs ys o lt at other kept before =
    ap (λ ys. at_place r f ns (i + 1) ys) kept ∙ sym (by_place r f ns i n xs false lt at other) ∙ before
