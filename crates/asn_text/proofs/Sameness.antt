-- The comparison of trees of errors, form by form and branch by branch.
use Rattle.std.proofs.Common.{◌≡◌, ◌≢◌, List, [], ◌∷◌, map, Bool, true, false, length, refl, sym, ap, ◌∙◌, arith}
use Rattle.std.specs.Prelude.{◌&&◌}
use Rattle.std.specs.Cmp.Lexicographic.{pointwise}
use Rattle.asn_text.specs.Part.{Part}
use Rattle.asn_text.specs.Input.{part_of}
use Rattle.asn_text.specs.Seen.{Tree, Link, Kind, leaf, branch, forked, tree_seen, trees_eq, seen_step, kind_seen, link_seen, links_eq, link_eq}
use Rattle.asn_text.specs.declared.input.Input.{Input}
use Rattle.asn_text.specs.declared.errors.ErrorKind.{ErrorKind}
use Rattle.asn_text.specs.declared.errors.ErrorLink.{ErrorLink}
use Rattle.asn_text.specs.declared.errors.ErrorTree.{ErrorTree}
use Rattle.asn_text.specs.declared.errors.ErrorTree.TheVariants.{Leaf, Branch, Fork}
use Rattle.asn_text.proofs.Failures.{at_leaf, at_branch, at_fork}

-- whether the branches tell the same, one by one
abbrev pub all_eq : List ErrorTree → List ErrorTree → Bool
all_eq some others = trees_eq (forked (map tree_seen some)) (forked (map tree_seen others))

and_false : (b : Bool) → (b && false) ≡ false
and_false true = refl
and_false false = refl

-- lists of different lengths do not
pub all_differ : (some others : List ErrorTree) → length some ≢ length others → all_eq some others ≡ false
all_differ [] [] differ = absurd (differ refl)
all_differ [] (b ∷ others) differ = refl
all_differ (a ∷ some) [] differ = refl
all_differ (a ∷ some) (b ∷ others) differ =
    ap (λ rest. trees_eq (tree_seen a) (tree_seen b) && rest) (all_differ some others (λ e. differ (omega (arith, e))))
    ∙ and_false (trees_eq (tree_seen a) (tree_seen b))

-- links are compared by what they tell
pub links_seen : (links others : List ErrorLink) → pointwise link_eq links others ≡ pointwise links_eq (map link_seen links) (map link_seen others)
links_seen [] [] = refl
links_seen [] (m ∷ others) = refl
links_seen (l ∷ links) [] = refl
links_seen (l ∷ links) (m ∷ others) = ap (λ rest. link_eq l m && rest) (links_seen links others)

-- what a tree tells, by its form
pub seen_leaf : (tree : ErrorTree) (input : Input) (kind : ErrorKind) → tree ≡ Leaf input kind → tree_seen tree ≡ leaf (part_of input) (kind_seen kind)
unfolding tree_seen
seen_leaf tree input kind is = at_leaf Tree seen_step tree input kind is

pub seen_branch : (tree tip : ErrorTree) (links : List ErrorLink) → tree ≡ Branch tip links → tree_seen tree ≡ branch (tree_seen tip) (map link_seen links)
unfolding tree_seen
seen_branch tree tip links is = at_branch Tree seen_step tree tip links is

pub seen_fork : (tree : ErrorTree) (branches : List ErrorTree) → tree ≡ Fork branches → tree_seen tree ≡ forked (map tree_seen branches)
unfolding tree_seen
seen_fork tree branches is = at_fork Tree seen_step tree branches is

-- two trees, by what they tell
pub by_forms : (one another : ErrorTree) (a b : Tree) (answer : Bool) → tree_seen one ≡ a → tree_seen another ≡ b → answer ≡ trees_eq a b → answer ≡ trees_eq (tree_seen one) (tree_seen another)
by_forms one another a b answer e f is = is ∙ ap (λ x. trees_eq x b) (sym e) ∙ ap (λ y. trees_eq (tree_seen one) y) (sym f)

module _ (part : Part) (kind : Kind) where
  pub fork_leaf : (branches : List Tree) → false ≡ trees_eq (forked branches) (leaf part kind)
  fork_leaf [] = refl
  fork_leaf (b ∷ branches) = refl

  pub leaf_fork : (branches : List Tree) → false ≡ trees_eq (leaf part kind) (forked branches)
  leaf_fork [] = refl
  leaf_fork (b ∷ branches) = refl

module _ (tip : Tree) (links : List Link) where
  pub fork_branch : (branches : List Tree) → false ≡ trees_eq (forked branches) (branch tip links)
  fork_branch [] = refl
  fork_branch (b ∷ branches) = refl

  pub branch_fork : (branches : List Tree) → false ≡ trees_eq (branch tip links) (forked branches)
  branch_fork [] = refl
  branch_fork (b ∷ branches) = refl
