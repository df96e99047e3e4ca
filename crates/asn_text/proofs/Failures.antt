-- Functions of a tree of failures, by the tree's form.
use Rattle.std.proofs.Common.{◌≡◌, ◌<◌, ◌-◌, List, length, map, slice_index_or, Option, Some, option_map, refl, ap, ◌∙◌, arith}
use Rattle.std.proofs.lemmas.List.{length-map}
use Rattle.std.proofs.lemmas.Option.{slice_get-map, slice_get_read}
use Rattle.std.specs.Option.{option_flatten}
use Rattle.std.specs.Prelude.{slice_get}
use Rattle.asn_text.specs.Errors.{first_of, last_of}
use Rattle.asn_text.specs.declared.input.Input.{Input}
use Rattle.asn_text.specs.declared.errors.ErrorKind.{ErrorKind}
use Rattle.asn_text.specs.declared.errors.ErrorLink.{ErrorLink}
use Rattle.asn_text.specs.declared.errors.ErrorTree.{ErrorTree, ErrorTree-F, out-ErrorTree, map-ErrorTree, fold-ErrorTree, fold_out-ErrorTree}
use Rattle.asn_text.specs.declared.errors.ErrorTree.TheVariants.{Leaf, Branch, Fork, outs-Leaf, outs-Branch, outs-Fork}

module _ (A : Type 0) (step : ErrorTree-F A → A) where
  abbrev over : ErrorTree-F ErrorTree → A
  over form = step (map-ErrorTree ErrorTree A (fold-ErrorTree A step) form)

  pub at_leaf : (tree : ErrorTree) (input : Input) (kind : ErrorKind) → tree ≡ Leaf input kind → fold-ErrorTree A step tree ≡ step (ErrorTree-F.Leaf input kind)
  at_leaf tree input kind is = fold_out-ErrorTree A step tree ∙ ap over (ap out-ErrorTree is ∙ outs-Leaf input kind)

  pub at_branch : (tree tip : ErrorTree) (links : List ErrorLink) → tree ≡ Branch tip links → fold-ErrorTree A step tree ≡ step (ErrorTree-F.Branch (fold-ErrorTree A step tip) links)
  at_branch tree tip links is = fold_out-ErrorTree A step tree ∙ ap over (ap out-ErrorTree is ∙ outs-Branch tip links)

  pub at_fork : (tree : ErrorTree) (branches : List ErrorTree) → tree ≡ Fork branches → fold-ErrorTree A step tree ≡ step (ErrorTree-F.Fork (map (fold-ErrorTree A step) branches))
  at_fork tree branches is = fold_out-ErrorTree A step tree ∙ ap over (ap out-ErrorTree is ∙ outs-Fork branches)

-- the last item of a list that has some
pub last_is : {A : Type 0} (items : List A) (x : A) → 0 < length items → x ≡ slice_index_or items (length items - 1) x → last_of items ≡ Some x
last_is items x some here = slice_get_read items (length items) (length items - 1) x refl (omega arith) here

pub first_is : {A : Type 0} (items : List A) (x : A) → 0 < length items → x ≡ slice_index_or items 0 x → first_of items ≡ Some x
first_is items x some here = slice_get_read items (length items) 0 x refl some here

-- what was made of the last item
pub last_made : {A B : Type 0} (f : A → Option B) (items : List A) (x : A) (b : B) → last_of items ≡ Some x → f x ≡ Some b → option_flatten (last_of (map f items)) ≡ Some b
last_made f items x b last made =
    ap (λ n. option_flatten (slice_get (map f items) (n - 1))) (length-map items f)
    ∙ ap option_flatten (slice_get-map f items (length items - 1) ∙ ap (option_map f) last)
    ∙ made

pub first_made : {A B : Type 0} (f : A → Option B) (items : List A) (x : A) (b : B) → first_of items ≡ Some x → f x ≡ Some b → option_flatten (first_of (map f items)) ≡ Some b
first_made f items x b first made = ap option_flatten (slice_get-map f items 0 ∙ ap (option_map f) first) ∙ made
