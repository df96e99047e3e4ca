-- What stands under a name in a map, and the first of the name in a list.
use Rattle.std.specs.Prelude.{◌≡◌, ℕ, List, Option}
use Rattle.std.specs.BTreeMap.{BTreeMap, get_by}
use Rattle.std.specs.Borrow.{Bor}
use Rattle.std.specs.Cmp.Lexicographic.{slice_cmp}
use Rattle.std.specs.List.{find}
use Rattle.std.specs.Option.{option_copied}
use Rattle.std.specs.Ordering.{nat_cmp}
use Rattle.std.specs.Str.{bytes_eq}
use Rattle.asn_tree.specs.declared.types.SequenceOrSetMember.{out-SequenceOrSetMember}
use Rattle.asn_meaning_shapes.specs.declared.members.Member.{Member}
use Rattle.asn_meaning_shapes.specs.declared.trees.Field.{Field, out-Field}

abbrev pub name_of_field : Field → List ℕ
name_of_field f = (out-Field f).name

abbrev pub name_of_member : Member → List ℕ
name_of_member m = (out-SequenceOrSetMember m.written.now).name

-- what a map has under the name
abbrev pub under_name : {A : Type 0} → BTreeMap (Bor (List ℕ)) (Bor A) → List ℕ → Option A
under_name map name = option_copied (get_by (λ k. slice_cmp nat_cmp name k.now) map)

-- the first of the name
abbrev pub first_named : {A : Type 0} → (A → List ℕ) → List A → List ℕ → Option A
first_named name_of xs name = find (λ x. bytes_eq (name_of x) name) xs

-- a map has the first of each name
abbrev pub HasFirsts : {A : Type 0} → (A → List ℕ) → List A → BTreeMap (Bor (List ℕ)) (Bor A) → Type 0
HasFirsts name_of xs map = (name : List ℕ) → under_name map name ≡ first_named name_of xs name
