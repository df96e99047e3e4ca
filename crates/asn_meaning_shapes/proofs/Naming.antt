-- What is put into a map by its name, from the last on, and what a name finds.
use Rattle.std.proofs.Common.{◌≡◌, ℕ, ◌+◌, ◌<◌, ◌≤◌, List, [], ◌∷◌, drop, length, get_or, Bool, true, false, if◌then◌else◌, Option, Some, None, refl, sym, ap, ◌∙◌}
use Rattle.std.specs.Prelude.{cond, is_some, ◌||◌}
use Rattle.std.specs.Borrow.{Bor}
use Rattle.std.specs.BTreeMap.{BTreeMap, UpdatesBy}
use Rattle.std.specs.Cmp.Lexicographic.{slice_cmp}
use Rattle.std.specs.Option.{option_copied, option_map}
use Rattle.std.specs.Ordering.{nat_cmp}
use Rattle.std.specs.Str.{bytes_eq}
use Rattle.std.proofs.lemmas.List.{drop_more, drop_all}
use Rattle.std.proofs.lemmas.Map.Text.{btree_map_updates_str}
use Rattle.asn_meaning_shapes.specs.declared.members.Member.{Member as LentMember}
use Rattle.asn_meaning_shapes.specs.declared.trees.Field.{Field, out-Field}
use Rattle.asn_meaning_shapes.specs.ByName.{first_named, name_of_field, name_of_member, under_name}
use Rattle.asn_meaning_shapes.specs.Members.{shown_member, shown_members}
use Rattle.asn_meaning_shapes.specs.Trees.{Named, shown_fields, shown_tree}
use Rattle.asn_meaning_shapes.proofs.Showing.{field_shown}
use Rattle.asn_meaning.specs.Meaning.{Member}
use Rattle.asn_meaning.specs.Members.{member_named, member_names}
use Rattle.asn_meaning.specs.ValueTrees.{ValueTree, field_named, is_among}

-- ---- maps

copied : {A : Type 0} (b : Bool) (x : Bor A) (o : Option (Bor A)) → option_copied (cond b (Some x) o) ≡ (if b then Some x.now else option_copied o)
copied true x o = refl
copied false x o = refl

pub one_put : {A : Type 0} (old new : BTreeMap (Bor (List ℕ)) (Bor A)) (key own : List ℕ) (x : Bor A) → key ≡ own →
    UpdatesBy (λ x y. slice_cmp nat_cmp x.now y.now) (λ k. slice_cmp nat_cmp key k.now) old new (Some x) → (name : List ℕ) →
    under_name new name ≡ (if bytes_eq own name then Some x.now else under_name old name)
one_put old new key own x e updates name =
    ap option_copied (btree_map_updates_str key old new (Some x) updates name)
    ∙ copied (bytes_eq key name) x _
    ∙ ap (λ k. if bytes_eq k name then Some x.now else under_name old name) e

pub none_left : {A : Type 0} (name_of : A → List ℕ) (xs : List A) (i : ℕ) (name : List ℕ) → length xs ≤ i → first_named name_of (drop i xs) name ≡ None
none_left name_of xs i name le = ap (λ xs. first_named name_of xs name) (drop_all i xs le)

pub one_before : {A : Type 0} (name_of : A → List ℕ) (xs : List A) (i : ℕ) (x : A) (old new : Option A) (name : List ℕ) → i < length xs → x ≡ get_or xs i x →
    new ≡ (if bytes_eq (name_of x) name then Some x else old) → old ≡ first_named name_of (drop (i + 1) xs) name → new ≡ first_named name_of (drop i xs) name
one_before name_of xs i x old new name lt e put so_far =
    put
    ∙ ap (λ o. if bytes_eq (name_of x) name then Some x else o) so_far
    ∙ sym (ap (λ xs. first_named name_of xs name) (drop_more xs i x lt ∙ ap (λ x. x ∷ drop (i + 1) xs) (sym e)))

chosen : {A B : Type 0} (f : A → B) (b : Bool) (x : A) (o : Option A) → option_map f (if b then Some x else o) ≡ (if b then Some (f x) else option_map f o)
chosen f true x o = refl
chosen f false x o = refl

-- ---- fields

abbrev pub tree_of_field : Field → ValueTree
tree_of_field f = shown_tree (out-Field f).tree

tree_named : (fs : List Field) (name : List ℕ) → option_map tree_of_field (first_named name_of_field fs name) ≡ field_named (shown_fields fs) name
tree_named [] name = refl
tree_named (f ∷ fs) name =
    chosen tree_of_field (bytes_eq (name_of_field f) name) f (first_named name_of_field fs name)
    ∙ ap (λ o. if bytes_eq (name_of_field f) name then Some (tree_of_field f) else o) (tree_named fs name)
    ∙ sym (ap (λ (x : Named). if bytes_eq x.0 name then Some x.1 else field_named (shown_fields fs) name) (field_shown f))

pub no_field_found : (fs : List Field) (name : List ℕ) → first_named name_of_field fs name ≡ None → field_named (shown_fields fs) name ≡ None
no_field_found fs name e = sym (tree_named fs name) ∙ ap (option_map tree_of_field) e

pub field_found : (fs : List Field) (name : List ℕ) (f : Field) → first_named name_of_field fs name ≡ Some f → field_named (shown_fields fs) name ≡ Some (shown_tree (out-Field f).tree)
field_found fs name f e = sym (tree_named fs name) ∙ ap (option_map tree_of_field) e

-- ---- members

members_named : (ms : List LentMember) (name : List ℕ) → option_map shown_member (first_named name_of_member ms name) ≡ member_named (shown_members ms) name
members_named [] name = refl
members_named (m ∷ ms) name =
    chosen shown_member (bytes_eq (name_of_member m) name) m (first_named name_of_member ms name)
    ∙ ap (λ o. if bytes_eq (name_of_member m) name then Some (shown_member m) else o) (members_named ms name)

pub no_member_found : (ms : List LentMember) (name : List ℕ) → first_named name_of_member ms name ≡ None → member_named (shown_members ms) name ≡ None
no_member_found ms name e = sym (members_named ms name) ∙ ap (option_map shown_member) e

pub member_found : (ms : List LentMember) (name : List ℕ) (m : LentMember) → first_named name_of_member ms name ≡ Some m → member_named (shown_members ms) name ≡ Some (shown_member m)
member_found ms name m e = sym (members_named ms name) ∙ ap (option_map shown_member) e

-- a name is a member's where a member is found by it
found_among : (ms : List Member) (name : List ℕ) → is_some (member_named ms name) ≡ is_among (member_names ms) name
found_among [] name = refl
found_among (m ∷ ms) name = go (bytes_eq m.written.name name) (found_among ms name)
  where
    go : (b : Bool) → is_some (member_named ms name) ≡ is_among (member_names ms) name → is_some (if b then Some m else member_named ms name) ≡ (b || is_among (member_names ms) name)
    go true rest = refl
    go false rest = rest

shown_is_some : {A B : Type 0} (f : A → B) (o : Option A) → is_some o ≡ is_some (option_map f o)
shown_is_some f None = refl
shown_is_some f (Some x) = refl

pub found_is_among : (found : Option (Bor LentMember)) (ms : List Member) (key name : List ℕ) → option_map (λ m. shown_member m.now) found ≡ member_named ms key → key ≡ name →
    is_some found ≡ is_among (member_names ms) name
found_is_among found ms key name e same =
    shown_is_some (λ m. shown_member m.now) found ∙ ap is_some e ∙ found_among ms key ∙ ap (is_among (member_names ms)) same
