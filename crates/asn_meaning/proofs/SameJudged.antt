-- Trees that are the same are judged alike.
use Rattle.std.specs.Prelude.{is_none, is_some, not, pos, if◌then◌else◌}
use Rattle.std.specs.Str.{bytes_eq}
use Rattle.std.proofs.Common.{◌≡◌, ℕ, zero, suc, Bool, true, false, ◌||◌, List, [], ◌∷◌, Option, Some, None, refl, sym, ap, ◌∙◌}
use Rattle.asn_tree.specs.declared.constraints.Constraint.{Constraint, Constraint-F, out-Constraint}
use Rattle.asn_tree.specs.declared.constraints.ElementOrSetOperation.{ElementOrSetOperation}
use Rattle.asn_tree.specs.declared.constraints.SubtypeElement.{SubtypeElement, SubtypeElement-F, out-SubtypeElement}
use Rattle.asn_tree.specs.declared.types.ASN1Type.{ASN1Type}
use Rattle.asn_tree.specs.declared.types.ChoiceOption.{ChoiceOption}
use Rattle.asn_meaning.specs.Accepts.{place, judge}
use Rattle.asn_meaning.specs.Answers.{Answer, Yes, No, Unknown, answer_of, both, either, denied, each, once, unless_all, Denotation, Denoted, Nothing, Unsure}
use Rattle.asn_meaning.specs.Constraints.{all_hold, alphabet_holds, choice_holds, compared, component_holds, constraint_at, constraint_holds, holds_at, inner_at, inner_holds, is_listed, is_value, listed_member_holds, listed_option_holds, member_holds, members_hold, number_asked, occurs, option_holds, part_holds, range_holds, set_holds, sizes, struct_holds}
use Rattle.asn_meaning.specs.Definitions.{Definitions}
use Rattle.asn_meaning.specs.Judge.{accepts_at, characters_at, head_accepts, in_set, meaning, member_accepts, nothing_known, option_accepts, parts_accepted, stands_for, step}
use Rattle.asn_meaning.specs.Kinds.{Kind, CharacterStringKind, ChoiceKind, ListKind, ReferenceKind, SelectionKind, StructKind, kind_of}
use Rattle.asn_meaning.specs.Layers.{ConstraintLayer, ElementLayer, InnerLayer, ListedLayer, OptionLayer}
use Rattle.asn_meaning.specs.Meaning.{Meaning, Member, Parent, ValuesOf, CharactersOf}
use Rattle.asn_meaning.specs.Members.{element_place, member_named, member_names, member_place}
use Rattle.asn_meaning.specs.Names.{Lead, IsHead, LeadsTo, IsLost, lead, option_named}
use Rattle.asn_meaning.specs.Numbers.{answers, Numbers}
use Rattle.asn_meaning.specs.Ranges.{all_constraints, from_low, is_free, narrowed, numbers_before, restricted, up_to_high, value_place}
use Rattle.asn_meaning.specs.Scopes.{Scope, Place}
use Rattle.asn_meaning.specs.Shapes.{Asking, choice_judged, fields_judged, is_of_kind, kind_or_parts, list_judged, member_judged, option_place, struct_judged, trees_judged}
use Rattle.asn_meaning.specs.ValueTrees.{ValueTree, Struct, Elements, Alternative, WholeNumber, Fields, field_named, ValueTrees, no_tree, tree, are_among, counted, is_among, same_tree, same_trees, size_of}
use Rattle.asn_meaning.proofs.Chains.{Keeps, ranked_kept}
use Rattle.asn_meaning.proofs.Same.{BothSame, SameMaps, among_by, by_view, maps_turned, named_is_among, no_view, out_names, same_to, trees_view}

-- ---- joining

both_same : (a c b d : Answer) → a ≡ c → b ≡ d → both a b ≡ both c d
both_same a c b d p q = ap (λ z. both z b) p ∙ ap (both c) q

each_same : {A : Type 0} (f g : A → Answer) → ((x : A) → f x ≡ g x) → (xs : List A) → each f xs ≡ each g xs
each_same f g h [] = refl
each_same f g h (x ∷ xs) = both_same _ _ _ _ (h x) (each_same f g h xs)

once_same : {A B : Type 0} (u : B) (o : Option A) (f g : A → B) → ((x : A) → f x ≡ g x) → once u o f ≡ once u o g
once_same u None f g h = refl
once_same u (Some x) f g h = h x

equal_keep : Keeps Answer Answer answers answers (λ a b. a ≡ b)
equal_keep = record {
  common = λ a c b d p q. both_same a c b d p q;
  joined = λ a c b d p q. ap (λ z. either z b) p ∙ ap (either c) q;
  without = λ a c b d p q. both_same a c (denied b) (denied d) p (ap denied q);
  empty = refl;
  everything = refl;
}

-- ---- maps

among_turned : (names : List (List ℕ)) (fs gs : Fields) → SameMaps fs gs → are_among names fs ≡ true → are_among names gs ≡ true
among_turned names fs gs h e = among_by names gs (λ name is. (let u = out_names gs name is in go name u.0 u.1 (field_named fs name) refl (h name)))
  where
    go : (name : List ℕ) (u : ValueTree) → field_named gs name ≡ Some u → (o : Option ValueTree) → field_named fs name ≡ o → BothSame o (field_named gs name) → is_among names name ≡ true
    go name u is None f k = let no : None ≡ Some u = sym k ∙ is in absurd cc
    go name u is (Some t) f k = named_is_among fs name t f names e

among_same : (names : List (List ℕ)) (fs gs : Fields) → SameMaps fs gs → are_among names fs ≡ are_among names gs
among_same names fs gs h = go (are_among names fs) (are_among names gs) refl refl
  where
    go : (b c : Bool) → are_among names fs ≡ b → are_among names gs ≡ c → are_among names fs ≡ are_among names gs
    go true c is has = is ∙ sym (among_turned names fs gs h is)
    go false true is has = let f : are_among names fs ≡ true = among_turned names gs fs (maps_turned fs gs h) has in absurd cc
    go false false is has = is ∙ sym has

at_name : {B : Type 0} (f : Option ValueTree → B) → ((t u : ValueTree) → same_tree t u ≡ true → f (Some t) ≡ f (Some u)) → (o p : Option ValueTree) → BothSame o p → f o ≡ f p
at_name f h None p e = ap f (sym e)
at_name f h (Some t) p e = h t e.0 e.2 ∙ ap f (sym e.1)

-- what answers the same of same trees
abbrev Respects : (ValueTree → Answer) → Type 0
Respects ask = (t u : ValueTree) → same_tree t u ≡ true → ask t ≡ ask u

struct_same : (ask : Asking) → ((m : Member) → Respects (ask m)) → (o : Option (List Member)) (fs gs : Fields) → SameMaps fs gs → struct_judged ask o (Struct fs) ≡ struct_judged ask o (Struct gs)
struct_same ask k o fs gs h =
    once_same Unknown o (fields_judged ask fs) (fields_judged ask gs) (λ ms.
    both_same _ _ _ _ (ap answer_of (among_same (member_names ms) fs gs h)) (each_same _ _ (λ m. at_name (member_judged ask m) (k m) (field_named fs m.written.name) (field_named gs m.written.name) (h m.written.name)) ms))

trees_same : (ask : ValueTree → Answer) → Respects ask → (ts us : ValueTrees) → same_trees ts us ≡ true → trees_judged ask ts ≡ trees_judged ask us
trees_same ask k no_tree us e = ap (trees_judged ask) (sym (no_view us e))
trees_same ask k (tree t ts) us e = let v = trees_view t ts us e in both_same _ _ _ _ (k t v.0 v.3) (trees_same ask k ts v.1 v.4) ∙ ap (trees_judged ask) (sym v.2)

list_same : (ask : ValueTree → Answer) → Respects ask → Respects (list_judged ask)
list_same ask k = by_view (λ t u. list_judged ask t ≡ list_judged ask u) (λ t. refl) (λ fs gs h. refl) (trees_same ask k) (λ name t u e. refl)

choice_same : (ask : OptionLayer → ValueTree → Answer) → ((o : OptionLayer) → Respects (ask o)) → (options : List ChoiceOption) → Respects (choice_judged ask options)
choice_same ask k options = by_view (λ t u. choice_judged ask options t ≡ choice_judged ask options u) (λ t. refl) (λ fs gs h. refl) (λ ts us e. refl) (λ name t u e. once_same No (option_named options name) _ _ (λ o. k o t u e))

members_same : (ask : Asking) → ((m : Member) → Respects (ask m)) → (o : Option (List Member)) → Respects (struct_judged ask o)
members_same ask k o = by_view (λ t u. struct_judged ask o t ≡ struct_judged ask o u) (λ t. refl) (struct_same ask k o) (λ ts us e. refl) (λ name t u e. refl)

-- ---- kinds

abbrev KindSame : Kind → ValueTree → ValueTree → Type 0
KindSame k t u = (a b : Answer) → a ≡ b → kind_or_parts (is_of_kind k) a t ≡ kind_or_parts (is_of_kind k) b u

one_kind : (o : Option (ValueTree → Bool)) (t : ValueTree) (a b : Answer) → a ≡ b → kind_or_parts o a t ≡ kind_or_parts o b t
one_kind None t a b e = e
one_kind (Some test) t a b e = refl

struct_kind : (k : Kind) (fs gs : Fields) → KindSame k (Struct fs) (Struct gs)
struct_kind (StructKind x) fs gs a b e = e
struct_kind (ListKind ty) fs gs a b e = e
struct_kind (ChoiceKind options) fs gs a b e = e
struct_kind (ReferenceKind x) fs gs a b e = e
struct_kind (SelectionKind x) fs gs a b e = e
struct_kind _ fs gs a b e = refl

elements_kind : (k : Kind) (ts us : ValueTrees) → KindSame k (Elements ts) (Elements us)
elements_kind (StructKind x) ts us a b e = e
elements_kind (ListKind ty) ts us a b e = e
elements_kind (ChoiceKind options) ts us a b e = e
elements_kind (ReferenceKind x) ts us a b e = e
elements_kind (SelectionKind x) ts us a b e = e
elements_kind _ ts us a b e = refl

alternative_kind : (k : Kind) (name : List ℕ) (t u : ValueTree) → KindSame k (Alternative name t) (Alternative name u)
alternative_kind (StructKind x) name t u a b e = e
alternative_kind (ListKind ty) name t u a b e = e
alternative_kind (ChoiceKind options) name t u a b e = e
alternative_kind (ReferenceKind x) name t u a b e = e
alternative_kind (SelectionKind x) name t u a b e = e
alternative_kind _ name t u a b e = refl

kind_same : (k : Kind) (t u : ValueTree) → same_tree t u ≡ true → KindSame k t u
kind_same k = by_view (KindSame k) (one_kind (is_of_kind k)) (λ fs gs h. struct_kind k fs gs) (λ ts us e. elements_kind k ts us) (λ name t u e. alternative_kind k name t u)

set_same : (set : Option (List ℕ)) → Respects (in_set set)
set_same set = by_view (λ t u. in_set set t ≡ in_set set u) (λ t. refl) (λ fs gs h. refl) (λ ts us e. refl) (λ name t u e. refl)

characters_same : (k : Kind) (t u : ValueTree) → same_tree t u ≡ true → characters_at t k ≡ characters_at u k
characters_same (CharacterStringKind ty) t u e = set_same (restricted ty) t u e
characters_same _ t u e = refl

-- ---- constraints

asked_same : (parent : Parent) (t u : ValueTree) → same_tree t u ≡ true → number_asked parent t ≡ number_asked parent u
asked_same (ValuesOf h n) = by_view (λ t u. number_asked (ValuesOf h n) t ≡ number_asked (ValuesOf h n) u) (λ t. refl) (λ fs gs h. refl) (λ ts us e. refl) (λ name t u e. refl)
asked_same (CharactersOf codes) = by_view (λ t u. number_asked (CharactersOf codes) t ≡ number_asked (CharactersOf codes) u) (λ t. refl) (λ fs gs h. refl) (λ ts us e. refl) (λ name t u e. refl)

sizes_same : (ts us : ValueTrees) → same_trees ts us ≡ true → size_of ts ≡ size_of us
sizes_same no_tree us e = ap size_of (sym (no_view us e))
sizes_same (tree t ts) us e = let v = trees_view t ts us e in ap suc (sizes_same ts v.1 v.4) ∙ ap size_of (sym v.2)

counted_same : (t u : ValueTree) → same_tree t u ≡ true → counted t ≡ counted u
counted_same = by_view (λ t u. counted t ≡ counted u) (λ t. refl) (λ fs gs h. refl) (λ ts us e. ap Some (sizes_same ts us e)) (λ name t u e. refl)

occurs_same : (w t u : ValueTree) → same_tree t u ≡ true → occurs t w ≡ occurs u w
occurs_same w = by_view (λ t u. occurs t w ≡ occurs u w) (λ t. refl) (λ fs gs h. refl) (λ ts us e. refl) (λ name t u e. refl)

value_same : (parent : Parent) (w t u : ValueTree) → same_tree t u ≡ true → is_value parent t w ≡ is_value parent u w
value_same (ValuesOf h n) w t u e = sym (same_to t u w e)
value_same (CharactersOf codes) w t u e = occurs_same w t u e

compared_same : (parent : Parent) (d : Denotation ValueTree) (t u : ValueTree) → same_tree t u ≡ true → compared parent t d ≡ compared parent u d
compared_same parent (Denoted w) t u e = ap answer_of (value_same parent w t u e)
compared_same parent Nothing t u e = refl
compared_same parent Unsure t u e = refl

module _ (M : Meaning) (accepted : (p : Place) (cs : List Constraint) → Respects (M.accepts p cs)) (held : (s : Scope) (parent : Parent) (e : SubtypeElement) → Respects (M.holds s parent e)) where
  set_holds_same : (s : Scope) (parent : Parent) (set : ElementOrSetOperation) → Respects (set_holds M s parent set)
  set_holds_same s parent set t u e =
      once_same Unknown (M.chain set) _ _ (λ c. ranked_kept Answer Answer answers answers (λ a b. a ≡ b) equal_keep (λ x. M.holds s parent x t) (λ x. M.holds s parent x u) (λ x. held s parent x t u e) c)

  constraint_same : (s : Scope) (parent : Parent) (l : ConstraintLayer) (t u : ValueTree) → same_tree t u ≡ true → constraint_at M s parent t l ≡ constraint_at M s parent u l
  constraint_same s parent (Constraint-F.SubtypeConstraint x) t u e = set_holds_same s parent x.set t u e
  constraint_same s parent _ t u e = refl

  one_holds : (s : Scope) (head : Place) (n : Option Numbers) (c : Constraint) → Respects (constraint_holds M s head n c)
  one_holds s head n c t u e = ap (λ z. if is_free head then Yes else z) (constraint_same s (ValuesOf head n) (out-Constraint c) t u e)

  all_same : (s : Scope) (head : Place) (n : Option Numbers) (cs : List Constraint) → Respects (all_hold M s head n cs)
  all_same s head n [] t u e = refl
  all_same s head n (c ∷ cs) t u e = both_same _ _ _ _ (one_holds s head n c t u e) (all_same s head (narrowed M s head n c) cs t u e)

  part_same : (s : Scope) (p : Place) (cs : List Constraint) → Respects (part_holds M s p cs)
  part_same s p cs t u e = once_same Unknown (M.head p) _ _ (λ head. all_same s head (M.numbers p []) cs t u e)

  option_same : (s inside : Scope) (name : List ℕ) (c : ListedLayer) (options : List ChoiceOption) → Respects (λ t. listed_option_holds M s inside options name t c)
  option_same s inside name c options t u e =
      once_same Unknown (option_named options c.identifier) _ _ (λ o. go (bytes_eq name c.identifier) o)
    where
      go : (b : Bool) (o : OptionLayer) → option_holds M s inside b t c o ≡ option_holds M s inside b u c o
      go true o = both_same _ _ _ _ refl (part_same s (option_place inside o) c.constraints t u e)
      go false o = refl

  choice_holds_same : (s inside : Scope) (options : List ChoiceOption) (inner : InnerLayer) → Respects (choice_holds M s inside options inner)
  choice_holds_same s inside options inner =
      by_view (λ t u. choice_holds M s inside options inner t ≡ choice_holds M s inside options inner u) (λ t. refl) (λ fs gs h. refl) (λ ts us e. refl)
      (λ name t u e. both_same _ _ _ _ (each_same _ _ (λ c. option_same s inside name c options t u e) inner.constraints) refl)

  struct_holds_same : (s : Scope) (o : Option (List Member)) (inner : InnerLayer) → Respects (struct_holds M s o inner)
  struct_holds_same s o inner =
      by_view (λ t u. struct_holds M s o inner t ≡ struct_holds M s o inner u) (λ t. refl)
      (λ fs gs h. once_same Unknown o (members_hold M s inner fs) (members_hold M s inner gs) (λ ms.
      both_same _ _ _ _
      (each_same (listed_member_holds M s inner.is_partial ms fs) (listed_member_holds M s inner.is_partial ms gs) (λ c. once_same Unknown (member_named ms c.identifier) _ _ (λ m. at_name (λ x. member_holds M s inner.is_partial c x m) (λ t u e. both_same _ _ _ _ refl (part_same s (member_place m) c.constraints t u e)) (field_named fs c.identifier) (field_named gs c.identifier) (h c.identifier))) inner.constraints)
      (each_same _ _ (λ m. ap (λ z. answer_of (inner.is_partial || (is_listed inner.constraints m.written.name || (not (m.written.is_optional || is_some m.written.default_value) || z)))) (at_name is_none (λ t u e. refl) (field_named fs m.written.name) (field_named gs m.written.name) (h m.written.name))) ms)))
      (λ ts us e. refl) (λ name t u e. refl)

  inner_same : (s : Scope) (inner : InnerLayer) (inside : Scope) (k : Kind) (t u : ValueTree) → same_tree t u ≡ true → inner_at M s inner t inside k ≡ inner_at M s inner u inside k
  inner_same s inner inside (StructKind x) t u e = struct_holds_same s (M.members inside x) inner t u e
  inner_same s inner inside (ChoiceKind options) t u e = choice_holds_same s inside options inner t u e
  inner_same s inner inside _ t u e = refl

  inner_holds_same : (s : Scope) (parent : Parent) (inner : InnerLayer) → Respects (inner_holds M s parent inner)
  inner_holds_same s (ValuesOf h n) inner t u e = inner_same s inner h.scope (kind_of h) t u e
  inner_holds_same s (CharactersOf codes) inner t u e = refl

  component_same : (s : Scope) (parent : Parent) (cs : List Constraint) → Respects (component_holds M s parent cs)
  component_same s (ValuesOf h n) cs t u e = once_same No (element_place h) _ _ (λ p. list_same (part_holds M s p cs) (part_same s p cs) t u e)
  component_same s (CharactersOf codes) cs t u e = refl

  alphabet_same : (s : Scope) (parent : Parent) (set : ElementOrSetOperation) → Respects (alphabet_holds M s parent set)
  alphabet_same s parent set = by_view (λ t u. alphabet_holds M s parent set t ≡ alphabet_holds M s parent set u) (λ t. refl) (λ fs gs h. refl) (λ ts us e. refl) (λ name t u e. refl)

  holds_same : (s : Scope) (parent : Parent) (l : ElementLayer) (t u : ValueTree) → same_tree t u ≡ true → holds_at M s parent t l ≡ holds_at M s parent u l
  holds_same s parent (SubtypeElement-F.SingleValue v x) t u e = ap (unless_all Yes Unknown (M.is_all s v (value_place parent))) (compared_same parent (M.denotes s v (value_place parent)) t u e)
  holds_same s parent (SubtypeElement-F.ContainedSubtype ty x) t u e = accepted _ [] t u e
  holds_same s parent (SubtypeElement-F.ValueRange low high low_open high_open x) t u e = ap (range_holds (from_low M s parent low_open low) (up_to_high M s parent high_open high)) (asked_same parent t u e)
  holds_same s parent (SubtypeElement-F.PermittedAlphabet set) t u e = alphabet_same s parent set t u e
  holds_same s parent (SubtypeElement-F.SizeConstraint set) t u e = ap (λ o. once No o (λ n. set_holds M s sizes set (WholeNumber (pos n)))) (counted_same t u e)
  holds_same s parent (SubtypeElement-F.TypeConstraint ty) t u e = accepted _ [] t u e
  holds_same s parent (SubtypeElement-F.SingleTypeConstraint cs) t u e = component_same s parent cs t u e
  holds_same s parent (SubtypeElement-F.MultipleTypeConstraints inner) t u e = inner_holds_same s parent inner t u e
  holds_same s parent (SubtypeElement-F.PatternConstraint x) t u e = refl
  holds_same s parent (SubtypeElement-F.UserDefinedConstraint x) t u e = refl
  holds_same s parent (SubtypeElement-F.PropertySettings x) t u e = refl

  parts_same : (s : Scope) (k : Kind) (t u : ValueTree) → same_tree t u ≡ true → parts_accepted M s t k ≡ parts_accepted M s u k
  parts_same s (StructKind x) t u e = members_same (member_accepts M) (λ m. accepted (member_place m) m.written.constraints) (M.members s x) t u e
  parts_same s (ListKind ty) t u e = list_same _ (accepted (record { scope = s; ty = ty }) []) t u e
  parts_same s (ChoiceKind options) t u e = choice_same (option_accepts M s) (λ o. accepted (option_place s o) o.constraints) options t u e
  parts_same s _ t u e = refl

  head_same : (head : Place) (t u : ValueTree) → same_tree t u ≡ true → head_accepts M t head ≡ head_accepts M u head
  head_same head t u e = both_same _ _ _ _ (characters_same (kind_of head) t u e) (kind_same (kind_of head) t u e _ _ (parts_same head.scope (kind_of head) t u e))

  stands_same : (p : Place) (l : Lead) (t u : ValueTree) → same_tree t u ≡ true → stands_for M t p l ≡ stands_for M u p l
  stands_same p IsHead t u e = head_same p t u e
  stands_same p (LeadsTo x) t u e = accepted x.place x.constraints t u e
  stands_same p IsLost t u e = refl

  accepts_same : (defs : Definitions) (p : Place) (cs : List Constraint) → Respects (accepts_at defs M p cs)
  accepts_same defs p cs t u e =
      both_same _ _ _ _ (stands_same p (lead defs M p) t u e) (once_same Unknown (M.head p) _ _ (λ head. all_same p.scope head (numbers_before defs M p) (all_constraints p cs) t u e))

-- ---- steps

record Known (M : Meaning) : Type 0 where
  pub accepts : (p : Place) (cs : List Constraint) → Respects (M.accepts p cs)
  pub holds : (s : Scope) (parent : Parent) (e : SubtypeElement) → Respects (M.holds s parent e)

nothing_same : Known nothing_known
unfolding nothing_known
nothing_same = record { accepts = λ p cs t u e. refl; holds = λ s parent x t u e. refl }

step_same : (defs : Definitions) (M : Meaning) → Known M → Known (step defs M)
unfolding step
step_same defs M k = record {
  accepts = λ p cs. accepts_same M k.accepts k.holds defs p cs;
  holds = λ s parent x t u e. holds_same M k.accepts k.holds s parent (out-SubtypeElement x) t u e;
}

known_same : (defs : Definitions) (n : ℕ) → Known (meaning defs n)
unfolding meaning
known_same defs zero = nothing_same
known_same defs (suc n) = step_same defs (meaning defs n) (known_same defs n)

pub judged_same : (defs : Definitions) (n : ℕ) (scope : Scope) (ty : ASN1Type) (t u : ValueTree) → same_tree t u ≡ true → judge defs n scope ty t ≡ judge defs n scope ty u
judged_same defs n scope ty t u e = (known_same defs n).accepts (place scope ty) [] t u e
