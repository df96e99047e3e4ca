-- Heads, members and shapes, where tags differ.
use Rattle.std.specs.Prelude.{nat_eq, not, is_some, if◌then◌else◌}
use Rattle.std.specs.Option.{option_map}
use Rattle.std.specs.Str.{bytes_eq}
use Rattle.std.proofs.Common.{◌≡◌, ℕ, suc, Bool, true, false, ◌||◌, List, [], ◌∷◌, ◌++◌, map, Option, Some, None, refl, sym, subst, ap, ◌∙◌}
use Rattle.asn_tree.specs.Passes.{struct_parts, rewritten_element, rewritten_member, rewritten_option, rewritten_set}
use Rattle.asn_tree.specs.declared.constraints.Constraint.{Constraint}
use Rattle.asn_tree.specs.declared.constraints.ElementOrSetOperation.{ElementOrSetOperation}
use Rattle.asn_tree.specs.declared.constraints.SubtypeElement.{SubtypeElement}
use Rattle.asn_tree.specs.declared.types.ChoiceOption.{ChoiceOption}
use Rattle.asn_tree_kinds.specs.declared.types.ChoiceSelectionType.{ChoiceSelectionType}
use Rattle.asn_tree.specs.declared.types.SequenceOrSetMember.{SequenceOrSetMember}
use Rattle.asn_tree.specs.declared.values.ASN1Value.{ASN1Value}
use Rattle.asn_meaning.specs.Answers.{Answer, No, Unknown, answer_of, both, each, once}
use Rattle.asn_meaning.specs.Definitions.{Definitions}
use Rattle.asn_meaning.specs.Kinds.{Kind, ChoiceKind, FieldKind, ListKind, ReferenceKind, SelectionKind, StructKind, kind_of}
use Rattle.asn_meaning.specs.Layers.{MemberLayer, OptionLayer, StructLayer}
use Rattle.asn_meaning.specs.Meaning.{Meaning, Member, Parent, ValuesOf, CharactersOf}
use Rattle.asn_meaning.specs.Members.{and_then, components_of, is_addition_at, may_be_absent, member_named, member_names, member_place, members_at, members_from, members_of, moved, put_in, root_members, struct_in, written_member}
use Rattle.asn_meaning.specs.Names.{FieldType, Open, Fixed, Lead, IsHead, LeadsTo, IsLost, field_lead, head_at, head_from, lead, lead_at, leading, option_named, options_in, options_of, selection_target}
use Rattle.asn_meaning.specs.Numbers.{Chain}
use Rattle.asn_meaning.specs.Scopes.{Scope, Empty, Place, Target, bare}
use Rattle.asn_meaning.specs.Shapes.{Asking, choice_judged, fields_judged, fits_at, head_fits, is_of_kind, kind_or_parts, list_judged, member_judged, option_place, parts_fit, struct_judged, trees_judged}
use Rattle.asn_meaning.specs.Tags.{TagChange, BothAlike, DifferInTags, PlacesAlike, ScopesAlike, tagged, tagged_value, tagging}
use Rattle.asn_meaning.specs.ValueTrees.{ValueTree, Struct, Elements, Alternative, field_named, ValueTrees, no_tree, tree, are_among}
use Rattle.asn_meaning.proofs.Alike.{AllAlike, append_alike, each_alike, filter_alike, find_alike, kind_alike, map_alike, mapped_same, once_alike, once_both, scope_alike}
use Rattle.asn_meaning.proofs.AlikeNames.{FieldTypesAlike, TargetsAlike, bare_alike, class_field_alike, option_named_kept, plain_place, reference_alike}
use Rattle.asn_meaning.proofs.TagLayers.{each_constraint, kind_kept, member_layer, member_out, option_layer}

-- ---- what is kept

abbrev pub MembersAlike : Member → Member → Type 0
MembersAlike m n = (f : TagChange) × (scope : Scope) × ScopesAlike m.scope scope × (n ≡ record { scope = scope; written = member_layer f m.written; is_addition = m.is_addition })

abbrev pub ParentsAlike : Parent → Parent → Type 0
ParentsAlike (ValuesOf head numbers) b = (h : Place) × PlacesAlike head h × (b ≡ ValuesOf h numbers)
ParentsAlike (CharactersOf codes) b = b ≡ CharactersOf codes

abbrev pub chain_kept : TagChange → Chain → Chain
chain_kept f c = record { first = rewritten_element (tagging f) c.first; others = map (λ o. (o.0, rewritten_element (tagging f) o.1)) c.others }

pub record AlikeKnown (M N : Meaning) : Type 0 where
  pub head : (p q : Place) → PlacesAlike p q → BothAlike PlacesAlike (M.head p) (N.head q)
  pub members : (s q : Scope) → ScopesAlike s q → (f : TagChange) (x : StructLayer) → BothAlike (AllAlike MembersAlike) (M.members s x) (N.members q (struct_parts (tagging f) x))
  pub chain : (f : TagChange) (set : ElementOrSetOperation) → N.chain (rewritten_set (tagging f) set) ≡ option_map (chain_kept f) (M.chain set)
  pub fits : (p q : Place) → PlacesAlike p q → (t : ValueTree) → N.fits q t ≡ M.fits p t
  pub denotes : (s q : Scope) → ScopesAlike s q → (f : TagChange) (v : ASN1Value) (p r : Place) → PlacesAlike p r → N.denotes q (tagged_value f v) r ≡ M.denotes s v p
  pub is_all : (s q : Scope) → ScopesAlike s q → (f : TagChange) (v : ASN1Value) (p r : Place) → PlacesAlike p r → N.is_all q (tagged_value f v) r ≡ M.is_all s v p
  pub numbers : (p q : Place) → PlacesAlike p q → (f : TagChange) (cs : List Constraint) → N.numbers q (each_constraint f cs) ≡ M.numbers p cs
  pub accepts : (p q : Place) → PlacesAlike p q → (f : TagChange) (cs : List Constraint) (t : ValueTree) → N.accepts q (each_constraint f cs) t ≡ M.accepts p cs t
  pub holds : (s q : Scope) → ScopesAlike s q → (a b : Parent) → ParentsAlike a b → (f : TagChange) (e : SubtypeElement) (t : ValueTree) → N.holds q b (rewritten_element (tagging f) e) t ≡ M.holds s a e t

-- ---- where types lead

abbrev pub LeadsAlike : Lead → Lead → Type 0
LeadsAlike IsHead b = b ≡ IsHead
LeadsAlike (LeadsTo x) b = (y : Target) × TargetsAlike x y × (b ≡ LeadsTo y)
LeadsAlike IsLost b = b ≡ IsLost

leading_alike : (a b : Option Target) → BothAlike TargetsAlike a b → LeadsAlike (leading a) (leading b)
leading_alike None b e = ap leading e
leading_alike (Some x) b (y, r, e) = (y, r, ap leading e)

field_lead_alike : (a b : Option FieldType) → BothAlike FieldTypesAlike a b → LeadsAlike (field_lead a) (field_lead b)
field_lead_alike None b e = ap field_lead e
field_lead_alike (Some Open) b (y, r, e) = ap field_lead (e ∙ ap Some r)
field_lead_alike (Some (Fixed ty)) b (y, r, e) = (bare Empty (tagged r.0 ty), bare_alike Empty Empty refl r.0 ty, ap field_lead (e ∙ ap Some r.1))

options_in_kept : (f : TagChange) (k : Kind) → options_in (kind_kept f k) ≡ map (rewritten_option (tagging f)) (options_in k)
options_in_kept f (ChoiceKind options) = refl
options_in_kept f _ = refl

pub options_alike : (h k : Place) (a : PlacesAlike h k) → options_of k ≡ map (rewritten_option (tagging a.0)) (options_of h)
options_alike h k a = ap options_in (kind_alike h k a) ∙ options_in_kept a.0 (kind_of h)

abbrev pub OptionLayersAlike : TagChange → OptionLayer → OptionLayer → Type 0
OptionLayersAlike f o u = u ≡ option_layer f o

pub option_alike : (f : TagChange) (options : List ChoiceOption) (name : List ℕ) → BothAlike (OptionLayersAlike f) (option_named options name) (option_named (map (rewritten_option (tagging f)) options) name)
option_alike f options name = go (option_named options name) _ (option_named_kept f options name)
  where
    go : (o u : Option OptionLayer) → u ≡ option_map (option_layer f) o → BothAlike (OptionLayersAlike f) o u
    go None u e = e
    go (Some x) u e = (option_layer f x, refl, e)

pub option_place_alike : (s q : Scope) → ScopesAlike s q → (f : TagChange) (o u : OptionLayer) → OptionLayersAlike f o u → PlacesAlike (option_place s o) (option_place q u)
option_place_alike s q k f o u e = (f, q, k, ap (option_place q) e)

pub member_place_alike : (m n : Member) → MembersAlike m n → PlacesAlike (member_place m) (member_place n)
member_place_alike m n (f, s, k, e) = (f, s, k, ap member_place e)

module _ (M N : Meaning) (a : AlikeKnown M N) (defs others : Definitions) (seen : DifferInTags defs others) where
  selection_alike : (s q : Scope) → ScopesAlike s q → (x : ChoiceSelectionType) → BothAlike TargetsAlike (selection_target M s x) (selection_target N q x)
  selection_alike s q k x =
      once_both PlacesAlike TargetsAlike _ _ _ _ (a.head _ _ (plain_place s q k x.choice_name)) (λ h g r.
      subst (λ options. BothAlike TargetsAlike (once None (option_named (options_of h) x.selected_option) (λ o. Some (record { place = option_place h.scope o; constraints = o.constraints }))) (once None (option_named options x.selected_option) (λ o. Some (record { place = option_place g.scope o; constraints = o.constraints })))) (sym (options_alike h g r))
      (once_both (OptionLayersAlike r.0) TargetsAlike _ _ _ _ (option_alike r.0 (options_of h) x.selected_option)
      (λ o u e. (record { place = option_place g.scope u; constraints = u.constraints }, (option_place g.scope u, option_place_alike h.scope g.scope (scope_alike h g r) r.0 o u e, r.0, ap (λ z. record { place = option_place g.scope u; constraints = z.constraints }) e), refl))))

  lead_at_alike : (s q : Scope) → ScopesAlike s q → (f : TagChange) (k : Kind) → LeadsAlike (lead_at defs M s k) (lead_at others N q (kind_kept f k))
  lead_at_alike s q c f (ReferenceKind x) = leading_alike _ _ (reference_alike defs others seen s q c f x)
  lead_at_alike s q c f (SelectionKind x) = leading_alike _ _ (selection_alike s q c x)
  lead_at_alike s q c f (FieldKind x) = field_lead_alike _ _ (class_field_alike defs others seen s q c f x)
  lead_at_alike s q c f _ = refl

  pub lead_alike : (p q : Place) → PlacesAlike p q → LeadsAlike (lead defs M p) (lead others N q)
  lead_alike p q k =
      subst (λ z. LeadsAlike (lead defs M p) (lead_at others N q.scope z)) (sym (kind_alike p q k)) (lead_at_alike p.scope q.scope (scope_alike p q k) k.0 (kind_of p))

  head_from_alike : (p q : Place) → PlacesAlike p q → (l m : Lead) → LeadsAlike l m → BothAlike PlacesAlike (head_from M p l) (head_from N q m)
  head_from_alike p q k IsHead m e = (q, k, ap (head_from N q) e)
  head_from_alike p q k (LeadsTo x) m (y, r, e) = subst (λ z. BothAlike PlacesAlike (M.head x.place) (head_from N q z)) (sym e) (a.head x.place y.place (subst (λ z. PlacesAlike x.place z.place) (sym r.3) r.1))
  head_from_alike p q k IsLost m e = ap (head_from N q) e

  pub head_at_alike : (p q : Place) → PlacesAlike p q → BothAlike PlacesAlike (head_at defs M p) (head_at others N q)
  head_at_alike p q k = head_from_alike p q k _ _ (lead_alike p q k)

  -- ---- members

  pub struct_members_alike : (s q : Scope) → ScopesAlike s q → (f : TagChange) (k : Kind) → BothAlike (AllAlike MembersAlike) (once None (struct_in k) (M.members s)) (once None (struct_in (kind_kept f k)) (N.members q))
  struct_members_alike s q c f (StructKind x) = a.members s q c f x
  struct_members_alike s q c f _ = refl

  pub members_of_alike : (p q : Place) → PlacesAlike p q → BothAlike (AllAlike MembersAlike) (members_of M p) (members_of N q)
  members_of_alike p q k =
      subst (λ z. BothAlike (AllAlike MembersAlike) (members_of M p) (once None (struct_in z) (N.members q.scope))) (sym (kind_alike p q k)) (struct_members_alike p.scope q.scope (scope_alike p q k) k.0 (kind_of p))

  moved_alike : (among : Bool) (m n : Member) → MembersAlike m n → MembersAlike (moved among m) (moved among n)
  moved_alike among m n (f, s, k, e) = (f, s, k, ap (moved among) e)

  addition_same : (m n : Member) → MembersAlike m n → n.is_addition ≡ m.is_addition
  addition_same m n (f, s, k, e) = ap (λ z. z.is_addition) e

  components_alike : (s q : Scope) → ScopesAlike s q → (among : Bool) (name : List ℕ) → BothAlike (AllAlike MembersAlike) (components_of M s among name) (components_of N q among name)
  components_alike s q k among name =
      once_both PlacesAlike (AllAlike MembersAlike) _ _ _ _ (a.head _ _ (plain_place s q k name)) (λ h g r.
      once_both (AllAlike MembersAlike) (AllAlike MembersAlike) _ _ _ _ (members_of_alike h g r)
      (λ ms ns e. (map (moved among) (root_members ns), map_alike MembersAlike (moved among) (moved_alike among) _ _ (filter_alike MembersAlike (λ m. not m.is_addition) (λ m. not m.is_addition) (λ m n u. ap not (addition_same m n u)) ms ns e), refl)))

  and_then_alike : (x y u v : Option (List Member)) → BothAlike (AllAlike MembersAlike) x u → BothAlike (AllAlike MembersAlike) y v → BothAlike (AllAlike MembersAlike) (and_then x y) (and_then u v)
  and_then_alike x y u v p r =
      once_both (AllAlike MembersAlike) (AllAlike MembersAlike) _ _ _ _ p (λ ms ns e.
      once_both (AllAlike MembersAlike) (AllAlike MembersAlike) _ _ _ _ r (λ ks ls g. (ns ++ ls, append_alike MembersAlike ms ks ns ls e g, refl)))

  none_put : BothAlike (AllAlike MembersAlike) (Some []) (Some [])
  none_put = ([], refl, refl)

  if_put : (b : Bool) (x u : Option (List Member)) → BothAlike (AllAlike MembersAlike) x u → BothAlike (AllAlike MembersAlike) (if b then x else Some []) (if b then u else Some [])
  if_put true x u p = p
  if_put false x u p = none_put

  put_in_alike : (s q : Scope) → ScopesAlike s q → (number : ℕ) (names : List (List ℕ)) (ats : List (ℕ × Bool)) → BothAlike (AllAlike MembersAlike) (put_in M s number names ats) (put_in N q number names ats)
  put_in_alike s q k number [] ats = none_put
  put_in_alike s q k number (name ∷ names) [] = none_put
  put_in_alike s q k number (name ∷ names) (at ∷ ats) = and_then_alike _ _ _ _ (if_put (nat_eq at.0 number) _ _ (components_alike s q k at.1 name)) (put_in_alike s q k number names ats)

  written_alike : (s q : Scope) → ScopesAlike s q → (f : TagChange) (marker : Option ℕ) (number : ℕ) (m : SequenceOrSetMember) → MembersAlike (written_member s marker number m) (written_member q marker number (rewritten_member (tagging f) m))
  written_alike s q k f marker number m = (f, q, k, ap (λ z. record { scope = q; written = z; is_addition = is_addition_at marker number }) (member_out f m))

  members_from_alike : (s q : Scope) → ScopesAlike s q → (f : TagChange) (x : StructLayer) (number : ℕ) (ms : List SequenceOrSetMember) →
      BothAlike (AllAlike MembersAlike) (members_from M s x number ms) (members_from N q (struct_parts (tagging f) x) number (map (rewritten_member (tagging f)) ms))
  members_from_alike s q k f x number [] = put_in_alike s q k number x.components_of x.components_at
  members_from_alike s q k f x number (m ∷ ms) =
      and_then_alike _ _ _ _ (put_in_alike s q k number x.components_of x.components_at)
      (and_then_alike (Some (written_member s x.extensible number m ∷ [])) _ (Some (written_member q x.extensible number (rewritten_member (tagging f) m) ∷ [])) _
      (written_member q x.extensible number (rewritten_member (tagging f) m) ∷ [], (written_member q x.extensible number (rewritten_member (tagging f) m), [], written_alike s q k f x.extensible number m, refl, refl), refl)
      (members_from_alike s q k f x (suc number) ms))

  pub members_at_alike : (s q : Scope) → ScopesAlike s q → (f : TagChange) (x : StructLayer) → BothAlike (AllAlike MembersAlike) (members_at M s x) (members_at N q (struct_parts (tagging f) x))
  members_at_alike s q k f x = members_from_alike s q k f x 0 x.members

-- ---- what a member keeps

default_kept : (f : TagChange) (x : MemberLayer) → is_some (member_layer f x).default_value ≡ is_some x.default_value
default_kept f x = go x.default_value
  where
    go : (v : Option ASN1Value) → is_some (member_layer f (record x { default_value = v })).default_value ≡ is_some v
    go None = refl
    go (Some v) = refl

pub default_alike : (m n : Member) → MembersAlike m n → is_some n.written.default_value ≡ is_some m.written.default_value
default_alike m n (f, s, k, e) = ap (λ z. is_some z.written.default_value) e ∙ default_kept f m.written

pub optional_alike : (m n : Member) → MembersAlike m n → n.written.is_optional ≡ m.written.is_optional
optional_alike m n (f, s, k, e) = ap (λ z. z.written.is_optional) e

pub name_alike : (m n : Member) → MembersAlike m n → n.written.name ≡ m.written.name
name_alike m n (f, s, k, e) = ap (λ z. z.written.name) e

pub absent_alike : (m n : Member) → MembersAlike m n → may_be_absent n ≡ may_be_absent m
absent_alike m n (f, s, k, e) = ap may_be_absent e ∙ ap (λ b. m.written.is_optional || (b || m.is_addition)) (default_kept f m.written)

pub named_alike : (name : List ℕ) (ms ns : List Member) → AllAlike MembersAlike ms ns → BothAlike MembersAlike (member_named ms name) (member_named ns name)
named_alike name ms ns e = find_alike MembersAlike _ _ (λ m n r. ap (λ x. bytes_eq x name) (name_alike m n r)) ms ns e

pub names_alike : (ms ns : List Member) → AllAlike MembersAlike ms ns → member_names ns ≡ member_names ms
names_alike ms ns e = mapped_same MembersAlike _ _ name_alike ms ns e

-- ---- trees asked by their parts

module _ (ask next : Asking) (h : (m n : Member) → MembersAlike m n → (t : ValueTree) → next n t ≡ ask m t) where
  member_judged_alike : (m n : Member) → MembersAlike m n → (t : Option ValueTree) → member_judged next n t ≡ member_judged ask m t
  member_judged_alike m n r None = ap answer_of (absent_alike m n r)
  member_judged_alike m n r (Some t) = h m n r t

  pub struct_judged_alike : (x y : Option (List Member)) → BothAlike (AllAlike MembersAlike) x y → (t : ValueTree) → struct_judged next y t ≡ struct_judged ask x t
  struct_judged_alike x y p (Struct fs) =
      once_alike (AllAlike MembersAlike) Unknown x y (fields_judged ask fs) (fields_judged next fs) p (λ ms ns e.
      ap (λ z. both (answer_of (are_among z fs)) (each (λ m. member_judged next m (field_named fs m.written.name)) ns)) (names_alike ms ns e)
      ∙ ap (both (answer_of (are_among (member_names ms) fs))) (each_alike MembersAlike _ _ (λ m n r. ap (λ z. member_judged next n (field_named fs z)) (name_alike m n r) ∙ member_judged_alike m n r (field_named fs m.written.name)) ms ns e))
  struct_judged_alike x y p _ = refl

pub trees_judged_alike : (ask next : ValueTree → Answer) → ((t : ValueTree) → next t ≡ ask t) → (ts : ValueTrees) → trees_judged next ts ≡ trees_judged ask ts
trees_judged_alike ask next h no_tree = refl
trees_judged_alike ask next h (tree t ts) = ap (λ z. both z (trees_judged next ts)) (h t) ∙ ap (both (ask t)) (trees_judged_alike ask next h ts)

pub list_judged_alike : (ask next : ValueTree → Answer) → ((t : ValueTree) → next t ≡ ask t) → (t : ValueTree) → list_judged next t ≡ list_judged ask t
list_judged_alike ask next h (Elements ts) = trees_judged_alike ask next h ts
list_judged_alike ask next h _ = refl

pub choice_judged_alike : (f : TagChange) (ask next : OptionLayer → ValueTree → Answer) → ((o u : OptionLayer) → OptionLayersAlike f o u → (t : ValueTree) → next u t ≡ ask o t) → (options : List ChoiceOption) (t : ValueTree) →
    choice_judged next (map (rewritten_option (tagging f)) options) t ≡ choice_judged ask options t
choice_judged_alike f ask next h options (Alternative name t) = once_alike (OptionLayersAlike f) No _ _ _ _ (option_alike f options name) (λ o u e. h o u e t)
choice_judged_alike f ask next h options _ = refl

pub kind_same : (f : TagChange) (k : Kind) → is_of_kind (kind_kept f k) ≡ is_of_kind k
kind_same f (StructKind x) = refl
kind_same f _ = refl

module _ (M N : Meaning) (a : AlikeKnown M N) where
  parts_fit_alike : (s q : Scope) → ScopesAlike s q → (f : TagChange) (t : ValueTree) (k : Kind) → parts_fit N q t (kind_kept f k) ≡ parts_fit M s t k
  parts_fit_alike s q c f t (StructKind x) = struct_judged_alike _ _ (λ m n r u. a.fits _ _ (member_place_alike m n r) u) _ _ (a.members s q c f x) t
  parts_fit_alike s q c f t (ListKind ty) = list_judged_alike _ _ (a.fits _ _ (f, q, c, refl)) t
  parts_fit_alike s q c f t (ChoiceKind options) = choice_judged_alike f _ _ (λ o u e. a.fits _ _ (option_place_alike s q c f o u e)) options t
  parts_fit_alike s q c f t _ = refl

  head_fits_alike : (t : ValueTree) (p q : Place) → PlacesAlike p q → head_fits N t q ≡ head_fits M t p
  head_fits_alike t p q k =
      ap (λ z. kind_or_parts (is_of_kind z) (parts_fit N q.scope t z) t) (kind_alike p q k)
      ∙ ap (λ z. kind_or_parts z (parts_fit N q.scope t (kind_kept k.0 (kind_of p))) t) (kind_same k.0 (kind_of p))
      ∙ ap (λ z. kind_or_parts (is_of_kind (kind_of p)) z t) (parts_fit_alike p.scope q.scope (scope_alike p q k) k.0 t (kind_of p))

  pub fits_at_alike : (p q : Place) → PlacesAlike p q → (t : ValueTree) → fits_at N q t ≡ fits_at M p t
  fits_at_alike p q k t = once_alike PlacesAlike Unknown _ _ _ _ (a.head p q k) (head_fits_alike t)
