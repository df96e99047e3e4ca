-- Members, and trees asked by their parts, where more is known.
use Rattle.std.specs.Prelude.{nat_eq}
use Rattle.std.proofs.Common.{ℕ, suc, Bool, List, [], ◌∷◌, Option, Some, None, refl}
use Rattle.asn_tree.specs.declared.types.ChoiceOption.{ChoiceOption}
use Rattle.asn_tree.specs.declared.types.SequenceOrSetMember.{SequenceOrSetMember}
use Rattle.asn_meaning.specs.Answers.{Answer, No, Refines, Within}
use Rattle.asn_meaning.specs.Kinds.{Kind, StructKind, ListKind, ChoiceKind, kind_of}
use Rattle.asn_meaning.specs.Layers.{OptionLayer, StructLayer}
use Rattle.asn_meaning.specs.Meaning.{Meaning, Member}
use Rattle.asn_meaning.specs.Members.{struct_of, members_of, components_of, and_then, put_in, members_from, members_at, written_member}
use Rattle.asn_meaning.specs.Names.{option_named}
use Rattle.asn_meaning.specs.Scopes.{Scope, Place}
use Rattle.asn_meaning.specs.Shapes.{Asking, member_judged, fields_judged, struct_judged, trees_judged, list_judged, choice_judged, parts_fit, kind_or_parts, is_of_kind, head_fits, fits_at}
use Rattle.asn_meaning.specs.ValueTrees.{ValueTree, Struct, Elements, Alternative, Fields, field_named, ValueTrees, no_tree, tree}
use Rattle.asn_meaning.proofs.Answering.{same_refines, both_refines, each_refines, once_refines, once_within, given_refines, given_within, if_within}
use Rattle.asn_meaning.proofs.More.{More}

module _ (M N : Meaning) (m : More M N) where
  pub members_of_more : (head : Place) → Within (members_of M head) (members_of N head)
  members_of_more head = given_within (struct_of head) _ _ (m.members head.scope)

  components_more : (scope : Scope) (among : Bool) (name : List ℕ) → Within (components_of M scope among name) (components_of N scope among name)
  components_more scope among name = once_within _ _ _ _ (m.head _) (λ h. once_within _ _ _ _ (members_of_more h) (λ ms. refl))

  and_then_more : (a c b d : Option (List Member)) → Within a c → Within b d → Within (and_then a b) (and_then c d)
  and_then_more a c b d p q = once_within a c _ _ p (λ ms. once_within b d _ _ q (λ ns. refl))

  put_in_more : (scope : Scope) (number : ℕ) (names : List (List ℕ)) (ats : List (ℕ × Bool)) → Within (put_in M scope number names ats) (put_in N scope number names ats)
  put_in_more scope number [] ats = refl
  put_in_more scope number (name ∷ names) [] = refl
  put_in_more scope number (name ∷ names) (at ∷ ats) = and_then_more _ _ _ _ (if_within (nat_eq at.0 number) _ _ (Some []) (Some []) (components_more scope at.1 name) refl) (put_in_more scope number names ats)

  members_from_more : (scope : Scope) (x : StructLayer) (number : ℕ) (ms : List SequenceOrSetMember) → Within (members_from M scope x number ms) (members_from N scope x number ms)
  members_from_more scope x number [] = put_in_more scope number x.components_of x.components_at
  members_from_more scope x number (s ∷ ms) =
      and_then_more _ _ _ _ (put_in_more scope number x.components_of x.components_at)
      (and_then_more (Some (written_member scope x.extensible number s ∷ [])) (Some (written_member scope x.extensible number s ∷ [])) _ _ refl (members_from_more scope x (suc number) ms))

  pub members_at_more : (scope : Scope) (x : StructLayer) → Within (members_at M scope x) (members_at N scope x)
  members_at_more scope x = members_from_more scope x 0 x.members

  module _ (ask next : Asking) (h : (s : Member) (t : ValueTree) → Refines (ask s t) (next s t)) where
    member_judged_more : (s : Member) (t : Option ValueTree) → Refines (member_judged ask s t) (member_judged next s t)
    member_judged_more s None = same_refines _
    member_judged_more s (Some t) = h s t

    fields_judged_more : (fs : Fields) (ms : List Member) → Refines (fields_judged ask fs ms) (fields_judged next fs ms)
    fields_judged_more fs ms = both_refines _ _ _ _ (same_refines _) (each_refines _ _ (λ s. member_judged_more s (field_named fs s.written.name)) ms)

    pub struct_judged_more : (a b : Option (List Member)) → Within a b → (t : ValueTree) → Refines (struct_judged ask a t) (struct_judged next b t)
    struct_judged_more a b p (Struct fs) = once_refines a b _ _ p (fields_judged_more fs)
    struct_judged_more a b p _ = refl

  pub trees_judged_more : (ask next : ValueTree → Answer) → ((t : ValueTree) → Refines (ask t) (next t)) → (ts : ValueTrees) → Refines (trees_judged ask ts) (trees_judged next ts)
  trees_judged_more ask next h no_tree = refl
  trees_judged_more ask next h (tree t ts) = both_refines _ _ _ _ (h t) (trees_judged_more ask next h ts)

  pub list_judged_more : (ask next : ValueTree → Answer) → ((t : ValueTree) → Refines (ask t) (next t)) → (t : ValueTree) → Refines (list_judged ask t) (list_judged next t)
  list_judged_more ask next h (Elements ts) = trees_judged_more ask next h ts
  list_judged_more ask next h _ = refl

  pub choice_judged_more : (ask next : OptionLayer → ValueTree → Answer) → ((o : OptionLayer) (t : ValueTree) → Refines (ask o t) (next o t)) → (options : List ChoiceOption) (t : ValueTree) → Refines (choice_judged ask options t) (choice_judged next options t)
  choice_judged_more ask next h options (Alternative name t) = given_refines No (option_named options name) _ _ (λ o. h o t)
  choice_judged_more ask next h options _ = refl

  pub kind_or_parts_more : (k : Option (ValueTree → Bool)) (a b : Answer) (t : ValueTree) → Refines a b → Refines (kind_or_parts k a t) (kind_or_parts k b t)
  kind_or_parts_more (Some test) a b t p = same_refines _
  kind_or_parts_more None a b t p = p

  parts_fit_more : (scope : Scope) (t : ValueTree) (k : Kind) → Refines (parts_fit M scope t k) (parts_fit N scope t k)
  parts_fit_more scope t (StructKind x) = struct_judged_more _ _ (λ s u. m.fits _ u) _ _ (m.members scope x) t
  parts_fit_more scope t (ListKind ty) = list_judged_more _ _ (m.fits _) t
  parts_fit_more scope t (ChoiceKind options) = choice_judged_more _ _ (λ o u. m.fits _ u) options t
  parts_fit_more scope t _ = tt

  pub head_fits_more : (t : ValueTree) (head : Place) → Refines (head_fits M t head) (head_fits N t head)
  head_fits_more t head = kind_or_parts_more (is_of_kind (kind_of head)) _ _ t (parts_fit_more head.scope t (kind_of head))

  pub fits_at_more : (p : Place) (t : ValueTree) → Refines (fits_at M p t) (fits_at N p t)
  fits_at_more p t = once_refines _ _ _ _ (m.head p) (head_fits_more t)
