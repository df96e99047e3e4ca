-- Heads that are alike accept what their parts accept.
use Rattle.std.proofs.Common.{List, None, Option, Some, [], ap, refl, subst, sym, ℕ, ◌||◌, ◌∙◌, ◌∷◌, ◌≡◌}
use Rattle.std.specs.Prelude.{is_some}
use Rattle.asn_tree.specs.declared.types.ChoiceOption.{ChoiceOption}
use Rattle.asn_meaning.specs.Accepts.{place}
use Rattle.asn_meaning.specs.Answers.{Answer, No, Yes, answer_of, both, each}
use Rattle.asn_meaning.specs.Definitions.{Definitions}
use Rattle.asn_meaning.specs.Judge.{characters_at, head_accepts, member_accepts, option_accepts, parts_accepted}
use Rattle.asn_meaning.specs.Kinds.{ChoiceKind, FieldKind, Kind, ListKind, StructKind, kind_of}
use Rattle.asn_meaning.specs.Meaning.{Meaning, Member}
use Rattle.asn_meaning.specs.Members.{may_be_absent, member_names}
use Rattle.asn_meaning.specs.Names.{option_named}
use Rattle.asn_meaning.specs.Scopes.{Place, Scope}
use Rattle.asn_meaning.specs.Shapes.{choice_judged, fields_judged, is_of_kind, kind_or_parts, list_judged, member_judged, struct_judged}
use Rattle.asn_meaning.specs.ValueTrees.{Alternative, Elements, Fields, Struct, ValueTree, are_among, field_named}
use Rattle.asn_link_instance.specs.Heads.{Alike}
use Rattle.asn_link_instance.specs.Subjects.{Choices}
use Rattle.asn_link_instance.specs.Ways.{Refined, Way}
use Rattle.asn_link_instance.proofs.Below.{Below}
use Rattle.asn_link_instance.proofs.KeptParts.{KindKept, MemberKept, MembersKept, OptionKept, Stands, kinds_kept, stands_accepts}
use Rattle.asn_link_instance.proofs.Pairs.{Matched, Paired, both_refined, equal_refined, matched_refined, paired_refined, same_refined, trees_refined}

module _ (C : Choices) (defs others : Definitions) (j : ℕ) (way : Way) (M L : Meaning) (b : Below C defs others j way M L) where
  choice_kept : (hs ks : Scope) (os ps : List ChoiceOption) → ((name : List ℕ) → Matched (λ o p. OptionKept C defs others j way M L hs ks o p) (option_named os name) (option_named ps name)) → (t : ValueTree) →
      Refined way (choice_judged (option_accepts M hs) os t) (choice_judged (option_accepts L ks) ps t)
  choice_kept hs ks os ps f (Alternative name u) =
      matched_refined way No (λ o p. OptionKept C defs others j way M L hs ks o p) (option_named os name) (option_named ps name) (λ o. option_accepts M hs o u) (λ p. option_accepts L ks p u) (f name) (λ o p k. k.accepts u)
  choice_kept hs ks os ps f _ = same_refined way No

  list_kept : (p q : Place) → Stands C defs others j p q → (t : ValueTree) → Refined way (list_judged (M.accepts p []) t) (list_judged (L.accepts q []) t)
  list_kept p q s (Elements ts) = trees_refined way (M.accepts p []) (L.accepts q []) (λ u. stands_accepts C defs others j way M L b p q u s) ts
  list_kept p q s _ = same_refined way No

  -- ---- members

  pub names_kept : (ms ns : List Member) → MembersKept C defs others j way M L ms ns → member_names ns ≡ member_names ms
  names_kept [] [] p = refl
  names_kept [] (n ∷ ns) p = absurd p
  names_kept (m ∷ ms) [] p = absurd p
  names_kept (m ∷ ms) (n ∷ ns) (p, q) = ap (λ z. z ∷ member_names ns) p.name ∙ ap (λ z. m.written.name ∷ z) (names_kept ms ns q)

  absent_kept : (m n : Member) → MemberKept C defs others j way M L m n → may_be_absent n ≡ may_be_absent m
  absent_kept m n p =
      ap (λ z. z || (is_some n.written.default_value || n.is_addition)) p.optional ∙ ap (λ z. m.written.is_optional || (z || n.is_addition)) p.default ∙ ap (λ z. m.written.is_optional || (is_some m.written.default_value || z)) p.addition

  member_kept : (m n : Member) → MemberKept C defs others j way M L m n → (t : Option ValueTree) → Refined way (member_judged (member_accepts M) m t) (member_judged (member_accepts L) n t)
  member_kept m n p None = equal_refined way _ _ (ap answer_of (absent_kept m n p))
  member_kept m n p (Some t) = p.accepts t

  each_kept : (fs : Fields) (ms ns : List Member) → MembersKept C defs others j way M L ms ns →
      Refined way (each (λ m. member_judged (member_accepts M) m (field_named fs m.written.name)) ms) (each (λ m. member_judged (member_accepts L) m (field_named fs m.written.name)) ns)
  each_kept fs [] [] p = same_refined way Yes
  each_kept fs [] (n ∷ ns) p = absurd p
  each_kept fs (m ∷ ms) [] p = absurd p
  each_kept fs (m ∷ ms) (n ∷ ns) (p, q) =
      both_refined way _ _ _ _
      (subst (λ z. Refined way (member_judged (member_accepts M) m (field_named fs m.written.name)) (member_judged (member_accepts L) n (field_named fs z))) (sym p.name) (member_kept m n p (field_named fs m.written.name)))
      (each_kept fs ms ns q)

  fields_kept : (fs : Fields) (ms ns : List Member) → MembersKept C defs others j way M L ms ns → Refined way (fields_judged (member_accepts M) fs ms) (fields_judged (member_accepts L) fs ns)
  fields_kept fs ms ns p = both_refined way _ _ _ _ (equal_refined way _ _ (ap (λ z. answer_of (are_among z fs)) (names_kept ms ns p))) (each_kept fs ms ns p)

  struct_kept : (c d : Option (List Member)) → Paired way (λ ms ns. MembersKept C defs others j way M L ms ns) c d → (t : ValueTree) → Refined way (struct_judged (member_accepts M) c t) (struct_judged (member_accepts L) d t)
  struct_kept c d p (Struct fs) = paired_refined way (λ ms ns. MembersKept C defs others j way M L ms ns) c d (fields_judged (member_accepts M) fs) (fields_judged (member_accepts L) fs) p (fields_kept fs)
  struct_kept c d p _ = same_refined way No

  -- ---- heads

  abbrev kind_accepts : Meaning → Scope → ValueTree → Kind → Answer
  kind_accepts N s t a = both (characters_at t a) (kind_or_parts (is_of_kind a) (parts_accepted N s t a) t)

  kinds_accept : (hs ks : Scope) (t : ValueTree) (a c : Kind) → KindKept C defs others j way M L hs ks a c → Refined way (kind_accepts M hs t a) (kind_accepts L ks t c)
  kinds_accept hs ks t (StructKind x) c (y, e, p) = subst (λ z. Refined way (struct_judged (member_accepts M) (M.members hs x) t) (kind_accepts L ks t z)) (sym e) (struct_kept _ _ p t)
  kinds_accept hs ks t (ListKind ty) c (uy, e, p) = subst (λ z. Refined way (list_judged (M.accepts (place hs ty) []) t) (kind_accepts L ks t z)) (sym e) (list_kept _ _ p t)
  kinds_accept hs ks t (ChoiceKind os) c (ps, e, p) = subst (λ z. Refined way (choice_judged (option_accepts M hs) os t) (kind_accepts L ks t z)) (sym e) (choice_kept hs ks os ps p t)
  kinds_accept hs ks t (FieldKind x) c (y, e) = subst (λ z. Refined way Yes (kind_accepts L ks t z)) (sym e) (same_refined way Yes)
  kinds_accept hs ks t a c e = subst (λ z. Refined way (kind_accepts M hs t a) (kind_accepts L ks t z)) (sym e) (same_refined way (kind_accepts M hs t a))

  pub head_kept : (h k : Place) → Alike C defs others j h k → (t : ValueTree) → Refined way (head_accepts M t h) (head_accepts L t k)
  head_kept h k a t = kinds_accept h.scope k.scope t (kind_of h) (kind_of k) (kinds_kept C defs others j way M L b h k a)
