-- Types of instances are found the same by fewer names.
use Rattle.std.proofs.Common.{Bool, List, None, Option, Some, [], ap, false, inl, inr, refl, subst, suc, sym, true, zero, ℕ, ◌&&◌, ◌++◌, ◌∙◌, ◌∷◌, ◌≡◌, ◌⊎◌}
use Rattle.std.specs.List.{list_all}
use Rattle.std.specs.Prelude.{if◌then◌else◌}
use Rattle.asn_tree_headers.specs.declared.headers.AsnTag.{AsnTag}
use Rattle.asn_tree.specs.declared.constraints.Constraint.{Constraint}
use Rattle.asn_tree.specs.declared.constraints.ElementOrSetOperation.{ElementOrSetOperation, out-ElementOrSetOperation, out-roll-ElementOrSetOperation, roll-ElementOrSetOperation}
use Rattle.asn_tree.specs.declared.constraints.SubtypeElement.{SubtypeElement, out-SubtypeElement, out-roll-SubtypeElement, roll-SubtypeElement}
use Rattle.asn_tree.specs.declared.types.ASN1Type.{ASN1Type, ASN1Type-F, out-ASN1Type, out-roll-ASN1Type, roll-ASN1Type}
use Rattle.asn_tree.specs.declared.types.Choice.{out-Choice, out-roll-Choice, roll-Choice}
use Rattle.asn_tree.specs.declared.types.ChoiceOption.{ChoiceOption, out-ChoiceOption, out-roll-ChoiceOption, roll-ChoiceOption}
use Rattle.asn_tree.specs.declared.types.SequenceOrSet.{out-SequenceOrSet, out-roll-SequenceOrSet, roll-SequenceOrSet}
use Rattle.asn_tree.specs.declared.types.SequenceOrSetMember.{out-SequenceOrSetMember, out-roll-SequenceOrSetMember, roll-SequenceOrSetMember}
use Rattle.asn_tree.specs.declared.types.SequenceOrSetOf.{out-SequenceOrSetOf, out-roll-SequenceOrSetOf, roll-SequenceOrSetOf}
use Rattle.asn_tree_notation.specs.Types.{constraints_at}
use Rattle.asn_meaning.specs.Accepts.{place}
use Rattle.asn_meaning.specs.Answers.{once}
use Rattle.asn_meaning.specs.Definitions.{Definitions}
use Rattle.asn_meaning.specs.Judge.{meaning}
use Rattle.asn_meaning.specs.Kinds.{ChoiceKind}
use Rattle.asn_meaning.specs.Layers.{ClassFieldLayer, ElementLayer, ListLayer, MemberLayer, OptionLayer, ReferenceLayer, SetLayer, StructLayer, TypeLayer}
use Rattle.asn_meaning.specs.Meaning.{Meaning, Member}
use Rattle.asn_meaning.specs.Members.{is_addition_at}
use Rattle.asn_meaning.specs.Names.{FieldType, Fixed, Open, class_field_type, reference_target, selection_target}
use Rattle.asn_meaning.specs.Scopes.{Empty, Place, Scope, Target, bare}
use Rattle.asn_meaning.specs.ValueTrees.{same_truth}
use Rattle.asn_calls.specs.Types.{with_constraints_at}
use Rattle.asn_link_instance.specs.Fewer.{AreFewer, with_names}
use Rattle.asn_link_instance.specs.Instance.{Instances, constrained, element_instance, extended, field_instance, first_tag, followed_by, has_no_place, instance, instance_at, list_instance, member_instance, no_instance, of_constraints, of_members, of_options, option_instance, own_tag, placed_tag, places_left, replaced, risen, set_instance, stays, struct_instance, tag_instance, type_instance, type_at}
use Rattle.asn_link_instance.specs.Staying.{Names, NamesStay, constraints_stay, kind_stays, member_stays, option_stays, staying}
use Rattle.asn_link_instance.specs.Subjects.{Choices, Subject, perhaps, keeping_all}
use Rattle.asn_link_instance.proofs.Forms.{own}
use Rattle.asn_link_instance.proofs.Holding.{Holds, once_holds, result_holds, result_is, some_same, then_holds, weaker}
use Rattle.asn_link_instance.proofs.StayingNames.{AllOk, ElementLayerOk, ElementOk, LayerOk, MembersOk, OptionsOk, SetLayerOk, SetOk, TypeOk, all_first, all_second, element_layer, firsts, followed_names, layer_all, layer_kind, layer_type, own_none, placed_or, seconds, set_layer, type_layer}
use Rattle.asn_link_instance.proofs.FewerNames.{FoundFewer, constraints_again, element_again, set_again, stays_less, stays_more}

-- ---- what is rolled up

rolled_type : (uy : ASN1Type) (a : Option TypeLayer) → once None a (λ l. Some (roll-ASN1Type l)) ≡ Some uy → (r : TypeLayer) × (a ≡ Some r) × (Some (roll-ASN1Type r) ≡ Some uy) × (out-ASN1Type uy ≡ r)
rolled_type uy None e = absurd cc
rolled_type uy (Some l) e = (l, refl, e, sym (ap out-ASN1Type (some_same (roll-ASN1Type l) uy e)) ∙ out-roll-ASN1Type l)

rolled_set : (x : ElementOrSetOperation) (a : Option SetLayer) → once None a (λ l. Some (roll-ElementOrSetOperation l)) ≡ Some x → (r : SetLayer) × (a ≡ Some r) × (Some (roll-ElementOrSetOperation r) ≡ Some x) × (out-ElementOrSetOperation x ≡ r)
rolled_set x None e = absurd cc
rolled_set x (Some l) e = (l, refl, e, sym (ap out-ElementOrSetOperation (some_same (roll-ElementOrSetOperation l) x e)) ∙ out-roll-ElementOrSetOperation l)

rolled_element : (x : SubtypeElement) (a : Option ElementLayer) → once None a (λ l. Some (roll-SubtypeElement l)) ≡ Some x → (r : ElementLayer) × (a ≡ Some r) × (Some (roll-SubtypeElement r) ≡ Some x) × (out-SubtypeElement x ≡ r)
rolled_element x None e = absurd cc
rolled_element x (Some l) e = (l, refl, e, sym (ap out-SubtypeElement (some_same (roll-SubtypeElement l) x e)) ∙ out-roll-SubtypeElement l)

module _ (fewer : Names) where
  abbrev StructOk : StructLayer → Type 0
  StructOk y = (m : ℕ) → (list_all (λ w. member_stays fewer (staying fewer m) (out-SequenceOrSetMember w)) y.members && constraints_stay fewer (staying fewer m) y.constraints) ≡ true

  struct_unrolled : (y : StructLayer) → StructOk (out-SequenceOrSet (roll-SequenceOrSet y)) → StructOk y
  struct_unrolled y ok = subst (λ z. StructOk z) (out-roll-SequenceOrSet y) ok

  struct_members : (y : StructLayer) → StructOk (out-SequenceOrSet (roll-SequenceOrSet y)) → MembersOk fewer y.members
  struct_members y ok = firsts (λ m. list_all (λ w. member_stays fewer (staying fewer m) (out-SequenceOrSetMember w)) y.members) (λ m. constraints_stay fewer (staying fewer m) y.constraints) (struct_unrolled y ok)

  struct_constraints : (y : StructLayer) → StructOk (out-SequenceOrSet (roll-SequenceOrSet y)) → AllOk fewer y.constraints
  struct_constraints y ok = seconds (λ m. list_all (λ w. member_stays fewer (staying fewer m) (out-SequenceOrSetMember w)) y.members) (λ m. constraints_stay fewer (staying fewer m) y.constraints) (struct_unrolled y ok)

  abbrev ListOk : ListLayer → Type 0
  ListOk y = (m : ℕ) → ((staying fewer m).of_type y.element_type && constraints_stay fewer (staying fewer m) y.constraints) ≡ true

  list_unrolled : (y : ListLayer) → ListOk (out-SequenceOrSetOf (roll-SequenceOrSetOf y)) → ListOk y
  list_unrolled y ok = subst (λ z. ListOk z) (out-roll-SequenceOrSetOf y) ok

  list_element : (y : ListLayer) → ListOk (out-SequenceOrSetOf (roll-SequenceOrSetOf y)) → TypeOk fewer y.element_type
  list_element y ok = firsts (λ m. (staying fewer m).of_type y.element_type) (λ m. constraints_stay fewer (staying fewer m) y.constraints) (list_unrolled y ok)

  list_constraints : (y : ListLayer) → ListOk (out-SequenceOrSetOf (roll-SequenceOrSetOf y)) → AllOk fewer y.constraints
  list_constraints y ok = seconds (λ m. (staying fewer m).of_type y.element_type) (λ m. constraints_stay fewer (staying fewer m) y.constraints) (list_unrolled y ok)

module _ (C : Choices) (fewer : Names) (defs : Definitions) (less : AreFewer fewer C) (M : Meaning) (I J : Instances) (f : FoundFewer fewer I J) where
  abbrev D : Choices
  D = with_names C fewer

  again : (scope : Scope) (p : Place) (cs ds : List Constraint) → of_constraints C defs M I scope p cs ≡ Some ds → AllOk fewer ds → of_constraints D defs M J scope p cs ≡ Some ds
  again scope p cs ds e ok = constraints_again C fewer defs less M I J f scope p cs ds e ok

  -- ---- parts

  placed_again : (scope : Scope) (tag : Option AsnTag) (ty uy : ASN1Type) (r : Option AsnTag) → I.of_type false scope ty ≡ Some uy → TypeOk fewer uy → placed_tag C defs M I scope tag ty ≡ Some r → placed_tag D defs M J scope tag ty ≡ Some r
  placed_again scope (Some tag) ty uy r e ok g = g
  placed_again scope None ty uy r e ok g = f.of_tag scope ty uy r e ok g

  abbrev MemberOk : MemberLayer → Type 0
  MemberOk w = (m : ℕ) → member_stays fewer (staying fewer m) w ≡ true

  member_again : (scope : Scope) (x : MemberLayer) → Holds (member_instance C defs M I scope x) (λ w. MemberOk w → member_instance D defs M J scope x ≡ Some w)
  member_again scope x =
      once_holds (I.of_type false scope x.ty) _ _ (λ ty e. once_holds (of_constraints C defs M I scope (place scope x.ty) x.constraints) _ _ (λ cs g.
      once_holds (perhaps (λ v. C.default M scope v (place scope x.ty)) x.default_value) _ _ (λ d h.
      once_holds (placed_tag C defs M I scope x.tag x.ty) _ _ (λ tag t ok.
      let ty_ok : TypeOk fewer ty = firsts (λ m. (staying fewer m).of_type ty) (λ m. constraints_stay fewer (staying fewer m) cs) ok in
      let cs_ok : AllOk fewer cs = seconds (λ m. (staying fewer m).of_type ty) (λ m. constraints_stay fewer (staying fewer m) cs) ok in
      ap (λ z. once None z (λ ty. once None (of_constraints D defs M J scope (place scope x.ty) x.constraints) (λ cs.
      once None (perhaps (λ v. C.default M scope v (place scope x.ty)) x.default_value) (λ d. once None (placed_tag D defs M J scope x.tag x.ty) (λ tag. Some (record x { tag = tag; ty = ty; constraints = cs; default_value = d }))))))
      (f.of_type false scope x.ty ty e ty_ok)
      ∙ ap (λ z. once None z (λ cs. once None (perhaps (λ v. C.default M scope v (place scope x.ty)) x.default_value) (λ d. once None (placed_tag D defs M J scope x.tag x.ty) (λ tag. Some (record x { tag = tag; ty = ty; constraints = cs; default_value = d })))))
      (again scope (place scope x.ty) x.constraints cs g cs_ok)
      ∙ ap (λ z. once None z (λ d. once None (placed_tag D defs M J scope x.tag x.ty) (λ tag. Some (record x { tag = tag; ty = ty; constraints = cs; default_value = d })))) h
      ∙ ap (λ z. once None z (λ tag. Some (record x { tag = tag; ty = ty; constraints = cs; default_value = d }))) (placed_again scope x.tag x.ty ty tag e ty_ok t)))))

  members_again : (marker : Option ℕ) (number : ℕ) (ms : List Member) → Holds (of_members C defs M I marker number ms) (λ ws. MembersOk fewer ws → of_members D defs M J marker number ms ≡ Some ws)
  members_again marker number [] = λ ok. refl
  members_again marker number (x ∷ ms) = at (same_truth x.is_addition (is_addition_at marker number)) (members_again marker (suc number) ms)
    where
      at : (c : Bool) → Holds (of_members C defs M I marker (suc number) ms) (λ ws. MembersOk fewer ws → of_members D defs M J marker (suc number) ms ≡ Some ws) →
          Holds (if c then once None (member_instance C defs M I x.scope x.written) (λ w. once None (of_members C defs M I marker (suc number) ms) (λ ws. Some (roll-SequenceOrSetMember w ∷ ws))) else None)
          (λ ws. MembersOk fewer ws → (if c then once None (member_instance D defs M J x.scope x.written) (λ w. once None (of_members D defs M J marker (suc number) ms) (λ ws. Some (roll-SequenceOrSetMember w ∷ ws))) else None) ≡ Some ws)
      at false h = tt
      at true h =
          then_holds (member_instance C defs M I x.scope x.written) _ (λ w. MemberOk w → member_instance D defs M J x.scope x.written ≡ Some w) _ (member_again x.scope x.written) (λ w e u.
          then_holds (of_members C defs M I marker (suc number) ms) _ (λ ws. MembersOk fewer ws → of_members D defs M J marker (suc number) ms ≡ Some ws) _ h (λ ws g v ok.
          let w_ok : MemberOk w = λ m. ap (λ z. member_stays fewer (staying fewer m) z) (sym (out-roll-SequenceOrSetMember w)) ∙ firsts (λ m. member_stays fewer (staying fewer m) (out-SequenceOrSetMember (roll-SequenceOrSetMember w))) (λ m. list_all (λ w. member_stays fewer (staying fewer m) (out-SequenceOrSetMember w)) ws) ok m in
          ap (λ z. once None z (λ w. once None (of_members D defs M J marker (suc number) ms) (λ ws. Some (roll-SequenceOrSetMember w ∷ ws)))) (u w_ok)
          ∙ ap (λ z. once None z (λ ws. Some (roll-SequenceOrSetMember w ∷ ws))) (v (seconds (λ m. member_stays fewer (staying fewer m) (out-SequenceOrSetMember (roll-SequenceOrSetMember w))) (λ m. list_all (λ w. member_stays fewer (staying fewer m) (out-SequenceOrSetMember w)) ws) ok))))

  struct_again : (scope : Scope) (ty : ASN1Type) (x : StructLayer) → Holds (struct_instance C defs M I scope ty x) (λ y. MembersOk fewer y.members → AllOk fewer y.constraints → struct_instance D defs M J scope ty x ≡ Some y)
  struct_again scope ty x = at (M.members scope x)
    where
      at : (o : Option (List Member)) → Holds {A = StructLayer} (once None o (λ ms. once None (of_members C defs M I (risen C defs M I x ms) 0 ms) (λ ws. once None (of_constraints C defs M I scope (place scope ty) x.constraints) (λ cs.
          Some (record { components_of = []; components_at = places_left C defs M I x; extensible = risen C defs M I x ms; constraints = cs; members = ws })))))
          (λ y. MembersOk fewer y.members → AllOk fewer y.constraints → once None o (λ ms. once None (of_members D defs M J (risen C defs M I x ms) 0 ms) (λ ws. once None (of_constraints D defs M J scope (place scope ty) x.constraints) (λ cs.
          Some (record { components_of = []; components_at = places_left C defs M I x; extensible = risen C defs M I x ms; constraints = cs; members = ws })))) ≡ Some y)
      at None = tt
      at (Some ms) =
          then_holds (of_members C defs M I (risen C defs M I x ms) 0 ms) _ (λ ws. MembersOk fewer ws → of_members D defs M J (risen C defs M I x ms) 0 ms ≡ Some ws) _ (members_again (risen C defs M I x ms) 0 ms) (λ ws e u.
          once_holds (of_constraints C defs M I scope (place scope ty) x.constraints) _ _ (λ cs g ws_ok cs_ok.
          ap (λ z. once None z (λ ws. once None (of_constraints D defs M J scope (place scope ty) x.constraints) (λ cs. Some (record { components_of = []; components_at = places_left C defs M I x; extensible = risen C defs M I x ms; constraints = cs; members = ws })))) (u ws_ok)
          ∙ ap (λ z. once None z (λ cs. Some (record { components_of = []; components_at = places_left C defs M I x; extensible = risen C defs M I x ms; constraints = cs; members = ws }))) (again scope (place scope ty) x.constraints cs g cs_ok)))

  abbrev OptionOk : OptionLayer → Type 0
  OptionOk w = (m : ℕ) → option_stays fewer (staying fewer m) w ≡ true

  option_again : (scope : Scope) (x : OptionLayer) → Holds (option_instance C defs M I scope x) (λ w. OptionOk w → option_instance D defs M J scope x ≡ Some w)
  option_again scope x =
      once_holds (I.of_type false scope x.ty) _ _ (λ ty e. once_holds (of_constraints C defs M I scope (place scope x.ty) x.constraints) _ _ (λ cs g.
      once_holds (placed_tag C defs M I scope x.tag x.ty) _ _ (λ tag t ok.
      let ty_ok : TypeOk fewer ty = firsts (λ m. (staying fewer m).of_type ty) (λ m. constraints_stay fewer (staying fewer m) cs) ok in
      let cs_ok : AllOk fewer cs = seconds (λ m. (staying fewer m).of_type ty) (λ m. constraints_stay fewer (staying fewer m) cs) ok in
      ap (λ z. once None z (λ ty. once None (of_constraints D defs M J scope (place scope x.ty) x.constraints) (λ cs. once None (placed_tag D defs M J scope x.tag x.ty) (λ tag. Some (record x { tag = tag; ty = ty; constraints = cs }))))) (f.of_type false scope x.ty ty e ty_ok)
      ∙ ap (λ z. once None z (λ cs. once None (placed_tag D defs M J scope x.tag x.ty) (λ tag. Some (record x { tag = tag; ty = ty; constraints = cs })))) (again scope (place scope x.ty) x.constraints cs g cs_ok)
      ∙ ap (λ z. once None z (λ tag. Some (record x { tag = tag; ty = ty; constraints = cs }))) (placed_again scope x.tag x.ty ty tag e ty_ok t))))

  options_again : (scope : Scope) (os : List ChoiceOption) → Holds (of_options C defs M I scope os) (λ ps. OptionsOk fewer ps → of_options D defs M J scope os ≡ Some ps)
  options_again scope [] = λ ok. refl
  options_again scope (o ∷ os) =
      then_holds (once None (option_instance C defs M I scope (out-ChoiceOption o)) (λ x. Some (roll-ChoiceOption x))) _ (λ p. OptionOk (out-ChoiceOption p) → once None (option_instance D defs M J scope (out-ChoiceOption o)) (λ x. Some (roll-ChoiceOption x)) ≡ Some p) _
      (then_holds (option_instance C defs M I scope (out-ChoiceOption o)) _ (λ w. OptionOk w → option_instance D defs M J scope (out-ChoiceOption o) ≡ Some w) _ (option_again scope (out-ChoiceOption o)) (λ w e u ok.
      ap (λ z. once None z (λ x. Some (roll-ChoiceOption x))) (u (λ m. ap (λ z. option_stays fewer (staying fewer m) z) (sym (out-roll-ChoiceOption w)) ∙ ok m)))) (λ p e u.
      then_holds (of_options C defs M I scope os) _ (λ ps. OptionsOk fewer ps → of_options D defs M J scope os ≡ Some ps) _ (options_again scope os) (λ ps g v ok.
      ap (λ z. once None z (λ y. once None (of_options D defs M J scope os) (λ ys. Some (y ∷ ys)))) (u (firsts (λ m. option_stays fewer (staying fewer m) (out-ChoiceOption p)) (λ m. list_all (λ o. option_stays fewer (staying fewer m) (out-ChoiceOption o)) ps) ok))
      ∙ ap (λ z. once None z (λ ys. Some (p ∷ ys))) (v (seconds (λ m. option_stays fewer (staying fewer m) (out-ChoiceOption p)) (λ m. list_all (λ o. option_stays fewer (staying fewer m) (out-ChoiceOption o)) ps) ok))))

  list_again : (scope : Scope) (ty : ASN1Type) (x : ListLayer) → Holds (list_instance C defs M I scope ty x) (λ y. TypeOk fewer y.element_type → AllOk fewer y.constraints → list_instance D defs M J scope ty x ≡ Some y)
  list_again scope ty x = once_holds (I.of_type false scope x.element_type) _ _ (λ e g. once_holds (of_constraints C defs M I scope (place scope ty) x.constraints) _ _ (λ cs h e_ok cs_ok.
      ap (λ z. once None z (λ e. once None (of_constraints D defs M J scope (place scope ty) x.constraints) (λ cs. Some (record x { element_type = e; constraints = cs })))) (f.of_type false scope x.element_type e g e_ok)
      ∙ ap (λ z. once None z (λ cs. Some (record x { element_type = e; constraints = cs }))) (again scope (place scope ty) x.constraints cs h cs_ok)))

  -- ---- types

  no_constraints : (scope : Scope) (p : Place) (cs ds : List Constraint) → cs ≡ [] → of_constraints C defs M I scope p cs ≡ Some ds → of_constraints D defs M J scope p cs ≡ Some ds
  no_constraints scope p [] ds e g = g
  no_constraints scope p (c ∷ cs) ds e g = absurd cc

  constrained_again : (scope : Scope) (ty : ASN1Type) (l : TypeLayer) → Holds (constrained C defs M I scope ty l) (λ r. LayerOk fewer r → constrained D defs M J scope ty l ≡ Some r)
  constrained_again scope ty l = once_holds (of_constraints C defs M I scope (place scope ty) (own l)) _ _ (λ cs e ok. ap (λ z. once None z (λ cs. Some (with_constraints_at l cs))) (found cs e ok (placed_or fewer l)))
    where
      found : (cs : List Constraint) → of_constraints C defs M I scope (place scope ty) (own l) ≡ Some cs → LayerOk fewer (with_constraints_at l cs) → (constraints_at l ≡ None) ⊎ ((cs : List Constraint) → own (with_constraints_at l cs) ≡ cs) → of_constraints D defs M J scope (place scope ty) (own l) ≡ Some cs
      found cs e ok (inl none) = no_constraints scope (place scope ty) (own l) cs (own_none fewer (constraints_at l) none) e
      found cs e ok (inr same) = again scope (place scope ty) (own l) cs e (layer_all fewer l cs (same cs) ok)

  -- what a name leads to, where the instance takes its place
  record PartOf (down : Bool) (x : Target) : Type 0 where
    part : ASN1Type
    is : I.of_type down x.place.scope x.place.ty ≡ Some part
    ok : TypeOk fewer part

  replaced_part : (down : Bool) (scope : Scope) (ty : ASN1Type) (beside : List Constraint) (x : Target) → Holds (replaced C defs M I down scope ty beside (Some x)) (λ r. LayerOk fewer r → PartOf down x)
  replaced_part down scope ty beside x = once_holds (I.of_type down x.place.scope x.place.ty) _ _ (λ uy u. at uy u (has_no_place (out-ASN1Type uy)) refl)
    where
      at : (uy : ASN1Type) → I.of_type down x.place.scope x.place.ty ≡ Some uy → (c : Bool) → has_no_place (out-ASN1Type uy) ≡ c → Holds (extended C defs M I scope ty beside x (out-ASN1Type uy) c) (λ r. LayerOk fewer r → PartOf down x)
      at uy u true e = λ ok. record { part = uy; is = u; ok = layer_type fewer uy ok }
      at uy u false e = once_holds (of_constraints C defs M I x.place.scope x.place x.constraints) _ _ (λ es v. once_holds (of_constraints C defs M I scope (place scope ty) beside) _ _ (λ ds w.
          weaker (followed_by (out-ASN1Type uy) (es ++ ds)) (λ r. LayerOk fewer r → LayerOk fewer (out-ASN1Type uy) × AllOk fewer (es ++ ds)) _ (followed_names fewer (out-ASN1Type uy) (es ++ ds) e) (λ r k ok. record { part = uy; is = u; ok = layer_type fewer uy (k ok).0 })))

  replaced_again : (down : Bool) (scope : Scope) (ty : ASN1Type) (beside : List Constraint) (target : Option Target) → Holds (replaced C defs M I down scope ty beside target) (λ r. LayerOk fewer r → replaced D defs M J down scope ty beside target ≡ Some r)
  replaced_again down scope ty beside None = tt
  replaced_again down scope ty beside (Some x) = once_holds (I.of_type down x.place.scope x.place.ty) _ _ (λ uy u. at uy u (has_no_place (out-ASN1Type uy)) refl)
    where
      same_part : (uy : ASN1Type) (c : Bool) → I.of_type down x.place.scope x.place.ty ≡ Some uy → has_no_place (out-ASN1Type uy) ≡ c → LayerOk fewer (out-ASN1Type uy) →
          replaced D defs M J down scope ty beside (Some x) ≡ extended D defs M J scope ty beside x (out-ASN1Type uy) c
      same_part uy c u e ok =
          ap (λ z. once None z (λ uy. extended D defs M J scope ty beside x (out-ASN1Type uy) (has_no_place (out-ASN1Type uy)))) (f.of_type down x.place.scope x.place.ty uy u (layer_type fewer uy ok))
          ∙ ap (extended D defs M J scope ty beside x (out-ASN1Type uy)) e

      at : (uy : ASN1Type) → I.of_type down x.place.scope x.place.ty ≡ Some uy → (c : Bool) → has_no_place (out-ASN1Type uy) ≡ c →
          Holds (extended C defs M I scope ty beside x (out-ASN1Type uy) c) (λ r. LayerOk fewer r → replaced D defs M J down scope ty beside (Some x) ≡ Some r)
      at uy u true e = λ ok. same_part uy true u e ok
      at uy u false e = once_holds (of_constraints C defs M I x.place.scope x.place x.constraints) _ _ (λ es v. once_holds (of_constraints C defs M I scope (place scope ty) beside) _ _ (λ ds w.
          result_is (followed_by (out-ASN1Type uy) (es ++ ds)) _ (λ r g ok.
          let k = result_holds (followed_by (out-ASN1Type uy) (es ++ ds)) (λ r. LayerOk fewer r → LayerOk fewer (out-ASN1Type uy) × AllOk fewer (es ++ ds)) r (followed_names fewer (out-ASN1Type uy) (es ++ ds) e) g ok in
          same_part uy false u e k.0
          ∙ ap (λ z. once None z (λ es. once None (of_constraints D defs M J scope (place scope ty) beside) (λ ds. followed_by (out-ASN1Type uy) (es ++ ds)))) (again x.place.scope x.place x.constraints es v (all_first fewer es ds k.1))
          ∙ ap (λ z. once None z (λ ds. followed_by (out-ASN1Type uy) (es ++ ds))) (again scope (place scope ty) beside ds w (all_second fewer es ds k.1)) ∙ g)))

  reference_again : (down : Bool) (scope : Scope) (ty : ASN1Type) (x : ReferenceLayer) → Holds (type_instance C defs M I down scope ty (ASN1Type-F.ElsewhereDeclaredType x)) (λ r. LayerOk fewer r → type_instance D defs M J down scope ty (ASN1Type-F.ElsewhereDeclaredType x) ≡ Some r)
  reference_again down scope ty x = at (stays C down scope x) refl
    where
      stayed : (cs : List Constraint) → LayerOk fewer (ASN1Type-F.ElsewhereDeclaredType (record x { constraints = cs })) → fewer x.parent x.identifier ≡ true
      stayed cs ok = layer_kind fewer (ASN1Type-F.ElsewhereDeclaredType x) cs ok zero

      at : (c : Bool) → stays C down scope x ≡ c →
          Holds (if c then constrained C defs M I scope ty (ASN1Type-F.ElsewhereDeclaredType x) else replaced C defs M I down scope ty x.constraints (reference_target defs scope x)) (λ r. LayerOk fewer r → type_instance D defs M J down scope ty (ASN1Type-F.ElsewhereDeclaredType x) ≡ Some r)
      at true s = once_holds (of_constraints C defs M I scope (place scope ty) x.constraints) _ _ (λ cs e ok.
          ap (λ z. if z then constrained D defs M J scope ty (ASN1Type-F.ElsewhereDeclaredType x) else replaced D defs M J down scope ty x.constraints (reference_target defs scope x)) (stays_more C fewer down scope x x.parent (stayed cs ok) s)
          ∙ ap (λ z. once None z (λ cs. Some (ASN1Type-F.ElsewhereDeclaredType (record x { constraints = cs })))) (again scope (place scope ty) x.constraints cs e (layer_all fewer (ASN1Type-F.ElsewhereDeclaredType x) cs refl ok)))
      at false s = weaker (replaced C defs M I down scope ty x.constraints (reference_target defs scope x)) (λ r. LayerOk fewer r → replaced D defs M J down scope ty x.constraints (reference_target defs scope x) ≡ Some r) _ (replaced_again down scope ty x.constraints (reference_target defs scope x)) (λ r k ok.
          ap (λ z. if z then constrained D defs M J scope ty (ASN1Type-F.ElsewhereDeclaredType x) else replaced D defs M J down scope ty x.constraints (reference_target defs scope x)) (stays_less C fewer less down scope x x.parent s) ∙ k ok)

  field_again : (down : Bool) (scope : Scope) (ty : ASN1Type) (x : ClassFieldLayer) (d : Option FieldType) → Holds (field_instance C defs M I down scope ty x d) (λ r. LayerOk fewer r → field_instance D defs M J down scope ty x d ≡ Some r)
  field_again down scope ty x None = tt
  field_again down scope ty x (Some Open) = at (C.keeps None x.class)
    where
      at : (c : Bool) → Holds (if c then constrained C defs M I scope ty (ASN1Type-F.InformationObjectFieldReference x) else None) (λ r. LayerOk fewer r → (if fewer None x.class then constrained D defs M J scope ty (ASN1Type-F.InformationObjectFieldReference x) else None) ≡ Some r)
      at false = tt
      at true = once_holds (of_constraints C defs M I scope (place scope ty) x.constraints) _ _ (λ cs e ok.
          ap (λ z. if z then constrained D defs M J scope ty (ASN1Type-F.InformationObjectFieldReference x) else None) (layer_kind fewer (ASN1Type-F.InformationObjectFieldReference x) cs ok zero)
          ∙ ap (λ z. once None z (λ cs. Some (ASN1Type-F.InformationObjectFieldReference (record x { constraints = cs })))) (again scope (place scope ty) x.constraints cs e (layer_all fewer (ASN1Type-F.InformationObjectFieldReference x) cs refl ok)))
  field_again down scope ty x (Some (Fixed uy)) = replaced_again down scope ty x.constraints (Some (bare Empty uy))

  type_again : (down : Bool) (scope : Scope) (ty : ASN1Type) (l : TypeLayer) → Holds (type_instance C defs M I down scope ty l) (λ r. LayerOk fewer r → type_instance D defs M J down scope ty l ≡ Some r)
  type_again down scope ty (ASN1Type-F.ElsewhereDeclaredType x) = reference_again down scope ty x
  type_again down scope ty (ASN1Type-F.ChoiceSelectionType x) = replaced_again down scope ty [] (selection_target M scope x)
  type_again down scope ty (ASN1Type-F.InformationObjectFieldReference x) = field_again down scope ty x (class_field_type defs scope x)
  type_again down scope ty (ASN1Type-F.ASN1Type::Choice x) =
      then_holds (of_options C defs M I scope (out-Choice x).options) _ (λ ps. OptionsOk fewer ps → of_options D defs M J scope (out-Choice x).options ≡ Some ps) _ (options_again scope (out-Choice x).options) (λ os e u.
      once_holds (of_constraints C defs M I scope (place scope ty) (out-Choice x).constraints) _ _ (λ cs g ok.
      let y = record (out-Choice x) { options = os; constraints = cs } in
      let os_ok : OptionsOk fewer os = λ m. ap (λ z. list_all (λ o. option_stays fewer (staying fewer m) (out-ChoiceOption o)) z.options) (sym (out-roll-Choice y)) ∙ firsts (λ m. kind_stays fewer (staying fewer m) (ChoiceKind (out-Choice (roll-Choice y)).options)) (λ m. constraints_stay fewer (staying fewer m) (out-Choice (roll-Choice y)).constraints) ok m in
      let cs_ok : AllOk fewer cs = λ m. ap (λ z. constraints_stay fewer (staying fewer m) z.constraints) (sym (out-roll-Choice y)) ∙ seconds (λ m. kind_stays fewer (staying fewer m) (ChoiceKind (out-Choice (roll-Choice y)).options)) (λ m. constraints_stay fewer (staying fewer m) (out-Choice (roll-Choice y)).constraints) ok m in
      ap (λ z. once None z (λ os. once None (of_constraints D defs M J scope (place scope ty) (out-Choice x).constraints) (λ cs. Some (ASN1Type-F.ASN1Type::Choice (roll-Choice (record (out-Choice x) { options = os; constraints = cs })))))) (u os_ok)
      ∙ ap (λ z. once None z (λ cs. Some (ASN1Type-F.ASN1Type::Choice (roll-Choice (record (out-Choice x) { options = os; constraints = cs }))))) (again scope (place scope ty) (out-Choice x).constraints cs g cs_ok)))
  type_again down scope ty (ASN1Type-F.Sequence x) = then_holds (struct_instance C defs M I scope ty (out-SequenceOrSet x)) _ (λ y. MembersOk fewer y.members → AllOk fewer y.constraints → struct_instance D defs M J scope ty (out-SequenceOrSet x) ≡ Some y) _ (struct_again scope ty (out-SequenceOrSet x)) (λ y e u ok. ap (λ z. once None z (λ y. Some (ASN1Type-F.Sequence (roll-SequenceOrSet y)))) (u (struct_members fewer y ok) (struct_constraints fewer y ok)))
  type_again down scope ty (ASN1Type-F.Set x) = then_holds (struct_instance C defs M I scope ty (out-SequenceOrSet x)) _ (λ y. MembersOk fewer y.members → AllOk fewer y.constraints → struct_instance D defs M J scope ty (out-SequenceOrSet x) ≡ Some y) _ (struct_again scope ty (out-SequenceOrSet x)) (λ y e u ok. ap (λ z. once None z (λ y. Some (ASN1Type-F.Set (roll-SequenceOrSet y)))) (u (struct_members fewer y ok) (struct_constraints fewer y ok)))
  type_again down scope ty (ASN1Type-F.SequenceOf x) = then_holds (list_instance C defs M I scope ty (out-SequenceOrSetOf x)) _ (λ y. TypeOk fewer y.element_type → AllOk fewer y.constraints → list_instance D defs M J scope ty (out-SequenceOrSetOf x) ≡ Some y) _ (list_again scope ty (out-SequenceOrSetOf x)) (λ y e u ok. ap (λ z. once None z (λ y. Some (ASN1Type-F.SequenceOf (roll-SequenceOrSetOf y)))) (u (list_element fewer y ok) (list_constraints fewer y ok)))
  type_again down scope ty (ASN1Type-F.SetOf x) = then_holds (list_instance C defs M I scope ty (out-SequenceOrSetOf x)) _ (λ y. TypeOk fewer y.element_type → AllOk fewer y.constraints → list_instance D defs M J scope ty (out-SequenceOrSetOf x) ≡ Some y) _ (list_again scope ty (out-SequenceOrSetOf x)) (λ y e u ok. ap (λ z. once None z (λ y. Some (ASN1Type-F.SetOf (roll-SequenceOrSetOf y)))) (u (list_element fewer y ok) (list_constraints fewer y ok)))
  type_again down scope ty l = constrained_again scope ty l

  -- ---- tags

  tag_by_part : (own : Option AsnTag) (x : Target) (tag : Option AsnTag) → PartOf false x → first_tag C defs M I own (I.of_tag x.place.scope x.place.ty) ≡ Some tag → first_tag D defs M J own (J.of_tag x.place.scope x.place.ty) ≡ Some tag
  tag_by_part (Some own) x tag p e = e
  tag_by_part None x tag p e = f.of_tag x.place.scope x.place.ty p.part tag p.is p.ok e

  brought_again : (scope : Scope) (ty : ASN1Type) (own : Option AsnTag) (beside : List Constraint) (target : Option Target) (r : TypeLayer) (tag : Option AsnTag) → replaced C defs M I false scope ty beside target ≡ Some r → LayerOk fewer r →
      once None target (λ x. first_tag C defs M I own (I.of_tag x.place.scope x.place.ty)) ≡ Some tag → once None target (λ x. first_tag D defs M J own (J.of_tag x.place.scope x.place.ty)) ≡ Some tag
  brought_again scope ty own beside None r tag e ok g = g
  brought_again scope ty own beside (Some x) r tag e ok g = tag_by_part own x tag (result_holds (replaced C defs M I false scope ty beside (Some x)) (λ r. LayerOk fewer r → PartOf false x) r (replaced_part false scope ty beside x) e ok) g

  tag_again : (scope : Scope) (ty : ASN1Type) (l r : TypeLayer) (tag : Option AsnTag) → type_instance C defs M I false scope ty l ≡ Some r → LayerOk fewer r → tag_instance C defs M I scope l ≡ Some tag → tag_instance D defs M J scope l ≡ Some tag
  tag_again scope ty (ASN1Type-F.ElsewhereDeclaredType x) r tag e ok g = at (stays C false scope x) refl e g
    where
      at : (c : Bool) → stays C false scope x ≡ c → (if c then constrained C defs M I scope ty (ASN1Type-F.ElsewhereDeclaredType x) else replaced C defs M I false scope ty x.constraints (reference_target defs scope x)) ≡ Some r →
          (if c then Some None else once None (reference_target defs scope x) (λ t. first_tag C defs M I (own_tag C defs M I scope (ASN1Type-F.ElsewhereDeclaredType x)) (I.of_tag t.place.scope t.place.ty))) ≡ Some tag →
          tag_instance D defs M J scope (ASN1Type-F.ElsewhereDeclaredType x) ≡ Some tag
      at true s e g =
          let kept : fewer x.parent x.identifier ≡ true = result_holds (constrained C defs M I scope ty (ASN1Type-F.ElsewhereDeclaredType x)) (λ r. LayerOk fewer r → fewer x.parent x.identifier ≡ true) r
          (once_holds (of_constraints C defs M I scope (place scope ty) x.constraints) _ _ (λ cs h ok. layer_kind fewer (ASN1Type-F.ElsewhereDeclaredType x) cs ok zero)) e ok in
          ap (λ z. if z then Some None else once None (reference_target defs scope x) (λ t. first_tag D defs M J (own_tag D defs M J scope (ASN1Type-F.ElsewhereDeclaredType x)) (J.of_tag t.place.scope t.place.ty))) (stays_more C fewer false scope x x.parent kept s) ∙ g
      at false s e g =
          ap (λ z. if z then Some None else once None (reference_target defs scope x) (λ t. first_tag D defs M J (own_tag D defs M J scope (ASN1Type-F.ElsewhereDeclaredType x)) (J.of_tag t.place.scope t.place.ty))) (stays_less C fewer less false scope x x.parent s)
          ∙ brought_again scope ty (own_tag C defs M I scope (ASN1Type-F.ElsewhereDeclaredType x)) x.constraints (reference_target defs scope x) r tag e ok g
  tag_again scope ty (ASN1Type-F.ChoiceSelectionType x) r tag e ok g = brought_again scope ty (own_tag C defs M I scope (ASN1Type-F.ChoiceSelectionType x)) [] (selection_target M scope x) r tag e ok g
  tag_again scope ty _ r tag e ok g = g

  -- ---- one level

  type_next : (down : Bool) (scope : Scope) (ty uy : ASN1Type) → type_at C defs M I down scope ty ≡ Some uy → TypeOk fewer uy → type_at D defs M J down scope ty ≡ Some uy
  type_next down scope ty uy e ok =
      let r = rolled_type uy (type_instance C defs M I down scope ty (out-ASN1Type ty)) e in
      let found = result_holds (type_instance C defs M I down scope ty (out-ASN1Type ty)) (λ r. LayerOk fewer r → type_instance D defs M J down scope ty (out-ASN1Type ty) ≡ Some r) r.0 (type_again down scope ty (out-ASN1Type ty)) r.1 in
      ap (λ z. once None z (λ l. Some (roll-ASN1Type l))) (found (subst (λ z. LayerOk fewer z) r.3 (type_layer fewer uy ok))) ∙ r.2

  tag_next : (scope : Scope) (ty uy : ASN1Type) (tag : Option AsnTag) → type_at C defs M I false scope ty ≡ Some uy → TypeOk fewer uy → tag_instance C defs M I scope (out-ASN1Type ty) ≡ Some tag → tag_instance D defs M J scope (out-ASN1Type ty) ≡ Some tag
  tag_next scope ty uy tag e ok g =
      let r = rolled_type uy (type_instance C defs M I false scope ty (out-ASN1Type ty)) e in
      tag_again scope ty (out-ASN1Type ty) r.0 tag r.1 (subst (λ z. LayerOk fewer z) r.3 (type_layer fewer uy ok)) g

  set_next : (contained : Scope → ASN1Type → Option ASN1Type) (scope : Scope) (s : Subject) (x y : ElementOrSetOperation) → (instance_at C defs M I contained).of_set scope s x ≡ Some y → SetOk fewer y → (instance_at D defs M J contained).of_set scope s x ≡ Some y
  set_next contained scope s x y e ok =
      let r = rolled_set y (set_instance C defs M I scope s (out-ElementOrSetOperation x)) e in
      let found = result_holds (set_instance C defs M I scope s (out-ElementOrSetOperation x)) (λ r. SetLayerOk fewer r → set_instance D defs M J scope s (out-ElementOrSetOperation x) ≡ Some r) r.0 (set_again C fewer defs less M I J f scope s (out-ElementOrSetOperation x)) r.1 in
      ap (λ z. once None z (λ l. Some (roll-ElementOrSetOperation l))) (found (subst (λ z. SetLayerOk fewer z) r.3 (set_layer fewer y ok))) ∙ r.2

  element_next : (contained : Scope → ASN1Type → Option ASN1Type) (scope : Scope) (s : Subject) (x y : SubtypeElement) → (instance_at C defs M I contained).of_element scope s x ≡ Some y → ElementOk fewer y → (instance_at D defs M J contained).of_element scope s x ≡ Some y
  element_next contained scope s x y e ok =
      let r = rolled_element y (element_instance C defs M I scope s (out-SubtypeElement x)) e in
      let found = result_holds (element_instance C defs M I scope s (out-SubtypeElement x)) (λ r. ElementLayerOk fewer r → element_instance D defs M J scope s (out-SubtypeElement x) ≡ Some r) r.0 (element_again C fewer defs less M I J f scope s (out-SubtypeElement x)) r.1 in
      ap (λ z. once None z (λ l. Some (roll-SubtypeElement l))) (found (subst (λ z. ElementLayerOk fewer z) r.3 (element_layer fewer y ok))) ∙ r.2

  level_next : (contained : Scope → ASN1Type → Option ASN1Type) → FoundFewer fewer (instance_at C defs M I contained) (instance_at D defs M J contained)
  level_next contained = record { of_type = type_next; of_set = set_next contained; of_element = element_next contained; of_tag = tag_next; of_contained = λ scope ty. refl }

-- ---- all levels

-- what contents hold, one level up
abbrev contained_at : Choices → Definitions → ℕ → ℕ → Scope → ASN1Type → Option ASN1Type
contained_at C defs n k = type_at (keeping_all C) defs (meaning defs n) (instance (keeping_all C) defs n k) false

nothing_fewer : (fewer : Names) → FoundFewer fewer no_instance no_instance
unfolding no_instance
nothing_fewer fewer = record {
  of_type = λ down scope ty uy e ok. absurd cc;
  of_set = λ scope s x y e ok. absurd cc;
  of_element = λ scope s x y e ok. absurd cc;
  of_tag = λ scope ty uy tag e ok g. absurd cc;
  of_contained = λ scope ty. refl;
}

level : (C : Choices) (fewer : Names) (defs : Definitions) → AreFewer fewer C → (n i : ℕ) → FoundFewer fewer (instance C defs n i) (instance (with_names C fewer) defs n i)
unfolding instance
level C fewer defs less n zero = nothing_fewer fewer
level C fewer defs less n (suc i) =
    level_next C fewer defs less (meaning defs n) (instance C defs n i) (instance (with_names C fewer) defs n i) (level C fewer defs less n i) (contained_at C defs n i)

pub fewer_names : (C : Choices) (fewer : Names) (defs : Definitions) (n k : ℕ) → AreFewer fewer C →
    (down : Bool) (scope : Scope) (ty uy : ASN1Type) → (instance C defs n k).of_type down scope ty ≡ Some uy → NamesStay fewer uy → (instance (with_names C fewer) defs n k).of_type down scope ty ≡ Some uy
fewer_names C fewer defs n k less down scope ty uy e ok = (level C fewer defs less n k).of_type down scope ty uy e ok
