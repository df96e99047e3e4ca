-- The faults of definitions of basic form, as they stand in the relation of needs.
use Rattle.std.proofs.Common.{◌≡◌, inl, ℕ, zero, suc, ◌+◌, ◌<◌, List, [], ◌∷◌, Bool, true, false, Option, Some, None, refl, sym, ap, ◌∙◌, subst, arith}
use Rattle.std.specs.Prelude.{◌↔◌, ℤ, ◌&&◌, ◌||◌, is_none, is_some, not, codes, if◌then◌else◌}
use Rattle.std.specs.List.{All, Contains, list_any}
use Rattle.std.specs.Str.{bytes_eq}
use Rattle.std.proofs.lemmas.List.Elements.{All-contains, All-weaker}
use Rattle.asn_tree.specs.declared.definitions.ToplevelDefinition.{ToplevelDefinition}
use Rattle.asn_tree.specs.declared.definitions.ToplevelDefinition.TheVariants.{TypeDef, Value, Information}
use Rattle.asn_tree.specs.declared.definitions.ToplevelTypeDefinition.{ToplevelTypeDefinition}
use Rattle.asn_tree.specs.declared.objects.ASN1Information.{ASN1Information}
use Rattle.asn_tree.specs.declared.objects.ASN1Information.TheVariants.{ObjectClass, ObjectSet, Object}
use Rattle.asn_tree.specs.declared.types.ASN1Type.{out-ASN1Type}
use Rattle.asn_tree.specs.declared.values.ASN1Value.{ASN1Value}
use Rattle.asn_meaning.specs.Answers.{Denotation, Denoted, Nothing, Unsure, Within, once}
use Rattle.asn_meaning.specs.Definitions.{built_in, see, type_in}
use Rattle.asn_meaning.specs.Denotes.{denoted_under}
use Rattle.asn_meaning.specs.Judge.{meaning, nothing_known, step}
use Rattle.asn_meaning.specs.Kinds.{kind_at}
use Rattle.asn_meaning.specs.Laws.{HeadsStay}
use Rattle.asn_meaning.specs.Ranges.{integer_of, whole_number}
use Rattle.asn_meaning.specs.Scopes.{Scope, Empty, Place}
use Rattle.asn_meaning.specs.ValueTrees.{ValueTree}
use Rattle.asn_meaning.specs.Written.{Written, NumberWritten, as_written}
use Rattle.asn_needs.specs.Arguments.{argument_wrong, form_wrong}
use Rattle.asn_needs.specs.Basic.{AreBasic, IsBasicDefinition, is_basic, is_number}
use Rattle.asn_needs.specs.Dummies.{is_class_name}
use Rattle.asn_needs.specs.Faults.{Fault, MissingDependency, FaultOf, HasCycle, its_own, of_template, IsFault, IsSomewhere, Stands, a_cycle, a_wrong_argument, a_missing_name, a_form_not_linked, a_syntax_not_followed, a_value_without_tree, a_reversed_range, has_reversed_range, rank, template_at}
use Rattle.asn_needs.specs.Judged.{is_denoted, is_excused, is_nothing, syntax_mismatched, syntax_mismatched_at, untreed, untreed_at, value_untreed}
use Rattle.asn_needs.specs.Missing.{form_lacks, is_long_path, name_missing, type_lacks, unsupported, unsupported_form, value_lacks}
use Rattle.asn_needs.specs.Needs.{IsCyclic}
use Rattle.asn_needs.specs.Occurrences.{NeedsType, Occurrence, governed_by_class, lacks_definition, lacks_list, names_at, parameters_of, sort_of, information_sort, takes}
use Rattle.asn_needs.specs.PartsOfTypes.{instance_at}
use Rattle.asn_needs.specs.Sites.{Seen, seen, Site, Form, AsEnd, ValuePlace, AType, AValue, AConstraint, ASet, AnElement, ToDefinition}
use Rattle.asn_needs.specs.Stands.{IsPlaceOf}
use Rattle.asn_needs.proofs.Passing.{none_passes, passes, some_passes}
use Rattle.asn_names.specs.declared.faults.Fault.{Fault as Warned}
use Rattle.asn_names.specs.declared.faults.Fault.TheVariants as warned
use Rattle.asn_names.specs.Definitions.{Definitions, last_named}
use Rattle.asn_names.specs.Faults.{HasFault, fault_by, first_at_places, for_places, is_missing, stays_as_read}
use Rattle.asn_names.specs.Laws.{FaultsStand}
use Rattle.asn_names.specs.Needed.{stands_as, type_occurrence}
use Rattle.asn_meaning_unchanged.specs.References.{names_in}
use Rattle.asn_meaning_unchanged.specs.Unchanged.{is_unchanged}
use Rattle.asn_names.proofs.Faultless.{one_fault}
use Rattle.asn_names.proofs.Following.{basic_follows_none}
use Rattle.asn_names.proofs.Decided.{of_last}
use Rattle.asn_names.proofs.Places.{IsBasicForm, IsBasicSite, IsNamed, instance_none, name_occurs, place_basic, place_names, same_either, type_lacks_nothing}
use Rattle.asn_names.proofs.Settled.{end_there}

-- ---- tests

either_true : (a b : Bool) → (a || b) ≡ true → a ≡ false → b ≡ true
either_true false b h e = h
either_true true b h e = absurd cc

or_true : (a b : Bool) → b ≡ true → (a || b) ≡ true
or_true true b h = refl
or_true false b h = h

and_false : (a : Bool) → (a && false) ≡ false
and_false true = refl
and_false false = refl

not_both : (b : Bool) → b ≡ true → b ≡ false → ⊥
not_both true h e = absurd cc
not_both false h e = absurd cc

-- ---- names of types

-- a name lacks a definition where it stands for no type
lacks_is_missing : (defs : Definitions) (x : List ℕ) → lacks_definition defs (type_occurrence x) ≡ is_missing defs x
lacks_is_missing defs x = go (see defs x)
  where
    other : (v : ASN1Information) → not (takes NeedsType (information_sort v)) ≡ true
    other (ObjectClass c) = refl
    other (ObjectSet s) = refl
    other (Object o) = refl

    go : (o : Option ToplevelDefinition) → once true o (λ d. not (takes NeedsType (sort_of d))) ≡ is_none (once None o type_in)
    go None = refl
    go (Some (TypeDef d)) = refl
    go (Some (Value d)) = refl
    go (Some (Information d)) = other d.value

-- no definition of basic form is a template
no_template : (defs : Definitions) → AreBasic defs → (x : List ℕ) → lacks_list defs (type_occurrence x) ≡ false
unfolding built_in
no_template defs basic x = go (bytes_eq x (codes "TYPE-IDENTIFIER"))
  where
    untemplated : (d : ToplevelDefinition) → IsBasicDefinition d → (takes NeedsType (sort_of d) && (is_some (parameters_of d) && not false)) ≡ false
    untemplated (TypeDef d) b = ap (λ o. is_some o && not false) b.0
    untemplated (Value d) b = absurd b
    untemplated (Information d) b = absurd b

    last : (o : Option ToplevelDefinition) → last_named defs x ≡ o → once false o (λ d. takes NeedsType (sort_of d) && (is_some (parameters_of d) && not false)) ≡ false
    last None e = refl
    last (Some d) e = untemplated d (of_last IsBasicDefinition defs basic x d e)

    go : (b : Bool) → once false (if b then Some built_in else last_named defs x) (λ d. takes NeedsType (sort_of d) && (is_some (parameters_of d) && not false)) ≡ false
    go true = refl
    go false = last (last_named defs x) refl

-- ---- ends of ranges denote numbers

denotes_something : (t : Denotation ValueTree) (i : ℤ) → whole_number t ≡ Denoted i → is_denoted t ≡ true
denotes_something (Denoted t) i e = refl
denotes_something Nothing i e = absurd cc
denotes_something Unsure i e = absurd cc

module _ (stay : HeadsStay) (defs : Definitions) where
  -- an end that denotes nothing under the constrained type is a whole number
  excused : (n : ℕ) (scope : Scope) (v : ASN1Value) → is_number (as_written v) ≡ true → (p : Place) → (is_nothing ((meaning defs n).denotes scope v p) && not (once false ((meaning defs n).head p) (λ head. is_denoted ((meaning defs n).denotes scope v (integer_of head))))) ≡ false
  unfolding meaning step nothing_known
  excused zero scope v number p = refl
  excused (suc zero) scope v number p = refl
  excused (suc (suc n)) scope v number p = go ((meaning defs (suc n)).head p) refl
    where
      stays : (q : Place) → (meaning defs (suc n)).head p ≡ Some q → (meaning defs (suc (suc n))).head p ≡ Some q
      stays q e =
          let same : suc n + 1 ≡ suc (suc n) = omega arith in
          let later = stay defs (suc n) 1 p in
          subst (λ i. (meaning defs i).head p ≡ Some q) same (settled ((meaning defs (suc n)).head p) ((meaning defs (suc n + 1)).head p) e later)
        where
          settled : (a b : Option Place) → a ≡ Some q → Within a b → b ≡ Some q
          settled None b e w = absurd cc
          settled (Some x) b e w = w ∙ e

      go : (o : Option Place) → (meaning defs (suc n)).head p ≡ o → (is_nothing (once Unsure o (denoted_under defs (meaning defs (suc n)) scope v)) && not (once false ((meaning defs (suc (suc n))).head p) (λ head. is_denoted ((meaning defs (suc (suc n))).denotes scope v (integer_of head))))) ≡ false
      go None e = refl
      go (Some q) e =
          let end = end_there defs n scope q None v number in
          let denoted = denotes_something ((meaning defs (suc (suc n))).denotes scope v (integer_of q)) end.0 end.1 in
          let nothing = is_nothing (denoted_under defs (meaning defs (suc n)) scope v q) in
          ap (λ o. nothing && not (once false o (λ head. is_denoted ((meaning defs (suc (suc n))).denotes scope v (integer_of head))))) (stays q e)
          ∙ ap (λ b. nothing && not b) denoted
          ∙ and_false nothing

-- ---- the faults of one definition

module _ (stay : HeadsStay) (defs : Definitions) (basic : AreBasic defs) (n : ℕ) (name : List ℕ) (d : ToplevelTypeDefinition) (is : last_named defs name ≡ Some (TypeDef d)) (b : IsBasicDefinition (TypeDef d)) where
  abbrev S : Seen
  S = seen defs n

  -- a place in it
  abbrev Basic : Site → Type 0
  Basic s = IsBasicSite S (names_in d.ty) s

  basic_at_place : {s : Site} → IsPlaceOf S (ToDefinition name) s → Basic s
  basic_at_place stands = place_basic defs n name d is b.0 b.1 stands

  named_at_place : {s : Site} → IsPlaceOf S (ToDefinition name) s → All (IsNamed S (names_in d.ty)) (names_at S s s.form)
  named_at_place stands = place_names defs n name d is b.0 b.1 stands

  -- ---- what can't stand

  template_none : (s : Site) (form : Form) → IsBasicForm S (names_in d.ty) form → template_at S s form ≡ []
  template_none s (AType at ty behind) f = go f.basic.0 f.basic.1
    where
      go : (m : ℕ) → is_basic m ty ≡ true → (if s.is_opaque then [] else once [] (instance_at defs s.scope (kind_at (out-ASN1Type ty))) (λ i. i.template.name ∷ [])) ≡ []
      go zero h = absurd cc
      go (suc m) h =
          ap (λ o. if s.is_opaque then [] else once [] o (λ i. i.template.name ∷ [])) (instance_none S (names_in d.ty) s.scope (is_basic m) (out-ASN1Type ty) h)
          ∙ same_either s.is_opaque []
  template_none s (AValue at v p) f = refl
  template_none s (AConstraint c p) f = refl
  template_none s (ASet asked set p) f = refl
  template_none s (AnElement asked e p) f = refl
  template_none s _ f = absurd f

  not_in_none : {A : Type 0} (xs : List A) (x : A) → xs ≡ [] → Contains xs x → ⊥
  not_in_none xs x e c = let none = subst (λ ys. Contains ys x) e c in absurd (omega (arith, none.1))

  no_cycle : (IsCyclic S (ToDefinition name) → ⊥) → HasCycle S (ToDefinition name) → ⊥
  no_cycle free (its_own c) = free c
  no_cycle free (of_template {s} {t} stands c cyclic) = not_in_none (template_at S s s.form) t (template_none s s.form (basic_at_place stands).form) c

  form_right : (s : Site) (form : Form) → IsBasicForm S (names_in d.ty) form → form_wrong S s form ≡ false
  form_right s (AType at ty behind) f = refl
  form_right s (AValue at v p) f = refl
  form_right s (AConstraint c p) f = refl
  form_right s (ASet asked set p) f = refl
  form_right s (AnElement asked e p) f = refl
  form_right s _ f = absurd f

  unlisted : (os : List Occurrence) → All (IsNamed S (names_in d.ty)) os → All (λ o. lacks_list defs o ≡ false) os
  unlisted os all = All-weaker (IsNamed S (names_in d.ty)) (λ o. lacks_list defs o ≡ false) (λ o h. ap (lacks_list defs) h.1 ∙ no_template defs basic h.0) os all

  no_argument : IsSomewhere S (ToDefinition name) argument_wrong → ⊥
  no_argument h =
      not_both (argument_wrong S h.at) h.holds
      (ap (λ w. w || list_any (lacks_list defs) (names_at S h.at h.at.form)) (form_right h.at h.at.form (basic_at_place h.stands).form)
      ∙ none_passes (lacks_list defs) (names_at S h.at h.at.form) (unlisted (names_at S h.at h.at.form) (named_at_place h.stands)))

  short_path : (w : Written) → is_number w ≡ true → is_long_path w ≡ false
  short_path (NumberWritten i) h = refl
  short_path _ h = absurd cc

  supported : (s : Site) (form : Form) → IsBasicForm S (names_in d.ty) form → unsupported_form S s form ≡ false
  supported s (AType at ty behind) f = refl
  supported s (AValue at v p) f = ap (λ c. not (governed_by_class S p) && c) (short_path (as_written v) f.1) ∙ and_false (not (governed_by_class S p))
  supported s (AConstraint c p) f = refl
  supported s (ASet asked set p) f = refl
  supported s (AnElement asked e p) f = refl
  supported s _ f = absurd f

  no_form : IsSomewhere S (ToDefinition name) unsupported → ⊥
  no_form h = not_both (unsupported S h.at) h.holds (supported h.at h.at.form (basic_at_place h.stands).form)

  followed : (form : Form) → IsBasicForm S (names_in d.ty) form → syntax_mismatched_at S form ≡ false
  followed (AType at ty behind) f = refl
  followed (AValue at v p) f = refl
  followed (AConstraint c p) f = refl
  followed (ASet asked set p) f = refl
  followed (AnElement asked e p) f = refl
  followed _ f = absurd f

  no_syntax : IsSomewhere S (ToDefinition name) syntax_mismatched → ⊥
  no_syntax h = not_both (syntax_mismatched S h.at) h.holds (followed h.at.form (basic_at_place h.stands).form)

  -- an end of a range
  end_treed : (s : Site) (at : ValuePlace) → at ≡ AsEnd → (v : ASN1Value) → is_number (as_written v) ≡ true → (p : Option Place) → value_untreed S s at v p ≡ false
  end_treed s at end v number None = refl
  end_treed s at end v number (Some p) =
      ap (λ a. not (is_class_name defs p) && (is_nothing ((meaning defs n).denotes s.scope v p) && not (is_excused S s a v p))) end
      ∙ ap (λ c. not (is_class_name defs p) && c) (excused stay defs n s.scope v number p)
      ∙ and_false (not (is_class_name defs p))

  treed : (s : Site) (form : Form) → IsBasicForm S (names_in d.ty) form → untreed_at S s form ≡ false
  treed s (AType at ty behind) f = refl
  treed s (AValue at v p) f = end_treed s at f.0 v f.1 p
  treed s (AConstraint c p) f = refl
  treed s (ASet asked set p) f = refl
  treed s (AnElement asked e p) f = refl
  treed s _ f = absurd f

  no_value : IsSomewhere S (ToDefinition name) untreed → ⊥
  no_value h =
      not_both (untreed S h.at) h.holds
      (ap (λ c. not h.at.is_opaque && c) (treed h.at h.at.form (basic_at_place h.stands).form) ∙ and_false (not h.at.is_opaque))

  -- ---- names without a definition

  number_lacks : (w : Written) → is_number w ≡ true → value_lacks S Empty w ≡ false
  number_lacks (NumberWritten i) h = refl
  number_lacks _ h = absurd cc

  lacks_nothing : (s : Site) → s.scope ≡ Empty → (form : Form) → IsBasicForm S (names_in d.ty) form → form_lacks S s form ≡ false
  lacks_nothing s scope (AType at ty behind) f = go f.basic.0 f.basic.1
    where
      go : (m : ℕ) → is_basic m ty ≡ true → type_lacks S s.scope (kind_at (out-ASN1Type ty)) ≡ false
      go zero h = absurd cc
      go (suc m) h = ap (λ e. type_lacks S e (kind_at (out-ASN1Type ty))) scope ∙ type_lacks_nothing S (names_in d.ty) (is_basic m) (out-ASN1Type ty) h
  lacks_nothing s scope (AValue at v p) f =
      ap (λ e. not (governed_by_class S p) && value_lacks S e (as_written v)) scope
      ∙ ap (λ c. not (governed_by_class S p) && c) (number_lacks (as_written v) f.1)
      ∙ and_false (not (governed_by_class S p))
  lacks_nothing s scope (AConstraint c p) f = refl
  lacks_nothing s scope (ASet asked set p) f = refl
  lacks_nothing s scope (AnElement asked e p) f = refl
  lacks_nothing s scope _ f = absurd f

  -- a name that stands for no type is found
  missing_found : IsSomewhere S (ToDefinition name) name_missing → list_any (is_missing defs) (names_in d.ty) ≡ true
  missing_found h =
      let site = basic_at_place h.stands in
      let os = names_at S h.at h.at.form in
      let some = some_passes (lacks_definition defs) os (either_true (form_lacks S h.at h.at.form) (list_any (lacks_definition defs) os) h.holds (lacks_nothing h.at site.scope h.at.form site.form)) in
      let named = All-contains (IsNamed S (names_in d.ty)) os some.0 (named_at_place h.stands) some.1 in
      passes (is_missing defs) (names_in d.ty) named.0 named.2 (sym (lacks_is_missing defs named.0) ∙ ap (lacks_definition defs) (sym named.1) ∙ some.2)

  found_missing : list_any (is_missing defs) (names_in d.ty) ≡ true → IsSomewhere S (ToDefinition name) name_missing
  found_missing h =
      let some = some_passes (is_missing defs) (names_in d.ty) h in
      let o = name_occurs defs n name d is b.0 b.1 some.0 some.1 in
      let os = names_at S o.at o.at.form in
      record {
        at = o.at;
        stands = o.stands;
        holds = or_true (form_lacks S o.at o.at.form) (list_any (lacks_definition defs) os) (passes (lacks_definition defs) os (type_occurrence some.0) o.occurs (lacks_is_missing defs some.0 ∙ some.2));
      }

  -- ---- the fault

  -- nothing else stands than a missing name
  stands_missing : (IsCyclic S (ToDefinition name) → ⊥) → has_reversed_range S (ToDefinition name) ≡ false → {k : Fault} → Stands S (ToDefinition name) k → (k ≡ MissingDependency) × (list_any (is_missing defs) (names_in d.ty) ≡ true)
  stands_missing free ordered (a_cycle c) = absurd (no_cycle free c)
  stands_missing free ordered (a_wrong_argument h) = absurd (no_argument h)
  stands_missing free ordered (a_missing_name h) = (refl, missing_found h)
  stands_missing free ordered (a_form_not_linked h) = absurd (no_form h)
  stands_missing free ordered (a_syntax_not_followed t h) = absurd (no_syntax h)
  stands_missing free ordered (a_value_without_tree t h) = absurd (no_value h)
  stands_missing free ordered (a_reversed_range h) = absurd (not_both (has_reversed_range S (ToDefinition name)) h ordered)

  nothing_before : (IsCyclic S (ToDefinition name) → ⊥) → {j : Fault} → rank j < 3 → Stands S (ToDefinition name) j → ⊥
  nothing_before free lt (a_cycle c) = no_cycle free c
  nothing_before free lt (a_wrong_argument h) = no_argument h
  nothing_before free lt (a_missing_name h) = absurd (omega (arith, lt))
  nothing_before free lt (a_form_not_linked h) = absurd (omega (arith, lt))
  nothing_before free lt (a_syntax_not_followed t h) = absurd (omega (arith, lt))
  nothing_before free lt (a_value_without_tree t h) = absurd (omega (arith, lt))
  nothing_before free lt (a_reversed_range h) = absurd (omega (arith, lt))

  is_fault : (IsCyclic S (ToDefinition name) → ⊥) → list_any (is_missing defs) (names_in d.ty) ≡ true → IsFault S (ToDefinition name) MissingDependency
  is_fault free h =
      record {
        stands = a_missing_name (found_missing h);
        is_first = λ j lt stands. nothing_before free lt stands;
        judged = λ late y needs j lt stands. absurd (omega (arith, late));
      }

  argument_told : IsSomewhere S (ToDefinition name) argument_wrong ↔ (false ≡ true)
  argument_told = (λ h. absurd (no_argument h), λ e. absurd cc)

  missing_told : IsSomewhere S (ToDefinition name) name_missing ↔ (list_any (is_missing defs) (names_in d.ty) ≡ true)
  missing_told = (missing_found, found_missing)

  form_told : IsSomewhere S (ToDefinition name) unsupported ↔ (false ≡ true)
  form_told = (λ h. absurd (no_form h), λ e. absurd cc)

-- ---- whatever the number of steps

-- the fault of a definition that linking leaves as it is
fault_found : HeadsStay → (defs : Definitions) → AreBasic defs → (name : List ℕ) (d : ToplevelTypeDefinition) (linked : Bool) → last_named defs name ≡ Some (TypeDef d) → IsBasicDefinition (TypeDef d) → is_unchanged (TypeDef d) ≡ true →
    HasFault defs name (TypeDef d) linked (if list_any (is_missing defs) (names_in d.ty) then Some warned.MissingDependency else None)
fault_found stay defs basic name d linked is b unchanged =
    record {
      judgement = first_at_places false (list_any (is_missing defs) (names_in d.ty)) false;
      told =
          for_places false (list_any (is_missing defs) (names_in d.ty)) false (inl (unchanged, basic_follows_none defs name d is b))
          (0, λ m. argument_told stay defs basic (0 + m) name d is b) (0, λ m. missing_told stay defs basic (0 + m) name d is b) (0, λ m. form_told stay defs basic (0 + m) name d is b) refl;
      so = by_settled (list_any (is_missing defs) (names_in d.ty)) ∙ sym (ap (λ b. fault_by (first_at_places false (list_any (is_missing defs) (names_in d.ty)) false) (b || (stays_as_read (TypeDef d) || linked))) unchanged);
    }
  where
    by_settled : (missing : Bool) → (if missing then Some warned.MissingDependency else None) ≡ fault_by (first_at_places false missing false) true
    by_settled true = refl
    by_settled false = refl

pub faults_stand : HeadsStay → FaultsStand
faults_stand stay defs basic name (Value d) linked is unchanged acyclic ordered k = absurd (of_last IsBasicDefinition defs basic name (Value d) is)
faults_stand stay defs basic name (Information d) linked is unchanged acyclic ordered k = absurd (of_last IsBasicDefinition defs basic name (Information d) is)
faults_stand stay defs basic name (TypeDef d) linked is unchanged acyclic ordered k = (to, from)
  where
    b : IsBasicDefinition (TypeDef d)
    b = of_last IsBasicDefinition defs basic name (TypeDef d) is

    found : HasFault defs name (TypeDef d) linked (if list_any (is_missing defs) (names_in d.ty) then Some warned.MissingDependency else None)
    found = fault_found stay defs basic name d linked is b unchanged

    to : FaultOf defs (ToDefinition name) k → (f : Warned) × HasFault defs name (TypeDef d) linked (Some f) × (k ≡ stands_as f)
    to (n, fault) =
        let n' = n + acyclic.0 + ordered.0 in
        let of_cycle : acyclic.0 + (n + ordered.0) ≡ n + acyclic.0 + ordered.0 = omega arith in
        let of_order : ordered.0 + (n + acyclic.0) ≡ n + acyclic.0 + ordered.0 = omega arith in
        let of_fault : n + (acyclic.0 + ordered.0) ≡ n + acyclic.0 + ordered.0 = omega arith in
        let missing =
        stands_missing stay defs basic n' name d is b
        (subst (λ i. IsCyclic (seen defs i) (ToDefinition name) → ⊥) of_cycle (acyclic.1 (n + ordered.0)))
        (subst (λ i. has_reversed_range (seen defs i) (ToDefinition name) ≡ false) of_order (ordered.1 (n + acyclic.0)))
        (subst (λ i. IsFault (seen defs i) (ToDefinition name) k) of_fault (fault (acyclic.0 + ordered.0))).stands in
        (warned.MissingDependency, subst (λ c. HasFault defs name (TypeDef d) linked (if c then Some warned.MissingDependency else None)) missing.1 found, missing.0)

    missing : (c : Bool) (f : Warned) → Some f ≡ (if c then Some warned.MissingDependency else None) → (c ≡ true) × (f ≡ warned.MissingDependency)
    missing true warned.Argument e = absurd cc
    missing true warned.MissingDependency e = (refl, refl)
    missing true warned.NotYetInplemented e = absurd cc
    missing false f e = absurd cc

    from : (f : Warned) × HasFault defs name (TypeDef d) linked (Some f) × (k ≡ stands_as f) → FaultOf defs (ToDefinition name) k
    from (f, fault, same) =
        let m = missing (list_any (is_missing defs) (names_in d.ty)) f (one_fault defs name (TypeDef d) linked (Some f) (if list_any (is_missing defs) (names_in d.ty) then Some warned.MissingDependency else None) fault found) in
        subst (FaultOf defs (ToDefinition name)) (sym (same ∙ ap stands_as m.1))
        (acyclic.0, λ i. is_fault stay defs basic (acyclic.0 + i) name d is b (acyclic.1 i) m.0)
