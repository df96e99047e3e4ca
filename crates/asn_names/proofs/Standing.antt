-- The given definitions of a reading that stand, and that the given ones differ from the reading's in tags.
use Rattle.std.proofs.Common.{◌≡◌, ℕ, List, [], ◌∷◌, map, Bool, true, false, Option, Some, None, refl, sym, ap, ◌∙◌, subst}
use Rattle.std.specs.Prelude.{codes, if◌then◌else◌}
use Rattle.std.specs.Cmp.Lexicographic.{slice_cmp}
use Rattle.std.specs.List.{All, AllByRecursion}
use Rattle.std.specs.List.Sorted.{IsStrictlySortedBy}
use Rattle.std.specs.Ordering.{nat_cmp}
use Rattle.std.specs.declared.cmp.Ordering.TheVariants.{Less}
use Rattle.std.specs.Str.{bytes_eq}
use Rattle.std.proofs.lemmas.List.Elements.{All-head, All-tail, All-cons, All-nil, All-weaker}
use Rattle.std.proofs.lemmas.Map.Text.{is_eq-slice_cmp}
use Rattle.std.proofs.lemmas.Slice.Eq.{bytes_eq-Decides}
use Rattle.asn_tree.specs.declared.definitions.ToplevelDefinition.{ToplevelDefinition}
use Rattle.asn_tree.specs.declared.definitions.ToplevelDefinition.TheVariants.{Information}
use Rattle.asn_tree_leaves.specs.declared.objects.ObjectFieldIdentifier.TheVariants.{SingleValue, MultipleValue}
use Rattle.asn_tree.specs.Passes.{type_parts}
use Rattle.asn_tree.specs.declared.objects.ASN1Information.TheVariants.{ObjectClass}
use Rattle.asn_tree.specs.declared.types.ASN1Type.{ASN1Type}
use Rattle.asn_tree.specs.declared.types.ASN1Type.TheVariants.{outs-ObjectIdentifier}
use Rattle.asn_meaning.specs.Definitions.{built_in, plain_identifier, type_identifier}
use Rattle.asn_meaning.specs.Laws.{EnvironmentsChangeTags}
use Rattle.asn_meaning.specs.Tags.{BothAlike, IsRetagged, TagChange, tagged, tagging}
use Rattle.asn_meaning.proofs.TagLayers.{type_by_level}
use Rattle.asn_names_index.specs.Definitions.{is_named, name_of, IsStanding}
use Rattle.asn_names.specs.Definitions.{Definitions, Module, definitions_of, last_named}
use Rattle.asn_names.specs.Given.{IsGiven, given_definitions}
use Rattle.asn_names.specs.Laws.{GivenDifferInTags}
use Rattle.asn_names.specs.Standing.{AreGiven, IsDefined}
use Rattle.asn_names.proofs.Given.{last_given}
use Rattle.asn_names_index.proofs.Seen.{or_else}

-- ---- in order, each name stands once

abbrev Below : List ℕ → List ℕ → Type 0
Below x y = slice_cmp nat_cmp x y ≡ Less

-- a name below all names of a list is none of them
none_below : (x : List ℕ) (ds : Definitions) → AllByRecursion (Below x) (map name_of ds) → last_named ds x ≡ None
none_below x [] all = refl
none_below x (d ∷ ds) all = ap (λ o. or_else o (if is_named x d then Some d else None)) (none_below x ds all.1) ∙ go (is_named x d) refl
  where
    go : (b : Bool) → is_named x d ≡ b → (if b then Some d else None) ≡ None
    go false e = refl
    go true e =
        let same : name_of d ≡ x = (bytes_eq-Decides (name_of d) x).0 e in
        let less : slice_cmp nat_cmp x x ≡ Less = subst (λ y. Below x y) same all.0 in
        let bad : false ≡ true = rw less at (is_eq-slice_cmp x x) ∙ (bytes_eq-Decides x x).1 refl in
        absurd cc

each_last : (ds : Definitions) → IsStrictlySortedBy (slice_cmp nat_cmp) (map name_of ds) → All (λ d. last_named ds (name_of d) ≡ Some d) ds
unfolding IsStrictlySortedBy
each_last [] sorted = All-nil _
each_last (d ∷ ds) sorted =
    let is_last : ToplevelDefinition → Type 0 = λ x. last_named (d ∷ ds) (name_of x) ≡ Some x in
    All-cons is_last d ds itself (All-weaker (λ x. last_named ds (name_of x) ≡ Some x) is_last later ds (each_last ds sorted.1))
  where
    itself : last_named (d ∷ ds) (name_of d) ≡ Some d
    itself =
        ap (λ o. or_else o (if is_named (name_of d) d then Some d else None)) (none_below (name_of d) ds sorted.0)
        ∙ ap (λ b. if b then Some d else None) ((bytes_eq-Decides (name_of d) (name_of d)).1 refl)

    later : (x : ToplevelDefinition) → last_named ds (name_of x) ≡ Some x → last_named (d ∷ ds) (name_of x) ≡ Some x
    later x is = ap (λ o. or_else o (if is_named (name_of x) d then Some d else None)) is

-- ---- both ways

-- the definition is the last of its name in the reading, as linking gives it
abbrev IsRead : List Module → ToplevelDefinition → Type 0
IsRead reading d = last_named (given_definitions reading) (name_of d) ≡ Some d

-- so is the last of a name in a list of such
last_read : (reading : List Module) (name : List ℕ) (ds : Definitions) (d : ToplevelDefinition) → All (IsRead reading) ds → last_named ds name ≡ Some d → last_named (given_definitions reading) name ≡ Some d
last_read reading name [] d all is = absurd cc
last_read reading name (x ∷ ds) d all is = go (last_named ds name) refl (last_read reading name ds d (All-tail (IsRead reading) x ds all)) is
  where
    here : (b : Bool) → is_named name x ≡ b → (if b then Some x else None) ≡ Some d → last_named (given_definitions reading) name ≡ Some d
    here false e h = absurd cc
    here true e h =
        let named : name_of x ≡ name = (bytes_eq-Decides (name_of x) name).0 e in
        let same : x ≡ d = cc in
        ap (last_named (given_definitions reading)) (sym named) ∙ All-head (IsRead reading) x ds all ∙ ap Some same

    go : (o : Option ToplevelDefinition) → last_named ds name ≡ o → (last_named ds name ≡ Some d → last_named (given_definitions reading) name ≡ Some d) → or_else o (if is_named name x then Some x else None) ≡ Some d →
        last_named (given_definitions reading) name ≡ Some d
    go None e later h = here (is_named name x) refl h
    go (Some y) e later h = later (e ∙ h)

module _ (reading : List Module) (those : Definitions) where
  pub standing_given : IsStanding (given_definitions reading) those → AreGiven reading those
  standing_given standing =
      record {
        ascending = standing.ascending;
        as_read = All-weaker (λ d. last_named those (name_of d) ≡ Some d) (IsRead reading) (λ d is. sym (standing.each (name_of d)) ∙ is) those (each_last those standing.ascending);
        kept = stands;
      }
    where
      found : (name : List ℕ) (d : ToplevelDefinition) (o : Option ToplevelDefinition) → IsGiven (Some d) o → last_named those name ≡ o → IsDefined those name
      found name d None g is = absurd g
      found name d (Some e) g is = (e, is)

      stands : (name : List ℕ) (d : ToplevelDefinition) → last_named (definitions_of reading) name ≡ Some d → IsDefined those name
      stands name d is = found name d _ (subst (λ o. IsGiven o (last_named (given_definitions reading) name)) is (last_given reading name)) (standing.each name)

  pub given_standing : AreGiven reading those → IsStanding (given_definitions reading) those
  given_standing are = record { ascending = are.ascending; each = each }
    where
      unread : (name : List ℕ) (o p : Option ToplevelDefinition) → last_named (definitions_of reading) name ≡ o → IsGiven o p → last_named those name ≡ None → None ≡ p
      unread name None None is g none = refl
      unread name None (Some e) is g none = absurd g
      unread name (Some d) None is g none = absurd g
      unread name (Some d) (Some e) is g none = let s = are.kept name d is in absurd (two (last_named those name) s.0 none s.1)
        where
          two : (o : Option ToplevelDefinition) (x : ToplevelDefinition) → o ≡ None → o ≡ Some x → ⊥
          two o x g h = cc

      each : (name : List ℕ) → last_named those name ≡ last_named (given_definitions reading) name
      each name = go (last_named those name) refl
        where
          go : (o : Option ToplevelDefinition) → last_named those name ≡ o → last_named those name ≡ last_named (given_definitions reading) name
          go (Some d) is = is ∙ sym (last_read reading name those d are.as_read is)
          go None is = is ∙ unread name _ _ refl (last_given reading name) is

-- ---- tags

-- the built-in class, where its first field has this type
abbrev class_with : ASN1Type → ToplevelDefinition
class_with ty =
    Information (record {
      comments = [];
      name = codes "TYPE-IDENTIFIER";
      parameterization = None;
      class = None;
      value =
          ObjectClass (record type_identifier {
            fields =
                record { identifier = SingleValue (codes "&id"); ty = Some ty; is_optional = false; default = None; is_unique = true }
                ∷ record { identifier = MultipleValue (codes "&Type"); ty = None; is_optional = false; default = None; is_unique = false }
                ∷ [];
          });
      index = None;
    })

plain_stays : (f : TagChange) → tagged f plain_identifier ≡ plain_identifier
plain_stays f =
    let e = outs-ObjectIdentifier (record { constraints = [] }) in
    type_by_level f plain_identifier plain_identifier (e ∙ sym (ap (type_parts (tagging f)) e))

-- it has no tags
built_in_stays : BothAlike IsRetagged (Some built_in) (Some built_in)
unfolding built_in
built_in_stays = (built_in, (λ t. t, None, None, ap class_with (sym (plain_stays (λ t. t)))), refl)

module _ (law : EnvironmentsChangeTags) where
  given_alike : (o p : Option ToplevelDefinition) → IsGiven o p → BothAlike IsRetagged o p
  given_alike None None g = refl
  given_alike None (Some e) g = absurd g
  given_alike (Some d) None g = absurd g
  given_alike (Some d) (Some e) g = (e, subst (IsRetagged d) (sym g.3) (law g.0 g.1 g.2 d), refl)

  pub given_differ : GivenDifferInTags
  given_differ reading name = go (bytes_eq name (codes "TYPE-IDENTIFIER"))
    where
      go : (b : Bool) → BothAlike IsRetagged (if b then Some built_in else last_named (definitions_of reading) name) (if b then Some built_in else last_named (given_definitions reading) name)
      go true = built_in_stays
      go false = given_alike _ _ (last_given reading name)
