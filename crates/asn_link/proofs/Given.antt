-- The definitions that linking gives, beside those that it was given.
use Rattle.std.proofs.Common.{◌≡◌, ℕ, zero, suc, ◌<◌, Bool, true, false, Option, Some, None, List, [], ◌∷◌, length, map, get_or, refl, sym, ap, ◌∙◌, subst, arith}
use Rattle.std.specs.Prelude.{if◌then◌else◌, is_none, is_some, ◌&&◌, codes}
use Rattle.std.specs.Str.{bytes_eq}
use Rattle.asn_tree_headers.specs.declared.headers.AsnTag.{AsnTag}
use Rattle.asn_tree.specs.declared.definitions.ToplevelDefinition.{ToplevelDefinition}
use Rattle.asn_tree.specs.declared.definitions.ToplevelDefinition.TheVariants.{TypeDef, Value, Information}
use Rattle.asn_tree.specs.declared.objects.InformationObjectClass.{InformationObjectClass}
use Rattle.asn_tree.specs.declared.objects.InformationObjectClassField.{InformationObjectClassField}
use Rattle.asn_tree.specs.declared.types.ASN1Type.{ASN1Type}
use Rattle.asn_meaning.specs.Answers.{once}
use Rattle.asn_meaning.specs.Definitions.{built_in, class_in, class_named, information_in, information_named, unless_template}
use Rattle.asn_meaning.specs.Kinds.{Kind, ReferenceKind, kind_of_type}
use Rattle.asn_meaning.specs.Layers.{ClassFieldLayer}
use Rattle.asn_meaning.specs.Names.{Fixed, Open, class_field_type, fixed_at, fixed_or_open}
use Rattle.asn_meaning.specs.Objects.{field_at_path}
use Rattle.asn_meaning.specs.Scopes.{Empty}
use Rattle.asn_names_index.specs.Definitions.{Definitions, is_named, last_named, name_of}
use Rattle.asn_names_index.proofs.Seen.{or_else}
use Rattle.asn_link.specs.Linked.{linked_each, linked_one}

abbrev Made : Type 0
Made = List (Option ASN1Type)

abbrev Tags : Type 0
Tags = List (Option AsnTag)

pub name_kept : (d : ToplevelDefinition) (t : Option AsnTag) (m : Option ASN1Type) → name_of (linked_one d t m) ≡ name_of d
name_kept (TypeDef d) t None = refl
name_kept (TypeDef d) t (Some ty) = refl
name_kept (Value d) t m = refl
name_kept (Information d) t m = refl

-- lists that are as long as the definitions
pub record AsLong (ds : Definitions) (tags : Tags) (made : Made) : Type 0 where
  pub of_tags : length tags ≡ length ds
  pub of_made : length made ≡ length ds

behind : (d : ToplevelDefinition) (t : Option AsnTag) (m : Option ASN1Type) (ds : Definitions) (tags : Tags) (made : Made) → AsLong (d ∷ ds) (t ∷ tags) (m ∷ made) → AsLong ds tags made
behind d t m ds tags made l =
    let f : suc (length tags) ≡ suc (length ds) = l.of_tags in
    let g : suc (length made) ≡ suc (length ds) = l.of_made in
    record { of_tags = omega (arith, f); of_made = omega (arith, g) }

pub names_kept : (ds : Definitions) (tags : Tags) (made : Made) → AsLong ds tags made → map name_of (linked_each ds tags made) ≡ map name_of ds
names_kept [] tags made l = refl
names_kept (d ∷ ds) [] made l = absurd (let e : 0 ≡ suc (length ds) = l.of_tags in cc)
names_kept (d ∷ ds) (t ∷ tags) [] l = absurd (let e : 0 ≡ suc (length ds) = l.of_made in cc)
names_kept (d ∷ ds) (t ∷ tags) (m ∷ made) l =
    ap (λ n. n ∷ map name_of (linked_each ds tags made)) (name_kept d t m) ∙ ap (λ ns. name_of d ∷ ns) (names_kept ds tags made (behind d t m ds tags made l))

pub linked_long : (ds : Definitions) (tags : Tags) (made : Made) → AsLong ds tags made → length (linked_each ds tags made) ≡ length ds
linked_long [] tags made l = refl
linked_long (d ∷ ds) [] made l = absurd (let e : 0 ≡ suc (length ds) = l.of_tags in cc)
linked_long (d ∷ ds) (t ∷ tags) [] l = absurd (let e : 0 ≡ suc (length ds) = l.of_made in cc)
linked_long (d ∷ ds) (t ∷ tags) (m ∷ made) l = ap suc (linked_long ds tags made (behind d t m ds tags made l))

-- what stands at a place
pub linked_at : (ds : Definitions) (tags : Tags) (made : Made) (x : ℕ) (d e : ToplevelDefinition) → AsLong ds tags made → x < length ds →
    get_or (linked_each ds tags made) x e ≡ linked_one (get_or ds x d) (get_or tags x None) (get_or made x None)
linked_at [] tags made x d e l h = absurd (omega (arith, h))
linked_at (y ∷ ds) [] made x d e l h = absurd (let e : 0 ≡ suc (length ds) = l.of_tags in cc)
linked_at (y ∷ ds) (t ∷ tags) [] x d e l h = absurd (let e : 0 ≡ suc (length ds) = l.of_made in cc)
linked_at (y ∷ ds) (t ∷ tags) (m ∷ made) zero d e l h = refl
linked_at (y ∷ ds) (t ∷ tags) (m ∷ made) (suc x) d e l h = linked_at ds tags made x d e (behind y t m ds tags made l) (omega (arith, h))

-- ---- what a name stands for

-- neither, or the second is what linking made of the first
abbrev pub BothStand : Option ToplevelDefinition → Option ToplevelDefinition → Type 0
BothStand None None = Unit {0}
BothStand (Some d) (Some e) = (t : Option AsnTag) × (m : Option ASN1Type) × (e ≡ linked_one d t m)
BothStand None (Some e) = ⊥
BothStand (Some d) None = ⊥

either : (a b c d : Option ToplevelDefinition) → BothStand a b → BothStand c d → BothStand (or_else a c) (or_else b d)
either None None c d p q = q
either (Some x) (Some y) c d p q = p
either (Some x) None c d p q = absurd p
either None (Some y) c d p q = absurd p

pub both_stand : (ds : Definitions) (tags : Tags) (made : Made) (name : List ℕ) → AsLong ds tags made → BothStand (last_named ds name) (last_named (linked_each ds tags made) name)
both_stand [] tags made name l = tt
both_stand (d ∷ ds) [] made name l = absurd (let e : 0 ≡ suc (length ds) = l.of_tags in cc)
both_stand (d ∷ ds) (t ∷ tags) [] name l = absurd (let e : 0 ≡ suc (length ds) = l.of_made in cc)
both_stand (d ∷ ds) (t ∷ tags) (m ∷ made) name l = either _ _ _ _ (both_stand ds tags made name (behind d t m ds tags made l)) here
  where
    here : BothStand (if is_named name d then Some d else None) (if is_named name (linked_one d t m) then Some (linked_one d t m) else None)
    here = subst (λ n. BothStand (if is_named name d then Some d else None) (if bytes_eq n name then Some (linked_one d t m) else None)) (sym (name_kept d t m)) (go (is_named name d))
      where
        go : (b : Bool) → BothStand (if b then Some d else None) (if b then Some (linked_one d t m) else None)
        go true = (t, m, refl)
        go false = tt

-- ---- classes stay

information_kept : (a b : Option ToplevelDefinition) → BothStand a b → once None b information_in ≡ once None a information_in
information_kept None None s = refl
information_kept (Some d) None s = absurd s
information_kept None (Some e) s = absurd s
information_kept (Some d) (Some e) s = ap information_in s.2 ∙ one d s.0 s.1
  where
    one : (d : ToplevelDefinition) (t : Option AsnTag) (m : Option ASN1Type) → information_in (linked_one d t m) ≡ information_in d
    one (TypeDef d) t m = refl
    one (Value d) t m = refl
    one (Information d) t m = refl

module _ (defs others : Definitions) (both : (name : List ℕ) → BothStand (last_named defs name) (last_named others name)) where
  same_information : (name : List ℕ) → information_named others name ≡ information_named defs name
  unfolding built_in
  same_information name = go (bytes_eq name (codes "TYPE-IDENTIFIER"))
    where
      go : (b : Bool) → once None (if b then Some built_in else last_named others name) information_in ≡ once None (if b then Some built_in else last_named defs name) information_in
      go true = refl
      go false = information_kept _ _ (both name)

  same_class : (name : List ℕ) → class_named others name ≡ class_named defs name
  same_class name = ap (λ o. once None o (λ d. once None (class_in d.value) (unless_template d.parameterization))) (same_information name)

  still_open : (o : Option ASN1Type) → fixed_or_open defs o ≡ Some Open → fixed_or_open others o ≡ Some Open
  still_open None e = refl
  still_open (Some ty) e = same (kind_of_type ty) ∙ e
    where
      same : (k : Kind) → fixed_at others ty k ≡ fixed_at defs ty k
      same (ReferenceKind x) =
          ap (λ o. if is_none x.parent && is_some (once None o (λ d. class_in d.value)) then None else Some (Fixed ty)) (same_information x.identifier)
      same k = refl

  pub opens : (x : ClassFieldLayer) → class_field_type defs Empty x ≡ Some Open → class_field_type others Empty x ≡ Some Open
  opens x e = ap (λ o. once None o (λ c. once None (field_at_path c x.field_path) (λ f. fixed_or_open others f.ty))) (same_class x.class) ∙ at (class_named defs x.class) e
    where
      at : (o : Option InformationObjectClass) → once None o (λ c. once None (field_at_path c x.field_path) (λ f. fixed_or_open defs f.ty)) ≡ Some Open →
          once None o (λ c. once None (field_at_path c x.field_path) (λ f. fixed_or_open others f.ty)) ≡ Some Open
      at None h = absurd cc
      at (Some c) h = within (field_at_path c x.field_path) h
        where
          within : (o : Option InformationObjectClassField) → once None o (λ f. fixed_or_open defs f.ty) ≡ Some Open → once None o (λ f. fixed_or_open others f.ty) ≡ Some Open
          within None h = absurd cc
          within (Some f) h = still_open f.ty h
