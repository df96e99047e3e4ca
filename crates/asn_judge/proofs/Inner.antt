-- The components of a WITH COMPONENTS.
use Rattle.std.proofs.Common.{◌≡◌, ℕ, ◌+◌, ◌<◌, ◌≤◌, List, drop, length, get_or, Bool, true, false, Option, Some, None, refl, ap, ◌∙◌}
use Rattle.std.specs.Prelude.{not, ◌||◌, if◌then◌else◌}
use Rattle.std.specs.Str.{bytes_eq}
use Rattle.asn_tree.specs.declared.types.ChoiceOption.{ChoiceOption}
use Rattle.asn_judge.proofs.Listing.{ended, item_next, items_done}
use Rattle.asn_meaning_shapes.specs.Parts.{alternative_in, fields_in}
use Rattle.asn_meaning_shapes.specs.Trees.{Named}
use Rattle.asn_meaning.specs.Answers.{Answer, Yes, No, Unknown, answer_of, both, each, once}
use Rattle.asn_meaning.specs.Constraints.{choice_holds, is_absent_word, is_choice_allowed, is_listed, listed_member_holds, listed_option_holds, member_holds, members_hold, must_be_present, option_holds, part_holds, struct_holds}
use Rattle.asn_meaning.specs.Layers.{InnerLayer, ListedLayer, OptionLayer}
use Rattle.asn_meaning.specs.Meaning.{Meaning, Member}
use Rattle.asn_meaning.specs.Members.{member_named, member_place}
use Rattle.asn_meaning.specs.Names.{option_named}
use Rattle.asn_meaning.specs.Scopes.{Scope}
use Rattle.asn_meaning.specs.Shapes.{option_place}
use Rattle.asn_meaning.specs.ValueTrees.{ValueTree, NullValue, TruthValue, WholeNumber, ItemNumber, RealNumber, Bits, Octets, Characters, ObjectIdentifierArcs, Struct, Elements, Alternative, Opaque, Fields, field_named}

-- ---- members

struct_parts : (M : Meaning) (scope : Scope) (ms : Option (List Member)) (inner : InnerLayer) (t : ValueTree) →
    struct_holds M scope ms inner t ≡ once No (fields_in t) (λ fs. once Unknown ms (members_hold M scope inner fs))
struct_parts M scope ms inner NullValue = refl
struct_parts M scope ms inner (TruthValue b) = refl
struct_parts M scope ms inner (WholeNumber i) = refl
struct_parts M scope ms inner (ItemNumber i) = refl
struct_parts M scope ms inner (RealNumber m b e) = refl
struct_parts M scope ms inner (Bits bs) = refl
struct_parts M scope ms inner (Octets os) = refl
struct_parts M scope ms inner (Characters cs) = refl
struct_parts M scope ms inner (ObjectIdentifierArcs arcs) = refl
struct_parts M scope ms inner (Struct fs) = refl
struct_parts M scope ms inner (Elements ts) = refl
struct_parts M scope ms inner (Alternative name t) = refl
struct_parts M scope ms inner Opaque = refl

pub no_struct : (M : Meaning) (scope : Scope) (ms : Option (List Member)) (inner : InnerLayer) (t : ValueTree) → fields_in t ≡ None → struct_holds M scope ms inner t ≡ No
no_struct M scope ms inner t e = struct_parts M scope ms inner t ∙ ap (λ found. once No found (λ fs. once Unknown ms (members_hold M scope inner fs))) e

pub struct_unknown : (M : Meaning) (scope : Scope) (ms : Option (List Member)) (inner : InnerLayer) (t : ValueTree) (fs : Fields) → fields_in t ≡ Some fs → ms ≡ None →
    struct_holds M scope ms inner t ≡ Unknown
struct_unknown M scope ms inner t fs e f =
    struct_parts M scope ms inner t
    ∙ ap (λ found. once No found (λ fs. once Unknown ms (members_hold M scope inner fs))) e
    ∙ ap (λ found. once Unknown found (members_hold M scope inner fs)) f

pub struct_known : (M : Meaning) (scope : Scope) (ms : Option (List Member)) (inner : InnerLayer) (t : ValueTree) (fs : Fields) (found : List Member) → fields_in t ≡ Some fs → ms ≡ Some found →
    struct_holds M scope ms inner t ≡ members_hold M scope inner fs found
struct_known M scope ms inner t fs found e f =
    struct_parts M scope ms inner t
    ∙ ap (λ found. once No found (λ fs. once Unknown ms (members_hold M scope inner fs))) e
    ∙ ap (λ found. once Unknown found (members_hold M scope inner fs)) f

pub listed_member_next : (M : Meaning) (scope : Scope) (is_partial : Bool) (ms : List Member) (fs : Fields) (cs : List ListedLayer) (i : ℕ) (c : ListedLayer) (a b : Answer) →
    i < length cs → c ≡ get_or cs i c → b ≡ listed_member_holds M scope is_partial ms fs c →
    both (both a b) (each (listed_member_holds M scope is_partial ms fs) (drop (i + 1) cs)) ≡ both a (each (listed_member_holds M scope is_partial ms fs) (drop i cs))
listed_member_next M scope is_partial ms fs cs i c a b lt e is = item_next (listed_member_holds M scope is_partial ms fs) cs i c a b lt e is

pub listed_members_done : (M : Meaning) (scope : Scope) (is_partial : Bool) (ms : List Member) (fs : Fields) (cs : List ListedLayer) (i : ℕ) (a : Answer) → length cs ≤ i →
    both a (each (listed_member_holds M scope is_partial ms fs) (drop i cs)) ≡ a
listed_members_done M scope is_partial ms fs cs i a le = items_done (listed_member_holds M scope is_partial ms fs) cs i a le

pub no_member : (M : Meaning) (scope : Scope) (is_partial : Bool) (ms : List Member) (fs : Fields) (c : ListedLayer) → member_named ms c.identifier ≡ None →
    listed_member_holds M scope is_partial ms fs c ≡ Unknown
no_member M scope is_partial ms fs c e = ap (λ found. once Unknown found (member_holds M scope is_partial c (field_named fs c.identifier))) e

pub some_member : (M : Meaning) (scope : Scope) (is_partial : Bool) (ms : List Member) (fs : Fields) (c : ListedLayer) (m : Member) → member_named ms c.identifier ≡ Some m →
    listed_member_holds M scope is_partial ms fs c ≡ member_holds M scope is_partial c (field_named fs c.identifier) m
some_member M scope is_partial ms fs c m e = ap (λ found. once Unknown found (member_holds M scope is_partial c (field_named fs c.identifier))) e

pub member_missing : (M : Meaning) (scope : Scope) (is_partial : Bool) (c : ListedLayer) (found : Option ValueTree) (m : Member) → found ≡ None →
    member_holds M scope is_partial c found m ≡ answer_of (not (must_be_present is_partial c.presence m))
member_missing M scope is_partial c found m e = ap (λ x. member_holds M scope is_partial c x m) e

pub member_there : (M : Meaning) (scope : Scope) (is_partial : Bool) (c : ListedLayer) (found : Option ValueTree) (m : Member) (t : ValueTree) → found ≡ Some t →
    member_holds M scope is_partial c found m ≡ both (answer_of (not (is_absent_word c.presence))) (part_holds M scope (member_place m) c.constraints t)
member_there M scope is_partial c found m t e = ap (λ x. member_holds M scope is_partial c x m) e

-- ---- alternatives

abbrev pub chosen_holds : Meaning → Scope → Scope → List ChoiceOption → InnerLayer → Named → Answer
chosen_holds M scope inside options inner x =
    both (each (listed_option_holds M scope inside options x.0 x.1) inner.constraints) (answer_of (inner.is_partial || is_listed inner.constraints x.0))

choice_parts : (M : Meaning) (scope inside : Scope) (options : List ChoiceOption) (inner : InnerLayer) (t : ValueTree) →
    choice_holds M scope inside options inner t ≡ once No (alternative_in t) (chosen_holds M scope inside options inner)
choice_parts M scope inside options inner NullValue = refl
choice_parts M scope inside options inner (TruthValue b) = refl
choice_parts M scope inside options inner (WholeNumber i) = refl
choice_parts M scope inside options inner (ItemNumber i) = refl
choice_parts M scope inside options inner (RealNumber m b e) = refl
choice_parts M scope inside options inner (Bits bs) = refl
choice_parts M scope inside options inner (Octets os) = refl
choice_parts M scope inside options inner (Characters cs) = refl
choice_parts M scope inside options inner (ObjectIdentifierArcs arcs) = refl
choice_parts M scope inside options inner (Struct fs) = refl
choice_parts M scope inside options inner (Elements ts) = refl
choice_parts M scope inside options inner (Alternative name t) = refl
choice_parts M scope inside options inner Opaque = refl

pub no_choice : (M : Meaning) (scope inside : Scope) (options : List ChoiceOption) (inner : InnerLayer) (t : ValueTree) → alternative_in t ≡ None → choice_holds M scope inside options inner t ≡ No
no_choice M scope inside options inner t e = choice_parts M scope inside options inner t ∙ ap (λ found. once No found (chosen_holds M scope inside options inner)) e

pub some_choice : (M : Meaning) (scope inside : Scope) (options : List ChoiceOption) (inner : InnerLayer) (t : ValueTree) (x : Named) → alternative_in t ≡ Some x →
    choice_holds M scope inside options inner t
    ≡ both (each (listed_option_holds M scope inside options x.0 x.1) inner.constraints) (answer_of (inner.is_partial || is_listed inner.constraints x.0))
some_choice M scope inside options inner t x e = choice_parts M scope inside options inner t ∙ ap (λ found. once No found (chosen_holds M scope inside options inner)) e

pub listed_option_next : (M : Meaning) (scope inside : Scope) (options : List ChoiceOption) (name : List ℕ) (t : ValueTree) (cs : List ListedLayer) (i : ℕ) (c : ListedLayer) (a b : Answer) →
    i < length cs → c ≡ get_or cs i c → b ≡ listed_option_holds M scope inside options name t c →
    both (both a b) (each (listed_option_holds M scope inside options name t) (drop (i + 1) cs)) ≡ both a (each (listed_option_holds M scope inside options name t) (drop i cs))
listed_option_next M scope inside options name t cs i c a b lt e is = item_next (listed_option_holds M scope inside options name t) cs i c a b lt e is

pub listed_options_done : (M : Meaning) (scope inside : Scope) (options : List ChoiceOption) (name : List ℕ) (t : ValueTree) (cs : List ListedLayer) (i : ℕ) (a : Answer) → length cs ≤ i →
    both a (each (listed_option_holds M scope inside options name t) (drop i cs)) ≡ a
listed_options_done M scope inside options name t cs i a le = items_done (listed_option_holds M scope inside options name t) cs i a le

pub no_option : (M : Meaning) (scope inside : Scope) (options : List ChoiceOption) (name : List ℕ) (t : ValueTree) (c : ListedLayer) → option_named options c.identifier ≡ None →
    listed_option_holds M scope inside options name t c ≡ Unknown
no_option M scope inside options name t c e = ap (λ found. once Unknown found (option_holds M scope inside (bytes_eq name c.identifier) t c)) e

pub some_option : (M : Meaning) (scope inside : Scope) (options : List ChoiceOption) (name : List ℕ) (t : ValueTree) (c : ListedLayer) (o : OptionLayer) (chosen : Bool) →
    option_named options c.identifier ≡ Some o → chosen ≡ bytes_eq name c.identifier → listed_option_holds M scope inside options name t c ≡ option_holds M scope inside chosen t c o
some_option M scope inside options name t c o chosen e f =
    ap (λ found. once Unknown found (option_holds M scope inside (bytes_eq name c.identifier) t c)) e ∙ ap (λ b. option_holds M scope inside b t c o) (back f)
  where
    back : chosen ≡ bytes_eq name c.identifier → bytes_eq name c.identifier ≡ chosen
    back e = cc

pub option_chosen : (M : Meaning) (scope inside : Scope) (chosen : Bool) (t : ValueTree) (c : ListedLayer) (o : OptionLayer) → chosen ≡ true →
    option_holds M scope inside chosen t c o ≡ both (answer_of (is_choice_allowed c.presence chosen)) (part_holds M scope (option_place inside o) c.constraints t)
option_chosen M scope inside chosen t c o e =
    ap (λ b. both (answer_of (is_choice_allowed c.presence chosen)) (if b then part_holds M scope (option_place inside o) c.constraints t else Yes)) e

pub option_not_chosen : (M : Meaning) (scope inside : Scope) (chosen : Bool) (t : ValueTree) (c : ListedLayer) (o : OptionLayer) → chosen ≡ false →
    option_holds M scope inside chosen t c o ≡ answer_of (is_choice_allowed c.presence chosen)
option_not_chosen M scope inside chosen t c o e =
    ap (λ b. both (answer_of (is_choice_allowed c.presence chosen)) (if b then part_holds M scope (option_place inside o) c.constraints t else Yes)) e
    ∙ ended (answer_of (is_choice_allowed c.presence chosen))
