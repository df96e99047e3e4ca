-- Shapes part by part, and within a number of steps.
use Rattle.std.proofs.Common.{◌≡◌, ℕ, ◌+◌, ◌-◌, ◌<◌, ◌≤◌, suc, List, ◌∷◌, drop, length, get_or, Bool, Option, Some, None, refl, sym, ap, ◌∙◌, arith}
use Rattle.std.specs.Option.{option_map}
use Rattle.std.proofs.lemmas.List.{drop_more, drop_all}
use Rattle.asn_tree.specs.declared.types.ChoiceOption.{ChoiceOption}
use Rattle.asn_meaning_shapes.specs.declared.members.Member.{Member as LentMember}
use Rattle.asn_meaning_shapes.specs.declared.trees.Tree.{Tree}
use Rattle.asn_meaning_shapes.specs.Members.{shown_member, shown_members}
use Rattle.asn_meaning_shapes.specs.Parts.{alternative_in, elements_in, fields_in}
use Rattle.asn_meaning_shapes.specs.Trees.{Named, shown_tree, shown_trees}
use Rattle.asn_meaning.specs.Answers.{Answer, Yes, No, Unknown, answer_of, both, each, once}
use Rattle.asn_meaning.specs.Definitions.{Definitions}
use Rattle.asn_meaning.specs.Judge.{meaning, nothing_known, step}
use Rattle.asn_meaning.specs.Kinds.{kind_of}
use Rattle.asn_meaning.specs.Layers.{OptionLayer}
use Rattle.asn_meaning.specs.Meaning.{Meaning, Member}
use Rattle.asn_meaning.specs.Names.{option_named}
use Rattle.asn_meaning.specs.Scopes.{Place}
use Rattle.asn_meaning.specs.Shapes.{Asking, choice_judged, fields_judged, fits_at, head_fits, is_of_kind, kind_or_parts, list_judged, member_judged, parts_fit, struct_judged, trees_judged}
use Rattle.asn_meaning.specs.ValueTrees.{ValueTree, NullValue, TruthValue, WholeNumber, ItemNumber, RealNumber, Bits, Octets, Characters, ObjectIdentifierArcs, Struct, Elements, Alternative, Opaque, Fields, ValueTrees, field_named}

-- ---- steps

fits_at_suc : (defs : Definitions) (n k : ℕ) (p : Place) (t : ValueTree) → n ≡ suc k → (meaning defs n).fits p t ≡ fits_at (meaning defs k) p t
unfolding meaning step
fits_at_suc defs n k p t more = ap (λ i. (meaning defs i).fits p t) more

pub fits_at_more : (defs : Definitions) (n m : ℕ) (p : Place) (t : ValueTree) → 0 < n → (meaning defs (n + m)).fits p t ≡ fits_at (meaning defs (n - 1 + m)) p t
fits_at_more defs n m p t lt = fits_at_suc defs (n + m) (n - 1 + m) p t (omega arith)

-- Within no steps nothing is known.
pub fits_not : (defs : Definitions) (n m : ℕ) (p : Place) (t : ValueTree) → n ≡ 0 → m ≡ 0 → (meaning defs (n + m)).fits p t ≡ Unknown
unfolding meaning nothing_known
fits_not defs n m p t e f =
    let none : n + m ≡ 0 = omega arith in
    ap (λ k. (meaning defs k).fits p t) none

-- ---- heads

pub headless : (M : Meaning) (p : Place) (t : ValueTree) → M.head p ≡ None → fits_at M p t ≡ Unknown
headless M p t e = ap (λ h. once Unknown h (head_fits M t)) e

pub headed : (M : Meaning) (p h : Place) (t : ValueTree) → M.head p ≡ Some h → fits_at M p t ≡ head_fits M t h
headed M p h t e = ap (λ h. once Unknown h (head_fits M t)) e

judged_by : (test : Option (ValueTree → Bool)) (parts : Answer) (t : ValueTree) (b : Bool) → Some b ≡ option_map (λ f. f t) test → kind_or_parts test parts t ≡ answer_of b
judged_by None parts t b e = absurd cc
judged_by (Some f) parts t b e = ap answer_of (same b (f t) e)
  where
    same : (a b : Bool) → Some a ≡ Some b → b ≡ a
    same a b e = cc

judged_beyond : (test : Option (ValueTree → Bool)) (parts : Answer) (t : ValueTree) → None ≡ option_map (λ f. f t) test → kind_or_parts test parts t ≡ parts
judged_beyond None parts t e = refl
judged_beyond (Some f) parts t e = absurd cc

pub of_kind : (M : Meaning) (h : Place) (t : ValueTree) (b : Bool) → Some b ≡ option_map (λ f. f t) (is_of_kind (kind_of h)) → head_fits M t h ≡ answer_of b
of_kind M h t b e = judged_by (is_of_kind (kind_of h)) (parts_fit M h.scope t (kind_of h)) t b e

pub of_parts : (M : Meaning) (h : Place) (t : ValueTree) → None ≡ option_map (λ f. f t) (is_of_kind (kind_of h)) → head_fits M t h ≡ parts_fit M h.scope t (kind_of h)
of_parts M h t e = judged_beyond (is_of_kind (kind_of h)) (parts_fit M h.scope t (kind_of h)) t e

-- ---- structs

struct_parts : (ask : Asking) (ms : Option (List Member)) (t : ValueTree) → struct_judged ask ms t ≡ once No (fields_in t) (λ fs. once Unknown ms (fields_judged ask fs))
struct_parts ask ms NullValue = refl
struct_parts ask ms (TruthValue b) = refl
struct_parts ask ms (WholeNumber i) = refl
struct_parts ask ms (ItemNumber i) = refl
struct_parts ask ms (RealNumber m b e) = refl
struct_parts ask ms (Bits bs) = refl
struct_parts ask ms (Octets os) = refl
struct_parts ask ms (Characters cs) = refl
struct_parts ask ms (ObjectIdentifierArcs arcs) = refl
struct_parts ask ms (Struct fs) = refl
struct_parts ask ms (Elements ts) = refl
struct_parts ask ms (Alternative name t) = refl
struct_parts ask ms Opaque = refl

pub no_struct : (ask : Asking) (ms : Option (List Member)) (t : ValueTree) → fields_in t ≡ None → struct_judged ask ms t ≡ No
no_struct ask ms t e = struct_parts ask ms t ∙ ap (λ fs. once No fs (λ fs. once Unknown ms (fields_judged ask fs))) e

pub struct_unknown : (ask : Asking) (ms : Option (List Member)) (t : ValueTree) (fs : Fields) → fields_in t ≡ Some fs → ms ≡ None → struct_judged ask ms t ≡ Unknown
struct_unknown ask ms t fs e f =
    struct_parts ask ms t ∙ ap (λ fs. once No fs (λ fs. once Unknown ms (fields_judged ask fs))) e ∙ ap (λ ms. once Unknown ms (fields_judged ask fs)) f

pub struct_known : (ask : Asking) (ms : Option (List Member)) (t : ValueTree) (fs : Fields) (found : List Member) → fields_in t ≡ Some fs → ms ≡ Some found →
    struct_judged ask ms t ≡ fields_judged ask fs found
struct_known ask ms t fs found e f =
    struct_parts ask ms t ∙ ap (λ fs. once No fs (λ fs. once Unknown ms (fields_judged ask fs))) e ∙ ap (λ ms. once Unknown ms (fields_judged ask fs)) f

-- ---- answers one by one

regrouped : (a b c : Answer) → both (both a b) c ≡ both a (both b c)
regrouped Yes b c = refl
regrouped No b c = refl
regrouped Unknown Yes c = refl
regrouped Unknown No c = refl
regrouped Unknown Unknown Yes = refl
regrouped Unknown Unknown No = refl
regrouped Unknown Unknown Unknown = refl

ended : (a : Answer) → both a Yes ≡ a
ended Yes = refl
ended No = refl
ended Unknown = refl

abbrev pub member_by : Asking → Fields → Member → Answer
member_by ask fs m = member_judged ask m (field_named fs m.written.name)

abbrev pub from : Asking → Fields → List LentMember → Answer
from ask fs ms = each (member_by ask fs) (shown_members ms)

pub member_next : (ask : Asking) (fs : Fields) (ms : List LentMember) (i : ℕ) (m : LentMember) (a b : Answer) → i < length ms → m ≡ get_or ms i m → b ≡ member_by ask fs (shown_member m) →
    both (both a b) (from ask fs (drop (i + 1) ms)) ≡ both a (from ask fs (drop i ms))
member_next ask fs ms i m a b lt e is =
    regrouped a b (from ask fs (drop (i + 1) ms))
    ∙ ap (λ x. both a (both x (from ask fs (drop (i + 1) ms)))) is
    ∙ sym (ap (λ xs. both a (from ask fs xs)) (drop_more ms i m lt ∙ ap (λ x. x ∷ drop (i + 1) ms) (sym e)))

pub members_done : (ask : Asking) (fs : Fields) (ms : List LentMember) (i : ℕ) (a : Answer) → length ms ≤ i → both a (from ask fs (drop i ms)) ≡ a
members_done ask fs ms i a le = ap (λ xs. both a (from ask fs xs)) (drop_all i ms le) ∙ ended a

-- ---- lists

list_parts : (ask : ValueTree → Answer) (t : ValueTree) → list_judged ask t ≡ once No (elements_in t) (trees_judged ask)
list_parts ask NullValue = refl
list_parts ask (TruthValue b) = refl
list_parts ask (WholeNumber i) = refl
list_parts ask (ItemNumber i) = refl
list_parts ask (RealNumber m b e) = refl
list_parts ask (Bits bs) = refl
list_parts ask (Octets os) = refl
list_parts ask (Characters cs) = refl
list_parts ask (ObjectIdentifierArcs arcs) = refl
list_parts ask (Struct fs) = refl
list_parts ask (Elements ts) = refl
list_parts ask (Alternative name t) = refl
list_parts ask Opaque = refl

pub no_list : (ask : ValueTree → Answer) (t : ValueTree) → elements_in t ≡ None → list_judged ask t ≡ No
no_list ask t e = list_parts ask t ∙ ap (λ ts. once No ts (trees_judged ask)) e

pub list_known : (ask : ValueTree → Answer) (t : ValueTree) (ts : ValueTrees) → elements_in t ≡ Some ts → list_judged ask t ≡ trees_judged ask ts
list_known ask t ts e = list_parts ask t ∙ ap (λ ts. once No ts (trees_judged ask)) e

pub element_next : (ask : ValueTree → Answer) (ts : List Tree) (i : ℕ) (t : Tree) (a b : Answer) → i < length ts → t ≡ get_or ts i t → b ≡ ask (shown_tree t) →
    both (both a b) (trees_judged ask (shown_trees (drop (i + 1) ts))) ≡ both a (trees_judged ask (shown_trees (drop i ts)))
element_next ask ts i t a b lt e is =
    regrouped a b (trees_judged ask (shown_trees (drop (i + 1) ts)))
    ∙ ap (λ x. both a (both x (trees_judged ask (shown_trees (drop (i + 1) ts))))) is
    ∙ sym (ap (λ xs. both a (trees_judged ask (shown_trees xs))) (drop_more ts i t lt ∙ ap (λ x. x ∷ drop (i + 1) ts) (sym e)))

pub elements_done : (ask : ValueTree → Answer) (ts : List Tree) (i : ℕ) (a : Answer) → length ts ≤ i → both a (trees_judged ask (shown_trees (drop i ts))) ≡ a
elements_done ask ts i a le = ap (λ xs. both a (trees_judged ask (shown_trees xs))) (drop_all i ts le) ∙ ended a

-- ---- alternatives

choice_parts : (ask : OptionLayer → ValueTree → Answer) (options : List ChoiceOption) (t : ValueTree) →
    choice_judged ask options t ≡ once No (alternative_in t) (λ (x : Named). once No (option_named options x.0) (λ o. ask o x.1))
choice_parts ask options NullValue = refl
choice_parts ask options (TruthValue b) = refl
choice_parts ask options (WholeNumber i) = refl
choice_parts ask options (ItemNumber i) = refl
choice_parts ask options (RealNumber m b e) = refl
choice_parts ask options (Bits bs) = refl
choice_parts ask options (Octets os) = refl
choice_parts ask options (Characters cs) = refl
choice_parts ask options (ObjectIdentifierArcs arcs) = refl
choice_parts ask options (Struct fs) = refl
choice_parts ask options (Elements ts) = refl
choice_parts ask options (Alternative name t) = refl
choice_parts ask options Opaque = refl

pub no_choice : (ask : OptionLayer → ValueTree → Answer) (options : List ChoiceOption) (t : ValueTree) → alternative_in t ≡ None → choice_judged ask options t ≡ No
no_choice ask options t e = choice_parts ask options t ∙ ap (λ x. once No x (λ (x : Named). once No (option_named options x.0) (λ o. ask o x.1))) e

pub no_option : (ask : OptionLayer → ValueTree → Answer) (options : List ChoiceOption) (t : ValueTree) (x : Named) → alternative_in t ≡ Some x → option_named options x.0 ≡ None → choice_judged ask options t ≡ No
no_option ask options t x e f =
    choice_parts ask options t ∙ ap (λ x. once No x (λ (x : Named). once No (option_named options x.0) (λ o. ask o x.1))) e ∙ ap (λ o. once No o (λ o. ask o x.1)) f

pub option_known : (ask : OptionLayer → ValueTree → Answer) (options : List ChoiceOption) (t : ValueTree) (x : Named) (o : OptionLayer) → alternative_in t ≡ Some x → option_named options x.0 ≡ Some o →
    choice_judged ask options t ≡ ask o x.1
option_known ask options t x o e f =
    choice_parts ask options t ∙ ap (λ x. once No x (λ (x : Named). once No (option_named options x.0) (λ o. ask o x.1))) e ∙ ap (λ o. once No o (λ o. ask o x.1)) f
