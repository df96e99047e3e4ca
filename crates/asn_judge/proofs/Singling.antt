-- Single values and ranges.
use Rattle.std.proofs.Common.{◌≡◌, ℕ, List, [], ◌∷◌, Bool, false, Option, Some, None, refl, sym, ap, ◌∙◌}
use Rattle.std.specs.Prelude.{ℤ, pos}
use Rattle.std.specs.List.{list_any}
use Rattle.std.specs.Str.{bytes_eq}
use Rattle.asn_tree.specs.declared.values.ASN1Value.{ASN1Value}
use Rattle.asn_judge.specs.inner.Characters.{character_in, characters_in}
use Rattle.asn_judge.specs.inner.Singles.{whole_in}
use Rattle.asn_meaning.specs.Answers.{Answer, Yes, No, Unknown, answer_of, both, once, unless_all, Denotation}
use Rattle.asn_meaning.specs.Constraints.{compared, number_asked, occurs, range_holds, side_holds, single_holds}
use Rattle.asn_meaning.specs.Meaning.{Meaning, Parent, ValuesOf, CharactersOf}
use Rattle.asn_meaning.specs.Numbers.{Numbers}
use Rattle.asn_meaning.specs.Ranges.{value_place}
use Rattle.asn_meaning.specs.Scopes.{Scope, Place}
use Rattle.asn_meaning.specs.ValueTrees.{ValueTree, NullValue, TruthValue, WholeNumber, ItemNumber, RealNumber, Bits, Octets, Characters, ObjectIdentifierArcs, Struct, Elements, Alternative, Opaque}

-- ---- one character in a text

abbrev pub is_in : ℕ → List ℕ → Bool
is_in c text = list_any (λ x. bytes_eq (x ∷ []) (c ∷ [])) text

alone : (c : ℕ) (u : ValueTree) → occurs (Characters (c ∷ [])) u ≡ once false (characters_in u) (is_in c)
alone c NullValue = refl
alone c (TruthValue b) = refl
alone c (WholeNumber i) = refl
alone c (ItemNumber i) = refl
alone c (RealNumber m b e) = refl
alone c (Bits bs) = refl
alone c (Octets os) = refl
alone c (Characters cs) = refl
alone c (ObjectIdentifierArcs arcs) = refl
alone c (Struct fs) = refl
alone c (Elements ts) = refl
alone c (Alternative name t) = refl
alone c Opaque = refl

occurs_parts : (t u : ValueTree) → occurs t u ≡ once false (character_in t) (λ c. once false (characters_in u) (is_in c))
occurs_parts NullValue u = refl
occurs_parts (TruthValue b) u = refl
occurs_parts (WholeNumber i) u = refl
occurs_parts (ItemNumber i) u = refl
occurs_parts (RealNumber m b e) u = refl
occurs_parts (Bits bs) u = refl
occurs_parts (Octets os) u = refl
occurs_parts (Characters []) u = refl
occurs_parts (Characters (c ∷ [])) u = alone c u
occurs_parts (Characters (c ∷ d ∷ cs)) u = refl
occurs_parts (ObjectIdentifierArcs arcs) u = refl
occurs_parts (Struct fs) u = refl
occurs_parts (Elements ts) u = refl
occurs_parts (Alternative name t) u = refl
occurs_parts Opaque u = refl

pub no_character : (t u : ValueTree) → character_in t ≡ None → occurs t u ≡ false
no_character t u e = occurs_parts t u ∙ ap (λ found. once false found (λ c. once false (characters_in u) (is_in c))) e

pub nowhere : (t u : ValueTree) (c : ℕ) → character_in t ≡ Some c → characters_in u ≡ None → occurs t u ≡ false
nowhere t u c e f =
    occurs_parts t u ∙ ap (λ found. once false found (λ c. once false (characters_in u) (is_in c))) e ∙ ap (λ found. once false found (is_in c)) f

pub somewhere : (t u : ValueTree) (c : ℕ) (text : List ℕ) → character_in t ≡ Some c → characters_in u ≡ Some text → occurs t u ≡ is_in c text
somewhere t u c text e f =
    occurs_parts t u ∙ ap (λ found. once false found (λ c. once false (characters_in u) (is_in c))) e ∙ ap (λ found. once false found (is_in c)) f

-- ---- single values

by_answer : (M : Meaning) (scope : Scope) (parent : Parent) (v : ASN1Value) (t : ValueTree) (p : Place) (a : Answer) → p ≡ value_place parent → M.is_all scope v p ≡ a →
    single_holds M scope parent v t ≡ unless_all Yes Unknown a (compared parent t (M.denotes scope v p))
by_answer M scope parent v t p a e f =
    sym (ap (λ q. unless_all Yes Unknown (M.is_all scope v q) (compared parent t (M.denotes scope v q))) e)
    ∙ ap (λ b. unless_all Yes Unknown b (compared parent t (M.denotes scope v p))) f

pub single_all : (M : Meaning) (scope : Scope) (parent : Parent) (v : ASN1Value) (t : ValueTree) (p : Place) → p ≡ value_place parent → M.is_all scope v p ≡ Yes →
    single_holds M scope parent v t ≡ Yes
single_all M scope parent v t p e f = by_answer M scope parent v t p Yes e f

pub single_unknown : (M : Meaning) (scope : Scope) (parent : Parent) (v : ASN1Value) (t : ValueTree) (p : Place) → p ≡ value_place parent → M.is_all scope v p ≡ Unknown →
    single_holds M scope parent v t ≡ Unknown
single_unknown M scope parent v t p e f = by_answer M scope parent v t p Unknown e f

pub single_compared : (M : Meaning) (scope : Scope) (parent : Parent) (v : ASN1Value) (t : ValueTree) (p : Place) (d : Denotation ValueTree) →
    p ≡ value_place parent → M.is_all scope v p ≡ No → d ≡ M.denotes scope v p → single_holds M scope parent v t ≡ compared parent t d
single_compared M scope parent v t p d e f g = by_answer M scope parent v t p No e f ∙ sym (ap (compared parent t) g)

-- ---- ranges

pub asked_of_values : (head : Place) (numbers : Option Numbers) (t : ValueTree) → number_asked (ValuesOf head numbers) t ≡ whole_in t
asked_of_values head numbers NullValue = refl
asked_of_values head numbers (TruthValue b) = refl
asked_of_values head numbers (WholeNumber i) = refl
asked_of_values head numbers (ItemNumber i) = refl
asked_of_values head numbers (RealNumber m b e) = refl
asked_of_values head numbers (Bits bs) = refl
asked_of_values head numbers (Octets os) = refl
asked_of_values head numbers (Characters cs) = refl
asked_of_values head numbers (ObjectIdentifierArcs arcs) = refl
asked_of_values head numbers (Struct fs) = refl
asked_of_values head numbers (Elements ts) = refl
asked_of_values head numbers (Alternative name t) = refl
asked_of_values head numbers Opaque = refl

asked_of_characters : (codes : Numbers) (t : ValueTree) → number_asked (CharactersOf codes) t ≡ once None (character_in t) (λ c. Some (pos c))
asked_of_characters codes NullValue = refl
asked_of_characters codes (TruthValue b) = refl
asked_of_characters codes (WholeNumber i) = refl
asked_of_characters codes (ItemNumber i) = refl
asked_of_characters codes (RealNumber m b e) = refl
asked_of_characters codes (Bits bs) = refl
asked_of_characters codes (Octets os) = refl
asked_of_characters codes (Characters []) = refl
asked_of_characters codes (Characters (c ∷ [])) = refl
asked_of_characters codes (Characters (c ∷ d ∷ cs)) = refl
asked_of_characters codes (ObjectIdentifierArcs arcs) = refl
asked_of_characters codes (Struct fs) = refl
asked_of_characters codes (Elements ts) = refl
asked_of_characters codes (Alternative name t) = refl
asked_of_characters codes Opaque = refl

pub none_asked : (codes : Numbers) (t : ValueTree) → character_in t ≡ None → number_asked (CharactersOf codes) t ≡ None
none_asked codes t e = asked_of_characters codes t ∙ ap (λ found. once None found (λ c. Some (pos c))) e

pub code_asked : (codes : Numbers) (t : ValueTree) (c : ℕ) → character_in t ≡ Some c → number_asked (CharactersOf codes) t ≡ Some (pos c)
code_asked codes t c e = asked_of_characters codes t ∙ ap (λ found. once None found (λ c. Some (pos c))) e

pub side_known : (side : Option Numbers) (i : ℤ) (set : Numbers) (b : Bool) → side ≡ Some set → b ≡ set.has i → side_holds side i ≡ answer_of b
side_known side i set b e f = ap (λ found. side_holds found i) e ∙ sym (ap answer_of f)

pub out_of_range : (low high : Option Numbers) (n : Option ℤ) → n ≡ None → range_holds low high n ≡ No
out_of_range low high n e = ap (range_holds low high) e

pub between_ends : (low high from to : Option Numbers) (n : Option ℤ) (i : ℤ) (above below : Answer) → n ≡ Some i → from ≡ low → to ≡ high →
    above ≡ side_holds from i → below ≡ side_holds to i → range_holds low high n ≡ both above below
between_ends low high from to n i above below e f g a b =
    ap (range_holds low high) e
    ∙ sym (ap (λ x. both x below) (a ∙ ap (λ s. side_holds s i) f) ∙ ap (both (side_holds low i)) (b ∙ ap (λ s. side_holds s i) g))
