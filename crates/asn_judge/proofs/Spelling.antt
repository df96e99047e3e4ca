-- The characters of texts.
use Rattle.std.proofs.Common.{◌≡◌, ◌<◌, ℕ, ◌+◌, List, [], ◌∷◌, drop, length, get_or, Bool, true, false, Some, None, nat_eq, append-nil, refl, sym, ap, ◌∙◌}
use Rattle.std.specs.Prelude.{◌&&◌, ◌||◌, encode_utf8}
use Rattle.std.specs.List.{list_any}
use Rattle.std.specs.Str.{bytes_eq, chars}
use Rattle.std.proofs.Math.Utf8.{scalar}
use Rattle.std.proofs.lemmas.Str.{chars-encodes}
use Rattle.std.proofs.lemmas.List.{drop_more}
use Rattle.asn_judge.specs.inner.Characters.{character_in, characters_in, only_item}
use Rattle.asn_meaning.specs.Answers.{Yes, answer_of, once}
use Rattle.asn_meaning.specs.Judge.{in_set, is_within}
use Rattle.asn_meaning.specs.ValueTrees.{ValueTree, NullValue, TruthValue, WholeNumber, ItemNumber, RealNumber, Bits, Octets, Characters, ObjectIdentifierArcs, Struct, Elements, Alternative, Opaque}

pub one_character : (text : List ℕ) (c : ℕ) → scalar c ≡ true → text ≡ encode_utf8 c → chars text ≡ c ∷ []
one_character text c is e = ap chars (e ∙ sym (append-nil (encode_utf8 c))) ∙ chars-encodes (c ∷ []) (ap (λ b. b && true) is)

pub no_text : (t : ValueTree) → characters_in t ≡ None → character_in t ≡ None
no_text t e = ap (λ found. once None found only_item) e

pub some_text : (t : ValueTree) (cs : List ℕ) → characters_in t ≡ Some cs → character_in t ≡ only_item cs
some_text t cs e = ap (λ found. once None found only_item) e

-- ---- one by one

pub occurs_first : (cs : List ℕ) (i x c : ℕ) → i < length cs → x ≡ get_or cs i x →
    list_any (λ y. bytes_eq (y ∷ []) (c ∷ [])) (drop i cs) ≡ (nat_eq x c || list_any (λ y. bytes_eq (y ∷ []) (c ∷ [])) (drop (i + 1) cs))
occurs_first cs i x c lt e =
    ap (list_any (λ y. bytes_eq (y ∷ []) (c ∷ []))) (drop_more cs i x lt ∙ ap (λ y. y ∷ drop (i + 1) cs) (sym e))
    ∙ ap (λ b. b || list_any (λ y. bytes_eq (y ∷ []) (c ∷ [])) (drop (i + 1) cs)) (alone (nat_eq x c))
  where
    alone : (b : Bool) → (b && true) ≡ b
    alone true = refl
    alone false = refl

pub set_first : (cs : List ℕ) (i x c : ℕ) → i < length cs → x ≡ get_or cs i x → list_any (nat_eq c) (drop i cs) ≡ (nat_eq c x || list_any (nat_eq c) (drop (i + 1) cs))
set_first cs i x c lt e = ap (list_any (nat_eq c)) (drop_more cs i x lt ∙ ap (λ y. y ∷ drop (i + 1) cs) (sym e))

pub within_first : (set cs : List ℕ) (i c : ℕ) → i < length cs → c ≡ get_or cs i c → is_within set (drop i cs) ≡ (list_any (nat_eq c) set && is_within set (drop (i + 1) cs))
within_first set cs i c lt e = ap (is_within set) (drop_more cs i c lt ∙ ap (λ y. y ∷ drop (i + 1) cs) (sym e))

-- ---- sets

set_parts : (set : List ℕ) (t : ValueTree) → in_set (Some set) t ≡ once Yes (characters_in t) (λ cs. answer_of (is_within set cs))
set_parts set NullValue = refl
set_parts set (TruthValue b) = refl
set_parts set (WholeNumber i) = refl
set_parts set (ItemNumber i) = refl
set_parts set (RealNumber m b e) = refl
set_parts set (Bits bs) = refl
set_parts set (Octets os) = refl
set_parts set (Characters cs) = refl
set_parts set (ObjectIdentifierArcs arcs) = refl
set_parts set (Struct fs) = refl
set_parts set (Elements ts) = refl
set_parts set (Alternative name t) = refl
set_parts set Opaque = refl

pub set_of_no_text : (set : List ℕ) (t : ValueTree) → characters_in t ≡ None → in_set (Some set) t ≡ Yes
set_of_no_text set t e = set_parts set t ∙ ap (λ found. once Yes found (λ cs. answer_of (is_within set cs))) e

pub set_of_text : (set cs : List ℕ) (t : ValueTree) → characters_in t ≡ Some cs → in_set (Some set) t ≡ answer_of (is_within set cs)
set_of_text set cs t e = set_parts set t ∙ ap (λ found. once Yes found (λ cs. answer_of (is_within set cs))) e

pub no_set : (t : ValueTree) → in_set None t ≡ Yes
no_set NullValue = refl
no_set (TruthValue b) = refl
no_set (WholeNumber i) = refl
no_set (ItemNumber i) = refl
no_set (RealNumber m b e) = refl
no_set (Bits bs) = refl
no_set (Octets os) = refl
no_set (Characters cs) = refl
no_set (ObjectIdentifierArcs arcs) = refl
no_set (Struct fs) = refl
no_set (Elements ts) = refl
no_set (Alternative name t) = refl
no_set Opaque = refl
