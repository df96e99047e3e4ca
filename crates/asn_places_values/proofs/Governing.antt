-- Values under the type that governs them, by how they are written.
use Rattle.std.proofs.Common.{◌≡◌, List, [], ◌∷◌, ◌++◌, Bool, true, false, Option, Some, None, if◌then◌else◌, refl, sym, ap, ◌∙◌}
use Rattle.asn_tree.specs.declared.values.ASN1Value.{ASN1Value}
use Rattle.asn_meaning.specs.Answers.{once}
use Rattle.asn_meaning.specs.Kinds.{kind_of}
use Rattle.asn_meaning.specs.Scopes.{Place}
use Rattle.asn_meaning.specs.Written.{Written, AllWritten, NullWritten, TruthWritten, NumberWritten, RealWritten, TextWritten, BitsWritten, BitNamesWritten, OctetsWritten, ArcsWritten, ItemWritten, NameWritten, BracesWritten, FieldsWritten, ElementsWritten, AlternativeWritten, NestedWritten, as_written}
use Rattle.asn_needs.specs.Dummies.{hangs, is_class_name}
use Rattle.asn_needs.specs.PartsOfValues.{free_parts, governed_parts, headless_parts, inside, parts_under, value_sites}
use Rattle.asn_needs.specs.Sites.{Seen, Site}
use Rattle.asn_places_types.proofs.Adding.{ended}
use Rattle.asn_places_values.specs.inner.Layouts.{nested_in, plainly}

-- ---- where no value stands in what is written

free_plainly : (s : Site) (w : Written) → free_parts s w ≡ free_parts s (plainly w)
free_plainly s AllWritten = refl
free_plainly s NullWritten = refl
free_plainly s (TruthWritten b) = refl
free_plainly s (NumberWritten i) = refl
free_plainly s (RealWritten x) = refl
free_plainly s (TextWritten t) = refl
free_plainly s (BitsWritten bits) = refl
free_plainly s (BitNamesWritten names) = refl
free_plainly s (OctetsWritten octets) = refl
free_plainly s (ArcsWritten arcs) = refl
free_plainly s (ItemWritten name) = refl
free_plainly s (NameWritten parent name) = refl
free_plainly s (BracesWritten items) = refl
free_plainly s (FieldsWritten fields) = refl
free_plainly s (ElementsWritten vs) = refl
free_plainly s (AlternativeWritten name v) = refl
free_plainly s (NestedWritten v) = refl

governed_plainly : (S : Seen) (s : Site) (p : Place) (w : Written) → governed_parts S s p w ≡ governed_parts S s p (plainly w)
governed_plainly S s p AllWritten = refl
governed_plainly S s p NullWritten = refl
governed_plainly S s p (TruthWritten b) = refl
governed_plainly S s p (NumberWritten i) = refl
governed_plainly S s p (RealWritten x) = refl
governed_plainly S s p (TextWritten t) = refl
governed_plainly S s p (BitsWritten bits) = refl
governed_plainly S s p (BitNamesWritten names) = refl
governed_plainly S s p (OctetsWritten octets) = refl
governed_plainly S s p (ArcsWritten arcs) = refl
governed_plainly S s p (ItemWritten name) = refl
governed_plainly S s p (NameWritten parent name) = refl
governed_plainly S s p (BracesWritten items) = refl
governed_plainly S s p (FieldsWritten fields) = refl
governed_plainly S s p (ElementsWritten vs) = refl
governed_plainly S s p (AlternativeWritten name v) = refl
governed_plainly S s p (NestedWritten v) = refl

-- ---- values that linking put under names

abbrev headed : Seen → Site → Place → Written → List Site
headed S s p w = once (headless_parts S s p w) (S.known.head p) (λ head. parts_under S.known s head w (kind_of head))

abbrev governed_by : Seen → Site → Place → Written → Option ASN1Value → List Site
governed_by S s p w v = once (headed S s p w) v (λ x. inside s (Some p) x ∷ [])

governed_nested : (S : Seen) (s : Site) (p : Place) (w : Written) → governed_parts S s p w ≡ governed_by S s p w (nested_in w)
governed_nested S s p AllWritten = refl
governed_nested S s p NullWritten = refl
governed_nested S s p (TruthWritten b) = refl
governed_nested S s p (NumberWritten i) = refl
governed_nested S s p (RealWritten x) = refl
governed_nested S s p (TextWritten t) = refl
governed_nested S s p (BitsWritten bits) = refl
governed_nested S s p (BitNamesWritten names) = refl
governed_nested S s p (OctetsWritten octets) = refl
governed_nested S s p (ArcsWritten arcs) = refl
governed_nested S s p (ItemWritten name) = refl
governed_nested S s p (NameWritten parent name) = refl
governed_nested S s p (BracesWritten items) = refl
governed_nested S s p (FieldsWritten fields) = refl
governed_nested S s p (ElementsWritten vs) = refl
governed_nested S s p (AlternativeWritten name v) = refl
governed_nested S s p (NestedWritten v) = refl

pub not_nested : (S : Seen) (s : Site) (p : Place) (w : Written) (xs all : List Site) → nested_in w ≡ None →
    all ≡ xs ++ once (headless_parts S s p w) (S.known.head p) (λ head. parts_under S.known s head w (kind_of head)) → all ≡ xs ++ governed_parts S s p w
not_nested S s p w xs all e is = is ∙ sym (ap (λ ys. xs ++ ys) (governed_nested S s p w ∙ ap (governed_by S s p w) e))

pub nested : (S : Seen) (s : Site) (p : Place) (w : Written) (v : ASN1Value) (xs all : List Site) → nested_in w ≡ Some v → all ≡ xs ++ inside s (Some p) v ∷ [] → all ≡ xs ++ governed_parts S s p w
nested S s p w v xs all e is = is ∙ sym (ap (λ ys. xs ++ ys) (governed_nested S s p w ∙ ap (governed_by S s p w) e))

-- ---- types with heads

pub headed_some : (S : Seen) (s : Site) (p h : Place) (w : Written) (o : Option Place) (xs all : List Site) → o ≡ S.known.head p → o ≡ Some h →
    all ≡ xs ++ parts_under S.known s h w (kind_of h) → all ≡ xs ++ once (headless_parts S s p w) (S.known.head p) (λ head. parts_under S.known s head w (kind_of head))
headed_some S s p h w o xs all e f is =
    is ∙ sym (ap (λ q. xs ++ once (headless_parts S s p w) q (λ head. parts_under S.known s head w (kind_of head))) (sym e ∙ f))

-- ---- types without heads, and classes

pub hung : (S : Seen) (s : Site) (p : Place) (w : Written) (xs : List Site) (b : Bool) → b ≡ hangs S.defs S.known S.steps p → b ≡ true → xs ≡ xs ++ headless_parts S s p w
hung S s p w xs b e f = sym (ap (λ c. xs ++ (if c then [] else free_parts s w)) (sym e ∙ f) ∙ ended xs)

pub free : (S : Seen) (s : Site) (p : Place) (w : Written) (xs all : List Site) (b : Bool) → b ≡ hangs S.defs S.known S.steps p → b ≡ false → all ≡ xs ++ free_parts s w → all ≡ xs ++ headless_parts S s p w
free S s p w xs all b e f is = is ∙ sym (ap (λ c. xs ++ (if c then [] else free_parts s w)) (sym e ∙ f))

pub of_class : (xs governed : List Site) (b : Bool) → b ≡ true → xs ≡ xs ++ (if b then [] else governed)
of_class xs governed b e = sym (ap (λ c. xs ++ (if c then [] else governed)) e ∙ ended xs)

pub of_type : (xs all governed : List Site) (b : Bool) → b ≡ false → all ≡ xs ++ governed → all ≡ xs ++ (if b then [] else governed)
of_type xs all governed b e is = is ∙ sym (ap (λ c. xs ++ (if c then [] else governed)) e)

-- ---- values

pub free_laid : (S : Seen) (s : Site) (v : ASN1Value) (w : Written) (xs all : List Site) → w ≡ plainly (as_written v) → all ≡ xs ++ free_parts s w → all ≡ xs ++ value_sites S s None v
free_laid S s v w xs all e is = is ∙ ap (λ x. xs ++ free_parts s x) e ∙ sym (ap (λ ys. xs ++ ys) (free_plainly s (as_written v)))

pub typed_laid : (S : Seen) (s : Site) (p : Place) (v : ASN1Value) (w : Written) (xs all : List Site) → w ≡ plainly (as_written v) →
    all ≡ xs ++ (if is_class_name S.defs p then [] else governed_parts S s p w) → all ≡ xs ++ value_sites S s (Some p) v
typed_laid S s p v w xs all e is =
    is ∙ ap (λ x. xs ++ (if is_class_name S.defs p then [] else governed_parts S s p x)) e
    ∙ sym (ap (λ ys. xs ++ (if is_class_name S.defs p then [] else ys)) (governed_plainly S s p (as_written v)))

pub placed_laid : (S : Seen) (s : Site) (o : Option Place) (p : Place) (v : ASN1Value) (xs all : List Site) → o ≡ Some p → all ≡ xs ++ value_sites S s (Some p) v → all ≡ xs ++ value_sites S s o v
placed_laid S s o p v xs all e is = is ∙ sym (ap (λ q. xs ++ value_sites S s q v) e)
