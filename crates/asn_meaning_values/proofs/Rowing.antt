-- Octets and rows, one by one.
use Rattle.std.proofs.Common.{◌≡◌, ℕ, zero, suc, ◌+◌, ◌*◌, ◌/◌, ◌%◌, ◌<◌, ◌≤◌, Bool, arith, length-drop, List, [], ◌∷◌, ◌++◌, drop, length, get_or, Option, Some, None, append-nil, append_assoc, refl, sym, ap, ◌∙◌}
use Rattle.std.proofs.lemmas.List.{drop_more, drop_all}
use Rattle.asn_meaning_values.proofs.Listing.{before, none_before, one_before}
use Rattle.asn_meaning.specs.Answers.{once}
use Rattle.asn_meaning.specs.Rows.{bits_row, named_bits, names_written, octet, octets_of, string_row, string_written, text_row, text_written}
use Rattle.asn_meaning.specs.ValueTrees.{ValueTree, Bits, Characters}
use Rattle.asn_meaning.specs.Written.{Written, AllWritten, NullWritten, TruthWritten, NumberWritten, RealWritten, TextWritten, BitsWritten, BitNamesWritten, OctetsWritten, ArcsWritten, ItemWritten, NameWritten, BracesWritten, FieldsWritten, ElementsWritten, AlternativeWritten, NestedWritten}
use Rattle.asn_tree_kinds.specs.declared.types.DistinguishedValue.{DistinguishedValue}
use Rattle.asn_meaning_values.specs.Bits.{bits_of_names, bits_written}
use Rattle.asn_meaning_values.specs.inner.Rows.{first_octet}

pub no_text : (w : Written) → text_written w ≡ None → text_row w ≡ None
no_text w e = ap (λ s. once None s (λ s. Some (Characters s))) e

pub some_text : (w : Written) (s : List ℕ) → text_written w ≡ Some s → text_row w ≡ Some (Characters s)
some_text w s e = ap (λ s. once None s (λ s. Some (Characters s))) e

-- ---- octets of bits

pub octets_begin : (bits : List Bool) → before [] (octets_of (drop (8 * 0) bits)) ≡ octets_of bits
octets_begin bits = none_before (octets_of bits)

by_first : (bits : List Bool) (o : ℕ) → first_octet bits ≡ Some o → octets_of bits ≡ once None (octets_of (drop 8 bits)) (λ others. Some (o ∷ others))
by_first [] o e = absurd cc
by_first (a ∷ []) o e = absurd cc
by_first (a ∷ b ∷ []) o e = absurd cc
by_first (a ∷ b ∷ c ∷ []) o e = absurd cc
by_first (a ∷ b ∷ c ∷ d ∷ []) o e = absurd cc
by_first (a ∷ b ∷ c ∷ d ∷ f ∷ []) o e = absurd cc
by_first (a ∷ b ∷ c ∷ d ∷ f ∷ g ∷ []) o e = absurd cc
by_first (a ∷ b ∷ c ∷ d ∷ f ∷ g ∷ h ∷ []) o e = absurd cc
by_first (a ∷ b ∷ c ∷ d ∷ f ∷ g ∷ h ∷ i ∷ bits) o e = ap (λ n. once None (octets_of bits) (λ others. Some (n ∷ others))) (same (octet (a ∷ b ∷ c ∷ d ∷ f ∷ g ∷ h ∷ i ∷ [])) o e)
  where
    same : (m n : ℕ) → Some m ≡ Some n → m ≡ n
    same m n e = cc

nothing_left : (k : ℕ) (none : List Bool) → none ≡ [] → drop k none ≡ []
nothing_left zero none e = e
nothing_left (suc k) [] e = refl
nothing_left (suc k) (b ∷ bits) e = absurd cc

drop_both : (bits : List Bool) (m n : ℕ) → drop n (drop m bits) ≡ drop (m + n) bits
drop_both bits zero n = let e : zero + n ≡ n = omega arith in ap (λ k. drop k bits) (sym e)
drop_both [] (suc m) n = nothing_left n [] refl ∙ sym (nothing_left (suc m + n) [] refl)
drop_both (b ∷ bits) (suc m) n = let e : suc m + n ≡ suc (m + n) = omega arith in drop_both bits m n ∙ ap (λ k. drop k (b ∷ bits)) (sym e)

dropped : (bits : List Bool) (i : ℕ) → drop 8 (drop (8 * i) bits) ≡ drop (8 * (i + 1)) bits
dropped bits i = let e : 8 * i + 8 ≡ 8 * (i + 1) = omega arith in drop_both bits (8 * i) 8 ∙ ap (λ n. drop n bits) e

pub octets_next : (out : List ℕ) (bits : List Bool) (i o : ℕ) → first_octet (drop (8 * i) bits) ≡ Some o →
    before (out ++ o ∷ []) (octets_of (drop (8 * (i + 1)) bits)) ≡ before out (octets_of (drop (8 * i) bits))
octets_next out bits i o e =
    sym (ap (before out) (by_first (drop (8 * i) bits) o e ∙ ap (λ xs. once None (octets_of xs) (λ others. Some (o ∷ others))) (dropped bits i))
    ∙ one_before out o (octets_of (drop (8 * (i + 1)) bits)))

few : (bits : List Bool) → first_octet bits ≡ None → length bits < 8
few [] e = omega arith
few (a ∷ []) e = omega arith
few (a ∷ b ∷ []) e = omega arith
few (a ∷ b ∷ c ∷ []) e = omega arith
few (a ∷ b ∷ c ∷ d ∷ []) e = omega arith
few (a ∷ b ∷ c ∷ d ∷ f ∷ []) e = omega arith
few (a ∷ b ∷ c ∷ d ∷ f ∷ g ∷ []) e = omega arith
few (a ∷ b ∷ c ∷ d ∷ f ∷ g ∷ h ∷ []) e = omega arith
few (a ∷ b ∷ c ∷ d ∷ f ∷ g ∷ h ∷ i ∷ bits) e = absurd cc

pub octets_lost : (bits : List Bool) (i : ℕ) → i < length bits / 8 → first_octet (drop (8 * i) bits) ≡ None → ⊥
octets_lost bits i lt e =
    let short = few (drop (8 * i) bits) e in
    let is = length-drop (8 * i) bits in
    omega arith

no_octet : (bits : List Bool) → 0 < length bits → length bits < 8 → octets_of bits ≡ None
no_octet [] lt less = absurd (omega arith)
no_octet (a ∷ []) lt less = refl
no_octet (a ∷ b ∷ []) lt less = refl
no_octet (a ∷ b ∷ c ∷ []) lt less = refl
no_octet (a ∷ b ∷ c ∷ d ∷ []) lt less = refl
no_octet (a ∷ b ∷ c ∷ d ∷ f ∷ []) lt less = refl
no_octet (a ∷ b ∷ c ∷ d ∷ f ∷ g ∷ []) lt less = refl
no_octet (a ∷ b ∷ c ∷ d ∷ f ∷ g ∷ h ∷ []) lt less = refl
no_octet (a ∷ b ∷ c ∷ d ∷ f ∷ g ∷ h ∷ i ∷ bits) lt less = absurd (omega arith)

pub octets_short : (out : List ℕ) (bits : List Bool) (i : ℕ) → length bits / 8 ≡ i → 0 < length bits % 8 → before out (octets_of (drop (8 * i) bits)) ≡ None
octets_short out bits i e lt =
    let is = length-drop (8 * i) bits in
    ap (before out) (no_octet (drop (8 * i) bits) (omega arith) (omega arith))

-- ---- rows

by_names : (found : Option (List (List ℕ))) (f : List (List ℕ) → Option (List Bool)) →
    once None found (λ names. once None (f names) (λ bits. Some (Bits bits))) ≡ once None (once None found f) (λ bits. Some (Bits bits))
by_names None f = refl
by_names (Some names) f = refl

bits_are : (ds : List DistinguishedValue) (w : Written) → bits_row ds w ≡ once None (bits_written ds w) (λ bits. Some (Bits bits))
bits_are ds (BitsWritten bits) = refl
bits_are ds AllWritten = by_names (names_written AllWritten) (named_bits ds)
bits_are ds NullWritten = by_names (names_written NullWritten) (named_bits ds)
bits_are ds (TruthWritten b) = by_names (names_written (TruthWritten b)) (named_bits ds)
bits_are ds (NumberWritten i) = by_names (names_written (NumberWritten i)) (named_bits ds)
bits_are ds (RealWritten x) = by_names (names_written (RealWritten x)) (named_bits ds)
bits_are ds (TextWritten s) = by_names (names_written (TextWritten s)) (named_bits ds)
bits_are ds (BitNamesWritten names) = by_names (names_written (BitNamesWritten names)) (named_bits ds)
bits_are ds (OctetsWritten os) = by_names (names_written (OctetsWritten os)) (named_bits ds)
bits_are ds (ArcsWritten arcs) = by_names (names_written (ArcsWritten arcs)) (named_bits ds)
bits_are ds (ItemWritten name) = by_names (names_written (ItemWritten name)) (named_bits ds)
bits_are ds (NameWritten parent name) = by_names (names_written (NameWritten parent name)) (named_bits ds)
bits_are ds (BracesWritten items) = by_names (names_written (BracesWritten items)) (named_bits ds)
bits_are ds (FieldsWritten fields) = by_names (names_written (FieldsWritten fields)) (named_bits ds)
bits_are ds (ElementsWritten vs) = by_names (names_written (ElementsWritten vs)) (named_bits ds)
bits_are ds (AlternativeWritten name v) = by_names (names_written (AlternativeWritten name v)) (named_bits ds)
bits_are ds (NestedWritten v) = by_names (names_written (NestedWritten v)) (named_bits ds)

pub no_bits : (ds : List DistinguishedValue) (w : Written) → bits_written ds w ≡ None → bits_row ds w ≡ None
no_bits ds w e = bits_are ds w ∙ ap (λ b. once None b (λ bits. Some (Bits bits))) e

pub some_bits : (ds : List DistinguishedValue) (w : Written) (bits : List Bool) → bits_written ds w ≡ Some bits → bits_row ds w ≡ Some (Bits bits)
some_bits ds w bits e = bits_are ds w ∙ ap (λ b. once None b (λ bits. Some (Bits bits))) e

pub no_string : (w : Written) → string_written w ≡ None → string_row w ≡ None
no_string w e = ap (λ s. once None s (λ s. Some (Characters s))) e

pub some_string : (w : Written) (s : List ℕ) → string_written w ≡ Some s → string_row w ≡ Some (Characters s)
some_string w s e = ap (λ s. once None s (λ s. Some (Characters s))) e
