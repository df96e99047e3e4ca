-- Characters of texts and of quadruples.
use Rattle.std.proofs.Common.{◌≡◌, ◌<◌, ◌≤◌, ℕ, ◌+◌, ◌*◌, length, ◌++◌, nat_eq, nat_le, nat_lt, Bool, true, false, if◌then◌else◌, List, [], ◌∷◌, Option, Some, None, refl, sym, ap, ◌∙◌, append-nil, arith}
use Rattle.std.specs.Prelude.{ℤ, pos, negsuc, ◌&&◌, encode_utf8}
use Rattle.std.specs.Char.{InScalarRange, OutOfScalarRange}
use Rattle.std.specs.Str.{chars}
use Rattle.std.proofs.Math.Utf8.{scalar}
use Rattle.std.proofs.lemmas.Bool.Decides.{nat_tests}
use Rattle.std.proofs.lemmas.Str.{chars-encodes}
use Rattle.asn_tree.specs.declared.values.ASN1Value.{ASN1Value}
use Rattle.asn_meaning_heads.specs.declared.values.ValueForm.{ValueForm}
use Rattle.asn_meaning_values.specs.Braces.{shown_values}
use Rattle.asn_meaning_values.specs.inner.Rows.{octet_number, quadruple_code}
use Rattle.asn_tree_notation.specs.Strings.{is_character}
use Rattle.asn_meaning.specs.Answers.{once}
use Rattle.asn_meaning.specs.Braces.{all_unnamed}
use Rattle.asn_meaning.specs.Rows.{character, number_written, octet_written, quadruple, string_written}
use Rattle.asn_meaning.specs.Written.{BracesWritten, Items, as_written}

pub octet_none : (v : ASN1Value) → number_written (as_written v) ≡ None → octet_written v ≡ None
octet_none v e = ap (λ n. once None n (elim [ pos n ↦ if nat_le n 255 then Some n else None | negsuc n ↦ None ])) e

pub octet_some : (v : ASN1Value) (i : ℤ) → number_written (as_written v) ≡ Some i → octet_written v ≡ octet_number i
octet_some v i e = ap (λ n. once None n (elim [ pos n ↦ if nat_le n 255 then Some n else None | negsuc n ↦ None ])) e ∙ go i
  where
    go : (i : ℤ) → elim i [ pos n ↦ if nat_le n 255 then Some n else None | negsuc n ↦ None ] ≡ octet_number i
    go (pos n) = refl
    go (negsuc n) = refl

pub one_character : (text : List ℕ) (c : ℕ) → scalar c ≡ true → text ≡ encode_utf8 c → chars text ≡ c ∷ []
one_character text c is e = ap chars (e ∙ sym (append-nil (encode_utf8 c))) ∙ chars-encodes (c ∷ []) (ap (λ b. b && true) is)

in_range : (code : ℕ) → InScalarRange code → is_character code ≡ true
in_range code h = grind (arith, nat_tests)

out_of_range : (code : ℕ) → OutOfScalarRange code → is_character code ≡ false
out_of_range code h = grind (arith, nat_tests)

pub is_one : (code : ℕ) → InScalarRange code → character code ≡ Some (code ∷ [])
is_one code h = ap (λ b. if b then Some (code ∷ []) else None) (in_range code h)

pub is_none : (code : ℕ) → OutOfScalarRange code → character code ≡ None
is_none code h = ap (λ b. if b then Some (code ∷ []) else None) (out_of_range code h)

by_code : (z p r c : ASN1Value) → quadruple (z ∷ p ∷ r ∷ c ∷ []) ≡ once None (quadruple_code (octet_written z) (octet_written p) (octet_written r) (octet_written c)) character
by_code z p r c = go (octet_written z) (octet_written p) (octet_written r) (octet_written c)
  where
    last : (b : Bool) (code : ℕ) → (if b then character code else None) ≡ once None (if b then Some code else None) character
    last true code = refl
    last false code = refl

    go : (z p r c : Option ℕ) →
        once None z (λ group. once None p (λ plane. once None r (λ row. once None c (λ cell.
        if nat_eq group 0 then character (65536 * plane + 256 * row + cell) else None))))
        ≡ once None (quadruple_code z p r c) character
    go None p r c = refl
    go (Some z) None r c = refl
    go (Some z) (Some p) None c = refl
    go (Some z) (Some p) (Some r) None = refl
    go (Some z) (Some p) (Some r) (Some c) = last (nat_eq z 0) (65536 * p + 256 * r + c)

pub no_code : (z p r c : ASN1Value) → quadruple_code (octet_written z) (octet_written p) (octet_written r) (octet_written c) ≡ None → quadruple (z ∷ p ∷ r ∷ c ∷ []) ≡ None
no_code z p r c e = by_code z p r c ∙ ap (λ n. once None n character) e

pub some_code : (z p r c : ASN1Value) (code : ℕ) → quadruple_code (octet_written z) (octet_written p) (octet_written r) (octet_written c) ≡ Some code → quadruple (z ∷ p ∷ r ∷ c ∷ []) ≡ character code
some_code z p r c code e = by_code z p r c ∙ ap (λ n. once None n character) e

pub named_items : (items : Items) → all_unnamed items ≡ None → string_written (BracesWritten items) ≡ None
named_items items e = ap (λ vs. once None vs quadruple) e

pub plain_items : (items : Items) (vs : List ASN1Value) → all_unnamed items ≡ Some vs → string_written (BracesWritten items) ≡ quadruple vs
plain_items items vs e = ap (λ vs. once None vs quadruple) e

pub too_few : (vs : List ValueForm) → length vs < 4 → quadruple (shown_values vs) ≡ None
too_few [] lt = refl
too_few (a ∷ []) lt = refl
too_few (a ∷ b ∷ []) lt = refl
too_few (a ∷ b ∷ c ∷ []) lt = refl
too_few (a ∷ b ∷ c ∷ d ∷ vs) lt = absurd (omega (arith, lt))

pub too_many : (vs : List ValueForm) → 5 ≤ length vs → quadruple (shown_values vs) ≡ None
too_many [] le = absurd (omega (arith, le))
too_many (a ∷ []) le = absurd (omega (arith, le))
too_many (a ∷ b ∷ []) le = absurd (omega (arith, le))
too_many (a ∷ b ∷ c ∷ []) le = absurd (omega (arith, le))
too_many (a ∷ b ∷ c ∷ d ∷ []) le = absurd (omega (arith, le))
too_many (a ∷ b ∷ c ∷ d ∷ e ∷ vs) le = refl
