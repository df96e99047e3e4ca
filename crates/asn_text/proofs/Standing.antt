-- Where texts stand in a text of characters.
use Rattle.std.proofs.Common.{◌≡◌, ℕ, ◌+◌, ◌<◌, ◌≤◌, List, ◌++◌, true, length, take, drop, refl, sym, ap, ◌∙◌, subst, arith, length-append}
use Rattle.std.proofs.lemmas.Bool.Decides.{Decides-eqb, nat_tests}
use Rattle.std.proofs.lemmas.Slice.Eq.{starts_is}
use Rattle.std.proofs.lemmas.Str.{IsUtf8-drop, IsCharBoundary-from_take, IsCharBoundary-from_rest}
use Rattle.std.proofs.Math.Seq.{take-append_seam}
use Rattle.std.specs.Prelude.{nat_eq}
use Rattle.std.specs.List.{starts_with}
use Rattle.std.specs.Str.{IsUtf8, IsCharBoundary}
use Rattle.asn_rules_guards.specs.Lexical.{is_blank}

-- behind a text that stands between two characters a character begins
pub behind_text : (text sought : List ℕ) (place : ℕ) → IsUtf8 text → IsUtf8 sought → IsCharBoundary text place → starts_with nat_eq (drop place text) sought ≡ true → IsCharBoundary text (place + length sought)
behind_text text sought place utf8 utf8' boundary stands =
    let rest = drop place text in
    let parts : rest ≡ sought ++ drop (length sought) rest = (starts_is Decides-eqb rest sought (starts_with nat_eq rest sought) refl).0 stands in
    let front : take (length sought) rest ≡ sought = ap (take (length sought)) parts ∙ take-append_seam sought (drop (length sought) rest) in
    let within : length sought ≤ length rest = omega (arith, ap length parts, length-append sought (drop (length sought) rest)) in
    let Text : List ℕ → Type 0 = λ bytes. IsUtf8 bytes in
    IsCharBoundary-from_rest text place (length sought) boundary.0
    (IsCharBoundary-from_take rest (length sought) (IsUtf8-drop text place utf8 boundary) within (subst Text (sym front) utf8'))

-- a blank is a character of ASCII
pub blank_small : (byte : ℕ) → is_blank byte ≡ true → byte < 128
blank_small byte is = grind (arith, nat_tests)
