-- Words that a text is not.
use Rattle.std.proofs.Common.{◌≡◌, ℕ, List, Bool, true, false, refl, arith}
use Rattle.std.specs.Str.{bytes_eq}
use Rattle.std.proofs.lemmas.Slice.Eq.{bytes_eq-Decides}

-- with the word first
pub other : {word bytes : List ℕ} → (bytes ≡ word → ⊥) → bytes_eq word bytes ≡ false
other {word = word} {bytes = bytes} differ = go (bytes_eq word bytes) refl
  where
    go : (b : Bool) → bytes_eq word bytes ≡ b → b ≡ false
    go false is = refl
    go true is = absurd (differ (grind (arith, bytes_eq-Decides word bytes)))

-- with the text first
pub another : {word bytes : List ℕ} → (bytes ≡ word → ⊥) → bytes_eq bytes word ≡ false
another {word = word} {bytes = bytes} differ = go (bytes_eq bytes word) refl
  where
    go : (b : Bool) → bytes_eq bytes word ≡ b → b ≡ false
    go false is = refl
    go true is = absurd (differ (grind (arith, bytes_eq-Decides bytes word)))
