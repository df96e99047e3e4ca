-- Texts that a row of a table does not have, and so go on to the next.
use Rattle.std.proofs.Common.{◌≡◌, ℕ, List, Bool, true, false, Option, None, refl, sym, ◌∙◌, arith}
use Rattle.std.specs.Option.{option_or}
use Rattle.std.specs.Str.{bytes_eq}
use Rattle.std.proofs.lemmas.Slice.Eq.{bytes_eq-Decides}

pub missed : {result test : Bool} → result ≡ test → result ≡ false → test ≡ false
missed is fails = sym is ∙ fails

pub other : {word bytes : List ℕ} → (bytes ≡ word → ⊥) → bytes_eq word bytes ≡ false
other {word = word} {bytes = bytes} differ = go (bytes_eq word bytes) refl
  where
    go : (b : Bool) → bytes_eq word bytes ≡ b → b ≡ false
    go false is = refl
    go true is = absurd (differ (grind (arith, bytes_eq-Decides word bytes)))

pub neither : {T : Type 0} {first second : Option T} → None ≡ first → None ≡ second → None ≡ option_or first second
neither none_first none_second = rw (sym none_first) none_second
