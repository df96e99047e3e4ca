-- The two ways of a law: from a type in its scope to its instance in the empty scope, and back.
use Rattle.std.specs.Prelude.{ℕ, zero, suc, ◌+◌, Option}
use Rattle.asn_meaning.specs.Answers.{Answer, Denotation, Refines, Settles, Within}

pub data Way : Type 0 where
  Forth : Way
  Back : Way

-- what one side knows the other knows too: by Forth what is known of the type in its scope, which stands first
abbrev pub Refined : Way → Answer → Answer → Type 0
Refined Forth a b = Refines a b
Refined Back a b = Refines b a

abbrev pub Known : {A : Type 0} → Way → Option A → Option A → Type 0
Known Forth a b = Within a b
Known Back a b = Within b a

abbrev pub Settled : {A : Type 0} → Way → Denotation A → Denotation A → Type 0
Settled Forth a b = Settles a b
Settled Back a b = Settles b a

-- The steps within which all is known of a type in its scope that is known of its instance within `n`: each name that was
-- replaced costs a step, at each level anew. It is `(n + 1) * j`.
unfoldable pub steps_back : ℕ → ℕ → ℕ
steps_back j zero = j
steps_back j (suc n) = j + steps_back j n
