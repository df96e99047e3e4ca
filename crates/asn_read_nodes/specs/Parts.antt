-- Names, numbers and truth values. What a reader makes of a node is nothing where the node lacks a part; no node of a
-- derivation lacks one.
use Rattle.std.specs.Prelude.{ℕ, ℤ, List, [], ◌∷◌, Bool, true, false, slice_range, Option, Some, None}
use Rattle.std.specs.Str.Lossy.{utf8_lossy}
use Rattle.asn_rules.specs.declared.names.TheConstants.{MARK_FALSE, MARK_TRUE, NUMBER_I128, SP}
use Rattle.asn_rules.specs.declared.node.Node.{Node}
use Rattle.asn_rules.specs.declared.node.Node.TheViews.{out-Node}
use Rattle.asn_rules_guards.specs.Guards.{bare, integer, natural}
use Rattle.asn_rules.specs.Nodes.{at_child, child_of, the}

-- what is made of a value that is there
abbrev pub of_some : {A B : Type 0} → Option A → (A → Option B) → Option B
of_some None f = None
of_some (Some x) f = f x

-- a list of which nothing is missing
abbrev pub all_some : {A : Type 0} → List (Option A) → Option (List A)
all_some [] = Some []
all_some (o ∷ os) = of_some o (λ x. of_some (all_some os) (λ xs. Some (x ∷ xs)))

-- what is made of a child that may be there
abbrev pub if_there : {B : Type 0} → Option Node → (Node → Option B) → Option (Option B)
if_there o f = at_child o (Some None) (λ n. of_some (f n) (λ x. Some (Some x)))

-- the bytes of a node
abbrev pub taken : List ℕ → Node → List ℕ
taken text n = slice_range text (out-Node n).start (out-Node n).end

-- and those behind the blanks and comments with which it begins
abbrev pub behind_blanks : List ℕ → Node → Option (List ℕ)
behind_blanks text n = the (child_of n SP) (λ blanks. Some (slice_range text (out-Node blanks).end (out-Node n).end))

-- A name is its bytes without the blanks before it (X.680 12.2, 12.3).
abbrev pub name_of : List ℕ → Node → Option (List ℕ)
name_of text n = of_some (behind_blanks text n) (λ bytes. Some (utf8_lossy bytes))

-- A number is what its bytes spell, blanks aside (X.680 12.8): from 0 to 2^bits - 1,
abbrev pub natural_of : ℕ → List ℕ → Node → Option ℕ
natural_of bits text n = natural bits (bare (taken text n))

-- or with a sign before it or none, from -2^bits to 2^bits - 1 (X.680 19.1).
abbrev pub integer_of : ℕ → List ℕ → Node → Option ℤ
integer_of bits text n = integer bits (bare (taken text n))

-- an INTEGER value (X.680 19.9)
abbrev pub number_of : List ℕ → Node → Option ℤ
number_of text n = the (child_of n NUMBER_I128) (integer_of 127 text)

-- TRUE or FALSE (X.680 18.3)
abbrev pub truth_of : Node → Option Bool
truth_of n = at_child (child_of n MARK_TRUE) (the (child_of n MARK_FALSE) (λ word. Some false)) (λ word. Some true)
