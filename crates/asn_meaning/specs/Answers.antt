-- What is known within a number of steps: an answer, a tree, or nothing yet.
use Rattle.std.specs.Prelude.{◌≡◌, Bool, true, false, List, [], ◌∷◌, Option, Some, None}

-- Three answers: yes, no, and unknown, where the steps do not reach.
pub data Answer : Type 0 where
  Yes : Answer
  No : Answer
  Unknown : Answer

-- Kleene's strong logic: a no in a conjunction stays no, and a yes in a disjunction stays yes.
abbrev pub both : Answer → Answer → Answer
both Yes b = b
both No b = No
both Unknown No = No
both Unknown Yes = Unknown
both Unknown Unknown = Unknown

abbrev pub either : Answer → Answer → Answer
either Yes b = Yes
either No b = b
either Unknown Yes = Yes
either Unknown No = Unknown
either Unknown Unknown = Unknown

abbrev pub denied : Answer → Answer
denied Yes = No
denied No = Yes
denied Unknown = Unknown

abbrev pub answer_of : Bool → Answer
answer_of true = Yes
answer_of false = No

-- the answer holds of every item
abbrev pub each : {A : Type 0} → (A → Answer) → List A → Answer
each f [] = Yes
each f (x ∷ xs) = both (f x) (each f xs)

-- What is said once something is known; before, `unknown` is said.
abbrev pub once : {A B : Type 0} → B → Option A → (A → B) → B
once unknown None f = unknown
once unknown (Some x) f = f x

-- What is said of a single value: everything where it is ALL, nothing before it is known whether it is, else what its tree
-- says.
abbrev pub unless_all : {A : Type 0} → A → A → Answer → A → A
unless_all everything unknown Yes other = everything
unless_all everything unknown No other = other
unless_all everything unknown Unknown other = unknown

-- What is denoted: a tree, none, or unknown.
pub data Denotation (A : Type 0) : Type 0 where
  Denoted : A → Denotation A
  Nothing : Denotation A
  Unsure : Denotation A

-- what is denoted of two parts together: none where one of them denotes none, else unknown where one is unknown
abbrev pub together : {A B C : Type 0} → (A → B → C) → Denotation A → Denotation B → Denotation C
together f Nothing b = Nothing
together f (Denoted x) (Denoted y) = Denoted (f x y)
together f (Denoted x) Nothing = Nothing
together f (Denoted x) Unsure = Unsure
together f Unsure Nothing = Nothing
together f Unsure (Denoted y) = Unsure
together f Unsure Unsure = Unsure

-- what is made of a part that is denoted
abbrev pub made_of : {A B : Type 0} → (A → B) → Denotation A → Denotation B
made_of f (Denoted x) = Denoted (f x)
made_of f Nothing = Nothing
made_of f Unsure = Unsure

-- denoted where there is one, else none
abbrev pub if_any : {A : Type 0} → Option A → Denotation A
if_any (Some x) = Denoted x
if_any None = Nothing

-- what is denoted where the answer is yes; none where it is no
abbrev pub provided : {A : Type 0} → Answer → A → Denotation A
provided Yes x = Denoted x
provided No x = Nothing
provided Unknown x = Unsure

-- ---- what more steps may change

-- the second answer is the first, or the first is unknown
abbrev pub Refines : Answer → Answer → Type 0
Refines Unknown b = Unit {0}
Refines Yes b = b ≡ Yes
Refines No b = b ≡ No

-- what is known stays
abbrev pub Within : {A : Type 0} → Option A → Option A → Type 0
Within None b = Unit {0}
Within (Some x) b = b ≡ Some x

-- what is denoted stays, and so does that nothing is
abbrev pub Settles : {A : Type 0} → Denotation A → Denotation A → Type 0
Settles Unsure b = Unit {0}
Settles (Denoted x) b = b ≡ Denoted x
Settles Nothing b = b ≡ Nothing
