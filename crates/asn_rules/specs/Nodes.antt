-- Functions of a whole node, by a step that sees each child beside what was made of it.
use Rattle.std.specs.Prelude.{ℕ, ◌-◌, List, [], ◌∷◌, map, nat_eq, Option, Some, None, cond}
use Rattle.std.specs.List.{find}
use Rattle.asn_rules.specs.declared.node.Node.{Node}
use Rattle.asn_rules.specs.declared.node.Node.TheOpen.{Node-F}
use Rattle.asn_rules.specs.declared.node.Node.TheViews.{roll-Node, out-Node}
use Rattle.asn_rules.specs.declared.node.Node.TheFolds.{fold-Node}

-- a node opened, with a value beside each child
abbrev pub Opened : Type 0 → Type 0
Opened A = Node-F (Node × A)

abbrev pub closed : {A : Type 0} → Opened A → Node
closed x = roll-Node (record { rule = x.rule; start = x.start; end = x.end; children = map (λ c. c.0) x.children })

abbrev pub both_step : (A : Type 0) → (Opened A → A) → Opened A → Node × A
both_step A step x = (closed x, step x)

abbrev pub para : (A : Type 0) → (Opened A → A) → Node → A
para A step n = (fold-Node (Node × A) (both_step A step) n).1

-- the first of this rule
abbrev pub child_among : List Node → ℕ → Option Node
child_among ns r = find (λ n. nat_eq (out-Node n).rule r) ns

abbrev pub child_of : Node → ℕ → Option Node
child_of n r = child_among (out-Node n).children r

-- the one of this rule that has so many of this rule before it
abbrev pub nth_among : List Node → ℕ → ℕ → Option Node
nth_among [] r k = None
nth_among (n ∷ ns) r k = cond (nat_eq (out-Node n).rule r) (cond (nat_eq k 0) (Some n) (nth_among ns r (k - 1))) (nth_among ns r k)

abbrev pub nth_child_of : Node → ℕ → ℕ → Option Node
nth_child_of n r k = nth_among (out-Node n).children r k

-- all of this rule, in order
abbrev pub all_among : List Node → ℕ → List Node
all_among [] r = []
all_among (n ∷ ns) r = cond (nat_eq (out-Node n).rule r) (n ∷ all_among ns r) (all_among ns r)

abbrev pub children_of : Node → ℕ → List Node
children_of n r = all_among (out-Node n).children r

abbrev pub first_among : List Node → Option Node
first_among [] = None
first_among (n ∷ ns) = Some n

abbrev pub first_child_of : Node → Option Node
first_child_of n = first_among (out-Node n).children

abbrev pub at_child : {B : Type 0} → Option Node → B → (Node → B) → B
at_child None z f = z
at_child (Some n) z f = f n

-- what is made of a child that must be there: nothing where it is missing
abbrev pub the : {B : Type 0} → Option Node → (Node → Option B) → Option B
the o f = at_child o None f

-- what was made of the first child of this rule
abbrev pub made : {A B : Type 0} → List (Node × A) → ℕ → B → (A → B) → B
made [] r z f = z
made (c ∷ cs) r z f = cond (nat_eq (out-Node c.0).rule r) (f c.1) (made cs r z f)

-- what was made of each child of this rule
abbrev pub made_all : {A B : Type 0} → List (Node × A) → ℕ → (A → B) → List B
made_all [] r f = []
made_all (c ∷ cs) r f = cond (nat_eq (out-Node c.0).rule r) (f c.1 ∷ made_all cs r f) (made_all cs r f)

abbrev pub at_children : {B : Type 0} → List Node → ℕ → (Node → B) → List B
at_children [] r f = []
at_children (n ∷ ns) r f = cond (nat_eq (out-Node n).rule r) (f n ∷ at_children ns r f) (at_children ns r f)
