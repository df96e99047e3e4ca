-- How an expression that ends came to its end: the nodes of the rules that it called on its way.
use Rattle.std.specs.Prelude.{◌≡◌, ℕ, ◌<◌, ◌≤◌, List, [], ◌∷◌, ◌++◌, Option, Some, None, Result, Ok, Err}
use Rattle.asn_rules.specs.declared.marks.Mark.{Mark}
use Rattle.asn_rules.specs.Marks.{mark_number}
use Rattle.asn_rules.specs.Expression.{Expression, see, marked, seq, choice, many, never, guarded, rule, skip, Sight, rule_of}
use Rattle.asn_rules.specs.Runs.{Ending, ends, fails, seen, judged, Runs}
use Rattle.asn_rules_guards.specs.declared.asked.Guard.{Guard}
use Rattle.asn_rules.specs.declared.run.MatchFault.{MatchFault}
use Rattle.asn_rules.specs.declared.run.MatchFault.TheVariants.{TooDeep, OutOfMemory}
use Rattle.asn_rules.specs.declared.node.Node.{Node}
use Rattle.asn_rules.specs.declared.node.Node.TheViews.{roll-Node, out-Node}

abbrev pub node : ℕ → ℕ → ℕ → List Node → Node
node r i j children = roll-Node (record { rule = r; start = i; end = j; children = children })

-- The expression, tried at the one offset, ends at the other by way of the nodes. What was tried and failed leaves none.
pub data Derives (rules : List Expression) (text : List ℕ) : Expression → ℕ → ℕ → List Node → Type 0 where
  sees : {s : Sight} {i j : ℕ} → seen text s i ≡ ends j → Derives rules text (see s) i j []
  leaves_mark : {m : Mark} {s : Sight} {i j : ℕ} → seen text s i ≡ ends j → Derives rules text (marked m s) i j (node (mark_number m) i j [] ∷ [])
  joins : {a b : Expression} {i j k : ℕ} {m n : List Node} → Derives rules text a i j m → Derives rules text b j k n → Derives rules text (seq a b) i k (m ++ n)
  takes : {a b : Expression} {i j : ℕ} {n : List Node} → Derives rules text a i j n → Derives rules text (choice a b) i j n
  turns_to : {a b : Expression} {i j h : ℕ} {n : List Node} → Runs rules text a i fails h → Derives rules text b i j n → Derives rules text (choice a b) i j n
  repeats : {a : Expression} {i j k : ℕ} {m n : List Node} → Derives rules text a i j m → i < j → Derives rules text (many a) j k n → Derives rules text (many a) i k (m ++ n)
  idles : {a : Expression} {i h : ℕ} → Runs rules text a i (ends i) h → Derives rules text (many a) i i []
  stops : {a : Expression} {i h : ℕ} → Runs rules text a i fails h → Derives rules text (many a) i i []
  misses : {a : Expression} {i h : ℕ} → Runs rules text a i fails h → Derives rules text (never a) i i []
  passes : {a : Expression} {g : Guard} {i j : ℕ} {n : List Node} → Derives rules text a i j n → judged text g i j ≡ ends j → Derives rules text (guarded a g) i j n
  stands : {r i j : ℕ} {n : List Node} → Derives rules text (rule_of rules r) i j n → Derives rules text (rule r) i j (node r i j n ∷ [])
  leaves_none : {r i j h : ℕ} → Runs rules text (skip r) i (ends j) h → Derives rules text (skip r) i j []

-- An expression ends exactly where it has nodes, and it has one list of them.
pub record OneTree (rules : List Expression) (text : List ℕ) (e : Expression) (i : ℕ) : Type 0 where
  pub some : (j h : ℕ) → Runs rules text e i (ends j) h → (n : List Node) × Derives rules text e i j n
  pub ended : (j : ℕ) (n : List Node) → Derives rules text e i j n → (h : ℕ) × Runs rules text e i (ends j) h
  pub only : (j k : ℕ) (m n : List Node) → Derives rules text e i j m → Derives rules text e i k n → (j ≡ k) × (m ≡ n)

-- The node of a rule exactly where it ends, none exactly where it fails, too deep exactly where the height exceeds the depth.
abbrev pub Derivation : List Expression → List ℕ → ℕ → ℕ → ℕ → Result (Option Node) MatchFault → Type 0
Derivation rules text r i depth (Ok (Some n)) = (j : ℕ) × (h : ℕ) × Runs rules text (rule r) i (ends j) h × (h ≤ depth) × Derives rules text (rule r) i j (n ∷ [])
Derivation rules text r i depth (Ok None) = (h : ℕ) × Runs rules text (rule r) i fails h × (h ≤ depth)
Derivation rules text r i depth (Err TooDeep) = (o : Ending) (h : ℕ) → Runs rules text (rule r) i o h → depth < h
Derivation rules text r i depth (Err OutOfMemory) = Unit {0}

-- The nodes stand one behind the other between two offsets, and the children of each within it.
pub data Stand : ℕ → ℕ → List Node → Type 0 where
  ends_before : {i j : ℕ} → i ≤ j → Stand i j []
  one_more : {i j : ℕ} {n : Node} {ns : List Node} → i ≤ (out-Node n).start → (out-Node n).start ≤ (out-Node n).end → Stand (out-Node n).start (out-Node n).end (out-Node n).children → Stand (out-Node n).end j ns → Stand i j (n ∷ ns)
