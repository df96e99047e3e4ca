-- What a node is by the row of its rule.
use Rattle.std.specs.Prelude.{◌≡◌, ◌≤◌, ⊤, ℕ, List, [], ◌∷◌, length}
use Rattle.std.specs.Str.{IsCharBoundary}
use Rattle.asn_rules.specs.declared.marks.Mark.{Mark}
use Rattle.asn_rules.specs.Marks.{mark_number}
use Rattle.asn_rules.specs.Expression.{Expression, rule_of}
use Rattle.asn_rules.specs.Derives.{Derives}
use Rattle.asn_rules.specs.declared.node.Node.{Node}
use Rattle.asn_rules.specs.declared.node.Node.TheViews.{out-Node}

-- Between its offsets the row of its rule stands, by way of its children; or it is the leaf of a mark.
pub data Grounds (rules : List Expression) (text : List ℕ) (n : Node) : Type 0 where
  by_row : Derives rules text (rule_of rules (out-Node n).rule) (out-Node n).start (out-Node n).end (out-Node n).children → Grounds rules text n
  by_mark : (m : Mark) → (out-Node n).rule ≡ mark_number m → (out-Node n).children ≡ [] → Grounds rules text n

-- And these lie within the text.
pub record StandsBy (rules : List Expression) (text : List ℕ) (n : Node) : Type 0 where
  pub grounds : Grounds rules text n
  pub in_order : (out-Node n).start ≤ (out-Node n).end
  pub within : (out-Node n).end ≤ length text

-- And it is of this rule.
pub record Is (rules : List Expression) (text : List ℕ) (r : ℕ) (n : Node) : Type 0 where
  pub stands_by : StandsBy rules text n
  pub rule_is : (out-Node n).rule ≡ r

-- And so is each of these.
abbrev pub AllAre : List Expression → List ℕ → ℕ → List Node → Type 0
AllAre rules text r [] = ⊤
AllAre rules text r (n ∷ ns) = Is rules text r n × AllAre rules text r ns

-- Each of these begins and ends between two characters of the text (Unicode 3.9).
abbrev pub AtCharacters : List ℕ → List Node → Type 0
AtCharacters text [] = ⊤
AtCharacters text (n ∷ ns) = IsCharBoundary text (out-Node n).start × IsCharBoundary text (out-Node n).end × AtCharacters text ns
