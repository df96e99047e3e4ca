-- What the derivation of a form says of those within it.
use Rattle.std.proofs.Common.{◌≡◌, ℕ, ◌+◌, ◌<◌, ◌≤◌, List, [], ◌∷◌, ◌++◌, Bool, true, false, Some, None, length, drop, refl, ap, arith, ◌⊎◌, inl, inr}
use Rattle.std.specs.Prelude.{nat_eq, cond, if◌then◌else◌}
use Rattle.asn_rules_guards.specs.Lexical.{stands as sees_here, width}
use Rattle.asn_rules_guards.specs.declared.asked.Guard.{Guard}
use Rattle.asn_rules.specs.Expression.{Expression, Sight, see, seq, choice, many, guarded, rule, skip, rule_of}
use Rattle.asn_rules.specs.Runs.{Ending, ends, fails, Runs}
use Rattle.asn_rules.specs.Derives.{Derives, node, sees, joins, takes, turns_to, repeats, idles, stops, passes, stands, leaves_none}
use Rattle.asn_rules.specs.Nodes.{at_children, child_among}
use Rattle.asn_rules.specs.declared.node.Node.{Node}
use Rattle.asn_rules.specs.declared.node.Node.TheOpen.{Node-F}
use Rattle.asn_rules.specs.declared.node.Node.TheViews.{out-Node, out-roll-Node}
use Rattle.asn_rules.proofs.Trees.{ended_tree}
use Rattle.asn_rules.proofs.Theory.{one_outcome}
use Rattle.asn_text.proofs.Tries as tries

-- ---- nodes

pub opened : {A : Type 0} (F : Node-F Node → A) (r i j : ℕ) (ns : List Node) → F (out-Node (node r i j ns)) ≡ F (record { rule = r; start = i; end = j; children = ns })
opened F r i j ns = ap F (out-roll-Node (record { rule = r; start = i; end = j; children = ns }))

pub among_first : (r i j : ℕ) (kids ns : List Node) (q : ℕ) → child_among (node r i j kids ∷ ns) q ≡ cond (nat_eq r q) (Some (node r i j kids)) (child_among ns q)
among_first r i j kids ns q = opened (λ x. cond (nat_eq x.rule q) (Some (node r i j kids)) (child_among ns q)) r i j kids

pub at_first : {B : Type 0} (f : Node → B) (r i j : ℕ) (kids ns : List Node) (q : ℕ) → at_children (node r i j kids ∷ ns) q f ≡ cond (nat_eq r q) (f (node r i j kids) ∷ at_children ns q f) (at_children ns q f)
at_first f r i j kids ns q = opened (λ x. cond (nat_eq x.rule q) (f (node r i j kids) ∷ at_children ns q f) (at_children ns q f)) r i j kids

pub among_append : (r : ℕ) (ns more : List Node) → child_among more r ≡ None → child_among (ns ++ more) r ≡ child_among ns r
among_append r [] more e = e
among_append r (n ∷ ns) more e = ap (λ o. cond (nat_eq (out-Node n).rule r) (Some n) o) (among_append r ns more e)

module _ (rules : List Expression) (text : List ℕ) where
  pub record Joined (a b : Expression) (i j : ℕ) (ns : List Node) : Type 0 where
    pub middle : ℕ
    pub before : List Node
    pub behind : List Node
    pub first : Derives rules text a i middle before
    pub second : Derives rules text b middle j behind
    pub all : ns ≡ before ++ behind

  pub joined : {a b : Expression} {i j : ℕ} {ns : List Node} → Derives rules text (seq a b) i j ns → Joined a b i j ns
  joined (joins {j = k} {m = before} {n = behind} d f) = record { middle = k; before = before; behind = behind; first = d; second = f; all = refl }

  pub record Called (r i j : ℕ) (ns : List Node) : Type 0 where
    pub kids : List Node
    pub row : Derives rules text (rule_of rules r) i j kids
    pub one : ns ≡ node r i j kids ∷ []

  pub called : {r i j : ℕ} {ns : List Node} → Derives rules text (rule r) i j ns → Called r i j ns
  called (stands {n = kids} d) = record { kids = kids; row = d; one = refl }

  pub record Seen (s : Sight) (i j : ℕ) (ns : List Node) : Type 0 where
    pub there : sees_here s (drop i text) ≡ true
    pub next : i + width s ≡ j
    pub none : ns ≡ []

  pub seen_here : {s : Sight} {i j : ℕ} {ns : List Node} → Derives rules text (see s) i j ns → Seen s i j ns
  seen_here (sees {s} {i} {j} e) = go (sees_here s (drop i text)) refl e
    where
      go : (b : Bool) → sees_here s (drop i text) ≡ b → (if b then ends (i + width s) else fails) ≡ ends j → Seen s i j []
      go true is e = record { there = is; next = cc; none = refl }
      go false is e = absurd cc

  pub passed_over : {r i j : ℕ} {ns : List Node} → Derives rules text (skip r) i j ns → (h : ℕ) × Runs rules text (rule r) i (ends j) h × (ns ≡ [])
  passed_over (leaves_none {h = h} p) = (h, tries.skipped rules text p, refl)

  pub either : {a b : Expression} {i j : ℕ} {ns : List Node} → Derives rules text (choice a b) i j ns → Derives rules text a i j ns ⊎ Derives rules text b i j ns
  either (takes d) = inl d
  either (turns_to p d) = inr d

  pub kept : {a : Expression} {g : Guard} {i j : ℕ} {ns : List Node} → Derives rules text (guarded a g) i j ns → Derives rules text a i j ns
  kept (passes d e) = d

  -- where a repetition ends its turn fails or takes nothing,
  record Last (a : Expression) (j : ℕ) : Type 0 where
    ending : Ending
    height : ℕ
    run : Runs rules text a j ending height
    none : (k : ℕ) → j < k → ending ≡ ends k → ⊥

  last : {a : Expression} {i j : ℕ} {ns : List Node} → Derives rules text (many a) i j ns → Last a j
  last (repeats d lt f) = last f
  last (idles {i = i} {h = h} p) = record { ending = ends i; height = h; run = p; none = λ k lt e. let same : i ≡ k = cc in omega (arith, lt, same) }
  last (stops {h = h} p) = record { ending = fails; height = h; run = p; none = λ k lt e. cc }

  -- so that another behind it has no turn
  pub none_behind : {a : Expression} {i j k : ℕ} {ms ns : List Node} → j ≤ length text → Derives rules text (many a) i j ms → Derives rules text (many a) j k ns → ns ≡ []
  none_behind {a} {j = j} le d (repeats {j = m} {m = before} p lt q) = absurd (let l = last d in let r = ended_tree rules text a j m before le p in l.none m lt (one_outcome rules text a j l.ending (ends m) l.height r.0 le l.run r.1).0)
  none_behind le d (idles p) = refl
  none_behind le d (stops p) = refl
