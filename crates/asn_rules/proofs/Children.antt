-- What children the nodes of a rule have, computed from its row.
use Rattle.std.proofs.Common.{get_or, ◌-◌, ◌≡◌, ℕ, zero, suc, ◌+◌, ◌<◌, ◌≤◌, min, max, List, [], ◌∷◌, ◌++◌, length, Bool, true, false, Option, Some, None, refl, sym, ap, ◌∙◌, subst, arith, ◌⊎◌, inl, inr}
use Rattle.std.specs.Prelude.{nat_eq, nat_le, nat_lt, not, ◌||◌, cond, IsSome, if◌then◌else◌, slice_range}
use Rattle.std.specs.List.{All, list_any}
use Rattle.std.specs.Option.{option_copied, IfSome}
use denote.Ref.{Bor}
use Rattle.std.proofs.lemmas.Bool.{leb-true}
use Rattle.std.proofs.lemmas.Bool.Decides.{Decides-eqb, Decides-ltb}
use Rattle.asn_rules.specs.Expression.{Expression, see, marked, seq, choice, many, never, guarded, rule, skip, rule_of}
use Rattle.asn_rules.specs.Derives.{Derives, node, Stand, ends_before, one_more, sees, leaves_mark, joins, takes, turns_to, repeats, idles, stops, misses, passes, stands, leaves_none}
use Rattle.asn_rules.specs.Nodes.{all_among, child_among, child_of, children_of, first_among, first_child_of, nth_among, nth_child_of}
use Rattle.asn_rules.specs.Children.{AllAre, Grounds, by_row, by_mark, StandsBy, Is}
use Rattle.asn_rules.specs.declared.marks.Mark.{Mark}
use Rattle.asn_rules.specs.Marks.{mark_number}
use Rattle.asn_rules.proofs.MarkNumbers.{above_rules}
use Rattle.asn_rules.proofs.Trees.{within, in_order}
use Rattle.asn_rules_guards.specs.Allows.{allows}
use Rattle.asn_rules.specs.Runs.{ends, fails}
use Rattle.asn_rules_guards.specs.declared.asked.Guard.{Guard}
use Rattle.asn_rules.specs.declared.node.Node.{Node}
use Rattle.asn_rules.specs.declared.node.Node.TheOpen.{Node-F}
use Rattle.asn_rules.specs.declared.node.Node.TheViews.{out-Node, out-roll-Node}

rule_of_node : (r i j : ℕ) (ns : List Node) → (out-Node (node r i j ns)).rule ≡ r
rule_of_node r i j ns = ap (λ x. x.rule) (out-roll-Node (record { rule = r; start = i; end = j; children = ns }))

-- ---- how many

abbrev pub one_if : Bool → ℕ
one_if true = 1
one_if false = 0

-- how many of the nodes are of a rule that passes the test
abbrev pub times : (ℕ → Bool) → List Node → ℕ
times p [] = 0
times p (n ∷ ns) = one_if (p (out-Node n).rule) + times p ns

times_append : (p : ℕ → Bool) (m n : List Node) → times p (m ++ n) ≡ times p m + times p n
times_append p [] n = omega arith
times_append p (x ∷ m) n = let h = times_append p m n in omega (arith, h)

times_node : (p : ℕ → Bool) (r i j : ℕ) (ns : List Node) → times p (node r i j ns ∷ []) ≡ one_if (p r)
times_node p r i j ns = let h = ap (λ q. one_if (p q)) (rule_of_node r i j ns) in omega (arith, h)

-- how many children that pass the test the expression has at least
abbrev pub least : (ℕ → Bool) → Expression → ℕ
least p (see s) = 0
least p (marked m s) = one_if (p (mark_number m))
least p (seq a b) = least p a + least p b
least p (choice a b) = min (least p a) (least p b)
least p (many a) = 0
least p (never a) = 0
least p (guarded a g) = least p a
least p (rule r) = one_if (p r)
least p (skip r) = 0

-- and at most; none where there is no bound
abbrev pub sum_of : Option ℕ → Option ℕ → Option ℕ
sum_of None o = None
sum_of (Some m) None = None
sum_of (Some m) (Some n) = Some (m + n)

abbrev pub larger_of : Option ℕ → Option ℕ → Option ℕ
larger_of None o = None
larger_of (Some m) None = None
larger_of (Some m) (Some n) = Some (max m n)

abbrev pub repeated : Option ℕ → Option ℕ
repeated None = None
repeated (Some zero) = Some 0
repeated (Some (suc n)) = None

abbrev pub most : (ℕ → Bool) → Expression → Option ℕ
most p (see s) = Some 0
most p (marked m s) = Some (one_if (p (mark_number m)))
most p (seq a b) = sum_of (most p a) (most p b)
most p (choice a b) = larger_of (most p a) (most p b)
most p (many a) = repeated (most p a)
most p (never a) = Some 0
most p (guarded a g) = most p a
most p (rule r) = Some (one_if (p r))
most p (skip r) = Some 0

abbrev pub AtMost : ℕ → Option ℕ → Type 0
AtMost k None = Unit {0}
AtMost k (Some m) = k ≤ m

at_none : (o : Option ℕ) → AtMost 0 o
at_none None = tt
at_none (Some m) = omega arith

at_sum : (k l : ℕ) (o q : Option ℕ) → AtMost k o → AtMost l q → AtMost (k + l) (sum_of o q)
at_sum k l None q a b = tt
at_sum k l (Some m) None a b = tt
at_sum k l (Some m) (Some n) a b = omega arith

at_first : (k : ℕ) (o q : Option ℕ) → AtMost k o → AtMost k (larger_of o q)
at_first k None q a = tt
at_first k (Some m) None a = tt
at_first k (Some m) (Some n) a = omega arith

at_second : (k : ℕ) (o q : Option ℕ) → AtMost k q → AtMost k (larger_of o q)
at_second k None q a = tt
at_second k (Some m) None a = tt
at_second k (Some m) (Some n) a = omega arith

at_turn : (k l : ℕ) (o : Option ℕ) → AtMost k o → AtMost l (repeated o) → AtMost (k + l) (repeated o)
at_turn k l None a b = tt
at_turn k l (Some zero) a b = omega arith
at_turn k l (Some (suc m)) a b = tt

-- ---- which words

abbrev pub rules_in : List Node → List ℕ
rules_in [] = []
rules_in (n ∷ ns) = (out-Node n).rule ∷ rules_in ns

rules_append : (m n : List Node) → rules_in (m ++ n) ≡ rules_in m ++ rules_in n
rules_append [] n = refl
rules_append (x ∷ m) n = ap (λ qs. (out-Node x).rule ∷ qs) (rules_append m n)

-- it is one of these words
abbrev pub OneOf : List (List ℕ) → List ℕ → Type 0
OneOf [] w = ⊥
OneOf (x ∷ xs) w = (w ≡ x) ⊎ OneOf xs w

one_left : (xs ys : List (List ℕ)) (w : List ℕ) → OneOf xs w → OneOf (xs ++ ys) w
one_left [] ys w h = absurd h
one_left (x ∷ xs) ys w (inl e) = inl e
one_left (x ∷ xs) ys w (inr h) = inr (one_left xs ys w h)

one_right : (xs ys : List (List ℕ)) (w : List ℕ) → OneOf ys w → OneOf (xs ++ ys) w
one_right [] ys w h = h
one_right (x ∷ xs) ys w h = inr (one_right xs ys w h)

-- whether two words are the same
abbrev pub same_word : List ℕ → List ℕ → Bool
same_word [] [] = true
same_word [] (b ∷ y) = false
same_word (a ∷ x) [] = false
same_word (a ∷ x) (b ∷ y) = cond (nat_eq a b) (same_word x y) false

same_is : (x y : List ℕ) → same_word x y ≡ true → x ≡ y
same_is [] [] e = refl
same_is [] (b ∷ y) e = absurd cc
same_is (a ∷ x) [] e = absurd cc
same_is (a ∷ x) (b ∷ y) e = go (nat_eq a b) (Decides-eqb a b).0 (λ e. same_is x y e) e
  where
    go : (t : Bool) → (t ≡ true → a ≡ b) → (same_word x y ≡ true → x ≡ y) → cond t (same_word x y) false ≡ true → a ∷ x ≡ b ∷ y
    go true d again e = let first = d refl in let rest = again e in cc
    go false d again e = absurd cc

-- the word before the words, unless it is one of them
abbrev pub with_word : List ℕ → List (List ℕ) → List (List ℕ)
with_word x ys = cond (list_any (same_word x) ys) ys (x ∷ ys)

one_of_any : (x : List ℕ) (ys : List (List ℕ)) → list_any (same_word x) ys ≡ true → OneOf ys x
one_of_any x [] e = absurd cc
one_of_any x (y ∷ ys) e = go (same_word x y) (same_is x y) (one_of_any x ys) e
  where
    go : (t : Bool) → (t ≡ true → x ≡ y) → (list_any (same_word x) ys ≡ true → OneOf ys x) → (t || list_any (same_word x) ys) ≡ true → OneOf (y ∷ ys) x
    go true d again e = inl (d refl)
    go false d again e = inr (again e)

with_one : (x w : List ℕ) (ys : List (List ℕ)) → (w ≡ x) ⊎ OneOf ys w → OneOf (with_word x ys) w
with_one x w ys h = go (list_any (same_word x) ys) (one_of_any x ys) h
  where
    go : (t : Bool) → (t ≡ true → OneOf ys x) → (w ≡ x) ⊎ OneOf ys w → OneOf (cond t ys (x ∷ ys)) w
    go true d (inl e) = subst (OneOf ys) (sym e) (d refl)
    go true d (inr k) = k
    go false d k = k

abbrev pub merged : List (List ℕ) → List (List ℕ) → List (List ℕ)
merged [] ys = ys
merged (x ∷ xs) ys = with_word x (merged xs ys)

merged_left : (xs ys : List (List ℕ)) (w : List ℕ) → OneOf xs w → OneOf (merged xs ys) w
merged_left [] ys w h = absurd h
merged_left (x ∷ xs) ys w (inl e) = with_one x w (merged xs ys) (inl e)
merged_left (x ∷ xs) ys w (inr h) = with_one x w (merged xs ys) (inr (merged_left xs ys w h))

merged_right : (xs ys : List (List ℕ)) (w : List ℕ) → OneOf ys w → OneOf (merged xs ys) w
merged_right [] ys w h = h
merged_right (x ∷ xs) ys w h = with_one x w (merged xs ys) (inr (merged_right xs ys w h))

-- each of the words behind this one
abbrev pub behind_each : List ℕ → List (List ℕ) → List (List ℕ)
behind_each x [] = []
behind_each x (y ∷ ys) = (x ++ y) ∷ behind_each x ys

behind_one : (x v : List ℕ) (ys : List (List ℕ)) → OneOf ys v → OneOf (behind_each x ys) (x ++ v)
behind_one x v [] h = absurd h
behind_one x v (y ∷ ys) (inl e) = inl (ap (λ v. x ++ v) e)
behind_one x v (y ∷ ys) (inr h) = inr (behind_one x v ys h)

abbrev pub joined : List (List ℕ) → List (List ℕ) → List (List ℕ)
joined [] ys = []
joined (x ∷ xs) ys = merged (behind_each x ys) (joined xs ys)

joined_one : (xs ys : List (List ℕ)) (u v : List ℕ) → OneOf xs u → OneOf ys v → OneOf (joined xs ys) (u ++ v)
joined_one [] ys u v h k = absurd h
joined_one (x ∷ xs) ys u v (inl e) k = merged_left (behind_each x ys) (joined xs ys) (u ++ v) (subst (λ t. OneOf (behind_each x ys) (t ++ v)) (sym e) (behind_one x v ys k))
joined_one (x ∷ xs) ys u v (inr h) k = merged_right (behind_each x ys) (joined xs ys) (u ++ v) (joined_one xs ys u v h k)

-- the words that the rules of an expression's children are; none where there is no bound on their length
abbrev pub both : (List (List ℕ) → List (List ℕ) → List (List ℕ)) → Option (List (List ℕ)) → Option (List (List ℕ)) → Option (List (List ℕ))
both f None o = None
both f (Some x) None = None
both f (Some x) (Some y) = Some (f x y)

abbrev pub still : Option (List (List ℕ)) → Option (List (List ℕ))
still (Some ([] ∷ [])) = Some ([] ∷ [])
still _ = None

abbrev pub words : Expression → Option (List (List ℕ))
words (see s) = Some ([] ∷ [])
words (marked m s) = Some ((mark_number m ∷ []) ∷ [])
words (seq a b) = both joined (words a) (words b)
words (choice a b) = both merged (words a) (words b)
words (many a) = still (words a)
words (never a) = Some ([] ∷ [])
words (guarded a g) = words a
words (rule r) = Some ((r ∷ []) ∷ [])
words (skip r) = Some ([] ∷ [])

abbrev pub WordOf : Option (List (List ℕ)) → List ℕ → Type 0
WordOf None w = Unit {0}
WordOf (Some ws) w = OneOf ws w

word_join : (o q : Option (List (List ℕ))) (u v : List ℕ) → WordOf o u → WordOf q v → WordOf (both joined o q) (u ++ v)
word_join None q u v h k = tt
word_join (Some x) None u v h k = tt
word_join (Some x) (Some y) u v h k = joined_one x y u v h k

word_first : (o q : Option (List (List ℕ))) (w : List ℕ) → WordOf o w → WordOf (both merged o q) w
word_first None q w h = tt
word_first (Some x) None w h = tt
word_first (Some x) (Some y) w h = merged_left x y w h

word_second : (o q : Option (List (List ℕ))) (w : List ℕ) → WordOf q w → WordOf (both merged o q) w
word_second None q w h = tt
word_second (Some x) None w h = tt
word_second (Some x) (Some y) w h = merged_right x y w h

word_none : (o : Option (List (List ℕ))) → WordOf (still o) []
word_none None = tt
word_none (Some []) = tt
word_none (Some ([] ∷ [])) = inl refl
word_none (Some ([] ∷ (x ∷ xs))) = tt
word_none (Some ((q ∷ qs) ∷ xs)) = tt

word_turn : (o : Option (List (List ℕ))) (u v : List ℕ) → WordOf o u → WordOf (still o) v → WordOf (still o) (u ++ v)
word_turn None u v h k = tt
word_turn (Some []) u v h k = tt
word_turn (Some ([] ∷ [])) u v (inl e) (inl f) = inl (ap (λ u. u ++ v) e ∙ f)
word_turn (Some ([] ∷ [])) u v (inl e) (inr k) = absurd k
word_turn (Some ([] ∷ [])) u v (inr h) k = absurd h
word_turn (Some ([] ∷ (x ∷ xs))) u v h k = tt
word_turn (Some ((q ∷ qs) ∷ xs)) u v h k = tt

-- ---- of a row

-- the number is a rule's, and no mark's
abbrev pub is_rule : ℕ → Bool
is_rule r = nat_le r 190

-- the words of the children of a node of the rule
abbrev pub words_of : List Expression → ℕ → Option (List (List ℕ))
words_of rules r = cond (is_rule r) (words (rule_of rules r)) None

-- whether a node of the one rule always has a child of the other
abbrev pub asks : List Expression → ℕ → ℕ → Bool
asks rules r c = cond (is_rule r) (nat_le 1 (least (λ q. nat_eq q c) (rule_of rules r))) false

abbrev pub is_within : Option ℕ → Option ℕ → Bool
is_within o None = true
is_within None (Some m) = false
is_within (Some k) (Some m) = nat_le k m

-- and whether it has more than so many
abbrev pub asks_more : List Expression → ℕ → ℕ → ℕ → Bool
asks_more rules r c k = cond (is_rule r) (nat_lt k (least (λ q. nat_eq q c) (rule_of rules r))) false

-- whether the children of a node of the rule that pass the test are so many at least and so many at most
abbrev pub counts : List Expression → ℕ → (ℕ → Bool) → ℕ → Option ℕ → Bool
counts rules r p low high = cond (is_rule r) (cond (nat_le low (least p (rule_of rules r))) (is_within (most p (rule_of rules r)) high) false) false

abbrev pub is_among : List ℕ → ℕ → Bool
is_among qs r = list_any (λ q. nat_eq q r) qs

abbrev pub EachOf : List ℕ → List Node → Type 0
EachOf qs [] = Unit {0}
EachOf qs (n ∷ ns) = (is_among qs (out-Node n).rule ≡ true) × EachOf qs ns

within_is : (k : ℕ) (o q : Option ℕ) → AtMost k o → is_within o q ≡ true → AtMost k q
within_is k o None a e = tt
within_is k None (Some m) a e = absurd cc
within_is k (Some n) (Some m) a e = let h = leb-true n m e in omega (arith, a, h)

-- ---- of what stands

module _ (rules : List Expression) (text : List ℕ) where
  -- It has at least so many,
  pub at_least : (p : ℕ → Bool) {e : Expression} {i j : ℕ} {ns : List Node} → Derives rules text e i j ns → least p e ≤ times p ns
  at_least p (sees eq) = omega arith
  at_least p (leaves_mark {m = m} {i = i} {j = j} eq) = omega (arith, times_node p (mark_number m) i j [])
  at_least p (joins {m = m} {n = n} d f) = omega (arith, times_append p m n, at_least p d, at_least p f)
  at_least p (takes d) = omega (arith, at_least p d)
  at_least p (turns_to q d) = omega (arith, at_least p d)
  at_least p (repeats d lt f) = omega arith
  at_least p (idles q) = omega arith
  at_least p (stops q) = omega arith
  at_least p (misses q) = omega arith
  at_least p (passes d eq) = at_least p d
  at_least p (stands {r} {i} {j} {n} d) = omega (arith, times_node p r i j n)
  at_least p (leaves_none q) = omega arith

  -- at most so many,
  pub at_most : (p : ℕ → Bool) {e : Expression} {i j : ℕ} {ns : List Node} → Derives rules text e i j ns → AtMost (times p ns) (most p e)
  at_most p (sees eq) = omega arith
  at_most p (leaves_mark {m = m} {i = i} {j = j} eq) = omega (arith, times_node p (mark_number m) i j [])
  at_most p (joins {a = a} {b = b} {m = m} {n = n} d f) = subst (λ k. AtMost k (sum_of (most p a) (most p b))) (sym (times_append p m n)) (at_sum (times p m) (times p n) (most p a) (most p b) (at_most p d) (at_most p f))
  at_most p (takes {a = a} {b = b} {n = n} d) = at_first (times p n) (most p a) (most p b) (at_most p d)
  at_most p (turns_to {a = a} {b = b} {n = n} q d) = at_second (times p n) (most p a) (most p b) (at_most p d)
  at_most p (repeats {a = a} {m = m} {n = n} d lt f) = subst (λ k. AtMost k (repeated (most p a))) (sym (times_append p m n)) (at_turn (times p m) (times p n) (most p a) (at_most p d) (at_most p f))
  at_most p (idles {a = a} q) = at_none (repeated (most p a))
  at_most p (stops {a = a} q) = at_none (repeated (most p a))
  at_most p (misses q) = omega arith
  at_most p (passes d eq) = at_most p d
  at_most p (stands {r} {i} {j} {n} d) = omega (arith, times_node p r i j n)
  at_most p (leaves_none q) = omega arith

  -- and their rules are one of the words.
  pub word : {e : Expression} {i j : ℕ} {ns : List Node} → Derives rules text e i j ns → WordOf (words e) (rules_in ns)
  word (sees eq) = inl refl
  word (leaves_mark {m = m} {i = i} {j = j} eq) = inl (ap (λ q. q ∷ []) (rule_of_node (mark_number m) i j []))
  word (joins {a = a} {b = b} {m = m} {n = n} d f) = subst (WordOf (both joined (words a) (words b))) (sym (rules_append m n)) (word_join (words a) (words b) (rules_in m) (rules_in n) (word d) (word f))
  word (takes {a = a} {b = b} {n = n} d) = word_first (words a) (words b) (rules_in n) (word d)
  word (turns_to {a = a} {b = b} {n = n} q d) = word_second (words a) (words b) (rules_in n) (word d)
  word (repeats {a = a} {m = m} {n = n} d lt f) = subst (WordOf (still (words a))) (sym (rules_append m n)) (word_turn (words a) (rules_in m) (rules_in n) (word d) (word f))
  word (idles {a = a} q) = word_none (words a)
  word (stops {a = a} q) = word_none (words a)
  word (misses q) = inl refl
  word (passes d eq) = word d
  word (stands {r} {i} {j} {n} d) = inl (ap (λ q. q ∷ []) (rule_of_node r i j n))
  word (leaves_none q) = inl refl

  -- Each child stands by its own row.
  abbrev pub AllStand : List Node → Type 0
  AllStand [] = Unit {0}
  AllStand (n ∷ ns) = StandsBy rules text n × AllStand ns

  all_append : (m n : List Node) → AllStand m → AllStand n → AllStand (m ++ n)
  all_append [] n a b = b
  all_append (x ∷ m) n a b = (a.0, all_append m n a.1 b)

  opened_stands : (n : Node) (x : Node-F Node) → out-Node n ≡ x → x.start ≤ x.end → x.end ≤ length text → Derives rules text (rule_of rules x.rule) x.start x.end x.children → StandsBy rules text n
  opened_stands n x e o w d =
      record {
        grounds = by_row (subst (λ y. Derives rules text (rule_of rules y.rule) y.start y.end y.children) (sym e) d);
        in_order = subst (λ y. y.start ≤ y.end) (sym e) o;
        within = subst (λ y. y.end ≤ length text) (sym e) w;
      }

  node_stands : (r i j : ℕ) (ns : List Node) → i ≤ j → j ≤ length text → Derives rules text (rule_of rules r) i j ns → StandsBy rules text (node r i j ns)
  node_stands r i j ns o w d =
      let x : Node-F Node = record { rule = r; start = i; end = j; children = ns } in
      opened_stands (node r i j ns) x (out-roll-Node x) o w d

  mark_stands : (m : Mark) (i j : ℕ) → i ≤ j → j ≤ length text → StandsBy rules text (node (mark_number m) i j [])
  mark_stands m i j o w =
      let x : Node-F Node = record { rule = mark_number m; start = i; end = j; children = [] } in
      let is = out-roll-Node x in
      record {
        grounds = by_mark m (ap (λ y. y.rule) is) (ap (λ y. y.children) is);
        in_order = subst (λ y. y.start ≤ y.end) (sym is) o;
        within = subst (λ y. y.end ≤ length text) (sym is) w;
      }

  pub all_stand : {e : Expression} {i j : ℕ} {ns : List Node} → Derives rules text e i j ns → i ≤ length text → AllStand ns
  all_stand (sees eq) le = tt
  all_stand (leaves_mark {m = m} {i = i} {j = j} eq) le = let w = within rules text (leaves_mark {m = m} eq) le in (mark_stands m i j w.0 w.1, tt)
  all_stand (joins {m = m} {n = n} d f) le = all_append m n (all_stand d le) (all_stand f (within rules text d le).1)
  all_stand (takes d) le = all_stand d le
  all_stand (turns_to q d) le = all_stand d le
  all_stand (repeats {m = m} {n = n} d lt f) le = all_append m n (all_stand d le) (all_stand f (within rules text d le).1)
  all_stand (idles q) le = tt
  all_stand (stops q) le = tt
  all_stand (misses q) le = tt
  all_stand (passes d eq) le = all_stand d le
  all_stand (stands {r} {i} {j} {n} d) le = let w = within rules text d le in (node_stands r i j n w.0 w.1 d, tt)
  all_stand (leaves_none q) le = tt

  -- so do the children of what stands
  pub kids_stand : (n : Node) → StandsBy rules text n → AllStand (out-Node n).children
  kids_stand n is = go is.grounds
    where
      go : Grounds rules text n → AllStand (out-Node n).children
      go (by_row d) = all_stand d (omega (arith, is.in_order, is.within))
      go (by_mark m e none) = subst AllStand (sym none) tt

  at_each : (ns : List Node) → AllStand ns → All (StandsBy rules text) ns
  at_each [] a = λ i d lt. absurd (omega arith)
  at_each (n ∷ ns) a = go (at_each ns a.1)
    where
      go : All (StandsBy rules text) ns → All (StandsBy rules text) (n ∷ ns)
      go rest = λ i d lt. at i d lt
        where
          at : (i : ℕ) (d : Node) → i < suc (length ns) → StandsBy rules text (get_or (n ∷ ns) i d)
          at zero d lt = a.0
          at (suc i) d lt = rest i d (omega arith)

  pub each_stands : (n : Node) → StandsBy rules text n → All (StandsBy rules text) (out-Node n).children
  each_stands n is = at_each (out-Node n).children (kids_stand n is)

  -- The node of a rule that stands is a node of that rule.
  pub is_of : (r i j : ℕ) (n : Node) → Derives rules text (rule r) i j (n ∷ []) → i ≤ length text → Is rules text r n
  is_of r i j n d le = record { stands_by = (all_stand d le).0; rule_is = only (word d) }
    where
      only : OneOf ((r ∷ []) ∷ []) ((out-Node n).rule ∷ []) → (out-Node n).rule ≡ r
      only (inl e) = cc
      only (inr h) = absurd h

  -- ---- what a reader asks for

  among_has : (r : ℕ) (ns : List Node) → 1 ≤ times (λ q. nat_eq q r) ns → IsSome (child_among ns r)
  among_has r [] h = absurd (omega (arith, h))
  among_has r (n ∷ ns) h = go (nat_eq (out-Node n).rule r) (among_has r ns) h
    where
      go : (t : Bool) → (1 ≤ times (λ q. nat_eq q r) ns → IsSome (child_among ns r)) → 1 ≤ one_if t + times (λ q. nat_eq q r) ns → IsSome (cond t (Some n) (child_among ns r))
      go true again h = refl
      go false again h = again (omega (arith, h))

  among_is : (r : ℕ) (ns : List Node) (c : Node) → AllStand ns → child_among ns r ≡ Some c → Is rules text r c
  among_is r [] c all e = absurd cc
  among_is r (n ∷ ns) c all e = go (nat_eq (out-Node n).rule r) (Decides-eqb (out-Node n).rule r).0 (among_is r ns c all.1) e
    where
      go : (t : Bool) → (t ≡ true → (out-Node n).rule ≡ r) → (child_among ns r ≡ Some c → Is rules text r c) → cond t (Some n) (child_among ns r) ≡ Some c → Is rules text r c
      go true d again e =
          let same : n ≡ c = cc in
          subst (Is rules text r) same (record { stands_by = all.0; rule_is = d refl })
      go false d again e = again e

  nth_is : (r : ℕ) (ns : List Node) (k : ℕ) (c : Node) → AllStand ns → nth_among ns r k ≡ Some c → Is rules text r c
  nth_is r [] k c all e = absurd cc
  nth_is r (n ∷ ns) k c all e = go (nat_eq (out-Node n).rule r) (nat_eq k 0) (Decides-eqb (out-Node n).rule r).0 (λ l. nth_is r ns l c all.1) e
    where
      go : (t u : Bool) → (t ≡ true → (out-Node n).rule ≡ r) → ((l : ℕ) → nth_among ns r l ≡ Some c → Is rules text r c) → cond t (cond u (Some n) (nth_among ns r (k - 1))) (nth_among ns r k) ≡ Some c → Is rules text r c
      go true true d again e =
          let same : n ≡ c = cc in
          subst (Is rules text r) same (record { stands_by = all.0; rule_is = d refl })
      go true false d again e = again (k - 1) e
      go false u d again e = again k e

  nth_has : (r : ℕ) (ns : List Node) (k : ℕ) → k < times (λ q. nat_eq q r) ns → IsSome (nth_among ns r k)
  nth_has r [] k h = absurd (omega (arith, h))
  nth_has r (n ∷ ns) k h = go (nat_eq (out-Node n).rule r) (nat_eq k 0) (Decides-eqb k 0) (λ l. nth_has r ns l) h
    where
      go : (t u : Bool) → (u ≡ true → k ≡ 0) × (k ≡ 0 → u ≡ true) → ((l : ℕ) → l < times (λ q. nat_eq q r) ns → IsSome (nth_among ns r l)) → k < one_if t + times (λ q. nat_eq q r) ns → IsSome (cond t (cond u (Some n) (nth_among ns r (k - 1))) (nth_among ns r k))
      go true true d again h = refl
      go true false d again h = again (k - 1) (grind (arith, d, h))
      go false u d again h = again k (omega (arith, h))

  among_are : (r : ℕ) (ns : List Node) → AllStand ns → AllAre rules text r (all_among ns r)
  among_are r [] all = tt
  among_are r (n ∷ ns) all = go (nat_eq (out-Node n).rule r) (Decides-eqb (out-Node n).rule r).0 (among_are r ns all.1)
    where
      go : (t : Bool) → (t ≡ true → (out-Node n).rule ≡ r) → AllAre rules text r (all_among ns r) → AllAre rules text r (cond t (n ∷ all_among ns r) (all_among ns r))
      go true d rest = (record { stands_by = all.0; rule_is = d refl }, rest)
      go false d rest = rest

  pub all_are : (n : Node) (r : ℕ) → StandsBy rules text n → AllAre rules text r (children_of n r)
  all_are n r s = among_are r (out-Node n).children (kids_stand n s)

  pub nth_stands : (n : Node) (r k : ℕ) (o : Option (Bor Node)) → option_copied o ≡ nth_child_of n r k → StandsBy rules text n → IfSome o (λ c. Is rules text r c.now)
  nth_stands n r k None e s = tt
  nth_stands n r k (Some c) e s = nth_is r (out-Node n).children k c.now (kids_stand n s) (sym e)

  pub first_stands : (n c : Node) → first_child_of n ≡ Some c → StandsBy rules text n → StandsBy rules text c
  first_stands n c e s = go (out-Node n).children e (kids_stand n s)
    where
      go : (ns : List Node) → first_among ns ≡ Some c → AllStand ns → StandsBy rules text c
      go [] e a = absurd cc
      go (x ∷ xs) e a = let same : x ≡ c = cc in subst (StandsBy rules text) same a.0

  -- and lies within the node
  stand_ends : {i j : ℕ} {ns : List Node} → Stand i j ns → i ≤ j
  stand_ends (ends_before l) = l
  stand_ends (one_more l w kids rest) = omega (arith, l, w, stand_ends rest)

  among_inside : (r : ℕ) (c : Node) {i j : ℕ} {ns : List Node} → Stand i j ns → child_among ns r ≡ Some c → (i ≤ (out-Node c).start) × ((out-Node c).end ≤ j)
  among_inside r c (ends_before l) e = absurd cc
  among_inside r c {i} {j} (one_more {n = n} {ns = ns} l w kids rest) e = go (nat_eq (out-Node n).rule r) (λ e. among_inside r c rest e) e
    where
      go : (t : Bool) → (child_among ns r ≡ Some c → ((out-Node n).end ≤ (out-Node c).start) × ((out-Node c).end ≤ j)) → cond t (Some n) (child_among ns r) ≡ Some c → (i ≤ (out-Node c).start) × ((out-Node c).end ≤ j)
      go true again e =
          let same : n ≡ c = cc in
          subst (λ c. (i ≤ (out-Node c).start) × ((out-Node c).end ≤ j)) same (l, stand_ends rest)
      go false again e = let x = again e in (omega (arith, l, w, x.0), x.1)

  pub child_inside : (n c : Node) (r : ℕ) → StandsBy rules text n → child_of n r ≡ Some c → ((out-Node n).start ≤ (out-Node c).start) × ((out-Node c).end ≤ (out-Node n).end)
  child_inside n c r s e = go s.grounds
    where
      go : Grounds rules text n → ((out-Node n).start ≤ (out-Node c).start) × ((out-Node c).end ≤ (out-Node n).end)
      go (by_row d) = among_inside r c (in_order rules text d (omega (arith, s.in_order, s.within))) e
      go (by_mark m is none) = let gone : child_among [] r ≡ Some c = subst (λ ns. child_among ns r ≡ Some c) none e in absurd cc

  -- what is found among a node's children stands by its own row
  pub found_stands : (n : Node) (r : ℕ) (o : Option (Bor Node)) → option_copied o ≡ child_of n r → StandsBy rules text n → IfSome o (λ k. Is rules text r k.now)
  found_stands n r None e s = tt
  found_stands n r (Some k) e s = among_is r (out-Node n).children k.now (kids_stand n s) (sym e)

  row_of : (r : ℕ) (n : Node) → Is rules text r n → is_rule r ≡ true → Derives rules text (rule_of rules r) (out-Node n).start (out-Node n).end (out-Node n).children
  row_of r n is low = go is.stands_by.grounds
    where
      go : Grounds rules text n → Derives rules text (rule_of rules r) (out-Node n).start (out-Node n).end (out-Node n).children
      go (by_row d) = subst (λ q. Derives rules text (rule_of rules q) (out-Node n).start (out-Node n).end (out-Node n).children) is.rule_is d
      go (by_mark m e none) = absurd (omega (arith, leb-true r 190 low, above_rules m, e, is.rule_is))

  ruled : (t u : Bool) → cond t u false ≡ true → (t ≡ true) × (u ≡ true)
  ruled true u e = (refl, e)
  ruled false u e = absurd cc

  -- A node has the child that its row asks for,
  pub has_child : (r c : ℕ) (n : Node) → Is rules text r n → asks rules r c ≡ true → IsSome (child_of n c)
  has_child r c n is e =
      let both = ruled (is_rule r) (nat_le 1 (least (λ q. nat_eq q c) (rule_of rules r))) e in
      let low = leb-true 1 (least (λ q. nat_eq q c) (rule_of rules r)) both.1 in
      let h = at_least (λ q. nat_eq q c) (row_of r n is both.0) in
      among_has c (out-Node n).children (omega (arith, low, h))

  pub has_nth : (r c k : ℕ) (n : Node) → Is rules text r n → asks_more rules r c k ≡ true → IsSome (nth_child_of n c k)
  has_nth r c k n is e =
      let both = ruled (is_rule r) (nat_lt k (least (λ q. nat_eq q c) (rule_of rules r))) e in
      let low = (Decides-ltb k (least (λ q. nat_eq q c) (rule_of rules r))).0 both.1 in
      let h = at_least (λ q. nat_eq q c) (row_of r n is both.0) in
      nth_has c (out-Node n).children k (omega (arith, low, h))

  -- What a guarded row took passes its guard.
  pub guard_passed : (r : ℕ) (a : Expression) (g : Guard) (n : Node) → Is rules text r n → is_rule r ≡ true → rule_of rules r ≡ guarded a g → allows g (slice_range text (out-Node n).start (out-Node n).end) ≡ true
  guard_passed r a g n is low e = go (subst (λ x. Derives rules text x (out-Node n).start (out-Node n).end (out-Node n).children) e (row_of r n is low))
    where
      go : {i j : ℕ} {ns : List Node} → Derives rules text (guarded a g) i j ns → allows g (slice_range text i j) ≡ true
      go {i} {j} (passes d eq) = said (allows g (slice_range text i j)) eq
        where
          said : (t : Bool) → (if t then ends j else fails) ≡ ends j → t ≡ true
          said true e = refl
          said false e = absurd cc

  -- and a child of a rule is a node of that rule.
  pub child_is : (r c : ℕ) (n k : Node) → Is rules text r n → child_of n c ≡ Some k → Is rules text c k
  child_is r c n k is e = among_is c (out-Node n).children k (kids_stand n is.stands_by) e

  -- Its children are so many at least and at most,
  pub bounds : (r : ℕ) (p : ℕ → Bool) (low : ℕ) (high : Option ℕ) (n : Node) → Is rules text r n → counts rules r p low high ≡ true → (low ≤ times p (out-Node n).children) × AtMost (times p (out-Node n).children) high
  bounds r p low high n is e =
      let both = ruled (is_rule r) (cond (nat_le low (least p (rule_of rules r))) (is_within (most p (rule_of rules r)) high) false) e in
      let parts = ruled (nat_le low (least p (rule_of rules r))) (is_within (most p (rule_of rules r)) high) both.1 in
      let row = row_of r n is both.0 in
      let l = leb-true low (least p (rule_of rules r)) parts.0 in
      let h = at_least p row in
      (omega (arith, l, h), within_is (times p (out-Node n).children) (most p (rule_of rules r)) high (at_most p row) parts.1)

  -- and their rules are one of the row's words.
  pub word_of : (r : ℕ) (ws : List (List ℕ)) (n : Node) → Is rules text r n → words_of rules r ≡ Some ws → OneOf ws (rules_in (out-Node n).children)
  word_of r ws n is e = go (is_rule r) (row_of r n is) e
    where
      go : (t : Bool) → (t ≡ true → Derives rules text (rule_of rules r) (out-Node n).start (out-Node n).end (out-Node n).children) → cond t (words (rule_of rules r)) None ≡ Some ws → OneOf ws (rules_in (out-Node n).children)
      go true row e = subst (λ o. WordOf o (rules_in (out-Node n).children)) e (word (row refl))
      go false row e = absurd cc

  pub only_word : (r : ℕ) (w : List ℕ) (n : Node) → Is rules text r n → words_of rules r ≡ Some (w ∷ []) → rules_in (out-Node n).children ≡ w
  only_word r w n is e = only (word_of r (w ∷ []) n is e)
    where
      only : OneOf (w ∷ []) (rules_in (out-Node n).children) → rules_in (out-Node n).children ≡ w
      only (inl e) = e
      only (inr h) = absurd h

  -- Where it has one child of any rule, it is that child,
  pub one_child : (r : ℕ) (n : Node) → Is rules text r n → counts rules r (λ q. true) 1 (Some 1) ≡ true → (c : Node) × ((out-Node n).children ≡ c ∷ []) × StandsBy rules text c
  one_child r n is e = go (out-Node n).children (bounds r (λ q. true) 1 (Some 1) n is e) (kids_stand n is.stands_by)
    where
      none_left : (ns : List Node) → 1 + times (λ q. true) ns ≤ 1 → ns ≡ []
      none_left [] h = refl
      none_left (x ∷ xs) h = absurd (omega (arith, h))

      go : (ns : List Node) → (1 ≤ times (λ q. true) ns) × (times (λ q. true) ns ≤ 1) → AllStand ns → (c : Node) × (ns ≡ c ∷ []) × StandsBy rules text c
      go [] b all = absurd (omega (arith, b.0))
      go (c ∷ ns) b all = (c, ap (λ xs. c ∷ xs) (none_left ns b.1), all.0)

  -- and each is of one of the rules.
  pub each_of : (r : ℕ) (qs : List ℕ) (n : Node) → Is rules text r n → counts rules r (λ q. not (is_among qs q)) 0 (Some 0) ≡ true → EachOf qs (out-Node n).children
  each_of r qs n is e = go (out-Node n).children (bounds r (λ q. not (is_among qs q)) 0 (Some 0) n is e).1
    where
      here : (t : Bool) (k : ℕ) → one_if (not t) + k ≤ 0 → (t ≡ true) × (k ≤ 0)
      here true k h = (refl, omega (arith, h))
      here false k h = absurd (omega (arith, h))

      go : (ns : List Node) → times (λ q. not (is_among qs q)) ns ≤ 0 → EachOf qs ns
      go [] h = tt
      go (x ∷ xs) h =
          let both = here (is_among qs (out-Node x).rule) (times (λ q. not (is_among qs q)) xs) h in
          (both.0, go xs both.1)

  -- The children along a word: the first, and those behind it.
  pub record Along (q : ℕ) (qs : List ℕ) (ns : List Node) : Type 0 where
    pub first : Node
    pub behind : List Node
    pub all : ns ≡ first ∷ behind
    pub first_is : Is rules text q first
    pub behind_stand : AllStand behind
    pub behind_are : rules_in behind ≡ qs

  pub along : (q : ℕ) (qs : List ℕ) (ns : List Node) → AllStand ns → rules_in ns ≡ q ∷ qs → Along q qs ns
  along q qs [] all e = absurd cc
  along q qs (n ∷ ns) all e = record { first = n; behind = ns; all = refl; first_is = record { stands_by = all.0; rule_is = cc }; behind_stand = all.1; behind_are = cc }

  pub none_along : (ns : List Node) → rules_in ns ≡ [] → ns ≡ []
  none_along [] e = refl
  none_along (n ∷ ns) e = absurd cc

  -- The children of a node of a rule with one word.
  pub children_along : (r q : ℕ) (qs : List ℕ) (n : Node) → Is rules text r n → words_of rules r ≡ Some ((q ∷ qs) ∷ []) → Along q qs (out-Node n).children
  children_along r q qs n is e = along q qs (out-Node n).children (kids_stand n is.stands_by) (only_word r (q ∷ qs) n is e)
