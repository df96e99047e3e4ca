-- In a text of characters, the children of a node that begins between two characters begin and end between two.
use Rattle.std.proofs.Common.{◌≡◌, ℕ, zero, suc, ◌≤◌, List, [], ◌∷◌, ◌++◌, Bool, true, false, length, refl, sym, subst, arith, ◌⊎◌, inl, inr}
use Rattle.std.specs.Prelude.{◌&&◌, ◌||◌}
use Rattle.std.specs.List.{list_all}
use Rattle.std.specs.Str.{IsUtf8, IsCharBoundary}
use Rattle.asn_rules.specs.Expression.{Expression, see, marked, seq, choice, many, never, guarded, rule, skip, rule_of}
use Rattle.asn_rules.specs.Children.{AtCharacters, Grounds, by_row, by_mark, StandsBy}
use Rattle.asn_rules.specs.Derives.{Derives, node, sees, leaves_mark, joins, takes, turns_to, repeats, idles, stops, misses, passes, stands, leaves_none}
use Rattle.asn_rules.specs.Runs.{ends}
use Rattle.asn_rules.specs.Marks.{mark_number}
use Rattle.asn_rules.specs.declared.node.Node.{Node}
use Rattle.asn_rules.specs.declared.node.Node.TheOpen.{Node-F}
use Rattle.asn_rules.specs.declared.node.Node.TheViews.{out-Node, out-roll-Node}
use Rattle.asn_rules.proofs.Characters.{Course, halts, rests, open_ended, course, is_plain, clean, are_right, Between, sight_between, not_high, Follows, follows, between, row_clean}
use Rattle.asn_rules.proofs.Total.{checked}
use Rattle.asn_rules_guards.proofs.Booleans.{and_both, or_either}
use Rattle.asn_rules.proofs.Trees.{ended_tree, within}

-- it leaves no node
abbrev silent : Expression → Bool
silent (see s) = true
silent (marked m s) = false
silent (seq a b) = silent a && silent b
silent (choice a b) = silent a && silent b
silent (many a) = silent a
silent (never a) = true
silent (guarded a g) = silent a
silent (rule r) = false
silent (skip r) = true

-- its nodes are such where it begins between two characters
abbrev kept : List Bool → Expression → Bool
kept t (see s) = true
kept t (marked m s) = is_plain s
kept t (seq a b) = kept t a && (clean t a && kept t b)
kept t (choice a b) = kept t a && kept t b
kept t (many a) = clean t a && kept t a
kept t (never a) = true
kept t (guarded a g) = kept t a
kept t (rule r) = true
kept t (skip r) = true

abbrev is_halt : Course → Bool
is_halt halts = true
is_halt rests = false
is_halt open_ended = false

-- they are such wherever it begins: it has none, or it stands before an ASCII byte alone
abbrev led : List Bool → Expression → Bool
led t e = silent e || (is_halt (course e) && kept t e)

abbrev is_never : Expression → Bool
is_never (see s) = false
is_never (marked m s) = false
is_never (seq a b) = false
is_never (choice a b) = false
is_never (many a) = false
is_never (never a) = true
is_never (guarded a g) = false
is_never (rule r) = false
is_never (skip r) = false

abbrev leads : List Expression → List Bool → Expression → Bool
leads es t (see s) = true
leads es t (marked m s) = led t (marked m s)
leads es t (seq a b) = (is_never a && leads es t b) || led t (seq a b)
leads es t (choice a b) = leads es t a && leads es t b
leads es t (many a) = leads es t a
leads es t (never a) = true
leads es t (guarded a g) = led t (guarded a g)
leads es t (rule r) = is_halt (course (rule_of es r))
leads es t (skip r) = true

abbrev pub sound : List Expression → List Bool → Expression → Bool
sound es t e = kept t e || leads es t e

module _ (text : List ℕ) where
  at_append : (m n : List Node) → AtCharacters text m → AtCharacters text n → AtCharacters text (m ++ n)
  at_append [] n a b = b
  at_append (x ∷ m) n a b = (a.0, a.1, at_append m n a.2 b)

  at_node : (r i j : ℕ) (ns : List Node) → IsCharBoundary text i → IsCharBoundary text j → AtCharacters text (node r i j ns ∷ [])
  at_node r i j ns b c =
      let x : Node-F Node = record { rule = r; start = i; end = j; children = ns } in
      (subst (λ y. IsCharBoundary text y.start) (sym (out-roll-Node x)) b, subst (λ y. IsCharBoundary text y.end) (sym (out-roll-Node x)) c, tt)

both_none : (m n : List Node) → m ≡ [] → n ≡ [] → m ++ n ≡ []
both_none m n e f = subst (λ x. x ++ n ≡ []) (sym e) f

silent_none : {rules : List Expression} {text : List ℕ} {e : Expression} {i j : ℕ} {ns : List Node} → Derives rules text e i j ns → silent e ≡ true → ns ≡ []
silent_none (sees eq) s = refl
silent_none (leaves_mark eq) s = absurd cc
silent_none (joins {a = a} {b = b} {m = m} {n = n} d f) s = let x = and_both (silent a) (silent b) s in both_none m n (silent_none d x.0) (silent_none f x.1)
silent_none (takes {a = a} {b = b} d) s = silent_none d (and_both (silent a) (silent b) s).0
silent_none (turns_to {a = a} {b = b} q d) s = silent_none d (and_both (silent a) (silent b) s).1
silent_none (repeats {m = m} {n = n} d lt f) s = both_none m n (silent_none d s) (silent_none f s)
silent_none (idles q) s = refl
silent_none (stops q) s = refl
silent_none (misses q) s = refl
silent_none (passes d eq) s = silent_none d s
silent_none (stands d) s = absurd cc
silent_none (leaves_none q) s = refl

never_none : {rules : List Expression} {text : List ℕ} {e : Expression} {i j : ℕ} {ns : List Node} → Derives rules text e i j ns → is_never e ≡ true → ns ≡ []
never_none (sees eq) s = refl
never_none (leaves_mark eq) s = absurd cc
never_none (joins d f) s = absurd cc
never_none (takes d) s = absurd cc
never_none (turns_to q d) s = absurd cc
never_none (repeats d lt f) s = absurd cc
never_none (idles q) s = refl
never_none (stops q) s = refl
never_none (misses q) s = refl
never_none (passes d eq) s = absurd cc
never_none (stands d) s = absurd cc
never_none (leaves_none q) s = refl

module _ (rules : List Expression) (text : List ℕ) (t : List Bool) (ranks : List ℕ) (fine : checked t ranks rules t ranks ≡ true) (all_clean : list_all (clean t) rules ≡ true) (all_right : are_right rules ≡ true) (utf8 : IsUtf8 text) where
  -- where it ends
  behind : {e : Expression} {i j : ℕ} {ns : List Node} → Derives rules text e i j ns → i ≤ length text → IsCharBoundary text i → clean t e ≡ true → IsCharBoundary text j
  behind {e} {i} {j} {ns} d le b m = let r = ended_tree rules text e i j ns le d in between rules text t ranks fine all_clean all_right utf8 r.1 b m

  halted : (c : Course) (i j : ℕ) → Follows rules text t ranks fine all_clean all_right utf8 c i (ends j) → is_halt c ≡ true → ⊥
  halted halts i j f is = cc
  halted rests i j f is = cc
  halted open_ended i j f is = cc

  -- what stands before an ASCII byte alone begins between two characters
  before : {e : Expression} {i j : ℕ} {ns : List Node} → Derives rules text e i j ns → i ≤ length text → is_halt (course e) ≡ true → IsCharBoundary text i
  before {e} {i} {j} {ns} d le is =
      let r = ended_tree rules text e i j ns le d in
      not_high text i le (λ high. halted (course e) i j (follows rules text t ranks fine all_clean all_right utf8 r.1 high) is)

  abbrev Kids : Expression → ℕ → List Node → Type 0
  Kids e i ns = (IsCharBoundary text i → kept t e ≡ true → AtCharacters text ns) × (leads rules t e ≡ true → AtCharacters text ns)

  by_lead : {e : Expression} {i j : ℕ} {ns : List Node} → Derives rules text e i j ns → i ≤ length text → (IsCharBoundary text i → kept t e ≡ true → AtCharacters text ns) → led t e ≡ true → AtCharacters text ns
  by_lead {e} {i} {j} {ns} d le f m = go (or_either (silent e) (is_halt (course e) && kept t e) m)
    where
      go : (silent e ≡ true) ⊎ ((is_halt (course e) && kept t e) ≡ true) → AtCharacters text ns
      go (inl s) = subst (AtCharacters text) (sym (silent_none d s)) tt
      go (inr h) = let x = and_both (is_halt (course e)) (kept t e) h in f (before d le x.0) x.1

  kids : {e : Expression} {i j : ℕ} {ns : List Node} → Derives rules text e i j ns → i ≤ length text → Kids e i ns
  kids (sees eq) le = (λ b m. tt, λ m. tt)
  kids (leaves_mark {m = w} {s = s} {i = i} {j = j} eq) le =
      let first : (IsCharBoundary text i → is_plain s ≡ true → AtCharacters text (node (mark_number w) i j [] ∷ [])) = λ b p. at_node text (mark_number w) i j [] b (subst (Between text) eq (sight_between text utf8 s i b p)) in
      (first, by_lead (leaves_mark {m = w} {s = s} eq) le first)
  kids (joins {a = a} {b = c} {i = i} {m = m} {n = n} d f) le =
      let x = kids d le in
      let y = kids f (within rules text d le).1 in
      let first : (IsCharBoundary text i → (kept t a && (clean t a && kept t c)) ≡ true → AtCharacters text (m ++ n)) = λ b p.
      let one = and_both (kept t a) (clean t a && kept t c) p in
      let two = and_both (clean t a) (kept t c) one.1 in
      at_append text m n (x.0 b one.0) (y.0 (behind d le b two.0) two.1) in (
        first,
        λ p. elim (or_either (is_never a && leads rules t c) (led t (seq a c)) p) [
          | inl q ↦ (let z = and_both (is_never a) (leads rules t c) q in subst (λ m. AtCharacters text (m ++ n)) (sym (never_none d z.0)) (y.1 z.1))
          | inr q ↦ by_lead (joins d f) le first q
        ],
      )
  kids (takes {a = a} {b = c} d) le = let x = kids d le in (λ b p. x.0 b (and_both (kept t a) (kept t c) p).0, λ p. x.1 (and_both (leads rules t a) (leads rules t c) p).0)
  kids (turns_to {a = a} {b = c} q d) le = let x = kids d le in (λ b p. x.0 b (and_both (kept t a) (kept t c) p).1, λ p. x.1 (and_both (leads rules t a) (leads rules t c) p).1)
  kids (repeats {a = a} {m = m} {n = n} d lt f) le =
      let x = kids d le in
      let y = kids f (within rules text d le).1 in
      (λ b p. let z = and_both (clean t a) (kept t a) p in at_append text m n (x.0 b z.1) (y.0 (behind d le b z.0) p), λ p. at_append text m n (x.1 p) (y.1 p))
  kids (idles q) le = (λ b p. tt, λ p. tt)
  kids (stops q) le = (λ b p. tt, λ p. tt)
  kids (misses q) le = (λ b p. tt, λ p. tt)
  kids (passes {g = g} d eq) le = let x = kids d le in (λ b p. x.0 b p, by_lead (passes {g = g} d eq) le (λ b p. x.0 b p))
  kids (stands {r} {i} {j} {n} d) le =
      let first : (IsCharBoundary text i → true ≡ true → AtCharacters text (node r i j n ∷ [])) = λ b p. at_node text r i j n b (behind d le b (row_clean rules text t ranks fine all_clean all_right utf8 rules all_clean r)) in
      (first, λ p. first (before d le p) refl)
  kids (leaves_none q) le = (λ b p. tt, λ p. tt)

  row_sound : (es : List Expression) → list_all (sound rules t) es ≡ true → (r : ℕ) → sound rules t (rule_of es r) ≡ true
  row_sound [] e r = refl
  row_sound (x ∷ es) e zero = (and_both (sound rules t x) (list_all (sound rules t) es) e).0
  row_sound (x ∷ es) e (suc r) = row_sound es (and_both (sound rules t x) (list_all (sound rules t) es) e).1 r

  pub children_at : list_all (sound rules t) rules ≡ true → (n : Node) → StandsBy rules text n → IsCharBoundary text (out-Node n).start → AtCharacters text (out-Node n).children
  children_at all_sound n is b = go is.grounds
    where
      by : (ns : List Node) → Kids (rule_of rules (out-Node n).rule) (out-Node n).start ns → (kept t (rule_of rules (out-Node n).rule) ≡ true) ⊎ (leads rules t (rule_of rules (out-Node n).rule) ≡ true) → AtCharacters text ns
      by ns k (inl p) = k.0 b p
      by ns k (inr p) = k.1 p

      go : Grounds rules text n → AtCharacters text (out-Node n).children
      go (by_row d) = by (out-Node n).children (kids d (omega (arith, is.in_order, is.within))) (or_either (kept t (rule_of rules (out-Node n).rule)) (leads rules t (rule_of rules (out-Node n).rule)) (row_sound rules all_sound (out-Node n).rule))
      go (by_mark m e none) = subst (AtCharacters text) (sym none) tt
