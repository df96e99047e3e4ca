-- The items of an enumeration as its nodes tell them are those that its bytes tell.
use Rattle.std.proofs.Common.{◌≡◌, ℕ, ◌+◌, ◌-◌, ◌<◌, ◌≤◌, List, [], ◌∷◌, ◌++◌, Bool, true, false, not, Option, ℤ, length, get_or, drop, take, refl, sym, ap, ◌∙◌, subst, arith, codes, ◌⊎◌, inl, inr, append-nil}
use Rattle.std.specs.Prelude.{nat_eq, ◌&&◌, slice_range}
use Rattle.std.specs.List.{list_all, starts_with}
use Rattle.asn_rules_guards.specs.Lexical.{first_in, in_class, word_ends}
use Rattle.asn_rules_guards.specs.declared.asked.ByteClass.TheVariants.{Alnum, Letter}
use Rattle.asn_rules_guards.specs.declared.asked.Guard.TheVariants.{NumbersFit}
use Rattle.asn_rules_guards.specs.Guards.{within}
use Rattle.asn_rules_guards.specs.Outside.{outside_from}
use Rattle.asn_rules_guards.specs.Enumerations.{added_items, behind_name, items_from, past_from, root_items}
use Rattle.asn_rules_guards.proofs.Exact.{is_exact}
use Rattle.asn_rules_guards.proofs.Bare.{outside_none, outside_stands}
use Rattle.asn_rules_guards.proofs.Items.{item_here, items_end, items_none, past_here, past_none}
use Rattle.asn_rules.specs.Children.{Is, Grounds, by_mark, by_row}
use Rattle.asn_rules.specs.Expression.{Expression, guarded, many, rule, rule_of}
use Rattle.asn_rules.specs.Forms.{◌·◌, keyword, letter, literal, maybe, sp, symbol}
use Rattle.asn_rules.specs.LexicalRules.{lexical_rules_before}
use Rattle.asn_rules.specs.ValueRules.{value_rules_before}
use Rattle.asn_rules.specs.TypeRules.{type_rules_before}
use Rattle.asn_rules.specs.Runs.{ends, Runs}
use Rattle.asn_rules.specs.Derives.{Derives, node, repeats, idles, stops}
use Rattle.asn_rules.specs.Nodes.{at_children, child_among, the}
use Rattle.asn_rules.specs.Whole.{whole_rules}
use Rattle.asn_rules.specs.declared.node.Node.{Node}
use Rattle.asn_rules.specs.declared.node.Node.TheViews.{out-Node}
use Rattle.asn_tree_numbers.specs.Enumeration.{NumbersPass}
use Rattle.asn_rules.proofs.Children.{guard_passed}
use Rattle.asn_rules.proofs.MarkNumbers.{above_rules}
use Rattle.asn_rules.proofs.Trees.{ended_tree, within as lies}
use Rattle.asn_read_nodes.specs.Enumerals.{item_of, items_of, EnumeratedNumbersFit, ItemsAreThoseOfBytes}
use Rattle.asn_read_nodes.specs.Parts.{number_of, taken}
use Rattle.asn_read_nodes.proofs.Blanks.{blanks}
use Rattle.asn_read_nodes.proofs.Derived.{among_first, at_first, called, either, joined, kept, none_behind, opened, passed_over, seen_here}
use Rattle.asn_read_nodes.proofs.ItemBytes.{Blind, alnum_plain, alnum_dotless, behind_marker, dotless, items_blind, letter_alnum, letter_no_dot, marker_blind, letter_no_hyphen, letter_no_paren, name_stops, passes_word, past_blind, quiet, quieter}
use Rattle.asn_read_nodes.proofs.NumberBytes.{tail, tail_passed}
use Rattle.asn_read_nodes.proofs.Slices.{byte_here, class_here, gap_here, plain, plain_here, plain_outside, word_here}
use Rattle.asn_read_nodes.proofs.Enumerals.{Lands, behind_it, comma, empty_at, symbol_at, symbol_first, symbol_lands, symbol_passed}

abbrev row_8 : Expression
row_8 = sp · letter · rule 7

abbrev row_88 : Expression
row_88 = keyword (codes "ENUMERATED") · symbol (codes "{") · rule 89 · maybe (rule 63) · rule 89 · symbol (codes "}")

module _ (text : List ℕ) where
  of_8 : {i j : ℕ} {ns : List Node} → Derives whole_rules text (rule_of whole_rules 8) i j ns → Derives whole_rules text row_8 i j ns
  unfolding whole_rules lexical_rules_before
  of_8 d = d

  of_21 : {i j : ℕ} {ns : List Node} → Derives whole_rules text (rule_of whole_rules 21) i j ns → Derives whole_rules text (symbol (codes "...")) i j ns
  unfolding whole_rules lexical_rules_before
  of_21 d = d

  of_63 : {i j : ℕ} {ns : List Node} → Derives whole_rules text (rule_of whole_rules 63) i j ns → Derives whole_rules text (rule 21 · maybe (symbol (codes ","))) i j ns
  unfolding whole_rules lexical_rules_before value_rules_before type_rules_before
  of_63 d = d

  of_88 : {i j : ℕ} {ns : List Node} → Derives whole_rules text (rule_of whole_rules 88) i j ns → Derives whole_rules text row_88 i j ns
  unfolding whole_rules lexical_rules_before value_rules_before type_rules_before
  of_88 d = kept whole_rules text {g = NumbersFit} d

  of_89 : {i j : ℕ} {ns : List Node} → Derives whole_rules text (rule_of whole_rules 89) i j ns → Derives whole_rules text (many (rule 90)) i j ns
  unfolding whole_rules lexical_rules_before value_rules_before type_rules_before
  of_89 d = d

  of_90 : {i j : ℕ} {ns : List Node} → Derives whole_rules text (rule_of whole_rules 90) i j ns → Derives whole_rules text (rule 8 · maybe (rule 91) · maybe (symbol (codes ",")) · maybe (rule 92)) i j ns
  unfolding whole_rules lexical_rules_before value_rules_before type_rules_before
  of_90 d = d

module _ (text : List ℕ) (bound : ℕ) (fits : bound ≤ length text) where
  abbrev D : Expression → ℕ → ℕ → List Node → Type 0
  D e i j ns = Derives whole_rules text e i j ns

  abbrev From : ℕ → List ℕ
  From k = slice_range text k bound

  abbrev first : List ℕ → List ℕ
  first bs = outside_from (within 0) bs

  abbrev out : ℕ → List ℕ
  out k = outside_from (within 0) (drop k text)

  abbrev items : List ℕ → List (Option ℤ)
  items bs = items_from (within 0) false bs

  -- ---- a name

  record Name (i j : ℕ) (ns : List Node) : Type 0 where
    place : ℕ
    from : i ≤ place
    next : place + 1 ≤ j
    is_letter : in_class Letter (get_or text place 0) ≡ true
    same : out i ≡ out place
    height : ℕ
    behind : Runs whole_rules text (rule 7) (place + 1) (ends j) height
    kids : List Node
    one : ns ≡ node 8 i j kids ∷ []

  name_at : {i j : ℕ} {ns : List Node} → i ≤ length text → D (rule 8) i j ns → Name i j ns
  name_at {i} {j} le d =
      let c = called whole_rules text d in
      let p = joined whole_rules text (of_8 text c.row) in
      let q = joined whole_rules text p.second in
      let g = ended_tree whole_rules text sp i p.middle p.before le p.first in
      let s = seen_here whole_rules text q.first in
      let r1 = lies whole_rules text p.first le in
      let r2 = lies whole_rules text q.first r1.1 in
      let r3 = lies whole_rules text q.second r2.1 in
      let t = ended_tree whole_rules text (rule 7) q.middle j q.behind r2.1 q.second in
      record {
        place = p.middle;
        from = r1.0;
        next = omega (arith, s.next, r3.0);
        is_letter = sym (class_here text Letter p.middle (omega (arith, s.next, r2.1))) ∙ s.there;
        same = blanks text g.1;
        height = t.0;
        behind = subst (λ k. Runs whole_rules text (rule 7) k (ends j) t.0) (sym s.next) t.1;
        kids = c.kids;
        one = c.one;
      }

  name_first : {i j : ℕ} {ns : List Node} (n : Name i j ns) → j ≤ bound → first (From i) ≡ get_or text n.place 0 ∷ From (n.place + 1)
  name_first {i} n le =
      let lt : n.place < bound = omega (arith, n.next, le) in
      gap_here text i n.place bound n.from lt fits (n.same ∙ plain_here text n.place (omega (arith, lt, fits)) (alnum_plain (get_or text n.place 0) (letter_alnum (get_or text n.place 0) n.is_letter)))
      ∙ byte_here text n.place bound lt fits

  name_lands : {i j : ℕ} {ns : List Node} → Name i j ns → j ≤ bound → Lands text bound fits i
  name_lands n le =
      let lt : n.place < bound = omega (arith, n.next, le) in
      record {
        place = n.place;
        from = n.from;
        inside = lt;
        same = n.same ∙ plain_here text n.place (omega (arith, lt, fits)) (alnum_plain (get_or text n.place 0) (letter_alnum (get_or text n.place 0) n.is_letter));
        no_hyphen = letter_no_hyphen (get_or text n.place 0) n.is_letter;
        no_paren = letter_no_paren (get_or text n.place 0) n.is_letter;
      }

  name_passed : {i j : ℕ} {ns : List Node} → Name i j ns → j ≤ bound → behind_marker (From i) ≡ behind_marker (From j)
  name_passed {i} n le =
      let alnum = letter_alnum (get_or text n.place 0) n.is_letter in
      marker_blind.over (From i)
      ∙ ap behind_marker (name_first n le)
      ∙ marker_blind.passes (get_or text n.place 0) (From (n.place + 1)) (plain_outside (get_or text n.place 0) (From (n.place + 1)) (alnum_plain (get_or text n.place 0) alnum)) (alnum_dotless (get_or text n.place 0) alnum)
      ∙ tail_passed text marker_blind bound (omega (arith, n.next, le, fits)) le fits n.behind

  -- ---- an item

  record Item (i j : ℕ) (ns : List Node) : Type 0 where
    kids : List Node
    one : ns ≡ node 90 i j kids ∷ []
    lands : Lands text bound fits i
    item : items (From i) ≡ item_of text (node 90 i j kids) ∷ items (From j)
    passed : behind_marker (From i) ≡ behind_marker (From j)

  item_at : {i j : ℕ} {ns : List Node} → i ≤ length text → D (rule 90) i j ns → Lands text bound fits j → Item i j ns
  item_at {i} {j} le d l =
      let c = called whole_rules text d in
      let p = joined whole_rules text (of_90 text c.row) in
      let n = name_at le p.first in
      let r1 = lies whole_rules text p.first le in
      let r2 = lies whole_rules text p.second r1.1 in
      let inside : p.middle < bound = omega (arith, r2.0, l.from, l.inside) in
      let low : p.middle ≤ bound = omega (arith, inside) in
      let told = behind_it text bound fits items_blind r1.1 p.second l in
      let marked = behind_it text bound fits (quieter marker_blind) r1.1 p.second l in
      let t = tail text bound (omega (arith, n.next, low, fits)) low fits n.behind in
      let stop : first_in Alnum (From p.middle) ≡ false = ap (first_in Alnum) (byte_here text p.middle bound inside fits) ∙ sym (class_here text Alnum p.middle (omega (arith, inside, fits))) ∙ t.stop in
      let ended : behind_name (From (n.place + 1)) ≡ From p.middle = t.same ∙ name_stops (From p.middle) stop told.hyphen in
      let kids : c.kids ≡ node 8 i p.middle n.kids ∷ p.behind = p.all ∙ ap (λ m. m ++ p.behind) n.one in
      let read : item_of text (node 90 i j c.kids) ≡ the (child_among p.behind 91) (number_of text) =
      opened (λ x. the (child_among x.children 91) (number_of text)) 90 i j c.kids
      ∙ ap (λ ns. the (child_among ns 91) (number_of text)) kids
      ∙ ap (λ o. the o (number_of text)) (among_first 8 i p.middle n.kids p.behind 91) in
      record {
        kids = c.kids;
        one = c.one;
        lands = name_lands n low;
        item =
            item_here (From i) (get_or text n.place 0) (From (n.place + 1)) (From p.middle) (name_first n low) (letter_no_dot (get_or text n.place 0) n.is_letter) n.is_letter (sym ended)
            ∙ ap (λ o. o ∷ items (From p.middle)) (told.number_is ∙ sym read)
            ∙ ap (λ is. item_of text (node 90 i j c.kids) ∷ is) told.passed;
        passed = name_passed n low ∙ marked.passed;
      }

  -- ---- a list of items

  record Listed (i j : ℕ) (ns : List Node) : Type 0 where
    lands : Lands text bound fits i
    all : items (From i) ≡ at_children ns 90 (item_of text) ++ items (From j)
    passed : behind_marker (From i) ≡ behind_marker (From j)

  listed : {i j : ℕ} {ns : List Node} → i ≤ length text → D (many (rule 90)) i j ns → Lands text bound fits j → Listed i j ns
  listed {i} {j} le (repeats {j = m} {m = before} {n = behind} p lt q) l =
      let rest = listed (lies whole_rules text p le).1 q l in
      let one = item_at le p rest.lands in
      record {
        lands = one.lands;
        all =
            one.item
            ∙ ap (λ is. item_of text (node 90 i m one.kids) ∷ is) rest.all
            ∙ sym (ap (λ ns. at_children (ns ++ behind) 90 (item_of text) ++ items (From j)) one.one ∙ ap (λ is. is ++ items (From j)) (at_first (item_of text) 90 i m one.kids behind 90));
        passed = one.passed ∙ rest.passed;
      }
  listed le (idles p) l = record { lands = l; all = refl; passed = refl }
  listed le (stops p) l = record { lands = l; all = refl; passed = refl }

  -- ---- the extension marker, or none

  -- what stands between the two lists, where the second has these nodes
  record Middle (i j : ℕ) (ns kids : List Node) : Type 0 where
    lands : Lands text bound fits i
    none : items (From i) ≡ []
    added : behind_marker (From i) ≡ at_children kids 90 (item_of text)
    no_list : (more : List Node) → at_children (ns ++ more) 89 (items_of text) ≡ at_children more 89 (items_of text)

  marked : {i j : ℕ} {ns kids : List Node} → i ≤ length text → D (rule 63) i j ns → Lands text bound fits j → items (From j) ≡ at_children kids 90 (item_of text) → Middle i j ns kids
  marked {i} {j} {ns} {kids} le d l e =
      let c = called whole_rules text d in
      let p = joined whole_rules text (of_63 text c.row) in
      let q = joined whole_rules text (of_21 text (called whole_rules text p.first).row) in
      let g = passed_over whole_rules text q.first in
      let s = seen_here whole_rules text q.second in
      let r1 = lies whole_rules text p.first le in
      let r2 = lies whole_rules text p.second r1.1 in
      let r3 = lies whole_rules text q.first le in
      let after = comma text bound fits items_blind r1.1 p.second l in
      let inside : q.middle + 3 ≤ bound = omega (arith, s.next, r2.0, l.from, l.inside) in
      let dots : From q.middle ≡ 46 ∷ 46 ∷ 46 ∷ From p.middle = word_here text (codes "...") q.middle bound s.there inside fits ∙ ap (λ n. 46 ∷ 46 ∷ 46 ∷ From n) s.next in
      let byte : get_or text q.middle 0 ≡ 46 = ap (λ bs. get_or bs 0 0) (sym (byte_here text q.middle bound (omega (arith, inside)) fits) ∙ dots) in
      let same : out i ≡ drop q.middle text = blanks text g.1 ∙ plain_here text q.middle (omega (arith, inside, fits)) (ap plain byte) in
      let here : first (From i) ≡ 46 ∷ 46 ∷ 46 ∷ From p.middle = gap_here text i q.middle bound r3.0 (omega (arith, inside)) fits same ∙ dots in
      record {
        lands = record { place = q.middle; from = r3.0; inside = omega (arith, inside); same = same; no_hyphen = ap (λ b. nat_eq b 45) byte; no_paren = ap (λ b. nat_eq b 40) byte };
        none = items_end (From i) 46 (46 ∷ 46 ∷ From p.middle) here refl;
        added =
            ap (λ bs. items (past_from (within 0) 46 (past_from (within 0) 46 bs))) (past_here 46 (From i) 46 (46 ∷ 46 ∷ From p.middle) here refl)
            ∙ ap (λ bs. items (past_from (within 0) 46 bs)) (past_here 46 (46 ∷ 46 ∷ From p.middle) 46 (46 ∷ From p.middle) (outside_stands (46 ∷ 46 ∷ From p.middle) (plain_outside 46 (46 ∷ From p.middle) refl)) refl)
            ∙ ap items (past_here 46 (46 ∷ From p.middle) 46 (From p.middle) (outside_stands (46 ∷ From p.middle) (plain_outside 46 (From p.middle) refl)) refl)
            ∙ after.passed
            ∙ e;
        no_list = λ more. ap (λ ns. at_children (ns ++ more) 89 (items_of text)) c.one ∙ at_first (items_of text) 63 i j c.kids more 89;
      }

  -- ---- the word and the brace

  pub headed : {A : Type 0} {f : List ℕ → A} (ok : ℕ → Bool) → Blind ok f → list_all (λ b. plain b && ok b) (codes "ENUMERATED") ≡ true → {i j : ℕ} {ns : List Node} → i ≤ length text → j ≤ bound → D (keyword (codes "ENUMERATED")) i j ns → (f (From i) ≡ f (From j)) × (ns ≡ [])
  headed {f = f} ok bl all {i} {j} {ns} le low d =
      let p = joined whole_rules text d in
      let g = passed_over whole_rules text p.first in
      let s = seen_here whole_rules text p.second in
      let r = lies whole_rules text p.first le in
      let inside : p.middle + 10 ≤ bound = omega (arith, s.next, low) in
      let word : From p.middle ≡ codes "ENUMERATED" ++ From j = word_here text (codes "ENUMERATED") p.middle bound (starts (starts_with nat_eq (drop p.middle text) (codes "ENUMERATED")) (word_ends (drop 10 (drop p.middle text))) s.there) inside fits ∙ ap (λ n. codes "ENUMERATED" ++ From n) s.next in
      let byte : get_or text p.middle 0 ≡ 69 = ap (λ bs. get_or bs 0 0) (sym (byte_here text p.middle bound (omega (arith, inside)) fits) ∙ word) in (
        bl.over (From i)
            ∙ ap f (gap_here text i p.middle bound r.0 (omega (arith, inside)) fits (blanks text g.1 ∙ plain_here text p.middle (omega (arith, inside, fits)) (ap plain byte)) ∙ word)
            ∙ passes_word ok bl (codes "ENUMERATED") (From j) all,
        p.all ∙ ap (λ m. m ++ p.behind) g.2 ∙ s.none,
      )
    where
      starts : (s t : Bool) → (s && t) ≡ true → s ≡ true
      starts true t e = refl
      starts false t e = absurd cc

  nothing_left : From bound ≡ []
  nothing_left = let z : bound - bound ≡ 0 = omega arith in ap (λ n. take n (drop bound text)) z

  -- behind the last brace
  closed : {i : ℕ} {ns : List Node} → i ≤ length text → D (symbol (codes "}")) i bound ns → Lands text bound fits i × (items (From i) ≡ []) × (behind_marker (From i) ≡ []) × (ns ≡ [])
  closed le d =
      let s = symbol_at text bound fits 125 le d in
      let z : first [] ≡ [] = outside_none (within 0) [] (omega arith) in
      let p : past_from (within 0) 46 [] ≡ [] = past_none 46 [] z in (
        symbol_lands text bound fits s (omega arith) refl refl refl,
        symbol_passed text bound fits quiet items_blind s (omega arith) refl refl ∙ ap items nothing_left ∙ items_none [] z,
        symbol_passed text bound fits dotless marker_blind s (omega arith) refl refl ∙ ap behind_marker nothing_left ∙ ap (λ bs. items (past_from (within 0) 46 (past_from (within 0) 46 bs))) p ∙ ap (λ bs. items (past_from (within 0) 46 bs)) p ∙ ap items p ∙ items_none [] z,
        s.none,
      )

  -- ---- the whole

  lists : (i j a b : ℕ) (k l ms : List Node) → ((more : List Node) → at_children (ms ++ more) 89 (items_of text) ≡ at_children more 89 (items_of text)) → at_children (node 89 i j k ∷ ms ++ node 89 a b l ∷ []) 89 (items_of text) ≡ at_children k 90 (item_of text) ∷ at_children l 90 (item_of text) ∷ []
  lists i j a b k l ms skip =
      at_first (items_of text) 89 i j k (ms ++ node 89 a b l ∷ []) 89
      ∙ ap (λ is. is ∷ at_children (ms ++ node 89 a b l ∷ []) 89 (items_of text)) (opened (λ x. at_children x.children 90 (item_of text)) 89 i j k)
      ∙ ap (λ iss. at_children k 90 (item_of text) ∷ iss) (skip (node 89 a b l ∷ []) ∙ at_first (items_of text) 89 a b l [] 89 ∙ ap (λ is. is ∷ []) (opened (λ x. at_children x.children 90 (item_of text)) 89 a b l))

  pub of_row : {i : ℕ} {ns : List Node} → i ≤ length text → D row_88 i bound ns → at_children ns 89 (items_of text) ≡ items (past_from (within 0) 123 (From i)) ∷ behind_marker (From i) ∷ []
  of_row {i} {ns} le d =
      let p = joined whole_rules text d in
      let q = joined whole_rules text p.second in
      let r = joined whole_rules text q.second in
      let s = joined whole_rules text r.second in
      let t = joined whole_rules text s.second in
      let l1 = lies whole_rules text p.first le in
      let l2 = lies whole_rules text q.first l1.1 in
      let l3 = lies whole_rules text r.first l2.1 in
      let l4 = lies whole_rules text s.first l3.1 in
      let l5 = lies whole_rules text t.first l4.1 in
      let l6 = lies whole_rules text t.second l5.1 in
      let root = called whole_rules text r.first in
      let more = called whole_rules text t.first in
      let end = closed l5.1 t.second in
      let added = listed l4.1 (of_89 text more.row) end.0 in
      let additions : items (From s.middle) ≡ at_children more.kids 90 (item_of text) = added.all ∙ ap (λ is. at_children more.kids 90 (item_of text) ++ is) end.1 ∙ append-nil (at_children more.kids 90 (item_of text)) in
      let between : Middle r.middle s.middle s.before more.kids = middle r.middle s.middle t.middle root.kids more.kids s.before l3.1 (of_89 text root.row) (of_89 text more.row) additions added.lands (added.passed ∙ end.2) (either whole_rules text s.first) in
      let roots = listed l2.1 (of_89 text root.row) between.lands in
      let low : q.middle ≤ bound = omega (arith, l3.0, l4.0, l5.0, l6.0) in
      let low_word : p.middle ≤ bound = omega (arith, low, l2.0) in
      let brace = symbol_at text bound fits 123 l1.1 q.first in
      let word = headed (λ b. not (nat_eq b 123)) (past_blind 123) refl le low_word p.first in
      let word_marker = headed dotless marker_blind refl le low_word p.first in
      let opened_at : past_from (within 0) 123 (From i) ≡ From q.middle = word.0 ∙ past_here 123 (From p.middle) 123 (From q.middle) (symbol_first text bound fits brace low refl) refl in
      let root_is : items (past_from (within 0) 123 (From i)) ≡ at_children root.kids 90 (item_of text) = ap items opened_at ∙ roots.all ∙ ap (λ is. at_children root.kids 90 (item_of text) ++ is) between.none ∙ append-nil (at_children root.kids 90 (item_of text)) in
      let added_is : behind_marker (From i) ≡ at_children more.kids 90 (item_of text) = word_marker.0 ∙ symbol_passed text bound fits dotless marker_blind brace low refl refl ∙ roots.passed ∙ between.added in
      let kids : ns ≡ node 89 q.middle r.middle root.kids ∷ s.before ++ node 89 s.middle t.middle more.kids ∷ [] =
      p.all ∙ ap (λ m. m ++ p.behind) word.1 ∙ q.all ∙ ap (λ m. m ++ q.behind) brace.none ∙ r.all ∙ ap (λ m. m ++ r.behind) root.one ∙ ap (λ m. node 89 q.middle r.middle root.kids ∷ m) (s.all ∙ ap (λ m. s.before ++ m) (t.all ∙ ap (λ m. m ++ t.behind) more.one ∙ ap (λ m. node 89 s.middle t.middle more.kids ∷ m) end.3)) in
      ap (λ ns. at_children ns 89 (items_of text)) kids
      ∙ lists q.middle r.middle s.middle t.middle root.kids more.kids s.before between.no_list
      ∙ ap (λ is. is ∷ at_children more.kids 90 (item_of text) ∷ []) (sym root_is)
      ∙ ap (λ is. items (past_from (within 0) 123 (From i)) ∷ is ∷ []) (sym added_is)
    where
      -- the extension marker, or none: then no item follows
      middle : (a b c : ℕ) (root more ms : List Node) → a ≤ length text → {z : ℕ} → D (many (rule 90)) z a root → D (many (rule 90)) b c more → items (From b) ≡ at_children more 90 (item_of text) → Lands text bound fits b → behind_marker (From b) ≡ [] → D (rule 63) a b ms ⊎ D (literal []) a b ms → Middle a b ms more
      middle a b c root more ms le d f e l none (inl m) = marked le m l e
      middle a b c root more ms le d f e l none (inr m) =
          let z = empty_at text bound fits m in
          let empty : more ≡ [] = none_behind whole_rules text le d (subst (λ k. D (many (rule 90)) k c more) (sym z.0) f) in
          record {
            lands = subst (Lands text bound fits) (sym z.0) l;
            none = ap (λ k. items (From k)) z.0 ∙ e ∙ ap (λ ns. at_children ns 90 (item_of text)) empty;
            added = ap (λ k. behind_marker (From k)) z.0 ∙ none ∙ sym (ap (λ ns. at_children ns 90 (item_of text)) empty);
            no_list = λ more. ap (λ ms. at_children (ms ++ more) 89 (items_of text)) z.1;
          }

of_node : (text : List ℕ) (n : Node) → Is whole_rules text 88 n → Derives whole_rules text (rule_of whole_rules 88) (out-Node n).start (out-Node n).end (out-Node n).children
of_node text n is = go is.stands_by.grounds
  where
    go : Grounds whole_rules text n → Derives whole_rules text (rule_of whole_rules 88) (out-Node n).start (out-Node n).end (out-Node n).children
    go (by_row d) = subst (λ q. Derives whole_rules text (rule_of whole_rules q) (out-Node n).start (out-Node n).end (out-Node n).children) is.rule_is d
    go (by_mark m e none) = absurd (let high = above_rules m in omega (arith, high, e, is.rule_is))

pub items_are : ItemsAreThoseOfBytes
items_are text n is = of_row text (out-Node n).end is.stands_by.within (omega (arith, is.stands_by.in_order, is.stands_by.within)) (of_88 text (of_node text n is))

guarded_88 : rule_of whole_rules 88 ≡ guarded row_88 NumbersFit
unfolding whole_rules lexical_rules_before value_rules_before type_rules_before
guarded_88 = refl

-- The guard let them pass.
pub numbers_fit_here : EnumeratedNumbersFit
numbers_fit_here text n root added is told pass =
    let fit = guard_passed whole_rules text 88 row_88 NumbersFit n is refl guarded_88 in
    let same : root ∷ added ∷ [] ≡ root_items (taken text n) ∷ added_items (taken text n) ∷ [] = sym told ∙ items_are text n is in
    let passes : NumbersPass (root_items (taken text n)) (added_items (taken text n)) = subst (λ iss. NumbersPass (get_or iss 0 []) (get_or iss 1 [])) same pass in
    differ (sym fit ∙ (is_exact (taken text n)).1 passes)
  where
    differ : true ≡ false → ⊥
    differ e = cc
