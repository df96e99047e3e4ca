-- The items of an enumeration as its nodes tell them are those that its bytes tell.
use Rattle.std.proofs.Common.{◌≡◌, ℕ, ◌+◌, ◌<◌, ◌≤◌, List, [], ◌∷◌, ◌++◌, Bool, true, false, None, length, get_or, drop, refl, sym, ap, ◌∙◌, subst, arith, codes, ◌⊎◌, inl, inr}
use Rattle.std.specs.Prelude.{nat_eq, if◌then◌else◌, slice_range}
use Rattle.asn_rules_guards.specs.Guards.{bare, before, integer, number, within}
use Rattle.asn_rules_guards.specs.Outside.{outside_from, starts_bare}
use Rattle.asn_rules_guards.specs.Enumerations.{in_parentheses}
use Rattle.asn_rules_guards.proofs.Bare.{bare_byte, outside_starts}
use Rattle.asn_rules.specs.Expression.{Expression, rule, rule_of}
use Rattle.asn_rules.specs.Forms.{◌·◌, literal, maybe, symbol}
use Rattle.asn_rules.specs.LexicalRules.{lexical_rules_before}
use Rattle.asn_rules.specs.ValueRules.{value_rules_before}
use Rattle.asn_rules.specs.TypeRules.{type_rules_before}
use Rattle.asn_rules.specs.Derives.{Derives, node}
use Rattle.asn_rules.specs.Nodes.{child_among, the}
use Rattle.asn_rules.specs.Whole.{whole_rules}
use Rattle.asn_rules.specs.declared.node.Node.{Node}
use Rattle.asn_rules.proofs.Trees.{ended_tree, within as lies}
use Rattle.asn_text.proofs.Tries as tries
use Rattle.asn_read_nodes.specs.Parts.{integer_of, number_of}
use Rattle.asn_read_nodes.proofs.Blanks.{blanks, item_comment}
use Rattle.asn_read_nodes.proofs.Derived.{among_append, among_first, called, either, joined, opened, passed_over, seen_here}
use Rattle.asn_read_nodes.proofs.ItemBytes.{Blind, bare_over, quiet, starts_hyphen}
use Rattle.asn_read_nodes.proofs.NumberBytes.{number_passed, number_read, number_run}
use Rattle.asn_read_nodes.proofs.Slices.{byte_here, gap_here, mark_here, plain, plain_here, plain_outside}

module _ (text : List ℕ) (bound : ℕ) (fits : bound ≤ length text) where
  abbrev pub D : Expression → ℕ → ℕ → List Node → Type 0
  D e i j ns = Derives whole_rules text e i j ns

  abbrev pub From : ℕ → List ℕ
  From k = slice_range text k bound

  abbrev pub first : List ℕ → List ℕ
  first bs = outside_from (within 0) bs

  abbrev pub out : ℕ → List ℕ
  out k = outside_from (within 0) (drop k text)

  -- ---- a symbol of one byte

  pub record Symbol (x i j : ℕ) (ns : List Node) : Type 0 where
    pub place : ℕ
    pub from : i ≤ place
    pub next : place + 1 ≡ j
    pub byte : get_or text place 0 ≡ x
    pub same : out i ≡ out place
    pub none : ns ≡ []

  pub symbol_at : (x : ℕ) {i j : ℕ} {ns : List Node} → i ≤ length text → D (symbol (x ∷ [])) i j ns → Symbol x i j ns
  symbol_at x {i} le d =
      let p = joined whole_rules text d in
      let g = passed_over whole_rules text p.first in
      let s = seen_here whole_rules text p.second in
      let l = lies whole_rules text p.first le in
      let m = lies whole_rules text p.second l.1 in
      record { place = p.middle; from = l.0; next = s.next; byte = mark_here text x p.middle s.there (omega (arith, s.next, m.1)); same = blanks text g.1; none = p.all ∙ ap (λ m. m ++ p.behind) g.2 ∙ s.none }

  symbol_text : {x i j : ℕ} {ns : List Node} (s : Symbol x i j ns) → j ≤ bound → plain x ≡ true → out i ≡ drop s.place text
  symbol_text s le p = s.same ∙ plain_here text s.place (omega (arith, s.next, le, fits)) (ap plain s.byte ∙ p)

  pub symbol_first : {x i j : ℕ} {ns : List Node} → Symbol x i j ns → j ≤ bound → plain x ≡ true → first (From i) ≡ x ∷ From j
  symbol_first {x} {i} {j} s le p =
      let lt : s.place < bound = omega (arith, s.next, le) in
      gap_here text i s.place bound s.from lt fits (symbol_text s le p)
      ∙ byte_here text s.place bound lt fits
      ∙ ap (λ b. b ∷ From (s.place + 1)) s.byte
      ∙ ap (λ n. x ∷ From n) s.next

  pub symbol_passed : {A : Type 0} {f : List ℕ → A} (ok : ℕ → Bool) → Blind ok f → {x i j : ℕ} {ns : List Node} → Symbol x i j ns → j ≤ bound → plain x ≡ true → ok x ≡ true → f (From i) ≡ f (From j)
  symbol_passed {f = f} ok bl {x} {i} {j} s le p o = bl.over (From i) ∙ ap f (symbol_first s le p) ∙ bl.passes x (From j) (plain_outside x (From j) p) o

  -- ---- where blanks and comments lead to a byte that is neither a hyphen nor a '('

  pub record Lands (i : ℕ) : Type 0 where
    pub place : ℕ
    pub from : i ≤ place
    pub inside : place < bound
    pub same : out i ≡ drop place text
    pub no_hyphen : nat_eq (get_or text place 0) 45 ≡ false
    pub no_paren : nat_eq (get_or text place 0) 40 ≡ false

  lands_first : {i : ℕ} (l : Lands i) → first (From i) ≡ From l.place
  lands_first {i} l = gap_here text i l.place bound l.from l.inside fits l.same

  lands_hyphen : {i : ℕ} → Lands i → starts_hyphen (first (From i)) ≡ false
  lands_hyphen l = ap starts_hyphen (lands_first l ∙ byte_here text l.place bound l.inside fits) ∙ l.no_hyphen

  pub symbol_lands : {x i j : ℕ} {ns : List Node} → Symbol x i j ns → j ≤ bound → plain x ≡ true → nat_eq x 45 ≡ false → nat_eq x 40 ≡ false → Lands i
  symbol_lands s le p h o = record { place = s.place; from = s.from; inside = omega (arith, s.next, le); same = symbol_text s le p; no_hyphen = ap (λ b. nat_eq b 45) s.byte ∙ h; no_paren = ap (λ b. nat_eq b 40) s.byte ∙ o }

  lands_none : {i : ℕ} → Lands i → in_parentheses (bare (From i)) ≡ None
  lands_none {i} l =
      let here : first (From i) ≡ get_or text l.place 0 ∷ From (l.place + 1) = lands_first l ∙ byte_here text l.place bound l.inside fits in
      let bare_there : starts_bare (get_or text l.place 0 ∷ From (l.place + 1)) ≡ true = subst (λ bs. starts_bare bs ≡ true) here (outside_starts (within 0) (From i)) in
      ap in_parentheses (bare_over (From i) ∙ ap bare here ∙ bare_byte (get_or text l.place 0 ∷ From (l.place + 1)) (get_or text l.place 0) bare_there (omega arith) refl)
      ∙ ap (λ t. if t then number (before 41 (bare (From (l.place + 1)))) else None) l.no_paren

  -- ---- what may stand behind an item's name

  -- nothing
  pub empty_at : {i j : ℕ} {ns : List Node} → D (literal []) i j ns → (i ≡ j) × (ns ≡ [])
  empty_at {i} {j} d = let s = seen_here whole_rules text d in (omega (arith, s.next), s.none)

  pub record Rest {A : Type 0} (f : List ℕ → A) (i j : ℕ) (ns : List Node) : Type 0 where
    pub lands : Lands i
    pub passed : f (From i) ≡ f (From j)
    pub no_number : child_among ns 91 ≡ None

  nothing : {A : Type 0} {f : List ℕ → A} {i j : ℕ} {ns : List Node} → D (literal []) i j ns → Lands j → Rest f i j ns
  nothing {f = f} d l =
      let e = empty_at d in
      record { lands = subst Lands (sym e.0) l; passed = ap (λ n. f (From n)) e.0; no_number = ap (λ ns. child_among ns 91) e.1 }

  pub comma : {A : Type 0} {f : List ℕ → A} → Blind quiet f → {i j : ℕ} {ns : List Node} → i ≤ length text → D (maybe (symbol (codes ","))) i j ns → Lands j → Rest f i j ns
  comma {f = f} bl {i} {j} {ns} le d l = go (either whole_rules text d)
    where
      go : D (symbol (codes ",")) i j ns ⊎ D (literal []) i j ns → Rest f i j ns
      go (inl d) =
          let s = symbol_at 44 le d in
          let inside : j ≤ bound = omega (arith, l.from, l.inside) in
          record { lands = symbol_lands s inside refl refl refl; passed = symbol_passed quiet bl s inside refl refl; no_number = ap (λ ns. child_among ns 91) s.none }
      go (inr d) = nothing d l

  remark : {A : Type 0} {f : List ℕ → A} → Blind quiet f → {i j : ℕ} {ns : List Node} → i ≤ length text → D (maybe (rule 92)) i j ns → Lands j → Rest f i j ns
  unfolding whole_rules lexical_rules_before value_rules_before type_rules_before
  remark {f = f} bl {i} {j} {ns} le d l = go (either whole_rules text d)
    where
      go : D (rule 92) i j ns ⊎ D (literal []) i j ns → Rest f i j ns
      go (inl d) =
          let c = called whole_rules text d in
          let run = ended_tree whole_rules text (rule 92) i j ns le d in
          let reach = lies whole_rules text d le in
          let same : out i ≡ out j = item_comment text ((tries.called whole_rules text run.1).run) in
          let here : Lands i = record { place = l.place; from = omega (arith, reach.0, l.from); inside = l.inside; same = same ∙ l.same; no_hyphen = l.no_hyphen; no_paren = l.no_paren } in
          record {
            lands = here;
            passed = bl.over (From i) ∙ ap f (lands_first here ∙ sym (lands_first l)) ∙ sym (bl.over (From j));
            no_number = ap (λ ns. child_among ns 91) c.one ∙ among_first 92 i j c.kids [] 91;
          }
      go (inr d) = nothing d l

  -- ---- an item's number

  pub record Told {A : Type 0} (f : List ℕ → A) (i j : ℕ) (ns : List Node) : Type 0 where
    pub hyphen : starts_hyphen (first (From i)) ≡ false
    pub number_is : in_parentheses (bare (From i)) ≡ the (child_among ns 91) (number_of text)
    pub passed : f (From i) ≡ f (From j)

  parts_91 : {i j : ℕ} {ns : List Node} → D (rule_of whole_rules 91) i j ns → D (symbol (codes "(") · rule 17 · symbol (codes ")")) i j ns
  unfolding whole_rules lexical_rules_before value_rules_before type_rules_before
  parts_91 d = d

  -- what the children of the node tell
  number_node : (i j a b : ℕ) (kids : List Node) → the (child_among (node 91 i j (node 17 a b kids ∷ []) ∷ []) 91) (number_of text) ≡ number (bare (slice_range text a b))
  number_node i j a b kids =
      ap (λ o. the o (number_of text)) (among_first 91 i j (node 17 a b kids ∷ []) [] 91)
      ∙ opened (λ x. the (child_among x.children 17) (integer_of 127 text)) 91 i j (node 17 a b kids ∷ [])
      ∙ ap (λ o. the o (integer_of 127 text)) (among_first 17 a b kids [] 17)
      ∙ opened (λ x. integer 127 (bare (slice_range text x.start x.end))) 17 a b kids

  numbered : {A : Type 0} {f : List ℕ → A} → Blind quiet f → {i j : ℕ} {ns : List Node} → i ≤ length text → D (maybe (rule 91)) i j ns → Lands j → Told f i j ns
  numbered {f = f} bl {i} {j} {ns} le d l = go (either whole_rules text d)
    where
      go : D (rule 91) i j ns ⊎ D (literal []) i j ns → Told f i j ns
      go (inl d) =
          let c = called whole_rules text d in
          let p = joined whole_rules text (parts_91 c.row) in
          let q = joined whole_rules text p.second in
          let n = called whole_rules text q.first in
          let r1 = lies whole_rules text p.first le in
          let r2 = lies whole_rules text q.first r1.1 in
          let r3 = lies whole_rules text q.second r2.1 in
          let inside : j ≤ bound = omega (arith, l.from, l.inside) in
          let start : p.middle ≤ bound = omega (arith, inside, r2.0, r3.0) in
          let ending : q.middle ≤ bound = omega (arith, inside, r3.0) in
          let open_at = symbol_at 40 le p.first in
          let close_at = symbol_at 41 r2.1 q.second in
          let run = ended_tree whole_rules text (rule 17) p.middle q.middle q.before r1.1 q.first in
          let digits = number_run text r1.1 run.1 in
          let opens = symbol_first open_at start refl in
          let closes : bare (From q.middle) ≡ 41 ∷ bare (From j) = bare_over (From q.middle) ∙ ap bare (symbol_first close_at inside refl) ∙ bare_byte (41 ∷ From j) 41 (plain_outside 41 (From j) refl) (omega arith) refl in
          let kids : c.kids ≡ node 17 p.middle q.middle n.kids ∷ [] = p.all ∙ ap (λ m. m ++ p.behind) open_at.none ∙ q.all ∙ ap (λ m. m ++ q.behind) n.one ∙ ap (λ m. node 17 p.middle q.middle n.kids ∷ m) close_at.none in
          record {
            hyphen = ap starts_hyphen opens;
            number_is =
                ap in_parentheses (bare_over (From i) ∙ ap bare opens ∙ bare_byte (40 ∷ From p.middle) 40 (plain_outside 40 (From p.middle) refl) (omega arith) refl)
                ∙ ap number (number_read text digits bound (bare (From j)) ending fits closes)
                ∙ sym (ap (λ ns. the (child_among ns 91) (number_of text)) (c.one ∙ ap (λ ks. node 91 i j ks ∷ []) kids) ∙ number_node i j p.middle q.middle n.kids);
            passed = symbol_passed quiet bl open_at start refl refl ∙ number_passed text bl digits bound ending fits ∙ symbol_passed quiet bl close_at inside refl refl;
          }
      go (inr d) =
          let e = empty_at d in
          let here : Lands i = subst Lands (sym e.0) l in
          record { hyphen = lands_hyphen here; number_is = lands_none here ∙ ap (λ ns. the (child_among ns 91) (number_of text)) (sym e.1); passed = ap (λ n. f (From n)) e.0 }

  -- ---- what stands behind an item's name

  pub behind_it : {A : Type 0} {f : List ℕ → A} → Blind quiet f → {i j : ℕ} {ns : List Node} → i ≤ length text → D (maybe (rule 91) · maybe (symbol (codes ",")) · maybe (rule 92)) i j ns → Lands j → Told f i j ns
  behind_it {f = f} bl {i} {j} {ns} le d l =
      let p = joined whole_rules text d in
      let q = joined whole_rules text p.second in
      let r1 = lies whole_rules text p.first le in
      let r2 = lies whole_rules text q.first r1.1 in
      let third : Rest f q.middle j q.behind = remark bl r2.1 q.second l in
      let second : Rest f p.middle q.middle q.before = comma bl r1.1 q.first third.lands in
      let here : Told f i p.middle p.before = numbered bl le p.first second.lands in
      let none : child_among p.behind 91 ≡ None = ap (λ ns. child_among ns 91) q.all ∙ among_append 91 q.before q.behind third.no_number ∙ second.no_number in
      record {
        hyphen = here.hyphen;
        number_is = here.number_is ∙ sym (ap (λ ns. the (child_among ns 91) (number_of text)) p.all ∙ ap (λ o. the o (number_of text)) (among_append 91 p.before p.behind none));
        passed = here.passed ∙ second.passed ∙ third.passed;
      }
