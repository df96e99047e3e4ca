-- What goes over the items of an enumeration byte by byte.
use Rattle.std.proofs.Common.{◌≡◌, ℕ, List, [], ◌∷◌, ◌++◌, Bool, true, false, not, Option, ℤ, refl, sym, ap, ◌∙◌, subst, arith, codes}
use Rattle.std.specs.Prelude.{nat_eq, ◌&&◌, ◌||◌, if◌then◌else◌}
use Rattle.std.specs.List.{list_all}
use Rattle.std.proofs.lemmas.Bool.Decides.{nat_tests}
use Rattle.asn_rules_guards.specs.Lexical.{between, first_in, in_class, is_alnum, is_digit}
use Rattle.asn_rules_guards.specs.declared.asked.ByteClass.TheVariants.{Alnum, Letter}
use Rattle.asn_rules_guards.specs.Guards.{within, bare, before, begins, is_outside, onward}
use Rattle.asn_rules_guards.specs.Outside.{outside_from, starts_bare}
use Rattle.asn_rules_guards.specs.Enumerations.{behind_name, in_parentheses, items_from, past_from}
use Rattle.asn_rules_guards.proofs.Bare.{bare_byte, bare_gap, outside_stands, passes_over}
use Rattle.asn_rules_guards.proofs.Items.{name_on, no_item, past_on}
use Rattle.asn_read_nodes.proofs.BareNumbers.{both_true}
use Rattle.asn_read_nodes.proofs.Slices.{plain, plain_outside}

-- ---- tests of bytes

abbrev pub dotless : ℕ → Bool
dotless b = not (nat_eq b 46)

-- neither a letter nor a '.'
abbrev pub quiet : ℕ → Bool
quiet b = not (nat_eq b 46) && not (in_class Letter b)

abbrev pub starts_hyphen : List ℕ → Bool
starts_hyphen [] = false
starts_hyphen (b ∷ bs) = nat_eq b 45

not_true : (t : Bool) → not t ≡ true → t ≡ false
not_true true e = absurd cc
not_true false e = refl

pub alnum_plain : (b : ℕ) → in_class Alnum b ≡ true → plain b ≡ true
alnum_plain b e = grind (arith, nat_tests, e)

pub alnum_dotless : (b : ℕ) → in_class Alnum b ≡ true → dotless b ≡ true
alnum_dotless b e = grind (arith, nat_tests, e)

pub letter_alnum : (b : ℕ) → in_class Letter b ≡ true → in_class Alnum b ≡ true
letter_alnum b e = go (between 48 57 b) (in_class Letter b) e
  where
    go : (x y : Bool) → y ≡ true → (x || y) ≡ true
    go true y e = refl
    go false y e = e

pub digit_alnum : (b : ℕ) → is_digit b ≡ true → in_class Alnum b ≡ true
digit_alnum b e = ap (λ t. t || in_class Letter b) e

pub digit_quiet : (b : ℕ) → is_digit b ≡ true → quiet b ≡ true
digit_quiet b e = grind (arith, nat_tests, e)

pub digit_no_paren : (b : ℕ) → is_digit b ≡ true → nat_eq b 41 ≡ false
digit_no_paren b e = grind (arith, nat_tests, e)

pub letter_no_dot : (b : ℕ) → in_class Letter b ≡ true → nat_eq b 46 ≡ false
letter_no_dot b e = grind (arith, nat_tests, e)

pub letter_no_hyphen : (b : ℕ) → in_class Letter b ≡ true → nat_eq b 45 ≡ false
letter_no_hyphen b e = grind (arith, nat_tests, e)

pub letter_no_paren : (b : ℕ) → in_class Letter b ≡ true → nat_eq b 40 ≡ false
letter_no_paren b e = grind (arith, nat_tests, e)

pub alnum_no_hyphen : (b : ℕ) → in_class Alnum b ≡ true → nat_eq 45 b ≡ false
alnum_no_hyphen b e = grind (arith, nat_tests, e)

-- ---- what passes over blanks, comments and the bytes of a test

pub record Blind {A : Type 0} (ok : ℕ → Bool) (f : List ℕ → A) : Type 0 where
  pub over : (bs : List ℕ) → f bs ≡ f (outside_from (within 0) bs)
  pub passes : (b : ℕ) (bs : List ℕ) → starts_bare (b ∷ bs) ≡ true → ok b ≡ true → f (b ∷ bs) ≡ f bs

past_over : (mark : ℕ) (bs : List ℕ) → past_from (within 0) mark bs ≡ past_from (within 0) mark (outside_from (within 0) bs)
unfolding past_from
past_over mark bs = passes_over (λ p xs. past_from p mark xs) (λ p. refl) (λ p b more off. ap (λ t. if t && nat_eq b mark then more else past_from (onward p (b ∷ more)) mark more) off) (within 0) bs

pub past_blind : (mark : ℕ) → Blind (λ b. not (nat_eq b mark)) (past_from (within 0) mark)
past_blind mark = record { over = past_over mark; passes = λ b bs bare ok. past_on mark (b ∷ bs) b bs (outside_stands (b ∷ bs) bare) (not_true (nat_eq b mark) ok) }

items_over : (bs : List ℕ) → items_from (within 0) false bs ≡ items_from (within 0) false (outside_from (within 0) bs)
unfolding items_from
items_over bs = passes_over (λ p xs. items_from p false xs) (λ p. refl) (λ p b more off. ap (λ t. if t && nat_eq b 46 then [] else if t && in_class Letter b && true then in_parentheses (bare (behind_name more)) ∷ items_from (onward p (b ∷ more)) true more else items_from (onward p (b ∷ more)) false more) off) (within 0) bs

pub items_blind : Blind quiet (items_from (within 0) false)
items_blind = record { over = items_over; passes = λ b bs bare ok. let both = both_true (not (nat_eq b 46)) (not (in_class Letter b)) ok in no_item (b ∷ bs) b bs (outside_stands (b ∷ bs) bare) (not_true (nat_eq b 46) both.0) (not_true (in_class Letter b) both.1) }

-- the items behind three '.'
abbrev pub behind_marker : List ℕ → List (Option ℤ)
behind_marker bs = items_from (within 0) false (past_from (within 0) 46 (past_from (within 0) 46 (past_from (within 0) 46 bs)))

abbrev third : List ℕ → List (Option ℤ)
third bs = items_from (within 0) false (past_from (within 0) 46 (past_from (within 0) 46 bs))

pub marker_blind : Blind dotless behind_marker
marker_blind = record { over = λ bs. ap third ((past_blind 46).over bs); passes = λ b bs bare ok. ap third ((past_blind 46).passes b bs bare ok) }

pub quieter : {A : Type 0} {f : List ℕ → A} → Blind dotless f → Blind quiet f
quieter d = record { over = d.over; passes = λ b bs bare ok. d.passes b bs bare (both_true (not (nat_eq b 46)) (not (in_class Letter b)) ok).0 }

-- ---- several bytes

pub passes_word : {A : Type 0} (ok : ℕ → Bool) {f : List ℕ → A} → Blind ok f → (w rest : List ℕ) → list_all (λ b. plain b && ok b) w ≡ true → f (w ++ rest) ≡ f rest
passes_word ok bl [] rest e = refl
passes_word ok bl (b ∷ w) rest e =
    let both = both_true (plain b && ok b) (list_all (λ b. plain b && ok b) w) e in
    let here = both_true (plain b) (ok b) both.0 in
    bl.passes b (w ++ rest) (plain_outside b (w ++ rest) here.0) here.1 ∙ passes_word ok bl w rest both.1

digit_of_word : (b : ℕ) → is_digit b ≡ true → (plain b && quiet b) ≡ true
digit_of_word b e = ap (λ t. t && quiet b) (alnum_plain b (digit_alnum b e)) ∙ digit_quiet b e

pub digits_word : (w : List ℕ) → list_all is_digit w ≡ true → list_all (λ b. plain b && quiet b) w ≡ true
digits_word [] e = refl
digits_word (b ∷ w) e =
    let both = both_true (is_digit b) (list_all is_digit w) e in
    ap (λ t. t && list_all (λ b. plain b && quiet b) w) (digit_of_word b both.0) ∙ digits_word w both.1

pub digits_bare : (w rest : List ℕ) → list_all is_digit w ≡ true → bare (w ++ rest) ≡ w ++ bare rest
digits_bare [] rest e = refl
digits_bare (b ∷ w) rest e =
    let both = both_true (is_digit b) (list_all is_digit w) e in
    bare_byte (b ∷ w ++ rest) b (plain_outside b (w ++ rest) (alnum_plain b (digit_alnum b both.0))) (omega arith) refl ∙ ap (λ r. b ∷ r) (digits_bare w rest both.1)

pub before_paren : (w rest : List ℕ) → list_all is_digit w ≡ true → before 41 (w ++ 41 ∷ rest) ≡ w
before_paren [] rest e = refl
before_paren (b ∷ w) rest e =
    let both = both_true (is_digit b) (list_all is_digit w) e in
    ap (λ t. if t then [] else b ∷ before 41 (w ++ 41 ∷ rest)) (digit_no_paren b both.0) ∙ ap (λ r. b ∷ r) (before_paren w rest both.1)

pub bare_over : (bs : List ℕ) → bare bs ≡ bare (outside_from (within 0) bs)
bare_over bs = sym (bare_gap bs (outside_from (within 0) bs) refl)

-- ---- names

abbrev names : ℕ → Bool
names b = is_alnum b || nat_eq b 45

alnum_begins_none : (b : ℕ) (bs : List ℕ) → in_class Alnum b ≡ true → begins (codes "--") (b ∷ bs) ≡ false
alnum_begins_none b bs e = ap (λ t. t && begins (codes "-") bs) (alnum_no_hyphen b e)

-- a letter or digit goes on with a name,
pub name_byte : (b : ℕ) (bs : List ℕ) → in_class Alnum b ≡ true → behind_name (b ∷ bs) ≡ behind_name bs
name_byte b bs e = name_on (b ∷ bs) b (omega arith) refl (ap (λ t. t || nat_eq b 45) e) (alnum_begins_none b bs e)

-- and so does a hyphen before one.
pub name_bytes : (b : ℕ) (bs : List ℕ) → in_class Alnum b ≡ true → behind_name (45 ∷ b ∷ bs) ≡ behind_name bs
name_bytes b bs e = name_on (45 ∷ b ∷ bs) 45 (omega arith) refl refl (ap (λ t. t && begins [] bs) (alnum_no_hyphen b e)) ∙ name_byte b bs e

-- A name ends before another byte that is no hyphen outside comments.
pub name_stops : (bs : List ℕ) → first_in Alnum bs ≡ false → starts_hyphen (outside_from (within 0) bs) ≡ false → behind_name bs ≡ bs
name_stops [] e h = refl
name_stops (b ∷ bs) e h = go (is_outside (within 0) (b ∷ bs)) refl
  where
    go : (o : Bool) → is_outside (within 0) (b ∷ bs) ≡ o → (if o && names b then behind_name bs else b ∷ bs) ≡ b ∷ bs
    go true is =
        let here : nat_eq b 45 ≡ false = subst (λ xs. starts_hyphen xs ≡ false) (outside_stands (b ∷ bs) is) h in
        ap (λ t. if t || nat_eq b 45 then behind_name bs else b ∷ bs) e ∙ ap (λ t. if t then behind_name bs else b ∷ bs) here
    go false is = refl
