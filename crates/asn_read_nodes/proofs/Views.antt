-- The children that readers ask for are there.
use Rattle.std.proofs.Common.{◌≡◌, ℕ, ◌+◌, ◌≤◌, List, [], ◌∷◌, Bool, true, false, Ok, Option, Some, None, length, refl, sym, ap, subst, ℤ, arith}
use Rattle.std.specs.Prelude.{codes, nat_eq, cond, ◌||◌, ◌&&◌, IsSome}
use Rattle.std.specs.List.{All}
use Rattle.asn_rules.specs.Derives.{Derivation, Derives, stands}
use Rattle.asn_rules.specs.Expression.{rule}
use Rattle.asn_rules.specs.Forms.{◌·◌, literal, maybe, sp, symbol}
use Rattle.asn_rules.specs.Runs.{Runs, ends}
use Rattle.asn_rules.specs.Whole.{whole_rules}
use Rattle.asn_rules.specs.Children.{StandsBy, Is}
use Rattle.asn_rules.specs.Nodes.{child_among, child_of}
use Rattle.asn_rules_guards.specs.declared.asked.Guard.TheVariants.{FitsU64, FitsU128, FitsI128, FitsI32, FitsReal, IsBase, IsCharacter}
use Rattle.asn_rules.specs.declared.names.TheConstants.{BINARY, BOOLEAN_VALUE, DOT_NOTATION, HEXADECIMAL, IDENTIFIER, INTEGER_VALUE, MARK_FALSE, MARK_TRUE, MBE_NOTATION, NUMBER_I32, NUMBER_I128, NUMBER_U64, NUMBER_U128, PATH_STEP, QUADRUPLE, QUOTED, QUOTED_BODY, REAL_BASE, SP, TIME_CHARS, TIME_VALUE, VALUE_IDENTIFIER}
use Rattle.asn_rules.specs.declared.node.Node.{Node}
use Rattle.asn_rules.specs.declared.node.Node.TheViews.{out-Node, out-roll-Node}
use Rattle.asn_rules.proofs.Children as children
use Rattle.asn_rules.proofs.Children.{bounds, child_inside, guard_passed, has_child, is_of, one_if, times}
use Rattle.asn_read_nodes.proofs.Asked as asked
use Rattle.asn_read_nodes.specs.Reals.{decimals}
use Rattle.std.specs.Option.{is_some}
use Rattle.asn_read_nodes.specs.Parts.{integer_of, natural_of, taken}
use Rattle.asn_rules_guards.specs.Guards.{bare, behind, behind_exponent_mark, exponent, fits_less, four_octets, is_base_of, is_real, is_scalar_of, mantissa, natural, number}

-- a node that stands is one of its rule
pub as_rule : (text : List ℕ) (r : ℕ) (n : Node) → StandsBy whole_rules text n → (out-Node n).rule ≡ r → Is whole_rules text r n
as_rule text r n s is = record { stands_by = s; rule_is = is }

-- each child of a node that stands does
pub each_stands : (text : List ℕ) (n : Node) → StandsBy whole_rules text n → All (StandsBy whole_rules text) (out-Node n).children
each_stands text n s = children.each_stands whole_rules text n s

-- the node that a rule leaves: where it ends, and that it is one of the rule
pub node_ends : (text : List ℕ) (r i j : ℕ) (n : Node) → Derives whole_rules text (rule r) i j (n ∷ []) → (out-Node n).end ≡ j
node_ends text r i j n (stands {n = ns} d) = ap (λ x. x.end) (out-roll-Node (record { rule = r; start = i; end = j; children = ns }))

-- what a rule that is grown answers, told by its node
pub node_stands : (text : List ℕ) (r q depth : ℕ) (o : Option Node) (n : Node) → Derivation whole_rules text q 0 depth (Ok o) → o ≡ Some n → q ≡ r → (h : ℕ) × Runs whole_rules text (rule r) 0 (ends (out-Node n).end) h × (h ≤ depth) × Derives whole_rules text (rule r) 0 (out-Node n).end (n ∷ [])
node_stands text r q depth o n d same number_is =
    let at_number : Derivation whole_rules text r 0 depth (Ok o) = subst (λ q. Derivation whole_rules text q 0 depth (Ok o)) number_is d in
    let at_node : Derivation whole_rules text r 0 depth (Ok (Some n)) = subst (λ o. Derivation whole_rules text r 0 depth (Ok o)) same at_number in
    let end_is = node_ends text r 0 at_node.0 n at_node.4 in
    (at_node.1, subst (λ j. Runs whole_rules text (rule r) 0 (ends j) at_node.1) (sym end_is) at_node.2, at_node.3, subst (λ j. Derives whole_rules text (rule r) 0 j (n ∷ [])) (sym end_is) at_node.4)

pub node_is : (text : List ℕ) (r j : ℕ) (n : Node) → Derives whole_rules text (rule r) 0 j (n ∷ []) → Is whole_rules text r n
node_is text r j n d = is_of whole_rules text r 0 j n d (omega arith)

-- the same of the node of a rule that ends at an offset
pub node_at_ends : (text : List ℕ) (r i j : ℕ) (n : Node) → Derives whole_rules text (rule r) i j (n ∷ []) → Derives whole_rules text (rule r) i (out-Node n).end (n ∷ [])
node_at_ends text r i j n d = subst (λ k. Derives whole_rules text (rule r) i k (n ∷ [])) (sym (node_ends text r i j n d)) d

pub node_at_is : (text : List ℕ) (r i j : ℕ) (n : Node) → Derives whole_rules text (rule r) i j (n ∷ []) → i ≤ length text → Is whole_rules text r n
node_at_is text r i j n d le = is_of whole_rules text r i j n d le

-- the blanks before a node's bytes lie within it
pub blanks_inside : (text : List ℕ) (n b : Node) → StandsBy whole_rules text n → child_of n SP ≡ Some b → (out-Node b).end ≤ (out-Node n).end
blanks_inside text n b s e = (child_inside whole_rules text n b SP s e).1

-- where none of the nodes is of the rule, the rule need not be counted
pub without : (r : ℕ) (p : ℕ → Bool) (ns : List Node) → child_among ns r ≡ None → times (λ q. nat_eq q r || p q) ns ≡ times p ns
without r p [] e = refl
without r p (n ∷ ns) e = go (nat_eq (out-Node n).rule r) (without r p ns) e
  where
    go : (t : Bool) → (child_among ns r ≡ None → times (λ q. nat_eq q r || p q) ns ≡ times p ns) → cond t (Some n) (child_among ns r) ≡ None → one_if (t || p (out-Node n).rule) + times (λ q. nat_eq q r || p q) ns ≡ one_if (p (out-Node n).rule) + times p ns
    go true again e = absurd cc
    go false again e = ap (λ k. one_if (p (out-Node n).rule) + k) (again e)

-- and where one is counted, one is there
pub some_among : (r : ℕ) (ns : List Node) → 1 ≤ times (λ q. nat_eq q r) ns → IsSome (child_among ns r)
some_among r [] h = absurd (omega (arith, h))
some_among r (n ∷ ns) h = go (nat_eq (out-Node n).rule r) (some_among r ns) h
  where
    go : (t : Bool) → (1 ≤ times (λ q. nat_eq q r) ns → IsSome (child_among ns r)) → 1 ≤ one_if t + times (λ q. nat_eq q r) ns → IsSome (cond t (Some n) (child_among ns r))
    go true again h = refl
    go false again h = again (omega (arith, h))

pub name_has_blanks : (text : List ℕ) (n : Node) → Is whole_rules text VALUE_IDENTIFIER n → IsSome (child_of n SP)
name_has_blanks text n is = has_child whole_rules text VALUE_IDENTIFIER SP n is asked.name_asks_blanks

pub identifier_has_blanks : (text : List ℕ) (n : Node) → Is whole_rules text IDENTIFIER n → IsSome (child_of n SP)
identifier_has_blanks text n is = has_child whole_rules text IDENTIFIER SP n is asked.identifier_asks_blanks

pub binary_has_blanks : (text : List ℕ) (n : Node) → Is whole_rules text BINARY n → IsSome (child_of n SP)
binary_has_blanks text n is = has_child whole_rules text BINARY SP n is asked.binary_asks_blanks

pub hexadecimal_has_blanks : (text : List ℕ) (n : Node) → Is whole_rules text HEXADECIMAL n → IsSome (child_of n SP)
hexadecimal_has_blanks text n is = has_child whole_rules text HEXADECIMAL SP n is asked.hexadecimal_asks_blanks

pub quoted_has_body : (text : List ℕ) (n : Node) → Is whole_rules text QUOTED n → IsSome (child_of n QUOTED_BODY)
quoted_has_body text n is = has_child whole_rules text QUOTED QUOTED_BODY n is asked.quoted_asks_body

pub time_has_chars : (text : List ℕ) (n : Node) → Is whole_rules text TIME_VALUE n → IsSome (child_of n TIME_CHARS)
time_has_chars text n is = has_child whole_rules text TIME_VALUE TIME_CHARS n is asked.time_asks_chars

pub integer_has_number : (text : List ℕ) (n : Node) → Is whole_rules text INTEGER_VALUE n → IsSome (child_of n NUMBER_I128)
integer_has_number text n is = has_child whole_rules text INTEGER_VALUE NUMBER_I128 n is asked.integer_asks_number

-- the digits of a number fit
pub u64_fits : (text : List ℕ) (n : Node) → Is whole_rules text NUMBER_U64 n → IsSome (natural_of 64 text n)
u64_fits text n is = guard_passed whole_rules text NUMBER_U64 (sp · rule 14) FitsU64 n is refl asked.u64_is_guarded

pub u128_fits : (text : List ℕ) (n : Node) → Is whole_rules text NUMBER_U128 n → IsSome (natural_of 128 text n)
u128_fits text n is = guard_passed whole_rules text NUMBER_U128 (sp · rule 14) FitsU128 n is refl asked.u128_is_guarded

pub i128_fits : (text : List ℕ) (n : Node) → Is whole_rules text NUMBER_I128 n → IsSome (integer_of 127 text n)
i128_fits text n is = guard_passed whole_rules text NUMBER_I128 (sp · maybe (literal (codes "-")) · sp · rule 14) FitsI128 n is refl asked.i128_is_guarded

pub i32_fits : (text : List ℕ) (n : Node) → Is whole_rules text NUMBER_I32 n → IsSome (integer_of 31 text n)
i32_fits text n is = guard_passed whole_rules text NUMBER_I32 (sp · maybe (literal (codes "-")) · sp · rule 14) FitsI32 n is refl asked.i32_is_guarded

pub step_has_name : (text : List ℕ) (n : Node) → Is whole_rules text PATH_STEP n → IsSome (child_of n IDENTIFIER)
step_has_name text n is = has_child whole_rules text PATH_STEP IDENTIFIER n is asked.step_asks_name

pub parts_have_mantissa : (text : List ℕ) (n : Node) → Is whole_rules text MBE_NOTATION n → IsSome (child_of n NUMBER_I128)
parts_have_mantissa text n is = has_child whole_rules text MBE_NOTATION NUMBER_I128 n is asked.parts_ask_mantissa

pub parts_have_base : (text : List ℕ) (n : Node) → Is whole_rules text MBE_NOTATION n → IsSome (child_of n REAL_BASE)
parts_have_base text n is = has_child whole_rules text MBE_NOTATION REAL_BASE n is asked.parts_ask_base

pub parts_have_exponent : (text : List ℕ) (n : Node) → Is whole_rules text MBE_NOTATION n → IsSome (child_of n NUMBER_I32)
parts_have_exponent text n is = has_child whole_rules text MBE_NOTATION NUMBER_I32 n is asked.parts_ask_exponent

-- the base is 2 or 10
pub base_fits : (text : List ℕ) (n : Node) → Is whole_rules text REAL_BASE n → is_base_of (natural 128 (bare (taken text n))) ≡ true
base_fits text n is = guard_passed whole_rules text REAL_BASE (rule 15) IsBase n is refl asked.base_is_guarded

-- TRUE or FALSE is there
pub truth_is_one : (text : List ℕ) (n : Node) → Is whole_rules text BOOLEAN_VALUE n → child_of n MARK_TRUE ≡ None → child_of n MARK_FALSE ≡ None → ⊥
truth_is_one text n is e f =
    let one = (bounds whole_rules text BOOLEAN_VALUE (λ q. nat_eq q MARK_TRUE || nat_eq q MARK_FALSE) 1 None n is asked.truth_asks_one).0 in
    let rest = without MARK_TRUE (λ q. nat_eq q MARK_FALSE) (out-Node n).children e in
    gone (child_of n MARK_FALSE) (some_among MARK_FALSE (out-Node n).children (omega (arith, one, rest))) f
  where
    gone : (o : Option Node) → IsSome o → o ≡ None → ⊥
    gone None s f = absurd cc
    gone (Some c) s f = absurd cc

-- a number with a point fits
pub decimal_is_real : (text : List ℕ) (n : Node) → Is whole_rules text DOT_NOTATION n → is_real (bare (taken text n)) ≡ true
decimal_is_real text n is = guard_passed whole_rules text DOT_NOTATION (sp · maybe (literal (codes "-")) · sp · rule 14 · literal (codes ".") · rule 14 · maybe (rule 29)) FitsReal n is refl asked.decimal_is_guarded

pub real_has_mantissa : (bs : List ℕ) → is_real bs ≡ true → is_some (number (mantissa bs)) ≡ true
real_has_mantissa bs e = go (is_some (number (mantissa bs))) e
  where
    go : (t : Bool) → (t && fits_less (decimals bs) (exponent (behind_exponent_mark bs))) ≡ true → t ≡ true
    go true e = refl
    go false e = absurd cc

real_is_less : (bs : List ℕ) → is_real bs ≡ true → fits_less (decimals bs) (exponent (behind_exponent_mark bs)) ≡ true
real_is_less bs e = go (is_some (number (mantissa bs))) e
  where
    go : (t : Bool) → (t && fits_less (decimals bs) (exponent (behind_exponent_mark bs))) ≡ true → fits_less (decimals bs) (exponent (behind_exponent_mark bs)) ≡ true
    go true e = e
    go false e = absurd cc

pub real_has_exponent : (bs : List ℕ) → is_real bs ≡ true → is_some (exponent (behind_exponent_mark bs)) ≡ true
real_has_exponent bs e = go (exponent (behind_exponent_mark bs)) (real_is_less bs e)
  where
    go : (o : Option ℤ) → fits_less (decimals bs) o ≡ true → is_some o ≡ true
    go None e = absurd cc
    go (Some z) e = refl

pub real_fits : (bs : List ℕ) (z : ℤ) → is_real bs ≡ true → exponent (behind_exponent_mark bs) ≡ Some z → fits_less (decimals bs) (Some z) ≡ true
real_fits bs z e same = subst (λ o. fits_less (decimals bs) o ≡ true) same (real_is_less bs e)

-- four octets tell a character
pub quadruple_is_character : (text : List ℕ) (n : Node) → Is whole_rules text QUADRUPLE n → is_scalar_of (four_octets (behind 123 (bare (taken text n)))) ≡ true
quadruple_is_character text n is = guard_passed whole_rules text QUADRUPLE (symbol (codes "{") · rule 47 · symbol (codes ",") · rule 47 · symbol (codes ",") · rule 47 · symbol (codes ",") · rule 47 · symbol (codes "}")) IsCharacter n is refl asked.quadruple_is_guarded
