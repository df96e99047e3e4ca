-- What integer types hold, and how they are found.
use Rattle.std.proofs.Common.{◌≡◌, ℕ, suc, ◌<◌, ◌^◌, ℤ, pos, ◌≤ℤ◌, int_le, nat_le, Bool, true, false, ◌&&◌, if◌then◌else◌, List, [], ◌∷◌, length, get_or, drop, drop-cons, Option, Some, None, refl, ap, sym, ◌∙◌, arith}
use Rattle.std.specs.List.{fold}
use Rattle.std.proofs.lemmas.Int.{ints}
use Rattle.asn_tree.specs.declared.constraints.Constraint.{Constraint}
use Rattle.asn_tree.specs.declared.constraints.SubtypeElement.{SubtypeElement, SubtypeElement-F, out-SubtypeElement}
use Rattle.asn_tree_leaves.specs.declared.plain.IntegerType.{IntegerType}
use Rattle.asn_tree_leaves.specs.declared.plain.IntegerType.TheVariants.{Int8, Uint8, Int16, Uint16, Int32, Uint32, Int64, Uint64, Unbounded}
use Rattle.asn_tree.specs.Layers.{ElementLayer}
use Rattle.asn_calls.specs.Admitting.{IsFrom, IsTo, IsSingle, AdmitsAt, AdmitsIn, Admits, AllAdmit}
use Rattle.asn_calls.specs.Constraints.{bounds_at, bounds_in, both, element_of, number_in, number_of}
use Rattle.asn_calls.specs.Laws.{AdmittedIsHeld}
use Rattle.asn_calls.specs.Integers.{earlier, first_holding, holds, is_signed_below, is_unsigned_below, least_type, place, signed_types, spans, type_between, type_of, unsigned_types}

-- where the one at i spans the numbers and those before it are passed over, it is the first
pub first_found : (low high : ℤ) (ts : List IntegerType) (i : ℕ) (d : IntegerType) (b : Bool) → i < length ts → b ≡ spans (get_or ts i d) low high → b ≡ true → first_holding low high (drop i ts) ≡ first_holding low high ts → get_or ts i d ≡ first_holding low high ts
first_found low high ts i d b h e t before =
    let first : first_holding low high (get_or ts i d ∷ drop (suc i) ts) ≡ get_or ts i d = ap (λ b. if b then get_or ts i d else first_holding low high (drop (suc i) ts)) (sym e ∙ t) in
    sym first ∙ ap (first_holding low high) (sym (drop-cons ts i d h)) ∙ before

signed_between : (n : ℕ) (low high i : ℤ) → (is_signed_below n low && is_signed_below n high) ≡ true → low ≤ℤ i → i ≤ℤ high → is_signed_below n i ≡ true
signed_between n low high i h from to = grind (arith, ints)

unsigned_between : (n : ℕ) (low high i : ℤ) → (is_unsigned_below n low && is_unsigned_below n high) ≡ true → low ≤ℤ i → i ≤ℤ high → is_unsigned_below n i ≡ true
unsigned_between n low high i h from to = grind (arith, ints)

-- a type that holds two numbers holds those between them
between : (t : IntegerType) (low high i : ℤ) → spans t low high ≡ true → low ≤ℤ i → i ≤ℤ high → holds t i ≡ true
unfolding holds
between Int8 low high i h from to = signed_between (2 ^ 7) low high i h from to
between Uint8 low high i h from to = unsigned_between (2 ^ 8) low high i h from to
between Int16 low high i h from to = signed_between (2 ^ 15) low high i h from to
between Uint16 low high i h from to = unsigned_between (2 ^ 16) low high i h from to
between Int32 low high i h from to = signed_between (2 ^ 31) low high i h from to
between Uint32 low high i h from to = unsigned_between (2 ^ 32) low high i h from to
between Int64 low high i h from to = signed_between (2 ^ 63) low high i h from to
between Uint64 low high i h from to = unsigned_between (2 ^ 64) low high i h from to
between Unbounded low high i h from to = refl

unbounded : (i : ℤ) → holds Unbounded i ≡ true
unfolding holds
unbounded i = refl

first_holds : (low high : ℤ) (ts : List IntegerType) (i : ℤ) → low ≤ℤ i → i ≤ℤ high → holds (first_holding low high ts) i ≡ true
first_holds low high [] i from to = unbounded i
first_holds low high (t ∷ ts) i from to = go (spans t low high) refl (first_holds low high ts i from to)
  where
    go : (b : Bool) → spans t low high ≡ b → holds (first_holding low high ts) i ≡ true → holds (if b then t else first_holding low high ts) i ≡ true
    go true e rest = between t low high i e from to
    go false e rest = rest

in_bounds : (low high i : ℤ) → low ≤ℤ i → i ≤ℤ high → holds (type_between (Some (low, high))) i ≡ true
in_bounds low high i from to = go (int_le low high)
  where
    go : (b : Bool) → holds (if b then least_type low high else Unbounded) i ≡ true
    go true = first_holds low high (if int_le (pos 0) low then unsigned_types else signed_types) i from to
    go false = unbounded i

from_end : (without : Bool) (end i : ℤ) → IsFrom without (Some end) i → end ≤ℤ i
from_end true end i h = omega (arith, ints)
from_end false end i h = h

to_end : (without : Bool) (end i : ℤ) → IsTo without (Some end) i → i ≤ℤ end
to_end true end i h = omega (arith, ints)
to_end false end i h = h

in_range : (low_out high_out : Bool) (low high : Option ℤ) (i : ℤ) → IsFrom low_out low i → IsTo high_out high i → holds (type_between (both low high)) i ≡ true
in_range low_out high_out None high i from to = unbounded i
in_range low_out high_out (Some low) None i from to = unbounded i
in_range low_out high_out (Some low) (Some high) i from to = in_bounds low high i (from_end low_out low i from) (to_end high_out high i to)

is_single : (value : Option ℤ) (i : ℤ) → IsSingle value i → holds (type_between (both value value)) i ≡ true
is_single None i h = unbounded i
is_single (Some value) i h = in_bounds value value i (omega (arith, ints)) (omega (arith, ints))

element_admits : (e : ElementLayer) (i : ℤ) → AdmitsAt e i → holds (type_between (bounds_at e)) i ≡ true
element_admits (SubtypeElement-F.ValueRange min max min_open max_open true) i h = unbounded i
element_admits (SubtypeElement-F.ValueRange min max min_open max_open false) i h = in_range min_open max_open (number_in min) (number_in max) i h.0 h.1
element_admits (SubtypeElement-F.SingleValue value true) i h = unbounded i
element_admits (SubtypeElement-F.SingleValue value false) i h = is_single (number_of value) i h
element_admits _ i h = unbounded i

in_element : (e : Option SubtypeElement) (i : ℤ) → AdmitsIn e i → holds (type_between (bounds_in e)) i ≡ true
in_element None i h = unbounded i
in_element (Some e) i h = element_admits (out-SubtypeElement e) i h

admitted : (c : Constraint) (i : ℤ) → Admits c i → holds (type_of c) i ≡ true
admitted c i h = in_element (element_of c) i h

earlier_holds : (a b : IntegerType) (i : ℤ) → holds a i ≡ true → holds b i ≡ true → holds (earlier a b) i ≡ true
earlier_holds a b i h k = go (nat_le (place a) (place b))
  where
    go : (t : Bool) → holds (if t then a else b) i ≡ true
    go true = h
    go false = k

all_hold : (t : IntegerType) (cs : List Constraint) (i : ℤ) → holds t i ≡ true → AllAdmit cs i → holds (fold (λ t c. earlier t (type_of c)) t cs) i ≡ true
all_hold t [] i h k = h
all_hold t (c ∷ cs) i h k = all_hold (earlier t (type_of c)) cs i (earlier_holds t (type_of c) i h (admitted c i k.0)) k.1

-- what all constraints of an INTEGER admit is one of its type's numbers
pub are_within : AdmittedIsHeld
are_within cs i h = all_hold Unbounded cs i (unbounded i) h
