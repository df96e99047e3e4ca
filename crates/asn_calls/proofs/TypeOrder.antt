-- The order of the integer types, from the most restrictive.
use Rattle.std.proofs.Common.{◌≡◌, ◌≤◌, ◌^◌, ◌⊎◌, inl, inr, nat_le, ℤ, pos, negsuc, Bool, true, false, not, ◌&&◌, ◌||◌, if◌then◌else◌, refl, arith}
use Rattle.std.proofs.lemmas.Bool.Decides.{nat_tests}
use Rattle.asn_tree_leaves.specs.declared.plain.IntegerType.{IntegerType}
use Rattle.asn_tree_leaves.specs.declared.plain.IntegerType.TheVariants.{Int8, Uint8, Int16, Uint16, Int32, Uint32, Int64, Uint64, Unbounded}
use Rattle.asn_calls.specs.Integers.{place, earlier, holds}
use Rattle.asn_calls.specs.Laws.{EarlierIsLeast}

is_one : (a b : IntegerType) → (earlier a b ≡ a) ⊎ (earlier a b ≡ b)
is_one a b = go (nat_le (place a) (place b))
  where
    go : (t : Bool) → ((if t then a else b) ≡ a) ⊎ ((if t then a else b) ≡ b)
    go true = inl refl
    go false = inr refl

is_least_left : (a b : IntegerType) → place (earlier a b) ≤ place a
is_least_left a b = go (nat_le (place a) (place b)) refl
  where
    go : (t : Bool) → nat_le (place a) (place b) ≡ t → place (if t then a else b) ≤ place a
    go true is = omega arith
    go false is = grind (arith, nat_tests)

is_least_right : (a b : IntegerType) → place (earlier a b) ≤ place b
is_least_right a b = go (nat_le (place a) (place b)) refl
  where
    go : (t : Bool) → nat_le (place a) (place b) ≡ t → place (if t then a else b) ≤ place b
    go true is = grind (arith, nat_tests)
    go false is = omega arith

-- a number of the type that no earlier one holds
own : IntegerType → ℤ
own Uint8 = pos 0
own Int8 = negsuc 0
own Uint16 = pos (2 ^ 8)
own Int16 = negsuc (2 ^ 7)
own Uint32 = pos (2 ^ 16)
own Int32 = negsuc (2 ^ 15)
own Uint64 = pos (2 ^ 32)
own Int64 = negsuc (2 ^ 31)
own Unbounded = pos (2 ^ 64)

holds_own : (a : IntegerType) → holds a (own a) ≡ true
unfolding holds own
holds_own Uint8 = refl
holds_own Int8 = refl
holds_own Uint16 = refl
holds_own Int16 = refl
holds_own Uint32 = refl
holds_own Int32 = refl
holds_own Uint64 = refl
holds_own Int64 = refl
holds_own Unbounded = refl

-- whether b is no earlier than a, or lacks the own number of a
is_later : IntegerType → IntegerType → Bool
is_later a b = not (holds b (own a)) || nat_le (place a) (place b)

every : (P : IntegerType → Bool) → (P Uint8 && P Int8 && P Uint16 && P Int16 && P Uint32 && P Int32 && P Uint64 && P Int64 && P Unbounded) ≡ true → (b : IntegerType) → P b ≡ true
every P h Uint8 = grind arith
every P h Int8 = grind arith
every P h Uint16 = grind arith
every P h Int16 = grind arith
every P h Uint32 = grind arith
every P h Int32 = grind arith
every P h Uint64 = grind arith
every P h Int64 = grind arith
every P h Unbounded = grind arith

all_later : (a b : IntegerType) → is_later a b ≡ true
unfolding holds own is_later
all_later Uint8 b = every (is_later Uint8) refl b
all_later Int8 b = every (is_later Int8) refl b
all_later Uint16 b = every (is_later Uint16) refl b
all_later Int16 b = every (is_later Int16) refl b
all_later Uint32 b = every (is_later Uint32) refl b
all_later Int32 b = every (is_later Int32) refl b
all_later Uint64 b = every (is_later Uint64) refl b
all_later Int64 b = every (is_later Int64) refl b
all_later Unbounded b = every (is_later Unbounded) refl b

restricts : (a b : IntegerType) → ((i : ℤ) → holds a i ≡ true → holds b i ≡ true) → place a ≤ place b
unfolding is_later
restricts a b within = go (holds b (own a)) (nat_le (place a) (place b)) refl (within (own a) (holds_own a)) (all_later a b)
  where
    go : (h t : Bool) → nat_le (place a) (place b) ≡ t → h ≡ true → (not h || t) ≡ true → place a ≤ place b
    go true true is e f = grind (arith, nat_tests)
    go true false is e f = absurd (cc)
    go false t is e f = absurd (cc)

pub is_least : EarlierIsLeast
is_least = record { is_one = is_one; is_least_left = is_least_left; is_least_right = is_least_right; restricts = restricts }
