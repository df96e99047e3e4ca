-- The integer types, from the most restrictive, and what they hold.
use Rattle.std.specs.Prelude.{ℕ, ◌-◌, ◌^◌, nat_le, ℤ, pos, negsuc, int_le, int_lt, Bool, true, false, ◌&&◌, List, [], ◌∷◌, Option, Some, None, codes, if◌then◌else◌}
use Rattle.std.specs.List.{fold}
use Rattle.asn_tree.specs.declared.constraints.Constraint.{Constraint}
use Rattle.asn_tree_leaves.specs.declared.plain.IntegerType.{IntegerType}
use Rattle.asn_tree_leaves.specs.declared.plain.IntegerType.TheVariants.{Int8, Uint8, Int16, Uint16, Int32, Uint32, Int64, Uint64, Unbounded}
use Rattle.asn_calls.specs.Constraints.{bounds_of}

-- the place of a type among them
abbrev pub place : IntegerType → ℕ
place Uint8 = 0
place Int8 = 1
place Uint16 = 2
place Int16 = 3
place Uint32 = 4
place Int32 = 5
place Uint64 = 6
place Int64 = 7
place Unbounded = 8

-- of two types the earlier
abbrev pub earlier : IntegerType → IntegerType → IntegerType
earlier a b = if nat_le (place a) (place b) then a else b

abbrev pub is_unbounded : IntegerType → Bool
is_unbounded Int8 = false
is_unbounded Uint8 = false
is_unbounded Int16 = false
is_unbounded Uint16 = false
is_unbounded Int32 = false
is_unbounded Uint32 = false
is_unbounded Int64 = false
is_unbounded Uint64 = false
is_unbounded Unbounded = true

abbrev pub word : IntegerType → List ℕ
word Int8 = codes "i8"
word Uint8 = codes "u8"
word Int16 = codes "i16"
word Uint16 = codes "u16"
word Int32 = codes "i32"
word Uint32 = codes "u32"
word Int64 = codes "i64"
word Uint64 = codes "u64"
word Unbounded = codes "Integer"

-- whether a number lies from -n on and below n
abbrev pub is_signed_below : ℕ → ℤ → Bool
is_signed_below n i = int_le (negsuc (n - 1)) i && int_lt i (pos n)

-- whether a number lies from 0 on and below n
abbrev pub is_unsigned_below : ℕ → ℤ → Bool
is_unsigned_below n i = int_le (pos 0) i && int_lt i (pos n)

-- whether a number is one of the type's
unfoldable pub holds : IntegerType → ℤ → Bool
holds Int8 i = is_signed_below (2 ^ 7) i
holds Uint8 i = is_unsigned_below (2 ^ 8) i
holds Int16 i = is_signed_below (2 ^ 15) i
holds Uint16 i = is_unsigned_below (2 ^ 16) i
holds Int32 i = is_signed_below (2 ^ 31) i
holds Uint32 i = is_unsigned_below (2 ^ 32) i
holds Int64 i = is_signed_below (2 ^ 63) i
holds Uint64 i = is_unsigned_below (2 ^ 64) i
holds Unbounded i = true

abbrev pub spans : IntegerType → ℤ → ℤ → Bool
spans t low high = holds t low && holds t high

-- the first of the types that holds both numbers, else Unbounded
abbrev pub first_holding : ℤ → ℤ → List IntegerType → IntegerType
first_holding low high [] = Unbounded
first_holding low high (t ∷ ts) = if spans t low high then t else first_holding low high ts

-- from the least on
abbrev pub unsigned_types : List IntegerType
unsigned_types = Uint8 ∷ Uint16 ∷ Uint32 ∷ Uint64 ∷ []

abbrev pub signed_types : List IntegerType
signed_types = Int8 ∷ Int16 ∷ Int32 ∷ Int64 ∷ []

-- The least type that holds `low` and `high`, and so all numbers between them: an unsigned one where none is negative.
abbrev pub least_type : ℤ → ℤ → IntegerType
least_type low high = first_holding low high (if int_le (pos 0) low then unsigned_types else signed_types)

-- The type of two bounds as they are written, where there are numbers between them: an end that a range leaves out counts too.
abbrev pub type_between : Option (ℤ × ℤ) → IntegerType
type_between None = Unbounded
type_between (Some b) = if int_le b.0 b.1 then least_type b.0 b.1 else Unbounded

-- the type that a constraint gives
abbrev pub type_of : Constraint → IntegerType
type_of c = type_between (bounds_of c)

-- the most restrictive of the types that the constraints give, Unbounded for none
abbrev pub type_of_all : List Constraint → IntegerType
type_of_all cs = fold (λ t c. earlier t (type_of c)) Unbounded cs
