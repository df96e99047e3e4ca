-- Where a name stands in a list of names.
use Rattle.std.proofs.Common.{◌≡◌, ◌+◌, ℕ, suc, List, [], ◌∷◌, Bool, not, cond, Option, Some, None, length, map, refl, sym, ap, ◌∙◌}
use Rattle.std.specs.Prelude.{position, bytes_eq, nat_lt}
use Rattle.std.specs.List.{position_or_len}
use Rattle.std.specs.Option.{option_map}
use Rattle.asn_rules.specs.RuleNames.{rule_names, rule_named}

how_many : length rule_names ≡ 190
unfolding rule_names
how_many = refl

place_or_len : {X Y : Type 0} (f : X → Y) (p : Y → Bool) (xs : List X) → position_or_len (λ x. p (f x)) xs ≡ position_or_len p (map f xs)
place_or_len f p [] = refl
place_or_len f p (x ∷ xs) = ap (λ n. cond (not (p (f x))) (1 + n) 0) (place_or_len f p xs)

map_length : {X Y : Type 0} (f : X → Y) (xs : List X) → length (map f xs) ≡ length xs
map_length f [] = refl
map_length f (x ∷ xs) = ap suc (map_length f xs)

place_of_each : {X Y : Type 0} (f : X → Y) (p : Y → Bool) (xs : List X) → position (λ x. p (f x)) xs ≡ position p (map f xs)
place_of_each f p xs =
    ap (λ n. cond (nat_lt n (length xs)) (Some n) None) (place_or_len f p xs)
    ∙ ap (λ n. cond (nat_lt (position_or_len p (map f xs)) n) (Some (position_or_len p (map f xs))) None) (sym (map_length f xs))

-- the length of such a list
pub how_many_in : {X : Type 0} (f : X → List ℕ) (xs : List X) → map f xs ≡ rule_names → length xs ≡ 190
how_many_in f xs e = sym (map_length f xs) ∙ ap length e ∙ how_many

pub named : {X : Type 0} (f : X → List ℕ) (xs : List X) (name : List ℕ) (place : Option ℕ) → place ≡ position (λ x. bytes_eq (f x) name) xs → map f xs ≡ rule_names → option_map suc place ≡ rule_named name
named f xs name place e all = ap (option_map suc) (e ∙ place_of_each f (λ known. bytes_eq known name) xs ∙ ap (position (λ known. bytes_eq known name)) all)
