-- Items are numbered one by one.
use Rattle.std.proofs.Common.{◌≡◌, ℤ, List, [], ◌∷◌, ◌++◌, length, Some, None, refl, sym, ap, ◌∙◌, subst}
use Rattle.std.specs.Prelude.{slice_get}
use Rattle.asn_tree_kinds.specs.declared.types.Enumeral.{Enumeral}
use Rattle.asn_read_pieces.specs.declared.enumerations.WrittenItem.{WrittenItem}
use Rattle.asn_types.specs.Enumerations.{numbered}

abbrev with_number : WrittenItem → ℤ → Enumeral
with_number item n = record { name = item.name; description = item.description; index = n }

one_more : (items : List WrittenItem) (item : WrittenItem) (numbers : List ℤ) (n : ℤ) → slice_get numbers (length (numbered items numbers)) ≡ Some n → numbered (items ++ item ∷ []) numbers ≡ numbered items numbers ++ with_number item n ∷ []
one_more [] item [] n e = absurd cc
one_more [] item (m ∷ ms) n e = let same : m ≡ n = cc in ap (λ k. with_number item k ∷ []) same
one_more (y ∷ ys) item [] n e = absurd cc
one_more (y ∷ ys) item (m ∷ ms) n e = ap (λ r. with_number y m ∷ r) (one_more ys item ms n e)

none_more : (items : List WrittenItem) (item : WrittenItem) (numbers : List ℤ) → slice_get numbers (length (numbered items numbers)) ≡ None → numbered (items ++ item ∷ []) numbers ≡ numbered items numbers
none_more [] item [] e = refl
none_more [] item (m ∷ ms) e = absurd cc
none_more (y ∷ ys) item [] e = refl
none_more (y ∷ ys) item (m ∷ ms) e = ap (λ r. with_number y m ∷ r) (none_more ys item ms e)

-- the next item takes the number at its place
pub takes_number : (items : List WrittenItem) (item : WrittenItem) (numbers : List ℤ) (made : List Enumeral) (n : ℤ) → made ≡ numbered items numbers → slice_get numbers (length made) ≡ Some n → numbered (items ++ item ∷ []) numbers ≡ made ++ with_number item n ∷ []
takes_number items item numbers made n same e = one_more items item numbers n (subst (λ m. slice_get numbers (length m) ≡ Some n) same e) ∙ ap (λ m. m ++ with_number item n ∷ []) (sym same)

-- where there is one
pub takes_none : (items : List WrittenItem) (item : WrittenItem) (numbers : List ℤ) (made : List Enumeral) → made ≡ numbered items numbers → slice_get numbers (length made) ≡ None → numbered (items ++ item ∷ []) numbers ≡ made
takes_none items item numbers made same e = none_more items item numbers (subst (λ m. slice_get numbers (length m) ≡ None) same e) ∙ sym same
