-- Names and types that an iterator gives.
use Rattle.std.proofs.Common.{◌≡◌, ℕ, List, [], ◌∷◌, ◌++◌, map, ap, sym, ◌∙◌, append-nil}
use Rattle.std.specs.Borrow.{Bor}
use Rattle.std.specs.Iterator.{Yields, Drains}
use Rattle.asn_tree.specs.declared.types.ASN1Type.{ASN1Type}
use Rattle.asn_calls.specs.Laws.{NameTypesInOrder}
use Rattle.asn_calls.specs.Members.{NameTypesGive, lent_pair}

so_far : (left rest : List (List ℕ × ASN1Type)) (items : List (Bor (List ℕ) × Bor ASN1Type)) → Yields NameTypesGive left items rest → map lent_pair items ++ rest ≡ left
so_far left rest [] is = sym is
so_far left rest (item ∷ items) (behind, gives, more) = ap (λ pairs. lent_pair item ∷ pairs) (so_far behind rest items more) ∙ sym gives

at_end : (left : List (List ℕ × ASN1Type)) (items : List (Bor (List ℕ) × Bor ASN1Type)) → Drains NameTypesGive left items → map lent_pair items ≡ left
at_end left items (last, (rest, given, ended)) = sym (append-nil (map lent_pair items)) ∙ ap (λ pairs. map lent_pair items ++ pairs) (sym ended.0) ∙ so_far left rest items given

-- what came and what is left are all, and nothing is left at None
pub in_order : NameTypesInOrder
in_order = record { so_far = so_far; at_end = at_end }
