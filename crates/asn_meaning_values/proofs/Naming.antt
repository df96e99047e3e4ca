-- Names of bits and their numbers, one by one.
use Rattle.std.proofs.Common.{◌≡◌, ℕ, suc, ◌+◌, ◌-◌, ◌<◌, ◌≤◌, List, [], ◌∷◌, ◌++◌, map, drop, length, get_or, Bool, true, false, nat_eq, Option, Some, None, append-nil, append_assoc, refl, sym, ap, ◌∙◌, arith}
use Rattle.std.specs.Prelude.{ℤ, max, ◌||◌}
use Rattle.std.specs.Borrow.{Bor}
use Rattle.std.specs.List.{fold, list_any, range_with_len}
use Rattle.std.proofs.lemmas.List.{drop_more, drop_all}
use Rattle.asn_tree_kinds.specs.declared.types.DistinguishedValue.{DistinguishedValue}
use Rattle.asn_tree.specs.declared.values.ASN1Value.{ASN1Value}
use Rattle.asn_meaning_heads.specs.declared.values.ValueForm.{ValueForm}
use Rattle.asn_meaning_heads.specs.Values.{shown_value}
use Rattle.asn_meaning_values.specs.Bits.{bits_of_names, names_of_elements, number_of_name, shown_texts}
use Rattle.asn_meaning_values.specs.Braces.{shown_values}
use Rattle.asn_meaning_values.proofs.Listing.{before, none_before, one_before, together}
use Rattle.asn_meaning.specs.Answers.{once}
use Rattle.asn_meaning.specs.Braces.{elements_written}
use Rattle.asn_meaning.specs.Members.{number_named}
use Rattle.asn_meaning.specs.Rows.{bit_number, bit_numbers, named_bits, names_written, numbers_of_names, reference_name, reference_names, set_bits}
use Rattle.asn_meaning.specs.Written.{Written, as_written}

-- ---- names

pub one_name_more : (all names : List (Bor (List ℕ))) (name : Bor (List ℕ)) → all ≡ names ++ name ∷ [] → shown_texts all ≡ shown_texts names ++ name.now ∷ []
one_name_more all names name e = ap shown_texts e ∙ together (λ n. n.now) names (name ∷ [])

pub names_begin : (vs : List ValueForm) → before [] (reference_names (shown_values vs)) ≡ reference_names (shown_values vs)
names_begin vs = none_before (reference_names (shown_values vs))

names_first : (out : List (List ℕ)) (vs : List ValueForm) (i : ℕ) (v : ValueForm) → i < length vs → v ≡ get_or vs i v →
    before out (reference_names (shown_values (drop i vs))) ≡ before out (reference_names (shown_value v ∷ shown_values (drop (i + 1) vs)))
names_first out vs i v lt e = ap (λ xs. before out (reference_names (shown_values xs))) (drop_more vs i v lt ∙ ap (λ x. x ∷ drop (i + 1) vs) (sym e))

pub names_next : (out : List (List ℕ)) (vs : List ValueForm) (i : ℕ) (v : ValueForm) (name : List ℕ) → i < length vs → v ≡ get_or vs i v → reference_name (as_written (shown_value v)) ≡ Some name →
    before (out ++ name ∷ []) (reference_names (shown_values (drop (i + 1) vs))) ≡ before out (reference_names (shown_values (drop i vs)))
names_next out vs i v name lt e is =
    sym (names_first out vs i v lt e
    ∙ ap (λ n. before out (once None n (λ name. once None (reference_names (shown_values (drop (i + 1) vs))) (λ names. Some (name ∷ names))))) is
    ∙ one_before out name (reference_names (shown_values (drop (i + 1) vs))))

pub names_lost : (out : List (List ℕ)) (vs : List ValueForm) (i : ℕ) (v : ValueForm) → i < length vs → v ≡ get_or vs i v → reference_name (as_written (shown_value v)) ≡ None →
    before out (reference_names (shown_values (drop i vs))) ≡ None
names_lost out vs i v lt e is =
    names_first out vs i v lt e ∙ ap (λ n. before out (once None n (λ name. once None (reference_names (shown_values (drop (i + 1) vs))) (λ names. Some (name ∷ names))))) is

pub names_done : (out : List (List ℕ)) (vs : List ValueForm) (i : ℕ) → length vs ≤ i → before out (reference_names (shown_values (drop i vs))) ≡ Some out
names_done out vs i le = ap (λ xs. before out (reference_names (shown_values xs))) (drop_all i vs le) ∙ ap Some (append-nil out)

pub no_elements : (w : Written) → elements_written w ≡ None → names_of_elements w ≡ None
no_elements w e = ap (λ vs. once None vs reference_names) e

pub some_elements : (w : Written) (vs : List ASN1Value) → elements_written w ≡ Some vs → names_of_elements w ≡ reference_names vs
some_elements w vs e = ap (λ vs. once None vs reference_names) e

-- ---- numbers

pub numbers_begin : (ds : List DistinguishedValue) → before [] (bit_numbers ds) ≡ bit_numbers ds
numbers_begin ds = none_before (bit_numbers ds)

numbers_first : (out : List ℕ) (ds : List DistinguishedValue) (i : ℕ) (d : DistinguishedValue) → i < length ds → d ≡ get_or ds i d →
    before out (bit_numbers (drop i ds)) ≡ before out (bit_numbers (d ∷ drop (i + 1) ds))
numbers_first out ds i d lt e = ap (λ xs. before out (bit_numbers xs)) (drop_more ds i d lt ∙ ap (λ x. x ∷ drop (i + 1) ds) (sym e))

pub numbers_next : (out : List ℕ) (ds : List DistinguishedValue) (i : ℕ) (d : DistinguishedValue) (n : ℕ) → i < length ds → d ≡ get_or ds i d → bit_number d.value ≡ Some n →
    before (out ++ n ∷ []) (bit_numbers (drop (i + 1) ds)) ≡ before out (bit_numbers (drop i ds))
numbers_next out ds i d n lt e is =
    sym (numbers_first out ds i d lt e
    ∙ ap (λ n. before out (once None n (λ n. once None (bit_numbers (drop (i + 1) ds)) (λ ns. Some (n ∷ ns))))) is
    ∙ one_before out n (bit_numbers (drop (i + 1) ds)))

pub numbers_lost : (out : List ℕ) (ds : List DistinguishedValue) (i : ℕ) (d : DistinguishedValue) → i < length ds → d ≡ get_or ds i d → bit_number d.value ≡ None →
    before out (bit_numbers (drop i ds)) ≡ None
numbers_lost out ds i d lt e is =
    numbers_first out ds i d lt e ∙ ap (λ n. before out (once None n (λ n. once None (bit_numbers (drop (i + 1) ds)) (λ ns. Some (n ∷ ns))))) is

pub numbers_done : (out : List ℕ) (ds : List DistinguishedValue) (i : ℕ) → length ds ≤ i → before out (bit_numbers (drop i ds)) ≡ Some out
numbers_done out ds i le = ap (λ xs. before out (bit_numbers xs)) (drop_all i ds le) ∙ ap Some (append-nil out)

pub no_number : (ds : List DistinguishedValue) (name : List ℕ) → number_named ds name ≡ None → number_of_name ds name ≡ None
no_number ds name e = ap (λ i. once None i bit_number) e

pub some_number : (ds : List DistinguishedValue) (name : List ℕ) (i : ℤ) → number_named ds name ≡ Some i → number_of_name ds name ≡ bit_number i
some_number ds name i e = ap (λ i. once None i bit_number) e

pub named_begin : (ds : List DistinguishedValue) (names : List (Bor (List ℕ))) → before [] (numbers_of_names ds (shown_texts names)) ≡ numbers_of_names ds (shown_texts names)
named_begin ds names = none_before (numbers_of_names ds (shown_texts names))

by_name : (ds : List DistinguishedValue) (name : List ℕ) (names : List (List ℕ)) →
    numbers_of_names ds (name ∷ names) ≡ once None (number_of_name ds name) (λ n. once None (numbers_of_names ds names) (λ ns. Some (n ∷ ns)))
by_name ds name names = go (number_named ds name)
  where
    go : (i : Option ℤ) →
        once None i (λ i. once None (bit_number i) (λ n. once None (numbers_of_names ds names) (λ ns. Some (n ∷ ns))))
        ≡ once None (once None i bit_number) (λ n. once None (numbers_of_names ds names) (λ ns. Some (n ∷ ns)))
    go None = refl
    go (Some i) = refl

named_first : (out : List ℕ) (ds : List DistinguishedValue) (names : List (Bor (List ℕ))) (i : ℕ) (name : Bor (List ℕ)) → i < length names → name ≡ get_or names i name →
    before out (numbers_of_names ds (shown_texts (drop i names)))
    ≡ before out (once None (number_of_name ds name.now) (λ n. once None (numbers_of_names ds (shown_texts (drop (i + 1) names))) (λ ns. Some (n ∷ ns))))
named_first out ds names i name lt e =
    ap (λ xs. before out (numbers_of_names ds (shown_texts xs))) (drop_more names i name lt ∙ ap (λ x. x ∷ drop (i + 1) names) (sym e))
    ∙ ap (before out) (by_name ds name.now (shown_texts (drop (i + 1) names)))

pub named_next : (out : List ℕ) (ds : List DistinguishedValue) (names : List (Bor (List ℕ))) (i : ℕ) (name : Bor (List ℕ)) (n : ℕ) → i < length names → name ≡ get_or names i name →
    number_of_name ds name.now ≡ Some n →
    before (out ++ n ∷ []) (numbers_of_names ds (shown_texts (drop (i + 1) names))) ≡ before out (numbers_of_names ds (shown_texts (drop i names)))
named_next out ds names i name n lt e is =
    sym (named_first out ds names i name lt e
    ∙ ap (λ n. before out (once None n (λ n. once None (numbers_of_names ds (shown_texts (drop (i + 1) names))) (λ ns. Some (n ∷ ns))))) is
    ∙ one_before out n (numbers_of_names ds (shown_texts (drop (i + 1) names))))

pub named_lost : (out : List ℕ) (ds : List DistinguishedValue) (names : List (Bor (List ℕ))) (i : ℕ) (name : Bor (List ℕ)) → i < length names → name ≡ get_or names i name →
    number_of_name ds name.now ≡ None → before out (numbers_of_names ds (shown_texts (drop i names))) ≡ None
named_lost out ds names i name lt e is =
    named_first out ds names i name lt e
    ∙ ap (λ n. before out (once None n (λ n. once None (numbers_of_names ds (shown_texts (drop (i + 1) names))) (λ ns. Some (n ∷ ns))))) is

pub named_done : (out : List ℕ) (ds : List DistinguishedValue) (names : List (Bor (List ℕ))) (i : ℕ) → length names ≤ i → before out (numbers_of_names ds (shown_texts (drop i names))) ≡ Some out
named_done out ds names i le = ap (λ xs. before out (numbers_of_names ds (shown_texts xs))) (drop_all i names le) ∙ ap Some (append-nil out)

-- ---- bits

pub greatest_next : (best : ℕ) (xs : List ℕ) (i x : ℕ) → i < length xs → x ≡ get_or xs i x → fold max best (drop i xs) ≡ fold max (max best x) (drop (i + 1) xs)
greatest_next best xs i x lt e = ap (fold max best) (drop_more xs i x lt ∙ ap (λ y. y ∷ drop (i + 1) xs) (sym e))

pub greatest_done : (best : ℕ) (xs : List ℕ) (i : ℕ) → length xs ≤ i → fold max best (drop i xs) ≡ best
greatest_done best xs i le = ap (fold max best) (drop_all i xs le)

pub listed_first : (xs : List ℕ) (i x n : ℕ) → i < length xs → x ≡ get_or xs i x → list_any (nat_eq n) (drop i xs) ≡ (nat_eq n x || list_any (nat_eq n) (drop (i + 1) xs))
listed_first xs i x n lt e = ap (list_any (nat_eq n)) (drop_more xs i x lt ∙ ap (λ y. y ∷ drop (i + 1) xs) (sym e))

abbrev pub bits_from : List ℕ → ℕ → ℕ → List Bool
bits_from named from count = map (λ i. list_any (nat_eq i) named) (range_with_len from count)

pub bits_next : (out : List Bool) (named : List ℕ) (i size : ℕ) → i < size →
    (out ++ list_any (nat_eq i) named ∷ []) ++ bits_from named (i + 1) (size - (i + 1)) ≡ out ++ bits_from named i (size - i)
bits_next out named i size lt =
    let e : size - i ≡ suc (size - (i + 1)) = omega arith in
    append_assoc out (list_any (nat_eq i) named ∷ []) (bits_from named (i + 1) (size - (i + 1))) ∙ sym (ap (λ n. out ++ bits_from named i n) e)

pub bits_done : (out : List Bool) (named : List ℕ) (i size : ℕ) → size ≤ i → out ++ bits_from named i (size - i) ≡ out
bits_done out named i size le =
    let e : size - i ≡ 0 = omega arith in
    ap (λ n. out ++ bits_from named i n) e ∙ append-nil out

pub unnamed_some : (ds : List DistinguishedValue) (names : List (Bor (List ℕ))) → length ds ≡ 0 → length names ≡ 0 → named_bits ds (shown_texts names) ≡ Some []
unnamed_some [] [] e f = refl
unnamed_some [] (name ∷ names) e f = absurd (omega arith)
unnamed_some (d ∷ ds) names e f = absurd (omega arith)

pub unnamed_none : (ds : List DistinguishedValue) (names : List (Bor (List ℕ))) → length ds ≡ 0 → 0 < length names → named_bits ds (shown_texts names) ≡ None
unnamed_none [] [] e f = absurd (omega arith)
unnamed_none [] (name ∷ names) e f = refl
unnamed_none (d ∷ ds) names e f = absurd (omega arith)

pub bits_unknown : (ds : List DistinguishedValue) (names : List (List ℕ)) → 0 < length ds → bit_numbers ds ≡ None → named_bits ds names ≡ None
bits_unknown [] names lt e = absurd (omega arith)
bits_unknown (d ∷ ds) names lt e = ap (λ n. once None n (λ numbers. once None (numbers_of_names (d ∷ ds) names) (λ ns. Some (set_bits numbers ns)))) e

pub names_unknown : (ds : List DistinguishedValue) (names : List (List ℕ)) (numbers : List ℕ) → 0 < length ds → bit_numbers ds ≡ Some numbers → numbers_of_names ds names ≡ None → named_bits ds names ≡ None
names_unknown [] names numbers lt e f = absurd (omega arith)
names_unknown (d ∷ ds) names numbers lt e f =
    ap (λ n. once None n (λ numbers. once None (numbers_of_names (d ∷ ds) names) (λ ns. Some (set_bits numbers ns)))) e
    ∙ ap (λ n. once None n (λ ns. Some (set_bits numbers ns))) f

pub bits_known : (ds : List DistinguishedValue) (names : List (List ℕ)) (numbers ns : List ℕ) → 0 < length ds → bit_numbers ds ≡ Some numbers → numbers_of_names ds names ≡ Some ns →
    named_bits ds names ≡ Some (set_bits numbers ns)
bits_known [] names numbers ns lt e f = absurd (omega arith)
bits_known (d ∷ ds) names numbers ns lt e f =
    ap (λ n. once None n (λ numbers. once None (numbers_of_names (d ∷ ds) names) (λ ns. Some (set_bits numbers ns)))) e
    ∙ ap (λ n. once None n (λ ns. Some (set_bits numbers ns))) f

pub no_names : (ds : List DistinguishedValue) (w : Written) → names_written w ≡ None → bits_of_names ds w ≡ None
no_names ds w e = ap (λ names. once None names (named_bits ds)) e

pub some_names : (ds : List DistinguishedValue) (w : Written) (names : List (List ℕ)) → names_written w ≡ Some names → bits_of_names ds w ≡ named_bits ds names
some_names ds w names e = ap (λ names. once None names (named_bits ds)) e
