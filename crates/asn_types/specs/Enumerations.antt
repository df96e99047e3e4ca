-- ENUMERATED and the numbers of its items (X.680 20).
use Rattle.std.specs.Prelude.{ℕ, ℤ, pos, negsuc, nat_lt, List, [], ◌∷◌, ◌++◌, map, length, Bool, true, false, not, ◌&&◌, Option, Some, None}
use Rattle.std.specs.List.{list_all}
use Rattle.std.specs.Option.{option_map}
use Rattle.asn_tree_leaves.specs.declared.markers.ExtensionMarker.{ExtensionMarker}
use Rattle.asn_rules.specs.declared.names.TheConstants.{ENUMERAL_LIST}
use Rattle.asn_rules.specs.declared.node.Node.{Node}
use Rattle.asn_rules.specs.Nodes.{nth_child_of, the}
use Rattle.asn_tree_kinds.specs.declared.types.Enumeral.{Enumeral}
use Rattle.asn_tree.specs.declared.types.ASN1Type.{ASN1Type}
use Rattle.asn_tree.specs.declared.types.ASN1Type.TheVariants.{Enumerated}
use Rattle.asn_tree_numbers.specs.Enumeration.{has, if_fits, written}
use Rattle.asn_rules_guards.specs.Enumerations.{least_free}
use Rattle.asn_read_nodes.specs.Parts.{of_some}
use Rattle.asn_read_pieces.specs.Enumerations.{items_of}
use Rattle.asn_read_pieces.specs.Words.{extension_of}
use Rattle.asn_read_pieces.specs.declared.enumerations.WrittenItem.{WrittenItem}

abbrev pub is_above : ℕ → ℤ → Bool
is_above n (pos m) = nat_lt m n
is_above n (negsuc m) = true

-- whether a number is not taken, and above each earlier one
abbrev pub is_free : List ℤ → List ℤ → ℕ → Bool
is_free taken earlier n = not (has taken (pos n)) && list_all (is_above n) earlier

-- the least such number from 0 on, if it is one of 128 bits
abbrev pub next : List ℤ → List ℤ → Option ℤ
next taken earlier = if_fits (least_free (λ n. not (is_free taken earlier n)) 0)

-- the number of an item: the one that is written, else the next that is free
abbrev pub number_of : List ℤ → List ℤ → Option ℤ → Option ℤ
number_of taken earlier (Some m) = Some m
number_of taken earlier None = next taken earlier

-- the numbers that those of later items stand above: one that is written counts among them in the additions alone
abbrev pub with_earlier : Bool → List ℤ → Option ℤ → ℤ → List ℤ
with_earlier true earlier item n = n ∷ earlier
with_earlier false earlier (Some m) n = earlier
with_earlier false earlier None n = n ∷ earlier

-- each item's number, in order
abbrev pub numbers_from : Bool → List ℤ → List ℤ → List (Option ℤ) → Option (List ℤ)
numbers_from additions taken earlier [] = Some []
numbers_from additions taken earlier (item ∷ items) =
    of_some (number_of taken earlier item) (λ n. of_some (numbers_from additions taken (with_earlier additions earlier item n) items) (λ ns. Some (n ∷ ns)))

-- The numbers of all items, first of the root's: those without a number take, in order, the least numbers from 0 on that no item of the root has in
-- writing, and those of the additions the least that no item of the root has and that are above those of all earlier additions.
abbrev pub numbers_of : List (Option ℤ) → List (Option ℤ) → Option (List ℤ)
numbers_of root additions =
    of_some (numbers_from false (written root) [] root) (λ of_root. of_some (numbers_from true of_root [] additions) (λ of_additions. Some (of_root ++ of_additions)))

-- the numbers that are written behind items
abbrev pub numbers_written : List WrittenItem → List (Option ℤ)
numbers_written items = map (λ item. item.number) items

-- items as they are written, with their numbers
abbrev pub numbered : List WrittenItem → List ℤ → List Enumeral
numbered [] numbers = []
numbered (item ∷ items) [] = []
numbered (item ∷ items) (n ∷ ns) = record { name = item.name; description = item.description; index = n } ∷ numbered items ns

-- The ENUMERATED of these items: those before the extension marker, and those behind it.
abbrev pub an_enumerated : List WrittenItem → List WrittenItem → Option ExtensionMarker → List ℤ → ASN1Type
an_enumerated root additions marker numbers =
    Enumerated (record {
      members = numbered (root ++ additions) numbers;
      extensible = option_map (λ _. length root) marker;
      constraints = [];
    })

-- ENUMERATED with the numbers of its items (X.680 20.1)
abbrev pub enumerated_with : List ℕ → Node → Option ASN1Type
enumerated_with text n =
    of_some (the (nth_child_of n ENUMERAL_LIST 0) (items_of text)) (λ root. of_some (the (nth_child_of n ENUMERAL_LIST 1) (items_of text)) (λ additions.
    of_some (numbers_of (numbers_written root) (numbers_written additions)) (λ numbers. Some (an_enumerated root additions (extension_of n) numbers))))
