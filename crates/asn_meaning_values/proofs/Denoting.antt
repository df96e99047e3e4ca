-- What values denote part by part, and within a number of steps.
use Rattle.std.proofs.Common.{◌≡◌, ℕ, ◌+◌, ◌-◌, ◌<◌, ◌≤◌, suc, List, [], ◌∷◌, drop, length, get_or, true, false, if◌then◌else◌, Option, Some, None, refl, sym, ap, ◌∙◌}
use Rattle.std.specs.Option.{option_map}
use Rattle.std.proofs.lemmas.List.{drop_more, drop_all}
use Rattle.asn_tree.specs.declared.types.ChoiceOption.{ChoiceOption}
use Rattle.asn_tree.specs.declared.values.ASN1Value.{ASN1Value}
use Rattle.asn_meaning_heads.specs.declared.values.ValueForm.{ValueForm}
use Rattle.asn_meaning_heads.specs.Values.{shown_value}
use Rattle.asn_meaning_shapes.specs.Trees.{Named}
use Rattle.asn_meaning_values.specs.declared.braces.NamedValue.{NamedValue}
use Rattle.asn_meaning_values.specs.Braces.{shown_named_values, shown_values}
use Rattle.asn_meaning_values.specs.inner.Gathering.{elements_of, struct_of, with_element, with_part}
use Rattle.asn_meaning_values.specs.inner.Structs.{names_of}
use Rattle.asn_meaning_values.specs.inner.Values.{alternative_written, made_elements, made_parts}
use Rattle.asn_meaning_values.proofs.Joining.{ahead, in_front, list_made, parts_begin as any_parts_begin, parts_done as any_parts_done, parts_next as any_parts_next, struct_made, trees_begin as any_trees_begin, trees_done as any_trees_done, trees_next as any_trees_next}
use Rattle.asn_meaning_values.proofs.Stepping.{one_more}
use Rattle.asn_meaning.specs.Answers.{Denotation, Denoted, Nothing, Unsure, if_any, made_of, once, together}
use Rattle.asn_meaning.specs.Braces.{elements_written, fields_written}
use Rattle.asn_meaning.specs.Definitions.{Definitions}
use Rattle.asn_meaning.specs.Denotes.{choice_row, denoted_under, denotes_at, fields_denoted, is_open, list_row, may_stand, member_denoted, parts_row, row_or_parts, struct_denoted, struct_row, trees_denoted, value_denoted, written_denoted}
use Rattle.asn_meaning.specs.Judge.{meaning, step}
use Rattle.asn_meaning.specs.Kinds.{kind_of}
use Rattle.asn_meaning.specs.Layers.{OptionLayer}
use Rattle.asn_meaning.specs.Meaning.{Meaning, Member}
use Rattle.asn_meaning.specs.Members.{member_named, member_place}
use Rattle.asn_meaning.specs.Names.{option_named}
use Rattle.asn_meaning.specs.Rows.{row}
use Rattle.asn_meaning.specs.Scopes.{Scope, Place}
use Rattle.asn_meaning.specs.Shapes.{option_place}
use Rattle.asn_meaning.specs.ValueTrees.{ValueTree, Struct, Elements, Alternative, Opaque, Fields, field, ValueTrees, tree}
use Rattle.asn_meaning.specs.Written.{NamedValues, Written, AllWritten, NullWritten, TruthWritten, NumberWritten, RealWritten, TextWritten, BitsWritten, BitNamesWritten, OctetsWritten, ArcsWritten, ItemWritten, NameWritten, BracesWritten, FieldsWritten, ElementsWritten, AlternativeWritten, NestedWritten, as_written}

-- ---- steps

denotes_at_more : (defs : Definitions) (n k : ℕ) (scope : Scope) (v : ASN1Value) (p : Place) → n ≡ suc k → (meaning defs n).denotes scope v p ≡ denotes_at defs (meaning defs k) scope v p
unfolding meaning step
denotes_at_more defs n k scope v p more = ap (λ i. (meaning defs i).denotes scope v p) more

pub denotes_in : (defs : Definitions) (n m : ℕ) (scope : Scope) (v : ASN1Value) (p : Place) → 0 < n →
    (meaning defs (n + m)).denotes scope v p ≡ denotes_at defs (meaning defs (n - 1 + m)) scope v p
denotes_in defs n m scope v p lt = denotes_at_more defs (n + m) (n - 1 + m) scope v p (one_more n m lt)

-- ---- heads

pub headless : (defs : Definitions) (M : Meaning) (scope : Scope) (v : ASN1Value) (p : Place) → M.head p ≡ None → denotes_at defs M scope v p ≡ Unsure
headless defs M scope v p e = ap (λ h. once Unsure h (denoted_under defs M scope v)) e

pub headed : (defs : Definitions) (M : Meaning) (scope : Scope) (v : ASN1Value) (p h : Place) → M.head p ≡ Some h → denotes_at defs M scope v p ≡ denoted_under defs M scope v h
headed defs M scope v p h e = ap (λ h. once Unsure h (denoted_under defs M scope v)) e

pub under_open : (defs : Definitions) (M : Meaning) (scope : Scope) (v : ASN1Value) (h : Place) → is_open h ≡ true → denoted_under defs M scope v h ≡ Denoted Opaque
under_open defs M scope v h e = ap (λ b. if b then Denoted Opaque else value_denoted defs M scope h (as_written v)) e

pub under_closed : (defs : Definitions) (M : Meaning) (scope : Scope) (v : ASN1Value) (h : Place) → is_open h ≡ false →
    denoted_under defs M scope v h ≡ value_denoted defs M scope h (as_written v)
under_closed defs M scope v h e = ap (λ b. if b then Denoted Opaque else value_denoted defs M scope h (as_written v)) e

-- ---- rows

given_by : (f : Option (Written → Option ValueTree)) (parts : Denotation ValueTree) (w : Written) (t : Option ValueTree) → Some t ≡ option_map (λ f. f w) f → row_or_parts f parts w ≡ if_any t
given_by None parts w t e = absurd cc
given_by (Some f) parts w t e = ap if_any (same (f w) t e)
  where
    same : (a b : Option ValueTree) → Some b ≡ Some a → a ≡ b
    same a b e = cc

given_beyond : (f : Option (Written → Option ValueTree)) (parts : Denotation ValueTree) (w : Written) → None ≡ option_map (λ f. f w) f → row_or_parts f parts w ≡ parts
given_beyond None parts w e = refl
given_beyond (Some f) parts w e = absurd cc

pub by_row : (M : Meaning) (scope : Scope) (w : Written) (h : Place) (t : Option ValueTree) → Some t ≡ option_map (λ f. f w) (row (kind_of h)) → written_denoted M scope w h ≡ if_any t
by_row M scope w h t e = given_by (row (kind_of h)) (parts_row M scope w h.scope (kind_of h)) w t e

pub by_parts : (M : Meaning) (scope : Scope) (w : Written) (h : Place) → None ≡ option_map (λ f. f w) (row (kind_of h)) → written_denoted M scope w h ≡ parts_row M scope w h.scope (kind_of h)
by_parts M scope w h e = given_beyond (row (kind_of h)) (parts_row M scope w h.scope (kind_of h)) w e

-- ---- structs

pub no_fields : (M : Meaning) (scope : Scope) (ms : Option (List Member)) (w : Written) → fields_written w ≡ None → struct_row M scope ms w ≡ Nothing
no_fields M scope ms w e = ap (λ fs. once Nothing fs (λ fs. once Unsure ms (struct_denoted M scope fs))) e

pub members_unknown : (M : Meaning) (scope : Scope) (ms : Option (List Member)) (w : Written) (fs : NamedValues) → fields_written w ≡ Some fs → ms ≡ None → struct_row M scope ms w ≡ Unsure
members_unknown M scope ms w fs e f = ap (λ fs. once Nothing fs (λ fs. once Unsure ms (struct_denoted M scope fs))) e ∙ ap (λ ms. once Unsure ms (struct_denoted M scope fs)) f

pub members_known : (M : Meaning) (scope : Scope) (ms : Option (List Member)) (w : Written) (fs : NamedValues) (found : List Member) → fields_written w ≡ Some fs → ms ≡ Some found →
    struct_row M scope ms w ≡ struct_denoted M scope fs found
members_known M scope ms w fs found e f =
    ap (λ fs. once Nothing fs (λ fs. once Unsure ms (struct_denoted M scope fs))) e ∙ ap (λ ms. once Unsure ms (struct_denoted M scope fs)) f

pub may_not_stand : (M : Meaning) (scope : Scope) (fs : NamedValues) (ms : List Member) → may_stand (names_of fs) ms ≡ false → struct_denoted M scope fs ms ≡ Nothing
may_not_stand M scope fs ms e = ap (λ b. if b then made_of Struct (fields_denoted M scope ms fs) else Nothing) e

pub stands : (M : Meaning) (scope : Scope) (fs : NamedValues) (ms : List Member) (d : Denotation (List Named)) → may_stand (names_of fs) ms ≡ true → made_parts d ≡ fields_denoted M scope ms fs →
    struct_denoted M scope fs ms ≡ made_of struct_of d
stands M scope fs ms d e f =
    ap (λ b. if b then made_of Struct (fields_denoted M scope ms fs) else Nothing) e ∙ sym (struct_made d ∙ ap (made_of Struct) f)

pub memberless : (M : Meaning) (scope : Scope) (ms : List Member) (name : List ℕ) (v : ASN1Value) → member_named ms name ≡ None → member_denoted M scope (member_named ms name) v ≡ Nothing
memberless M scope ms name v e = ap (λ m. member_denoted M scope m v) e

pub of_member : (M : Meaning) (scope : Scope) (ms : List Member) (name : List ℕ) (v : ASN1Value) (m : Member) → member_named ms name ≡ Some m →
    member_denoted M scope (member_named ms name) v ≡ M.denotes scope v (member_place m)
of_member M scope ms name v m e = ap (λ m. member_denoted M scope m v) e

abbrev pub fields_from : Meaning → Scope → List Member → List NamedValue → Denotation Fields
fields_from M scope ms xs = fields_denoted M scope ms (shown_named_values xs)

pub fields_begin : (M : Meaning) (scope : Scope) (ms : List Member) (xs : List NamedValue) → together ahead (Denoted []) (fields_from M scope ms xs) ≡ fields_from M scope ms xs
fields_begin M scope ms xs = any_parts_begin (fields_from M scope ms xs)

pub fields_next : (M : Meaning) (scope : Scope) (ms : List Member) (xs : List NamedValue) (i : ℕ) (x : NamedValue) (before after : Denotation (List Named)) (one : Denotation ValueTree) →
    i < length xs → x ≡ get_or xs i x → one ≡ member_denoted M scope (member_named ms x.name.now) (shown_value x.value) → after ≡ together (with_part x.name.now) before one →
    together ahead after (fields_from M scope ms (drop (i + 1) xs)) ≡ together ahead before (fields_from M scope ms (drop i xs))
fields_next M scope ms xs i x before after one lt e is more =
    ap (λ a. together ahead a (fields_from M scope ms (drop (i + 1) xs))) more
    ∙ any_parts_next x.name.now before one (fields_from M scope ms (drop (i + 1) xs))
    ∙ ap (λ d. together ahead before (together (field x.name.now) d (fields_from M scope ms (drop (i + 1) xs)))) is
    ∙ sym (ap (λ ys. together ahead before (fields_from M scope ms ys)) (drop_more xs i x lt ∙ ap (λ y. y ∷ drop (i + 1) xs) (sym e)))

pub fields_done : (M : Meaning) (scope : Scope) (ms : List Member) (xs : List NamedValue) (i : ℕ) (d : Denotation (List Named)) → length xs ≤ i →
    together ahead d (fields_from M scope ms (drop i xs)) ≡ made_parts d
fields_done M scope ms xs i d le = ap (λ ys. together ahead d (fields_from M scope ms ys)) (drop_all i xs le) ∙ any_parts_done d

-- ---- lists

pub no_elements : (M : Meaning) (scope : Scope) (p : Place) (w : Written) → elements_written w ≡ None → list_row M scope p w ≡ Nothing
no_elements M scope p w e = ap (λ vs. once Nothing vs (λ vs. made_of Elements (trees_denoted M scope p vs))) e

pub some_elements : (M : Meaning) (scope : Scope) (p : Place) (w : Written) (vs : List ASN1Value) (d : Denotation (List ValueTree)) → elements_written w ≡ Some vs →
    made_elements d ≡ trees_denoted M scope p vs → list_row M scope p w ≡ made_of elements_of d
some_elements M scope p w vs d e f =
    ap (λ vs. once Nothing vs (λ vs. made_of Elements (trees_denoted M scope p vs))) e ∙ sym (list_made d ∙ ap (made_of Elements) f)

abbrev pub trees_from : Meaning → Scope → Place → List ValueForm → Denotation ValueTrees
trees_from M scope p vs = trees_denoted M scope p (shown_values vs)

pub elements_begin : (M : Meaning) (scope : Scope) (p : Place) (vs : List ValueForm) → together in_front (Denoted []) (trees_from M scope p vs) ≡ trees_from M scope p vs
elements_begin M scope p vs = any_trees_begin (trees_from M scope p vs)

pub elements_next : (M : Meaning) (scope : Scope) (p : Place) (vs : List ValueForm) (i : ℕ) (v : ValueForm) (before after : Denotation (List ValueTree)) (one : Denotation ValueTree) →
    i < length vs → v ≡ get_or vs i v → one ≡ M.denotes scope (shown_value v) p → after ≡ together with_element before one →
    together in_front after (trees_from M scope p (drop (i + 1) vs)) ≡ together in_front before (trees_from M scope p (drop i vs))
elements_next M scope p vs i v before after one lt e is more =
    ap (λ a. together in_front a (trees_from M scope p (drop (i + 1) vs))) more
    ∙ any_trees_next before one (trees_from M scope p (drop (i + 1) vs))
    ∙ ap (λ d. together in_front before (together tree d (trees_from M scope p (drop (i + 1) vs)))) is
    ∙ sym (ap (λ ys. together in_front before (trees_from M scope p ys)) (drop_more vs i v lt ∙ ap (λ y. y ∷ drop (i + 1) vs) (sym e)))

pub elements_done : (M : Meaning) (scope : Scope) (p : Place) (vs : List ValueForm) (i : ℕ) (d : Denotation (List ValueTree)) → length vs ≤ i →
    together in_front d (trees_from M scope p (drop i vs)) ≡ made_elements d
elements_done M scope p vs i d le = ap (λ ys. together in_front d (trees_from M scope p ys)) (drop_all i vs le) ∙ any_trees_done d

-- ---- alternatives

abbrev chosen : Meaning → Scope → Scope → List ChoiceOption → List ℕ × ASN1Value → Denotation ValueTree
chosen M scope inside options x = once Nothing (option_named options x.0) (λ o. made_of (Alternative x.0) (M.denotes scope x.1 (option_place inside o)))

choice_parts : (M : Meaning) (scope inside : Scope) (options : List ChoiceOption) (w : Written) →
    choice_row M scope inside options w ≡ once Nothing (alternative_written w) (chosen M scope inside options)
choice_parts M scope inside options AllWritten = refl
choice_parts M scope inside options NullWritten = refl
choice_parts M scope inside options (TruthWritten b) = refl
choice_parts M scope inside options (NumberWritten i) = refl
choice_parts M scope inside options (RealWritten x) = refl
choice_parts M scope inside options (TextWritten s) = refl
choice_parts M scope inside options (BitsWritten bits) = refl
choice_parts M scope inside options (BitNamesWritten names) = refl
choice_parts M scope inside options (OctetsWritten os) = refl
choice_parts M scope inside options (ArcsWritten arcs) = refl
choice_parts M scope inside options (ItemWritten name) = refl
choice_parts M scope inside options (NameWritten parent name) = refl
choice_parts M scope inside options (BracesWritten items) = refl
choice_parts M scope inside options (FieldsWritten fields) = refl
choice_parts M scope inside options (ElementsWritten vs) = refl
choice_parts M scope inside options (AlternativeWritten name v) = refl
choice_parts M scope inside options (NestedWritten v) = refl

pub no_alternative : (M : Meaning) (scope inside : Scope) (options : List ChoiceOption) (w : Written) → alternative_written w ≡ None → choice_row M scope inside options w ≡ Nothing
no_alternative M scope inside options w e = choice_parts M scope inside options w ∙ ap (λ x. once Nothing x (chosen M scope inside options)) e

pub no_option : (M : Meaning) (scope inside : Scope) (options : List ChoiceOption) (w : Written) (x : List ℕ × ASN1Value) → alternative_written w ≡ Some x → option_named options x.0 ≡ None →
    choice_row M scope inside options w ≡ Nothing
no_option M scope inside options w x e f =
    choice_parts M scope inside options w ∙ ap (λ x. once Nothing x (chosen M scope inside options)) e
    ∙ ap (λ o. once Nothing o (λ o. made_of (Alternative x.0) (M.denotes scope x.1 (option_place inside o)))) f

pub of_option : (M : Meaning) (scope inside : Scope) (options : List ChoiceOption) (w : Written) (x : List ℕ × ASN1Value) (o : OptionLayer) → alternative_written w ≡ Some x →
    option_named options x.0 ≡ Some o → choice_row M scope inside options w ≡ made_of (Alternative x.0) (M.denotes scope x.1 (option_place inside o))
of_option M scope inside options w x o e f =
    choice_parts M scope inside options w ∙ ap (λ x. once Nothing x (chosen M scope inside options)) e
    ∙ ap (λ o. once Nothing o (λ o. made_of (Alternative x.0) (M.denotes scope x.1 (option_place inside o)))) f
