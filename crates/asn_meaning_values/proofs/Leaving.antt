-- What values denote that has no parts.
use Rattle.std.proofs.Common.{◌≡◌, ℕ, ◌+◌, ◌-◌, ◌<◌, List, [], ◌∷◌, ◌++◌, Bool, true, false, if◌then◌else◌, Option, Some, None, refl, sym, ap, ◌∙◌}
use Rattle.std.specs.Option.{option_map}
use Rattle.asn_tree.specs.declared.values.ASN1Value.{ASN1Value}
use Rattle.asn_meaning_heads.specs.declared.places.Place.{Place as LentPlace}
use Rattle.asn_meaning_heads.specs.Places.{shown_place}
use Rattle.asn_meaning_shapes.specs.declared.trees.Tree.{Tree}
use Rattle.asn_meaning_values.specs.declared.denotation.Denotation.{Denotation as LentDenotation}
use Rattle.asn_meaning_values.specs.declared.following.Next.{Next}
use Rattle.asn_meaning_values.specs.declared.following.Next.TheVariants as lent
use Rattle.asn_meaning_values.specs.declared.following.Wanted.{Wanted}
use Rattle.asn_meaning_values.specs.declared.reading.Read.{Read as LentRead}
use Rattle.asn_meaning_values.specs.Denotation.{shown_denotation}
use Rattle.asn_meaning_values.specs.Leaves.{leaf}
use Rattle.asn_meaning_values.specs.inner.Following.{next_denoted, shaped_by}
use Rattle.asn_meaning_values.specs.inner.Reading.{shown_read}
use Rattle.asn_meaning_values.proofs.Chaining.{behind, follow_begin, follow_not}
use Rattle.asn_meaning_values.proofs.Denoting.{by_parts as any_by_parts, denotes_in, headed as any_headed, headless as any_headless, under_closed as any_under_closed, under_open as any_under_open}
use Rattle.asn_meaning.specs.Answers.{Answer, Yes, No, Unknown, Denotation, Denoted, Nothing, Unsure, made_of, once, provided}
use Rattle.asn_meaning.specs.Braces.{elements_written, fields_written}
use Rattle.asn_meaning.specs.Definitions.{Definitions}
use Rattle.asn_meaning.specs.Denotes.{Read, denoted_under, denotes_at, is_open, may_stand, parts_row, read_denoted, shaped, struct_denoted, value_denoted, written_denoted, choice_row, fields_denoted, trees_denoted}
use Rattle.asn_meaning.specs.Judge.{meaning}
use Rattle.asn_meaning.specs.Kinds.{Kind, NullKind, ChoiceKind, ListKind, StructKind, kind_of}
use Rattle.asn_meaning.specs.Layers.{OptionLayer}
use Rattle.asn_meaning.specs.Meaning.{Meaning, Member}
use Rattle.asn_meaning.specs.Names.{option_named}
use Rattle.asn_meaning.specs.Rows.{row}
use Rattle.asn_meaning.specs.Scopes.{Scope, Place}
use Rattle.asn_meaning.specs.Shapes.{option_place}
use Rattle.asn_meaning.specs.ValueTrees.{ValueTree, NullValue, TruthValue, WholeNumber, ItemNumber, RealNumber, Bits, Octets, Characters, ObjectIdentifierArcs, Struct, Elements, Alternative, Opaque, Fields, ValueTrees}
use Rattle.asn_meaning.specs.Written.{NamedValues, Written, AlternativeWritten, NullWritten, as_written}
use Rattle.asn_meaning_values.specs.inner.Structs.{names_of}

pub same_leaf : (a b : Denotation ValueTree) → a ≡ b → leaf a ≡ leaf b
same_leaf a b e = ap leaf e

-- ---- values with parts

struct_made : (d : Denotation Fields) → leaf (made_of Struct d) ≡ None
struct_made (Denoted fs) = refl
struct_made Nothing = refl
struct_made Unsure = refl

elements_made : (d : Denotation ValueTrees) → leaf (made_of Elements d) ≡ None
elements_made (Denoted ts) = refl
elements_made Nothing = refl
elements_made Unsure = refl

alternative_made : (name : List ℕ) (d : Denotation ValueTree) → leaf (made_of (Alternative name) d) ≡ None
alternative_made name (Denoted t) = refl
alternative_made name Nothing = refl
alternative_made name Unsure = refl

where_standing : (b : Bool) (d : Denotation Fields) → leaf (if b then made_of Struct d else Nothing) ≡ None
where_standing true d = struct_made d
where_standing false d = refl

of_members : (M : Meaning) (scope : Scope) (fs : NamedValues) (ms : Option (List Member)) → leaf (once Unsure ms (struct_denoted M scope fs)) ≡ None
of_members M scope fs None = refl
of_members M scope fs (Some ms) = where_standing (may_stand (names_of fs) ms) (fields_denoted M scope ms fs)

of_fields : (M : Meaning) (scope : Scope) (ms : Option (List Member)) (fs : Option NamedValues) → leaf (once Nothing fs (λ fs. once Unsure ms (struct_denoted M scope fs))) ≡ None
of_fields M scope ms None = refl
of_fields M scope ms (Some fs) = of_members M scope fs ms

of_elements : (M : Meaning) (scope : Scope) (p : Place) (vs : Option (List ASN1Value)) → leaf (once Nothing vs (λ vs. made_of Elements (trees_denoted M scope p vs))) ≡ None
of_elements M scope p None = refl
of_elements M scope p (Some vs) = elements_made (trees_denoted M scope p vs)

of_option : (M : Meaning) (scope inside : Scope) (name : List ℕ) (v : ASN1Value) (o : Option OptionLayer) →
    leaf (once Nothing o (λ o. made_of (Alternative name) (M.denotes scope v (option_place inside o)))) ≡ None
of_option M scope inside name v None = refl
of_option M scope inside name v (Some o) = alternative_made name (M.denotes scope v (option_place inside o))

of_alternative : (M : Meaning) (scope inside : Scope) (options : List _) (w : Written) → leaf (choice_row M scope inside options w) ≡ None
of_alternative M scope inside options (AlternativeWritten name v) = of_option M scope inside name v (option_named options name)
of_alternative M scope inside options NullWritten = refl
of_alternative M scope inside options _ = refl

no_leaf : (M : Meaning) (scope : Scope) (w : Written) (inside : Scope) (kind : Kind) → leaf (parts_row M scope w inside kind) ≡ None
no_leaf M scope w inside (StructKind x) = of_fields M scope (M.members inside x) (fields_written w)
no_leaf M scope w inside (ListKind ty) = of_elements M scope (record { scope = inside; ty = ty }) (elements_written w)
no_leaf M scope w inside (ChoiceKind options) = of_alternative M scope inside options w
no_leaf M scope w inside NullKind = refl
no_leaf M scope w inside _ = refl

pub by_parts : (M : Meaning) (scope : Scope) (w : Written) (h : Place) → None ≡ option_map (λ f. f w) (row (kind_of h)) → leaf (written_denoted M scope w h) ≡ None
by_parts M scope w h e = ap leaf (any_by_parts M scope w h e) ∙ no_leaf M scope w h.scope (kind_of h)

-- ---- heads

pub headless : (defs : Definitions) (M : Meaning) (scope : Scope) (v : ASN1Value) (p : Place) → M.head p ≡ None → leaf (denotes_at defs M scope v p) ≡ None
headless defs M scope v p e = ap leaf (any_headless defs M scope v p e)

pub headed : (defs : Definitions) (M : Meaning) (scope : Scope) (v : ASN1Value) (p h : Place) → M.head p ≡ Some h → leaf (denotes_at defs M scope v p) ≡ leaf (denoted_under defs M scope v h)
headed defs M scope v p h e = ap leaf (any_headed defs M scope v p h e)

pub under_open : (defs : Definitions) (M : Meaning) (scope : Scope) (v : ASN1Value) (h : Place) → is_open h ≡ true → leaf (denoted_under defs M scope v h) ≡ Some Opaque
under_open defs M scope v h e = ap leaf (any_under_open defs M scope v h e)

pub under_closed : (defs : Definitions) (M : Meaning) (scope : Scope) (v : ASN1Value) (h : Place) → is_open h ≡ false →
    leaf (denoted_under defs M scope v h) ≡ leaf (value_denoted defs M scope h (as_written v))
under_closed defs M scope v h e = ap leaf (any_under_closed defs M scope v h e)

-- ---- shapes that are wanted

abbrev kept : Meaning → Place → ValueTree → Option ValueTree
kept M h t = leaf (provided (M.fits h t) t)

struct_lost : (a : Answer) (fs : Fields) → leaf (provided a (Struct fs)) ≡ None
struct_lost Yes fs = refl
struct_lost No fs = refl
struct_lost Unknown fs = refl

elements_lost : (a : Answer) (ts : ValueTrees) → leaf (provided a (Elements ts)) ≡ None
elements_lost Yes ts = refl
elements_lost No ts = refl
elements_lost Unknown ts = refl

alternative_lost : (a : Answer) (name : List ℕ) (t : ValueTree) → leaf (provided a (Alternative name t)) ≡ None
alternative_lost Yes name t = refl
alternative_lost No name t = refl
alternative_lost Unknown name t = refl

leaf_shaped : (M : Meaning) (h : Place) (d : Denotation ValueTree) → leaf (shaped M h d) ≡ once None (leaf d) (kept M h)
leaf_shaped M h (Denoted (Struct fs)) = struct_lost (M.fits h (Struct fs)) fs
leaf_shaped M h (Denoted (Elements ts)) = elements_lost (M.fits h (Elements ts)) ts
leaf_shaped M h (Denoted (Alternative name t)) = alternative_lost (M.fits h (Alternative name t)) name t
leaf_shaped M h (Denoted NullValue) = refl
leaf_shaped M h (Denoted (TruthValue b)) = refl
leaf_shaped M h (Denoted (WholeNumber i)) = refl
leaf_shaped M h (Denoted (ItemNumber i)) = refl
leaf_shaped M h (Denoted (RealNumber m b e)) = refl
leaf_shaped M h (Denoted (Bits bits)) = refl
leaf_shaped M h (Denoted (Octets octets)) = refl
leaf_shaped M h (Denoted (Characters cs)) = refl
leaf_shaped M h (Denoted (ObjectIdentifierArcs arcs)) = refl
leaf_shaped M h (Denoted Opaque) = refl
leaf_shaped M h Nothing = refl
leaf_shaped M h Unsure = refl

-- What is denoted without parts goes by that alone, whatever shapes are wanted.
alike : (defs : Definitions) (m : ℕ) (ws : List Wanted) (a b : Denotation ValueTree) → leaf a ≡ leaf b → leaf (shaped_by defs m ws a) ≡ leaf (shaped_by defs m ws b)
alike defs m [] a b e = e
alike defs m (w ∷ ws) a b e =
    leaf_shaped (meaning defs (w.steps + m)) (shown_place w.head) (shaped_by defs m ws a)
    ∙ ap (λ o. once None o (kept (meaning defs (w.steps + m)) (shown_place w.head))) (alike defs m ws a b e)
    ∙ sym (leaf_shaped (meaning defs (w.steps + m)) (shown_place w.head) (shaped_by defs m ws b))

-- ---- names that are followed

pub leaf_begin : (defs : Definitions) (n m : ℕ) (ws : List Wanted) (r : LentRead) (scope : Scope) (v : ASN1Value) (p : Place) → ws ≡ [] →
    shown_read r ≡ record { scope = scope; value = v; place = p } →
    leaf (shaped_by defs m ws (read_denoted (meaning defs (n + m)) (shown_read r))) ≡ leaf ((meaning defs (n + m)).denotes scope v p)
leaf_begin defs n m ws r scope v p e is = ap leaf (follow_begin defs n m ws r scope v p e is)

pub leaf_not : (defs : Definitions) (n m : ℕ) (ws : List Wanted) (r : Read) → n ≡ 0 → m ≡ 0 → leaf (shaped_by defs m ws (read_denoted (meaning defs (n + m)) r)) ≡ None
leaf_not defs n m ws r e f = ap leaf (follow_not defs n m ws r e f)

leaf_at : (defs : Definitions) (n m : ℕ) (r : Read) (next : Next) → 0 < n →
    leaf (next_denoted (meaning defs (n - 1 + m)) next) ≡ leaf (denotes_at defs (meaning defs (n - 1 + m)) r.scope r.value r.place) →
    leaf (next_denoted (meaning defs (n - 1 + m)) next) ≡ leaf (read_denoted (meaning defs (n + m)) r)
leaf_at defs n m r next lt e = e ∙ sym (ap leaf (denotes_in defs n m r.scope r.value r.place lt))

pub leaf_known : (defs : Definitions) (n m : ℕ) (ws : List Wanted) (r : Read) (next : Next) (d : LentDenotation Tree) → 0 < n →
    leaf (next_denoted (meaning defs (n - 1 + m)) next) ≡ leaf (denotes_at defs (meaning defs (n - 1 + m)) r.scope r.value r.place) → next ≡ lent.Known d →
    leaf (shaped_by defs m ws (shown_denotation d)) ≡ leaf (shaped_by defs m ws (read_denoted (meaning defs (n + m)) r))
leaf_known defs n m ws r next d lt e is =
    alike defs m ws (shown_denotation d) (read_denoted (meaning defs (n + m)) r)
    (sym (ap (λ x. leaf (next_denoted (meaning defs (n - 1 + m)) x)) is) ∙ leaf_at defs n m r next lt e)

pub leaf_further : (defs : Definitions) (n m : ℕ) (ws more : List Wanted) (r : Read) (next : Next) (head : LentPlace) (after : LentRead) → 0 < n →
    leaf (next_denoted (meaning defs (n - 1 + m)) next) ≡ leaf (denotes_at defs (meaning defs (n - 1 + m)) r.scope r.value r.place) → next ≡ lent.Further head after →
    more ≡ ws ++ (record { steps = n - 1; head = head }) ∷ [] →
    leaf (shaped_by defs m more (read_denoted (meaning defs (n - 1 + m)) (shown_read after))) ≡ leaf (shaped_by defs m ws (read_denoted (meaning defs (n + m)) r))
leaf_further defs n m ws more r next head after lt e is all =
    ap leaf
    (ap (λ xs. shaped_by defs m xs (read_denoted (meaning defs (n - 1 + m)) (shown_read after))) all
    ∙ behind defs m ws (record { steps = n - 1; head = head }) (read_denoted (meaning defs (n - 1 + m)) (shown_read after)))
    ∙ alike defs m ws (next_denoted (meaning defs (n - 1 + m)) (lent.Further head after)) (read_denoted (meaning defs (n + m)) r)
    (sym (ap (λ x. leaf (next_denoted (meaning defs (n - 1 + m)) x)) is) ∙ leaf_at defs n m r next lt e)
