-- Whether values are ALL, by the outcome of each look-up and within a number of steps.
use Rattle.std.proofs.Common.{◌≡◌, ℕ, ◌+◌, ◌-◌, ◌<◌, suc, List, Bool, true, false, if◌then◌else◌, Option, Some, None, refl, sym, ap, ◌∙◌, arith}
use Rattle.std.specs.Prelude.{is_some}
use Rattle.asn_tree.specs.declared.definitions.ToplevelValueDefinition.{ToplevelValueDefinition}
use Rattle.asn_tree.specs.declared.types.ASN1Type.{ASN1Type}
use Rattle.asn_tree.specs.declared.values.ASN1Value.{ASN1Value}
use Rattle.asn_meaning_values.proofs.Stepping.{one_more}
use Rattle.asn_meaning_values.specs.declared.everything.Asks.{Asks as LentAsks}
use Rattle.asn_meaning_values.specs.declared.everything.Asks.TheVariants as lent
use Rattle.asn_meaning_values.specs.declared.reading.Read.{Read as LentRead}
use Rattle.asn_meaning_values.specs.inner.Asking.{Asks, OfRead, OfNothing, asked, defined_asks, dummy_asks, head_asks, name_asks, path_asks, reference_asks, shown_asks}
use Rattle.asn_meaning_values.specs.inner.Reading.{read_outside, shown_read}
use Rattle.asn_meaning_shapes.specs.Answers.{known}
use Rattle.asn_meaning_shapes.specs.declared.answers.Answer.{Answer as LentAnswer}
use Rattle.asn_meaning.specs.Answers.{Answer, No, Unknown, once}
use Rattle.asn_meaning.specs.Definitions.{Definitions, value_named}
use Rattle.asn_meaning.specs.Denotes.{Read, argument_of, defined_read, own_name, path_value}
use Rattle.asn_meaning.specs.Everything.{defined_is_all, field_place, is_all_at, name_is_all, read_is_all, reference_is_all}
use Rattle.asn_meaning.specs.Judge.{meaning, nothing_known, step}
use Rattle.asn_meaning.specs.Meaning.{Meaning}
use Rattle.asn_meaning.specs.Names.{FieldType, Open, Fixed}
use Rattle.asn_meaning.specs.Scopes.{Scope, Empty, Bound, bound_to, Place}
use Rattle.asn_meaning.specs.ValueTrees.{ValueTree}
use Rattle.asn_meaning.specs.Written.{as_written}

-- ---- look-ups

pub dummy_lost : (scope : Scope) (b : Bound) → argument_of scope b ≡ None → dummy_asks scope b ≡ OfNothing No
dummy_lost scope b e = ap (λ r. once (OfNothing No) r OfRead) e

pub dummy_read : (scope : Scope) (b : Bound) (r : Read) → argument_of scope b ≡ Some r → dummy_asks scope b ≡ OfRead r
dummy_read scope b r e = ap (λ r. once (OfNothing No) r OfRead) e

abbrev definition_asks : Option ToplevelValueDefinition → Asks
definition_asks d = once (OfNothing No) d (λ d. OfRead (defined_read d))

pub own_asks : (defs : Definitions) (name : List ℕ) (head : Place) (t : ValueTree) → own_name head name ≡ Some t → defined_asks defs name head ≡ OfNothing No
own_asks defs name head t e = ap (λ t. if is_some t then OfNothing No else definition_asks (value_named defs name)) e

none_own : (defs : Definitions) (name : List ℕ) (head : Place) → own_name head name ≡ None → defined_asks defs name head ≡ definition_asks (value_named defs name)
none_own defs name head e = ap (λ t. if is_some t then OfNothing No else definition_asks (value_named defs name)) e

pub defined_lost : (defs : Definitions) (name : List ℕ) (head : Place) → own_name head name ≡ None → value_named defs name ≡ None → defined_asks defs name head ≡ OfNothing No
defined_lost defs name head e f = none_own defs name head e ∙ ap definition_asks f

pub defined_found : (defs : Definitions) (name : List ℕ) (head : Place) (d : ToplevelValueDefinition) → own_name head name ≡ None → value_named defs name ≡ Some d →
    defined_asks defs name head ≡ OfRead (defined_read d)
defined_found defs name head d e f = none_own defs name head e ∙ ap definition_asks f

pub headless : (defs : Definitions) (M : Meaning) (p : Place) (name : List ℕ) → M.head p ≡ None → head_asks defs M p name ≡ OfNothing Unknown
headless defs M p name e = ap (λ h. once (OfNothing Unknown) h (defined_asks defs name)) e

pub headed : (defs : Definitions) (M : Meaning) (p h : Place) (name : List ℕ) → M.head p ≡ Some h → head_asks defs M p name ≡ defined_asks defs name h
headed defs M p h name e = ap (λ h. once (OfNothing Unknown) h (defined_asks defs name)) e

pub name_bound : (defs : Definitions) (M : Meaning) (scope : Scope) (p : Place) (name : List ℕ) (b : Bound) → bound_to scope name ≡ Some b →
    name_asks defs M scope p name (bound_to scope name) ≡ dummy_asks scope b
name_bound defs M scope p name b e = ap (name_asks defs M scope p name) e

pub name_free : (defs : Definitions) (M : Meaning) (scope : Scope) (p : Place) (name : List ℕ) → bound_to scope name ≡ None →
    name_asks defs M scope p name (bound_to scope name) ≡ head_asks defs M p name
name_free defs M scope p name e = ap (name_asks defs M scope p name) e

-- a field's value, read as it stands
abbrev field_read : ASN1Value × FieldType → Read
field_read f = record { scope = Empty; value = f.0; place = field_place f.1 }

read_so : (v : ASN1Value) (ty : FieldType) → field_read (v, ty) ≡ read_outside v (field_place ty).ty
read_so v Open = refl
read_so v (Fixed ty) = refl

pub path_lost : (defs : Definitions) (scope : Scope) (o name : List ℕ) → path_value defs scope o name ≡ None → path_asks defs scope o name ≡ OfNothing No
path_lost defs scope o name e = ap (λ f. once (OfNothing No) f (λ f. OfRead (field_read f))) e

pub path_found : (defs : Definitions) (scope : Scope) (o name : List ℕ) (v : ASN1Value) (ty : FieldType) (form : ASN1Type) → path_value defs scope o name ≡ Some (v, ty) → form ≡ (field_place ty).ty →
    path_asks defs scope o name ≡ OfRead (read_outside v form)
path_found defs scope o name v ty form e f =
    ap (λ f. once (OfNothing No) f (λ f. OfRead (field_read f))) e ∙ ap OfRead (read_so v ty ∙ sym (ap (read_outside v) f))

-- ---- whether what is asked of is ALL

of_dummy : (M : Meaning) (r : Option Read) → once No r (read_is_all M) ≡ asked M (once (OfNothing No) r OfRead)
of_dummy M None = refl
of_dummy M (Some r) = refl

of_definition : (M : Meaning) (d : Option ToplevelValueDefinition) → once No d (λ d. read_is_all M (defined_read d)) ≡ asked M (definition_asks d)
of_definition M None = refl
of_definition M (Some d) = refl

of_own : (M : Meaning) (b : Bool) (d : Option ToplevelValueDefinition) →
    (if b then No else once No d (λ d. read_is_all M (defined_read d))) ≡ asked M (if b then OfNothing No else definition_asks d)
of_own M true d = refl
of_own M false d = of_definition M d

of_head : (defs : Definitions) (M : Meaning) (name : List ℕ) (h : Option Place) →
    once Unknown h (defined_is_all defs M name) ≡ asked M (once (OfNothing Unknown) h (defined_asks defs name))
of_head defs M name None = refl
of_head defs M name (Some h) = of_own M (is_some (own_name h name)) (value_named defs name)

of_name : (defs : Definitions) (M : Meaning) (scope : Scope) (p : Place) (name : List ℕ) (b : Option Bound) →
    name_is_all defs M scope p name b ≡ asked M (name_asks defs M scope p name b)
of_name defs M scope p name (Some b) = of_dummy M (argument_of scope b)
of_name defs M scope p name None = of_head defs M name (M.head p)

of_path : (M : Meaning) (f : Option (ASN1Value × FieldType)) →
    once No f (λ f. M.is_all Empty f.0 (field_place f.1)) ≡ asked M (once (OfNothing No) f (λ f. OfRead (field_read f)))
of_path M None = refl
of_path M (Some f) = refl

pub of_reference : (defs : Definitions) (M : Meaning) (scope : Scope) (p : Place) (parent : Option (List ℕ)) (name : List ℕ) →
    reference_is_all defs M scope p parent name ≡ asked M (reference_asks defs M scope p parent name)
of_reference defs M scope p None name = of_name defs M scope p name (bound_to scope name)
of_reference defs M scope p (Some o) name = of_path M (path_value defs scope o name)

-- ---- steps

is_all_at_more : (defs : Definitions) (n k : ℕ) (scope : Scope) (v : ASN1Value) (p : Place) → n ≡ suc k → (meaning defs n).is_all scope v p ≡ is_all_at defs (meaning defs k) scope p (as_written v)
unfolding meaning step
is_all_at_more defs n k scope v p more = ap (λ i. (meaning defs i).is_all scope v p) more

pub is_all_in : (defs : Definitions) (n m : ℕ) (scope : Scope) (v : ASN1Value) (p : Place) → 0 < n →
    (meaning defs (n + m)).is_all scope v p ≡ is_all_at defs (meaning defs (n - 1 + m)) scope p (as_written v)
is_all_in defs n m scope v p lt = is_all_at_more defs (n + m) (n - 1 + m) scope v p (one_more n m lt)

-- ---- names that are followed

pub all_begin : (M : Meaning) (r : LentRead) (scope : Scope) (v : ASN1Value) (p : Place) → shown_read r ≡ record { scope = scope; value = v; place = p } →
    read_is_all M (shown_read r) ≡ M.is_all scope v p
all_begin M r scope v p e = ap (read_is_all M) e

all_next : (defs : Definitions) (n m : ℕ) (r : Read) (asks : LentAsks) → 0 < n →
    asked (meaning defs (n - 1 + m)) (shown_asks asks) ≡ is_all_at defs (meaning defs (n - 1 + m)) r.scope r.place (as_written r.value) →
    read_is_all (meaning defs (n + m)) r ≡ asked (meaning defs (n - 1 + m)) (shown_asks asks)
all_next defs n m r asks lt e = is_all_in defs n m r.scope r.value r.place lt ∙ sym e

pub all_known : (defs : Definitions) (n m : ℕ) (r : Read) (asks : LentAsks) (answer : LentAnswer) → 0 < n →
    asked (meaning defs (n - 1 + m)) (shown_asks asks) ≡ is_all_at defs (meaning defs (n - 1 + m)) r.scope r.place (as_written r.value) → asks ≡ lent.Known answer →
    read_is_all (meaning defs (n + m)) r ≡ known answer
all_known defs n m r asks answer lt e is =
    all_next defs n m r asks lt e ∙ ap (λ a. asked (meaning defs (n - 1 + m)) (shown_asks a)) is

pub all_further : (defs : Definitions) (n m : ℕ) (r : Read) (asks : LentAsks) (after : LentRead) → 0 < n →
    asked (meaning defs (n - 1 + m)) (shown_asks asks) ≡ is_all_at defs (meaning defs (n - 1 + m)) r.scope r.place (as_written r.value) → asks ≡ lent.Read after →
    read_is_all (meaning defs (n + m)) r ≡ read_is_all (meaning defs (n - 1 + m)) (shown_read after)
all_further defs n m r asks after lt e is =
    all_next defs n m r asks lt e ∙ ap (λ a. asked (meaning defs (n - 1 + m)) (shown_asks a)) is

-- Within no steps nothing is known of ALL.
pub all_not : (defs : Definitions) (n m : ℕ) (r : Read) → n ≡ 0 → m ≡ 0 → read_is_all (meaning defs (n + m)) r ≡ Unknown
unfolding meaning nothing_known
all_not defs n m r e f =
    let none : n + m ≡ 0 = omega arith in
    ap (λ k. read_is_all (meaning defs k) r) none
