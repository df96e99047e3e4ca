-- Names that lead on to names, and that a circle of them never arrives at a dummy without an argument.
use Rattle.std.proofs.Common.{◌≡◌, ℕ, zero, suc, ◌+◌, ◌-◌, ◌<◌, ◌≤◌, nat_le, Bool, true, false, ◌||◌, ◌&&◌, is_none, List, [], ◌∷◌, Option, Some, None, refl, sym, subst, ap, ◌∙◌, arith, if◌then◌else◌}
use Rattle.std.proofs.lemmas.Bool.Decides.{nat_tests}
use Rattle.std.proofs.lemmas.Slice.Eq.{bytes_eq-Decides}
use Rattle.std.specs.List.{list_any}
use Rattle.std.specs.Str.{bytes_eq}
use Rattle.asn_tree.specs.declared.constraints.Parameter.{Parameter}
use Rattle.asn_tree.specs.declared.definitions.Parameterization.{Parameterization}
use Rattle.asn_tree.specs.declared.definitions.ParameterizationArgument.{ParameterizationArgument}
use Rattle.asn_tree.specs.declared.definitions.ToplevelTypeDefinition.{ToplevelTypeDefinition}
use Rattle.asn_meaning_heads.specs.Circles.{arrives, has_dummy, is_circular, is_dummy_of, name_behind, next_name, plain_name_in}
use Rattle.asn_meaning_heads.proofs.Circling.{asked, next_arrives}
use Rattle.asn_meaning.specs.Answers.{once}
use Rattle.asn_meaning.specs.Definitions.{Definitions, type_named}
use Rattle.asn_meaning.specs.Kinds.{Kind, NullKind, ReferenceKind, kind_of, kind_of_type}
use Rattle.asn_meaning.specs.Layers.{ReferenceLayer}
use Rattle.asn_meaning.specs.Meaning.{Meaning}
use Rattle.asn_meaning.specs.Names.{instance, lead_at, leading, lists_in, name_target, reference_of}
use Rattle.asn_meaning.specs.Scopes.{Bound, Place, Scope, Empty, Binds, Target, bare, bound_to, entered}
use Rattle.asn_needs.specs.Dummies.{choice_at, hangs, is_free_dummy, names_free_at, next_place}

-- ---- what a name is made of

record Named (k : Kind) (name : List ℕ) : Type 0 where
  x : ReferenceLayer
  kind : k ≡ ReferenceKind x
  alone : x.parent ≡ None
  same : x.identifier ≡ name

in_reference : (x : ReferenceLayer) (name : List ℕ) (parent : Option (List ℕ)) → x.parent ≡ parent → (elim parent [ None ↦ Some x.identifier | Some p ↦ None ]) ≡ Some name →
    Named (ReferenceKind x) name
in_reference x name None e f = record { x = x; kind = refl; alone = e; same = cc }
in_reference x name (Some parent) e f = absurd cc

named : (k : Kind) (name : List ℕ) → plain_name_in k ≡ Some name → Named k name
named (ReferenceKind x) name e = in_reference x name x.parent refl e
named NullKind name e = absurd cc
named k name e = absurd cc

record Behind (d : ToplevelTypeDefinition) (next : List ℕ) : Type 0 where
  is_name : plain_name_in (kind_of_type d.ty) ≡ Some next
  is_free : has_dummy d.parameterization next ≡ false

free_name : (d : ToplevelTypeDefinition) (name next : List ℕ) → plain_name_in (kind_of_type d.ty) ≡ Some name → (b : Bool) → has_dummy d.parameterization name ≡ b →
    (if b then None else Some name) ≡ Some next → Behind d next
free_name d name next e true f g = absurd cc
free_name d name next e false f g =
    let same : name ≡ next = cc in
    subst (λ x. Behind d x) same (record { is_name = e; is_free = f })

some_name : (d : ToplevelTypeDefinition) (next : List ℕ) (o : Option (List ℕ)) → plain_name_in (kind_of_type d.ty) ≡ o →
    once None o (λ name. if has_dummy d.parameterization name then None else Some name) ≡ Some next → Behind d next
some_name d next None e f = absurd cc
some_name d next (Some name) e f = free_name d name next e (has_dummy d.parameterization name) refl f

behind : (d : ToplevelTypeDefinition) (next : List ℕ) → name_behind d ≡ Some next → Behind d next
behind d next e = some_name d next (plain_name_in (kind_of_type d.ty)) refl e

-- ---- templates bind their own dummies alone

or_no : (a b : Bool) → (a || b) ≡ false → (a ≡ false) × (b ≡ false)
or_no false b e = (refl, e)
or_no true b e = absurd cc

unlike : (b : Bool) (x y : Option Bound) → b ≡ false → (if b then x else y) ≡ y
unlike false x y e = refl
unlike true x y e = absurd cc

entered_free : (scope : Scope) (ds : List ParameterizationArgument) (arguments : List Parameter) (inner : Scope) (name : List ℕ) →
    entered scope ds arguments ≡ Some inner → list_any (is_dummy_of name) ds ≡ false → bound_to inner name ≡ None
entered_free scope [] arguments inner name e f = let same : Empty ≡ inner = cc in ap (λ s. bound_to s name) (sym same)
entered_free scope (d ∷ ds) [] inner name e f = absurd cc
entered_free scope (d ∷ ds) (argument ∷ arguments) inner name e f =
    go (entered scope ds arguments) refl e (or_no (bytes_eq d.dummy_reference name) (list_any (is_dummy_of name) ds) f) (λ others g h. entered_free scope ds arguments others name g h)
  where
    go : (o : Option Scope) → entered scope ds arguments ≡ o →
        once None o (λ others. Some (Binds d.dummy_reference d.param_governor argument scope others)) ≡ Some inner →
        (bytes_eq d.dummy_reference name ≡ false) × (list_any (is_dummy_of name) ds ≡ false) →
        ((others : Scope) → entered scope ds arguments ≡ Some others → list_any (is_dummy_of name) ds ≡ false → bound_to others name ≡ None) →
        bound_to inner name ≡ None
    go None g h p rest = absurd cc
    go (Some others) g h p rest =
        let same : Binds d.dummy_reference d.param_governor argument scope others ≡ inner = cc in
        ap (λ s. bound_to s name) (sym same) ∙ unlike (bytes_eq d.dummy_reference name) _ (bound_to others name) p.0 ∙ rest others g p.1

record Read (d : ToplevelTypeDefinition) (name : List ℕ) (x : Target) : Type 0 where
  ty : x.place.ty ≡ d.ty
  free : bound_to x.place.scope name ≡ None

read_in : (scope : Scope) (d : ToplevelTypeDefinition) (ds : List ParameterizationArgument) (arguments : List Parameter) (name : List ℕ) (x : Target) →
    list_any (is_dummy_of name) ds ≡ false → (o : Option Scope) → entered scope ds arguments ≡ o → once None o (λ inner. Some (bare inner d.ty)) ≡ Some x → Read d name x
read_in scope d ds arguments name x f None e g = absurd cc
read_in scope d ds arguments name x f (Some inner) e g =
    let same : bare inner d.ty ≡ x = cc in
    subst (Read d name) same (record { ty = refl; free = entered_free scope ds arguments inner name e f })

read : (scope : Scope) (d : ToplevelTypeDefinition) (parameters : Option Parameterization) (lists : List (List Parameter)) (name : List ℕ) (x : Target) →
    has_dummy parameters name ≡ false → instance scope d parameters lists ≡ Some x → Read d name x
read scope d None [] name x f e = let same : bare Empty d.ty ≡ x = cc in subst (Read d name) same (record { ty = refl; free = refl })
read scope d None (arguments ∷ others) name x f e = absurd cc
read scope d (Some template) [] name x f e = absurd cc
read scope d (Some template) (arguments ∷ []) name x f e =
    read_in scope d template.parameters arguments name x f (entered scope template.parameters arguments) refl e
read scope d (Some template) (arguments ∷ more ∷ others) name x f e = absurd cc

-- ---- names that do not hang

-- Within so many steps no type that the name stands for hangs, whatever the arguments.
record Unhung (defs : Definitions) (M : Meaning) (n : ℕ) (name : List ℕ) : Type 0 where
  none : (scope : Scope) (lists : List (List Parameter)) (d : ToplevelTypeDefinition) (x : Target) → type_named defs name ≡ Some d →
      instance scope d d.parameterization lists ≡ Some x → hangs defs M n x.place ≡ false

without_steps : (defs : Definitions) (M : Meaning) (name : List ℕ) → Unhung defs M 0 name
without_steps defs M name = record { none = λ scope lists d x e i. refl }

of_instance : (defs : Definitions) (M : Meaning) (n : ℕ) (name : List ℕ) (scope : Scope) (lists : List (List Parameter)) (d : ToplevelTypeDefinition) → Unhung defs M n name →
    type_named defs name ≡ Some d → (o : Option Target) → instance scope d d.parameterization lists ≡ o → once false (next_place (leading o)) (hangs defs M n) ≡ false
of_instance defs M n name scope lists d h e None i = refl
of_instance defs M n name scope lists d h e (Some x) i = h.none scope lists d x e i

of_name : (defs : Definitions) (M : Meaning) (n : ℕ) (name : List ℕ) (scope : Scope) (lists : List (List Parameter)) → Unhung defs M n name → (o : Option ToplevelTypeDefinition) →
    type_named defs name ≡ o → once false (next_place (leading (once None o (λ d. instance scope d d.parameterization lists)))) (hangs defs M n) ≡ false
of_name defs M n name scope lists h None e = refl
of_name defs M n name scope lists h (Some d) e = of_instance defs M n name scope lists d h e (instance scope d d.parameterization lists) refl

-- one step more, by the kind, by what stands before the name, and by what the scope binds it to
abbrev by_kind : Definitions → Meaning → ℕ → Scope → Kind → Bool
by_kind defs M n scope k = names_free_at scope k || (once false (choice_at scope k) (hangs defs M n) || once false (next_place (lead_at defs M scope k)) (hangs defs M n))

abbrev by_parent : Definitions → Meaning → ℕ → Scope → ReferenceLayer → Option (List ℕ) → Bool
by_parent defs M n scope x parent =
    once (is_free_dummy scope x.identifier) parent (is_free_dummy scope) || (false || once false (next_place (leading (reference_of defs scope x parent))) (hangs defs M n))

abbrev by_bound : Definitions → Meaning → ℕ → Scope → ReferenceLayer → Option Bound → Bool
by_bound defs M n scope x b =
    once false b (λ c. is_none c.argument) || (false || once false (next_place (leading (name_target defs scope x.identifier (lists_in x.constraints) b))) (hangs defs M n))

place_unhung : (defs : Definitions) (M : Meaning) (n : ℕ) (p : Place) (x : ReferenceLayer) → kind_of p ≡ ReferenceKind x → x.parent ≡ None → bound_to p.scope x.identifier ≡ None →
    Unhung defs M n x.identifier → hangs defs M (suc n) p ≡ false
place_unhung defs M n p x k alone free h =
    ap (by_kind defs M n p.scope) k ∙ ap (by_parent defs M n p.scope x) alone ∙ ap (by_bound defs M n p.scope x) free
    ∙ of_name defs M n x.identifier p.scope (lists_in x.constraints) h (type_named defs x.identifier) refl

named_unhung : (defs : Definitions) (M : Meaning) (n : ℕ) (p : Place) (name : List ℕ) → plain_name_in (kind_of p) ≡ Some name → bound_to p.scope name ≡ None → Unhung defs M n name →
    hangs defs M (suc n) p ≡ false
named_unhung defs M n p name e free h =
    let w : Named (kind_of p) name = named (kind_of p) name e in
    place_unhung defs M n p w.x w.kind w.alone (subst (λ i. bound_to p.scope i ≡ None) (sym w.same) free) (subst (Unhung defs M n) (sym w.same) h)

one_step : (defs : Definitions) (M : Meaning) (n : ℕ) (name next : List ℕ) → next_name defs name ≡ Some next → Unhung defs M n next → Unhung defs M (suc n) name
one_step defs M n name next e h =
    record {
      none = λ scope lists d x t i.
          let b : Behind d next = behind d next (sym (ap (λ o. once None o name_behind) t) ∙ e) in
          let r : Read d next x = read scope d d.parameterization lists next x b.is_free i in
          named_unhung defs M n x.place next (ap (λ ty. plain_name_in (kind_of_type ty)) r.ty ∙ b.is_name) r.free h;
    }

-- ---- a circle

-- From the first name so many turns lead to the second: within these the first does not hang, and within more it does only if the
-- second does.
record Goes (defs : Definitions) (M : Meaning) (turns : ℕ) (start name : List ℕ) : Type 0 where
  early : (n : ℕ) → n ≤ turns → Unhung defs M n start
  late : (n : ℕ) → Unhung defs M n name → Unhung defs M (n + turns) start

stays : (defs : Definitions) (M : Meaning) (start : List ℕ) → Goes defs M 0 start start
stays defs M start =
    record {
      early = λ n le. subst (λ k. Unhung defs M k start) (omega arith) (without_steps defs M start);
      late = λ n h. subst (λ k. Unhung defs M k start) (omega arith) h;
    }

goes_on : (defs : Definitions) (M : Meaning) (turns : ℕ) (start name next : List ℕ) → Goes defs M turns start name → next_name defs name ≡ Some next → Goes defs M (turns + 1) start next
goes_on defs M turns start name next g e =
    record {
      early = λ n le. early_on n le (nat_le n turns) refl;
      late = λ n h. subst (λ k. Unhung defs M k start) (omega arith) (g.late (suc n) (one_step defs M n name next e h));
    }
  where
    early_on : (n : ℕ) → n ≤ turns + 1 → (t : Bool) → nat_le n turns ≡ t → Unhung defs M n start
    early_on n le true f = g.early n (grind (arith, nat_tests))
    early_on n le false f =
        subst (λ k. Unhung defs M k start) (grind (arith, nat_tests)) (g.late (suc 0) (one_step defs M 0 name next e (without_steps defs M next)))

by_size : (defs : Definitions) (M : Meaning) (start : List ℕ) (turns n : ℕ) → Goes defs M turns start start → 0 < turns → ((k : ℕ) → k < n → Unhung defs M k start) → (t : Bool) → nat_le n turns ≡ t →
    Unhung defs M n start
by_size defs M start turns n g lt before true e = g.early n (grind (arith, nat_tests))
by_size defs M start turns n g lt before false e =
    let more : turns < n = grind (arith, nat_tests) in
    subst (λ k. Unhung defs M k start) (omega arith) (g.late (n - turns) (before (n - turns) (omega arith)))

circle : (defs : Definitions) (M : Meaning) (start : List ℕ) (turns : ℕ) → Goes defs M turns start start → 0 < turns → (most n : ℕ) → n < most → Unhung defs M n start
circle defs M start turns g lt zero n le = absurd (omega arith)
circle defs M start turns g lt (suc most) n le = by_size defs M start turns n g lt (λ k less. circle defs M start turns g lt most k (omega arith)) (nat_le n turns) refl

at_goal : (defs : Definitions) (M : Meaning) (start next : List ℕ) (turns left : ℕ) → Goes defs M turns start next → 0 < turns →
    (arrives defs start left next ≡ true → (n : ℕ) → Unhung defs M n start) → (b : Bool) → bytes_eq next start ≡ b → (b || arrives defs start left next) ≡ true → (n : ℕ) → Unhung defs M n start
at_goal defs M start next turns left g lt further true e f n =
    circle defs M start turns (subst (Goes defs M turns start) ((bytes_eq-Decides next start).0 e) g) lt (suc n) n (omega arith)
at_goal defs M start next turns left g lt further false e f n = further f n

at_next : (defs : Definitions) (M : Meaning) (start name : List ℕ) (turns left : ℕ) → Goes defs M turns start name →
    ((next : List ℕ) → Goes defs M (turns + 1) start next → arrives defs start left next ≡ true → (n : ℕ) → Unhung defs M n start) →
    (o : Option (List ℕ)) → next_name defs name ≡ o → next_arrives defs start left o ≡ true → (n : ℕ) → Unhung defs M n start
at_next defs M start name turns left g further None e f n = absurd cc
at_next defs M start name turns left g further (Some next) e f n =
    let more : Goes defs M (turns + 1) start next = goes_on defs M turns start name next g e in
    at_goal defs M start next (turns + 1) left more (omega arith) (further next more) (bytes_eq next start) refl f n

comes_back : (defs : Definitions) (M : Meaning) (start name : List ℕ) (turns left : ℕ) → Goes defs M turns start name → arrives defs start left name ≡ true → (n : ℕ) → Unhung defs M n start
comes_back defs M start name turns zero g e n = absurd cc
comes_back defs M start name turns (suc left) g e n =
    at_next defs M start name turns left g (λ next more f. comes_back defs M start next (turns + 1) left more f) (next_name defs name) refl e n

-- ---- the place

record Circular (defs : Definitions) (turns : ℕ) (p : Place) : Type 0 where
  name : List ℕ
  is_name : plain_name_in (kind_of p) ≡ Some name
  free : bound_to p.scope name ≡ None
  back : arrives defs name turns name ≡ true

free_circle : (defs : Definitions) (turns : ℕ) (p : Place) (name : List ℕ) → plain_name_in (kind_of p) ≡ Some name → (b : Option Bound) → bound_to p.scope name ≡ b →
    (is_none b && arrives defs name turns name) ≡ true → Circular defs turns p
free_circle defs turns p name e None f g = record { name = name; is_name = e; free = f; back = g }
free_circle defs turns p name e (Some b) f g = absurd cc

of_place : (defs : Definitions) (turns : ℕ) (p : Place) (o : Option (List ℕ)) → plain_name_in (kind_of p) ≡ o → asked defs turns p.scope o ≡ true → Circular defs turns p
of_place defs turns p None e f = absurd cc
of_place defs turns p (Some name) e f = free_circle defs turns p name e (bound_to p.scope name) refl f

unhung_at : (defs : Definitions) (M : Meaning) (turns : ℕ) (p : Place) → Circular defs turns p → (n : ℕ) → hangs defs M n p ≡ false
unhung_at defs M turns p c zero = refl
unhung_at defs M turns p c (suc n) =
    named_unhung defs M n p c.name c.is_name c.free (comes_back defs M c.name c.name 0 turns (stays defs M c.name) c.back n)

-- A name that leads on to itself does not hang, whatever its arguments are; asked only where another test holds.
pub lost_unhung : (defs : Definitions) (M : Meaning) (n : ℕ) (asked_now : Bool) (turns : ℕ) (p : Place) → (asked_now && is_circular defs turns p) ≡ true → hangs defs M n p ≡ false
lost_unhung defs M n true turns p e = unhung_at defs M turns p (of_place defs turns p (plain_name_in (kind_of p)) refl e) n
lost_unhung defs M n false turns p e = absurd cc
