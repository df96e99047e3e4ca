-- Plain names of values: which are none of a definition.
use Rattle.std.proofs.Common.{◌≡◌, ℕ, List, [], ◌∷◌, Bool, true, false, Option, Some, None, refl, ap, ◌∙◌, if◌then◌else◌}
use Rattle.std.specs.Prelude.{is_some, ◌||◌, ◌&&◌}
use Rattle.asn_meaning.specs.Answers.{once}
use Rattle.asn_meaning.specs.Definitions.{Definitions}
use Rattle.asn_meaning.specs.Denotes.{own_name}
use Rattle.asn_meaning.specs.Judge.{meaning}
use Rattle.asn_meaning.specs.Scopes.{Place, Scope}
use Rattle.asn_meaning.specs.Written.{NameWritten}
use Rattle.asn_needs.specs.Dummies.{hangs, is_dummy}
use Rattle.asn_needs.specs.Occurrences.{NeedsValue, Occurrence, hangs_at, is_own_name, names_in_value, unless_open}
use Rattle.asn_needs.specs.Sites.{Seen, seen}
use Rattle.asn_places_names.specs.inner.Lacks.{is_aside, lacks}

-- ---- under a type

-- what is told of the head
abbrev by_head : Seen → Place → List ℕ → Option Place → Bool
by_head S p name o =
    once false o (λ head. is_some (own_name head name)) || ((if is_some o then false else hangs S.defs S.known S.steps p) && lacks S.defs NeedsValue name)

nothing_more : (b c : Bool) → (b || (false && c)) ≡ b
nothing_more true c = refl
nothing_more false c = refl

both : (b c d : Bool) → c ≡ d → (b && c) ≡ (b && d)
both b c d e = ap (λ x. b && x) e

pub aside_headed : (defs : Definitions) (n : ℕ) (p head : Place) (name : List ℕ) → (meaning defs n).head p ≡ Some head →
    is_aside (seen defs n) (Some p) name ≡ is_some (own_name head name)
aside_headed defs n p head name e = ap (by_head (seen defs n) p name) e ∙ nothing_more (is_some (own_name head name)) (lacks defs NeedsValue name)

headless : (defs : Definitions) (n : ℕ) (p : Place) (name : List ℕ) (b : Bool) → (meaning defs n).head p ≡ None → lacks defs NeedsValue name ≡ b →
    is_aside (seen defs n) (Some p) name ≡ (hangs defs (meaning defs n) n p && b)
headless defs n p name b e f = ap (by_head (seen defs n) p name) e ∙ both (hangs defs (meaning defs n) n p) (lacks defs NeedsValue name) b f

never : (b : Bool) → (b && false) ≡ false
never true = refl
never false = refl

always : (b : Bool) → (b && true) ≡ b
always true = refl
always false = refl

pub aside_defined : (defs : Definitions) (n : ℕ) (p : Place) (name : List ℕ) → (meaning defs n).head p ≡ None → lacks defs NeedsValue name ≡ false →
    is_aside (seen defs n) (Some p) name ≡ false
aside_defined defs n p name e f = headless defs n p name false e f ∙ never (hangs defs (meaning defs n) n p)

pub aside_hung : (defs : Definitions) (n : ℕ) (p : Place) (name : List ℕ) → (meaning defs n).head p ≡ None → lacks defs NeedsValue name ≡ true →
    is_aside (seen defs n) (Some p) name ≡ hangs defs (meaning defs n) n p
aside_hung defs n p name e f = headless defs n p name true e f ∙ always (hangs defs (meaning defs n) n p)

-- ---- at a place

-- what is told of a name, where it is this that it is an item of the head, that the head hangs, and that it lacks a definition
abbrev by_tests : (os : List Occurrence) (own hung lacking : Bool) → List Occurrence
by_tests os own hung lacking = if own then [] else if hung && lacking then [] else os

none_named : (own hung : Bool) → by_tests [] own hung false ≡ []
none_named true hung = refl
none_named false true = refl
none_named false false = refl

aside : (os : List Occurrence) (own hung lacking : Bool) → (own || (hung && lacking)) ≡ true → by_tests os own hung (lacking || false) ≡ []
aside os true hung lacking e = refl
aside os false true true e = refl
aside os false true false e = absurd cc
aside os false false lacking e = absurd cc

not_aside : (os : List Occurrence) (own hung lacking : Bool) → (own || (hung && lacking)) ≡ false → by_tests os own hung (lacking || false) ≡ os
not_aside os true hung lacking e = absurd cc
not_aside os false true true e = absurd cc
not_aside os false true false e = refl
not_aside os false false lacking e = refl

-- the name as it occurs, where it is no dummy
abbrev value_named : Scope → Option Place → List ℕ → Occurrence
value_named scope p name = record { need = NeedsValue; name = name; has_list = false; scope = scope; governing = p }

-- what is told of the name, where it is this whether it is a dummy
abbrev by_dummy : Seen → Scope → Option Place → List ℕ → Bool → List Occurrence
by_dummy S scope p name dummy =
    if is_own_name S p name then [] else unless_open S p (if dummy then [] else value_named scope p name ∷ [])

pub plain_dummy : (S : Seen) (scope : Scope) (p : Option Place) (name : List ℕ) → is_dummy scope name ≡ true → names_in_value S scope p (NameWritten None name) ≡ []
plain_dummy S scope p name e = ap (by_dummy S scope p name) e ∙ none_named (is_own_name S p name) (hangs_at S p)

pub plain_aside : (S : Seen) (scope : Scope) (p : Option Place) (name : List ℕ) → is_dummy scope name ≡ false → is_aside S p name ≡ true →
    names_in_value S scope p (NameWritten None name) ≡ []
plain_aside S scope p name e f =
    ap (by_dummy S scope p name) e ∙ aside (value_named scope p name ∷ []) (is_own_name S p name) (hangs_at S p) (lacks S.defs NeedsValue name) f

pub plain_named : (S : Seen) (scope : Scope) (p : Option Place) (name : List ℕ) → is_dummy scope name ≡ false → is_aside S p name ≡ false →
    names_in_value S scope p (NameWritten None name) ≡ record { need = NeedsValue; name = name; has_list = false; scope = scope; governing = p } ∷ []
plain_named S scope p name e f =
    ap (by_dummy S scope p name) e ∙ not_aside (value_named scope p name ∷ []) (is_own_name S p name) (hangs_at S p) (lacks S.defs NeedsValue name) f
