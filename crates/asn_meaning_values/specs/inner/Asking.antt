-- What is asked of names and paths of values: whether they stand for ALL.
use Rattle.std.specs.Prelude.{ℕ, List, Option, Some, None, is_some, if◌then◌else◌}
use Rattle.asn_meaning_values.specs.declared.everything.Asks.{Asks as LentAsks}
use Rattle.asn_meaning_values.specs.declared.everything.Asks.TheVariants as lent
use Rattle.asn_meaning_values.specs.inner.Reading.{shown_read}
use Rattle.asn_meaning_shapes.specs.Answers.{known}
use Rattle.asn_meaning.specs.Answers.{Answer, No, Unknown, once}
use Rattle.asn_meaning.specs.Definitions.{Definitions, value_named}
use Rattle.asn_meaning.specs.Denotes.{Read, argument_of, defined_read, own_name, path_value}
use Rattle.asn_meaning.specs.Everything.{field_place, read_is_all}
use Rattle.asn_meaning.specs.Meaning.{Meaning}
use Rattle.asn_meaning.specs.Scopes.{Scope, Empty, Bound, bound_to, Place}

pub data Asks : Type 0 where
  -- whether a value that is read elsewhere stands for ALL
  OfRead : Read → Asks
  -- nothing more: this is the answer
  OfNothing : Answer → Asks

abbrev pub shown_asks : LentAsks → Asks
shown_asks (lent.Read r) = OfRead (shown_read r)
shown_asks (lent.Known answer) = OfNothing (known answer)

abbrev pub dummy_asks : Scope → Bound → Asks
dummy_asks scope b = once (OfNothing No) (argument_of scope b) OfRead

abbrev pub defined_asks : Definitions → List ℕ → Place → Asks
defined_asks defs name head =
    if is_some (own_name head name) then OfNothing No else once (OfNothing No) (value_named defs name) (λ d. OfRead (defined_read d))

abbrev pub head_asks : Definitions → Meaning → Place → List ℕ → Asks
head_asks defs M p name = once (OfNothing Unknown) (M.head p) (defined_asks defs name)

abbrev pub name_asks : Definitions → Meaning → Scope → Place → List ℕ → Option Bound → Asks
name_asks defs M scope p name (Some b) = dummy_asks scope b
name_asks defs M scope p name None = head_asks defs M p name

abbrev pub path_asks : Definitions → Scope → List ℕ → List ℕ → Asks
path_asks defs scope o name =
    once (OfNothing No) (path_value defs scope o name) (λ f. OfRead (record { scope = Empty; value = f.0; place = field_place f.1 }))

abbrev pub reference_asks : Definitions → Meaning → Scope → Place → Option (List ℕ) → List ℕ → Asks
reference_asks defs M scope p None name = name_asks defs M scope p name (bound_to scope name)
reference_asks defs M scope p (Some o) name = path_asks defs scope o name

-- whether what is asked of stands for ALL
abbrev pub asked : Meaning → Asks → Answer
asked M (OfRead r) = read_is_all M r
asked M (OfNothing answer) = answer
