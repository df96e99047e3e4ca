-- ALL, and what stands for it.
use Rattle.std.specs.Prelude.{ℕ, List, [], is_some, Option, Some, None, if◌then◌else◌}
use Rattle.asn_tree_leaves.specs.declared.plain.CharacterStringType.TheVariants.{UTF8String}
use Rattle.asn_tree.specs.declared.types.ASN1Type.TheVariants as type_of_kind
use Rattle.asn_meaning.specs.Answers.{Answer, Yes, No, Unknown, once}
use Rattle.asn_meaning.specs.Definitions.{Definitions, value_named}
use Rattle.asn_meaning.specs.Denotes.{Read, argument_of, defined_read, own_name, path_value}
use Rattle.asn_meaning.specs.Meaning.{Meaning}
use Rattle.asn_meaning.specs.Names.{FieldType, Open, Fixed}
use Rattle.asn_meaning.specs.Scopes.{Scope, Empty, Bound, bound_to, Place}
use Rattle.asn_meaning.specs.Written.{Written, AllWritten, NameWritten, NestedWritten}

-- a character string type without constraints
abbrev pub plain_text : Place
plain_text = record { scope = Empty; ty = type_of_kind.CharacterString (record { constraints = []; ty = UTF8String }) }

abbrev pub read_is_all : Meaning → Read → Answer
read_is_all M r = M.is_all r.scope r.value r.place

abbrev pub field_place : FieldType → Place
field_place Open = plain_text
field_place (Fixed ty) = record { scope = Empty; ty = ty }

abbrev pub defined_is_all : Definitions → Meaning → List ℕ → Place → Answer
defined_is_all defs M name head =
    if is_some (own_name head name) then No else once No (value_named defs name) (λ d. read_is_all M (defined_read d))

abbrev pub name_is_all : Definitions → Meaning → Scope → Place → List ℕ → Option Bound → Answer
name_is_all defs M scope p name (Some b) = once No (argument_of scope b) (read_is_all M)
name_is_all defs M scope p name None = once Unknown (M.head p) (defined_is_all defs M name)

abbrev pub reference_is_all : Definitions → Meaning → Scope → Place → Option (List ℕ) → List ℕ → Answer
reference_is_all defs M scope p None name = name_is_all defs M scope p name (bound_to scope name)
reference_is_all defs M scope p (Some o) name = once No (path_value defs scope o name) (λ f. M.is_all Empty f.0 (field_place f.1))

-- The value ALL, or a dummy, a name or a path that stands for it (X.680 51.2).
abbrev pub is_all_at : Definitions → Meaning → Scope → Place → Written → Answer
is_all_at defs M scope p AllWritten = Yes
is_all_at defs M scope p (NameWritten parent name) = reference_is_all defs M scope p parent name
is_all_at defs M scope p (NestedWritten v) = M.is_all scope v p
is_all_at defs M scope p _ = No
