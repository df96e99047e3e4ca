-- Arguments of another kind than their governor, and governors that name a type where a class is meant.
use Rattle.std.proofs.Common.{◌≡◌, ℕ, Bool, true, false, List, Option, Some, None, refl, ap, ◌∙◌, if◌then◌else◌}
use Rattle.std.specs.Prelude.{codes, is_none}
use Rattle.std.specs.List.{list_any}
use Rattle.std.specs.Str.{bytes_eq}
use Rattle.asn_faults_arguments.specs.inner.Asked.{is_type_definition}
use Rattle.asn_tree.specs.declared.constraints.Parameter.{out-Parameter}
use Rattle.asn_tree.specs.declared.definitions.ParameterGovernor.{ParameterGovernor}
use Rattle.asn_tree.specs.declared.definitions.ToplevelDefinition.{ToplevelDefinition}
use Rattle.asn_names_index.specs.Definitions.{last_named, seen as seen_named}
use Rattle.asn_meaning.specs.Answers.{once}
use Rattle.asn_meaning.specs.Definitions.{Definitions, built_in, see}
use Rattle.asn_meaning.specs.Scopes.{Argument, Bound, Scope, bound_to}
use Rattle.asn_needs.specs.Arguments.{names_type, type_words, wrong_argument, wrong_class, wrong_dummy_governor, wrong_kind}
use Rattle.asn_needs.specs.PartsOfTypes.{is_aside}
use Rattle.asn_needs.specs.Sites.{Seen}

-- ---- names that have no definition

pub built_in_seen : (defs : Definitions) (name : List ℕ) → bytes_eq name (codes "TYPE-IDENTIFIER") ≡ true → is_none (see defs name) ≡ false
unfolding built_in
built_in_seen defs name e = ap (λ b. is_none (if b then Some built_in else last_named defs name)) e

pub unknown_seen : (defs : Definitions) (name : List ℕ) → bytes_eq name (codes "TYPE-IDENTIFIER") ≡ false → is_none (see defs name) ≡ is_none (seen_named defs name)
unknown_seen defs name e = go (bytes_eq name (codes "TYPE-IDENTIFIER")) e
  where
    go : (b : Bool) → b ≡ false → is_none (if b then Some built_in else last_named defs name) ≡ is_none (if b then None else last_named defs name)
    go true e = absurd cc
    go false e = refl

-- ---- what an argument stands for

-- what is wrong of an argument, where it is not judged by its kind alone
abbrev judged : Bool → Seen → Scope → ParameterGovernor → Option Argument → Bool
judged aside S inner g a = if aside then false else once false a (λ b. wrong_kind S inner g (out-Parameter b.tree))

pub aside_right : (S : Seen) (inner : Scope) (g : ParameterGovernor) (a : Option Argument) → is_aside S inner g a ≡ true → wrong_argument S inner g a ≡ false
aside_right S inner g a e = ap (λ b. judged b S inner g a) e

pub none_right : (S : Seen) (inner : Scope) (g : ParameterGovernor) (a : Option Argument) → a ≡ None → wrong_argument S inner g a ≡ false
none_right S inner g a e = ap (wrong_argument S inner g) e

pub some_wrong : (S : Seen) (inner : Scope) (g : ParameterGovernor) (a : Argument) → is_aside S inner g (Some a) ≡ false → wrong_argument S inner g (Some a) ≡ wrong_kind S inner g (out-Parameter a.tree)
some_wrong S inner g a e = ap (λ b. judged b S inner g (Some a)) e

pub wrong_handed : (S : Seen) (inner : Scope) (g : ParameterGovernor) (a o : Option Argument) (b : Bool) → a ≡ o → b ≡ wrong_argument S inner g a → b ≡ wrong_argument S inner g o
wrong_handed S inner g a o b e is = is ∙ ap (wrong_argument S inner g) e

-- ---- governors

-- whether the name is that of a type, by what it sees
abbrev typed_by : List ℕ → Option ToplevelDefinition → Bool
typed_by name o = once (list_any (bytes_eq name) type_words) o is_type_definition

pub type_built_in : (defs : Definitions) (name : List ℕ) → bytes_eq name (codes "TYPE-IDENTIFIER") ≡ true → names_type defs name ≡ false
unfolding built_in
type_built_in defs name e = ap (λ b. typed_by name (if b then Some built_in else last_named defs name)) e

-- another name
type_by : (defs : Definitions) (name : List ℕ) → bytes_eq name (codes "TYPE-IDENTIFIER") ≡ false → names_type defs name ≡ typed_by name (seen_named defs name)
type_by defs name e = go (bytes_eq name (codes "TYPE-IDENTIFIER")) e
  where
    go : (b : Bool) → b ≡ false → typed_by name (if b then Some built_in else last_named defs name) ≡ typed_by name (if b then None else last_named defs name)
    go true e = absurd cc
    go false e = refl

pub type_unseen : (defs : Definitions) (name : List ℕ) → bytes_eq name (codes "TYPE-IDENTIFIER") ≡ false → seen_named defs name ≡ None → names_type defs name ≡ list_any (bytes_eq name) type_words
type_unseen defs name e f = type_by defs name e ∙ ap (typed_by name) f

pub type_seen : (defs : Definitions) (name : List ℕ) (d : ToplevelDefinition) → bytes_eq name (codes "TYPE-IDENTIFIER") ≡ false → seen_named defs name ≡ Some d → names_type defs name ≡ is_type_definition d
type_seen defs name d e f = type_by defs name e ∙ ap (typed_by name) f

pub class_unbound : (S : Seen) (scope : Scope) (c : List ℕ) → bound_to scope c ≡ None → wrong_class S scope c ≡ names_type S.defs c
class_unbound S scope c e = ap (λ o. once (names_type S.defs c) o (wrong_dummy_governor S)) e

pub class_bound : (S : Seen) (scope : Scope) (c : List ℕ) (b : Bound) → bound_to scope c ≡ Some b → wrong_class S scope c ≡ wrong_dummy_governor S b
class_bound S scope c b e = ap (λ o. once (names_type S.defs c) o (wrong_dummy_governor S)) e
