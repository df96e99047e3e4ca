-- The last definition of a name, what the name sees, and what it stands for.
use Rattle.std.proofs.Common.{◌≡◌, ℕ, List, [], ◌∷◌, ◌++◌, Bool, true, false, Option, Some, None, refl, sym, ap, ◌∙◌}
use Rattle.std.specs.Prelude.{codes, if◌then◌else◌, is_some}
use Rattle.std.specs.Str.{bytes_eq}
use Rattle.asn_tree.specs.declared.definitions.ToplevelDefinition.{ToplevelDefinition}
use Rattle.asn_tree.specs.declared.definitions.ToplevelDefinition.TheVariants.{TypeDef, Value, Information}
use Rattle.asn_tree.specs.declared.definitions.ToplevelTypeDefinition.{ToplevelTypeDefinition}
use Rattle.asn_meaning.specs.Answers.{once}
use Rattle.asn_meaning.specs.Definitions.{built_in, class_in, class_named, information_in, information_named, is_class, object_in, object_named, see, type_identifier, type_in, type_named, unless_template, value_in, value_named}
use Rattle.asn_names_index.specs.Definitions.{Definitions, is_named, last_named, seen}

-- the one or the other, the first where both are there
abbrev pub or_else : Option ToplevelDefinition → Option ToplevelDefinition → Option ToplevelDefinition
or_else o other = elim o [
  | Some later ↦ Some later
  | None ↦ other
]

pub or_else_none : (a : Option ToplevelDefinition) → or_else a None ≡ a
or_else_none (Some d) = refl
or_else_none None = refl

or_else_through : (a b c : Option ToplevelDefinition) → or_else (or_else a b) c ≡ or_else a (or_else b c)
or_else_through (Some d) b c = refl
or_else_through None b c = refl

pub last_append : (q : List ℕ) (xs ys : Definitions) → last_named (xs ++ ys) q ≡ or_else (last_named ys q) (last_named xs q)
last_append q [] ys = sym (or_else_none (last_named ys q))
last_append q (x ∷ xs) ys =
    let here = if is_named q x then Some x else None in
    ap (λ o. or_else o here) (last_append q xs ys) ∙ or_else_through (last_named ys q) (last_named xs q) here

-- the last definition of a name has the name
pub last_is_named : (q : List ℕ) (ds : Definitions) (d : ToplevelDefinition) → last_named ds q ≡ Some d → is_named q d ≡ true
last_is_named q [] d e = absurd cc
last_is_named q (x ∷ ds) d e = go (last_is_named q ds d) (last_named ds q) refl e
  where
    here : (b : Bool) → is_named q x ≡ b → (if b then Some x else None) ≡ Some d → is_named q d ≡ true
    here true t h = let same : x ≡ d = cc in ap (is_named q) (sym same) ∙ t
    here false t h = absurd cc

    go : (last_named ds q ≡ Some d → is_named q d ≡ true) → (o : Option ToplevelDefinition) → last_named ds q ≡ o → or_else o (if is_named q x then Some x else None) ≡ Some d → is_named q d ≡ true
    go later None t h = here (is_named q x) refl h
    go later (Some y) t h = later (t ∙ h)

-- The type definition that a name stands for is the one that it sees among the definitions.
pub type_seen : (defs : Definitions) (name : List ℕ) → type_named defs name ≡ once None (seen defs name) type_in
unfolding built_in
type_seen defs name = go (bytes_eq name (codes "TYPE-IDENTIFIER"))
  where
    go : (b : Bool) → once None (if b then Some built_in else last_named defs name) type_in ≡ once None (if b then None else last_named defs name) type_in
    go true = refl
    go false = refl

-- The value definition that a name stands for is the one that it sees among the definitions.
pub value_seen : (defs : Definitions) (name : List ℕ) → value_named defs name ≡ once None (seen defs name) value_in
unfolding built_in
value_seen defs name = go (bytes_eq name (codes "TYPE-IDENTIFIER"))
  where
    go : (b : Bool) → once None (if b then Some built_in else last_named defs name) value_in ≡ once None (if b then None else last_named defs name) value_in
    go true = refl
    go false = refl

-- The same of the object.
pub object_seen : (defs : Definitions) (name : List ℕ) →
    object_named defs name ≡ once None (once None (seen defs name) information_in) (λ d. once None (object_in d.value) (unless_template d.parameterization))
unfolding built_in
object_seen defs name = go (bytes_eq name (codes "TYPE-IDENTIFIER"))
  where
    go : (b : Bool) →
        once None (once None (if b then Some built_in else last_named defs name) information_in) (λ d. once None (object_in d.value) (unless_template d.parameterization))
        ≡ once None (once None (if b then None else last_named defs name) information_in) (λ d. once None (object_in d.value) (unless_template d.parameterization))
    go true = refl
    go false = refl

-- ---- classes, of which one is built in

sees_built_in : (defs : Definitions) (name : List ℕ) → bytes_eq name (codes "TYPE-IDENTIFIER") ≡ true → see defs name ≡ Some built_in
sees_built_in defs name e = ap (λ b. if b then Some built_in else last_named defs name) e

sees_last : (defs : Definitions) (name : List ℕ) → bytes_eq name (codes "TYPE-IDENTIFIER") ≡ false → see defs name ≡ seen defs name
sees_last defs name e =
    ap (λ b. if b then Some built_in else last_named defs name) e ∙ sym (ap (λ b. if b then None else last_named defs name) e)

pub class_is_built_in : (defs : Definitions) (name : List ℕ) → bytes_eq name (codes "TYPE-IDENTIFIER") ≡ true → is_class defs name ≡ true
unfolding built_in
class_is_built_in defs name e = ap (λ x. is_some (once None (once None x information_in) (λ d. class_in d.value))) (sees_built_in defs name e)

pub is_class_seen : (defs : Definitions) (name : List ℕ) → bytes_eq name (codes "TYPE-IDENTIFIER") ≡ false →
    is_class defs name ≡ is_some (once None (once None (seen defs name) information_in) (λ d. class_in d.value))
is_class_seen defs name e = ap (λ x. is_some (once None (once None x information_in) (λ d. class_in d.value))) (sees_last defs name e)

pub class_built_in : (defs : Definitions) (name : List ℕ) → bytes_eq name (codes "TYPE-IDENTIFIER") ≡ true → class_named defs name ≡ Some type_identifier
unfolding built_in
class_built_in defs name e =
    ap (λ x. once None (once None x information_in) (λ d. once None (class_in d.value) (unless_template d.parameterization))) (sees_built_in defs name e)

pub class_seen : (defs : Definitions) (name : List ℕ) → bytes_eq name (codes "TYPE-IDENTIFIER") ≡ false →
    class_named defs name ≡ once None (once None (seen defs name) information_in) (λ d. once None (class_in d.value) (unless_template d.parameterization))
class_seen defs name e =
    ap (λ x. once None (once None x information_in) (λ d. once None (class_in d.value) (unless_template d.parameterization))) (sees_last defs name e)

-- ---- names of types

-- a name that stands for a type sees its definition, which is the last of the name
pub type_is_seen : (defs : Definitions) (name : List ℕ) (d : ToplevelTypeDefinition) → type_named defs name ≡ Some d → see defs name ≡ Some (TypeDef d)
unfolding built_in
type_is_seen defs name d is = go (see defs name) is
  where
    go : (o : Option ToplevelDefinition) → once None o type_in ≡ Some d → o ≡ Some (TypeDef d)
    go None h = absurd cc
    go (Some (TypeDef e)) h = let same : e ≡ d = cc in ap (λ z. Some (TypeDef z)) same
    go (Some (Value e)) h = absurd cc
    go (Some (Information e)) h = absurd cc

pub type_is_last : (defs : Definitions) (name : List ℕ) (d : ToplevelTypeDefinition) → type_named defs name ≡ Some d → last_named defs name ≡ Some (TypeDef d)
unfolding built_in
type_is_last defs name d is = go (bytes_eq name (codes "TYPE-IDENTIFIER")) (type_is_seen defs name d is)
  where
    go : (b : Bool) → (if b then Some built_in else last_named defs name) ≡ Some (TypeDef d) → last_named defs name ≡ Some (TypeDef d)
    go true h = absurd cc
    go false h = h
