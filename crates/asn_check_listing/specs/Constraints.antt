-- The text of one level of a constraint, of its elements and of its arguments, where their parts have these texts.
use Rattle.std.specs.Prelude.{ℕ, ◌+◌, List, [], ◌∷◌, ◌++◌, Bool, false, Option, Some, None, codes, map, nat_eq, not, if◌then◌else◌}
use Rattle.asn_tree_kinds.specs.declared.constraints.ComponentPresence.{ComponentPresence}
use Rattle.asn_tree_kinds.specs.declared.constraints.RelationalConstraint.{RelationalConstraint}
use Rattle.asn_tree_kinds.specs.declared.constraints.ConstrainedComponentOver.{ConstrainedComponentOver}
use Rattle.asn_tree_kinds.specs.declared.objects.ObjectSetOver.{ObjectSetOver}
use Rattle.asn_tree_kinds.specs.declared.objects.ObjectSetValueOver.{ObjectSetValueOver}
use Rattle.asn_tree_kinds.specs.declared.objects.ObjectSetValueOver.TheVariants.{Reference, Inline}
use Rattle.asn_check_listing.specs.LongWords.{constrained_by_word, containing_word, encoded_by_word, with_component_word, with_components_word}
use Rattle.asn_check_listing.specs.Parts.{Letters, closing, constrained, either, joined, led, listed, nothing, when}
use Rattle.asn_check_listing.specs.Words.{operator_text, presence_text, quoted, relations_text, settings_text}
use Rattle.asn_tree.specs.Layers.{ConstraintOf, ContentOf, ElementOf, OperationOf, ParameterOf, SetOf}
use Rattle.asn_tree.specs.declared.constraints.Constraint.{Constraint-F}
use Rattle.asn_tree.specs.declared.constraints.ContentConstraint.{ContentConstraint-F}
use Rattle.asn_tree.specs.declared.constraints.ElementOrSetOperation.{ElementOrSetOperation-F}
use Rattle.asn_tree.specs.declared.constraints.Parameter.{Parameter-F}
use Rattle.asn_tree.specs.declared.constraints.SubtypeElement.{SubtypeElement-F}

abbrev pub extension : Bool → Letters
extension extensible = when extensible (codes ", ...")

-- an end of a range, where it is absent the word given
abbrev pub end_line : Letters → Option Letters → Letters
end_line word None = word
end_line word (Some v) = v

-- an item of a set of objects: a name, or an object
abbrev pub set_item : ObjectSetValueOver Letters → Letters
set_item (Reference name) = name
set_item (Inline fields) = fields

-- whether the extension marker stands behind so many items
abbrev pub is_marked : Option ℕ → ℕ → Bool
is_marked None n = false
is_marked (Some m) n = nat_eq m n

-- the marker, where so many items stand before it
abbrev pub mark : ℕ → Letters
mark n = either (nat_eq n 0) (codes "...") (codes ", ...")

-- what stands before an item of a set of objects, where so many stand before it
abbrev pub set_lead : Option ℕ → ℕ → Letters
set_lead marker n = either (is_marked marker n) (mark n ++ codes ", ") (either (nat_eq n 0) [] (codes " | "))

-- items, where so many stand before them, with the marker at its place (X.681 12.3)
abbrev pub set_items : Option ℕ → ℕ → List Letters → Letters
set_items marker n [] = when (is_marked marker n) (mark n)
set_items marker n (x ∷ xs) = set_lead marker n ++ x ++ set_items marker (n + 1) xs

abbrev pub set_line : ObjectSetOver Letters → Letters
set_line s = codes "{" ++ set_items s.extensible 0 (map set_item s.values) ++ codes "}"

abbrev pub listed_text : Letters → List Letters → ComponentPresence → Letters
listed_text name cs presence = name ++ joined cs ++ presence_text presence

abbrev pub component_line : ConstrainedComponentOver Letters → Letters
component_line c = listed_text c.identifier c.constraints c.presence

-- texts in braces, the mark of a partial list first, where the list is one (X.680 51.8.5)
abbrev pub braced_behind : Bool → List Letters → Letters
braced_behind partial xs =
    when partial (codes " { ...") ++ led (codes " { ") (codes ", ") (not partial) xs ++ closing (nothing (not partial) xs)

-- a set of elements behind a word
abbrev pub within : Letters → Letters → Letters
within word set = word ++ codes " (" ++ set ++ codes ")"

-- texts with the extension marker behind them, where it stands
abbrev pub extended : Letters → Bool → Letters
extended text extensible = text ++ extension extensible

abbrev pub range_line : Option Letters → Option Letters → Bool → Bool → Letters
range_line min max min_open max_open = end_line (codes "MIN") min ++ when min_open (codes "<") ++ codes ".." ++ when max_open (codes "<") ++ end_line (codes "MAX") max

abbrev pub pattern_line : Letters → Letters
pattern_line pattern = codes "PATTERN " ++ quoted pattern

abbrev pub user_line : Letters → Letters
user_line definition = constrained_by_word ++ definition ++ codes "}"

abbrev pub element_line : ElementOf Letters → Letters
element_line (SubtypeElement-F.SingleValue v extensible) = extended v extensible
element_line (SubtypeElement-F.ContainedSubtype ty extensible) = extended ty extensible
element_line (SubtypeElement-F.ValueRange min max min_open max_open extensible) = extended (range_line min max min_open max_open) extensible
element_line (SubtypeElement-F.PermittedAlphabet set) = within (codes "FROM") set
element_line (SubtypeElement-F.SizeConstraint set) = within (codes "SIZE") set
element_line (SubtypeElement-F.TypeConstraint ty) = ty
element_line (SubtypeElement-F.SingleTypeConstraint cs) = constrained with_component_word cs
element_line (SubtypeElement-F.MultipleTypeConstraints inner) = with_components_word ++ braced_behind inner.is_partial (map component_line inner.constraints)
element_line (SubtypeElement-F.PatternConstraint p) = pattern_line p.pattern
element_line (SubtypeElement-F.UserDefinedConstraint u) = user_line u.definition
element_line (SubtypeElement-F.PropertySettings s) = settings_text s.property_settings_list

abbrev pub operand_line : SetOf Letters → Letters
operand_line (ElementOrSetOperation-F.Element e) = e
operand_line (ElementOrSetOperation-F.SetOperation o) = o

abbrev pub operation_line : OperationOf Letters → Letters
operation_line o = o.base ++ operator_text o.operator ++ o.operant

abbrev pub containing_line : Letters → Letters
containing_line ty = containing_word ++ ty

abbrev pub encoded_line : Letters → Letters
encoded_line rules = encoded_by_word ++ rules

abbrev pub content_line : ContentOf Letters → Letters
content_line (ContentConstraint-F.Containing ty) = containing_line ty
content_line (ContentConstraint-F.EncodedBy v) = encoded_line v
content_line (ContentConstraint-F.ContainingEncodedBy ty v) = containing_line ty ++ codes " " ++ encoded_line v

abbrev pub parameter_line : ParameterOf Letters → Letters
parameter_line (Parameter-F.ValueParameter v) = v
parameter_line (Parameter-F.TypeParameter ty) = ty
parameter_line (Parameter-F.InformationObjectParameter fields) = fields
parameter_line (Parameter-F.ObjectSetParameter set) = set_line set

-- in parentheses, behind a space
abbrev pub parenthesized : Letters → Letters
parenthesized text = codes " (" ++ text ++ codes ")"

abbrev pub table_line : Letters → List RelationalConstraint → Letters
table_line set relations = codes " (" ++ set ++ relations_text relations ++ codes ")"

abbrev pub arguments_line : List Letters → Letters
arguments_line ps = codes " " ++ listed ps

-- a constraint with the space before it
abbrev pub constraint_line : ConstraintOf Letters → Letters
constraint_line (Constraint-F.SubtypeConstraint s) = parenthesized (extended s.set s.extensible)
constraint_line (Constraint-F.TableConstraint t) = table_line (set_line t.object_set) t.linked_fields
constraint_line (Constraint-F.Parameter ps) = arguments_line ps
constraint_line (Constraint-F.ContentConstraint c) = parenthesized c
