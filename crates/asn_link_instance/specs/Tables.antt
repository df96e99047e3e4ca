-- The object set of a table constraint under bindings: a reference to a dummy becomes the members of its argument.
use Rattle.std.specs.Prelude.{ℕ, List, [], ◌∷◌, ◌++◌, length, take, Some, None, if◌then◌else◌}
use Rattle.std.specs.Str.{bytes_eq}
use Rattle.asn_tree.specs.declared.constraints.Parameter.{Parameter-F, out-Parameter}
use Rattle.asn_tree_headers.specs.declared.headers.ObjectIdentifierArc.{ObjectIdentifierArc}
use Rattle.asn_tree.specs.declared.objects.InformationObjectFields.{InformationObjectFields}
use Rattle.asn_tree_kinds.specs.declared.objects.ObjectSetValueOver.{ObjectSetValueOver}
use Rattle.asn_tree_kinds.specs.declared.objects.ObjectSetValueOver.TheVariants.{Reference, Inline}
use Rattle.asn_meaning.specs.Answers.{once}
use Rattle.asn_meaning.specs.Layers.{ParameterLayer}
use Rattle.asn_meaning.specs.Scopes.{Scope, Empty, Binds, LeavesOpen}
use Rattle.asn_meaning.specs.Written.{Written, ArcsWritten, as_written}
use Rattle.asn_link_instance.specs.Subjects.{TableLayer}

abbrev pub SetMember : Type 0
SetMember = ObjectSetValueOver InformationObjectFields

abbrev pub opened_one : (List ℕ → List SetMember) → SetMember → List SetMember
opened_one members (Reference name) = members name
opened_one members (Inline fields) = Inline fields ∷ []

-- each reference as its members, in order
abbrev pub opened : (List ℕ → List SetMember) → List SetMember → List SetMember
opened members [] = []
opened members (v ∷ vs) = opened_one members v ++ opened members vs

abbrev pub named_by : (List ℕ → List SetMember) → List ObjectIdentifierArc → List SetMember
named_by members (a ∷ []) = once [] a.name members
named_by members _ = []

-- a braced single name was read as an object identifier
abbrev pub value_members : (List ℕ → List SetMember) → Written → List SetMember
value_members members (ArcsWritten arcs) = named_by members arcs
value_members members _ = []

-- the members of a set argument
abbrev pub argument_members : (List ℕ → List SetMember) → ParameterLayer → List SetMember
argument_members members (Parameter-F.ObjectSetParameter set) = opened members set.values
argument_members members (Parameter-F.ValueParameter v) = value_members members (as_written v)
argument_members members _ = []

-- what a reference stands for: the members of a dummy's argument, in the argument's scope; another name stays
abbrev pub members_bound : Scope → List ℕ → List SetMember
members_bound Empty name = Reference name ∷ []
members_bound (Binds dummy governor argument scope others) name =
    if bytes_eq dummy name then argument_members (members_bound scope) (out-Parameter argument) else members_bound others name
members_bound (LeavesOpen dummy governor others) name = if bytes_eq dummy name then Reference name ∷ [] else members_bound others name

-- the set of a table; its marker rises by the members that are put in before it, and that of an argument falls away
abbrev pub table_opened : Scope → TableLayer → TableLayer
table_opened scope x =
    record x {
      object_set = record {
        values = opened (members_bound scope) x.object_set.values;
        extensible = once None x.object_set.extensible (λ number. Some (length (opened (members_bound scope) (take number x.object_set.values))));
      };
    }

-- where there are no dummies it stays
abbrev pub table_bound : Scope → TableLayer → TableLayer
table_bound Empty x = x
table_bound scope x = table_opened scope x
