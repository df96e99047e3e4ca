-- Members of object sets one by one, and what a scope binds a name to.
use Rattle.std.proofs.Common.{◌≡◌, ℕ, suc, ◌+◌, ◌<◌, ◌≤◌, List, [], ◌∷◌, ◌++◌, map, drop, length, get_or, Bool, true, false, if◌then◌else◌, Option, Some, None, append-nil, append_assoc, refl, sym, ap, ◌∙◌, arith}
use Rattle.std.specs.Str.{bytes_eq}
use Rattle.std.proofs.lemmas.List.{drop_more, drop_all, length-map, map-append}
use Rattle.asn_tree.specs.declared.constraints.Parameter.{out-Parameter}
use Rattle.asn_tree_headers.specs.declared.headers.ObjectIdentifierArc.{ObjectIdentifierArc}
use Rattle.asn_tree_kinds.specs.declared.objects.ObjectSetValueOver.TheVariants.{Reference}
use Rattle.asn_link_instance.specs.Tables.{SetMember, argument_members, members_bound, named_by, opened, opened_one, value_members}
use Rattle.asn_meaning.specs.Answers.{once}
use Rattle.asn_meaning.specs.Scopes.{Argument, Bound, Scope, Empty, Binds, LeavesOpen, bound_to}
use Rattle.asn_meaning.specs.Written.{Written, AllWritten, NullWritten, TruthWritten, NumberWritten, RealWritten, TextWritten, BitsWritten, BitNamesWritten, OctetsWritten, ArcsWritten, ItemWritten, NameWritten, BracesWritten, FieldsWritten, ElementsWritten, AlternativeWritten, NestedWritten}
use Rattle.asn_link_values.specs.Sets.{shown_set_member}
use Rattle.asn_link_values.specs.declared.tables.SetMember.{SetMember as LentMember}
use Rattle.asn_link_values.specs.inner.Binding.{arc_name, argument_bound, depth, name_in_braces}

-- ---- lists of members

pub one_more : (members : List LentMember) (member : LentMember) → map shown_set_member (members ++ member ∷ []) ≡ map shown_set_member members ++ shown_set_member member ∷ []
one_more members member = map-append shown_set_member members (member ∷ [])

pub nothing_more : (members : List SetMember) → members ≡ members ++ []
nothing_more members = sym (append-nil members)

pub member_next : (out more : List SetMember) (members : List ℕ → List SetMember) (vs : List SetMember) (i : ℕ) (v : SetMember) → i < length vs → v ≡ get_or vs i v →
    more ≡ out ++ opened_one members v → more ++ opened members (drop (i + 1) vs) ≡ out ++ opened members (drop i vs)
member_next out more members vs i v lt e f =
    ap (λ xs. xs ++ opened members (drop (i + 1) vs)) f
    ∙ append_assoc out (opened_one members v) (opened members (drop (i + 1) vs))
    ∙ sym (ap (λ xs. out ++ opened members xs) (drop_more vs i v lt ∙ ap (λ x. x ∷ drop (i + 1) vs) (sym e)))

pub members_done : (out : List SetMember) (members : List ℕ → List SetMember) (vs : List SetMember) (i : ℕ) → length vs ≤ i → out ++ opened members (drop i vs) ≡ out
members_done out members vs i le = ap (λ xs. out ++ opened members xs) (drop_all i vs le) ∙ append-nil out

pub as_many : (found : List LentMember) (members : List SetMember) → map shown_set_member found ≡ members → length found ≡ length members
as_many found members e = sym (length-map found shown_set_member) ∙ ap length e

-- ---- what a scope binds

pub bound_not : (scope : Scope) (name : List ℕ) → bound_to scope name ≡ None → argument_bound scope name ≡ None
bound_not scope name e = ap (λ o. once None o (λ b. b.argument)) e

pub bound_open : (scope : Scope) (name : List ℕ) (b : Bound) → bound_to scope name ≡ Some b → b.argument ≡ None → argument_bound scope name ≡ None
bound_open scope name b e f = ap (λ o. once None o (λ b. b.argument)) e ∙ f

pub bound_so : (scope : Scope) (name : List ℕ) (b : Bound) (a : Argument) → bound_to scope name ≡ Some b → b.argument ≡ Some a → argument_bound scope name ≡ Some a
bound_so scope name b a e f = ap (λ o. once None o (λ b. b.argument)) e ∙ f

deeper : (scope : Scope) (name : List ℕ) (a : Argument) → argument_bound scope name ≡ Some a → depth a.scope < depth scope
deeper Empty name a e = absurd cc
deeper (Binds dummy governor argument scope others) name a e = go (bytes_eq dummy name) e (deeper others name a)
  where
    go : (b : Bool) → once None (if b then Some (record { governor = governor; argument = Some (record { tree = argument; scope = scope }) }) else bound_to others name) (λ b. b.argument) ≡ Some a →
        (argument_bound others name ≡ Some a → depth a.scope < depth others) → depth a.scope < suc (depth scope + depth others)
    go true e less = let same : depth scope ≡ depth a.scope = ap (λ o. once 0 o (λ x. depth x.scope)) e in omega arith
    go false e less = let lt : depth a.scope < depth others = less e in omega arith
deeper (LeavesOpen dummy governor others) name a e = go (bytes_eq dummy name) e (deeper others name a)
  where
    go : (b : Bool) → once None (if b then Some (record { governor = governor; argument = None }) else bound_to others name) (λ b. b.argument) ≡ Some a →
        (argument_bound others name ≡ Some a → depth a.scope < depth others) → depth a.scope < depth others
    go true e less = absurd cc
    go false e less = less e

pub bound_deeper : (scope : Scope) (name : List ℕ) (b : Bound) (a : Argument) → bound_to scope name ≡ Some b → b.argument ≡ Some a → depth a.scope < depth scope
bound_deeper scope name b a e f = deeper scope name a (bound_so scope name b a e f)

-- what a name stands for, by the argument that it is bound to
abbrev pub by_argument : List ℕ → Option Argument → List SetMember
by_argument name None = Reference name ∷ []
by_argument name (Some a) = argument_members (members_bound a.scope) (out-Parameter a.tree)

members_by : (scope : Scope) (name : List ℕ) → members_bound scope name ≡ by_argument name (argument_bound scope name)
members_by Empty name = refl
members_by (Binds dummy governor argument scope others) name = go (bytes_eq dummy name) (members_by others name)
  where
    go : (b : Bool) → members_bound others name ≡ by_argument name (argument_bound others name) →
        (if b then argument_members (members_bound scope) (out-Parameter argument) else members_bound others name)
        ≡ by_argument name (once None (if b then Some (record { governor = governor; argument = Some (record { tree = argument; scope = scope }) }) else bound_to others name) (λ b. b.argument))
    go true e = refl
    go false e = e
members_by (LeavesOpen dummy governor others) name = go (bytes_eq dummy name) (members_by others name)
  where
    go : (b : Bool) → members_bound others name ≡ by_argument name (argument_bound others name) →
        (if b then Reference name ∷ [] else members_bound others name)
        ≡ by_argument name (once None (if b then Some (record { governor = governor; argument = None }) else bound_to others name) (λ b. b.argument))
    go true e = refl
    go false e = e

pub named : (scope : Scope) (name : List ℕ) → argument_bound scope name ≡ None → members_bound scope name ≡ Reference name ∷ []
named scope name e = members_by scope name ∙ ap (by_argument name) e

pub opens : (scope : Scope) (name : List ℕ) (a : Argument) → argument_bound scope name ≡ Some a → members_bound scope name ≡ argument_members (members_bound a.scope) (out-Parameter a.tree)
opens scope name a e = members_by scope name ∙ ap (by_argument name) e

-- ---- values in braces

by_arcs : (members : List ℕ → List SetMember) (arcs : List ObjectIdentifierArc) → named_by members arcs ≡ once [] (arc_name arcs) members
by_arcs members [] = refl
by_arcs members (a ∷ []) = refl
by_arcs members (a ∷ b ∷ arcs) = refl

by_name : (members : List ℕ → List SetMember) (w : Written) → value_members members w ≡ once [] (name_in_braces w) members
by_name members AllWritten = refl
by_name members NullWritten = refl
by_name members (TruthWritten b) = refl
by_name members (NumberWritten i) = refl
by_name members (RealWritten x) = refl
by_name members (TextWritten s) = refl
by_name members (BitsWritten bits) = refl
by_name members (BitNamesWritten names) = refl
by_name members (OctetsWritten octets) = refl
by_name members (ArcsWritten arcs) = by_arcs members arcs
by_name members (ItemWritten name) = refl
by_name members (NameWritten parent name) = refl
by_name members (BracesWritten items) = refl
by_name members (FieldsWritten fields) = refl
by_name members (ElementsWritten vs) = refl
by_name members (AlternativeWritten name v) = refl
by_name members (NestedWritten v) = refl

pub no_name : (out : List SetMember) (members : List ℕ → List SetMember) (w : Written) → name_in_braces w ≡ None → out ≡ out ++ value_members members w
no_name out members w e = sym (ap (λ xs. out ++ xs) (by_name members w ∙ ap (λ o. once [] o members) e) ∙ append-nil out)

pub one_name : (members : List ℕ → List SetMember) (w : Written) (name : List ℕ) → name_in_braces w ≡ Some name → value_members members w ≡ members name
one_name members w name e = by_name members w ∙ ap (λ o. once [] o members) e
