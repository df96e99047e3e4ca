-- The edge from a definition of basic form to the name that its type is.
use Rattle.std.proofs.Common.{◌≡◌, ℕ, suc, List, [], ◌∷◌, ◌++◌, Bool, true, false, Option, Some, None, refl, sym, ap, ◌∙◌, subst, arith}
use Rattle.std.specs.Prelude.{◌&&◌, is_none, is_some, not, codes, if◌then◌else◌}
use Rattle.std.specs.List.{Contains}
use Rattle.std.specs.Str.{bytes_eq}
use Rattle.std.proofs.lemmas.List.Elements.{Contains-append_left, Contains-append_right}
use Rattle.std.proofs.lemmas.Slice.Eq.{bytes_eq-Decides}
use Rattle.asn_tree.specs.declared.constraints.Constraint.{Constraint, Constraint-F, out-Constraint}
use Rattle.asn_tree.specs.declared.definitions.Parameterization.{Parameterization}
use Rattle.asn_tree.specs.declared.definitions.ToplevelDefinition.{ToplevelDefinition}
use Rattle.asn_tree.specs.declared.definitions.ToplevelDefinition.TheVariants.{TypeDef, Value, Information}
use Rattle.asn_tree.specs.declared.definitions.ToplevelTypeDefinition.{ToplevelTypeDefinition}
use Rattle.asn_meaning.specs.Answers.{once}
use Rattle.asn_meaning.specs.Definitions.{built_in, type_in, type_named}
use Rattle.asn_meaning.specs.Kinds.{Kind, ReferenceKind, kind_of_type}
use Rattle.asn_meaning.specs.Layers.{ConstraintLayer, ReferenceLayer}
use Rattle.asn_meaning.specs.Names.{lead, list_at, lists_in}
use Rattle.asn_meaning.specs.Accepts.{place}
use Rattle.asn_meaning.specs.Judge.{meaning}
use Rattle.asn_meaning.specs.Scopes.{Empty}
use Rattle.asn_needs.specs.Basic.{are_basic, basic_constraint}
use Rattle.asn_needs.specs.Dummies.{filled, next_place}
use Rattle.asn_needs.specs.Edges.{arrival, edges_at, form_edges, is_arrived_at, is_own_edge, name_there}
use Rattle.asn_needs.specs.Followed.{to_name}
use Rattle.asn_needs.specs.Needs.{HasEdge, IsNode, nodes, nodes_in}
use Rattle.asn_needs.specs.Sites.{Seen, seen, Site, AtHead, AType, Node, ToDefinition}
use Rattle.asn_needs.specs.Stands.{at_first, dummies_of, first_sites, node_sites, outermost}
use Rattle.asn_names_index.specs.Definitions.{Definitions, is_named, last_named, name_of}
use Rattle.asn_names_index.proofs.Seen.{or_else, type_is_last}
use Rattle.asn_names.proofs.Settled.{both_true}

-- ---- no argument lists

pub no_lists : (cs : List Constraint) → are_basic cs ≡ true → lists_in cs ≡ []
no_lists [] h = refl
no_lists (c ∷ cs) h =
    let hs = both_true (basic_constraint (out-Constraint c)) (are_basic cs) h in
    go (out-Constraint c) hs.0 (no_lists cs hs.1)
  where
    go : (l : ConstraintLayer) → basic_constraint l ≡ true → lists_in cs ≡ [] → list_at l (lists_in cs) ≡ []
    go (Constraint-F.SubtypeConstraint s) g others = others
    go (Constraint-F.TableConstraint s) g others = absurd cc
    go (Constraint-F.Parameter s) g others = absurd cc
    go (Constraint-F.ContentConstraint s) g others = absurd cc

-- ---- nodes

in_first : (d : ToplevelDefinition) (others : List Node) → Contains (nodes_in d ++ others) (ToDefinition (name_of d))
in_first (TypeDef d) others = (0, omega arith, refl)
in_first (Value d) others = (0, omega arith, refl)
in_first (Information d) others = (0, omega arith, refl)

-- the definition that stands for a name is a node
pub is_node : (ds : Definitions) (name : List ℕ) (d : ToplevelDefinition) → last_named ds name ≡ Some d → IsNode ds (ToDefinition name)
is_node [] name d is = absurd cc
is_node (x ∷ ds) name d is = go (last_named ds name) refl (λ e h. is_node ds name e h) is
  where
    here : (b : Bool) → is_named name x ≡ b → (if b then Some x else None) ≡ Some d → IsNode (x ∷ ds) (ToDefinition name)
    here false e h = absurd cc
    here true e h = subst (λ n. Contains (nodes_in x ++ nodes ds) (ToDefinition n)) ((bytes_eq-Decides (name_of x) name).0 e) (in_first x (nodes ds))

    go : (o : Option ToplevelDefinition) → last_named ds name ≡ o → ((e : ToplevelDefinition) → last_named ds name ≡ Some e → IsNode ds (ToDefinition name)) → or_else o (if is_named name x then Some x else None) ≡ Some d → IsNode (x ∷ ds) (ToDefinition name)
    go None e later h = here (is_named name x) refl h
    go (Some y) e later h = Contains-append_right (nodes_in x) (nodes ds) (ToDefinition name) (later y e)

-- ---- the edge to a name that stands for a type

-- a name that stands for a type is followed
to_type : (defs : Definitions) (name : List ℕ) (e : ToplevelTypeDefinition) → type_named defs name ≡ Some e → Contains (to_name defs name) (ToDefinition name)
unfolding built_in
to_type defs name e is = go (bytes_eq name (codes "TYPE-IDENTIFIER")) is
  where
    there : (o : Option ToplevelDefinition) → once None o type_in ≡ Some e → Contains (if is_some o then ToDefinition name ∷ [] else []) (ToDefinition name)
    there None h = absurd cc
    there (Some d) h = (0, omega arith, refl)

    go : (b : Bool) → once None (if b then Some built_in else last_named defs name) type_in ≡ Some e → Contains (if b then [] else if is_some (last_named defs name) then ToDefinition name ∷ [] else []) (ToDefinition name)
    go true h = absurd cc
    go false h = there (last_named defs name) h

module _ (defs : Definitions) (n : ℕ) where
  abbrev S : Seen
  S = seen defs (suc n)

  -- the outermost place of a type definition
  abbrev pub first_site : ToplevelTypeDefinition → Site
  first_site d = outermost d.parameterization (AType AtHead d.ty [])

  is_first : (name : List ℕ) (d : ToplevelTypeDefinition) → last_named defs name ≡ Some (TypeDef d) → Contains (node_sites defs (ToDefinition name)) (first_site d)
  is_first name d is = subst (λ o. Contains (once [] o (first_sites defs)) (first_site d)) (sym is) (0, omega arith, refl)

  own_edge : (x : ReferenceLayer) → x.parent ≡ None → lists_in x.constraints ≡ [] → is_own_edge Empty (ReferenceKind x) ≡ false
  own_edge x parent lists =
      ap (λ o. is_none o && (not false && elim (lists_in x.constraints) [ [] ↦ false | a ∷ others ↦ true ])) parent
      ∙ ap (λ ls. elim ls [ [] ↦ false | a ∷ others ↦ true ]) lists

  -- the name at the head is followed, whatever else is
  name_leads : (x : ReferenceLayer) → x.parent ≡ None → are_basic x.constraints ≡ true → (e : ToplevelTypeDefinition) → type_named defs x.identifier ≡ Some e → (before others : List Node) → Contains (before ++ (if true && not (is_own_edge Empty (ReferenceKind x)) then (if is_none x.parent then to_name defs x.identifier else []) ++ others else [])) (ToDefinition x.identifier)
  name_leads x parent basic e typed before others =
      subst (λ b. Contains (before ++ (if true && not b then (if is_none x.parent then to_name defs x.identifier else []) ++ others else [])) (ToDefinition x.identifier)) (sym (own_edge x parent (no_lists x.constraints basic)))
      (subst (λ o. Contains (before ++ ((if is_none o then to_name defs x.identifier else []) ++ others)) (ToDefinition x.identifier)) (sym parent)
      (Contains-append_right before (to_name defs x.identifier ++ others) (ToDefinition x.identifier)
      (Contains-append_left (to_name defs x.identifier) others (ToDefinition x.identifier) (to_type defs x.identifier e typed))))

  -- what is followed behind the name
  abbrev behind : ToplevelTypeDefinition → List Node
  behind d =
      let p = place (filled Empty (dummies_of d.parameterization) []) d.ty in
      if is_arrived_at p.scope (kind_of_type d.ty) then [] else once [] (next_place (lead defs (meaning defs (suc n)) p)) (arrival S n)

  abbrev followed : Option Parameterization → Kind → List Node → List Node
  followed o k others =
      let scope = filled Empty (dummies_of o) [] in
      form_edges S scope k ++ (if true && not (is_own_edge scope k) then name_there defs scope k ++ others else [])

  head_leads : (d : ToplevelTypeDefinition) (x : ReferenceLayer) → d.parameterization ≡ None → kind_of_type d.ty ≡ ReferenceKind x → x.parent ≡ None → are_basic x.constraints ≡ true → (e : ToplevelTypeDefinition) → type_named defs x.identifier ≡ Some e → Contains (edges_at S (first_site d)) (ToDefinition x.identifier)
  head_leads d x free kind parent basic e typed =
      subst (λ o. Contains (followed o (kind_of_type d.ty) (behind d)) (ToDefinition x.identifier)) (sym free)
      (subst (λ k. Contains (followed None k (behind d)) (ToDefinition x.identifier)) (sym kind)
      (name_leads x parent basic e typed (form_edges S Empty (ReferenceKind x)) (behind d)))

  -- A definition whose type is a name needs what the name stands for.
  pub head_edge : (name : List ℕ) (d : ToplevelTypeDefinition) (x : ReferenceLayer) → last_named defs name ≡ Some (TypeDef d) → d.parameterization ≡ None → kind_of_type d.ty ≡ ReferenceKind x → x.parent ≡ None → are_basic x.constraints ≡ true → (e : ToplevelTypeDefinition) → type_named defs x.identifier ≡ Some e → HasEdge S (ToDefinition name) (ToDefinition x.identifier)
  head_edge name d x is free kind parent basic e typed =
      record {
        at = first_site d;
        stands = at_first (is_first name d is);
        leads = head_leads d x free kind parent basic e typed;
        is_node = is_node defs x.identifier (TypeDef e) (type_is_last defs x.identifier e typed);
      }
