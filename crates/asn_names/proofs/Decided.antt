-- Every tree is decided under the type of a definition of basic forms in which a type stands for each type reference, within steps
-- that the heights of names tell.
use Rattle.std.proofs.Common.{◌≡◌, ℕ, zero, suc, ◌+◌, ◌≤◌, List, [], ◌∷◌, Bool, true, false, Option, Some, None, refl, sym, ap, ◌∙◌, subst, arith}
use Rattle.std.specs.Prelude.{◌&&◌, ◌||◌, is_none, if◌then◌else◌}
use Rattle.std.specs.List.{All, Contains, list_all, list_any}
use Rattle.std.specs.Str.{bytes_eq}
use Rattle.std.proofs.lemmas.List.Elements.{All-head, All-tail, Contains-append_left, Contains-append_right}
use Rattle.asn_tree.specs.declared.constraints.Constraint.{Constraint}
use Rattle.asn_tree.specs.declared.definitions.ToplevelDefinition.{ToplevelDefinition}
use Rattle.asn_tree.specs.declared.definitions.ToplevelDefinition.TheVariants.{TypeDef, Value, Information}
use Rattle.asn_tree.specs.declared.definitions.ToplevelTypeDefinition.{ToplevelTypeDefinition}
use Rattle.asn_tree.specs.declared.types.ASN1Type.{ASN1Type, ASN1Type-F, out-ASN1Type}
use Rattle.asn_tree.specs.declared.types.SequenceOrSet.{out-SequenceOrSet}
use Rattle.asn_tree.specs.declared.types.SequenceOrSetMember.{SequenceOrSetMember, out-SequenceOrSetMember}
use Rattle.asn_tree_notation.specs.Types.{constraints_at}
use Rattle.asn_meaning.specs.Accepts.{place}
use Rattle.asn_meaning.specs.Answers.{Answer, Unknown, both, each, once}
use Rattle.asn_meaning.specs.Constraints.{all_hold}
use Rattle.asn_meaning.specs.Definitions.{type_named}
use Rattle.asn_meaning.specs.Judge.{characters_at, head_accepts, meaning, member_accepts, parts_accepted, stands_for, step}
use Rattle.asn_meaning.specs.Kinds.{Kind, ReferenceKind, kind_at}
use Rattle.asn_meaning.specs.Layers.{MemberLayer, ReferenceLayer, StructLayer}
use Rattle.asn_meaning.specs.Meaning.{Meaning, Member}
use Rattle.asn_meaning.specs.Members.{and_then, is_addition_at, member_names, members_from, put_in, written_member}
use Rattle.asn_meaning.specs.Names.{IsHead, LeadsTo, instance, lead, lead_at, leading, lists_in, reference_of}
use Rattle.asn_meaning.specs.Placed.{listed}
use Rattle.asn_meaning.specs.Ranges.{all_constraints, numbers_before}
use Rattle.asn_meaning.specs.Scopes.{Empty, bare}
use Rattle.asn_meaning.specs.Shapes.{fields_judged, is_of_kind, kind_or_parts, member_judged, struct_judged}
use Rattle.asn_meaning.specs.ValueTrees.{ValueTree, Struct, Fields, no_field, field, Elements, Alternative, are_among, field_named}
use Rattle.asn_tree.specs.Layers.{TypeLayer}
use Rattle.asn_needs.specs.Basic.{AreBasic, IsBasic, IsBasicDefinition, are_basic, basic_at, basic_member, basic_struct, has_no_names, is_basic}
use Rattle.asn_needs.specs.Needs.{HasEdge, HasHeight, above, NameHasHeight}
use Rattle.asn_needs.specs.Sites.{Seen, seen, Node, ToDefinition}
use Rattle.asn_names_index.specs.Definitions.{is_named}
use Rattle.asn_names.specs.Definitions.{Definitions, last_named, type_of}
use Rattle.asn_names.specs.Decided.{HasHeights, IsDecidedIn, IsYesOrNo, steps_of, steps_of_fields}
use Rattle.asn_names.specs.Faults.{HasTypes, is_missing, lacks_type}
use Rattle.asn_names.specs.Occurrences.{names_of, Reaches, occurs, goes_on}
use Rattle.asn_meaning_unchanged.specs.References.{names_in}
use Rattle.asn_names.proofs.HeadEdges.{head_edge, no_lists}
use Rattle.asn_names.proofs.Occurrences.{level_names, members_names, names_are, names_is}
use Rattle.asn_names_index.proofs.Seen.{or_else, type_is_last, type_is_seen}
use Rattle.asn_names.proofs.Settled.{AlwaysLeadsTo, IsAlwaysHead, IsThere, OwnBasic, Settled, all_known_from, answer_known, basic_append, before_further, before_head, both_known, both_true, settled_further, settled_head}

-- ---- definitions

-- what holds of all definitions holds of the last of a name
pub of_last : (P : ToplevelDefinition → Type 0) (ds : Definitions) → All P ds → (name : List ℕ) (d : ToplevelDefinition) → last_named ds name ≡ Some d → P d
of_last P [] all name d is = absurd cc
of_last P (x ∷ ds) all name d is = go (last_named ds name) (is_named name x) (λ h. of_last P ds (All-tail P x ds all) name d h) is
  where
    go : (o : Option ToplevelDefinition) (b : Bool) → (o ≡ Some d → P d) → or_else o (if b then Some x else None) ≡ Some d → P d
    go (Some y) b later h = later h
    go None true later h = let same : x ≡ d = cc in subst P same (All-head P x ds all)
    go None false later h = absurd cc

any_false : {A : Type 0} (f : A → Bool) (xs : List A) (x : A) → Contains xs x → list_any f xs ≡ false → f x ≡ false
any_false f [] x (k, lt, e) h = absurd (omega (arith, lt))
any_false f (y ∷ ys) x (zero, lt, e) h = go (f y) (list_any f ys) h (ap f (sym e))
  where
    go : (a b : Bool) → (a || b) ≡ false → f x ≡ a → f x ≡ false
    go false b h same = same
    go true b h same = absurd cc
any_false f (y ∷ ys) x (suc k, lt, e) h = any_false f ys x (k, omega (arith, lt), e) (go (f y) (list_any f ys) h)
  where
    go : (a b : Bool) → (a || b) ≡ false → b ≡ false
    go false b h = h
    go true b h = absurd cc

-- ---- members

none_named : (names : List (List ℕ)) → has_no_names names ≡ true → names ≡ []
none_named [] h = refl
none_named (name ∷ names) h = absurd cc

written_from : Option ℕ → ℕ → List SequenceOrSetMember → List Member
written_from marker number [] = []
written_from marker number (m ∷ ms) = written_member Empty marker number m ∷ written_from marker (suc number) ms

members_are : (M : Meaning) (x : StructLayer) → x.components_of ≡ [] → (number : ℕ) (ms : List SequenceOrSetMember) → members_from M Empty x number ms ≡ Some (written_from x.extensible number ms)
unfolding written_from
members_are M x none number [] = ap (λ ns. put_in M Empty number ns x.components_at) none
members_are M x none number (m ∷ ms) =
    ap (λ ns. and_then (put_in M Empty number ns x.components_at) (and_then (Some (written_member Empty x.extensible number m ∷ [])) (members_from M Empty x (suc number) ms))) none
    ∙ ap (λ o. and_then (Some []) (and_then (Some (written_member Empty x.extensible number m ∷ [])) o)) (members_are M x none (suc number) ms)

-- ---- what a reference leads to

abbrev is_reference : TypeLayer → Bool
is_reference (ASN1Type-F.ElsewhereDeclaredType x) = true
is_reference _ = false

module _ (defs : Definitions) where
  reference_leads : (x : ReferenceLayer) → x.parent ≡ None → are_basic x.constraints ≡ true → (e : ToplevelTypeDefinition) → type_named defs x.identifier ≡ Some e → e.parameterization ≡ None → (M : Meaning) → lead_at defs M Empty (ReferenceKind x) ≡ LeadsTo (bare Empty e.ty)
  reference_leads x parent basic e typed free M =
      ap (λ o. leading (reference_of defs Empty x o)) parent
      ∙ ap (λ o. leading (once None o (λ d. instance Empty d d.parameterization (lists_in x.constraints)))) typed
      ∙ ap (λ p. leading (instance Empty e p (lists_in x.constraints))) free
      ∙ ap (λ ls. leading (instance Empty e None ls)) (no_lists x.constraints basic)

  -- the type is known to be no name
  pub record IsHeadForm (ty : ASN1Type) : Type 0 where
    pub basic : IsBasic ty
    pub no_reference : is_reference (out-ASN1Type ty) ≡ false

  head_leads : (ty : ASN1Type) → IsHeadForm ty → IsAlwaysHead defs ty
  head_leads ty h M = go (out-ASN1Type ty) h.basic.0 h.basic.1 h.no_reference
    where
      at : (f : ASN1Type → Bool) (l : TypeLayer) → basic_at f l ≡ true → is_reference l ≡ false → lead_at defs M Empty (kind_at l) ≡ IsHead
      at f (ASN1Type-F.ASN1Type::Boolean x) b r = refl
      at f (ASN1Type-F.ASN1Type::Integer x) b r = refl
      at f (ASN1Type-F.Sequence x) b r = refl
      at f (ASN1Type-F.ElsewhereDeclaredType x) b r = absurd cc
      at f _ b r = absurd cc

      go : (l : TypeLayer) (n : ℕ) → is_basic n ty ≡ true → is_reference (out-ASN1Type ty) ≡ false → lead_at defs M Empty (kind_at (out-ASN1Type ty)) ≡ IsHead
      go l zero b r = absurd cc
      go l (suc n) b r = at (is_basic n) (out-ASN1Type ty) b r

  own_basic : (ty : ASN1Type) → IsBasic ty → OwnBasic defs ty
  own_basic ty (zero, b) = absurd cc
  own_basic ty (suc n, b) = at (out-ASN1Type ty) b
    where
      at : (l : TypeLayer) → basic_at (is_basic n) l ≡ true → are_basic (listed (constraints_at l)) ≡ true
      at (ASN1Type-F.ASN1Type::Boolean x) h = h
      at (ASN1Type-F.ASN1Type::Integer x) h = h
      at (ASN1Type-F.Sequence x) h =
          let s = out-SequenceOrSet x in
          let hs = both_true (has_no_names s.components_of) (list_all (λ m. basic_member (is_basic n) (out-SequenceOrSetMember m)) s.members && are_basic s.constraints) h in
          (both_true (list_all (λ m. basic_member (is_basic n) (out-SequenceOrSetMember m)) s.members) (are_basic s.constraints) hs.1).1
      at (ASN1Type-F.ElsewhereDeclaredType x) h = (both_true (is_none x.parent) (are_basic x.constraints) h).1
      at _ h = absurd cc

  -- A type that is no name, and of which this holds; or from which so many names are followed to one.
  pub data Leads (P : ASN1Type → Type 0) : ℕ → ASN1Type → Type 0 where
    stops : {ty : ASN1Type} → IsHeadForm ty → P ty → Leads P zero ty
    goes : {g : ℕ} {ty other : ASN1Type} → AlwaysLeadsTo defs ty other → IsBasic ty → Leads P g other → Leads P (suc g) ty

  settled : (P : ASN1Type → Type 0) {g : ℕ} {ty : ASN1Type} → Leads P g ty → Settled defs g ty
  settled P (stops {ty} h p) = settled_head defs ty (head_leads ty h) (own_basic ty h.basic)
  settled P (goes {g} {ty} {other} is b more) = settled_further defs g ty other is (own_basic ty b) (settled P more)

  -- ---- one step of the judge

  -- known once what it stands for and its head and numbers are
  judged : (k : ℕ) → 3 ≤ k → (ty : ASN1Type) (cs : List Constraint) (t : ValueTree) → IsBasic ty → are_basic cs ≡ true → IsYesOrNo (stands_for (meaning defs k) t (place Empty ty) (lead defs (meaning defs k) (place Empty ty))) → IsThere ((meaning defs k).head (place Empty ty)) → IsThere (numbers_before defs (meaning defs k) (place Empty ty)) → IsYesOrNo ((meaning defs (suc k)).accepts (place Empty ty) cs t)
  unfolding meaning step
  judged k h ty cs t b basic stands head before =
      let p = place Empty ty in
      let M = meaning defs k in
      both_known _ _ stands
      (subst (λ o. IsYesOrNo (once Unknown o (λ q. all_hold M Empty q (numbers_before defs M p) (all_constraints p cs) t))) (sym head.1)
      (all_known_from defs k h Empty head.0 (numbers_before defs M p) (all_constraints p cs) t (basic_append defs (listed (constraints_at (out-ASN1Type ty))) cs (own_basic ty b) basic) before))

-- ---- what a definition reaches in which a type stands for each type reference

module _ (defs : Definitions) (basic : AreBasic defs) (d : ToplevelDefinition) (types : HasTypes defs d) (h : ℕ) (heights : HasHeights defs h d) where
  -- a type stands for a name
  abbrev Typed : Option ToplevelTypeDefinition → Type 0
  Typed o = (e : ToplevelTypeDefinition) × (o ≡ Some e)

  is_typed : (o : Option ToplevelTypeDefinition) → is_none o ≡ false → Typed o
  is_typed None h = absurd cc
  is_typed (Some e) h = (e, refl)

  named_seen : (e : ToplevelDefinition) → lacks_type defs e ≡ false → (x : List ℕ) → Contains (names_of e) x → Typed (type_named defs x)
  named_seen e none x c = is_typed (type_named defs x) (any_false (is_missing defs) (names_of e) x c none)

  reached_seen : (x : List ℕ) → Reaches defs d x → Typed (type_named defs x)
  reached_seen x (occurs c) = named_seen d types.itself x c
  reached_seen x (goes_on {x = z} {e = e} r s c) = named_seen e (types.reached z e r s) x c

  basic_named : (x : List ℕ) (e : ToplevelTypeDefinition) → type_named defs x ≡ Some e → IsBasicDefinition (TypeDef e)
  basic_named x e is = of_last IsBasicDefinition defs basic x (TypeDef e) (type_is_last defs x e is)

  -- the definition reaches each of these names
  abbrev Within : List (List ℕ) → Type 0
  Within names = (x : List ℕ) → Contains names x → Reaches defs d x

  -- the names in the type of a name that is reached
  within_named : (x : List ℕ) → Reaches defs d x → (e : ToplevelTypeDefinition) → type_named defs x ≡ Some e → Within (level_names (out-ASN1Type e.ty))
  within_named x r e is n c =
      let b = (basic_named x e is).1 in
      goes_on r (type_is_seen defs x e is) (subst (λ ns. Contains ns n) (sym (names_are (TypeDef e) e.ty refl ∙ names_is b.0 e.ty b.1)) c)

  abbrev Inside : ASN1Type → Type 0
  Inside ty = Within (level_names (out-ASN1Type ty))

  -- at most so many names are followed from the type
  abbrev LeadsWithin : ℕ → ASN1Type → Type 0
  LeadsWithin g ty = (j : ℕ) × (j ≤ g) × Leads defs Inside j ty

  -- what has a height has an edge only to what has one below
  unrolled : (S : Seen) (g : ℕ) (x : Node) → HasHeight S g x → (k : ℕ) × (g ≡ suc k) × ((y : Node) → HasEdge S x y → HasHeight S k y)
  unrolled S g x (above {h = k} f) = (k, refl, f)

  no_parent : (o : Option (List ℕ)) → is_none o ≡ true → o ≡ None
  no_parent None h = refl
  no_parent (Some x) h = absurd cc

  -- what a type that is a name leads to
  name_leads : (ty : ASN1Type) (x : ReferenceLayer) → out-ASN1Type ty ≡ ASN1Type-F.ElsewhereDeclaredType x → x.parent ≡ None → are_basic x.constraints ≡ true → (e : ToplevelTypeDefinition) → type_named defs x.identifier ≡ Some e → AlwaysLeadsTo defs ty e.ty
  name_leads ty x is parent plain e typed M =
      ap (λ l. lead_at defs M Empty (kind_at l)) is ∙ reference_leads defs x parent plain e typed (basic_named x.identifier e typed).0 M

  -- the name that a type is
  name_in : (ty : ASN1Type) (x : ReferenceLayer) → out-ASN1Type ty ≡ ASN1Type-F.ElsewhereDeclaredType x → Inside ty → Reaches defs d x.identifier
  name_in ty x is inside = inside x.identifier (subst (λ l. Contains (level_names l) x.identifier) (sym is) (0, omega arith, refl))

  module _ (n : ℕ) where
    -- the type of the definition of a name whose height is known
    abbrev Follows : ℕ → List ℕ → Type 0
    Follows g x = HasHeight (seen defs (suc n)) g (ToDefinition x) → Reaches defs d x → (e : ToplevelTypeDefinition) → type_named defs x ≡ Some e → (j : ℕ) × (suc j ≤ g) × Leads defs Inside j e.ty

    one_further : (g : ℕ) (x : List ℕ) → ((y : List ℕ) → Follows g y) → Follows (suc g) x
    one_further g x more high r e typed = go (out-ASN1Type e.ty) refl (basic_named x e typed).1.0 (basic_named x e typed).1.1
      where
        inside : Inside e.ty
        inside = within_named x r e typed

        go : (l : TypeLayer) → out-ASN1Type e.ty ≡ l → (m : ℕ) → is_basic m e.ty ≡ true → (j : ℕ) × (suc j ≤ suc g) × Leads defs Inside j e.ty
        go l is zero b = absurd cc
        go (ASN1Type-F.ElsewhereDeclaredType y) is (suc m) b =
            let bs = both_true (is_none y.parent) (are_basic y.constraints) (ap (basic_at (is_basic m)) (sym is) ∙ b) in
            let parent = no_parent y.parent bs.0 in
            let r' = name_in e.ty y is inside in
            let s = reached_seen y.identifier r' in
            let edge = head_edge defs n x e y (type_is_last defs x e typed) (basic_named x e typed).0 (ap kind_at is) parent bs.1 s.0 s.1 in
            let down = unrolled (seen defs (suc n)) (suc g) (ToDefinition x) high in
            let same : down.0 ≡ g = omega (arith, down.1) in
            let next = more y.identifier (subst (λ i. HasHeight (seen defs (suc n)) i (ToDefinition y.identifier)) same (down.2 (ToDefinition y.identifier) edge)) r' s.0 s.1 in
            (suc next.0, omega (arith, next.1), goes (name_leads e.ty y is parent bs.1 s.0 s.1) (suc m, b) next.2)
        go l is (suc m) b = (zero, omega arith, stops (record { basic = (suc m, b); no_reference = ap is_reference is }) inside)

    follows : (g : ℕ) (x : List ℕ) → Follows g x
    follows zero x high r e typed = let down = unrolled (seen defs (suc n)) zero (ToDefinition x) high in absurd (omega (arith, down.1))
    follows (suc g) x high r e typed = one_further g x (λ y hy ry ey ty. follows g y hy ry ey ty) high r e typed

  -- the height of a name, within some number of steps that is not 0
  high_name : (x : List ℕ) → NameHasHeight defs h x → (n : ℕ) × HasHeight (seen defs (suc n)) h (ToDefinition x)
  high_name x (n, f) = let same : n + 1 ≡ suc n = omega arith in (n, subst (λ i. HasHeight (seen defs i) h (ToDefinition x)) same (f 1))

  -- at most as many names are followed from a type as the heights tell
  type_leads : (ty : ASN1Type) → IsBasic ty → Inside ty → (j : ℕ) × (j ≤ h) × Leads defs Inside j ty
  type_leads ty (m, b) inside = go (out-ASN1Type ty) refl m b
    where
      go : (l : TypeLayer) → out-ASN1Type ty ≡ l → (m : ℕ) → is_basic m ty ≡ true → (j : ℕ) × (j ≤ h) × Leads defs Inside j ty
      go l is zero b = absurd cc
      go (ASN1Type-F.ElsewhereDeclaredType x) is (suc m) b =
          let bs = both_true (is_none x.parent) (are_basic x.constraints) (ap (basic_at (is_basic m)) (sym is) ∙ b) in
          let r = name_in ty x is inside in
          let s = reached_seen x.identifier r in
          let high = high_name x.identifier (heights x.identifier r) in
          let next = follows high.0 h x.identifier high.1 r s.0 s.1 in
          (suc next.0, next.1, goes (name_leads ty x is (no_parent x.parent bs.0) bs.1 s.0 s.1) (suc m, b) next.2)
      go l is (suc m) b = (zero, omega arith, stops (record { basic = (suc m, b); no_reference = ap is_reference is }) inside)

  -- ---- trees

  abbrev TypeDecided : ValueTree → Type 0
  TypeDecided t =
      (ty : ASN1Type) → IsBasic ty → Inside ty → (cs : List Constraint) → are_basic cs ≡ true → (k : ℕ) → steps_of h t ≤ k → IsYesOrNo ((meaning defs k).accepts (place Empty ty) cs t)

  -- each field of a struct is decided under every type
  abbrev FieldsDecided : Fields → Type 0
  FieldsDecided fs = (name : List ℕ) (t : ValueTree) → field_named fs name ≡ Some t → TypeDecided t × (steps_of h t ≤ steps_of_fields h fs)

  abbrev Parts : ValueTree → Type 0
  Parts (Struct fs) = FieldsDecided fs
  Parts _ = Unit {0}

  -- the steps that the parts of a tree take
  abbrev parts_steps : ValueTree → ℕ
  parts_steps (Struct fs) = steps_of_fields h fs
  parts_steps _ = 0

  enough : (t : ValueTree) → parts_steps t + (h + 5) ≤ steps_of h t
  enough (Struct fs) = omega arith
  enough (Elements ts) = omega arith
  enough (Alternative name t) = omega arith
  enough _ = omega arith

  module _ (k : ℕ) (fs : Fields) (below : FieldsDecided fs) (le : steps_of_fields h fs ≤ k) (f : ℕ) where
    abbrev ask : Member → ValueTree → Answer
    ask = member_accepts (meaning defs k)

    member_known : (m : MemberLayer) (addition : Bool) → basic_member (is_basic f) m ≡ true → Within (names_in m.ty) → (o : Option ValueTree) → field_named fs m.name ≡ o → IsYesOrNo (member_judged ask (record { scope = Empty; written = m; is_addition = addition }) o)
    member_known m addition b within None e = answer_known _
    member_known m addition b within (Some u) e =
        let bs = both_true (is_basic f m.ty) (is_none m.default_value && are_basic m.constraints) b in
        let cs = (both_true (is_none m.default_value) (are_basic m.constraints) bs.1).1 in
        let u_known = below m.name u e in
        u_known.0 m.ty (f, bs.0) (λ n c. within n (subst (λ ns. Contains ns n) (sym (names_is f m.ty bs.0)) c)) m.constraints cs k (omega (arith, le, u_known.1))

    members_known : (marker : Option ℕ) (number : ℕ) (ms : List SequenceOrSetMember) → list_all (λ m. basic_member (is_basic f) (out-SequenceOrSetMember m)) ms ≡ true → Within (members_names ms) → IsYesOrNo (each (λ m. member_judged ask m (field_named fs m.written.name)) (written_from marker number ms))
    unfolding written_from
    members_known marker number [] b within = tt
    members_known marker number (m ∷ ms) b within =
        let x = out-SequenceOrSetMember m in
        let bs = both_true (basic_member (is_basic f) x) (list_all (λ m. basic_member (is_basic f) (out-SequenceOrSetMember m)) ms) b in
        both_known _ _
        (member_known x (is_addition_at marker number) bs.0 (λ n c. within n (Contains-append_left (names_in x.ty) (members_names ms) n c)) (field_named fs x.name) refl)
        (members_known marker (suc number) ms bs.1 (λ n c. within n (Contains-append_right (names_in x.ty) (members_names ms) n c)))

  -- the members of a SEQUENCE, after one step
  members_there : (x : StructLayer) → x.components_of ≡ [] → (k : ℕ) → (meaning defs (suc k)).members Empty x ≡ Some (written_from x.extensible 0 x.members)
  unfolding meaning step
  members_there x none k = members_are (meaning defs k) x none 0 x.members

  struct_known : (k : ℕ) (t : ValueTree) → Parts t → parts_steps t + 1 ≤ k → (f : ℕ) (x : StructLayer) → basic_struct (is_basic f) x ≡ true → Within (members_names x.members) → IsYesOrNo (struct_judged (member_accepts (meaning defs k)) ((meaning defs k).members Empty x) t)
  struct_known zero t parts le f x b within = absurd (omega (arith, le))
  struct_known (suc k) (Struct fs) parts le f x b within =
      let bs = both_true (has_no_names x.components_of) (list_all (λ m. basic_member (is_basic f) (out-SequenceOrSetMember m)) x.members && are_basic x.constraints) b in
      let cs = both_true (list_all (λ m. basic_member (is_basic f) (out-SequenceOrSetMember m)) x.members) (are_basic x.constraints) bs.1 in
      let ms = written_from x.extensible 0 x.members in
      subst (λ o. IsYesOrNo (once Unknown o (fields_judged (member_accepts (meaning defs (suc k))) fs))) (sym (members_there x (none_named x.components_of bs.0) k))
      (both_known _ _ (answer_known (are_among (member_names ms) fs)) (members_known (suc k) fs parts (omega (arith, le)) f x.extensible 0 x.members cs.0 within))
  struct_known (suc k) _ parts le f x b within = tt

  abbrev HeadAnswer : ℕ → ValueTree → Kind → Answer
  HeadAnswer k t kind = both (characters_at t kind) (kind_or_parts (is_of_kind kind) (parts_accepted (meaning defs k) Empty t kind) t)

  head_known : (k : ℕ) (t : ValueTree) → Parts t → parts_steps t + 1 ≤ k → (f : ℕ) (l : TypeLayer) → basic_at (is_basic f) l ≡ true → is_reference l ≡ false → Within (level_names l) → IsYesOrNo (HeadAnswer k t (kind_at l))
  head_known k t parts le f (ASN1Type-F.ASN1Type::Boolean x) b r within = answer_known _
  head_known k t parts le f (ASN1Type-F.ASN1Type::Integer x) b r within = answer_known _
  head_known k t parts le f (ASN1Type-F.Sequence x) b r within = struct_known k t parts le f (out-SequenceOrSet x) b within
  head_known k t parts le f (ASN1Type-F.ElsewhereDeclaredType x) b r within = absurd cc
  head_known k t parts le f _ b r within = absurd cc

  head_form_known : (k : ℕ) (t : ValueTree) → Parts t → parts_steps t + 1 ≤ k → (ty : ASN1Type) → IsHeadForm defs ty → Inside ty → IsYesOrNo (head_accepts (meaning defs k) t (place Empty ty))
  head_form_known k t parts le ty form inside = go form.basic.0 form.basic.1
    where
      go : (f : ℕ) → is_basic f ty ≡ true → IsYesOrNo (HeadAnswer k t (kind_at (out-ASN1Type ty)))
      go zero b = absurd cc
      go (suc f) b = head_known k t parts le f (out-ASN1Type ty) b form.no_reference inside

  leads_known : (t : ValueTree) → Parts t → {g : ℕ} {ty : ASN1Type} → Leads defs Inside g ty → (cs : List Constraint) → are_basic cs ≡ true → (k : ℕ) → parts_steps t + g + 5 ≤ k → IsYesOrNo ((meaning defs k).accepts (place Empty ty) cs t)
  leads_known t parts leads cs b zero le = absurd (omega (arith, le))
  leads_known t parts (stops {ty} form inside) cs b (suc k) le =
      let M = meaning defs k in
      let s = settled defs Inside (stops form inside) in
      judged defs k (omega (arith, le)) ty cs t form.basic b
      (subst (λ l. IsYesOrNo (stands_for M t (place Empty ty) l)) (sym (head_leads defs ty form M)) (head_form_known k t parts (omega (arith, le)) ty form inside))
      (s.head k (omega (arith, le)))
      (before_head defs ty (head_leads defs ty form) k)
  leads_known t parts (goes {g} {ty} {other} is basic_ty more) cs b (suc k) le =
      let M = meaning defs k in
      let s = settled defs Inside (goes is basic_ty more) in
      let t' = settled defs Inside more in
      judged defs k (omega (arith, le)) ty cs t basic_ty b
      (subst (λ l. IsYesOrNo (stands_for M t (place Empty ty) l)) (sym (is M)) (leads_known t parts more [] refl k (omega (arith, le))))
      (s.head k (omega (arith, le)))
      (before_further defs ty other is k (t'.numbers k [] refl (omega (arith, le))))

  type_decided : (t : ValueTree) → Parts t → TypeDecided t
  type_decided t parts ty b inside cs basic_cs k le =
      let leads = type_leads ty b inside in
      leads_known t parts leads.2 cs basic_cs k (omega (arith, le, leads.1, enough t))

  chosen : (b : Bool) (t u : ValueTree) (o : Option ValueTree) (n : ℕ) → TypeDecided t → (o ≡ Some u → TypeDecided u × (steps_of h u ≤ n)) → (if b then Some t else o) ≡ Some u → TypeDecided u × (steps_of h u ≤ steps_of h t + n)
  chosen true t u o n here later e = let same : t ≡ u = cc in subst (λ v. TypeDecided v × (steps_of h v ≤ steps_of h t + n)) same (here, omega arith)
  chosen false t u o n here later e = let l = later e in (l.0, omega (arith, l.1))

  mutual
    tree_decided : (t : ValueTree) → TypeDecided t
    tree_decided (Struct fs) = type_decided (Struct fs) (fields_decided fs)
    tree_decided t = type_decided t tt

    fields_decided : (fs : Fields) → FieldsDecided fs
    fields_decided no_field name u e = absurd cc
    fields_decided (field f t fs) name u e = chosen (bytes_eq f name) t u (field_named fs name) (steps_of_fields h fs) (tree_decided t) (fields_decided fs name u) e

  basic_type : IsBasicDefinition d → (ty : ASN1Type) → type_of d ≡ Some ty → IsBasic ty
  basic_type b ty is = go d b is
    where
      go : (e : ToplevelDefinition) → IsBasicDefinition e → type_of e ≡ Some ty → IsBasic ty
      go (TypeDef e) b is = let same : e.ty ≡ ty = cc in subst IsBasic same b.1
      go (Value e) b is = absurd b
      go (Information e) b is = absurd b

  pub every_decided : IsBasicDefinition d → (ty : ASN1Type) → type_of d ≡ Some ty → (t : ValueTree) → IsDecidedIn defs (steps_of h t) ty t
  every_decided b ty is t k le =
      let basic_ty = basic_type b ty is in
      tree_decided t ty basic_ty
      (λ n c. occurs (subst (λ ns. Contains ns n) (sym (names_are d ty is ∙ names_is basic_ty.0 ty basic_ty.1)) c)) [] refl k le
