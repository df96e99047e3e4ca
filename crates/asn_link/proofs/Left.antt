-- A definition that linking leaves as it is, and with it each that it reaches, is clean.
use Rattle.std.proofs.Common.{◌≡◌, ℕ, zero, suc, ◌<◌, ◌⊎◌, inl, inr, Bool, true, false, Option, Some, None}
use Rattle.std.proofs.Common.{List, [], ◌∷◌, length, map, get_or, refl, sym, ap, ◌∙◌, subst, arith}
use Rattle.std.specs.Prelude.{Contains, if◌then◌else◌, ◌||◌, codes}
use Rattle.std.specs.Str.{bytes_eq}
use Rattle.std.proofs.lemmas.List.{get_or-map, length-map}
use Rattle.std.proofs.lemmas.List.Elements.{Contains-append_cases}
use Rattle.std.proofs.lemmas.Slice.Eq.{bytes_eq-Decides}
use Rattle.asn_tree.specs.Calls.{numbered}
use Rattle.asn_tree.specs.Tagging.{retagged_definition}
use Rattle.asn_tree.specs.declared.definitions.ToplevelDefinition.{ToplevelDefinition}
use Rattle.asn_tree.specs.declared.definitions.ToplevelDefinition.TheVariants.{TypeDef, Value, Information}
use Rattle.asn_tree.specs.declared.definitions.ToplevelTypeDefinition.{ToplevelTypeDefinition}
use Rattle.asn_meaning.specs.Answers.{once}
use Rattle.asn_meaning.specs.Definitions.{built_in, see, type_in, type_named}
use Rattle.asn_meaning_unchanged.specs.References.{names_of}
use Rattle.asn_meaning_unchanged.specs.Unchanged.{is_unchanged}
use Rattle.asn_names_graph.specs.Graphs.{Edges, HasEdge, Needs, at_once, further}
use Rattle.asn_names_graph.specs.Reach.{IsMarked, LeadsToMarked}
use Rattle.asn_names_index.specs.Definitions.{Definitions, last_named, name_of}
use Rattle.asn_names_graph.proofs.Ascending.{one_place}
use Rattle.asn_names_graph.proofs.Standing.{has_name, stands_for}
use Rattle.asn_link_closed.specs.StayingNames.{StayingName, staying_names}
use Rattle.asn_link_closed.specs.Closed.{are_open, has_field, is_open, left_in, plain_name, plain_names}
use Rattle.asn_link_closed.specs.Laws.{is_closed_name}
use Rattle.asn_link_closed.specs.OwnInstances.{UnchangedNamesAreReferences}
use Rattle.asn_link_all.specs.Linked.{AreLinkedTypes}
use Rattle.asn_link_all.specs.Made.{made_each, made_where, own_type}
use Rattle.asn_link_all.specs.Ways.{ways_of}
use Rattle.asn_link_all.specs.declared.ways.Way.{Way}
use Rattle.asn_link_all.specs.declared.ways.Way.TheVariants.{AsRead}
use Rattle.asn_link_all.proofs.Instances.{made_long}
use Rattle.asn_meaning_unchanged.specs.Retagged.{RetaggedNamesAreTheSame, RetaggedStay}
use Rattle.asn_names.specs.Definitions.{Module, definitions_of}
use Rattle.asn_names.specs.Faults.{IsLeft}
use Rattle.asn_names.specs.Given.{given_definitions, IsGiven}
use Rattle.asn_names.specs.Occurrences.{Reaches, goes_on, occurs}
use Rattle.asn_names.proofs.Given.{last_given}
use Rattle.asn_link.specs.Laws.{LeftAreClean}
use Rattle.asn_link.specs.Linked.{Linking, is_clean, most_in_circles, most_levels, most_steps}
use Rattle.asn_link.proofs.Long.{all_ways}
use Rattle.asn_link.proofs.Meaning.{open_at}

-- ---- lists

unlike : (b : Bool) → (b ≡ true → ⊥) → b ≡ false
unlike true f = absurd (f refl)
unlike false f = refl

-- a name at a place is closed as the definition there
closed_at : (names : List (List ℕ)) (closed : List Bool) (name : List ℕ) (x : ℕ) → length closed ≡ length names → x < length names →
    get_or names x [] ≡ name → ((i : ℕ) → i < x → get_or names i [] ≡ name → ⊥) → is_closed_name names closed name ≡ get_or closed x false
closed_at [] closed name x l h e others = absurd (omega (arith, h))
closed_at (n ∷ names) [] name x l h e others = absurd cc
closed_at (n ∷ names) (c ∷ closed) name zero l h e others =
    ap (λ b. if b then c else is_closed_name names closed name) ((bytes_eq-Decides n name).1 e)
closed_at (n ∷ names) (c ∷ closed) name (suc x) l h e others =
    ap (λ b. if b then c else is_closed_name names closed name) (unlike (bytes_eq n name) (λ t. others 0 (omega arith) ((bytes_eq-Decides n name).0 t)))
    ∙ closed_at names closed name x (omega (arith, l)) (omega (arith, h)) e (λ i k f. others (suc i) (omega (arith, k)) f)

-- what linking makes of the definition at a place
made_at : (defs : Definitions) (n k c : ℕ) (ds : Definitions) (ways : List Way) (x : ℕ) (d : ToplevelDefinition) → length ways ≡ length ds → x < length ds →
    get_or (made_each defs n k c ds ways) x None ≡ made_where defs n k c (get_or ds x d) (get_or ways x AsRead)
made_at defs n k c [] ways x d e h = absurd (omega (arith, h))
made_at defs n k c (y ∷ ds) [] x d e h = absurd cc
made_at defs n k c (y ∷ ds) (way ∷ ways) zero d e h = refl
made_at defs n k c (y ∷ ds) (way ∷ ways) (suc x) d e h = made_at defs n k c ds ways x d (omega (arith, e)) (omega (arith, h))

-- a name that stands alone is one of those that stay
one_plain : (xs : List StayingName) (name : List ℕ) → Contains (plain_names xs) name → (s : StayingName) × Contains xs s × (s.1 ≡ name)
one_plain [] name (k, lt, is) = absurd (omega (arith, lt))
one_plain (x ∷ xs) name c = go (one_plain xs name) (Contains-append_cases (plain_name x) (plain_names xs) name c)
  where
    here : (o : Option (List ℕ)) (n : List ℕ) → Contains (plain_name (o, n)) name → n ≡ name
    here None n (zero, lt, is) = is
    here None n (suc k, lt, is) = absurd (omega (arith, lt))
    here (Some object) n (k, lt, is) = absurd (omega (arith, lt))

    go : (Contains (plain_names xs) name → (s : StayingName) × Contains xs s × (s.1 ≡ name)) →
        Contains (plain_name x) name ⊎ Contains (plain_names xs) name → (s : StayingName) × Contains (x ∷ xs) s × (s.1 ≡ name)
    go later (inl p) = (x, (0, omega arith, refl), here x.0 x.1 p)
    go later (inr p) =
        let s = later p in
        let (k, lt, is) = s.1 in
        (s.0, (suc k, omega (arith, lt), is), s.2)

no_field : (xs : List StayingName) → ((s : StayingName) → Contains xs s → s.0 ≡ None) → has_field xs ≡ false
no_field [] h = refl
no_field (x ∷ xs) h =
    ap (λ o. elim o [ None ↦ false | Some object ↦ true ] || has_field xs) (h x (0, omega arith, refl))
    ∙ no_field xs (λ y c. h y (suc c.0, omega (arith, c.1), c.2))

-- ---- definitions

-- what linking leaves as it is is a type definition
a_type : (e : ToplevelDefinition) → is_unchanged e ≡ true → (y : ToplevelTypeDefinition) × (e ≡ TypeDef y)
unfolding is_unchanged
a_type (TypeDef y) s = (y, refl)
a_type (Value y) s = absurd cc
a_type (Information y) s = absurd cc

-- the built-in class is none
not_built_in : is_unchanged built_in ≡ true → ⊥
unfolding is_unchanged built_in
not_built_in s = absurd cc

numbered_stays : (home item : ℕ) (d : ToplevelDefinition) → is_unchanged (numbered home item d) ≡ is_unchanged d
unfolding is_unchanged
numbered_stays home item (TypeDef d) = refl
numbered_stays home item (Value d) = refl
numbered_stays home item (Information d) = refl

numbered_names : (home item : ℕ) (d : ToplevelDefinition) → names_of (numbered home item d) ≡ names_of d
unfolding names_of
numbered_names home item (TypeDef d) = refl
numbered_names home item (Value d) = refl
numbered_names home item (Information d) = refl

-- what linking leaves as it is keeps its type
keeps_type : (defs : Definitions) (n k c : ℕ) (e : ToplevelDefinition) (way : Way) → is_unchanged e ≡ true → made_where defs n k c e way ≡ own_type e
keeps_type defs n k c e way s = rw s refl

-- a name that stands for a type is that of a definition
last_type : (defs : Definitions) (name : List ℕ) (d : ToplevelTypeDefinition) → type_named defs name ≡ Some d → last_named defs name ≡ Some (TypeDef d)
unfolding built_in
last_type defs name d is = go (bytes_eq name (codes "TYPE-IDENTIFIER")) is
  where
    there : (o : Option ToplevelDefinition) → once None o type_in ≡ Some d → o ≡ Some (TypeDef d)
    there None h = absurd cc
    there (Some (TypeDef e)) h = cc
    there (Some (Value e)) h = absurd cc
    there (Some (Information e)) h = absurd cc

    go : (b : Bool) → once None (if b then Some built_in else last_named defs name) type_in ≡ Some d → last_named defs name ≡ Some (TypeDef d)
    go true h = absurd cc
    go false h = there (last_named defs name) h

-- ---- what a definition reaches

module _ (stay : RetaggedStay) (same_names : RetaggedNamesAreTheSame) (own : UnchangedNamesAreReferences) (reading : List Module)
    (l : Linking (given_definitions reading)) (d : ToplevelTypeDefinition) (left : IsLeft (definitions_of reading) (TypeDef d)) where
  abbrev defs : Definitions
  defs = definitions_of reading

  -- the definitions that linking is given
  abbrev all : Definitions
  all = given_definitions reading

  abbrev root : ToplevelDefinition
  root = TypeDef d

  abbrev ds : Definitions
  ds = l.standing

  abbrev names : List (List ℕ)
  names = map name_of ds

  abbrev name_at : ℕ → List ℕ
  name_at x = get_or names x []

  types : AreLinkedTypes all most_steps most_levels most_in_circles ds l.withheld l.made l.tags l.closed
  types = l.types

  abbrev graph : Edges
  graph = types.closed_so.graph

  abbrev marked : List Bool
  marked = are_open ds l.made

  long : length names ≡ length ds
  long = length-map ds name_of

  abbrev ways : List Way
  ways = ways_of types.free l.withheld

  ways_are_long : length ways ≡ length ds
  ways_are_long = all_ways types

  made_is_long : length l.made ≡ length ds
  made_is_long = ap length types.made_so ∙ made_long all most_steps most_levels most_in_circles ds ways ways_are_long

  closed_is_long : length l.closed ≡ length names
  closed_is_long =
      let f = types.closed_so.free.long in
      let g = types.closed_so.drawn.long in
      let m = length-map l.made left_in in
      omega (arith, f, g, m, made_is_long, long)

  -- the name at a place stands for the definition there
  stands : (x : ℕ) → x < length ds → last_named all (name_at x) ≡ Some (get_or ds x root)
  stands x h =
      sym (l.stand.each (name_at x)) ∙ ap (last_named ds) (get_or-map name_of ds x root [] h) ∙ stands_for ds x root l.stand.ascending h

  -- A place is left where linking leaves the definition there as it is, and the names in it are among those that are reached.
  record LeftAt (x : ℕ) : Type 0 where
    within : x < length ds
    type : ToplevelTypeDefinition
    there : get_or ds x root ≡ TypeDef type
    stays : is_unchanged (TypeDef type) ≡ true
    reached : (y : List ℕ) → Contains (names_of (TypeDef type)) y → Reaches defs root y

  -- so it is where it is left in the reading
  left_there : (x : ℕ) (e : ToplevelDefinition) → x < length ds → IsGiven (Some e) (Some (get_or ds x root)) → is_unchanged e ≡ true →
      ((y : List ℕ) → Contains (names_of e) y → Reaches defs root y) → LeftAt x
  left_there x e h (environment, home, item, is) s reaches =
      let retagged = retagged_definition environment e in
      let same : is_unchanged (get_or ds x root) ≡ is_unchanged e = ap is_unchanged is ∙ numbered_stays home item retagged ∙ stay environment e in
      let alike : names_of (get_or ds x root) ≡ names_of e = ap names_of is ∙ numbered_names home item retagged ∙ same_names environment e in
      let t = a_type (get_or ds x root) (same ∙ s) in
      record {
        within = h;
        type = t.0;
        there = t.1;
        stays = ap is_unchanged (sym t.1) ∙ same ∙ s;
        reached = λ y c. reaches y (subst (λ ns. Contains ns y) (ap names_of (sym t.1) ∙ alike) c);
      }

  -- what the name at a place sees: the built-in class where it is TYPE-IDENTIFIER, else the last definition of the name
  abbrev seen_if : ℕ → Bool → Option ToplevelDefinition
  seen_if x b = if b then Some built_in else last_named defs (name_at x)

  -- so it is where the name that stands there is reached
  left_reached : (x : ℕ) → x < length ds → Reaches defs root (name_at x) → LeftAt x
  left_reached x h r =
      go (last_named defs (name_at x)) refl (subst (IsGiven (last_named defs (name_at x))) (stands x h) (last_given reading (name_at x)))
    where
      at : (e : ToplevelDefinition) → last_named defs (name_at x) ≡ Some e → IsGiven (Some e) (Some (get_or ds x root)) →
          (b : Bool) → bytes_eq (name_at x) (codes "TYPE-IDENTIFIER") ≡ b → LeftAt x
      at e is g true t = absurd (not_built_in (left.reached (name_at x) built_in r (ap (seen_if x) t)))
      at e is g false t =
          let seen : see defs (name_at x) ≡ Some e = ap (seen_if x) t ∙ is in
          left_there x e h g (left.reached (name_at x) e r seen) (λ y c. goes_on r seen c)

      go : (o : Option ToplevelDefinition) → last_named defs (name_at x) ≡ o → IsGiven (last_named defs (name_at x)) (Some (get_or ds x root)) → LeftAt x
      go None is g = absurd (subst (λ o. IsGiven o (Some (get_or ds x root))) is g)
      go (Some e) is g = at e is (subst (λ o. IsGiven o (Some (get_or ds x root))) is g) (bytes_eq (name_at x) (codes "TYPE-IDENTIFIER")) refl

  -- its type is what was made
  type_made : (x : ℕ) (f : LeftAt x) → get_or l.made x None ≡ Some f.type.ty
  type_made x f =
      ap (λ m. get_or m x None) types.made_so
      ∙ made_at all most_steps most_levels most_in_circles ds ways x root ways_are_long f.within
      ∙ ap (λ e. made_where all most_steps most_levels most_in_circles e (get_or ways x AsRead)) f.there
      ∙ keeps_type all most_steps most_levels most_in_circles (TypeDef f.type) (get_or ways x AsRead) f.stays

  -- it is not open
  not_marked : (x : ℕ) → LeftAt x → IsMarked marked x → ⊥
  not_marked x f m =
      let closed : get_or marked x false ≡ false =
      open_at ds l.made x root made_is_long f.within
      ∙ ap (λ y. is_open y (get_or l.made x None)) f.there
      ∙ ap (is_open (TypeDef f.type)) (type_made x f)
      ∙ no_field (staying_names f.type.ty) (λ s c. (own f.type f.stays s c).0) in
      absurd cc

  -- an edge from it leads to one that is left
  edge_left : (x y : ℕ) → LeftAt x → HasEdge graph x y → LeftAt y
  edge_left x y f e =
      let mention = (types.closed_so.drawn.edges x y).0 e in
      let here : get_or (map left_in l.made) x [] ≡ plain_names (staying_names f.type.ty) =
      get_or-map left_in l.made x None [] (let h = f.within in omega (arith, h, made_is_long)) ∙ ap left_in (type_made x f) in
      let s = one_plain (staying_names f.type.ty) (name_at y) (subst (λ ns. Contains ns (name_at y)) here mention.among) in
      let among : Contains (names_of (TypeDef f.type)) (name_at y) = subst (Contains (names_of (TypeDef f.type))) s.2 (own f.type f.stays s.0 s.1).1 in
      left_reached y (let h = mention.within in omega (arith, h, long)) (f.reached (name_at y) among)

  needs_left : {x y : ℕ} → LeftAt x → Needs graph x y → LeftAt y
  needs_left f (at_once e) = edge_left _ _ f e
  needs_left f (further n e) = edge_left _ _ (needs_left f n) e

  leads_to_none : (x : ℕ) → LeftAt x → LeadsToMarked graph marked x → ⊥
  leads_to_none x f (inl m) = not_marked x f m
  leads_to_none x f (inr (y, n, m)) = not_marked y (needs_left f n) m

  only_there : (x : ℕ) → x < length names → (i : ℕ) → i < x → name_at i ≡ name_at x → ⊥
  only_there x h i k e =
      let same : i ≡ x = one_place names i x l.stand.ascending (omega (arith, k, h)) h e in
      absurd (omega (arith, same, k))

  clean_at : (x : ℕ) → LeftAt x → is_clean l (name_at x) ≡ true
  clean_at x f =
      let h : x < length names = (let k = f.within in omega (arith, k, long)) in
      closed_at names l.closed (name_at x) x closed_is_long h refl (only_there x h)
      ∙ (types.closed_so.free.each x (omega (arith, h, closed_is_long))).1 (leads_to_none x f)

  -- the definition itself stands at such a place
  clean : (name : List ℕ) → type_named defs name ≡ Some d → is_clean l name ≡ true
  clean name is = go (last_named all name) refl (subst (λ o. IsGiven o (last_named all name)) (last_type defs name d is) (last_given reading name))
    where
      go : (o : Option ToplevelDefinition) → last_named all name ≡ o → IsGiven (Some root) (last_named all name) → is_clean l name ≡ true
      go None e g = absurd (subst (IsGiven (Some root)) e g)
      go (Some y) e g =
          let p = has_name ds name y (l.stand.each name ∙ e) in
          let at : name_at p.place ≡ name = get_or-map name_of ds p.place y [] p.within ∙ ap name_of p.there ∙ p.named in
          let found : last_named all name ≡ Some (get_or ds p.place root) = ap (last_named all) (sym at) ∙ stands p.place p.within in
          let given = subst (IsGiven (Some root)) found g in
          subst (λ n. is_clean l n ≡ true) at (clean_at p.place (left_there p.place root p.within given left.itself (λ m c. occurs c)))

pub left_are_clean : RetaggedStay → RetaggedNamesAreTheSame → UnchangedNamesAreReferences → LeftAreClean
left_are_clean stay same_names own reading l name d is left = clean stay same_names own reading l d left name is
