-- Names are closed that have no definition, or a closed one.
use Rattle.std.proofs.Common.{◌≡◌, ℕ, zero, suc, ◌+◌, ◌<◌, inl, inr, Bool, true, false, Option, Some, None, List, [], ◌∷◌, length, map, get_or, refl, sym, ap, ◌∙◌, subst, arith}
use Rattle.std.specs.Prelude.{Contains, is_some, if◌then◌else◌, ◌||◌, ◌&&◌, codes}
use Rattle.std.specs.List.{AllZip, list_all, list_any}
use Rattle.std.specs.Str.{bytes_eq}
use Rattle.std.proofs.lemmas.List.{get_or-map, length-map}
use Rattle.std.proofs.lemmas.List.Elements.{Contains-append_left, Contains-append_right}
use Rattle.std.proofs.lemmas.Slice.Eq.{bytes_eq-Decides}
use Rattle.asn_tree.specs.declared.definitions.ToplevelDefinition.{ToplevelDefinition}
use Rattle.asn_tree.specs.declared.definitions.ToplevelDefinition.TheVariants.{TypeDef, Value, Information}
use Rattle.asn_tree.specs.declared.definitions.ToplevelTypeDefinition.{ToplevelTypeDefinition}
use Rattle.asn_tree.specs.declared.types.ASN1Type.{ASN1Type}
use Rattle.asn_meaning.specs.Answers.{once}
use Rattle.asn_meaning.specs.Definitions.{built_in, type_in, type_named}
use Rattle.asn_names_graph.specs.Graphs.{Edges, HasEdge, Needs, at_once, further}
use Rattle.asn_names_graph.specs.Reach.{LeadsToMarked}
use Rattle.asn_names_index.specs.Definitions.{Definitions, IsStanding, last_named, name_of}
use Rattle.asn_link_instance.specs.Closed.{AreClosed as NamesAreClosed, LinkedDefinition}
use Rattle.asn_link_instance.specs.Staying.{Names, NamesStay}
use Rattle.asn_names_graph.proofs.Ascending.{one_place}
use Rattle.asn_names_graph.proofs.Standing.{has_name, stands_for}
use Rattle.asn_link_closed.specs.Staying.{NamesThatStay}
use Rattle.asn_link_closed.specs.StayingNames.{StayingName, may_stay, staying_names}
use Rattle.asn_link_closed.specs.Closed.{are_open, AreClosed, has_field, is_field, is_left_open, is_open, left_in, plain_name, plain_names}
use Rattle.asn_link_closed.specs.Laws.{AreLinked, closed_names, ClosedDefinitionsClose, is_closed_name, IsLinked, IsMade}

abbrev Made : Type 0
Made = List (Option ASN1Type)

same_some : {A : Type 0} (x y : A) → Some x ≡ Some y → x ≡ y
same_some x y h = cc

no_some : {A : Type 0} (x : A) → None ≡ Some x → ⊥
no_some x h = absurd cc

-- ---- truth values

unlike : (b : Bool) → (b ≡ true → ⊥) → b ≡ false
unlike true f = absurd (f refl)
unlike false f = refl

neither : (a b : Bool) → (a || b) ≡ false → (a ≡ false) × (b ≡ false)
neither false b e = (refl, e)
neither true b e = absurd cc

-- ---- lists

zip_at : {A B : Type 0} (R : A → B → Type 0) (xs : List A) (ys : List B) (i : ℕ) (a : A) (b : B) → AllZip R xs ys → i < length xs → R (get_or xs i a) (get_or ys i b)
zip_at R [] ys i a b all h = absurd (omega (arith, h))
zip_at R (x ∷ xs) [] i a b all h = absurd all
zip_at R (x ∷ xs) (y ∷ ys) zero a b all h = all.0
zip_at R (x ∷ xs) (y ∷ ys) (suc i) a b all h = zip_at R xs ys i a b all.1 (omega (arith, h))

-- whether a definition at a place is open
open_at : (ds : Definitions) (made : Made) (x : ℕ) (d : ToplevelDefinition) → length ds ≡ length made → x < length ds →
    get_or (are_open ds made) x false ≡ is_open (get_or ds x d) (get_or made x None)
open_at [] made x d e h = absurd (omega (arith, h))
open_at (y ∷ ds) [] x d e h = absurd cc
open_at (y ∷ ds) (m ∷ made) zero d e h = refl
open_at (y ∷ ds) (m ∷ made) (suc x) d e h = open_at ds made x d (omega (arith, e)) (omega (arith, h))

-- a name that is among no names is closed; one at a place is as the definition there
closed_at : (names : List (List ℕ)) (closed : List Bool) (name : List ℕ) (x : ℕ) → length closed ≡ length names → x < length names → get_or names x [] ≡ name →
    ((i : ℕ) → i < x → get_or names i [] ≡ name → ⊥) → is_closed_name names closed name ≡ get_or closed x false
closed_at [] closed name x l h e others = absurd (omega (arith, h))
closed_at (n ∷ names) [] name x l h e others = absurd cc
closed_at (n ∷ names) (c ∷ closed) name zero l h e others = ap (λ b. if b then c else is_closed_name names closed name) ((bytes_eq-Decides n name).1 e)
closed_at (n ∷ names) (c ∷ closed) name (suc x) l h e others =
    ap (λ b. if b then c else is_closed_name names closed name) (unlike (bytes_eq n name) (λ t. others 0 (omega arith) ((bytes_eq-Decides n name).0 t)))
    ∙ closed_at names closed name x (omega (arith, l)) (omega (arith, h)) e (λ i k f. others (suc i) (omega (arith, k)) f)

closed_elsewhere : (names : List (List ℕ)) (closed : List Bool) (name : List ℕ) → ((i : ℕ) → i < length names → get_or names i [] ≡ name → ⊥) → is_closed_name names closed name ≡ true
closed_elsewhere [] closed name none = refl
closed_elsewhere (n ∷ names) [] name none = refl
closed_elsewhere (n ∷ names) (c ∷ closed) name none =
    ap (λ b. if b then c else is_closed_name names closed name) (unlike (bytes_eq n name) (λ t. none 0 (omega arith) ((bytes_eq-Decides n name).0 t)))
    ∙ closed_elsewhere names closed name (λ i h e. none (suc i) (omega (arith, h)) e)

-- what holds of all of a list
all_true : {A : Type 0} (f : A → Bool) (xs : List A) → ((x : A) → Contains xs x → f x ≡ true) → list_all f xs ≡ true
all_true f [] h = refl
all_true f (x ∷ xs) h = ap (λ b. b && list_all f xs) (h x (0, omega arith, refl)) ∙ all_true f xs (λ y c. h y (suc c.0, omega (arith, c.1), c.2))

-- what holds of none of a list
none_true : {A : Type 0} (f : A → Bool) (xs : List A) (x : A) → list_any f xs ≡ false → Contains xs x → f x ≡ false
none_true f [] x e (k, lt, is) = absurd (omega (arith, lt))
none_true f (y ∷ xs) x e (zero, lt, is) = ap f (sym is) ∙ (neither (f y) (list_any f xs) e).0
none_true f (y ∷ xs) x e (suc k, lt, is) = none_true f xs x (neither (f y) (list_any f xs) e).1 (k, omega (arith, lt), is)

plain_there : (xs : List StayingName) (x : StayingName) (name : List ℕ) → Contains xs x → plain_name x ≡ name ∷ [] → Contains (plain_names xs) name
plain_there [] x name (k, lt, is) e = absurd (omega (arith, lt))
plain_there (y ∷ xs) x name (zero, lt, is) e =
    Contains-append_left (plain_name y) (plain_names xs) name (subst (λ ns. Contains ns name) (sym (ap plain_name is ∙ e)) (0, omega arith, refl))
plain_there (y ∷ xs) x name (suc k, lt, is) e = Contains-append_right (plain_name y) (plain_names xs) name (plain_there xs x name (k, omega (arith, lt), is) e)

-- what leads to a node that leads to a marked one leads to a marked one
led_on : (g : Edges) (marked : List Bool) (x y : ℕ) → HasEdge g x y → LeadsToMarked g marked y → LeadsToMarked g marked x
led_on g marked x y e (inl m) = inr (y, at_once e, m)
led_on g marked x y e (inr (z, n, m)) = inr (z, joined n, m)
  where
    joined : {z : ℕ} → Needs g y z → Needs g x z
    joined (at_once f) = further (at_once e) f
    joined (further n f) = further (joined n) f

module _ (stay : NamesThatStay) (defs others ds : Definitions) (made : Made) (closed : List Bool) (n k : ℕ) (standing : IsStanding defs ds) (all : AllZip (IsMade defs n k) ds made)
    (are : AreClosed ds made closed) (linked : AreLinked defs others ds made closed) where
  abbrev names : List (List ℕ)
  names = map name_of ds

  abbrev keeps : Names
  keeps = closed_names names closed

  long : length names ≡ length ds
  long = length-map ds name_of

  zipped_long : {A B : Type 0} (R : A → B → Type 0) (xs : List A) (ys : List B) → AllZip R xs ys → length xs ≡ length ys
  zipped_long R [] [] a = refl
  zipped_long R [] (y ∷ ys) a = absurd a
  zipped_long R (x ∷ xs) [] a = absurd a
  zipped_long R (x ∷ xs) (y ∷ ys) a = ap suc (zipped_long R xs ys a.1)

  made_long : length ds ≡ length made
  made_long = zipped_long (IsMade defs n k) ds made all

  closed_long : length closed ≡ length names
  closed_long =
      let f : length closed + 1 ≡ length are.graph.starts = are.free.long in
      let d : length are.graph.starts ≡ length (map left_in made) + 1 = are.drawn.long in
      let m : length (map left_in made) ≡ length made = length-map made left_in in
      omega (arith, f, d, m, made_long, long)

  -- the place of a name that has a definition
  record Placed (name : List ℕ) (d : ToplevelDefinition) : Type 0 where
    place : ℕ
    within : place < length ds
    there : get_or ds place d ≡ d
    at : get_or names place [] ≡ name

  placed : (name : List ℕ) (d : ToplevelDefinition) → last_named defs name ≡ Some d → Placed name d
  placed name d e =
      let h = has_name ds name d (standing.each name ∙ e) in
      record { place = h.place; within = h.within; there = h.there; at = get_or-map name_of ds h.place d [] h.within ∙ ap name_of h.there ∙ h.named }

  only_there : (name : List ℕ) (x : ℕ) → x < length names → get_or names x [] ≡ name → (i : ℕ) → i < x → get_or names i [] ≡ name → ⊥
  only_there name x h e i l f =
      let same : i ≡ x = one_place names i x standing.ascending (omega (arith, l, h)) h (f ∙ sym e) in
      absurd (omega (arith, same, l))

  -- whether a name is closed, by its place
  by_place : (name : List ℕ) (x : ℕ) → x < length ds → get_or names x [] ≡ name → keeps None name ≡ get_or closed x false
  by_place name x h e = closed_at names closed name x closed_long (omega (arith, h, long)) e (only_there name x (omega (arith, h, long)) e)

  without : (name : List ℕ) → last_named defs name ≡ None → keeps None name ≡ true
  without name e = closed_elsewhere names closed name (λ i h f. no_some (get_or ds i (some_at i (omega (arith, h, long)))) (sym e ∙ ap (last_named defs) (sym f) ∙ stands i (omega (arith, h, long))))
    where
      some_at : (i : ℕ) → i < length ds → ToplevelDefinition
      some_at i h = first ds i h
        where
          first : (ds : Definitions) (i : ℕ) → i < length ds → ToplevelDefinition
          first [] i h = absurd (omega (arith, h))
          first (x ∷ ds) i h = x

      stands : (i : ℕ) (h : i < length ds) → last_named defs (get_or names i []) ≡ Some (get_or ds i (some_at i h))
      stands i h =
          let d = some_at i h in
          sym (standing.each (get_or names i [])) ∙ ap (last_named ds) (get_or-map name_of ds i d [] h) ∙ stands_for ds i d standing.ascending h

  -- a definition that is told to be closed leads to no open one
  free_there : (x : ℕ) → x < length ds → get_or closed x false ≡ true → LeadsToMarked are.graph (are_open ds made) x → ⊥
  free_there x h e = (are.free.each x (omega (arith, h, closed_long, long))).0 e

  -- a name that stays in the type of a closed definition is closed
  stays_closed : (x : ℕ) → x < length ds → get_or closed x false ≡ true → (name : List ℕ) → Contains (left_in (get_or made x None)) name → keeps None name ≡ true
  stays_closed x h e name c = go (last_named defs name) refl
    where
      go : (o : Option ToplevelDefinition) → last_named defs name ≡ o → keeps None name ≡ true
      go None f = without name f
      go (Some d) f =
          let p = placed name d f in
          let edge = (are.drawn.edges x p.place).1 (record { within = omega (arith, p.within, long); among = subst (λ m. Contains (get_or (map left_in made) x []) m) (sym p.at) (subst (λ ns. Contains ns name) (sym (get_or-map left_in made x None [] (omega (arith, h, made_long)))) c) }) in
          by_place name p.place p.within p.at ∙ (are.free.each p.place (omega (arith, p.within, closed_long, long))).1 (λ l. free_there x h e (led_on are.graph (are_open ds made) x p.place edge l))

  -- nor does a field of an object stay in it
  no_field : (x : ℕ) (d : ToplevelTypeDefinition) (ty : ASN1Type) → x < length ds → get_or closed x false ≡ true → get_or ds x (TypeDef d) ≡ TypeDef d → get_or made x None ≡ Some ty → has_field (staying_names ty) ≡ false
  no_field x d ty h e is m = unlike (has_field (staying_names ty)) (λ t. free_there x h e (inl (open_at ds made x (TypeDef d) made_long h ∙ ap (λ y. is_open y (get_or made x None)) is ∙ ap is_left_open m ∙ t)))

  names_stay : (x : ℕ) (d : ToplevelTypeDefinition) (ty : ASN1Type) → x < length ds → get_or closed x false ≡ true → get_or ds x (TypeDef d) ≡ TypeDef d → get_or made x None ≡ Some ty → NamesStay keeps ty
  names_stay x d ty h e is m = (stay ty keeps).1 (all_true (may_stay keeps) (staying_names ty) each)
    where
      alone : (s : StayingName) → is_field s ≡ false → (s.0 ≡ None) × (plain_name s ≡ s.1 ∷ [])
      alone s f = go s.0 refl f
        where
          go : (o : Option (List ℕ)) → s.0 ≡ o → is_some o ≡ false → (s.0 ≡ None) × (plain_name s ≡ s.1 ∷ [])
          go None e f = (e, ap (λ o. elim o [ None ↦ s.1 ∷ [] | Some object ↦ [] ]) e)
          go (Some object) e f = absurd cc

      each : (s : StayingName) → Contains (staying_names ty) s → may_stay keeps s ≡ true
      each s c =
          let a = alone s (none_true is_field (staying_names ty) s (no_field x d ty h e is m) c) in
          ap (λ o. keeps o s.1) a.0
          ∙ stays_closed x h e s.1 (subst (λ o. Contains (left_in o) s.1) (sym m) (plain_there (staying_names ty) s s.1 c a.1))

  -- ---- what a closed name stands for

  one_linked : (d : ToplevelDefinition) (m : Option ASN1Type) (o : Option ToplevelDefinition) → IsMade defs n k d m → IsLinked d m o →
      ((t : ToplevelTypeDefinition) (ty : ASN1Type) → d ≡ TypeDef t → m ≡ Some ty → NamesStay keeps ty) → LinkedDefinition keeps defs others n k (type_in d) (once None o type_in)
  one_linked (TypeDef d) (Some ty) (Some (TypeDef e)) i l stays = (i.0, l.0, i.1 ∙ ap Some (sym l.1), subst (NamesStay keeps) (sym l.1) (stays d ty refl refl))
  one_linked (TypeDef d) (Some ty) (Some (Value e)) i l stays = absurd l
  one_linked (TypeDef d) (Some ty) (Some (Information e)) i l stays = absurd l
  one_linked (TypeDef d) (Some ty) None i l stays = absurd l
  one_linked (TypeDef d) None o i l stays = absurd l
  one_linked (Value d) m (Some (Value e)) i l stays = tt
  one_linked (Value d) m (Some (TypeDef e)) i l stays = absurd l
  one_linked (Value d) m (Some (Information e)) i l stays = absurd l
  one_linked (Value d) m None i l stays = absurd l
  one_linked (Information d) m (Some (Information e)) i l stays = tt
  one_linked (Information d) m (Some (TypeDef e)) i l stays = absurd l
  one_linked (Information d) m (Some (Value e)) i l stays = absurd l
  one_linked (Information d) m None i l stays = absurd l

  last_linked : (name : List ℕ) → keeps None name ≡ true → LinkedDefinition keeps defs others n k (once None (last_named defs name) type_in) (once None (last_named others name) type_in)
  last_linked name kept = go (last_named defs name) refl
    where
      go : (o : Option ToplevelDefinition) → last_named defs name ≡ o → LinkedDefinition keeps defs others n k (once None o type_in) (once None (last_named others name) type_in)
      go None e = subst (λ o. LinkedDefinition keeps defs others n k None (once None o type_in)) (sym (linked.none_added name e)) tt
      go (Some d) e =
          let p = placed name d e in
          let told : get_or closed p.place false ≡ true = sym (by_place name p.place p.within p.at) ∙ kept in
          let same : name_of (get_or ds p.place d) ≡ name = sym (get_or-map name_of ds p.place d [] p.within) ∙ p.at in
          let made_there : IsMade defs n k d (get_or made p.place None) = subst (λ y. IsMade defs n k y (get_or made p.place None)) p.there (zip_at (IsMade defs n k) ds made p.place d None all p.within) in
          let linked_there : IsLinked d (get_or made p.place None) (last_named others name) =
          subst (λ m. IsLinked d (get_or made p.place None) (last_named others m)) same
          (subst (λ y. IsLinked y (get_or made p.place None) (last_named others (name_of (get_or ds p.place d)))) p.there (linked.each p.place d p.within told)) in
          one_linked d (get_or made p.place None) (last_named others name) made_there linked_there
          (λ t ty f m. names_stay p.place t ty p.within told (at_any p.place d (TypeDef t) p.within ∙ p.there ∙ f) m)
        where
          at_any : (x : ℕ) (d e : ToplevelDefinition) → x < length ds → get_or ds x e ≡ get_or ds x d
          at_any x d e h = any ds x h
            where
              any : (ys : Definitions) (x : ℕ) → x < length ys → get_or ys x e ≡ get_or ys x d
              any [] x h = absurd (omega (arith, h))
              any (y ∷ ys) zero h = refl
              any (y ∷ ys) (suc x) h = any ys x (omega (arith, h))

  types_linked : (name : List ℕ) → keeps None name ≡ true → LinkedDefinition keeps defs others n k (type_named defs name) (type_named others name)
  unfolding built_in
  types_linked name kept = go (bytes_eq name (codes "TYPE-IDENTIFIER"))
    where
      go : (b : Bool) → LinkedDefinition keeps defs others n k (once None (if b then Some built_in else last_named defs name) type_in) (once None (if b then Some built_in else last_named others name) type_in)
      go true = tt
      go false = last_linked name kept

  are_closed : NamesAreClosed keeps defs others n k
  are_closed = record { alone = λ object name. refl; each = λ name kept. record { types = types_linked name kept; opens = λ x e. linked.opens x } }

pub closed_definitions_close : NamesThatStay → ClosedDefinitionsClose
closed_definitions_close stay defs others ds made closed n k standing all are linked = are_closed stay defs others ds made closed n k standing all are linked
