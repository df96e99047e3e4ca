-- What the graphs of names tell: which names are gentle, which are circular, which lead to no circle.
use Rattle.std.proofs.Common.{◌≡◌, ℕ, ◌+◌, ◌<◌, ◌≤◌, ◌⊎◌, ◌↔◌, inl, inr, Bool, true, false}
use Rattle.std.proofs.Common.{List, [], ◌∷◌, ◌++◌, length, map, get_or, take, refl, sym, ap, ◌∙◌, subst, arith}
use Rattle.std.specs.Prelude.{Contains, IsTrue}
use Rattle.std.proofs.lemmas.Bool.{cases_lt}
use Rattle.std.proofs.lemmas.List.{get_or-map, get_or_append_left, get_or_push, length-map, map_more}
use Rattle.std.proofs.lemmas.List.Elements.{Contains-append_cases}
use Rattle.asn_tree.specs.declared.definitions.ToplevelDefinition.{ToplevelDefinition}
use Rattle.asn_names_graph.specs.Graphs.{AreOneComponent, Edges as Graph, Needs}
use Rattle.asn_names_graph.specs.Reach.{AreFree}
use Rattle.asn_names_index.specs.Definitions.{Definitions, IsStanding, name_of}
use Rattle.asn_names_references.specs.References.{Names, references_of}
use Rattle.asn_names_circles.specs.Circles.{AreOneCircle, Asks, EachTold, FreeAre, IsCircular, IsGentle, Leads, LeadsBack, Refers, is_asking, leading, opening, templates_among}
use Rattle.asn_names_circles.specs.inner.Nodes.{AreCircular, AreEach, IsAnyBack, IsBack, IsCircularAt}
use Rattle.asn_names_graph.specs.Drawn.{Ascend, IsDrawn, StandsAt}
use Rattle.asn_names_graph.proofs.Added.{none_contained, one_contained}
use Rattle.asn_names_graph.proofs.Ascending.{one_place}
use Rattle.asn_meaning_unchanged.specs.Unchanged.{is_unchanged}
use Rattle.asn_names_circles.proofs.Needed.{circle_iff, free_told, leads_needs, long, name_at, needs_leads, one, same_some, some_at, stands, zip_at, zipped}

either : {A B C D : Type 0} → (A → C) → (B → D) → A ⊎ B → C ⊎ D
either f g (inl a) = inl (f a)
either f g (inr b) = inr (g b)

-- two truth values that tell the same are one
same_truth : {P : Type 0} (b c : Bool) → (IsTrue b ↔ P) → (IsTrue c ↔ P) → b ≡ c
same_truth true true p q = refl
same_truth false false p q = refl
same_truth true false p q = sym (q.1 (p.0 refl))
same_truth false true p q = p.1 (q.0 refl)

-- a graph of these names and lists is one of those that are the same
pub drawn_as : {names others : Names} {lists more : List Names} (g : Graph) → names ≡ others → lists ≡ more → IsDrawn names lists g → IsDrawn others more g
drawn_as {others = others} {lists = lists} g p q drawn = subst (λ ls. IsDrawn others ls g) q (subst (λ ns. IsDrawn ns lists g) p drawn)

-- lists that are told of the same items are as many
pub as_many : {A B X C D : Type 0} (f : A → C) (g : B → D) (xs : List A) (ys : List B) (zs : List X) (h : X → C) (k : X → D) → map f xs ≡ map h zs → map g ys ≡ map k zs → length xs ≡ length ys
as_many f g xs ys zs h k p q =
    sym (length-map xs f) ∙ ap length p ∙ length-map zs h ∙ sym (length-map zs k) ∙ sym (ap length q) ∙ length-map ys g

-- ---- what is pushed item by item

module _ {B : Type 0} (R : ℕ → B → Type 0) (b : B) where
  -- it holds of the items so far
  abbrev pub SoFar : List B → ℕ → Type 0
  SoFar out i = (x : ℕ) → x < i → R x (get_or out x b)

  pub one_more : (out new : List B) (i : ℕ) (c : B) → length out ≡ i → new ≡ out ++ c ∷ [] → R i c → SoFar out i → SoFar new (i + 1)
  one_more out new i c l same told before y k = subst (λ bs. R y (get_or bs y b)) (sym same) (go (cases_lt y i))
    where
      go : (y < i) ⊎ (i ≤ y) → R y (get_or (out ++ c ∷ []) y b)
      go (inl h) = subst (R y) (sym (get_or_append_left out (c ∷ []) b y (omega (arith, l, h)))) (before y h)
      go (inr h) =
          let e : i ≡ y = omega (arith, k, h) in
          subst (R y) (sym (get_or_push out c b y (l ∙ e))) (subst (λ j. R j c) e told)

module _ {X Y : Type 0} (f : X → ToplevelDefinition) (n : Y → List ℕ) (on g : Graph) (names : List Y) (xs : List X) (gentle : List Bool) where
  -- whether the definition of a node is circular
  abbrev IsMark : ℕ → Bool → Type 0
  IsMark x b = (d : ToplevelDefinition) → (b ≡ true) ↔ IsCircularAt on g (map n names) x (get_or gentle x false) (get_or (map f xs) x d)

  abbrev pub CircularSoFar : List Bool → ℕ → Type 0
  CircularSoFar = SoFar IsMark false

  pub circular_more : (marked new : List Bool) (i : ℕ) (x : X) (b : Bool) → length marked ≡ i → i < length xs → x ≡ get_or xs i x → new ≡ marked ++ b ∷ [] →
      ((b ≡ true) ↔ IsCircularAt on g (map n names) i (get_or gentle i false) (f x)) → CircularSoFar marked i → CircularSoFar new (i + 1)
  circular_more marked new i x b long h is same told before =
      one_more IsMark false marked new i b long same
      (λ d. subst (λ e. (b ≡ true) ↔ IsCircularAt on g (map n names) i (get_or gentle i false) e) (sym (get_or-map f xs i x d h ∙ ap f (sym is))) told) before

  pub circular_all : (marked : List Bool) (i : ℕ) → length marked ≡ i → length xs ≡ i → CircularSoFar marked i → AreCircular on g (map n names) (map f xs) gentle marked
  circular_all marked i long all told =
      let l : length (map f xs) ≡ length xs = length-map xs f in
      record { long = omega (arith, long, all, l); each = λ x d h. told x (omega (arith, h, all, l)) d }

-- ---- several names

module _ (g : Graph) (names : Names) (x : ℕ) where
  -- a name stands at one place alone
  pub back_there : (name : List ℕ) (place : ℕ) → Ascend names → StandsAt names name place → IsBack g names x name → AreOneComponent g x place
  back_there name place up s b = subst (AreOneComponent g x) (one_place names b.node place up b.stands.within s.within (b.stands.is ∙ sym s.is)) b.one

  pub none_back : IsAnyBack g names x [] → ⊥
  none_back b = none_contained b.name b.among

  pub more_back : {Y : Type 0} (f : Y → List ℕ) (ys : List Y) (i : ℕ) (y : Y) → i < length ys → y ≡ get_or ys i y →
      (IsAnyBack g names x (map f (take i ys)) → ⊥) → (IsBack g names x (f y) → ⊥) → IsAnyBack g names x (map f (take (i + 1) ys)) → ⊥
  more_back f ys i y h is before here b =
      let next : map f (take i ys) ++ f y ∷ [] ≡ map f (take (i + 1) ys) = ap (λ z. map f (take i ys) ++ f z ∷ []) is ∙ sym (map_more f ys i y h) in
      go (Contains-append_cases (map f (take i ys)) (f y ∷ []) b.name (subst (λ ns. Contains ns b.name) (sym next) b.among))
    where
      go : Contains (map f (take i ys)) b.name ⊎ Contains (f y ∷ []) b.name → ⊥
      go (inl c) = before (record { name = b.name; among = c; back = b.back })
      go (inr c) = here (subst (IsBack g names x) (sym (one_contained (f y) b.name c)) b.back)

-- ---- definitions

module _ (defs ds : Definitions) (standing : IsStanding defs ds) where
  -- names that are told by a definition alone
  pub are_each : (F : ToplevelDefinition → Names) (lists : List Names) → lists ≡ map F ds → AreEach (λ x d names. names ≡ F d) (map name_of ds) ds lists
  are_each F lists same =
      record {
        long = ap length same ∙ length-map ds F;
        each = λ x d h. ap (λ ls. get_or ls x []) same ∙ get_or-map F ds x d [] h;
      }

  pub asks_told : (asking : List Bool) → asking ≡ map (is_asking defs) ds → EachTold (Asks defs) (map name_of ds) asking
  asks_told asking same = zipped (λ n b. (b ≡ true) ↔ Asks defs n) (map name_of ds) asking [] false (ap length same ∙ length-map ds (is_asking defs) ∙ sym (long defs ds standing)) at
    where
      at : (i : ℕ) → i < length asking → (get_or asking i false ≡ true) ↔ Asks defs (name_at defs ds standing i)
      at i h =
          let l : length asking ≡ length ds = ap length same ∙ length-map ds (is_asking defs) in
          let k : i < length ds = omega (arith, h, l) in
          let d : ToplevelDefinition = some_at defs ds standing i k in
          let here : get_or asking i false ≡ is_asking defs (get_or ds i d) = ap (λ bs. get_or bs i false) same ∙ get_or-map (is_asking defs) ds i d false k in (
            (λ t. record { definition = get_or ds i d; stands = stands defs ds standing i d k; asking = sym here ∙ t }),
            (λ a. here ∙ ap (is_asking defs) (same_some (get_or ds i d) a.definition (sym (stands defs ds standing i d k) ∙ a.stands)) ∙ a.asking),
          )

  pub gentle_told : (g : Graph) (lists : List Names) (asking free : List Bool) → lists ≡ map (λ d. templates_among defs (references_of d)) ds → asking ≡ map (is_asking defs) ds →
      IsDrawn (map name_of ds) lists g → AreFree g asking free → EachTold (IsGentle defs) (map name_of ds) free
  gentle_told g lists asking free same told drawn are =
      let F = λ (d : ToplevelDefinition). templates_among defs (references_of d) in
      free_told (λ x d names. names ≡ F d) defs ds standing lists (are_each F lists same) (λ x d names others p q. p ∙ sym q) g drawn (Asks defs) asking (asks_told asking told) free are

  module _ (g : Graph) (drawn : IsDrawn (map name_of ds) (map references_of ds) g) where
    abbrev here : ℕ → List ℕ
    here = name_at defs ds standing

    refers : AreEach (λ x d names. names ≡ references_of d) (map name_of ds) ds (map references_of ds)
    refers = are_each references_of (map references_of ds) refl

    -- a name in one circle with another stands at a node of one component
    circle_back : (x : ℕ) (name : List ℕ) → x < length ds → AreOneCircle defs (here x) name → IsBack g (map name_of ds) x name
    circle_back x name h (inl e) =
        let l : length (map name_of ds) ≡ length ds = long defs ds standing in
        record { node = x; stands = record { within = omega (arith, h, l); is = e }; one = inl refl }
    circle_back x name h (inr (to, from)) =
        let l : length (map name_of ds) ≡ length ds = long defs ds standing in
        let n = leads_needs _ defs ds standing (map references_of ds) refers (λ x d names others p q. p ∙ sym q) g drawn x h to in
        let m = leads_needs _ defs ds standing (map references_of ds) refers (λ x d names others p q. p ∙ sym q) g drawn n.0 n.1 (subst (λ z. Leads (Refers defs) z (here x)) (sym n.2) from) in
        let k : n.0 < length ds = n.1 in
        record {
          node = n.0;
          stands = record { within = omega (arith, k, l); is = n.2 };
          one = inr (n.3, subst (λ y. Needs g n.0 y) (one defs ds standing m.0 x m.1 h m.2) m.3);
        }

    back_circle : (x : ℕ) (name : List ℕ) → IsBack g (map name_of ds) x name → AreOneCircle defs (here x) name
    back_circle x name b = go b.one
      where
        leads : {y z : ℕ} → Needs g y z → Leads (Refers defs) (here y) (here z)
        leads n = needs_leads _ defs ds standing (map references_of ds) refers (λ x d names others p q. p ∙ sym q) g drawn n

        go : AreOneComponent g x b.node → AreOneCircle defs (here x) name
        go (inl e) = inl (ap here e ∙ b.stands.is)
        go (inr (to, from)) = inr (subst (λ z. Leads (Refers defs) (here x) z) b.stands.is (leads to), subst (λ z. Leads (Refers defs) z (here x)) b.stands.is (leads from))

    -- of a definition of which it is told whether it is gentle
    led_back : (x : ℕ) (d : ToplevelDefinition) (is_gentle : Bool) → x < length ds → (IsTrue is_gentle ↔ IsGentle defs (here x)) →
        IsAnyBack g (map name_of ds) x (opening is_gentle d) ↔ LeadsBack defs (here x) d
    led_back x d is_gentle h told = (
      (λ b. record { is_gentle = is_gentle; told = told; name = b.name; opens = b.among; back = back_circle x b.name b.back }),
      (λ l. record {
        name = l.name;
        among = subst (λ z. Contains (opening z d) l.name) (same_truth l.is_gentle is_gentle l.told told) l.opens;
        back = circle_back x l.name h l.back;
      }),
    )

    pub circular_told : (on : Graph) (gentle marked : List Bool) →
        IsDrawn (map name_of ds) (map (leading defs) ds) on → EachTold (IsGentle defs) (map name_of ds) gentle →
        AreCircular on g (map name_of ds) ds gentle marked → EachTold (IsCircular defs) (map name_of ds) marked
    circular_told on gentle marked through told circular = zipped (λ n b. (b ≡ true) ↔ IsCircular defs n) (map name_of ds) marked [] false (circular.long ∙ sym (long defs ds standing)) at
      where
        at : (i : ℕ) → i < length marked → (get_or marked i false ≡ true) ↔ IsCircular defs (here i)
        at i h =
            let l : length marked ≡ length ds = circular.long in
            let k : i < length ds = omega (arith, h, l) in
            let m : length (map name_of ds) ≡ length ds = long defs ds standing in
            let d : ToplevelDefinition = some_at defs ds standing i k in
            let both = circular.each i d k in
            let is_gentle = zip_at (λ n b. (b ≡ true) ↔ IsGentle defs n) (map name_of ds) gentle i [] false told (omega (arith, k, m)) in
            let back = led_back i (get_or ds i d) (get_or gentle i false) k is_gentle in
            let circle = circle_iff (λ x d names. names ≡ leading defs d) defs ds standing (map (leading defs) ds) (are_each (leading defs) (map (leading defs) ds) refl) (λ x d names others p q. p ∙ sym q) on through i k in (
              (λ t. (let b = both.0 t in record { definition = get_or ds i d; stands = stands defs ds standing i d k; changed = b.0; circle = either circle.0 back.0 b.1 })),
              (λ c. (
                  let same : get_or ds i d ≡ c.definition = same_some (get_or ds i d) c.definition (sym (stands defs ds standing i d k) ∙ c.stands) in
                  both.1 (ap is_unchanged same ∙ c.changed, either circle.1 (λ l. back.1 (subst (LeadsBack defs (here i)) (sym same) l)) c.circle))),
            )

  pub free_are : (g : Graph) (marked free : List Bool) → EachTold (IsCircular defs) (map name_of ds) marked → IsDrawn (map name_of ds) (map references_of ds) g → AreFree g marked free →
      FreeAre defs (map name_of ds) free
  free_are g marked free told drawn are =
      free_told (λ x d names. names ≡ references_of d) defs ds standing (map references_of ds) (are_each references_of (map references_of ds) refl) (λ x d names others p q. p ∙ sym q) g drawn
      (IsCircular defs) marked told free are
