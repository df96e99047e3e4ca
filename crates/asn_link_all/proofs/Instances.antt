-- The types that linking makes are instances, and what is told of them.
use Rattle.std.proofs.Common.{◌≡◌, ℕ, zero, suc, ◌+◌, ◌-◌, ◌≤◌, List, [], ◌∷◌, length, map, Bool, true, false, ◌&&◌, Option, Some, None, refl, sym, ap, ◌∙◌, subst, arith}
use Rattle.std.specs.Prelude.{is_none, if◌then◌else◌}
use Rattle.std.proofs.lemmas.List.{length-map}
use Rattle.std.proofs.lemmas.Simd.{map-map}
use Rattle.std.specs.List.{AllZip}
use Rattle.asn_tree_headers.specs.declared.headers.AsnTag.{AsnTag}
use Rattle.asn_tree.specs.declared.definitions.Parameterization.{Parameterization}
use Rattle.asn_tree.specs.declared.definitions.ToplevelDefinition.{ToplevelDefinition}
use Rattle.asn_tree.specs.declared.definitions.ToplevelDefinition.TheVariants.{TypeDef, Value, Information}
use Rattle.asn_tree.specs.declared.definitions.ToplevelTypeDefinition.{ToplevelTypeDefinition}
use Rattle.asn_tree.specs.declared.types.ASN1Type.{ASN1Type}
use Rattle.asn_meaning.specs.Answers.{Within, once}
use Rattle.asn_meaning.specs.Scopes.{Empty}
use Rattle.asn_meaning_unchanged.specs.Unchanged.{is_left, is_unchanged, linking}
use Rattle.asn_names_circles.specs.Circles.{FreeAre}
use Rattle.asn_names_index.specs.Definitions.{Definitions, name_of}
use Rattle.asn_link_instance.specs.Closed.{every_name}
use Rattle.asn_link_instance.specs.Laws.{LiteralsSteady, MoreLevels}
use Rattle.asn_link_instance.specs.Literals.{literals}
use Rattle.asn_link_closed.specs.OwnInstances.{Eventually, UnchangedAreOwnInstances}
use Rattle.asn_link_closed.specs.Closed.{AreClosed}
use Rattle.asn_link_closed.specs.Laws.{IsMade}
use Rattle.asn_link_all.specs.Laws.{MadeAreInstances}
use Rattle.asn_link_all.specs.Linked.{AreLinkedTypes}
use Rattle.asn_link_all.specs.Made.{instance_of, made_by, made_each, made_of, made_where, own_type, tag_each, tag_of, unless_template}
use Rattle.asn_link_all.specs.Ways.{ways_of}
use Rattle.asn_link_all.specs.declared.ways.Way.{Way}
use Rattle.asn_link_all.specs.declared.ways.Way.TheVariants.{Whole, InCircles, AsRead}

-- what is told of a number that is at least another goes by their difference
restored : (k j : ℕ) → k ≤ j → (j - k) + k ≡ j
restored k j le = omega (arith, le)

no_template : (d : ToplevelTypeDefinition) → is_unchanged (TypeDef d) ≡ true → d.parameterization ≡ None
unfolding is_unchanged
no_template d e = go d.parameterization refl e
  where
    go : (p : Option Parameterization) → d.parameterization ≡ p → (is_none p && is_left (linking d.ty)) ≡ true → d.parameterization ≡ None
    go None f e = f
    go (Some p) f e = absurd cc

abbrev Made : Definitions → ℕ → ℕ → ToplevelDefinition → Option ASN1Type → Type 0
Made defs n k d made = IsMade defs (suc n) k d made

module _ (own : UnchangedAreOwnInstances) (steady : LiteralsSteady) (more : MoreLevels) (defs : Definitions) (n : ℕ) where
  abbrev of_type : ℕ → ToplevelTypeDefinition → Option ASN1Type
  of_type j d = instance_of defs (suc n) j d

  again : {A : Type 0} (a b : Option A) (x : A) → Within a b → a ≡ Some x → b ≡ Some x
  again None b x w e = absurd cc
  again (Some y) b x w e = w ∙ e

  -- an instance is the same within more levels
  further : (k : ℕ) (d : ToplevelTypeDefinition) (ty : ASN1Type) → of_type k d ≡ Some ty → (i : ℕ) → of_type (i + k) d ≡ Some ty
  further k d ty e zero = subst (λ j. of_type j d ≡ Some ty) (omega arith) e
  further k d ty e (suc i) =
      let more_there = (more (literals every_name) defs (steady every_name defs) (suc n) (i + k)).0.of_type false Empty d.ty in
      let there : of_type (suc (i + k)) d ≡ Some ty = again (of_type (i + k) d) (of_type (suc (i + k)) d) ty more_there (further k d ty e i) in
      let next : suc (i + k) ≡ suc i + k = omega arith in
      subst (λ j. of_type j d ≡ Some ty) next there

  -- and by more steps
  later : (m k : ℕ) (d : ToplevelTypeDefinition) (ty : ASN1Type) → instance_of defs m k d ≡ Some ty → (i : ℕ) → instance_of defs (i + m) k d ≡ Some ty
  later m k d ty e zero = subst (λ j. instance_of defs j k d ≡ Some ty) (omega arith) e
  later m k d ty e (suc i) =
      let more_there = (more (literals every_name) defs (steady every_name defs) (i + m) k).1.of_type false Empty d.ty in
      let there : instance_of defs (suc (i + m)) k d ≡ Some ty = again (instance_of defs (i + m) k d) (instance_of defs (suc (i + m)) k d) ty more_there (later m k d ty e i) in
      let next : suc (i + m) ≡ suc i + m = omega arith in
      subst (λ j. instance_of defs j k d ≡ Some ty) next there

  by_all : (m k : ℕ) → m ≤ suc n → (d : ToplevelTypeDefinition) (ty : ASN1Type) → instance_of defs m k d ≡ Some ty → of_type k d ≡ Some ty
  by_all m k le d ty e = subst (λ j. instance_of defs j k d ≡ Some ty) (restored m (suc n) le) (later m k d ty e (suc n - m))

  stays : (k : ℕ) (d : ToplevelTypeDefinition) (ty : ASN1Type) → of_type k d ≡ Some ty → Eventually (λ j. of_type j d ≡ Some ty)
  stays k d ty e = record { levels = k; holds = at }
    where
      at : (j : ℕ) → k ≤ j → of_type j d ≡ Some ty
      at j le = subst (λ i. of_type i d ≡ Some ty) (restored k j le) (further k d ty e (j - k))

  always : {P : ℕ → Type 0} → ((j : ℕ) → P j) → Eventually P
  always f = record { levels = 0; holds = λ j le. f j }

  -- ---- one definition

  type_made : (m k : ℕ) → m ≤ suc n → (d : ToplevelTypeDefinition) (p : Option Parameterization) → d.parameterization ≡ p → (t : Option (Option AsnTag)) (o : Option ASN1Type) →
      instance_of defs m k d ≡ o → Eventually (λ j. Made defs n j (TypeDef d) (unless_template p (once None t (λ tag. o))))
  type_made m k le d (Some p) e t o f = always (λ j. tt)
  type_made m k le d None e None o f = always (λ j. tt)
  type_made m k le d None e (Some tag) None f = always (λ j. tt)
  type_made m k le d None e (Some tag) (Some ty) f = let s = stays k d ty (by_all m k le d ty f) in record { levels = s.levels; holds = λ j at. (e, s.holds j at) }

  of_made : (m k : ℕ) → m ≤ suc n → (d : ToplevelDefinition) → Eventually (λ j. Made defs n j d (made_of defs m k d))
  of_made m k le (TypeDef d) = type_made m k le d d.parameterization refl (tag_of defs m k d) (instance_of defs m k d) refl
  of_made m k le (Value d) = always (λ j. tt)
  of_made m k le (Information d) = always (λ j. tt)

  by_way : (k c : ℕ) → c ≤ suc n → (d : ToplevelDefinition) (way : Way) → Eventually (λ j. Made defs n j d (made_by defs (suc n) k c d way))
  by_way k c le d Whole = of_made (suc n) k (omega arith) d
  by_way k c le d InCircles = of_made c c le d
  by_way k c le d AsRead = always (λ j. nothing_made j d)
    where
      nothing_made : (j : ℕ) (d : ToplevelDefinition) → Made defs n j d None
      nothing_made j (TypeDef d) = tt
      nothing_made j (Value d) = tt
      nothing_made j (Information d) = tt

  own_made : (d : ToplevelDefinition) → is_unchanged d ≡ true → Eventually (λ j. Made defs n j d (own_type d))
  own_made (TypeDef d) e = let s = own defs d e in record { levels = s.levels; holds = λ j le. (no_template d e, s.holds j le n) }
  own_made (Value d) e = always (λ j. tt)
  own_made (Information d) e = always (λ j. tt)

  one_made : (k c : ℕ) → c ≤ suc n → (d : ToplevelDefinition) (way : Way) → Eventually (λ j. Made defs n j d (made_where defs (suc n) k c d way))
  one_made k c le d way = go (is_unchanged d) refl
    where
      go : (b : Bool) → is_unchanged d ≡ b → Eventually (λ j. Made defs n j d (if b then own_type d else made_by defs (suc n) k c d way))
      go true e = own_made d e
      go false e = by_way k c le d way

  -- ---- all of them

  each_made : (k c : ℕ) → c ≤ suc n → (ds : Definitions) (ways : List Way) → length ways ≡ length ds → Eventually (λ j. AllZip (Made defs n j) ds (made_each defs (suc n) k c ds ways))
  each_made k c le [] ways e = always (λ j. tt)
  each_made k c le (d ∷ ds) [] e = absurd cc
  each_made k c le (d ∷ ds) (way ∷ ways) e =
      let here = one_made k c le d way in
      let behind = each_made k c le ds ways (omega (arith, e)) in
      record { levels = here.levels + behind.levels; holds = λ j at. (here.holds j (omega (arith, at)), behind.holds j (omega (arith, at))) }

pub made_are_instances : UnchangedAreOwnInstances → LiteralsSteady → MoreLevels → MadeAreInstances
made_are_instances own steady more defs ds ways n k c le e = each_made own steady more defs n k c le ds ways e

-- ---- lengths

-- as many are told of as there are names
pub free_long : {X : Type 0} (f : X → ToplevelDefinition) (defs : Definitions) (xs : List X) (free : List Bool) → FreeAre defs (map (λ x. name_of (f x)) xs) free → length free ≡ length xs
free_long f defs [] [] all = refl
free_long f defs [] (b ∷ free) all = absurd all
free_long f defs (x ∷ xs) [] all = absurd all
free_long f defs (x ∷ xs) (b ∷ free) all = ap suc (free_long f defs xs free all.1)

-- as many ways as definitions
pub ways_long : (free withheld : List Bool) → length withheld ≡ length free → length (ways_of free withheld) ≡ length free
ways_long [] withheld e = refl
ways_long (b ∷ free) [] e = absurd cc
ways_long (b ∷ free) (w ∷ withheld) e = ap suc (ways_long free withheld (omega (arith, e)))

-- as much is made as there are definitions
pub made_long : (defs : Definitions) (n k c : ℕ) (ds : Definitions) (ways : List Way) → length ways ≡ length ds → length (made_each defs n k c ds ways) ≡ length ds
made_long defs n k c [] ways e = refl
made_long defs n k c (d ∷ ds) [] e = absurd cc
made_long defs n k c (d ∷ ds) (way ∷ ways) e = ap suc (made_long defs n k c ds ways (omega (arith, e)))

module _ {X : Type 0} (f : X → ToplevelDefinition) (defs : Definitions) (xs : List X) (free told withheld : List Bool) (are : FreeAre defs (map (λ x. name_of (f x)) xs) free)
    (same : told ≡ free) (long : length withheld ≡ length xs) where
  -- as many are withheld or not as lead to no circle or do
  pub told_long : length withheld ≡ length told
  told_long = long ∙ sym (ap length same ∙ free_long f defs xs free are)

  module _ (ways each : List Way) (so : ways ≡ ways_of told withheld) (these : each ≡ ways) where
    pub each_long : length each ≡ length xs
    each_long = ap length these ∙ ap length so ∙ ways_long told withheld told_long ∙ ap length same ∙ free_long f defs xs free are

    pub linked_so : (n k c : ℕ) (closed : List Bool) (made : List (Option ASN1Type)) (tags : List (Option AsnTag)) → made ≡ made_each defs n k c (map f xs) each → tags ≡ tag_each defs n k c (map f xs) each →
        AreClosed (map f xs) made closed → AreLinkedTypes defs n k c (map f xs) withheld made tags closed
    linked_so n k c closed made tags is tagged closes =
        let by_free : each ≡ ways_of free withheld = these ∙ so ∙ ap (λ bs. ways_of bs withheld) same in
        record {
          free = free;
          are_free = subst (λ names. FreeAre defs names free) (sym (map-map name_of f xs)) are;
          long = long ∙ sym (length-map xs f);
          made_so = is ∙ ap (made_each defs n k c (map f xs)) by_free;
          tagged_so = tagged ∙ ap (tag_each defs n k c (map f xs)) by_free;
          closed_so = closes;
        }
