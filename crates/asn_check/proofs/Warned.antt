-- The warnings name by name are exactly those that are due, in order.
use Rattle.std.proofs.Common.{◌≡◌, inl, inr, ℕ, zero, suc, ◌+◌, ◌<◌, ◌≤◌, List, [], ◌∷◌, ◌++◌, map, length, drop, get_or, Bool, true, false, Option, Some, None, Bor, refl, sym, ap, ◌∙◌, subst, arith, append_assoc, append-nil}
use Rattle.std.specs.Prelude.{nat_lt, if◌then◌else◌}
use Rattle.std.specs.Cmp.Lexicographic.{slice_cmp}
use Rattle.std.specs.List.{All, AllByRecursion, AllPairs, AllZip, Contains}
use Rattle.std.specs.List.Sorted.{IsStrictlySortedBy}
use Rattle.std.specs.Ordering.{nat_cmp}
use Rattle.std.specs.declared.cmp.Ordering.TheVariants.{Less}
use Rattle.std.proofs.lemmas.List.{drop_more, drop_all, map-append}
use Rattle.std.proofs.lemmas.List.Elements.{All-append, All-cons, All-contains, All-head, All-nil, All-tail, All-weaker, Contains-append_left, Contains-append_right}
use Rattle.std.proofs.lemmas.List.Kept.{AllPairs-cons}
use Rattle.std.proofs.lemmas.Slice.Eq.{bytes_eq-Decides}
use Rattle.asn_tree.specs.declared.definitions.ToplevelDefinition.{ToplevelDefinition}
use Rattle.asn_tree_leaves.specs.declared.errors.LinkerError.{LinkerError}
use Rattle.asn_tree_leaves.specs.declared.errors.LinkerErrorType.TheVariants as kind
use Rattle.asn_check.specs.KeptMeaning.{WarningsAreDue}
use Rattle.asn_check.specs.Warnings.{Linkedness, Warning, warning, warning_for, IsDue, of_its_fault, of_several, IsBelow, Precedes, AreWarnings, of_fault, of_duplicate, IsFaultOf, AreWarningsOn, AreWarningsOf, no_names, on_each, said_by}
use Rattle.asn_names.specs.declared.faults.Fault.{Fault}
use Rattle.asn_names.specs.declared.faults.Fault.TheVariants.{Argument, MissingDependency, NotYetInplemented}
use Rattle.asn_names_index.specs.Definitions.{Definitions, IsStanding, is_duplicate, is_named, last_named, name_of}
use Rattle.asn_names.specs.Faults.{HasFault}
use Rattle.asn_names.proofs.Faultless.{one_fault}
use Rattle.asn_names_index.specs.Index.{place_in}
use Rattle.asn_names_index.specs.declared.names.LastPlace.{LastPlace}
use Rattle.asn_names.specs.Standing.{IsDefined}
use Rattle.asn_names_index.proofs.LastPlaces.{Tells, tells}
use Rattle.asn_names_index.proofs.Seen.{or_else}

-- ---- lists in order

append_pairs : {X : Type 0} (R : X → X → Type 0) (xs ys : List X) → AllPairs R xs → AllPairs R ys → All (λ x. All (R x) ys) xs → AllPairs R (xs ++ ys)
append_pairs R [] ys p q h = q
append_pairs R (x ∷ xs) ys p q h =
    AllPairs-cons R x (xs ++ ys)
    (All-append (R x) xs ys (λ k d lt. p 0 (suc k) d (omega arith) (omega arith)) (All-head (λ x. All (R x) ys) x xs h))
    (append_pairs R xs ys (λ i j d lt within. p (suc i) (suc j) d (omega arith) (omega arith)) q (All-tail (λ x. All (R x) ys) x xs h))

no_pairs : {X : Type 0} (R : X → X → Type 0) → AllPairs R []
no_pairs R i j d lt within = absurd (omega arith)

one_pair : {X : Type 0} (R : X → X → Type 0) (x : X) → AllPairs R (x ∷ [])
one_pair R x = AllPairs-cons R x [] (All-nil (R x)) (no_pairs R)

-- ---- on one name

-- the warning is on this name
abbrev IsOn : List ℕ → Warning → Type 0
IsOn name w = w.name ≡ Some name

no_duplicate : (name : List ℕ) (f : Fault) → (warning_for name f).kind ≡ kind.Duplicate → ⊥
no_duplicate name Argument e = cc
no_duplicate name MissingDependency e = cc
no_duplicate name NotYetInplemented e = cc

told_of : (name : List ℕ) (f : Fault) → IsOn name (warning_for name f)
told_of name Argument = refl
told_of name MissingDependency = refl
told_of name NotYetInplemented = refl

fault_pairs : (name : List ℕ) (o : Option Fault) (b : Bool) → AllPairs Precedes (of_fault name o ++ of_duplicate name b)
fault_pairs name None false = no_pairs Precedes
fault_pairs name None true = one_pair Precedes (warning name kind.Duplicate)
fault_pairs name (Some f) false = one_pair Precedes (warning_for name f)
fault_pairs name (Some f) true =
    let last = warning name kind.Duplicate in
    let first = warning_for name f in
    AllPairs-cons Precedes first (last ∷ []) (All-cons (Precedes first) last [] (inr (told_of name f, no_duplicate name f, refl)) (All-nil (Precedes first))) (one_pair Precedes last)

fault_on_name : (name : List ℕ) (o : Option Fault) → All (IsOn name) (of_fault name o)
fault_on_name name None = All-nil (IsOn name)
fault_on_name name (Some f) = All-cons (IsOn name) (warning_for name f) [] (told_of name f) (All-nil (IsOn name))

duplicate_on_name : (name : List ℕ) (b : Bool) → All (IsOn name) (of_duplicate name b)
duplicate_on_name name false = All-nil (IsOn name)
duplicate_on_name name true = All-cons (IsOn name) (warning name kind.Duplicate) [] refl (All-nil (IsOn name))

module _ (defs : Definitions) (linked : Linkedness) where
  on_name : (name : List ℕ) (here : List Warning) → AreWarningsOn defs linked name here → All (IsOn name) here
  on_name name here on =
      subst (All (IsOn name)) (sym on.told)
      (All-append (IsOn name) (of_fault name on.fault) (of_duplicate name (is_duplicate defs name)) (fault_on_name name on.fault) (duplicate_on_name name (is_duplicate defs name)))

  pairs_on : (name : List ℕ) (here : List Warning) → AreWarningsOn defs linked name here → AllPairs Precedes here
  pairs_on name here on = subst (AllPairs Precedes) (sym on.told) (fault_pairs name on.fault (is_duplicate defs name))

  due_of_fault : (name : List ℕ) (o : Option Fault) → IsFaultOf defs name (linked name) (last_named defs name) o → All (IsDue defs linked) (of_fault name o)
  due_of_fault name o found = at (last_named defs name) refl o found
    where
      at : (x : Option ToplevelDefinition) → last_named defs name ≡ x → (o : Option Fault) → IsFaultOf defs name (linked name) x o → All (IsDue defs linked) (of_fault name o)
      at x is None h = All-nil (IsDue defs linked)
      at None is (Some f) h = absurd cc
      at (Some d) is (Some f) h = All-cons (IsDue defs linked) (warning_for name f) [] (of_its_fault name d f is h) (All-nil (IsDue defs linked))

  due_of_duplicate : (name : List ℕ) (b : Bool) → is_duplicate defs name ≡ b → All (IsDue defs linked) (of_duplicate name b)
  due_of_duplicate name false is = All-nil (IsDue defs linked)
  due_of_duplicate name true is = All-cons (IsDue defs linked) (warning name kind.Duplicate) [] (of_several name is) (All-nil (IsDue defs linked))

  due_on : (name : List ℕ) (here : List Warning) → AreWarningsOn defs linked name here → All (IsDue defs linked) here
  due_on name here on =
      subst (All (IsDue defs linked)) (sym on.told)
      (All-append (IsDue defs linked) (of_fault name on.fault) (of_duplicate name (is_duplicate defs name)) (due_of_fault name on.fault on.found) (due_of_duplicate name (is_duplicate defs name) refl))

  -- the fault that is found is the one that stands
  same_fault : (name : List ℕ) (d : ToplevelDefinition) (o p : Option Fault) → last_named defs name ≡ Some d → HasFault defs name d (linked name) p → IsFaultOf defs name (linked name) (last_named defs name) o → o ≡ p
  same_fault name d o p is h found = one_fault defs name d (linked name) o p (subst (λ x. IsFaultOf defs name (linked name) x o) is found) h

  fault_there : (name : List ℕ) (here : List Warning) (d : ToplevelDefinition) (f : Fault) → AreWarningsOn defs linked name here → last_named defs name ≡ Some d → HasFault defs name d (linked name) (Some f) → Contains here (warning_for name f)
  fault_there name here d f on is h =
      subst (λ ws. Contains ws (warning_for name f))
      (sym (on.told ∙ ap (λ o. of_fault name o ++ of_duplicate name (is_duplicate defs name)) (same_fault name d on.fault (Some f) is h on.found)))
      (0, omega arith, refl)

  duplicate_there : (name : List ℕ) (here : List Warning) → AreWarningsOn defs linked name here → is_duplicate defs name ≡ true → Contains here (warning name kind.Duplicate)
  duplicate_there name here on is =
      subst (λ ws. Contains ws (warning name kind.Duplicate)) (sym on.told)
      (Contains-append_right (of_fault name on.fault) (of_duplicate name (is_duplicate defs name)) (warning name kind.Duplicate)
      (subst (λ b. Contains (of_duplicate name b) (warning name kind.Duplicate)) (sym is) (0, omega arith, refl)))

  -- ---- name by name

  due_all : {names : List (List ℕ)} {ws : List Warning} → AreWarningsOf defs linked names ws → All (IsDue defs linked) ws
  due_all no_names = All-nil (IsDue defs linked)
  due_all (on_each {name} {names} {here} {later} on all) = All-append (IsDue defs linked) here later (due_on name here on) (due_all all)

  -- what is among all warnings on a name is among all
  there : {names : List (List ℕ)} {ws : List Warning} → AreWarningsOf defs linked names ws → (name : List ℕ) (w : Warning) → Contains names name →
      ((here : List Warning) → AreWarningsOn defs linked name here → Contains here w) → Contains ws w
  there no_names name w (k, lt, e) h = absurd (omega arith)
  there (on_each {name = x} {names} {here} {later} on all) name w (zero, lt, e) h =
      Contains-append_left here later w (h here (subst (λ n. AreWarningsOn defs linked n here) e on))
  there (on_each {name = x} {names} {here} {later} on all) name w (suc k, lt, e) h = Contains-append_right here later w (there all name w (k, omega arith, e) h)

  abbrev IsAfter : List ℕ → Warning → Type 0
  IsAfter x w = IsBelow (Some x) w.name

  after : (x : List ℕ) {names : List (List ℕ)} {ws : List Warning} → AreWarningsOf defs linked names ws → AllByRecursion (λ y. slice_cmp nat_cmp x y ≡ Less) names → All (IsAfter x) ws
  after x no_names above = All-nil (IsAfter x)
  after x (on_each {name} {names} {here} {later} on all) above =
      All-append (IsAfter x) here later
      (All-weaker (IsOn name) (IsAfter x) (λ w at. subst (IsBelow (Some x)) (sym at) above.0) here (on_name name here on))
      (after x all above.1)

  pairs_all : {names : List (List ℕ)} {ws : List Warning} → AreWarningsOf defs linked names ws → IsStrictlySortedBy (slice_cmp nat_cmp) names → AllPairs Precedes ws
  unfolding IsStrictlySortedBy
  pairs_all no_names sorted = no_pairs Precedes
  pairs_all (on_each {name} {names} {here} {later} on all) sorted =
      append_pairs Precedes here later (pairs_on name here on) (pairs_all all sorted.1)
      (All-weaker (IsOn name) (λ v. All (Precedes v) later)
      (λ v at. All-weaker (IsAfter name) (Precedes v) (λ w h. inl (subst (λ o. IsBelow o w.name) (sym at) h)) later (after name all sorted.0))
      here (on_name name here on))

  -- several definitions of a name are some
  several_defined : (name : List ℕ) → is_duplicate defs name ≡ true → IsDefined defs name
  several_defined name is = go (place_in defs name) (tells name defs)
    where
      go : (p : Option LastPlace) → Tells name defs p → IsDefined defs name
      go None t = let none : nat_lt 1 0 ≡ true = ap (nat_lt 1) (sym t.uncounted) ∙ is in absurd cc
      go (Some p) t = t.some

  all_due : {names : List (List ℕ)} {ws : List Warning} → AreWarningsOf defs linked names ws → ((name : List ℕ) → IsDefined defs name → Contains names name) → (w : Warning) → IsDue defs linked w → Contains ws w
  all_due all each w (of_its_fault name d f is e) = there all name _ (each name (d, is)) (λ here on. fault_there name here d f on is e)
  all_due all each w (of_several name is) = there all name _ (each name (several_defined name is)) (λ here on. duplicate_there name here on is)

  pub are_warnings : {names : List (List ℕ)} {ws : List Warning} → AreWarningsOf defs linked names ws → IsStrictlySortedBy (slice_cmp nat_cmp) names → ((name : List ℕ) → IsDefined defs name → Contains names name) → AreWarnings defs linked ws
  are_warnings {ws = ws} all sorted each =
      record {
        exact = λ w. (All-contains (IsDue defs linked) ws w (due_all all), all_due all each w);
        ordered = pairs_all all sorted;
      }

-- ---- the names of the linked definitions

-- the last definition of a name stands in the list
pub name_there : (name : List ℕ) (ds : Definitions) → IsDefined ds name → Contains (map name_of ds) name
name_there name [] (d, is) = absurd cc
name_there name (x ∷ ds) (d, is) = go (last_named ds name) refl (name_there name ds) is
  where
    here : (b : Bool) → is_named name x ≡ b → (if b then Some x else None) ≡ Some d → Contains (map name_of (x ∷ ds)) name
    here false e h = absurd cc
    here true e h = (0, omega arith, (bytes_eq-Decides (name_of x) name).0 e)

    go : (o : Option ToplevelDefinition) → last_named ds name ≡ o → (IsDefined ds name → Contains (map name_of ds) name) → or_else o (if is_named name x then Some x else None) ≡ Some d → Contains (map name_of (x ∷ ds)) name
    go None e later h = here (is_named name x) refl h
    go (Some y) e later h = let c = later (y, e) in (suc c.0, omega (arith, c.1), c.2)

pub are_due : WarningsAreDue
are_due defs standing linked ws are all = are_warnings defs linked all are.ascending (λ name defined. name_there name standing (defined.0, are.each name ∙ defined.1))

pub each_named : (ds : List (Bor ToplevelDefinition)) → map (λ d. name_of d.now) ds ≡ map name_of (map (λ d. d.now) ds)
each_named [] = refl
each_named (d ∷ ds) = ap (λ names. name_of d.now ∷ names) (each_named ds)

-- what is warned of, name by name, over definitions that stand
pub judged : WarningsAreDue → (defs names : Definitions) (linked : Linkedness) (ds slice : List (Bor ToplevelDefinition)) (ws : List Warning) → names ≡ defs → slice ≡ ds → IsStanding names (map (λ d. d.now) ds) → AreWarningsOf names linked (map (λ d. name_of d.now) slice) ws → AreWarnings defs linked ws
judged law defs names linked ds slice ws is same standing all =
    subst (λ z. AreWarnings z linked ws) is
    (law names (map (λ d. d.now) ds) linked ws standing (subst (λ ns. AreWarningsOf names linked ns ws) (ap (map (λ d. name_of d.now)) same ∙ each_named ds) all))

-- ---- one definition after the other

-- with the warnings on the names behind, whatever these are, the warnings so far are those on all names
abbrev pub AreBegun : Definitions → Linkedness → List (List ℕ) → List (List ℕ) → List Warning → Type 0
AreBegun defs linked names behind so_far = (later : List Warning) → AreWarningsOf defs linked behind later → AreWarningsOf defs linked names (so_far ++ later)

module _ (defs : Definitions) (linked : Linkedness) {X : Type 0} (f : X → List ℕ) (names : List (List ℕ)) (items : List X) where
  pub begun : (so_far : List LinkerError) → names ≡ map f items → so_far ≡ [] → AreBegun defs linked names (map f items) (map said_by so_far)
  begun so_far is none later h = subst (λ ns. AreWarningsOf defs linked ns (map said_by so_far ++ later)) (sym is) (subst (λ ws. AreWarningsOf defs linked (map f items) (map said_by ws ++ later)) (sym none) h)

  pub next_warned : (i : ℕ) (x : X) (so_far here all : List LinkerError) → i < length items → x ≡ get_or items i x → AreBegun defs linked names (map f (drop i items)) (map said_by so_far) →
      AreWarningsOn defs linked (f x) (map said_by here) → all ≡ so_far ++ here → AreBegun defs linked names (map f (drop (i + 1) items)) (map said_by all)
  next_warned i x so_far here all lt is so on e later h =
      let first : drop i items ≡ x ∷ drop (i + 1) items = drop_more items i x lt ∙ ap (λ y. y ∷ drop (i + 1) items) (sym is) in
      let with_here = subst (λ ys. AreWarningsOf defs linked (map f ys) (map said_by here ++ later)) (sym first) (on_each on h) in
      let told : map said_by all ≡ map said_by so_far ++ map said_by here = ap (map said_by) e ∙ map-append said_by so_far here in
      subst (AreWarningsOf defs linked names) (sym (append_assoc (map said_by so_far) (map said_by here) later) ∙ ap (λ ws. ws ++ later) (sym told)) (so (map said_by here ++ later) with_here)

  pub all_warned : (i : ℕ) (so_far : List LinkerError) → length items ≤ i → AreBegun defs linked names (map f (drop i items)) (map said_by so_far) → AreWarningsOf defs linked names (map said_by so_far)
  all_warned i so_far le so =
      subst (AreWarningsOf defs linked names) (append-nil (map said_by so_far)) (so [] (subst (λ ys. AreWarningsOf defs linked (map f ys) []) (sym (drop_all i items le)) no_names))

-- ---- which definitions lead to no circle

module _ {X : Type 0} (f : X → List ℕ) (P : List ℕ → Bool → Type 0) where
  pub free_at : (items : List X) (free : List Bool) (i : ℕ) (x : X) → AllZip P (map f items) free → i < length items → x ≡ get_or items i x → P (f x) (get_or free i false)
  free_at [] free i x all lt is = absurd (omega (arith, lt))
  free_at (y ∷ items) [] i x all lt is = absurd all
  free_at (y ∷ items) (c ∷ free) zero x all lt is = subst (λ z. P (f z) c) (sym is) all.0
  free_at (y ∷ items) (c ∷ free) (suc i) x all lt is = free_at items free i x all.1 (omega (arith, lt)) is

  pub free_there : (items : List X) (free : List Bool) (i : ℕ) → AllZip P (map f items) free → i < length items → i < length free
  free_there [] free i all lt = absurd (omega (arith, lt))
  free_there (y ∷ items) [] i all lt = absurd all
  free_there (y ∷ items) (c ∷ free) zero all lt = omega arith
  free_there (y ∷ items) (c ∷ free) (suc i) all lt = let l = free_there items free i all.1 (omega (arith, lt)) in omega (arith, l)
