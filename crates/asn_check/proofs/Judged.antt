-- What is told of definitions one by one, and which are given as they are read by that.
use Rattle.std.proofs.Common.{◌≡◌, ℕ, zero, suc, ◌+◌, ◌<◌, ◌≤◌, List, [], ◌∷◌, ◌++◌, map, length, drop, get_or, Bool, true, false, Option, Some, None, refl, sym, ap, ◌∙◌, subst, arith, append_assoc, append-nil}
use Rattle.std.specs.Prelude.{if◌then◌else◌}
use Rattle.std.specs.List.{Contains}
use Rattle.std.specs.Str.{bytes_eq}
use Rattle.std.proofs.lemmas.List.{drop_more, drop_all}
use Rattle.std.proofs.lemmas.Slice.Eq.{bytes_eq-Decides}
use Rattle.asn_tree.specs.declared.definitions.ToplevelDefinition.{ToplevelDefinition}
use Rattle.asn_check.specs.Judged.{AreJudgements, AreWithheld, IsJudgementOf, is_withheld}
use Rattle.asn_check.proofs.Warned.{name_there}
use Rattle.asn_link.specs.Linked.{is_told}
use Rattle.asn_names.specs.declared.faults.Judgement.{Judgement}
use Rattle.asn_names.specs.declared.faults.Judgement.TheVariants.{NotJudged, Faultless, Faulty}
use Rattle.asn_names.specs.Faults.{IsFaulty, IsJudgement}
use Rattle.asn_names.proofs.Faultless.{one_judgement}
use Rattle.asn_names_index.specs.Definitions.{Definitions, IsStanding, last_named, name_of}

-- ---- one definition after the other

module _ (defs : Definitions) {X : Type 0} (f : X → List ℕ) (items : List X) where
  -- with what is told of the names behind, whatever this is, what was told so far is told of all names
  abbrev pub AreSoFar : List X → List Judgement → Type 0
  AreSoFar behind so_far = (later : List Judgement) → AreJudgements defs (map f behind) later → AreJudgements defs (map f items) (so_far ++ later)

  pub judged_begun : (so_far : List Judgement) → so_far ≡ [] → AreSoFar items so_far
  judged_begun so_far none later h = subst (λ js. AreJudgements defs (map f items) (js ++ later)) (sym none) h

  pub judged_next : (i : ℕ) (x : X) (so_far all : List Judgement) (j : Judgement) → i < length items → x ≡ get_or items i x → AreSoFar (drop i items) so_far →
      IsJudgementOf defs (f x) (last_named defs (f x)) j → all ≡ so_far ++ j ∷ [] → AreSoFar (drop (i + 1) items) all
  judged_next i x so_far all j lt is so on e later h =
      let first : drop i items ≡ x ∷ drop (i + 1) items = drop_more items i x lt ∙ ap (λ y. y ∷ drop (i + 1) items) (sym is) in
      let with_here : AreJudgements defs (map f (drop i items)) (j ∷ later) = subst (λ ys. AreJudgements defs (map f ys) (j ∷ later)) (sym first) (on, h) in
      subst (AreJudgements defs (map f items)) (sym (ap (λ js. js ++ later) e ∙ append_assoc so_far (j ∷ []) later)) (so (j ∷ later) with_here)

  pub judged_all : (i : ℕ) (so_far : List Judgement) → length items ≤ i → AreSoFar (drop i items) so_far → AreJudgements defs (map f items) so_far
  judged_all i so_far le so =
      subst (AreJudgements defs (map f items)) (append-nil so_far) (so [] (subst (λ ys. AreJudgements defs (map f ys) []) (sym (drop_all i items le)) tt))

-- ---- what is told at a place

module _ (defs : Definitions) {X : Type 0} (f : X → List ℕ) where
  pub judged_there : (items : List X) (js : List Judgement) (i : ℕ) → AreJudgements defs (map f items) js → i < length items → i < length js
  judged_there [] js i all lt = absurd (omega (arith, lt))
  judged_there (y ∷ items) [] i all lt = absurd all
  judged_there (y ∷ items) (j ∷ js) zero all lt = omega arith
  judged_there (y ∷ items) (j ∷ js) (suc i) all lt = let l = judged_there items js i all.1 (omega (arith, lt)) in omega (arith, l)

  pub judged_at : (items : List X) (js : List Judgement) (i : ℕ) (x : X) (j : Judgement) → AreJudgements defs (map f items) js → i < length items → x ≡ get_or items i x → j ≡ get_or js i j →
      IsJudgementOf defs (f x) (last_named defs (f x)) j
  judged_at [] js i x j all lt is told = absurd (omega (arith, lt))
  judged_at (y ∷ items) [] i x j all lt is told = absurd all
  judged_at (y ∷ items) (k ∷ js) zero x j all lt is told =
      subst (λ z. IsJudgementOf defs (f z) (last_named defs (f z)) j) (sym is) (subst (IsJudgementOf defs (f y) (last_named defs (f y))) (sym told) all.0)
  judged_at (y ∷ items) (k ∷ js) (suc i) x j all lt is told = judged_at items js i x j all.1 (omega (arith, lt)) is told

-- as much is told as there are names
pub judged_long : (defs : Definitions) (names : List (List ℕ)) (js : List Judgement) → AreJudgements defs names js → length js ≡ length names
judged_long defs [] [] all = refl
judged_long defs [] (j ∷ js) all = absurd all
judged_long defs (n ∷ names) [] all = absurd all
judged_long defs (n ∷ names) (j ∷ js) all = ap suc (judged_long defs names js all.1)

-- ---- what is given as it is read

faulty_here : (defs : Definitions) (n : List ℕ) (o : Option ToplevelDefinition) → last_named defs n ≡ o → (j : Judgement) → IsJudgementOf defs n o j → is_withheld j ≡ true → IsFaulty defs n
faulty_here defs n None is j h w = absurd (let bad = sym (ap is_withheld h) ∙ w in cc)
faulty_here defs n (Some d) is NotJudged h w = absurd cc
faulty_here defs n (Some d) is Faultless h w = absurd cc
faulty_here defs n (Some d) is (Faulty f) h w = record { definition = d; stands = is; fault = f; told = h }

withheld_here : (defs : Definitions) (n : List ℕ) → IsFaulty defs n → (j : Judgement) → IsJudgementOf defs n (last_named defs n) j → is_withheld j ≡ true
withheld_here defs n f j h =
    let at : IsJudgement defs n f.definition j = subst (λ o. IsJudgementOf defs n o j) f.stands h in
    ap is_withheld (one_judgement defs n f.definition j (Faulty f.fault) at f.told)

told_faulty : (defs : Definitions) (names : List (List ℕ)) (js : List Judgement) (name : List ℕ) → AreJudgements defs names js → is_told names (map is_withheld js) name ≡ true → IsFaulty defs name
told_faulty defs [] js name all e = absurd cc
told_faulty defs (n ∷ names) [] name all e = absurd all
told_faulty defs (n ∷ names) (j ∷ js) name all e = go (λ h. told_faulty defs names js name all.1 h) (bytes_eq n name) refl e
  where
    go : (is_told names (map is_withheld js) name ≡ true → IsFaulty defs name) → (b : Bool) → bytes_eq n name ≡ b →
        (if b then is_withheld j else is_told names (map is_withheld js) name) ≡ true → IsFaulty defs name
    go later true is h = subst (IsFaulty defs) ((bytes_eq-Decides n name).0 is) (faulty_here defs n (last_named defs n) refl j all.0 h)
    go later false is h = later h

faulty_told : (defs : Definitions) (names : List (List ℕ)) (js : List Judgement) (name : List ℕ) → AreJudgements defs names js → Contains names name → IsFaulty defs name → is_told names (map is_withheld js) name ≡ true
faulty_told defs [] js name all (k, lt, is) f = absurd (omega (arith, lt))
faulty_told defs (n ∷ names) [] name all c f = absurd all
faulty_told defs (n ∷ names) (j ∷ js) name all c f = go (λ d. faulty_told defs names js name all.1 d f) (bytes_eq n name) refl
  where
    later : Contains (n ∷ names) name → bytes_eq n name ≡ false → Contains names name
    later (zero, lt, e) is = absurd (let bad = sym ((bytes_eq-Decides n name).1 e) ∙ is in cc)
    later (suc k, lt, e) is = (k, omega (arith, lt), e)

    go : (Contains names name → is_told names (map is_withheld js) name ≡ true) → (b : Bool) → bytes_eq n name ≡ b →
        (if b then is_withheld j else is_told names (map is_withheld js) name) ≡ true
    go there true is = withheld_here defs n (subst (IsFaulty defs) (sym ((bytes_eq-Decides n name).0 is)) f) j all.0
    go there false is = there (later c is)

-- by the names of the definitions that stand
pub are_withheld : (defs read : Definitions) (js : List Judgement) → IsStanding defs read → AreJudgements defs (map name_of read) js → (ds : Definitions) →
    AreWithheld defs ds (map (λ d. is_told (map name_of read) (map is_withheld js) (name_of d)) ds)
are_withheld defs read js stand all [] = tt
are_withheld defs read js stand all (d ∷ ds) = (
  (
    λ e. told_faulty defs (map name_of read) js (name_of d) all e,
    λ f. faulty_told defs (map name_of read) js (name_of d) all (name_there (name_of d) read (f.definition, stand.each (name_of d) ∙ f.stands)) f,
  ),
  are_withheld defs read js stand all ds,
)
