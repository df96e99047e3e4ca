-- The definitions at the places of an index are those that stand.
use Rattle.std.proofs.Common.{◌≡◌, ℕ, List, [], ◌∷◌, Bool, true, false, Option, Some, None, map, refl, sym, ap, ◌∙◌, subst}
use Rattle.std.specs.Prelude.{IfOk, Result, Ok, Err, is_some, if◌then◌else◌, slice_get, cond, string_bytes, String}
use Rattle.std.specs.Global.{Global}
use Rattle.std.specs.BTreeMap.{BTreeMap, get, get_by_text, is_at, IsOrdered, keys}
use Rattle.std.specs.Map.{lookup, keys_of}
use Rattle.std.specs.Cmp.Lexicographic.{slice_cmp}
use Rattle.std.specs.List.{All, AllByRecursion}
use Rattle.std.specs.List.Sorted.{IsStrictlySortedBy}
use Rattle.std.specs.Ordering.{nat_cmp}
use Rattle.std.specs.declared.cmp.Ordering.TheVariants.{Less}
use Rattle.std.specs.Str.{bytes_eq}
use Rattle.std.specs.String.{string_cmp}
use Rattle.std.proofs.lemmas.List.Elements.{All-head, All-tail}
use Rattle.std.proofs.lemmas.Map.Text.{is_eq-slice_cmp}
use Rattle.std.proofs.lemmas.Slice.Eq.{bytes_eq-Decides}
use Rattle.asn_tree.specs.declared.definitions.ToplevelDefinition.{ToplevelDefinition}
use Rattle.asn_names_index.specs.declared.names.LastPlace.{LastPlace}
use Rattle.asn_names_index.specs.Definitions.{Definitions, last_named, is_named, name_of, IsStanding}
use Rattle.asn_names_index.specs.Index.{IsIndexOf, found_at, before}
use Rattle.asn_names_index.proofs.LastPlaces.{Tells, IsThere, tells}
use Rattle.asn_names_index.proofs.Seen.{last_is_named, or_else, or_else_none}

module _ (defs : Definitions) (index : BTreeMap (String Global) LastPlace) (is : IsIndexOf defs index) where
  -- an entry of the map, by what the map answers for its key
  abbrev Entry : String Global × LastPlace → Type 0
  Entry e = get string_cmp index e.0 ≡ Some e.1

  -- the definition of an entry's key
  at_entry : (e : String Global × LastPlace) → Entry e → (d : ToplevelDefinition) × (slice_get defs e.1.at ≡ Some d) × (last_named defs (string_bytes e.0) ≡ Some d) × (name_of d ≡ string_bytes e.0)
  at_entry e h =
      let q = string_bytes e.0 in
      let there : IsThere q defs e.1 = subst (Tells q defs) (sym (is q) ∙ h) (tells q defs) in
      let d = there.some.0 in
      let named : is_named q d ≡ true = last_is_named q defs d there.some.1 in
      (d, there.seen ∙ there.some.1, there.some.1, (bytes_eq-Decides (name_of d) q).0 named)

  names_found : (es : List (String Global × LastPlace)) → All Entry es → map name_of (found_at defs es) ≡ map string_bytes (keys_of es)
  names_found [] h = refl
  names_found (e ∷ es) h =
      let a = at_entry e (All-head Entry e es h) in
      ap (λ o. map name_of (before o (found_at defs es))) a.1
      ∙ ap (λ ns. name_of a.0 ∷ ns) (names_found es (All-tail Entry e es h))
      ∙ ap (λ n. n ∷ map string_bytes (keys_of es)) a.3

  abbrev asks : List ℕ → String Global → Bool
  asks q = is_at (λ k. slice_cmp nat_cmp q (string_bytes k))

  found : (q : List ℕ) (es : List (String Global × LastPlace)) → All Entry es → last_named (found_at defs es) q ≡ cond (is_some (lookup (asks q) es)) (last_named defs q) None
  found q [] h = refl
  found q (e ∷ es) h = ap (λ o. last_named (before o (found_at defs es)) q) a.1 ∙ go (asks q e.0) refl (found q es (All-tail Entry e es h))
    where
      a : (d : ToplevelDefinition) × (slice_get defs e.1.at ≡ Some d) × (last_named defs (string_bytes e.0) ≡ Some d) × (name_of d ≡ string_bytes e.0)
      a = at_entry e (All-head Entry e es h)

      -- the key passes exactly where the definition has the name
      same : is_named q a.0 ≡ asks q e.0
      same = ap (λ n. bytes_eq n q) a.3 ∙ flips (string_bytes e.0) q ∙ sym (is_eq-slice_cmp q (string_bytes e.0))
        where
          flips : (xs ys : List ℕ) → bytes_eq xs ys ≡ bytes_eq ys xs
          flips xs ys = both (bytes_eq xs ys) (bytes_eq ys xs) refl refl
            where
              both : (b c : Bool) → bytes_eq xs ys ≡ b → bytes_eq ys xs ≡ c → b ≡ c
              both true true s t = refl
              both false false s t = refl
              both true false s t = let e = (bytes_eq-Decides ys xs).1 (sym ((bytes_eq-Decides xs ys).0 s)) in absurd cc
              both false true s t = let e = (bytes_eq-Decides xs ys).1 (sym ((bytes_eq-Decides ys xs).0 t)) in absurd cc

      stands : asks q e.0 ≡ true → last_named defs q ≡ Some a.0
      stands t =
          let key : q ≡ string_bytes e.0 = (bytes_eq-Decides q (string_bytes e.0)).0 (sym (is_eq-slice_cmp q (string_bytes e.0)) ∙ t) in
          ap (last_named defs) key ∙ a.2

      there : (b : Bool) → last_named (found_at defs es) q ≡ cond b (last_named defs q) None → last_named defs q ≡ Some a.0 → or_else (last_named (found_at defs es) q) (Some a.0) ≡ last_named defs q
      there true p s = ap (λ o. or_else o (Some a.0)) (p ∙ s) ∙ sym s
      there false p s = ap (λ o. or_else o (Some a.0)) p ∙ sym s

      go : (b : Bool) → asks q e.0 ≡ b → last_named (found_at defs es) q ≡ cond (is_some (lookup (asks q) es)) (last_named defs q) None → or_else (last_named (found_at defs es) q) (if is_named q a.0 then Some a.0 else None) ≡ cond (is_some (cond b (Some e.1) (lookup (asks q) es))) (last_named defs q) None
      go true t p =
          ap (λ c. or_else (last_named (found_at defs es) q) (if c then Some a.0 else None)) (same ∙ t)
          ∙ there (is_some (lookup (asks q) es)) p (stands t)
      go false t p =
          ap (λ c. or_else (last_named (found_at defs es) q) (if c then Some a.0 else None)) (same ∙ t)
          ∙ or_else_none (last_named (found_at defs es) q)
          ∙ p

  all_found : (q : List ℕ) → cond (is_some (get_by_text index q)) (last_named defs q) None ≡ last_named defs q
  all_found q = go (get_by_text index q) refl
    where
      go : (o : Option LastPlace) → get_by_text index q ≡ o → cond (is_some o) (last_named defs q) None ≡ last_named defs q
      go (Some p) e = refl
      go None e = let t = subst (Tells q defs) (sym (is q) ∙ e) (tells q defs) in sym t.unseen

  below_all : (k : String Global) (ks : List (String Global)) → AllByRecursion (λ y. string_cmp k y ≡ Less) ks → AllByRecursion (λ y. slice_cmp nat_cmp (string_bytes k) y ≡ Less) (map string_bytes ks)
  below_all k [] h = h
  below_all k (x ∷ ks) h = (h.0, below_all k ks h.1)

  sorted : (ks : List (String Global)) → IsStrictlySortedBy string_cmp ks → IsStrictlySortedBy (slice_cmp nat_cmp) (map string_bytes ks)
  unfolding IsStrictlySortedBy
  sorted [] h = h
  sorted (k ∷ ks) h = (below_all k ks h.0, sorted ks h.1)

  pub is_standing : IsOrdered string_cmp index → All Entry index.entries → IsStanding defs (found_at defs index.entries)
  is_standing ordered entries =
      record {
        ascending = subst (IsStrictlySortedBy (slice_cmp nat_cmp)) (sym (names_found index.entries entries)) (sorted (keys index) ordered);
        each = λ q. found q index.entries entries ∙ all_found q;
      }

-- What is so of a value is so of what equals it.
pub if_ok : {A B E : Type 0} (r : Result A E) (P : B → Type 0) (f : A → B) (y : B) → P y → IfOk r (λ x. f x ≡ y) → IfOk r (λ x. P (f x))
if_ok (Ok x) P f y h e = subst P (sym e) h
if_ok (Err x) P f y h e = e
