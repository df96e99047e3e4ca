-- What the place of a name in a list tells.
use Rattle.std.proofs.Common.{◌≡◌, ℕ, zero, suc, ◌+◌, ◌<◌, List, [], ◌∷◌, ◌++◌, Bool, true, false, Option, Some, None, length, take, get_or, refl, sym, ap, ◌∙◌, subst, arith, rules, append_assoc, length-append, add-zero}
use Rattle.std.specs.Prelude.{is_some, if◌then◌else◌, fold, count_by, nat_lt, slice_get, cond}
use Rattle.std.proofs.lemmas.List.{take_more, length-take}
use Rattle.std.proofs.lemmas.Bool.Decides.{nat_tests}
use Rattle.std.proofs.lemmas.Slice.Eq.{bytes_eq-Decides}
use Rattle.std.specs.Str.{bytes_eq}
use Rattle.std.specs.Option.{option_copied}
use Rattle.std.proofs.Common.{Bor}
use Rattle.asn_tree.specs.declared.definitions.ToplevelDefinition.{ToplevelDefinition}
use Rattle.asn_names_index.specs.declared.names.LastPlace.{LastPlace}
use Rattle.asn_names_index.specs.Definitions.{Definitions, last_named, is_named, name_of}
use Rattle.asn_names_index.specs.Index.{gone_through, place_in}
use Rattle.asn_names_index.proofs.Seen.{last_append, or_else}

fold_snoc : {A B : Type 0} (f : B → A → B) (z : B) (xs : List A) (x : A) → fold f z (xs ++ x ∷ []) ≡ f (fold f z xs) x
fold_snoc f z [] x = refl
fold_snoc f z (y ∷ xs) x = fold_snoc f (f z y) xs x

counts : (q : List ℕ) (k : ℕ) (p : Option LastPlace) (ds : Definitions) → (fold (gone_through q) (k, p) ds).0 ≡ k + length ds
counts q k p [] = omega arith
counts q k p (d ∷ ds) =
    let more : ((k + 1) + length ds) ≡ (k + suc (length ds)) = omega arith in
    counts q (k + 1) (gone_through q (k, p) d).1 ds ∙ more

-- The place where one definition more was gone through.
pub place_more : (q : List ℕ) (ds : Definitions) (i : ℕ) (d : ToplevelDefinition) → i < length ds → place_in (take (i + 1) ds) q ≡ (if is_named q (get_or ds i d) then Some (record { at = i; is_repeated = is_some (place_in (take i ds) q) }) else place_in (take i ds) q)
place_more q ds i d lt =
    let long : length (take i ds) ≡ i = search (rules, length-take) in
    ap (λ xs. place_in xs q) (take_more ds i d lt)
    ∙ ap (λ s. s.1) (fold_snoc (gone_through q) (0, None) (take i ds) (get_or ds i d))
    ∙ ap (λ k. if is_named q (get_or ds i d) then Some (record { at = k; is_repeated = is_some (place_in (take i ds) q) }) else place_in (take i ds) q) (counts q 0 None (take i ds) ∙ ap (λ n. 0 + n) long ∙ omega arith)

-- The same of a map's answers, where the name was put into the map.
pub index_more : (q name : List ℕ) (ds : Definitions) (i : ℕ) (d : ToplevelDefinition) (repeated : Bool) (old : Option LastPlace) → i < length ds → name ≡ name_of (get_or ds i d) → old ≡ place_in (take i ds) q → repeated ≡ is_some (place_in (take i ds) name) → (if bytes_eq name q then Some (record { at = i; is_repeated = repeated }) else old) ≡ place_in (take (i + 1) ds) q
index_more q name ds i d repeated old lt is was again = go (bytes_eq name q) refl ∙ sym (place_more q ds i d lt)
  where
    go : (b : Bool) → bytes_eq name q ≡ b → (if b then Some (record { at = i; is_repeated = repeated }) else old) ≡ (if is_named q (get_or ds i d) then Some (record { at = i; is_repeated = is_some (place_in (take i ds) q) }) else place_in (take i ds) q)
    go true e =
        let same : name ≡ q = (bytes_eq-Decides name q).0 e in
        let test : is_named q (get_or ds i d) ≡ true = ap (λ n. bytes_eq n q) (sym is) ∙ e in
        ap (λ b. Some (record { at = i; is_repeated = b })) (again ∙ ap (λ n. is_some (place_in (take i ds) n)) same)
        ∙ sym (ap (λ b. if b then Some (record { at = i; is_repeated = is_some (place_in (take i ds) q) }) else place_in (take i ds) q) test)
    go false e =
        let test : is_named q (get_or ds i d) ≡ false = ap (λ n. bytes_eq n q) (sym is) ∙ e in
        was ∙ sym (ap (λ b. if b then Some (record { at = i; is_repeated = is_some (place_in (take i ds) q) }) else place_in (take i ds) q) test)

count_append : {A : Type 0} (p : A → Bool) (xs : List A) (x : A) → count_by p (xs ++ x ∷ []) ≡ count_by p xs + cond (p x) 1 0
count_append p xs x = fold_snoc (λ n y. n + cond (p y) 1 0) 0 xs x

get_push : {A : Type 0} (xs : List A) (x : A) → slice_get (xs ++ x ∷ []) (length xs) ≡ Some x
get_push [] x = refl
get_push (y ∷ xs) x = get_push xs x

get_front : {A : Type 0} (xs : List A) (x : A) (i : ℕ) → i < length xs → slice_get (xs ++ x ∷ []) i ≡ slice_get xs i
get_front [] x i lt = absurd (omega arith)
get_front (y ∷ xs) x zero lt = refl
get_front (y ∷ xs) x (suc i) lt = get_front xs x i (omega arith)

-- What is so of the place of a name among the definitions.
pub record IsThere (q : List ℕ) (ds : Definitions) (p : LastPlace) : Type 0 where
  pub within : p.at < length ds
  pub seen : slice_get ds p.at ≡ last_named ds q
  pub some : (d : ToplevelDefinition) × (last_named ds q ≡ Some d)
  pub counted : 0 < count_by (is_named q) ds
  pub repeated : p.is_repeated ≡ nat_lt 1 (count_by (is_named q) ds)

pub record IsNowhere (q : List ℕ) (ds : Definitions) : Type 0 where
  pub unseen : last_named ds q ≡ None
  pub uncounted : count_by (is_named q) ds ≡ 0

abbrev pub Tells : List ℕ → Definitions → Option LastPlace → Type 0
Tells q ds None = IsNowhere q ds
Tells q ds (Some p) = IsThere q ds p

module _ (q : List ℕ) where
  stays : (ds : Definitions) (d : ToplevelDefinition) (p : Option LastPlace) → is_named q d ≡ false → Tells q ds p → Tells q (ds ++ d ∷ []) p
  stays ds d None e t =
      let same = last_append q ds (d ∷ []) ∙ ap (λ b. or_else (if b then Some d else None) (last_named ds q)) e in
      let count = count_append (is_named q) ds d ∙ ap (λ b. count_by (is_named q) ds + cond b 1 0) e in
      record { unseen = same ∙ t.unseen; uncounted = omega (arith, count, t.uncounted) }
  stays ds d (Some p) e t =
      let same = last_append q ds (d ∷ []) ∙ ap (λ b. or_else (if b then Some d else None) (last_named ds q)) e in
      let count : count_by (is_named q) (ds ++ d ∷ []) ≡ count_by (is_named q) ds = count_append (is_named q) ds d ∙ ap (λ b. count_by (is_named q) ds + cond b 1 0) e ∙ add-zero (count_by (is_named q) ds) in
      record {
        within = omega (arith, t.within, length-append ds (d ∷ []));
        seen = get_front ds d p.at t.within ∙ t.seen ∙ sym same;
        some = (t.some.0, same ∙ t.some.1);
        counted = omega (arith, count, t.counted);
        repeated = t.repeated ∙ ap (nat_lt 1) (sym count);
      }

  moves : (ds : Definitions) (d : ToplevelDefinition) (p : Option LastPlace) → is_named q d ≡ true → Tells q ds p → Tells q (ds ++ d ∷ []) (Some (record { at = length ds; is_repeated = is_some p }))
  moves ds d p e t =
      let same : last_named (ds ++ d ∷ []) q ≡ Some d = last_append q ds (d ∷ []) ∙ ap (λ b. or_else (if b then Some d else None) (last_named ds q)) e in
      let count : count_by (is_named q) (ds ++ d ∷ []) ≡ count_by (is_named q) ds + 1 = count_append (is_named q) ds d ∙ ap (λ b. count_by (is_named q) ds + cond b 1 0) e in
      record {
        within = omega (arith, length-append ds (d ∷ []));
        seen = get_push ds d ∙ sym same;
        some = (d, same);
        counted = omega (arith, count);
        repeated = several p t ∙ ap (nat_lt 1) (sym count);
      }
    where
      several : (p : Option LastPlace) → Tells q ds p → is_some p ≡ nat_lt 1 (count_by (is_named q) ds + 1)
      several None t = sym (ap (λ n. nat_lt 1 (n + 1)) t.uncounted)
      several (Some p) t = let h = t.counted in grind (arith, nat_tests)

  on : (done rest : Definitions) (p : Option LastPlace) → Tells q done p → Tells q (done ++ rest) (fold (gone_through q) (length done, p) rest).1
  on done [] p t = subst (λ ds. Tells q ds p) (sym (append_nil done)) t
    where
      append_nil : (xs : Definitions) → xs ++ [] ≡ xs
      append_nil [] = refl
      append_nil (x ∷ xs) = ap (λ ys. x ∷ ys) (append_nil xs)
  on done (d ∷ rest) p t =
      let long : length (done ++ d ∷ []) ≡ length done + 1 = omega (arith, length-append done (d ∷ [])) in
      let next : Option LastPlace = (gone_through q (length done, p) d).1 in
      let step : Tells q (done ++ d ∷ []) next = go (is_named q d) refl in
      let all = on (done ++ d ∷ []) rest next step in
      subst (λ ds. Tells q ds (fold (gone_through q) (length done + 1, next) rest).1) (append_assoc done (d ∷ []) rest)
      (subst (λ k. Tells q ((done ++ d ∷ []) ++ rest) (fold (gone_through q) (k, next) rest).1) long all)
    where
      go : (b : Bool) → is_named q d ≡ b → Tells q (done ++ d ∷ []) (if b then Some (record { at = length done; is_repeated = is_some p }) else p)
      go true e = moves done d p e t
      go false e = stays done d p e t

  pub tells : (ds : Definitions) → Tells q ds (place_in ds q)
  tells ds = on [] ds None (record { unseen = refl; uncounted = refl })

pub some_copied : {A : Type 0} (o : Option (Bor A)) → is_some (option_copied o) ≡ is_some o
some_copied None = refl
some_copied (Some x) = refl
