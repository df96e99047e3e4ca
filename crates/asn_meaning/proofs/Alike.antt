-- Options, lists and scopes of which the second differs from the first in tags alone.
use Rattle.std.specs.Prelude.{cond, is_some, if◌then◌else◌}
use Rattle.std.specs.List.{filter, find, list_all}
use Rattle.std.specs.Option.{option_map}
use Rattle.std.specs.Str.{bytes_eq}
use Rattle.std.proofs.Common.{◌≡◌, ℕ, Bool, true, false, ◌&&◌, List, [], ◌∷◌, ◌++◌, map, Option, Some, None, refl, sym, subst, ap, ◌∙◌}
use Rattle.asn_meaning.specs.Answers.{Answer, both, each, once}
use Rattle.asn_meaning.specs.Scopes.{Scope, Empty, Binds, LeavesOpen, Argument, Bound, bound_to, Place}
use Rattle.asn_meaning.specs.Tags.{TagChange, BothAlike, PlacesAlike, ScopesAlike, tagged_governor, tagged_parameter}
use Rattle.asn_meaning.specs.Kinds.{kind_of}
use Rattle.asn_meaning.proofs.TagLayers.{kind_kept, type_kind_kept}

-- ---- options

pub once_alike : {A B : Type 0} (R : A → A → Type 0) (u : B) (a b : Option A) (g h : A → B) → BothAlike R a b → ((x y : A) → R x y → h y ≡ g x) → once u b h ≡ once u a g
once_alike R u None b g h e k = ap (λ z. once u z h) e
once_alike R u (Some x) b g h (y, r, e) k = ap (λ z. once u z h) e ∙ k x y r

pub once_both : {A B : Type 0} (R : A → A → Type 0) (S : B → B → Type 0) (a b : Option A) (g h : A → Option B) → BothAlike R a b → ((x y : A) → R x y → BothAlike S (g x) (h y)) → BothAlike S (once None a g) (once None b h)
once_both R S None b g h e k = ap (λ z. once None z h) e
once_both R S (Some x) b g h (y, r, e) k = subst (λ z. BothAlike S (g x) (once None z h)) (sym e) (k x y r)

pub if_alike : {A : Type 0} (R : A → A → Type 0) (b : Bool) (x y u v : Option A) → BothAlike R x y → BothAlike R u v → BothAlike R (if b then x else u) (if b then y else v)
if_alike R true x y u v p q = p
if_alike R false x y u v p q = q

pub is_some_alike : {A : Type 0} (R : A → A → Type 0) (a b : Option A) → BothAlike R a b → is_some b ≡ is_some a
is_some_alike R None b e = ap is_some e
is_some_alike R (Some x) b (y, r, e) = ap is_some e

pub mapped_alike : {A : Type 0} (R : A → A → Type 0) (s : A → A) (a b : Option A) → b ≡ option_map s a → ((x : A) → R x (s x)) → BothAlike R a b
mapped_alike R s None b e k = e
mapped_alike R s (Some x) b e k = (s x, k x, e)

pub once_mapped : {A C B : Type 0} (s : A → C) (u : B) (a : Option A) (g : A → B) (h : C → B) → ((x : A) → h (s x) ≡ g x) → once u (option_map s a) h ≡ once u a g
once_mapped s u None g h k = refl
once_mapped s u (Some x) g h k = k x

pub once_through : {A C B D : Type 0} (s : A → C) (t : B → D) (a : Option A) (g : A → Option B) (h : C → Option D) → ((x : A) → h (s x) ≡ option_map t (g x)) → once None (option_map s a) h ≡ option_map t (once None a g)
once_through s t None g h k = refl
once_through s t (Some x) g h k = k x

pub once_same : {A B : Type 0} (u : B) (a : Option A) (g h : A → B) → ((x : A) → h x ≡ g x) → once u a h ≡ once u a g
once_same u None g h k = refl
once_same u (Some x) g h k = k x

pub if_mapped : {A C : Type 0} (s : A → C) (b : Bool) (x y : Option A) → (if b then option_map s x else option_map s y) ≡ option_map s (if b then x else y)
if_mapped s true x y = refl
if_mapped s false x y = refl

pub find_mapped : {A C : Type 0} (s : A → C) (p : C → Bool) (q : A → Bool) → ((x : A) → p (s x) ≡ q x) → (xs : List A) → find p (map s xs) ≡ option_map s (find q xs)
find_mapped s p q k [] = refl
find_mapped s p q k (x ∷ xs) = ap (λ b. cond b (Some (s x)) (find p (map s xs))) (k x) ∙ ap (λ o. cond (q x) (Some (s x)) o) (find_mapped s p q k xs) ∙ split (q x)
  where
    split : (b : Bool) → cond b (Some (s x)) (option_map s (find q xs)) ≡ option_map s (cond b (Some x) (find q xs))
    split true = refl
    split false = refl

-- ---- lists

abbrev pub AllAlike : {A : Type 0} → (A → A → Type 0) → List A → List A → Type 0
AllAlike R [] b = b ≡ []
AllAlike R (x ∷ xs) b = (y : _) × (ys : List _) × R x y × AllAlike R xs ys × (b ≡ y ∷ ys)

module _ {A : Type 0} (R : A → A → Type 0) where
  pub append_alike : (xs ys us vs : List A) → AllAlike R xs us → AllAlike R ys vs → AllAlike R (xs ++ ys) (us ++ vs)
  append_alike [] ys us vs p q = subst (λ z. AllAlike R ys (z ++ vs)) (sym p) q
  append_alike (x ∷ xs) ys us vs (y, zs, r, s, e) q = (y, zs ++ vs, r, append_alike xs ys zs vs s q, ap (λ z. z ++ vs) e)

  pub find_alike : (p q : A → Bool) → ((x y : A) → R x y → q y ≡ p x) → (xs us : List A) → AllAlike R xs us → BothAlike R (find p xs) (find q us)
  find_alike p q k [] us e = ap (find q) e
  find_alike p q k (x ∷ xs) us (y, ys, r, s, e) =
      subst (λ z. BothAlike R (find p (x ∷ xs)) (find q z)) (sym e)
      (subst (λ b. BothAlike R (find p (x ∷ xs)) (cond b (Some y) (find q ys))) (sym (k x y r)) (go (p x) (find_alike p q k xs ys s)))
    where
      go : (b : Bool) → BothAlike R (find p xs) (find q ys) → BothAlike R (cond b (Some x) (find p xs)) (cond b (Some y) (find q ys))
      go true h = (y, r, refl)
      go false h = h

  pub filter_alike : (p q : A → Bool) → ((x y : A) → R x y → q y ≡ p x) → (xs us : List A) → AllAlike R xs us → AllAlike R (filter p xs) (filter q us)
  filter_alike p q k [] us e = ap (filter q) e
  filter_alike p q k (x ∷ xs) us (y, ys, r, s, e) =
      subst (λ z. AllAlike R (filter p (x ∷ xs)) (filter q z)) (sym e)
      (subst (λ b. AllAlike R (filter p (x ∷ xs)) (cond b (y ∷ filter q ys) (filter q ys))) (sym (k x y r)) (go (p x) (filter_alike p q k xs ys s)))
    where
      go : (b : Bool) → AllAlike R (filter p xs) (filter q ys) → AllAlike R (cond b (x ∷ filter p xs) (filter p xs)) (cond b (y ∷ filter q ys) (filter q ys))
      go true h = (y, filter q ys, r, h, refl)
      go false h = h

  pub map_alike : (s : A → A) → ((x y : A) → R x y → R (s x) (s y)) → (xs us : List A) → AllAlike R xs us → AllAlike R (map s xs) (map s us)
  map_alike s k [] us e = ap (map s) e
  map_alike s k (x ∷ xs) us (y, ys, r, h, e) = (s y, map s ys, k x y r, map_alike s k xs ys h, ap (map s) e)

  pub each_alike : (g h : A → Answer) → ((x y : A) → R x y → h y ≡ g x) → (xs us : List A) → AllAlike R xs us → each h us ≡ each g xs
  each_alike g h k [] us e = ap (each h) e
  each_alike g h k (x ∷ xs) us (y, ys, r, s, e) = ap (each h) e ∙ ap (λ z. both z (each h ys)) (k x y r) ∙ ap (both (g x)) (each_alike g h k xs ys s)

  pub all_alike : (p q : A → Bool) → ((x y : A) → R x y → q y ≡ p x) → (xs us : List A) → AllAlike R xs us → list_all q us ≡ list_all p xs
  all_alike p q k [] us e = ap (list_all q) e
  all_alike p q k (x ∷ xs) us (y, ys, r, s, e) = ap (list_all q) e ∙ ap (λ z. z && list_all q ys) (k x y r) ∙ ap (λ z. p x && z) (all_alike p q k xs ys s)

  pub mapped_same : {B : Type 0} (g h : A → B) → ((x y : A) → R x y → h y ≡ g x) → (xs us : List A) → AllAlike R xs us → map h us ≡ map g xs
  mapped_same g h k [] us e = ap (map h) e
  mapped_same g h k (x ∷ xs) us (y, ys, r, s, e) = ap (map h) e ∙ ap (λ z. z ∷ map h ys) (k x y r) ∙ ap (λ z. g x ∷ z) (mapped_same g h k xs ys s)

-- ---- scopes

abbrev pub ArgumentsAlike : Argument → Argument → Type 0
ArgumentsAlike a b = (f : TagChange) × (scope : Scope) × ScopesAlike a.scope scope × (b ≡ record { tree = tagged_parameter f a.tree; scope = scope })

abbrev pub BoundsAlike : Bound → Bound → Type 0
BoundsAlike b c = (g : TagChange) × (argument : Option Argument) × BothAlike ArgumentsAlike b.argument argument × (c ≡ record { governor = tagged_governor g b.governor; argument = argument })

pub bound_alike : (s q : Scope) → ScopesAlike s q → (name : List ℕ) → BothAlike BoundsAlike (bound_to s name) (bound_to q name)
bound_alike Empty q e name = ap (λ z. bound_to z name) e
bound_alike (Binds dummy governor argument scope others) q (f, g, scope', others', a, b, e) name =
    subst (λ z. BothAlike BoundsAlike (bound_to (Binds dummy governor argument scope others) name) (bound_to z name)) (sym e)
    (if_alike BoundsAlike (bytes_eq dummy name) _ _ _ _ (
      record { governor = tagged_governor g governor; argument = Some (record { tree = tagged_parameter f argument; scope = scope' }) },
      (g, Some (record { tree = tagged_parameter f argument; scope = scope' }), (record { tree = tagged_parameter f argument; scope = scope' }, (f, scope', a, refl), refl), refl),
      refl,
    )
    (bound_alike others others' b name))
bound_alike (LeavesOpen dummy governor others) q (g, others', b, e) name =
    subst (λ z. BothAlike BoundsAlike (bound_to (LeavesOpen dummy governor others) name) (bound_to z name)) (sym e)
    (if_alike BoundsAlike (bytes_eq dummy name) _ _ _ _ (record { governor = tagged_governor g governor; argument = None }, (g, None, refl, refl), refl) (bound_alike others others' b name))

-- ---- places

pub scope_alike : (p q : Place) → PlacesAlike p q → ScopesAlike p.scope q.scope
scope_alike p q (f, s, a, e) = subst (ScopesAlike p.scope) (sym (ap (λ z. z.scope) e)) a

pub kind_alike : (p q : Place) (k : PlacesAlike p q) → kind_of q ≡ kind_kept k.0 (kind_of p)
kind_alike p q (f, s, a, e) = ap kind_of e ∙ type_kind_kept f p.ty
