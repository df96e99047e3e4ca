-- A scope in which some dummies of another one have got arguments, and what it binds names to.
use Rattle.std.proofs.Common.{◌≡◌, ℕ, ◌⊎◌, inl, inr, Bool, true, false, List, [], ◌∷◌, Option, Some, None, refl, sym, subst, ap, if◌then◌else◌}
use Rattle.std.specs.Prelude.{is_some}
use Rattle.std.specs.Str.{bytes_eq}
use Rattle.asn_tree.specs.declared.constraints.Parameter.{Parameter}
use Rattle.asn_tree.specs.declared.definitions.ParameterizationArgument.{ParameterizationArgument}
use Rattle.asn_meaning.specs.Answers.{once}
use Rattle.asn_meaning.specs.Scopes.{Scope, Empty, Binds, LeavesOpen, Argument, Bound, bound_to, entered, Place}
use Rattle.asn_meaning_endless.specs.Keys.{left_open}

-- The second scope is the first, but that some dummies without an argument have one.
abbrev pub Fills : Scope → Scope → Type 0
Fills Empty t = t ≡ Empty
Fills (Binds d g a scope others) t = (s : Scope) × (o : Scope) × Fills scope s × Fills others o × (t ≡ Binds d g a s o)
Fills (LeavesOpen d g others) t = (o : Scope) × Fills others o × ((t ≡ LeavesOpen d g o) ⊎ ((a : Parameter) × (s : Scope) × (t ≡ Binds d g a s o)))

pub itself : (s : Scope) → Fills s s
itself Empty = refl
itself (Binds d g a scope others) = (scope, others, itself scope, itself others, refl)
itself (LeavesOpen d g others) = (others, itself others, inl refl)

abbrev pub ArgumentFilled : Option Argument → Option Argument → Type 0
ArgumentFilled None v = Unit {0}
ArgumentFilled (Some a) v = (s : Scope) × Fills a.scope s × (v ≡ Some (record { tree = a.tree; scope = s }))

abbrev pub BoundFilled : Option Bound → Option Bound → Type 0
BoundFilled None u = u ≡ None
BoundFilled (Some b) u = (c : Bound) × (c.governor ≡ b.governor) × ArgumentFilled b.argument c.argument × (u ≡ Some c)

chosen : (b : Bool) (x y u v : Option Bound) → BoundFilled x y → BoundFilled u v → BoundFilled (if b then x else u) (if b then y else v)
chosen true x y u v p q = p
chosen false x y u v p q = q

pub bound_filled : (s t : Scope) → Fills s t → (name : List ℕ) → BoundFilled (bound_to s name) (bound_to t name)
bound_filled Empty t e name = ap (λ z. bound_to z name) e
bound_filled (Binds d g a scope others) t (s, o, f, h, e) name =
    subst (λ z. BoundFilled (bound_to (Binds d g a scope others) name) (bound_to z name)) (sym e)
    (chosen (bytes_eq d name) (Some (record { governor = g; argument = Some (record { tree = a; scope = scope }) })) (Some (record { governor = g; argument = Some (record { tree = a; scope = s }) }))
    (bound_to others name) (bound_to o name) (record { governor = g; argument = Some (record { tree = a; scope = s }) }, refl, (s, f, refl), refl) (bound_filled others o h name))
bound_filled (LeavesOpen d g others) t (o, h, inl e) name =
    subst (λ z. BoundFilled (bound_to (LeavesOpen d g others) name) (bound_to z name)) (sym e)
    (chosen (bytes_eq d name) (Some (record { governor = g; argument = None })) (Some (record { governor = g; argument = None }))
    (bound_to others name) (bound_to o name) (record { governor = g; argument = None }, refl, tt, refl) (bound_filled others o h name))
bound_filled (LeavesOpen d g others) t (o, h, inr (a, s, e)) name =
    subst (λ z. BoundFilled (bound_to (LeavesOpen d g others) name) (bound_to z name)) (sym e)
    (chosen (bytes_eq d name) (Some (record { governor = g; argument = None })) (Some (record { governor = g; argument = Some (record { tree = a; scope = s }) }))
    (bound_to others name) (bound_to o name) (record { governor = g; argument = Some (record { tree = a; scope = s }) }, refl, tt, refl) (bound_filled others o h name))

is_some_filled : (x y : Option Bound) → BoundFilled x y → is_some y ≡ is_some x
is_some_filled None y e = ap is_some e
is_some_filled (Some b) y (c, g, a, e) = ap is_some e

-- a dummy stays one, and no other name becomes one
pub dummy_filled : (s t : Scope) → Fills s t → (name : List ℕ) → is_some (bound_to t name) ≡ is_some (bound_to s name)
dummy_filled s t f name = is_some_filled (bound_to s name) (bound_to t name) (bound_filled s t f name)

-- ---- argument lists

abbrev pub ScopeFilled : Option Scope → Option Scope → Type 0
ScopeFilled None v = Unit {0}
ScopeFilled (Some s) v = (t : Scope) × Fills s t × (v ≡ Some t)

bound_more : (s t : Scope) → Fills s t → (d : ParameterizationArgument) (a : Parameter) (x y : Option Scope) → ScopeFilled x y →
    ScopeFilled (once None x (λ others. Some (Binds d.dummy_reference d.param_governor a s others))) (once None y (λ others. Some (Binds d.dummy_reference d.param_governor a t others)))
bound_more s t f d a None y r = tt
bound_more s t f d a (Some o) y (u, h, e) =
    (Binds d.dummy_reference d.param_governor a t u, (t, u, f, h, refl), ap (λ z. once None z (λ others. Some (Binds d.dummy_reference d.param_governor a t others))) e)

pub entered_filled : (s t : Scope) → Fills s t → (ds : List ParameterizationArgument) (arguments : List Parameter) → ScopeFilled (entered s ds arguments) (entered t ds arguments)
entered_filled s t f [] arguments = (Empty, refl, refl)
entered_filled s t f (d ∷ ds) [] = tt
entered_filled s t f (d ∷ ds) (a ∷ arguments) = bound_more s t f d a (entered s ds arguments) (entered t ds arguments) (entered_filled s t f ds arguments)

-- the scope that a list gives fills the one of the dummies without arguments
abbrev pub Opened : Scope → Option Scope → Type 0
Opened s None = Unit {0}
Opened s (Some t) = Fills s t

one_opened : (s : Scope) (d : ParameterizationArgument) (a : Parameter) (o : Scope) (x : Option Scope) → Opened o x →
    Opened (LeavesOpen d.dummy_reference d.param_governor o) (once None x (λ others. Some (Binds d.dummy_reference d.param_governor a s others)))
one_opened s d a o None h = tt
one_opened s d a o (Some u) h = (u, h, inr (a, s, refl))

pub opened : (s : Scope) (ds : List ParameterizationArgument) (arguments : List Parameter) → Opened (left_open ds) (entered s ds arguments)
opened s [] arguments = refl
opened s (d ∷ ds) [] = tt
opened s (d ∷ ds) (a ∷ arguments) = one_opened s d a (left_open ds) (entered s ds arguments) (opened s ds arguments)

-- ---- places

-- the same type, in a scope that fills the other's
abbrev pub PlaceFilled : Place → Place → Type 0
PlaceFilled p q = (s : Scope) × Fills p.scope s × (q ≡ record { scope = s; ty = p.ty })

pub place_itself : (p : Place) → PlaceFilled p p
place_itself p = (p.scope, itself p.scope, refl)
