-- Argument lists one by one, and that an instance asks no more of them than how many there are.
use Rattle.std.proofs.Common.{◌≡◌, ℕ, ◌+◌, ◌<◌, List, [], ◌∷◌, drop, length, get_or, Option, Some, None, refl, sym, ap, ◌∙◌}
use Rattle.std.proofs.lemmas.List.{drop_more}
use Rattle.asn_tree.specs.declared.constraints.Constraint.{Constraint, Constraint-F, out-Constraint}
use Rattle.asn_tree.specs.declared.constraints.Parameter.{Parameter}
use Rattle.asn_meaning_heads.specs.Lists.{Lists, NoList, OneList, SeveralLists, counted, joined, with_layer}
use Rattle.asn_meaning.specs.Layers.{ConstraintLayer}
use Rattle.asn_meaning.specs.Names.{dummy_target, instance, list_at, lists_in}
use Rattle.asn_tree.specs.declared.definitions.ParameterGovernor.{ParameterGovernor}
use Rattle.asn_tree.specs.declared.definitions.ParameterGovernor.TheVariants as governor
use Rattle.asn_tree.specs.declared.definitions.Parameterization.{Parameterization}
use Rattle.asn_tree.specs.declared.definitions.ToplevelTypeDefinition.{ToplevelTypeDefinition}
use Rattle.asn_meaning.specs.Answers.{once}
use Rattle.asn_meaning.specs.Scopes.{Bound, Scope, bare, entered}

joined_layer : (lists : Lists) (c : ConstraintLayer) (others : List (List Parameter)) → joined lists (list_at c others) ≡ joined (with_layer lists c) others
joined_layer lists (Constraint-F.SubtypeConstraint set) others = refl
joined_layer lists (Constraint-F.TableConstraint table) others = refl
joined_layer lists (Constraint-F.Parameter arguments) others = refl
joined_layer lists (Constraint-F.ContentConstraint content) others = refl

pub joined_next : (lists : Lists) (cs : List Constraint) (i : ℕ) (c : Constraint) → i < length cs → c ≡ get_or cs i c →
    joined lists (lists_in (drop i cs)) ≡ joined (with_layer lists (out-Constraint c)) (lists_in (drop (i + 1) cs))
joined_next lists cs i c lt e =
    ap (λ xs. joined lists (lists_in xs)) (drop_more cs i c lt)
    ∙ ap (λ x. joined lists (lists_in (x ∷ drop (i + 1) cs))) (sym e)
    ∙ joined_layer lists (out-Constraint c) (lists_in (drop (i + 1) cs))

several : (lists : List (List Parameter)) → joined SeveralLists lists ≡ SeveralLists
several [] = refl
several (arguments ∷ others) = several others

-- ---- dummies

no_list : (lists : List (List Parameter)) → counted lists ≡ NoList → lists ≡ []
no_list [] e = refl
no_list (arguments ∷ []) e = absurd cc
no_list (arguments ∷ more ∷ others) e = let f = several others in absurd cc

with_lists : (b : Bound) (g : ParameterGovernor) (arguments : List Parameter) (others : List (List Parameter)) → dummy_target b g (arguments ∷ others) ≡ None
with_lists b governor.None arguments others = refl
with_lists b (governor.TypeOrClass ty) arguments others = refl
with_lists b (governor.Class name) arguments others = refl

pub dummy_alone : (b : Bound) (g : ParameterGovernor) (lists : List (List Parameter)) → counted lists ≡ NoList → dummy_target b g lists ≡ dummy_target b g []
dummy_alone b g lists e = ap (dummy_target b g) (no_list lists e)

pub dummy_with_list : (b : Bound) (g : ParameterGovernor) (lists : List (List Parameter)) (arguments : List Parameter) → counted lists ≡ OneList arguments → dummy_target b g lists ≡ None
dummy_with_list b g [] arguments e = absurd cc
dummy_with_list b g (first ∷ others) arguments e = with_lists b g first others

pub dummy_with_lists : (b : Bound) (g : ParameterGovernor) (lists : List (List Parameter)) → counted lists ≡ SeveralLists → dummy_target b g lists ≡ None
dummy_with_lists b g [] e = absurd cc
dummy_with_lists b g (first ∷ others) e = with_lists b g first others

-- ---- instances of templates

instance_lists : (scope : Scope) (d : ToplevelTypeDefinition) (p : Option Parameterization) (first second : List Parameter) (others : List (List Parameter)) →
    instance scope d p (first ∷ second ∷ others) ≡ None
instance_lists scope d None first second others = refl
instance_lists scope d (Some template) first second others = refl

one_list : (lists : List (List Parameter)) (arguments : List Parameter) → counted lists ≡ OneList arguments → lists ≡ arguments ∷ []
one_list [] arguments e = absurd cc
one_list (first ∷ []) arguments e = cc
one_list (first ∷ more ∷ others) arguments e = let f = several others in absurd cc

pub instance_alone : (scope : Scope) (d : ToplevelTypeDefinition) (p : Option Parameterization) (lists : List (List Parameter)) → counted lists ≡ NoList →
    instance scope d p lists ≡ instance scope d p []
instance_alone scope d p lists e = ap (instance scope d p) (no_list lists e)

pub instance_with_list : (scope : Scope) (d : ToplevelTypeDefinition) (p : Option Parameterization) (lists : List (List Parameter)) (arguments : List Parameter) →
    counted lists ≡ OneList arguments → instance scope d p lists ≡ instance scope d p (arguments ∷ [])
instance_with_list scope d p lists arguments e = ap (instance scope d p) (one_list lists arguments e)

pub instance_with_lists : (scope : Scope) (d : ToplevelTypeDefinition) (p : Option Parameterization) (lists : List (List Parameter)) → counted lists ≡ SeveralLists →
    instance scope d p lists ≡ None
instance_with_lists scope d p [] e = absurd cc
instance_with_lists scope d p (first ∷ []) e = absurd cc
instance_with_lists scope d p (first ∷ second ∷ others) e = instance_lists scope d p first second others

pub instance_entered : (scope : Scope) (d : ToplevelTypeDefinition) (p : Option Parameterization) (lists : List (List Parameter)) (template : Parameterization) (arguments : List Parameter) (inner : Scope) →
    counted lists ≡ OneList arguments → p ≡ Some template → entered scope template.parameters arguments ≡ Some inner → Some (bare inner d.ty) ≡ instance scope d p lists
instance_entered scope d p lists template arguments inner e f g =
    sym (instance_with_list scope d p lists arguments e ∙ ap (λ q. instance scope d q (arguments ∷ [])) f ∙ ap (λ s. once None s (λ i. Some (bare i d.ty))) g)
