-- What closed names stand for means what it meant.
use Rattle.std.proofs.Common.{List, None, Option, Some, [], ap, arith, false, inr, refl, subst, suc, sym, true, zero, ℕ, ◌+◌, ◌↔◌, ◌∙◌, ◌≡◌}
use Rattle.asn_tree.specs.declared.definitions.ToplevelTypeDefinition.{ToplevelTypeDefinition}
use Rattle.asn_tree.specs.declared.types.ASN1Type.{ASN1Type}
use Rattle.asn_meaning.specs.Accepts.{Accepts, Rejects}
use Rattle.asn_meaning.specs.Answers.{once}
use Rattle.asn_meaning.specs.Definitions.{Definitions, type_named}
use Rattle.asn_meaning.specs.Plain.{IsPlain}
use Rattle.asn_meaning.specs.Scopes.{Empty, bare}
use Rattle.asn_meaning.specs.ValueTrees.{ValueTree}
use Rattle.asn_link_instance.specs.Closed.{AreClosed, LinkedDefinition, every_name}
use Rattle.asn_link_instance.specs.Instance.{instance}
use Rattle.asn_link_instance.specs.Linked.{LinkedBy, LinkedTarget}
use Rattle.asn_link_instance.specs.Literals.{literals}
use Rattle.asn_link_instance.specs.Staying.{Names, NamesStay}
use Rattle.asn_link_instance.proofs.FewerTypes.{fewer_names}
use Rattle.asn_link_instance.proofs.Kept.{linked_types_mean_the_same}
use Rattle.asn_link_instance.proofs.Literals.{literals_kept}
use Rattle.asn_link_instance.proofs.LiteralsPlain.{literals_plain}
use Rattle.asn_link_instance.proofs.PlainTypes.{instances_are_plain}
use Rattle.asn_meaning.specs.Names as names

target_is : (d : ToplevelTypeDefinition) → d.parameterization ≡ None → names.instance Empty d d.parameterization [] ≡ Some (bare Empty d.ty)
target_is d e = ap (λ z. names.instance Empty d z []) e

module _ (keeps : Names) (defs others : Definitions) (n k : ℕ) (c : AreClosed keeps defs others n k) where
  abbrev j : ℕ
  j = suc (n + k)

  -- the same instance is found where these names alone may stay
  found : (ty uy : ASN1Type) → (instance (literals every_name) defs n k).of_type false Empty ty ≡ Some uy → NamesStay keeps uy → (instance (literals keeps) defs n k).of_type false Empty ty ≡ Some uy
  found ty uy u ok = fewer_names (literals every_name) keeps defs n k (λ object name e. refl) false Empty ty uy u ok

  target : (a b : Option ToplevelTypeDefinition) → LinkedDefinition keeps defs others n k a b →
      LinkedTarget (literals keeps) defs others j (once None a (λ d. names.instance Empty d d.parameterization [])) (once None b (λ e. names.instance Empty e e.parameterization []))
  target None None l = refl
  target None (Some e) l = absurd l
  target (Some d) None l = absurd l
  target (Some d) (Some e) (p, q, u, ok) =
      let f : n + k + suc zero ≡ suc (n + k) = omega arith in
      subst (λ z. LinkedTarget (literals keeps) defs others j z (names.instance Empty e e.parameterization [])) (sym (target_is d p)) (d.ty, e.ty, refl, target_is e q, (n, k, (zero, f), found d.ty e.ty u ok))

  no_field : (object field : List ℕ) → keeps (Some object) field ≡ true → ⊥
  no_field object field e = both (sym (c.alone object field) ∙ e)
    where
      both : false ≡ true → ⊥
      both e = cc

  linked : LinkedBy (literals keeps) defs others j
  linked = record {
    types = λ name kept. target (type_named defs name) (type_named others name) (c.each name kept).types;
    fields = λ object field e. absurd (no_field object field e);
    opens = λ x kept e. (c.each x.class kept).opens x refl e;
  }

  -- what stands for a closed name, by what the name stands for
  record Found (d : ToplevelTypeDefinition) (o : Option ToplevelTypeDefinition) : Type 0 where
    bare : d.parameterization ≡ None
    e : ToplevelTypeDefinition
    is : o ≡ Some e
    made : (instance (literals keeps) defs n k).of_type false Empty d.ty ≡ Some e.ty

  definition : (d : ToplevelTypeDefinition) (a b : Option ToplevelTypeDefinition) → a ≡ Some d → LinkedDefinition keeps defs others n k a b → Found d b
  definition d None b g l = absurd cc
  definition d (Some x) None g l = absurd l
  definition d (Some x) (Some e) g (p, q, u, ok) =
      let same : x ≡ d = cc in
      subst (λ z. Found z (Some e)) same (record { bare = p; e = e; is = refl; made = found x.ty e.ty u ok })

  pub closed_names_mean_the_same : (name : List ℕ) (d : ToplevelTypeDefinition) → keeps None name ≡ true → type_named defs name ≡ Some d →
      (e : ToplevelTypeDefinition) × (type_named others name ≡ Some e) × (e.parameterization ≡ None) × IsPlain others e.ty
      × ((t : ValueTree) → (Accepts defs Empty d.ty t ↔ Accepts others Empty e.ty t) × (Rejects defs Empty d.ty t ↔ Rejects others Empty e.ty t))
  closed_names_mean_the_same name d kept e =
      let f = definition d (type_named defs name) (type_named others name) e (c.each name kept).types in
      let values = literals_kept keeps defs others j in
      let q = linked_types_mean_the_same (literals keeps) defs others (n + k) linked values.0 values.1 name d kept e f.bare in
      let same : q.0 ≡ f.e = one (type_named others name) q.0 f.e q.1 f.is in
      (q.0, q.1, q.2, subst (λ z. IsPlain others z.ty) (sym same) (instances_are_plain (literals keeps) defs others n k (inr linked) values.0 (literals_plain keeps defs others j) false Empty d.ty f.e.ty f.made), q.3)
    where
      one : (o : Option ToplevelTypeDefinition) (x y : ToplevelTypeDefinition) → o ≡ Some x → o ≡ Some y → x ≡ y
      one o x y g h = cc
