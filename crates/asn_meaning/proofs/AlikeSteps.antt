-- What tags are changed in means the same.
use Rattle.std.specs.Option.{option_map}
use Rattle.std.proofs.Common.{◌≡◌, ◌↔◌, ℕ, zero, suc, List, [], ◌++◌, Option, Some, None, refl, sym, ap, ◌∙◌}
use Rattle.asn_tree.specs.Calls.{numbered}
use Rattle.asn_tree.specs.Tagging.{retag, retagged_definition, retagged_link}
use Rattle.asn_tree.specs.declared.definitions.ToplevelDefinition.{ToplevelDefinition}
use Rattle.asn_tree.specs.declared.definitions.ToplevelDefinition.TheVariants.{TypeDef, Value, Information}
use Rattle.asn_tree.specs.declared.definitions.ToplevelTypeDefinition.{ToplevelTypeDefinition}
use Rattle.asn_tree_headers.specs.declared.headers.TaggingEnvironment.{TaggingEnvironment}
use Rattle.asn_tree.specs.declared.constraints.Constraint.{Constraint}
use Rattle.asn_tree.specs.declared.constraints.ElementOrSetOperation.{out-ElementOrSetOperation}
use Rattle.asn_tree.specs.declared.constraints.SubtypeElement.{out-SubtypeElement}
use Rattle.asn_tree.specs.declared.types.ASN1Type.{ASN1Type}
use Rattle.asn_tree_notation.specs.Types.{constraints_of}
use Rattle.asn_meaning.specs.Placed.{listed}
use Rattle.asn_meaning.specs.Accepts.{place, judge, Accepts}
use Rattle.asn_meaning.specs.Answers.{Answer, Yes, Unknown, both, once}
use Rattle.asn_meaning.specs.Constraints.{all_hold, chain_at, holds_at}
use Rattle.asn_meaning.specs.Definitions.{Definitions, type_named}
use Rattle.asn_meaning.specs.Everything.{is_all_at}
use Rattle.asn_meaning.specs.Judge.{accepts_at, characters_at, head_accepts, meaning, nothing_known, option_accepts, member_accepts, parts_accepted, stands_for, step}
use Rattle.asn_meaning.specs.Kinds.{Kind, ChoiceKind, ListKind, StructKind, kind_of}
use Rattle.asn_meaning.specs.Meaning.{Meaning}
use Rattle.asn_meaning.specs.Members.{member_place}
use Rattle.asn_meaning.specs.Names.{Lead, IsHead, LeadsTo, IsLost, lead}
use Rattle.asn_meaning.specs.Numbers.{Numbers}
use Rattle.asn_meaning.specs.Ranges.{all_constraints, narrowed_by_all, numbers_at, numbers_before}
use Rattle.asn_meaning.specs.Scopes.{Scope, Empty, Place}
use Rattle.asn_meaning.specs.Shapes.{is_of_kind, kind_or_parts, option_place}
use Rattle.asn_meaning.specs.Tags.{TagChange, BothAlike, DifferInTags, IsRetagged, PlacesAlike, ScopesAlike, tagged}
use Rattle.asn_meaning.specs.ValueTrees.{ValueTree}
use Rattle.asn_meaning.specs.Written.{as_written}
use Rattle.asn_meaning.proofs.Alike.{kind_alike, once_alike, scope_alike}
use Rattle.asn_meaning.proofs.AlikeConstraints.{all_hold_alike, chain_at_alike, holds_at_alike}
use Rattle.asn_meaning.proofs.AlikeDenotes.{denotes_at_alike, is_all_at_alike}
use Rattle.asn_meaning.proofs.AlikeMembers.{AlikeKnown, LeadsAlike, choice_judged_alike, fits_at_alike, head_at_alike, kind_same, lead_alike, list_judged_alike, member_place_alike, members_at_alike, option_place_alike, struct_judged_alike}
use Rattle.asn_meaning.proofs.AlikeObjects.{TypesAlike, type_alike}
use Rattle.asn_meaning.proofs.AlikeRanges.{constraints_alike, narrowed_by_all_alike, numbers_before_alike}
use Rattle.asn_meaning.proofs.TagLayers.{each_constraint, element_out, kind_kept, set_out, value_written_kept}
use Rattle.asn_meaning.proofs.Ways.{all_hold_append, narrowed_append}

characters_kept : (f : TagChange) (t : ValueTree) (k : Kind) → characters_at t (kind_kept f k) ≡ characters_at t k
characters_kept f t (StructKind x) = refl
characters_kept f t _ = refl

module _ (M N : Meaning) (a : AlikeKnown M N) (defs others : Definitions) (seen : DifferInTags defs others) where
  -- a type's constraints, then those of its place, each with a change of its own
  numbers_by : (s q : Scope) → ScopesAlike s q → (p r : Place) → PlacesAlike p r → (f g : TagChange) (n : Option Numbers) (xs cs : List Constraint) →
      narrowed_by_all N q r n (each_constraint f xs ++ each_constraint g cs) ≡ narrowed_by_all M s p n (xs ++ cs)
  numbers_by s q k p r h f g n xs cs =
      narrowed_append N q r n (each_constraint f xs) (each_constraint g cs)
      ∙ ap (λ z. narrowed_by_all N q r z (each_constraint g cs)) (narrowed_by_all_alike M N a s q k p r h f n xs)
      ∙ narrowed_by_all_alike M N a s q k p r h g (narrowed_by_all M s p n xs) cs
      ∙ sym (narrowed_append M s p n xs cs)

  all_by : (s q : Scope) → ScopesAlike s q → (p r : Place) → PlacesAlike p r → (f g : TagChange) (n : Option Numbers) (xs cs : List Constraint) (t : ValueTree) →
      all_hold N q r n (each_constraint f xs ++ each_constraint g cs) t ≡ all_hold M s p n (xs ++ cs) t
  all_by s q k p r h f g n xs cs t =
      all_hold_append N q r n (each_constraint f xs) (each_constraint g cs) t
      ∙ ap (λ z. both z (all_hold N q r (narrowed_by_all N q r n (each_constraint f xs)) (each_constraint g cs) t)) (all_hold_alike M N a s q k p r h f n xs t)
      ∙ ap (λ z. both (all_hold M s p n xs t) (all_hold N q r z (each_constraint g cs) t)) (narrowed_by_all_alike M N a s q k p r h f n xs)
      ∙ ap (both (all_hold M s p n xs t)) (all_hold_alike M N a s q k p r h g (narrowed_by_all M s p n xs) cs t)
      ∙ sym (all_hold_append M s p n xs cs t)

  numbers_at_alike : (p q : Place) → PlacesAlike p q → (f : TagChange) (cs : List Constraint) → numbers_at others N q (each_constraint f cs) ≡ numbers_at defs M p cs
  numbers_at_alike p q k f cs =
      once_alike PlacesAlike None _ _ (λ head. narrowed_by_all M p.scope head (numbers_before defs M p) (all_constraints p cs)) (λ head. narrowed_by_all N q.scope head (numbers_before others N q) (all_constraints q (each_constraint f cs))) (a.head p q k) (λ h g r.
      ap (λ z. narrowed_by_all N q.scope g z (all_constraints q (each_constraint f cs))) (numbers_before_alike M N a defs others seen p q k)
      ∙ ap (λ z. narrowed_by_all N q.scope g (numbers_before defs M p) (z ++ each_constraint f cs)) (constraints_alike p q k)
      ∙ numbers_by p.scope q.scope (scope_alike p q k) h g r k.0 f (numbers_before defs M p) (listed (constraints_of p.ty)) cs)

  parts_alike : (s q : Scope) → ScopesAlike s q → (f : TagChange) (t : ValueTree) (k : Kind) → parts_accepted N q t (kind_kept f k) ≡ parts_accepted M s t k
  parts_alike s q c f t (StructKind x) = struct_judged_alike (member_accepts M) (member_accepts N) (λ m n r u. ap (λ z. N.accepts (member_place n) z.written.constraints u) r.3 ∙ a.accepts _ _ (member_place_alike m n r) r.0 m.written.constraints u) _ _ (a.members s q c f x) t
  parts_alike s q c f t (ListKind ty) = list_judged_alike _ _ (a.accepts _ _ (f, q, c, refl) f []) t
  parts_alike s q c f t (ChoiceKind options) = choice_judged_alike f (option_accepts M s) (option_accepts N q) (λ o u e v. ap (λ z. N.accepts (option_place q u) z.constraints v) e ∙ a.accepts _ _ (option_place_alike s q c f o u e) f o.constraints v) options t
  parts_alike s q c f t _ = refl

  head_accepts_alike : (t : ValueTree) (p q : Place) → PlacesAlike p q → head_accepts N t q ≡ head_accepts M t p
  head_accepts_alike t p q k =
      ap (λ z. both (characters_at t z) (kind_or_parts (is_of_kind z) (parts_accepted N q.scope t z) t)) (kind_alike p q k)
      ∙ ap (λ z. both z (kind_or_parts (is_of_kind (kind_kept k.0 (kind_of p))) (parts_accepted N q.scope t (kind_kept k.0 (kind_of p))) t)) (characters_kept k.0 t (kind_of p))
      ∙ ap (λ z. both (characters_at t (kind_of p)) (kind_or_parts z (parts_accepted N q.scope t (kind_kept k.0 (kind_of p))) t)) (kind_same k.0 (kind_of p))
      ∙ ap (λ z. both (characters_at t (kind_of p)) (kind_or_parts (is_of_kind (kind_of p)) z t)) (parts_alike p.scope q.scope (scope_alike p q k) k.0 t (kind_of p))

  stands_alike : (t : ValueTree) (p q : Place) → PlacesAlike p q → (l m : Lead) → LeadsAlike l m → stands_for N t q m ≡ stands_for M t p l
  stands_alike t p q k IsHead m e = ap (stands_for N t q) e ∙ head_accepts_alike t p q k
  stands_alike t p q k (LeadsTo x) m (y, r, e) = ap (stands_for N t q) e ∙ ap (λ z. N.accepts z.place z.constraints t) r.3 ∙ a.accepts x.place r.0 r.1 r.2 x.constraints t
  stands_alike t p q k IsLost m e = ap (stands_for N t q) e

  accepts_at_alike : (p q : Place) → PlacesAlike p q → (f : TagChange) (cs : List Constraint) (t : ValueTree) → accepts_at others N q (each_constraint f cs) t ≡ accepts_at defs M p cs t
  accepts_at_alike p q k f cs t =
      ap (λ z. both z (once Unknown (N.head q) (λ head. all_hold N q.scope head (numbers_before others N q) (all_constraints q (each_constraint f cs)) t))) (stands_alike t p q k _ _ (lead_alike M N a defs others seen p q k))
      ∙ ap (both (stands_for M t p (lead defs M p)))
      (once_alike PlacesAlike Unknown _ _ (λ head. all_hold M p.scope head (numbers_before defs M p) (all_constraints p cs) t) (λ head. all_hold N q.scope head (numbers_before others N q) (all_constraints q (each_constraint f cs)) t) (a.head p q k) (λ h g r.
      ap (λ z. all_hold N q.scope g z (all_constraints q (each_constraint f cs)) t) (numbers_before_alike M N a defs others seen p q k)
      ∙ ap (λ z. all_hold N q.scope g (numbers_before defs M p) (z ++ each_constraint f cs) t) (constraints_alike p q k)
      ∙ all_by p.scope q.scope (scope_alike p q k) h g r k.0 f (numbers_before defs M p) (listed (constraints_of p.ty)) cs t))

  step_alike : AlikeKnown (step defs M) (step others N)
  unfolding step
  step_alike = record {
    head = head_at_alike M N a defs others seen;
    members = members_at_alike M N a defs others seen;
    chain = λ f set. ap (chain_at N) (set_out f set) ∙ chain_at_alike M N a f (out-ElementOrSetOperation set);
    fits = fits_at_alike M N a;
    denotes = denotes_at_alike defs others seen M N a;
    is_all = λ s q k f v p r h. ap (is_all_at others N q r) (value_written_kept f v) ∙ is_all_at_alike defs others seen M N a s q k f p r h (as_written v);
    numbers = numbers_at_alike;
    accepts = accepts_at_alike;
    holds = λ s q k x y p f e t. ap (holds_at N q y t) (element_out f e) ∙ holds_at_alike M N a s q k x y p f t (out-SubtypeElement e);
  }

nothing_alike : AlikeKnown nothing_known nothing_known
unfolding nothing_known
nothing_alike = record {
  head = λ p q k. refl;
  members = λ s q k f x. refl;
  chain = λ f set. refl;
  fits = λ p q k t. refl;
  denotes = λ s q k f v p r h. refl;
  is_all = λ s q k f v p r h. refl;
  numbers = λ p q k f cs. refl;
  accepts = λ p q k f cs t. refl;
  holds = λ s q k x y p f e t. refl;
}

pub known_alike : (defs others : Definitions) → DifferInTags defs others → (n : ℕ) → AlikeKnown (meaning defs n) (meaning others n)
unfolding meaning
known_alike defs others seen zero = nothing_alike
known_alike defs others seen (suc n) = step_alike (meaning defs n) (meaning others n) (known_alike defs others seen n) defs others seen

pub judged_alike : (defs others : Definitions) → DifferInTags defs others → (n : ℕ) (s q : Scope) → ScopesAlike s q → (f : TagChange) (ty : ASN1Type) (t : ValueTree) → judge others n q (tagged f ty) t ≡ judge defs n s ty t
judged_alike defs others seen n s q k f ty t = (known_alike defs others seen n).accepts (place s ty) (place q (tagged f ty)) (f, q, k, refl) f [] t

-- what linking adds to a definition changes its tags alone
pub environment_retags : (e : TaggingEnvironment) (home item : ℕ) (d : ToplevelDefinition) → IsRetagged d (numbered home item (retagged_definition e d))
environment_retags e home item (TypeDef d) = (retag e, retag e d.tag, Some (home, item), refl)
environment_retags e home item (Value d) = (retag e, Some (home, item), refl)
environment_retags e home item (Information d) = (retag e, option_map (retagged_link e) d.class, Some (home, item), refl)

accepts_both : (a b : ℕ → Answer) (x : Answer) → ((n : ℕ) → b n ≡ a n) → ((n : ℕ) × (a n ≡ x)) ↔ ((n : ℕ) × (b n ≡ x))
accepts_both a b x e = (λ p. (p.0, e p.0 ∙ p.1), λ p. (p.0, sym (e p.0) ∙ p.1))

pub retagged_means : (defs others : Definitions) → DifferInTags defs others → (name : List ℕ) (d : ToplevelTypeDefinition) → type_named defs name ≡ Some d →
    (e : ToplevelTypeDefinition) × (type_named others name ≡ Some e) × (f : TagChange) × (e.ty ≡ tagged f d.ty) × ((t : ValueTree) → Accepts defs Empty d.ty t ↔ Accepts others Empty e.ty t)
retagged_means defs others seen name d is = go (type_named defs name) is (type_alike defs others seen name)
  where
    go : (o : Option ToplevelTypeDefinition) → o ≡ Some d → BothAlike TypesAlike o (type_named others name) →
        (e : ToplevelTypeDefinition) × (type_named others name ≡ Some e) × (f : TagChange) × (e.ty ≡ tagged f d.ty) × ((t : ValueTree) → Accepts defs Empty d.ty t ↔ Accepts others Empty e.ty t)
    go None h k = absurd cc
    go (Some x) h (e, r, k) =
        let same : x ≡ d = cc in
        let ty : e.ty ≡ tagged r.0 d.ty = r.1 ∙ ap (λ z. tagged r.0 z.ty) same in (
          e,
          k,
          r.0,
          ty,
          λ t. accepts_both (λ n. judge defs n Empty d.ty t) (λ n. judge others n Empty e.ty t) Yes
              (λ n. ap (λ z. judge others n Empty z t) ty ∙ judged_alike defs others seen n Empty Empty refl r.0 d.ty t),
        )
