-- What is written of values stays as it is where more steps tell more.
use Rattle.std.proofs.Common.{None, Option, Some, ap, inl, inr, refl, subst, suc, sym, true, ℕ, ◌∙◌, ◌||◌, ◌≡◌, Bool, List}
use Rattle.asn_tree.specs.declared.values.ASN1Value.{ASN1Value, ASN1Value-F, out-ASN1Value, roll-ASN1Value, roll-out-ASN1Value}
use Rattle.asn_tree.specs.declared.values.ASN1Value.TheVariants as value
use Rattle.asn_meaning.specs.Answers.{Answer, Denotation, Denoted, No, Nothing, Refines, Settles, Unknown, Unsure, Within, Yes}
use Rattle.asn_meaning.specs.Definitions.{Definitions}
use Rattle.asn_meaning.specs.Judge.{meaning}
use Rattle.asn_meaning.specs.Kinds.{Kind, kind_of}
use Rattle.asn_meaning.specs.Layers.{ValueLayer}
use Rattle.asn_meaning.specs.Meaning.{Meaning}
use Rattle.asn_meaning.specs.Scopes.{Binds, Empty, LeavesOpen, Place, Scope}
use Rattle.asn_meaning.specs.ValueTrees.{ValueTree}
use Rattle.asn_meaning.specs.Written.{AllWritten, Written, as_written, written_at}
use Rattle.asn_meaning.proofs.Answering.{if_within, once_within, same_within}
use Rattle.asn_meaning.proofs.More.{More}
use Rattle.asn_meaning.proofs.Steps.{one_more}
use Rattle.asn_link_instance.specs.Literals.{all_or, default_under, default_written, has_own_names, is_dummy, is_item_name, is_literal_under, is_own_head, is_unbound, literals, single_written, value_written, written, written_by_tree}
use Rattle.asn_link_instance.specs.Steady.{Steady}
use Rattle.asn_link_instance.proofs.Holding.{Holds, weaker}
use Rattle.asn_link_instance.proofs.Literals.{Chosen, all_less, answer_all, chosen, item_from, literal_from}

-- ---- ALL is written in one way

all_written : (w : Written) → answer_all w ≡ Yes → w ≡ AllWritten
unfolding answer_all
all_written AllWritten e = refl
all_written _ e = absurd cc

all_layer : (l : ValueLayer) → written_at l ≡ AllWritten → l ≡ ASN1Value-F.All
all_layer ASN1Value-F.All e = refl
all_layer _ e = absurd cc

all_value : (v : ASN1Value) → as_written v ≡ AllWritten → v ≡ value.All
all_value v e = sym (roll-out-ASN1Value v) ∙ ap roll-ASN1Value (all_layer (out-ASN1Value v) e ∙ sym value.outs-All) ∙ roll-out-ASN1Value value.All

-- ---- the literal of a tree that is denoted

tree_again : (a b : Answer) (d x : Denotation ValueTree) (kind : Kind) → Refines a b → Settles d x → Within (written_by_tree a d kind) (written_by_tree b x kind)
tree_again No b (Denoted t) x kind p q =
    subst (λ z. Within (written kind t) (written_by_tree z x kind)) (sym p) (subst (λ z. Within (written kind t) (written_by_tree No z kind)) (sym q) (same_within _))
tree_again No b Nothing x kind p q = tt
tree_again No b Unsure x kind p q = tt
tree_again Yes b d x kind p q = tt
tree_again Unknown b d x kind p q = tt

module _ (M N : Meaning) (m : More M N) (scope : Scope) (v : ASN1Value) where
  value_again : (p : Place) → Within (value_written M scope v p) (value_written N scope v p)
  value_again p =
      if_within (is_own_head (kind_of p)) _ _ _ _
      (if_within (is_literal_under (kind_of p) (as_written v) || is_item_name scope (kind_of p) (as_written v)) _ _ _ _ refl (tree_again _ _ _ _ (kind_of p) (m.is_all scope v p) (m.denotes scope v p))) tt

  under_again : (head : Place) → Within (default_under M scope v head) (default_under N scope v head)
  under_again head =
      if_within (is_unbound scope v || has_own_names (kind_of head) (as_written v)) _ _ _ _ refl
      (if_within (is_dummy scope (as_written v)) _ _ _ _ (tree_again No No _ _ (kind_of head) refl (m.denotes scope v head)) tt)

default_again : (M N : Meaning) → More M N → (scope : Scope) (v : ASN1Value) (p : Place) → Within (default_written M scope v p) (default_written N scope v p)
default_again M N m Empty v p = refl
default_again M N m (Binds dummy governor argument scope others) v p = once_within _ _ _ _ (m.head p) (under_again M N m (Binds dummy governor argument scope others) v)
default_again M N m (LeavesOpen dummy governor others) v p = once_within _ _ _ _ (m.head p) (under_again M N m (LeavesOpen dummy governor others) v)

-- ---- single values

is_within : (o : Option ASN1Value) (w : ASN1Value) → Holds o (λ u. u ≡ w) → Within o (Some w)
is_within None w h = tt
is_within (Some u) w h = ap Some (sym h)

refined_yes : (a b : Answer) → Refines a b → a ≡ Yes → b ≡ Yes
refined_yes a b p e = subst (λ z. Refines z b) e p

differ : No ≡ Yes → ⊥
differ e = cc

unknown_no : Unknown ≡ No → ⊥
unknown_no e = cc

module _ (defs : Definitions) (i n : ℕ) (scope : Scope) (v : ASN1Value) (p : Place) where
  -- a value that turns out to be ALL was written as ALL
  chosen_all : (meaning defs i).is_all scope v p ≡ Unknown → (meaning defs n).is_all scope v p ≡ Yes → (w : ASN1Value) →
      (is_own_head (kind_of p) ≡ true) × Chosen scope ((meaning defs i).is_all scope v p) ((meaning defs i).denotes scope v p) (kind_of p) v w → w ≡ value.All
  chosen_all e f w (own, inl (is, same)) =
      let less = all_less defs 2 scope v p _ (answer_all (as_written v)) (literal_from defs scope v p own is) n in
      same ∙ all_value v (all_written (as_written v) (refined_yes _ _ less f))
  chosen_all e f w (own, inr (inl (same, (t, k, unbound)))) =
      let less = all_less defs 2 scope v p (Denoted t) No (item_from defs scope v p k.name t own k.is unbound k.own) n in
      absurd (differ (refined_yes _ _ less f))
  chosen_all e f w (own, inr (inr (t, a, d, k))) = absurd (unknown_no (sym e ∙ a))

module _ (defs : Definitions) (i : ℕ) (scope : Scope) (v : ASN1Value) (p : Place) where
  abbrev here : Option ASN1Value
  here = value_written (meaning defs i) scope v p

  abbrev there : Option ASN1Value
  there = value_written (meaning defs (suc i)) scope v p

  stays : Within here there
  stays = value_again (meaning defs i) (meaning defs (suc i)) (one_more defs i) scope v p

  all_again : (a : Answer) → (meaning defs i).is_all scope v p ≡ a → (b : Answer) → (meaning defs (suc i)).is_all scope v p ≡ b → Refines a b → Within (all_or a here) (all_or b there)
  all_again Yes e b f r = subst (λ z. Within (all_or Yes here) (all_or z there)) (sym r) refl
  all_again No e b f r = subst (λ z. Within here (all_or z there)) (sym r) stays
  all_again Unknown e No f r = stays
  all_again Unknown e Unknown f r = stays
  all_again Unknown e Yes f r = is_within here value.All (weaker here _ (λ w. w ≡ value.All) (chosen (meaning defs i) scope v p) (chosen_all defs i (suc i) scope v p e f))

  single_again : Within (single_written (meaning defs i) scope v p) (single_written (meaning defs (suc i)) scope v p)
  single_again = all_again ((meaning defs i).is_all scope v p) refl ((meaning defs (suc i)).is_all scope v p) refl ((one_more defs i).is_all scope v p)

pub literals_steady : (keeps : Option (List ℕ) → List ℕ → Bool) (defs : Definitions) → Steady (literals keeps) defs
literals_steady keeps defs i = record {
  value = single_again defs i;
  end = λ scope v p. value_again (meaning defs i) (meaning defs (suc i)) (one_more defs i) scope v p;
  default = default_again (meaning defs i) (meaning defs (suc i)) (one_more defs i);
  table = λ scope x. refl;
}
