-- The names on the way to a plain name are among those that are followed once round.
use Rattle.std.proofs.Common.{◌≡◌, ℕ, zero, suc, inl, inr, Bool, true, false, List, [], ◌++◌, Option, Some, None, refl, sym, subst, ◌∙◌, is_none, if◌then◌else◌}
use Rattle.asn_meaning.specs.Answers.{once}
use Rattle.asn_meaning.specs.Definitions.{Definitions}
use Rattle.asn_meaning.specs.Judge.{meaning}
use Rattle.asn_meaning.specs.Kinds.{Kind, NullKind, ReferenceKind, SelectionKind, kind_of}
use Rattle.asn_meaning.specs.Layers.{ReferenceLayer}
use Rattle.asn_meaning.specs.Meaning.{Meaning}
use Rattle.asn_meaning.specs.Names.{Lead, IsHead, LeadsTo, IsLost, lead, lead_at, reference_target}
use Rattle.asn_meaning.specs.Scopes.{Scope, Place, Target}
use Rattle.asn_needs.specs.Dummies.{next_place}
use Rattle.asn_needs.specs.Edges.{arrival, is_arrived_at, name_there}
use Rattle.asn_needs.specs.Followed.{named_by, undummied}
use Rattle.asn_needs.specs.Sites.{Node, seen}
use Rattle.asn_meaning_endless.specs.Endless.{ComesBack}
use Rattle.asn_meaning_endless.specs.Keys.{Key, choice_in, key}
use Rattle.asn_meaning_endless.specs.Laws.{ArrivalOnceRound}
use Rattle.asn_meaning_endless.specs.Rounds.{Among, Round, at_goal, at_head, at_name, at_selection, at_endless}
use Rattle.asn_meaning_endless.proofs.Circling.{choice_place, lost_choice, on_way, up_to}
use Rattle.asn_meaning_endless.proofs.Entering.{enters, key_kept}
use Rattle.asn_meaning_endless.proofs.Filling.{PlaceFilled, place_itself}
use Rattle.asn_meaning_endless.proofs.Leading.{LeadFilled, agree, lead_filled}
use Rattle.asn_meaning_endless.proofs.Rounding.{Bounded, by_goal, entered_to, head_leads, in_either, in_left, in_right, keyed_names, lost_leads, names_of, no_head, onward_to, place_named, wider}

module _ (defs : Definitions) where
  -- the name there is one of those that the type's own form follows
  reference_there : (s : Scope) (x : ReferenceLayer) (o : Option (List ℕ)) (y : Node) → Among (if is_none o then undummied defs s x.identifier else []) y → Among (undummied defs s (once x.identifier o (λ n. n))) y
  reference_there s x None y m = m
  reference_there s x (Some o) y m = absurd m

  there_named : (s : Scope) (k : Kind) (y : Node) → Among (name_there defs s k) y → Among (named_by defs s k) y
  there_named s NullKind y m = absurd m
  there_named s (ReferenceKind x) y m = reference_there s x x.parent y m
  there_named s _ y m = absurd m

  none_at_head : (M : Meaning) (s : Scope) (k : Kind) (y : Node) → lead_at defs M s k ≡ IsHead → Among (name_there defs s k) y → ⊥
  none_at_head M s NullKind y e m = m
  none_at_head M s (ReferenceKind x) y e m = no_head defs (reference_target defs s x) e
  none_at_head M s _ y e m = m

  none_at_choice : (s : Scope) (k : Kind) (c : Place) (y : Node) → choice_in s k ≡ Some c → Among (name_there defs s k) y → ⊥
  none_at_choice s NullKind c y e m = m
  none_at_choice s (SelectionKind x) c y e m = m
  none_at_choice s _ c y e m = absurd (nothing e)
    where
      nothing : None ≡ Some c → ⊥
      nothing i = absurd cc

  -- the name there, or one further on
  one_level : {R : Type 0} (n k : ℕ) (q : Place) (b : Lead) (y : Node) → (stop : Bool) →
      Among (name_there defs q.scope (kind_of q) ++ (if stop then [] else once [] (next_place b) (arrival (seen defs n) k))) y →
      (Among (name_there defs q.scope (kind_of q)) y → R) → ((z : Target) → b ≡ LeadsTo z → Among (arrival (seen defs n) k z.place) y → R) → R
  one_level {R} n k q b y stop m there next =
      elim (in_either (name_there defs q.scope (kind_of q)) (if stop then [] else once [] (next_place b) (arrival (seen defs n) k)) y m) [ inl a ↦ there a | inr a ↦ by_stop stop a ]
    where
      by_lead : (b : Lead) → ((z : Target) → b ≡ LeadsTo z → Among (arrival (seen defs n) k z.place) y → R) → Among (once [] (next_place b) (arrival (seen defs n) k)) y → R
      by_lead IsHead f a = absurd a
      by_lead (LeadsTo z) f a = f z refl a
      by_lead IsLost f a = absurd a

      by_stop : (stop : Bool) → Among (if stop then [] else once [] (next_place b) (arrival (seen defs n) k)) y → R
      by_stop true a = absurd a
      by_stop false a = by_lead b next a

  module _ (goal : Key) (c : ComesBack defs goal) (ys : List Node) (round : Round defs goal ys c.first) where
    bounded : (k : ℕ) (zs : List Node) (p : Place) → Round defs goal zs p → (q : Place) → PlaceFilled p q → (n : ℕ) (y : Node) → Among (arrival (seen defs n) k q) y → Bounded defs goal c ys round zs y
    bounded zero zs p r q f n y m = absurd m
    bounded (suc k) zs p (at_goal e) q f n y m =
        let is : key q ≡ Some goal = key_kept p q f ∙ e in
        one_level n k q (lead defs (meaning defs n) q) y (is_arrived_at q.scope (kind_of q)) m
        (λ a. inr (in_left (names_of defs goal) ys y (subst (λ l. Among l y) (keyed_names defs q.scope (kind_of q) goal is) (there_named q.scope (kind_of q) y a))))
        (λ z i a. by_goal defs goal c ys round y (bounded k ys c.first round z.place (entered_to defs c.first z (lead defs (meaning defs n) q) (enters defs (meaning defs n) q goal c.first is c.begins) i) n y a))
    bounded (suc k) zs p (at_head h e) q f n y m =
        let is : lead defs (meaning defs n) q ≡ IsHead = subst (λ z. LeadFilled z (lead defs (meaning defs n) q)) e (lead_filled defs (meaning defs h) (meaning defs n) (agree defs h n) p q f) in
        one_level n k q (lead defs (meaning defs n) q) y (is_arrived_at q.scope (kind_of q)) m
        (λ a. absurd (none_at_head (meaning defs n) q.scope (kind_of q) y is a))
        (λ z i a. absurd (head_leads defs (lead defs (meaning defs n) q) z is i))
    bounded (suc k) zs p (at_name {ys = us} h x o e r) q f n y m =
        let is : LeadFilled (LeadsTo x) (lead defs (meaning defs n) q) = subst (λ z. LeadFilled z (lead defs (meaning defs n) q)) e (lead_filled defs (meaning defs h) (meaning defs n) (agree defs h n) p q f) in
        one_level n k q (lead defs (meaning defs n) q) y (is_arrived_at q.scope (kind_of q)) m
        (λ a. inl (in_left (named_by defs p.scope (kind_of p)) us y (subst (λ l. Among l y) (place_named defs p q f) (there_named q.scope (kind_of q) y a))))
        (λ z i a. wider defs goal c ys round us (named_by defs p.scope (kind_of p) ++ us) y (in_right (named_by defs p.scope (kind_of p)) us y)
        (bounded k us x.place r z.place (onward_to defs x z (lead defs (meaning defs n) q) is i) n y a))
    bounded (suc k) zs p (at_selection {zs = ws} {ys = us} h x s o e r1 r2) q f n y m =
        let is : LeadFilled (LeadsTo x) (lead defs (meaning defs n) q) = subst (λ z. LeadFilled z (lead defs (meaning defs n) q)) e (lead_filled defs (meaning defs h) (meaning defs n) (agree defs h n) p q f) in
        let d : (d : Place) × PlaceFilled s d × (choice_in q.scope (kind_of q) ≡ Some d) = choice_place p q f s o in
        one_level n k q (lead defs (meaning defs n) q) y (is_arrived_at q.scope (kind_of q)) m
        (λ a. absurd (none_at_choice q.scope (kind_of q) d.0 y d.2 a))
        (λ z i a. wider defs goal c ys round us ((named_by defs p.scope (kind_of p) ++ ws) ++ us) y (in_right (named_by defs p.scope (kind_of p) ++ ws) us y)
        (bounded k us x.place r2 z.place (onward_to defs x z (lead defs (meaning defs n) q) is i) n y a))
    bounded (suc k) zs p (at_endless s o w r) q f n y m =
        let d : (d : Place) × PlaceFilled s d × (choice_in q.scope (kind_of q) ≡ Some d) = choice_place p q f s o in
        let lost : lead defs (meaning defs n) q ≡ IsLost = lost_choice defs (meaning defs n) q.scope (kind_of q) d.0 d.2 (on_way defs goal w d.0 d.1 n (up_to defs goal c n)) in
        one_level n k q (lead defs (meaning defs n) q) y (is_arrived_at q.scope (kind_of q)) m
        (λ a. absurd (none_at_choice q.scope (kind_of q) d.0 y d.2 a))
        (λ z i a. absurd (lost_leads defs (lead defs (meaning defs n) q) z lost i))

    at_place : (p : Place) → key p ≡ Some goal → (n k : ℕ) (y : Node) → Among (arrival (seen defs n) k p) y → Among (named_by defs p.scope (kind_of p) ++ ys) y
    at_place p e n k y m =
        subst (λ l. Among (l ++ ys) y) (sym (keyed_names defs p.scope (kind_of p) goal e))
        (elim (bounded k [] p (at_goal e) p (place_itself p) n y m) [ inl a ↦ absurd a | inr b ↦ b ])

pub arrival_once_round : ArrivalOnceRound
arrival_once_round defs goal c ys r p e n k y m = at_place defs goal c ys r p e n k y m
