-- More steps never change a yes or a no.
use Rattle.std.proofs.Common.{◌≡◌, ℕ, zero, suc, ◌+◌, List, [], sym, subst, ap, ◌∙◌, arith}
use Rattle.asn_tree.specs.declared.constraints.Constraint.{Constraint}
use Rattle.asn_tree.specs.declared.constraints.ElementOrSetOperation.{out-ElementOrSetOperation}
use Rattle.asn_tree.specs.declared.constraints.SubtypeElement.{out-SubtypeElement}
use Rattle.asn_tree.specs.declared.types.ASN1Type.{ASN1Type}
use Rattle.asn_meaning.specs.Accepts.{place, judge, Accepts, Rejects}
use Rattle.asn_meaning.specs.Answers.{Answer, Yes, No, Refines}
use Rattle.asn_meaning.specs.Definitions.{Definitions}
use Rattle.asn_meaning.specs.Judge.{characters_at, parts_accepted, head_accepts, stands_for, accepts_at, nothing_known, step, meaning}
use Rattle.asn_meaning.specs.Kinds.{Kind, StructKind, ListKind, ChoiceKind, kind_of}
use Rattle.asn_meaning.specs.Meaning.{Meaning}
use Rattle.asn_meaning.specs.Names.{Lead, IsHead, LeadsTo, IsLost}
use Rattle.asn_meaning.specs.Ranges.{all_constraints}
use Rattle.asn_meaning.specs.Scopes.{Scope, Place}
use Rattle.asn_meaning.specs.Shapes.{is_of_kind}
use Rattle.asn_meaning.specs.ValueTrees.{ValueTree}
use Rattle.asn_meaning.specs.Written.{as_written}
use Rattle.asn_meaning.proofs.Answering.{same_refines, refines_through, both_refines, within_through, settles_through, once_refines}
use Rattle.asn_meaning.proofs.More.{More, Leads, lead_more, head_at_more}
use Rattle.asn_meaning.proofs.MoreMembers.{struct_judged_more, list_judged_more, choice_judged_more, kind_or_parts_more, members_at_more, fits_at_more}
use Rattle.asn_meaning.proofs.MoreDenotes.{denotes_at_more, is_all_at_more}
use Rattle.asn_meaning.proofs.MoreRanges.{same_parent, numbers_before_more, numbers_at_more}
use Rattle.asn_meaning.proofs.MoreConstraints.{chain_at_more, all_hold_more, holds_at_more}

module _ (M N : Meaning) (m : More M N) where
  parts_more : (scope : Scope) (t : ValueTree) (k : Kind) → Refines (parts_accepted M scope t k) (parts_accepted N scope t k)
  parts_more scope t (StructKind x) = struct_judged_more M N m _ _ (λ s u. m.accepts _ s.written.constraints u) _ _ (m.members scope x) t
  parts_more scope t (ListKind ty) = list_judged_more M N m _ _ (m.accepts _ []) t
  parts_more scope t (ChoiceKind options) = choice_judged_more M N m _ _ (λ o u. m.accepts _ o.constraints u) options t
  parts_more scope t _ = tt

  pub head_more : (t : ValueTree) (head : Place) → Refines (head_accepts M t head) (head_accepts N t head)
  head_more t head = both_refines _ _ _ _ (same_refines (characters_at t (kind_of head))) (kind_or_parts_more M N m (is_of_kind (kind_of head)) _ _ t (parts_more head.scope t (kind_of head)))

  pub stands_more : (t : ValueTree) (p : Place) (a b : Lead) → Leads a b → Refines (stands_for M t p a) (stands_for N t p b)
  stands_more t p IsHead b e = subst (λ z. Refines (head_accepts M t p) (stands_for N t p z)) (sym e) (head_more t p)
  stands_more t p (LeadsTo x) b e = subst (λ z. Refines (M.accepts x.place x.constraints t) (stands_for N t p z)) (sym e) (m.accepts x.place x.constraints t)
  stands_more t p IsLost b e = tt

  accepts_at_more : (defs : Definitions) (p : Place) (cs : List Constraint) (t : ValueTree) → Refines (accepts_at defs M p cs t) (accepts_at defs N p cs t)
  accepts_at_more defs p cs t =
      both_refines _ _ _ _ (stands_more t p _ _ (lead_more M N m defs p))
      (once_refines _ _ _ _ (m.head p) (λ head. all_hold_more M N m p.scope head _ _ (all_constraints p cs) t (numbers_before_more M N m defs p)))

  step_more : (defs : Definitions) → More (step defs M) (step defs N)
  unfolding step
  step_more defs = record {
    head = head_at_more M N m defs;
    members = members_at_more M N m;
    chain = λ set. chain_at_more M N m (out-ElementOrSetOperation set);
    fits = fits_at_more M N m;
    denotes = denotes_at_more M N m defs;
    is_all = λ scope v p. is_all_at_more M N m defs scope p (as_written v);
    numbers = numbers_at_more M N m defs;
    accepts = accepts_at_more defs;
    holds = λ scope a b e t k. holds_at_more M N m scope a b k t (out-SubtypeElement e);
  }

-- nothing known is within everything
from_nothing : (N : Meaning) → More nothing_known N
unfolding nothing_known
from_nothing N = record {
  head = λ p. tt;
  members = λ scope x. tt;
  chain = λ set. tt;
  fits = λ p t. tt;
  denotes = λ scope v p. tt;
  is_all = λ scope v p. tt;
  numbers = λ p cs. tt;
  accepts = λ p cs t. tt;
  holds = λ scope a b e t k. tt;
}

pub one_more : (defs : Definitions) (n : ℕ) → More (meaning defs n) (meaning defs (suc n))
unfolding meaning
one_more defs zero = from_nothing _
one_more defs (suc n) = step_more (meaning defs n) (meaning defs (suc n)) (one_more defs n) defs

same_more : (defs : Definitions) (n : ℕ) → More (meaning defs n) (meaning defs n)
unfolding meaning
same_more defs zero = from_nothing _
same_more defs (suc n) = step_more (meaning defs n) (meaning defs n) (same_more defs n) defs

more_through : (L M N : Meaning) → More L M → More M N → More L N
more_through L M N l m = record {
  head = λ p. within_through _ _ _ (l.head p) (m.head p);
  members = λ scope x. within_through _ _ _ (l.members scope x) (m.members scope x);
  chain = λ set. within_through _ _ _ (l.chain set) (m.chain set);
  fits = λ p t. refines_through _ _ _ (l.fits p t) (m.fits p t);
  denotes = λ scope v p. settles_through _ _ _ (l.denotes scope v p) (m.denotes scope v p);
  is_all = λ scope v p. refines_through _ _ _ (l.is_all scope v p) (m.is_all scope v p);
  numbers = λ p cs. within_through _ _ _ (l.numbers p cs) (m.numbers p cs);
  accepts = λ p cs t. refines_through _ _ _ (l.accepts p cs t) (m.accepts p cs t);
  holds = λ scope a b e t k. refines_through _ _ _ (l.holds scope a b e t k) (m.holds scope b b e t (same_parent b));
}

-- What is known within some steps stays known within more.
pub more_known : (defs : Definitions) (n m : ℕ) → More (meaning defs n) (meaning defs (n + m))
more_known defs n zero =
    let e : n + zero ≡ n = omega arith in
    subst (λ k. More (meaning defs n) (meaning defs k)) (sym e) (same_more defs n)
more_known defs n (suc m) =
    let e : n + suc m ≡ suc (n + m) = omega arith in
    subst (λ k. More (meaning defs n) (meaning defs k)) (sym e) (more_through _ _ _ (more_known defs n m) (one_more defs (n + m)))

-- More steps never change a yes or a no.
pub more_steps : (defs : Definitions) (n m : ℕ) (scope : Scope) (ty : ASN1Type) (t : ValueTree) → Refines (judge defs n scope ty t) (judge defs (n + m) scope ty t)
more_steps defs n m scope ty t = (more_known defs n m).accepts (place scope ty) [] t

stays_yes : (a b : Answer) → Refines a b → a ≡ Yes → b ≡ Yes
stays_yes a b p e = subst (λ x. Refines x b) e p

stays_no : (a b : Answer) → Refines a b → a ≡ No → b ≡ No
stays_no a b p e = subst (λ x. Refines x b) e p

-- No tree is both accepted and rejected.
pub one_answer : (defs : Definitions) (scope : Scope) (ty : ASN1Type) (t : ValueTree) → Accepts defs scope ty t → Rejects defs scope ty t → ⊥
one_answer defs scope ty t (n, accepted) (m, rejected) =
    let same : m + n ≡ n + m = omega arith in
    let a = stays_yes _ _ (more_steps defs n m scope ty t) accepted in
    let b = ap (λ k. judge defs k scope ty t) (sym same) ∙ stays_no _ _ (more_steps defs m n scope ty t) rejected in
    differ (sym a ∙ b)
  where
    differ : Yes ≡ No → ⊥
    differ e = cc
