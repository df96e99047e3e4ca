-- What it is to know more, and the names that lead on.
use Rattle.std.proofs.Common.{◌≡◌, List, Option, Some, None, refl, sym, subst, ap}
use Rattle.asn_tree.specs.declared.constraints.Constraint.{Constraint}
use Rattle.asn_tree.specs.declared.constraints.ElementOrSetOperation.{ElementOrSetOperation}
use Rattle.asn_tree.specs.declared.constraints.SubtypeElement.{SubtypeElement}
use Rattle.asn_tree_kinds.specs.declared.types.ChoiceSelectionType.{ChoiceSelectionType}
use Rattle.asn_tree.specs.declared.values.ASN1Value.{ASN1Value}
use Rattle.asn_meaning.specs.Answers.{Refines, Within, Settles}
use Rattle.asn_meaning.specs.Definitions.{Definitions}
use Rattle.asn_meaning.specs.Kinds.{Kind, FieldKind, ReferenceKind, SelectionKind, kind_of}
use Rattle.asn_meaning.specs.Layers.{StructLayer}
use Rattle.asn_meaning.specs.Meaning.{Meaning, Parent, ValuesOf, CharactersOf}
use Rattle.asn_meaning.specs.Names.{Lead, IsHead, LeadsTo, IsLost, leading, selection_target, lead_at, lead, head_from, head_at}
use Rattle.asn_meaning.specs.Numbers.{Numbers}
use Rattle.asn_meaning.specs.Scopes.{Scope, Place, Target}
use Rattle.asn_meaning.specs.ValueTrees.{ValueTree}
use Rattle.asn_meaning.proofs.Answering.{same_within, once_within}

-- the same parent, of whose numbers more may be known
abbrev pub KnownBetter : Parent → Parent → Type 0
KnownBetter (ValuesOf head a) q = (b : Option Numbers) × Within a b × (q ≡ ValuesOf head b)
KnownBetter (CharactersOf codes) q = q ≡ CharactersOf codes

pub record More (M N : Meaning) : Type 0 where
  pub head : (p : Place) → Within (M.head p) (N.head p)
  pub members : (scope : Scope) (x : StructLayer) → Within (M.members scope x) (N.members scope x)
  pub chain : (set : ElementOrSetOperation) → Within (M.chain set) (N.chain set)
  pub fits : (p : Place) (t : ValueTree) → Refines (M.fits p t) (N.fits p t)
  pub denotes : (scope : Scope) (v : ASN1Value) (p : Place) → Settles (M.denotes scope v p) (N.denotes scope v p)
  pub is_all : (scope : Scope) (v : ASN1Value) (p : Place) → Refines (M.is_all scope v p) (N.is_all scope v p)
  pub numbers : (p : Place) (cs : List Constraint) → Within (M.numbers p cs) (N.numbers p cs)
  pub accepts : (p : Place) (cs : List Constraint) (t : ValueTree) → Refines (M.accepts p cs t) (N.accepts p cs t)
  pub holds : (scope : Scope) (a b : Parent) (e : SubtypeElement) (t : ValueTree) → KnownBetter a b → Refines (M.holds scope a e t) (N.holds scope b e t)

-- the same lead, or the first is lost
abbrev pub Leads : Lead → Lead → Type 0
Leads IsLost b = Unit {0}
Leads IsHead b = b ≡ IsHead
Leads (LeadsTo x) b = b ≡ LeadsTo x

same_leads : (a : Lead) → Leads a a
same_leads IsHead = refl
same_leads (LeadsTo x) = refl
same_leads IsLost = tt

leading_leads : (a b : Option Target) → Within a b → Leads (leading a) (leading b)
leading_leads None b p = tt
leading_leads (Some x) b p = ap leading p

module _ (M N : Meaning) (m : More M N) where
  selection_more : (scope : Scope) (x : ChoiceSelectionType) → Within (selection_target M scope x) (selection_target N scope x)
  selection_more scope x = once_within _ _ _ _ (m.head _) (λ h. same_within _)

  lead_at_more : (defs : Definitions) (scope : Scope) (k : Kind) → Leads (lead_at defs M scope k) (lead_at defs N scope k)
  lead_at_more defs scope (ReferenceKind x) = same_leads _
  lead_at_more defs scope (SelectionKind x) = leading_leads _ _ (selection_more scope x)
  lead_at_more defs scope (FieldKind x) = same_leads _
  lead_at_more defs scope _ = refl

  pub lead_more : (defs : Definitions) (p : Place) → Leads (lead defs M p) (lead defs N p)
  lead_more defs p = lead_at_more defs p.scope (kind_of p)

  head_from_more : (p : Place) (a b : Lead) → Leads a b → Within (head_from M p a) (head_from N p b)
  head_from_more p IsHead b e = ap (head_from N p) e
  head_from_more p (LeadsTo x) b e = subst (λ z. Within (M.head x.place) (head_from N p z)) (sym e) (m.head x.place)
  head_from_more p IsLost b e = tt

  pub head_at_more : (defs : Definitions) (p : Place) → Within (head_at defs M p) (head_at defs N p)
  head_at_more defs p = head_from_more p _ _ (lead_more defs p)
