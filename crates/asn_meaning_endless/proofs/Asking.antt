-- A value whose tree is asked for again denotes none.
use Rattle.std.proofs.Common.{◌≡◌, ℕ, zero, suc, ◌+◌, ◌<◌, false, List, Option, Some, None, refl, sym, subst, ap, ◌∙◌, arith, if◌then◌else◌}
use Rattle.asn_tree.specs.declared.definitions.ToplevelValueDefinition.{ToplevelValueDefinition}
use Rattle.asn_meaning.specs.Answers.{once, Denotation, Denoted, Nothing, Unsure, Within}
use Rattle.asn_meaning.specs.Definitions.{Definitions, value_named}
use Rattle.asn_meaning.specs.Denotes.{Read, defined_denoted, defined_read, denoted_under, denotes_at, is_open, name_denoted, own_name, own_or_defined, read_denoted, shaped, value_denoted}
use Rattle.asn_meaning.specs.Judge.{meaning, nothing_known, step}
use Rattle.asn_meaning.specs.Meaning.{Meaning}
use Rattle.asn_meaning.specs.Scopes.{bound_to, Place}
use Rattle.asn_meaning.specs.ValueTrees.{ValueTree, Opaque}
use Rattle.asn_meaning.specs.Written.{NameWritten, as_written}
use Rattle.asn_meaning.proofs.Steps.{more_known}
use Rattle.asn_meaning_endless.specs.Laws.{AskedAgainTreeless, NameAsks}
use Rattle.asn_meaning_endless.specs.Values.{AsksForTree, AsksOn, asked_once, asked_further}

module _ (defs : Definitions) where
  no_tree_yet : (r : Read) (t : ValueTree) → read_denoted (meaning defs zero) r ≡ Denoted t → ⊥
  unfolding meaning nothing_known
  no_tree_yet r t e = absurd cc

  -- what is asked for had a tree fewer steps before
  record Before (n : ℕ) (s : Read) : Type 0 where
    steps : ℕ
    fewer : steps < n
    tree : ValueTree
    denoted : read_denoted (meaning defs steps) s ≡ Denoted tree

  one_before : (n : ℕ) (r s : Read) → AsksForTree defs r s → (t : ValueTree) → read_denoted (meaning defs n) r ≡ Denoted t → Before n s
  one_before zero r s f t e = absurd (no_tree_yet r t e)
  one_before (suc n) r s f t e = let w = f n t e in record { steps = n; fewer = omega arith; tree = w.0; denoted = w.1 }

  before : {r s : Read} → AsksOn defs r s → (n : ℕ) (t : ValueTree) → read_denoted (meaning defs n) r ≡ Denoted t → Before n s
  before {r} (asked_once {s} f) n t e = one_before n r s f t e
  before {r} (asked_further {s} {u} w f) n t e =
      let b : Before n s = before w n t e in
      let c : Before b.steps u = one_before b.steps s u f b.tree b.denoted in
      record { steps = c.steps; fewer = omega (arith, b.fewer, c.fewer); tree = c.tree; denoted = c.denoted }

  never : (r : Read) → AsksOn defs r r → (most n : ℕ) → n < most → (t : ValueTree) → read_denoted (meaning defs n) r ≡ Denoted t → ⊥
  never r w zero n lt t e = absurd (omega (arith, lt))
  never r w (suc most) n lt t e =
      let b : Before n r = before w n t e in
      never r w most b.steps (omega (arith, lt, b.fewer)) b.tree b.denoted

pub asked_again_treeless : AskedAgainTreeless
asked_again_treeless defs r w n t e = never defs r w (suc n) n (omega arith) t e

-- ---- names

shaped_tree : (M : Meaning) (h : Place) (x : Denotation ValueTree) (t : ValueTree) → shaped M h x ≡ Denoted t → (u : ValueTree) × (x ≡ Denoted u)
shaped_tree M h (Denoted u) t e = (u, refl)
shaped_tree M h Nothing t e = absurd cc
shaped_tree M h Unsure t e = absurd cc

one_head : (defs : Definitions) (p h j : Place) (k n : ℕ) → (meaning defs k).head p ≡ Some h → (meaning defs n).head p ≡ Some j → h ≡ j
one_head defs p h j k n e f =
    let a : (meaning defs (k + n)).head p ≡ Some h = subst (λ o. Within o ((meaning defs (k + n)).head p)) e ((more_known defs k n).head p) in
    let b : (meaning defs (n + k)).head p ≡ Some j = subst (λ o. Within o ((meaning defs (n + k)).head p)) f ((more_known defs n k).head p) in
    let same : n + k ≡ k + n = omega arith in
    one (sym a ∙ ap (λ i. (meaning defs i).head p) (sym same) ∙ b)
  where
    one : Some h ≡ Some j → h ≡ j
    one i = cc

one_step : (defs : Definitions) (n : ℕ) (r : Read) → read_denoted (meaning defs (suc n)) r ≡ denotes_at defs (meaning defs n) r.scope r.value r.place
unfolding meaning step
one_step defs n r = refl

under_name : (defs : Definitions) (M : Meaning) (r : Read) (h : Place) (name : List ℕ) (d : ToplevelValueDefinition) → is_open h ≡ false →
    as_written r.value ≡ NameWritten None name → bound_to r.scope name ≡ None → own_name h name ≡ None → value_named defs name ≡ Some d →
    denoted_under defs M r.scope r.value h ≡ shaped M h (read_denoted M (defined_read d))
under_name defs M r h name d closed w free other e =
    ap (λ b. if b then Denoted Opaque else value_denoted defs M r.scope h (as_written r.value)) closed
    ∙ ap (value_denoted defs M r.scope h) w
    ∙ ap (name_denoted defs M r.scope h name) free
    ∙ ap (λ o. own_or_defined o (defined_denoted defs M h name)) other
    ∙ ap (λ o. once Unsure o (λ x. shaped M h (read_denoted M (defined_read x)))) e

pub name_asks : NameAsks
name_asks defs r k h name d i closed w free other e n t f =
    by_head ((meaning defs n).head r.place) refl (sym (one_step defs n r) ∙ f)
  where
    by_head : (o : Option Place) → (meaning defs n).head r.place ≡ o → once Unsure o (denoted_under defs (meaning defs n) r.scope r.value) ≡ Denoted t → (u : ValueTree) × (read_denoted (meaning defs n) (defined_read d) ≡ Denoted u)
    by_head None g j = absurd cc
    by_head (Some q) g j =
        let same : h ≡ q = one_head defs r.place h q k n i g in
        shaped_tree (meaning defs n) h (read_denoted (meaning defs n) (defined_read d)) t
        (sym (under_name defs (meaning defs n) r h name d closed w free other e) ∙ ap (denoted_under defs (meaning defs n) r.scope r.value) same ∙ j)
