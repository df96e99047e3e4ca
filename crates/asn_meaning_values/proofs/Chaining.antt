-- Names of values that are followed one after the other, and the shapes that are wanted at their end.
use Rattle.std.proofs.Common.{◌≡◌, ℕ, ◌+◌, ◌-◌, ◌<◌, ◌≤◌, List, [], ◌∷◌, ◌++◌, take, length, get_or, refl, sym, ap, ◌∙◌, arith}
use Rattle.std.proofs.lemmas.List.{take_more, take_all}
use Rattle.asn_tree.specs.declared.values.ASN1Value.{ASN1Value}
use Rattle.asn_meaning_heads.specs.declared.places.Place.{Place as LentPlace}
use Rattle.asn_meaning_heads.specs.Places.{shown_place}
use Rattle.asn_meaning_values.proofs.Denoting.{denotes_in}
use Rattle.asn_meaning_values.specs.declared.following.Next.{Next}
use Rattle.asn_meaning_values.specs.declared.following.Next.TheVariants as lent
use Rattle.asn_meaning_values.specs.declared.following.Wanted.{Wanted}
use Rattle.asn_meaning_values.specs.declared.reading.Read.{Read as LentRead}
use Rattle.asn_meaning_values.specs.declared.denotation.Denotation.{Denotation as LentDenotation}
use Rattle.asn_meaning_shapes.specs.declared.trees.Tree.{Tree}
use Rattle.asn_meaning_values.specs.Denotation.{shown_denotation}
use Rattle.asn_meaning_values.specs.inner.Following.{next_denoted, shaped_by}
use Rattle.asn_meaning_values.specs.inner.Reading.{shown_read}
use Rattle.asn_meaning.specs.Answers.{Denotation, Unsure}
use Rattle.asn_meaning.specs.Definitions.{Definitions}
use Rattle.asn_meaning.specs.Denotes.{Read, denotes_at, read_denoted, shaped}
use Rattle.asn_meaning.specs.Judge.{meaning, nothing_known}
use Rattle.asn_meaning.specs.Scopes.{Scope, Place}
use Rattle.asn_meaning.specs.ValueTrees.{ValueTree}

-- ---- shapes that are wanted

abbrev pub shaped_as : Definitions → ℕ → Wanted → Denotation ValueTree → Denotation ValueTree
shaped_as defs m w d = shaped (meaning defs (w.steps + m)) (shown_place w.head) d

pub behind : (defs : Definitions) (m : ℕ) (ws : List Wanted) (w : Wanted) (d : Denotation ValueTree) → shaped_by defs m (ws ++ w ∷ []) d ≡ shaped_by defs m ws (shaped_as defs m w d)
behind defs m [] w d = refl
behind defs m (first ∷ ws) w d = ap (shaped_as defs m first) (behind defs m ws w d)

pub shaped_begin : (defs : Definitions) (m : ℕ) (ws : List Wanted) (i : ℕ) (d : Denotation ValueTree) → length ws ≤ i → shaped_by defs m (take i ws) d ≡ shaped_by defs m ws d
shaped_begin defs m ws i d le = ap (λ xs. shaped_by defs m xs d) (take_all i ws le)

pub shaped_last : (defs : Definitions) (m : ℕ) (ws : List Wanted) (i : ℕ) (w : Wanted) (d after : Denotation ValueTree) → i < length ws → w ≡ get_or ws i w →
    after ≡ shaped (meaning defs (w.steps + m)) (shown_place w.head) d → shaped_by defs m (take i ws) after ≡ shaped_by defs m (take (i + 1) ws) d
shaped_last defs m ws i w d after lt e is =
    ap (shaped_by defs m (take i ws)) is ∙ sym (behind defs m (take i ws) w d)
    ∙ sym (ap (λ xs. shaped_by defs m xs d) (take_more ws i w lt ∙ ap (λ x. take i ws ++ x ∷ []) (sym e)))

pub shaped_done : (defs : Definitions) (m : ℕ) (ws : List Wanted) (i : ℕ) (d : Denotation ValueTree) → i ≡ 0 → shaped_by defs m (take i ws) d ≡ d
shaped_done defs m ws i d e = ap (λ k. shaped_by defs m (take k ws) d) e

-- ---- names that are followed

pub follow_begin : (defs : Definitions) (n m : ℕ) (ws : List Wanted) (r : LentRead) (scope : Scope) (v : ASN1Value) (p : Place) → ws ≡ [] →
    shown_read r ≡ record { scope = scope; value = v; place = p } → shaped_by defs m ws (read_denoted (meaning defs (n + m)) (shown_read r)) ≡ (meaning defs (n + m)).denotes scope v p
follow_begin defs n m ws r scope v p e is =
    ap (λ xs. shaped_by defs m xs (read_denoted (meaning defs (n + m)) (shown_read r))) e ∙ ap (read_denoted (meaning defs (n + m))) is

denoted_next : (defs : Definitions) (n m : ℕ) (r : Read) (next : Next) → 0 < n →
    next_denoted (meaning defs (n - 1 + m)) next ≡ denotes_at defs (meaning defs (n - 1 + m)) r.scope r.value r.place →
    read_denoted (meaning defs (n + m)) r ≡ next_denoted (meaning defs (n - 1 + m)) next
denoted_next defs n m r next lt e = denotes_in defs n m r.scope r.value r.place lt ∙ sym e

pub follow_known : (defs : Definitions) (n m : ℕ) (ws : List Wanted) (r : Read) (next : Next) (d : LentDenotation Tree) → 0 < n →
    next_denoted (meaning defs (n - 1 + m)) next ≡ denotes_at defs (meaning defs (n - 1 + m)) r.scope r.value r.place → next ≡ lent.Known d →
    shaped_by defs m ws (shown_denotation d) ≡ shaped_by defs m ws (read_denoted (meaning defs (n + m)) r)
follow_known defs n m ws r next d lt e is =
    sym (ap (shaped_by defs m ws) (denoted_next defs n m r next lt e ∙ ap (next_denoted (meaning defs (n - 1 + m))) is))

pub follow_further : (defs : Definitions) (n m : ℕ) (ws more : List Wanted) (r : Read) (next : Next) (head : LentPlace) (after : LentRead) → 0 < n →
    next_denoted (meaning defs (n - 1 + m)) next ≡ denotes_at defs (meaning defs (n - 1 + m)) r.scope r.value r.place → next ≡ lent.Further head after →
    more ≡ ws ++ (record { steps = n - 1; head = head }) ∷ [] →
    shaped_by defs m more (read_denoted (meaning defs (n - 1 + m)) (shown_read after)) ≡ shaped_by defs m ws (read_denoted (meaning defs (n + m)) r)
follow_further defs n m ws more r next head after lt e is all =
    ap (λ xs. shaped_by defs m xs (read_denoted (meaning defs (n - 1 + m)) (shown_read after))) all
    ∙ behind defs m ws (record { steps = n - 1; head = head }) (read_denoted (meaning defs (n - 1 + m)) (shown_read after))
    ∙ sym (ap (shaped_by defs m ws) (denoted_next defs n m r next lt e ∙ ap (next_denoted (meaning defs (n - 1 + m))) is))

-- ---- within no steps

unsure_stays : (defs : Definitions) (m : ℕ) (ws : List Wanted) → shaped_by defs m ws Unsure ≡ Unsure
unsure_stays defs m [] = refl
unsure_stays defs m (w ∷ ws) = ap (shaped_as defs m w) (unsure_stays defs m ws)

not_denoted : (defs : Definitions) (n m : ℕ) (r : Read) → n ≡ 0 → m ≡ 0 → read_denoted (meaning defs (n + m)) r ≡ Unsure
unfolding meaning nothing_known
not_denoted defs n m r e f =
    let none : n + m ≡ 0 = omega arith in
    ap (λ k. read_denoted (meaning defs k) r) none

-- Within no steps nothing is known of what is denoted.
pub follow_not : (defs : Definitions) (n m : ℕ) (ws : List Wanted) (r : Read) → n ≡ 0 → m ≡ 0 → shaped_by defs m ws (read_denoted (meaning defs (n + m)) r) ≡ Unsure
follow_not defs n m ws r e f = ap (shaped_by defs m ws) (not_denoted defs n m r e f) ∙ unsure_stays defs m ws
