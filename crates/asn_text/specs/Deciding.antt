-- The comparisons of errors decide whether they tell the same, and so are equivalences.
use Rattle.std.specs.Bool.{Decides}
use Rattle.std.specs.Cmp.{IsEquivalence, decided}
use Rattle.std.specs.Cmp.Lexicographic.{pointwise}
use Rattle.std.specs.Prelude.{◌≡◌, ℕ, Bool, true, false, ◌&&◌, nat_eq, List, [], refl}
use Rattle.std.proofs.Common.{zero, suc, sym, ap, ◌∙◌}
use mathlib.Core.Bool.{true≢false}
use Rattle.std.proofs.lemmas.Bool.Decides.{Decides-eqb}
use Rattle.std.proofs.lemmas.Cmp.{on_equiv}
use Rattle.std.proofs.lemmas.Slice.Eq.{slice_eq-Decides}
use Rattle.asn_text.specs.Part.{Part, part_eq}
use Rattle.asn_text.specs.Seen.{Kind, nom, external, Setting, name, of_kind, Link, Leaf, rank, nom_eq, kinds_eq, settings_eq, links_eq, leaves_eq, kind_seen, context_seen, link_seen, leaf_seen, misc_seen, kind_eq, context_eq, link_eq, leaf_eq, misc_eq, Tree, leaf, branch, no_branch, one_branch, trees_eq, tree_seen, tree_eq, Failing, failing, too_deep, out_of_memory, faults_eq, fault_seen, fault_eq}
use Rattle.asn_text.specs.declared.errors.ErrorTree.{ErrorTree}
use Rattle.asn_text.specs.declared.fault.ParseFault.{ParseFault}
use Rattle.asn_text.specs.declared.errors.NomKind.{NomKind}
use Rattle.asn_text.specs.declared.errors.NomKind.TheVariants.{Alt, Eof, Tag, TakeUntil, Other}

-- of two tests
both_Decides : (r s : Bool) {P Q : Type 0} → Decides r P → Decides s Q → Decides (r && s) (P × Q)
both_Decides true s d e = (λ h. (d.0 refl, e.0 h), λ p. e.1 p.1)
both_Decides false s d e = (λ h. absurd (true≢false (sym h)), λ p. d.1 p.0)

texts_Decide : (s t : List ℕ) → Decides (pointwise nat_eq s t) (s ≡ t)
texts_Decide s t = slice_eq-Decides Decides-eqb s t (pointwise nat_eq s t) refl

-- a rank has one kind
ranked : ℕ → NomKind
ranked zero = Alt
ranked (suc zero) = Eof
ranked (suc (suc zero)) = Tag
ranked (suc (suc (suc zero))) = TakeUntil
ranked (suc (suc (suc (suc n)))) = Other

rank_back : (kind : NomKind) → ranked (rank kind) ≡ kind
unfolding ranked
rank_back Alt = refl
rank_back Eof = refl
rank_back Tag = refl
rank_back TakeUntil = refl
rank_back Other = refl

noms_Decide : (a b : NomKind) → Decides (nom_eq a b) (a ≡ b)
noms_Decide a b =
    let d = Decides-eqb (rank a) (rank b) in
    (λ h. sym (rank_back a) ∙ ap ranked (d.0 h) ∙ rank_back b, λ e. d.1 (ap rank e))

-- what a kind tells, where it tells it
of_nom : Kind → NomKind
of_nom (nom a) = a
of_nom (external s) = Alt

of_text : Kind → List ℕ
of_text (nom a) = []
of_text (external s) = s

is_nom : Kind → Bool
is_nom (nom a) = true
is_nom (external s) = false

kinds_Decide : (a b : Kind) → Decides (kinds_eq a b) (a ≡ b)
unfolding of_nom of_text is_nom
kinds_Decide (nom a) (nom b) = (λ h. ap nom ((noms_Decide a b).0 h), λ e. (noms_Decide a b).1 (ap of_nom e))
kinds_Decide (nom a) (external t) = (λ h. absurd (true≢false (sym h)), λ e. ap is_nom (sym e))
kinds_Decide (external s) (nom b) = (λ h. absurd (true≢false (sym h)), λ e. ap is_nom e)
kinds_Decide (external s) (external t) = (λ h. ap external ((texts_Decide s t).0 h), λ e. (texts_Decide s t).1 (ap of_text e))

name_of : Setting → List ℕ
name_of (name s) = s
name_of (of_kind a) = []

kind_of : Setting → Kind
kind_of (name s) = external s
kind_of (of_kind a) = a

is_name : Setting → Bool
is_name (name s) = true
is_name (of_kind a) = false

settings_Decide : (a b : Setting) → Decides (settings_eq a b) (a ≡ b)
unfolding name_of kind_of is_name
settings_Decide (name s) (name t) = (λ h. ap name ((texts_Decide s t).0 h), λ e. (texts_Decide s t).1 (ap name_of e))
settings_Decide (name s) (of_kind b) = (λ h. absurd (true≢false (sym h)), λ e. ap is_name (sym e))
settings_Decide (of_kind a) (name t) = (λ h. absurd (true≢false (sym h)), λ e. ap is_name e)
settings_Decide (of_kind a) (of_kind b) = (λ h. ap of_kind ((kinds_Decide a b).0 h), λ e. (kinds_Decide a b).1 (ap kind_of e))

parts_Decide : (a b : Part) → Decides (part_eq a b) (a ≡ b)
parts_Decide a b =
    let d =
    both_Decides _ _
    (both_Decides _ _
    (both_Decides _ _
    (both_Decides _ _ (texts_Decide a.source b.source) (Decides-eqb a.start b.start))
    (Decides-eqb a.end b.end))
    (Decides-eqb a.context_line b.context_line))
    (Decides-eqb a.context_start b.context_start) in (
      λ h. let e = d.0 h in
          λ i. record { source = e.0.0.0.0 i; start = e.0.0.0.1 i; end = e.0.0.1 i; context_line = e.0.1 i; context_start = e.1 i },
      λ e. d.1 (((((ap (λ p. p.source) e, ap (λ p. p.start) e), ap (λ p. p.end) e), ap (λ p. p.context_line) e), ap (λ p. p.context_start) e)),
    )

links_Decide : (a b : Link) → Decides (links_eq a b) (a ≡ b)
links_Decide a b =
    let d = both_Decides _ _ (parts_Decide a.part b.part) (settings_Decide a.setting b.setting) in
    (λ h. let e = d.0 h in λ i. record { part = e.0 i; setting = e.1 i }, λ e. d.1 (ap (λ l. l.part) e, ap (λ l. l.setting) e))

leaves_Decide : (a b : Leaf) → Decides (leaves_eq a b) (a ≡ b)
leaves_Decide a b =
    let d = both_Decides _ _ (parts_Decide a.part b.part) (kinds_Decide a.kind b.kind) in
    (λ h. let e = d.0 h in λ i. record { part = e.0 i; kind = e.1 i }, λ e. d.1 (ap (λ l. l.part) e, ap (λ l. l.kind) e))

pub nom_eq_equivalence : IsEquivalence nom_eq
nom_eq_equivalence = decided nom_eq noms_Decide

pub kind_eq_equivalence : IsEquivalence kind_eq
kind_eq_equivalence = on_equiv kind_seen (decided kinds_eq kinds_Decide)

pub context_eq_equivalence : IsEquivalence context_eq
context_eq_equivalence = on_equiv context_seen (decided settings_eq settings_Decide)

pub link_eq_equivalence : IsEquivalence link_eq
link_eq_equivalence = on_equiv link_seen (decided links_eq links_Decide)

pub leaf_eq_equivalence : IsEquivalence leaf_eq
leaf_eq_equivalence = on_equiv leaf_seen (decided leaves_eq leaves_Decide)

pub misc_eq_equivalence : IsEquivalence misc_eq
misc_eq_equivalence = on_equiv misc_seen (decided (pointwise nat_eq) texts_Decide)

-- the place of a form in their order
form : Tree → ℕ
form (leaf p k) = 0
form (branch tip links) = 1
form no_branch = 2
form (one_branch tree rest) = 3

mismatch : (a b : Tree) → nat_eq (form a) (form b) ≡ false → Decides false (a ≡ b)
mismatch a b f = (λ h. absurd (true≢false (sym h)), λ e. sym f ∙ (Decides-eqb (form a) (form b)).1 (ap form e))

part_in : Tree → Part → Part
part_in (leaf p k) q = p
part_in (branch tip links) q = q
part_in no_branch q = q
part_in (one_branch tree rest) q = q

kind_in : Tree → Kind
kind_in (leaf p k) = k
kind_in (branch tip links) = external []
kind_in no_branch = external []
kind_in (one_branch tree rest) = external []

links_in : Tree → List Link
links_in (leaf p k) = []
links_in (branch tip links) = links
links_in no_branch = []
links_in (one_branch tree rest) = []

first_in : Tree → Tree
first_in (leaf p k) = no_branch
first_in (branch tip links) = tip
first_in no_branch = no_branch
first_in (one_branch tree rest) = tree

rest_in : Tree → Tree
rest_in (leaf p k) = no_branch
rest_in (branch tip links) = no_branch
rest_in no_branch = no_branch
rest_in (one_branch tree rest) = rest

trees_Decide : (a b : Tree) → Decides (trees_eq a b) (a ≡ b)
unfolding form part_in kind_in links_in first_in rest_in
trees_Decide (leaf p k) (leaf q l) =
    let d = both_Decides _ _ (parts_Decide p q) (kinds_Decide k l) in
    (λ h. let e = d.0 h in λ i. leaf (e.0 i) (e.1 i), λ e. d.1 (ap (λ t. part_in t p) e, ap kind_in e))
trees_Decide (branch a links) (branch b others) =
    let d = both_Decides _ _ (trees_Decide a b) (slice_eq-Decides links_Decide links others (pointwise links_eq links others) refl) in
    (λ h. let e = d.0 h in λ i. branch (e.0 i) (e.1 i), λ e. d.1 (ap first_in e, ap links_in e))
trees_Decide no_branch no_branch = (λ h. refl, λ e. refl)
trees_Decide (one_branch a rest) (one_branch b others) =
    let d = both_Decides _ _ (trees_Decide a b) (trees_Decide rest others) in
    (λ h. let e = d.0 h in λ i. one_branch (e.0 i) (e.1 i), λ e. d.1 (ap first_in e, ap rest_in e))
trees_Decide a b = mismatch a b refl

pub tree_eq_equivalence : IsEquivalence tree_eq
tree_eq_equivalence = on_equiv tree_seen (decided trees_eq trees_Decide)

pub tree_eq_decides : (a b : ErrorTree) → Decides (tree_eq a b) (tree_seen a ≡ tree_seen b)
tree_eq_decides a b = trees_Decide (tree_seen a) (tree_seen b)

-- the place of a fault in their order
order : Failing → ℕ
order (failing tree) = 0
order too_deep = 1
order out_of_memory = 2

tree_in : Failing → Tree
tree_in (failing tree) = tree
tree_in too_deep = no_branch
tree_in out_of_memory = no_branch

other_fault : (a b : Failing) → nat_eq (order a) (order b) ≡ false → Decides false (a ≡ b)
other_fault a b f = (λ h. absurd (true≢false (sym h)), λ e. sym f ∙ (Decides-eqb (order a) (order b)).1 (ap order e))

faults_Decide : (a b : Failing) → Decides (faults_eq a b) (a ≡ b)
unfolding order tree_in
faults_Decide (failing a) (failing b) = (λ h. ap failing ((trees_Decide a b).0 h), λ e. (trees_Decide a b).1 (ap tree_in e))
faults_Decide too_deep too_deep = (λ h. refl, λ e. refl)
faults_Decide out_of_memory out_of_memory = (λ h. refl, λ e. refl)
faults_Decide a b = other_fault a b refl

pub fault_eq_equivalence : IsEquivalence fault_eq
fault_eq_equivalence = on_equiv fault_seen (decided faults_eq faults_Decide)

pub fault_eq_decides : (a b : ParseFault) → Decides (fault_eq a b) (fault_seen a ≡ fault_seen b)
fault_eq_decides a b = faults_Decide (fault_seen a) (fault_seen b)
