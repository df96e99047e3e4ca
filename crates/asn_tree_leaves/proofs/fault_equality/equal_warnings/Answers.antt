use Rattle.std.proofs.Common.{◌≡◌, rules, refl, ℕ, Bool, List, Option, Some, None, ap, nat_eq}
use Rattle.std.proofs.lemmas.Bool.Decides.{Decides-and, Decides-eqb}
use Rattle.std.proofs.lemmas.Slice.Eq.{slice_eq-Decides}
use Rattle.std.specs.Bool.{Decides}
use Rattle.std.specs.Cmp.Lexicographic.{pointwise}
use Rattle.std.specs.Option.{option_eq}
use Rattle.asn_tree_leaves.specs.declared.errors.GrammarErrorType.{GrammarErrorType}
use Rattle.asn_tree_leaves.specs.contracts.errors.GrammarErrorTypePartialEq.TheImpl as grammars
use Rattle.asn_tree_leaves.specs.declared.errors.LinkerErrorType.{LinkerErrorType}
use Rattle.asn_tree_leaves.specs.contracts.errors.LinkerErrorTypePartialEq.TheImpl as kinds
use Rattle.asn_tree_leaves.proofs.fault_equality.equal_warnings.Goals as goal

grammar_decides : (a b : GrammarErrorType) → Decides (grammars.eq-value.it a b) (a ≡ b)
grammar_decides a b = search rules

kind_decides : (a b : LinkerErrorType) → Decides (kinds.eq-value.it a b) (a ≡ b)
kind_decides a b = search rules

text_decides : (xs ys : List ℕ) → Decides (pointwise nat_eq xs ys) (xs ≡ ys)
text_decides xs ys = slice_eq-Decides Decides-eqb xs ys _ refl

abbrev held : {T : Type 0} → T → Option T → T
held a None = a
held a (Some b) = b

option_decides : {T : Type 0} (eq : T → T → Bool) → ((a b : T) → Decides (eq a b) (a ≡ b)) → (x y : Option T) → Decides (option_eq eq x y) (x ≡ y)
option_decides eq d None None = search rules
option_decides eq d None (Some b) = search rules
option_decides eq d (Some a) None = search rules
option_decides eq d (Some a) (Some b) = (λ is. ap Some ((d a b).0 is), λ e. (d a b).1 (ap (held a) e))

pub returns : goal.returns
returns c =
    let x = c.args.left.now in
    let y = c.args.right.now in
    let d = Decides-and _ _ (option_decides (pointwise nat_eq) text_decides x.pdu y.pdu)
    (Decides-and _ _ (text_decides x.details.now y.details.now)
    (Decides-and _ _ (kind_decides x.kind y.kind) (option_decides grammars.eq-value.it grammar_decides x.grammar y.grammar))) in
    (λ is. let p = d.0 is in (p.0, p.1.0, p.1.1.0, p.1.1.1), λ same. d.1 (same.0, (same.1, (same.2, same.3))))
