use Rattle.std.proofs.Common.{◌≡◌, ◌∙◌, refl, subst, List, [], ◌++◌, ℤ}
use Rattle.asn_tree_numbers.specs.declared.enumeration.Part.TheVariants.{Root, Additions}
use Rattle.asn_tree_numbers.specs.inner.Counting.{Passes}
use Rattle.asn_tree_numbers.specs.Enumeration.{written, Numbered, NumbersPass, AreNumbers}
use Rattle.asn_tree_numbers.proofs.Counting.{root_passes, additions_pass, fit_together}
use Rattle.asn_tree_numbers.proofs.Distinct.{none_pass}
use Rattle.asn_tree_numbers.proofs.enumeration.enumerate.Goals as goal

pub returns-in_default-clause-passes : goal.returns-in_default-clause-passes
returns-in_default-clause-passes c =
    let e : c.in_ok-taken.taken.numbers ≡ written c.args.root.now = c.in_ok-taken.ensures ∙ c.in_ok-written.ensures in
    let p = rw c.in_default.is at c.in_ok-of_root.ensures.numbers in
    let pass : NumbersPass c.args.root.now c.args.additions.now = root_passes c.args.root.now c.args.additions.now (subst (λ (t : List ℤ). Passes Root t c.args.root.now) e p) in
    (λ h. pass, λ h. refl)

pub returns-in_default-2-clause-passes : goal.returns-in_default-2-clause-passes
returns-in_default-2-clause-passes c =
    let e : c.in_ok-taken.taken.numbers ≡ written c.args.root.now = c.in_ok-taken.ensures ∙ c.in_ok-written.ensures in
    let rs = c.in-Some.of_root in
    let r = rw c.in-Some.is at c.in_ok-of_root.ensures.numbers in
    let p = rw c.in_default-2.is at c.in_ok-of_additions.ensures.numbers in
    let pass : NumbersPass c.args.root.now c.args.additions.now = additions_pass c.args.root.now c.args.additions.now rs (subst (λ (t : List ℤ). Numbered Root t [] c.args.root.now rs) e r) (subst (λ (t : List ℤ). Passes Additions t c.args.additions.now) c.in_ok-taken-2.ensures p) in
    (λ h. pass, λ h. refl)

pub returns-clause-passes : goal.returns-clause-passes
returns-clause-passes c =
    let e : c.in_ok-taken.taken.numbers ≡ written c.args.root.now = c.in_ok-taken.ensures ∙ c.in_ok-written.ensures in
    let rs = c.in-Some.of_root in
    let more = c.in-Some-2.of_additions in
    let r = rw c.in-Some.is at c.in_ok-of_root.ensures.numbers in
    let f = rw c.in-Some.is at c.in_ok-of_root.ensures.fit in
    let a = rw c.in-Some-2.is at c.in_ok-of_additions.ensures.numbers in
    let g = rw c.in-Some-2.is at c.in_ok-of_additions.ensures.fit in
    let numbers : AreNumbers c.args.root.now c.args.additions.now (rs ++ more) =
    record {
      of_root = rs;
      of_additions = more;
      root_has = subst (λ (t : List ℤ). Numbered Root t [] c.args.root.now rs) e r;
      additions_have = subst (λ (t : List ℤ). Numbered Additions t [] c.args.additions.now more) c.in_ok-taken-2.ensures a;
      together = refl;
    } in (
      λ h. absurd (cc),
      λ p. absurd (none_pass c.args.root.now c.args.additions.now (rs ++ more) numbers (fit_together rs more f g) p),
    )
