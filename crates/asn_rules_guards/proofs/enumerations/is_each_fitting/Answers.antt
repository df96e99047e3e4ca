use Rattle.std.proofs.Common.{sym, ap, ◌∙◌}
use Rattle.asn_tree_numbers.specs.Enumeration.{written}
use Rattle.asn_rules_guards.specs.Enumerations.{added_items, fit_behind, is_among, items, root_items, root_numbers}
use Rattle.asn_rules_guards.proofs.Numbered.{by_short_way, short_way}
use Rattle.asn_rules_guards.proofs.enumerations.is_each_fitting.Goals as goal

pub returns-in-Some : goal.returns-in-Some
returns-in-Some c =
    let root = c.past-root.result.now in
    let marker = c.behind_marker.result.now in
    c.additions_fit.ensures
    ∙ ap (λ e. short_way e (items root) (items marker)) (sym c.in-Some.is ∙ c.root_end.ensures)
    ∙ by_short_way (items root) (items marker)
    ∙ ap (λ r. fit_behind (root_numbers (is_among (written (items r))) 0 (items r)) (items marker)) c.past-root.ensures
    ∙ ap (λ m. fit_behind (root_numbers (is_among (written (root_items c.args.taken.now))) 0 (root_items c.args.taken.now)) (items m)) c.behind_marker.ensures

pub returns-in-None : goal.returns-in-None
returns-in-None c =
    let root = c.past-root.result.now in
    ap (λ e. short_way e (items root) (added_items c.args.taken.now)) (sym c.in-None.is ∙ c.root_end.ensures)
    ∙ by_short_way (items root) (added_items c.args.taken.now)
    ∙ ap (λ r. fit_behind (root_numbers (is_among (written (items r))) 0 (items r)) (added_items c.args.taken.now)) c.past-root.ensures
