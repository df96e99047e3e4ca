use Rattle.std.proofs.Common.{◌≡◌, drop}
use Rattle.std.specs.Prelude.{int_lt, ◌&&◌}
use Rattle.std.specs.List.{list_any}
use Rattle.asn_meaning_ranges.specs.Sets.{shown_numbers}
use Rattle.asn_meaning_ranges.specs.inner.Wides.{all_wide, wide}
use Rattle.asn_meaning_ranges.proofs.sets.Numbers.+having.Given as goal

abbrev pub invariant-has_below-loop-other : goal.invariant-has_below-loop-other
invariant-has_below-loop-other l =
    list_any (λ k. int_lt k (wide l.number) && (shown_numbers l.self).has k) (all_wide (drop l.other-index l.tries))
    ≡ list_any (λ k. int_lt k (wide l.number) && (shown_numbers l.self).has k) (all_wide l.tries)

abbrev pub invariant-has_above-loop-other : goal.invariant-has_above-loop-other
invariant-has_above-loop-other l =
    list_any (λ k. int_lt (wide l.number) k && (shown_numbers l.self).has k) (all_wide (drop l.other-index l.tries))
    ≡ list_any (λ k. int_lt (wide l.number) k && (shown_numbers l.self).has k) (all_wide l.tries)
