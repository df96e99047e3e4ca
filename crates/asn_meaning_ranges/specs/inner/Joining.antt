-- Elements joined by set operators, taken one by one.
use Rattle.std.specs.Prelude.{List, Option, Some}
use Rattle.std.specs.Option.{option_map}
use Rattle.asn_tree_kinds.specs.declared.constraints.SetOperator.{SetOperator}
use Rattle.asn_tree_kinds.specs.declared.constraints.SetOperator.TheVariants.{Intersection, Union, Except}
use Rattle.asn_tree.specs.declared.constraints.SubtypeElement.{SubtypeElement, out-SubtypeElement}
use Rattle.asn_meaning_ranges.specs.declared.joining.Ranks.{Ranks as OwnRanks}
use Rattle.asn_meaning_ranges.specs.Sets.{shown_numbers}
use Rattle.asn_meaning.specs.Meaning.{Meaning, Parent}
use Rattle.asn_meaning.specs.Numbers.{Numbers, every_number, in_both, in_either, in_first, lifted, number_sets, ranked_from}
use Rattle.asn_meaning.specs.Ranges.{numbers_at_element}
use Rattle.asn_meaning.specs.Scopes.{Scope}

-- what is known of the elements so far: those before the last UNION, those intersected since, and the last one
pub record Ranks : Type 0 where
  pub united : Option Numbers
  pub met : Option Numbers
  pub last : Option Numbers

abbrev pub shown_ranks : OwnRanks → Ranks
shown_ranks r = record { united = option_map shown_numbers r.united; met = option_map shown_numbers r.met; last = option_map shown_numbers r.last }

-- one element more
abbrev pub ranks_with : Ranks → SetOperator → Option Numbers → Ranks
ranks_with r Except s = record r { last = lifted in_first r.last s }
ranks_with r Intersection s = record r { met = lifted in_both r.met r.last; last = s }
ranks_with r Union s = record { united = lifted in_either r.united (lifted in_both r.met r.last); met = Some every_number; last = s }

abbrev pub ranked_behind : (SubtypeElement → Option Numbers) → Ranks → List (SetOperator × SubtypeElement) → Option Numbers
ranked_behind f r others = ranked_from number_sets f r.united r.met r.last others

abbrev pub numbers_of_element : Meaning → Scope → Parent → SubtypeElement → Option Numbers
numbers_of_element M scope parent e = numbers_at_element M scope parent (out-SubtypeElement e)
