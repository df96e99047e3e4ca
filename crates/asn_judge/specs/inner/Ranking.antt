-- What is said of elements joined by set operators, one by one.
use Rattle.asn_tree_kinds.specs.declared.constraints.SetOperator.{SetOperator}
use Rattle.asn_tree_kinds.specs.declared.constraints.SetOperator.TheVariants.{Intersection, Union, Except}
use Rattle.asn_judge.specs.declared.ranking.Ranking.{Ranking}
use Rattle.asn_meaning_shapes.specs.Answers.{known}
use Rattle.asn_meaning.specs.Answers.{Answer, Yes, No, both, either, denied}

-- of what stands before the last UNION, of what is intersected since, and of the last element with its exclusions
pub record Ranks : Type 0 where
  pub united : Answer
  pub met : Answer
  pub last : Answer

abbrev pub ranks_on : Ranking → Ranks
ranks_on r = record { united = known r.united; met = known r.met; last = known r.last }

abbrev pub begun : Answer → Ranks
begun a = record { united = No; met = Yes; last = a }

abbrev pub joined : SetOperator → Answer → Ranks → Ranks
joined Except a r = record { united = r.united; met = r.met; last = both r.last (denied a) }
joined Intersection a r = record { united = r.united; met = both r.met r.last; last = a }
joined Union a r = record { united = either r.united (both r.met r.last); met = Yes; last = a }

abbrev pub told : Ranks → Answer
told r = either r.united (both r.met r.last)
