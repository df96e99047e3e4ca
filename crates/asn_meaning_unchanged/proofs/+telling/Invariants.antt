use Rattle.std.proofs.Common.{◌≡◌, drop, map}
use Rattle.asn_meaning_unchanged.specs.Unchanged.{all_behind, are_all, constraint_stays, member_stays, option_stays}
use Rattle.asn_meaning_unchanged.proofs.+telling.Given as goal

abbrev pub invariant-constraints::constraints_stay-loop-constraint : goal.invariant-constraints::constraints_stay-loop-constraint
invariant-constraints::constraints_stay-loop-constraint l = all_behind l.all (map constraint_stays (drop l.constraint-index l.constraints)) ≡ are_all (map constraint_stays l.constraints)

abbrev pub invariant-types::members_stay-loop-member : goal.invariant-types::members_stay-loop-member
invariant-types::members_stay-loop-member l = all_behind l.all (map member_stays (drop l.member-index l.members)) ≡ are_all (map member_stays l.members)

abbrev pub invariant-types::options_stay-loop-option : goal.invariant-types::options_stay-loop-option
invariant-types::options_stay-loop-option l = all_behind l.all (map option_stays (drop l.option-index l.options)) ≡ are_all (map option_stays l.options)
