use Rattle.std.proofs.Common.{◌≡◌, drop}
use Rattle.asn_meaning_shapes.specs.Answers.{known}
use Rattle.asn_meaning_shapes.specs.Members.{shown_members}
use Rattle.asn_meaning_shapes.specs.Trees.{shown_fields}
use Rattle.asn_meaning.specs.Answers.{answer_of, both, each}
use Rattle.asn_meaning.specs.Constraints.{is_left_out}
use Rattle.asn_judge.proofs.presence.are_left_out.Given as goal

abbrev pub invariant-loop-member : goal.invariant-loop-member
invariant-loop-member l =
    both (known l.answer) (each (λ m. answer_of (is_left_out l.inner (shown_fields l.fields) m)) (shown_members (drop l.member-index l.members)))
    ≡ each (λ m. answer_of (is_left_out l.inner (shown_fields l.fields) m)) (shown_members l.members)
