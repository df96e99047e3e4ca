use Rattle.std.proofs.Common.{◌≡◌, ℕ, ◌+◌, ◌*◌, drop, Some}
use Rattle.asn_meaning_heads.specs.Scopes.{shown}
use Rattle.asn_meaning_heads.specs.Spans.{further}
use Rattle.asn_meaning_shapes.specs.Members.{shown_members}
use Rattle.asn_meaning_shapes.proofs.Putting.{from}
use Rattle.asn_meaning.specs.Judge.{meaning}
use Rattle.asn_meaning.specs.Members.{and_then, members_at, put_in}
use Rattle.asn_tree.specs.declared.types.SequenceOrSet.{out-SequenceOrSet}
use Rattle.asn_meaning_shapes.proofs.components.+membering.Given as goal

abbrev pub decreases-struct_members_over : goal.decreases-struct_members_over
decreases-struct_members_over l = 6 * l.steps

abbrev pub decreases-members_over : goal.decreases-members_over
decreases-members_over l = 6 * l.steps + 1

abbrev pub decreases-components_of : goal.decreases-components_of
decreases-components_of l = 6 * l.steps + 2

abbrev pub decreases-put_at : goal.decreases-put_at
decreases-put_at l = 6 * l.steps + 3

abbrev pub decreases-put_in : goal.decreases-put_in
decreases-put_in l = 6 * l.steps + 4

abbrev pub decreases-members_at : goal.decreases-members_at
decreases-members_at l = 6 * l.steps + 5

abbrev pub invariant-put_in-loop-i : goal.invariant-put_in-loop-i
invariant-put_in-loop-i l =
    (m : ℕ) → and_then (Some (shown_members l.members)) (put_in (meaning l.names.definitions.now (l.steps + further l.span m)) (shown l.scope) l.number (drop l.i l.included) (drop l.i l.places))
    ≡ put_in (meaning l.names.definitions.now (l.steps + further l.span m)) (shown l.scope) l.number (out-SequenceOrSet l.layer).components_of (out-SequenceOrSet l.layer).components_at

abbrev pub invariant-members_at-loop-number : goal.invariant-members_at-loop-number
invariant-members_at-loop-number l =
    (m : ℕ) → and_then (Some (shown_members l.members)) (from (meaning l.names.definitions.now (l.steps + further l.span m)) (shown l.scope) (out-SequenceOrSet l.layer) l.number)
    ≡ members_at (meaning l.names.definitions.now (l.steps + further l.span m)) (shown l.scope) (out-SequenceOrSet l.layer)
