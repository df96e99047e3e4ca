use Rattle.std.proofs.Common.{◌≡◌, drop, map}
use Rattle.asn_meaning_heads.specs.Tokens.{shown_behind, tokens_by}
use Rattle.asn_meaning_fields.specs.Given.{shown_given_fields}
use Rattle.asn_meaning_fields.specs.inner.Walks.{walked}
use Rattle.asn_meaning.specs.Objects.{follow_each, part_of}
use Rattle.asn_meaning_fields.proofs.following.+following.Given as goal

abbrev pub invariant-follow_each-loop-i : goal.invariant-follow_each-loop-i
invariant-follow_each-loop-i l =
    walked (shown_given_fields l.walk.fields) (follow_each (tokens_by l.grouped) (map part_of (drop l.i l.items)) (shown_behind l.behind) l.walk.left.now)
    ≡ walked (shown_given_fields l.initial.walk.fields) (follow_each (tokens_by l.grouped) (map part_of l.parts) (shown_behind l.behind) l.initial.walk.left.now)
