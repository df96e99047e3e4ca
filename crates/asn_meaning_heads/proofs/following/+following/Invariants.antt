use Rattle.std.proofs.Common.{◌≡◌, drop, map}
use Rattle.std.specs.Option.{option_map}
use Rattle.asn_meaning_heads.specs.Following.{walked}
use Rattle.asn_meaning_heads.specs.Objects.{shown_given}
use Rattle.asn_meaning_heads.specs.Tokens.{shown_behind, tokens_by}
use Rattle.asn_meaning.specs.Objects.{follow_each, part_of}
use Rattle.asn_meaning_heads.proofs.following.+following.Given as goal

abbrev pub invariant-follow_each-loop-i : goal.invariant-follow_each-loop-i
invariant-follow_each-loop-i l =
    walked l.name (option_map shown_given l.walk.found) (follow_each (tokens_by l.grouped) (map part_of (drop l.i l.items)) (shown_behind l.behind) l.walk.left.now)
    ≡ walked l.name (option_map shown_given l.initial.walk.found) (follow_each (tokens_by l.grouped) (map part_of l.parts) (shown_behind l.behind) l.initial.walk.left.now)
