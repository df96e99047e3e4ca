use Rattle.std.proofs.Common.{◌≡◌, drop, map}
use Rattle.asn_meaning_heads.specs.Following.{at_first}
use Rattle.asn_meaning_heads.specs.Tokens.{shown_behind}
use Rattle.asn_meaning.specs.Objects.{optional_tokens, part_of}
use Rattle.asn_meaning_heads.proofs.following.+beginning.Given as goal

abbrev pub invariant-stands_in_group-loop-i : goal.invariant-stands_in_group-loop-i
invariant-stands_in_group-loop-i l =
    at_first (optional_tokens (map part_of (drop l.i l.parts))) (shown_behind l.behind) l.item ≡ at_first (optional_tokens (map part_of l.group)) (shown_behind l.behind) l.item
