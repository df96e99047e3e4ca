use Rattle.std.proofs.Common.{◌≡◌, drop, map}
use Rattle.asn_meaning_heads.specs.Tokens.{due_in, tokens_by}
use Rattle.asn_meaning.specs.Objects.{part_of}
use Rattle.asn_meaning_heads.proofs.tokens.+naming.Given as goal

abbrev pub invariant-due_among-loop-i : goal.invariant-due_among-loop-i
invariant-due_among-loop-i l = due_in l.text (tokens_by l.grouped (map part_of (drop l.i l.parts))) ≡ due_in l.text (tokens_by l.grouped (map part_of (drop l.from l.parts)))
