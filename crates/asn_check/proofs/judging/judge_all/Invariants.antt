use Rattle.std.proofs.Common.{drop}
use Rattle.asn_names_index.specs.Definitions.{name_of}
use Rattle.asn_check.proofs.Judged.{AreSoFar}
use Rattle.asn_check.proofs.judging.judge_all.Given as goal

abbrev pub invariant-loop-i : goal.invariant-loop-i
invariant-loop-i l = AreSoFar l.names.definitions.now (λ d. name_of d.now) l.definitions (drop l.i l.definitions) l.judgements
