use Rattle.std.proofs.Common.{subst, sym}
use Rattle.asn_check.specs.Judged.{IsJudgementOf}
use Rattle.asn_names_index.specs.Definitions.{last_named}
use Rattle.asn_check.proofs.warnings.warnings_on.Goals as goal

pub standing_fault-fault-requires : goal.standing_fault-fault-requires
standing_fault-fault-requires c = subst (λ name. IsJudgementOf c.args.names.now.definitions.now name (last_named c.args.names.now.definitions.now name) c.args.judgement) (sym c.as_str.ensures) c.requires.judged
