use Rattle.std.proofs.Common.{refl, arith}
use Rattle.asn_rules.specs.declared.grammar.Grammar.TheVariants.{Whole}
use Rattle.asn_tool.proofs.Promised.{usage, misused, read_fault, read_failed, write_fault, write_failed, too_long, not_utf8, too_deep, matching, headline, complete, one_line}
use Rattle.asn_tool.proofs.running.run.Goals as goal

pub returns : goal.returns
returns g c =
    let e = c.run_through.ensures.ends in
    record {
      headline = headline _ _ _ _ _ _ e;
      complete = complete _ _ _ _ _ _ e (λ t. c.one_outcome.ensures Whole t 190 0 (omega arith));
      usage = usage _ _ _ _ _ _ e;
      misused = misused _ _ _ _ _ _ e;
      unread = c.run_through.ensures.unread;
      read_fault = read_fault _ _ _ _ _ _ e;
      read_failed = read_failed _ _ _ _ _ _ e;
      too_long = too_long _ _ _ _ _ _ e;
      not_utf8 = not_utf8 _ _ _ _ _ _ e;
      too_deep = too_deep _ _ _ _ _ _ e;
      matching = matching _ _ _ _ _ _ e;
      write_fault = write_fault _ _ _ _ _ _ e;
      write_failed = write_failed _ _ _ _ _ _ e;
      error_line = one_line _ _ _ _ _ _ e c.run_through.result.status refl;
      ends = e;
      source_later = c.run_through.ensures.source_later;
      sink_later = c.run_through.ensures.sink_later;
    }
