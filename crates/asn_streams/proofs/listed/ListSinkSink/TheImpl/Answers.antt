use Rattle.std.proofs.Common.{rules}
use Rattle.asn_streams.proofs.Unchanged.{told_same}
use Rattle.asn_streams.proofs.listed.ListSinkSink.TheImpl.Goals as goal

pub write-tells : goal.write-tells
write-tells g c =
    record {
      one = search rules;
      within = search rules;
      taken = search rules;
      same = told_same _ _ _ c.ensures.kept;
      later = search rules;
      no_fault = search rules;
      cause = search rules;
    }
