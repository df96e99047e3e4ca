use Rattle.std.proofs.Common.{rules}
use Rattle.asn_streams.proofs.Unchanged.{told_same}
use Rattle.asn_streams.proofs.listed.ListSourceSource.TheImpl.Goals as goal

pub read-tells : goal.read-tells
read-tells g c =
    record {
      within = search rules;
      given = search rules;
      end = search rules;
      same = told_same _ _ _ c.ensures.kept;
      later = search rules;
      no_fault = search rules;
      cause = search rules;
    }
