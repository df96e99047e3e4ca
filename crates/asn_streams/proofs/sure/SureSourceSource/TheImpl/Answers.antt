-- A read of this source never fails, so that what the trait says of failures holds.
use Rattle.std.proofs.Common.{rules}
use Rattle.asn_streams.proofs.sure.SureSourceSource.TheImpl.Goals as goal

pub read-tells : goal.read-tells
read-tells g c =
    record {
      within = search rules;
      given = search rules;
      end = search rules;
      same = search rules;
      later = search rules;
      no_fault = search rules;
      cause = search rules;
    }
