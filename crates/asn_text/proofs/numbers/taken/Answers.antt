use Rattle.std.proofs.Common.{ap, ◌∙◌}
use Rattle.asn_rules.specs.Expression.{rule_of}
use Rattle.asn_rules.specs.Whole.{whole_rules}
use Rattle.asn_text.specs.inner.Parts.{passes}
use Rattle.asn_text.proofs.Gaps.{passed_guard}
use Rattle.asn_text.proofs.numbers.taken.Goals as goal

pub returns-in-Ok-clause-ok : goal.returns-in-Ok-clause-ok
returns-in-Ok-clause-ok c =
    let taken_is = c.into_inner.ensures ∙ c.slice_to.ensures.first in
    record {
      place = c.in-Ok.end;
      ends_at = c.in-Ok.ensures.ok;
      rest_is = c.slice_from.ensures.part;
      made_is = record {
        taken_is = taken_is;
        passes_guard = ap (passes (rule_of whole_rules c.args.rule)) taken_is ∙ passed_guard _ c.args.rule c.args.depth c.in-Ok.end c.in-Ok.ensures.ok;
      };
    }
