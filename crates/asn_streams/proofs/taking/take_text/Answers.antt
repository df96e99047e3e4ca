use Rattle.asn_streams.specs.Taking.{limit}
use Rattle.asn_streams.proofs.taking.take_text.Goals as goal

pub returns-clause-bounded : goal.returns-clause-bounded
unfolding limit
returns-clause-bounded g c = c.take_at_most.ensures.bounded

pub returns-clause-end : goal.returns-clause-end
unfolding limit
returns-clause-end g c = c.take_at_most.ensures.end

pub returns-clause-first : goal.returns-clause-first
unfolding limit
returns-clause-first g c = c.take_at_most.ensures.first

pub returns-clause-lost : goal.returns-clause-lost
unfolding limit
returns-clause-lost g c = c.take_at_most.ensures.lost
