use Rattle.asn_text.proofs.Walks.{one_stop, stop_or_end}
use Rattle.asn_text.proofs.until.one_course.Goals as goal

pub returns-clause-one_stop : goal.returns-clause-one_stop
returns-clause-one_stop c = λ walker text j k one another. one_stop walker text one another

pub returns-clause-stop_or_end : goal.returns-clause-stop_or_end
returns-clause-stop_or_end c = λ walker text j never stops. stop_or_end walker text never stops
