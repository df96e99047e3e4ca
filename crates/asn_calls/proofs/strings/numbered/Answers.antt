use Rattle.asn_calls.proofs.CharacterSpans.{one_more}
use Rattle.asn_calls.proofs.strings.numbered.Goals as goal

pub loop-place-preserved : goal.loop-place-preserved
loop-place-preserved c =
    one_more c.args.characters.now c.loop-place.place c.index-characters-place.result c.loop-place.set.entries c.insert.new.self.entries c.loop-place-test.true c.loop-place.invariant c.in_ok-insert.ensures.entries c.index-characters-place.is
