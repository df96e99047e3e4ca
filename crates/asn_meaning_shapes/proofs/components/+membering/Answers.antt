use Rattle.std.proofs.Common.{◌+◌, ◌<◌, ◌≤◌, ap, arith, length, sym, ◌∙◌}
use Rattle.std.specs.Option.{option_map}
use Rattle.asn_meaning_heads.specs.Scopes.{shown}
use Rattle.asn_meaning_heads.specs.Spans.{further}
use Rattle.asn_meaning_shapes.specs.Members.{shown_members}
use Rattle.asn_meaning_shapes.proofs.Putting.{put_lost, put_next, put_short}
use Rattle.asn_meaning.specs.Judge.{meaning}
use Rattle.asn_meaning_shapes.proofs.components.+membering.Goals as goal

pub put_in-returns-then-i-places : goal.put_in-returns-then-i-places
put_in-returns-then-i-places t c = λ m.
    let le : length c.as_slice-places.result.now ≤ c.loop-i.i = omega arith in
    sym (put_short (meaning c.args.names.now.definitions.now (c.args.steps + further c.args.span m)) (shown c.args.scope.now) c.args.number c.as_slice-included.result.now c.as_slice-places.result.now c.loop-i.i (shown_members c.loop-i.members) le)
    ∙ c.loop-i.invariant m

pub put_in-returns-in-None : goal.put_in-returns-in-None
put_in-returns-in-None t c = λ m.
    let lt : c.loop-i.i < length c.as_slice-included.result.now = omega arith in
    let less : c.loop-i.i < length c.as_slice-places.result.now = omega arith in
    sym (put_lost (meaning c.args.names.now.definitions.now (c.args.steps + further c.args.span m)) (shown c.args.scope.now) c.args.number c.as_slice-included.result.now c.as_slice-places.result.now c.loop-i.i
    c.index-included-i.result c.place_at-at.result (shown_members c.loop-i.members) lt less c.index-included-i.is c.place_at-at.ensures (sym (c.in_ok-put_at.ensures m) ∙ ap (option_map shown_members) c.in-None.is))
    ∙ c.loop-i.invariant m

pub put_in-loop-i-preserved : goal.put_in-loop-i-preserved
put_in-loop-i-preserved t c = λ m.
    let lt : c.loop-i.i < length c.as_slice-included.result.now = omega arith in
    let less : c.loop-i.i < length c.as_slice-places.result.now = omega arith in
    let found = c.in_ok-put_at.ensures m in
    sym (put_next (meaning c.args.names.now.definitions.now (c.args.steps + further c.args.span m)) (shown c.args.scope.now) c.args.number c.as_slice-included.result.now c.as_slice-places.result.now c.loop-i.i
    c.index-included-i.result c.place_at-at.result (shown_members c.loop-i.members) (shown_members c.in-Some.others) (shown_members c.in_ok-all-in-Some.all) lt less c.index-included-i.is c.place_at-at.ensures (sym found ∙ cc) c.in_ok-all-in-Some.ensures)
    ∙ c.loop-i.invariant m
