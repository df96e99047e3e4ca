use Rattle.std.proofs.Common.{◌≡◌, ◌<◌, ◌≤◌, ◌+◌, length, get_or, ap, ◌∙◌, arith}
use Rattle.asn_needs.specs.Sites.{seen}
use Rattle.asn_places_types.specs.Sites.{shown_sites}
use Rattle.asn_places.proofs.Reaching.{begun, done, next}
use Rattle.asn_places.proofs.closing.sites_below.Goals as goal

pub loop-i-init : goal.loop-i-init
loop-i-init c = λ m. begun (seen c.args.names.now.definitions.now (c.args.steps + m)) c.args.first

pub returns-then-i-len : goal.returns-then-i-len
returns-then-i-len c = λ m.
    let le : length c.loop-i.sites ≤ c.loop-i.i = omega arith in
    done (seen c.args.names.now.definitions.now (c.args.steps + m)) (shown_sites c.args.first) c.loop-i.i c.loop-i.sites (c.loop-i.invariant m) le

pub loop-i-preserved : goal.loop-i-preserved
loop-i-preserved c = λ m.
    let lt : c.loop-i.i < length c.loop-i.sites = omega arith in
    let is : c.index-as_slice-i.result ≡ get_or c.loop-i.sites c.loop-i.i c.index-as_slice-i.result =
    c.index-as_slice-i.is ∙ ap (λ xs. get_or xs c.loop-i.i c.index-as_slice-i.result) c.as_slice.ensures in
    next (seen c.args.names.now.definitions.now (c.args.steps + m)) (shown_sites c.args.first) c.loop-i.i c.loop-i.sites c.in_ok-found.found c.in_ok-sites.sites c.index-as_slice-i.result
    (c.loop-i.invariant m) lt is (c.in_ok-found.ensures m) c.in_ok-sites.ensures
