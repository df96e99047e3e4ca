use Rattle.std.proofs.Common.{ap, map, ◌∙◌}
use Rattle.asn_names_circles.proofs.Followed.{followers_told, names_told}
use Rattle.asn_names_circles.proofs.following.follow_no_circle.Goals as goal

pub follow_each-requires : goal.follow_each-requires
follow_each-requires c =
    names_told (λ d. d.now) c.args.names.now.definitions.now c.args.standing.now c.requires.standing (map (λ n. n.now) c.as_slice.result.now) c.args.free.now
    (ap (map (λ n. n.now)) c.as_slice.ensures ∙ c.in_ok-all.ensures) c.requires.free

pub returns : goal.returns
returns c = followers_told (λ d. d.now) c.args.names.now.definitions.now c.args.standing.now c.requires.standing c.in_ok-told.told c.in_ok-told.ensures
