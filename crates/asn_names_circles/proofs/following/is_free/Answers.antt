use Rattle.std.proofs.Common.{map}
use Rattle.asn_names_circles.proofs.Followed.{free_there, undefined_free, within_free}
use Rattle.asn_names_circles.proofs.following.is_free.Goals as goal

pub place_of-requires : goal.place_of-requires
place_of-requires c = c.requires.ascending

pub bounds-free-place : goal.bounds-free-place
bounds-free-place c = within_free c.args.index.now.definitions.now (map (λ n. n.now) c.args.names.now) c.args.free.now c.requires c.args.name.now c.in-Some.place c.in-Some.ensures.found

pub returns-in-Some : goal.returns-in-Some
returns-in-Some c = free_there c.args.index.now.definitions.now (map (λ n. n.now) c.args.names.now) c.args.free.now c.requires c.args.name.now c.in-Some.place c.in-Some.ensures.found

pub returns-in-None : goal.returns-in-None
returns-in-None c =
    ((λ e. undefined_free c.args.index.now.definitions.now (map (λ n. n.now) c.args.names.now) c.args.free.now c.args.name.now c.requires c.in-None.ensures.absent), (λ f. cc))
