use Rattle.std.proofs.Common.{ap, map, subst, ◌∙◌}
use Rattle.std.specs.Prelude.{◌↔◌, IsTrue}
use Rattle.asn_names_circles.specs.inner.Followed.{AreAllFree}
use Rattle.asn_names_circles.proofs.following.follows_none.Goals as goal

pub returns : goal.returns
returns c =
    subst (λ names. IsTrue c.are_free.result ↔ AreAllFree c.args.index.now.definitions.now names) (ap (map (λ n. n.now)) c.as_slice.ensures ∙ c.in_ok-mentioned.ensures) c.are_free.ensures
