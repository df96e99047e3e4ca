use Rattle.std.proofs.Common.{ap, map, subst, ◌∙◌}
use Rattle.std.specs.Prelude.{◌↔◌, IsTrue}
use Rattle.asn_names_circles.specs.inner.Nodes.{IsAnyBack}
use Rattle.asn_names_circles.proofs.circles.is_led_back.Goals as goal

pub returns : goal.returns
returns c =
    subst (λ ns. IsTrue c.is_any_back.result ↔ IsAnyBack c.args.components.now.edges (map (λ n. n.now) c.args.names.now) c.args.node ns)
    (ap (map (λ n. n.now)) c.as_slice.ensures ∙ c.in_ok-several.ensures) c.is_any_back.ensures
