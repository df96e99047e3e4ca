use Rattle.std.proofs.Common.{◌≡◌, ◌<◌, ◌∙◌, arith, length, map, sym}
use Rattle.std.proofs.lemmas.List.{length-map}
use Rattle.asn_names_circles.proofs.Circling.{back_there}
use Rattle.asn_names_circles.proofs.circles.is_back.Goals as goal

pub returns-else-here-there : goal.returns-else-here-there
returns-else-here-there c = (
  (λ t. absurd cc),
  (λ b. (
      let s = c.in-Some.ensures.found in
      let within : c.in-Some.place < length (map (λ n. n.now) c.args.names.now) = s.within in
      let long : length (map (λ n. n.now) c.args.names.now) ≡ length c.args.names.now = length-map c.args.names.now (λ n. n.now) in
      let one = back_there c.args.components.now.edges (map (λ n. n.now) c.args.names.now) c.args.node c.args.name.now c.in-Some.place c.requires.ascend s b in
      let same : c.component-here.result ≡ c.component-there.result = (c.component-here.ensures.one c.in-Some.place (omega (arith, within, long, c.requires.long))).1 one ∙ sym c.component-there.ensures.number in
      absurd (omega (arith, same)))),
)
