use Rattle.std.proofs.Common.{ap, false, length, ◌∙◌}
use Rattle.std.proofs.lemmas.List.{length-map}
use Rattle.rows_meaning.proofs.instances.write_open.Goals as goal

pub link_types-requires-clause-long : goal.link_types-requires-clause-long
link_types-requires-clause-long c = ap length (c.as_slice.ensures ∙ c.in_ok-withheld.ensures) ∙ length-map c.args.standing.now (λ d. false)
