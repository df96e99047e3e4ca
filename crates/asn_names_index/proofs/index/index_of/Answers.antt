use Rattle.std.proofs.Common.{take, sym, ap, ◌∙◌}
use Rattle.std.specs.Prelude.{is_some}
use Rattle.asn_names_index.specs.Definitions.{name_of}
use Rattle.asn_names_index.specs.Index.{place_in}
use Rattle.asn_names_index.proofs.LastPlaces.{index_more, some_copied}
use Rattle.asn_names_index.proofs.index.index_of.Goals as goal

pub loop-at-preserved : goal.loop-at-preserved
loop-at-preserved c = λ q.
    let again = c.is_some.ensures ∙ sym (some_copied c.get.result) ∙ ap is_some (c.get.ensures.value ∙ c.loop-at.invariant _) ∙ ap (λ n. is_some (place_in (take c.loop-at.at c.args.definitions.now) n)) c.as_str.ensures in
    c.in_ok-put.ensures q
    ∙ index_more q c.name-name.result.now c.args.definitions.now c.loop-at.at c.index-definitions-at.result c.is_some.result _ c.loop-at-test.true (c.name-name.ensures ∙ ap name_of c.index-definitions-at.is) (c.loop-at.invariant q) again
