use Rattle.std.proofs.Common.{ap, length, map, subst, sym, ◌∙◌}
use Rattle.std.proofs.lemmas.List.{length-map}
use Rattle.asn_check.specs.Judged.{AreJudgements, is_withheld}
use Rattle.asn_names_index.specs.Definitions.{name_of}
use Rattle.asn_names_graph.specs.Drawn.{Ascend}
use Rattle.asn_check.proofs.Answered.{answered}
use Rattle.asn_check.proofs.Judged.{judged_long}
use Rattle.asn_check.proofs.Warned.{each_named}
use Rattle.asn_check.proofs.link.link_judged.Goals as goal

pub link_given-requires-clause-ascend : goal.link_given-requires-clause-ascend
link_given-requires-clause-ascend c = subst Ascend (sym (ap (map (λ n. n.now)) c.as_slice.ensures ∙ c.in_ok-all.ensures ∙ each_named c.args.standing.now)) c.requires.stand.ascending

pub link_given-requires-clause-long : goal.link_given-requires-clause-long
link_given-requires-clause-long c =
    let names = map (λ d. name_of d.now) c.args.standing.now in
    ap length (c.as_slice-2.ensures ∙ c.in_ok-withheld.ensures)
    ∙ length-map c.as_slice-told.result.now is_withheld
    ∙ ap length c.as_slice-told.ensures
    ∙ judged_long c.args.names.now.definitions.now names c.in_ok-judgements.judgements c.in_ok-judgements.ensures
    ∙ sym (ap length (ap (map (λ n. n.now)) c.as_slice.ensures ∙ c.in_ok-all.ensures))
    ∙ length-map c.as_slice.result.now (λ n. n.now)

pub warn_beside-requires-clause-judged : goal.warn_beside-requires-clause-judged
warn_beside-requires-clause-judged c = subst (AreJudgements c.args.names.now.definitions.now (map (λ d. name_of d.now) c.args.standing.now)) (sym c.as_slice-told.ensures) c.in_ok-judgements.ensures

pub warn_beside-requires-clause-ascend : goal.warn_beside-requires-clause-ascend
warn_beside-requires-clause-ascend c =
    let l = c.in_ok-linked.ensures.linking in
    subst Ascend (sym (ap (map name_of) c.as_slice-ones.ensures ∙ l.named)) l.linking.stand.ascending

pub warn_beside-requires-clause-long : goal.warn_beside-requires-clause-long
warn_beside-requires-clause-long c = ap length c.as_slice-made.ensures ∙ c.in_ok-linked.ensures.linking.long ∙ sym (ap length c.as_slice-ones.ensures)

pub returns : goal.returns
returns c =
    let defs = c.args.names.now.definitions.now in
    let read = map (λ d. d.now) c.args.standing.now in
    let linked = c.in_ok-linked.linked in
    answered c.args.reading.now defs read c.as_slice-told.result.now c.requires.read c.requires.stand
    (subst (λ names. AreJudgements defs names c.as_slice-told.result.now) (each_named c.args.standing.now)
    (subst (AreJudgements defs (map (λ d. name_of d.now) c.args.standing.now)) (sym c.as_slice-told.ensures) c.in_ok-judgements.ensures))
    (map (λ n. n.now) c.as_slice.result.now) c.as_slice-2.result.now (ap (map (λ n. n.now)) c.as_slice.ensures ∙ c.in_ok-all.ensures ∙ each_named c.args.standing.now)
    (c.as_slice-2.ensures ∙ c.in_ok-withheld.ensures) linked.definitions linked.made linked.closed c.in_ok-linked.ensures
    c.linking_keeps_meaning.ensures c.due_are_warned.ensures c.as_slice-ones.result.now c.as_slice-made.result.now
    (record { modules = c.in_ok-modules.modules; definitions = c.into_definitions.result; warnings = c.in_ok-warnings.warnings }) c.as_slice-ones.ensures c.as_slice-made.ensures
    c.into_definitions.ensures c.in_ok-modules.ensures c.in_ok-warnings.ensures
