use Rattle.std.proofs.Common.{ap, length, map, refl, subst, sym, ◌∙◌}
use Rattle.std.proofs.lemmas.List.{length-map}
use Rattle.asn_check.specs.Warnings.{AreWarnings, said_by}
use Rattle.asn_names_index.specs.Definitions.{name_of}
use Rattle.asn_link.specs.Linked.{is_told}
use Rattle.asn_names_graph.specs.Drawn.{Ascend}
use Rattle.asn_check.proofs.Warned.{judged}
use Rattle.asn_check.proofs.link.warn_beside.Goals as goal

pub warnings_on_all-requires-clause-ascend : goal.warnings_on_all-requires-clause-ascend
warnings_on_all-requires-clause-ascend c = subst Ascend (sym (ap (map (λ n. n.now)) c.as_slice.ensures ∙ c.in_ok-all.ensures)) c.requires.ascend

pub warnings_on_all-requires-clause-long : goal.warnings_on_all-requires-clause-long
warnings_on_all-requires-clause-long c =
    c.requires.long ∙ sym (ap length (ap (map (λ n. n.now)) c.as_slice.ensures ∙ c.in_ok-all.ensures) ∙ length-map c.args.definitions.now name_of) ∙ length-map c.as_slice.result.now (λ n. n.now)

pub returns : goal.returns
returns c =
    let defs = c.args.names.now.definitions.now in
    subst (λ names. AreWarnings defs (is_told names c.args.made.now) (map said_by c.in_ok-warnings.warnings)) (ap (map (λ n. n.now)) c.as_slice.ensures ∙ c.in_ok-all.ensures)
    (judged c.warnings_are_due.ensures defs defs (is_told (map (λ n. n.now) c.as_slice.result.now) c.args.made.now) c.args.standing.now c.args.standing.now
    (map said_by c.in_ok-warnings.warnings) refl refl c.requires.stand c.in_ok-warnings.ensures)
