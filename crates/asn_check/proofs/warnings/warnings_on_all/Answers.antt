use Rattle.std.proofs.Common.{map, refl, sym, subst}
use Rattle.asn_names_index.specs.Definitions.{last_named, name_of}
use Rattle.asn_check.specs.Judged.{IsJudgementOf}
use Rattle.asn_check.specs.Warnings.{AreWarningsOn, said_by}
use Rattle.asn_link.specs.Linked.{is_told}
use Rattle.asn_check.proofs.Judged.{judged_at, judged_there}
use Rattle.asn_check.proofs.Warned.{begun, next_warned, all_warned}
use Rattle.asn_check.proofs.warnings.warnings_on_all.Goals as goal

pub loop-i-init : goal.loop-i-init
loop-i-init c = begun c.args.names.now.definitions.now (is_told (map (λ n. n.now) c.args.all.now) c.args.made.now) (λ d. name_of d.now) _ c.args.definitions.now c.new-warnings.result refl c.new-warnings.ensures

pub told_at-judgement-requires : goal.told_at-judgement-requires
told_at-judgement-requires c = judged_there c.args.names.now.definitions.now (λ d. name_of d.now) c.args.definitions.now c.args.judgements.now c.loop-i.i c.requires.judged c.loop-i-test.true

pub warnings_on-requires-clause-judged : goal.warnings_on-requires-clause-judged
warnings_on-requires-clause-judged c =
    subst (λ name. IsJudgementOf c.args.names.now.definitions.now name (last_named c.args.names.now.definitions.now name) c.told_at-judgement.result) (sym c.name-name.ensures)
    (judged_at c.args.names.now.definitions.now (λ d. name_of d.now) c.args.definitions.now c.args.judgements.now c.loop-i.i c.index-definitions-i.result c.told_at-judgement.result c.requires.judged c.loop-i-test.true
    c.index-definitions-i.is c.told_at-judgement.ensures)

pub loop-i-preserved : goal.loop-i-preserved
loop-i-preserved c =
    next_warned c.args.names.now.definitions.now (is_told (map (λ n. n.now) c.args.all.now) c.args.made.now) (λ d. name_of d.now) _ c.args.definitions.now c.loop-i.i c.index-definitions-i.result c.loop-i.warnings c.in_ok-here.here c.append.new.self c.loop-i-test.true
    c.index-definitions-i.is c.loop-i.invariant (subst (λ name. AreWarningsOn c.args.names.now.definitions.now (is_told (map (λ n. n.now) c.args.all.now) c.args.made.now) name (map said_by c.in_ok-here.here)) c.name-name.ensures c.in_ok-here.ensures)
    c.in_ok-append.ensures.ok

pub returns : goal.returns
returns c = all_warned c.args.names.now.definitions.now (is_told (map (λ n. n.now) c.args.all.now) c.args.made.now) (λ d. name_of d.now) _ c.args.definitions.now c.loop-i.i c.loop-i.warnings c.loop-i-test.false c.loop-i.invariant
