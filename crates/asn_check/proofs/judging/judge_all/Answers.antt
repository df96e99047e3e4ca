use Rattle.std.proofs.Common.{sym, subst, get_or, false, ◌∙◌}
use Rattle.std.specs.Prelude.{◌↔◌, IsTrue}
use Rattle.asn_names_circles.specs.Circles.{FollowsNoCircle, LeadsToNoCircle}
use Rattle.asn_names_index.specs.Definitions.{last_named, name_of}
use Rattle.asn_check.specs.Judged.{IsJudgementOf}
use Rattle.asn_check.proofs.Judged.{judged_all, judged_begun, judged_next}
use Rattle.asn_check.proofs.Warned.{free_at, free_there}
use Rattle.asn_check.proofs.judging.judge_all.Goals as goal

pub loop-i-init : goal.loop-i-init
loop-i-init c = judged_begun c.args.names.now.definitions.now (λ d. name_of d.now) c.args.definitions.now c.new-judgements.result c.new-judgements.ensures

pub bounds-free-i : goal.bounds-free-i
bounds-free-i c = free_there (λ d. name_of d.now) _ c.args.definitions.now c.args.free.now c.loop-i.i c.requires.free c.loop-i-test.true

pub bounds-follow-i : goal.bounds-follow-i
bounds-follow-i c = free_there (λ d. name_of d.now) _ c.args.definitions.now c.args.follow.now c.loop-i.i c.requires.follow c.loop-i-test.true

pub judgement_on-requires-clause-free : goal.judgement_on-requires-clause-free
judgement_on-requires-clause-free c =
    subst (λ name. IsTrue (get_or c.args.free.now c.loop-i.i false) ↔ LeadsToNoCircle c.args.names.now.definitions.now name) (sym (c.as_str.ensures ∙ c.name-name.ensures))
    (free_at (λ d. name_of d.now) (λ name is_free. IsTrue is_free ↔ LeadsToNoCircle c.args.names.now.definitions.now name) c.args.definitions.now c.args.free.now c.loop-i.i
    c.index-definitions-i.result c.requires.free c.loop-i-test.true c.index-definitions-i.is)

pub judgement_on-requires-clause-follows : goal.judgement_on-requires-clause-follows
judgement_on-requires-clause-follows c =
    subst (λ name. IsTrue (get_or c.args.follow.now c.loop-i.i false) ↔ FollowsNoCircle c.args.names.now.definitions.now name) (sym (c.as_str.ensures ∙ c.name-name.ensures))
    (free_at (λ d. name_of d.now) (λ name is_free. IsTrue is_free ↔ FollowsNoCircle c.args.names.now.definitions.now name) c.args.definitions.now c.args.follow.now c.loop-i.i
    c.index-definitions-i.result c.requires.follow c.loop-i-test.true c.index-definitions-i.is)

pub loop-i-preserved : goal.loop-i-preserved
loop-i-preserved c =
    judged_next c.args.names.now.definitions.now (λ d. name_of d.now) c.args.definitions.now c.loop-i.i c.index-definitions-i.result c.loop-i.judgements c.add.new.self c.in_ok-judgement.judgement c.loop-i-test.true
    c.index-definitions-i.is c.loop-i.invariant
    (subst (λ name. IsJudgementOf c.args.names.now.definitions.now name (last_named c.args.names.now.definitions.now name) c.in_ok-judgement.judgement) (c.as_str.ensures ∙ c.name-name.ensures)
    c.in_ok-judgement.ensures) c.in_ok-add.ensures.ok

pub returns : goal.returns
returns c = judged_all c.args.names.now.definitions.now (λ d. name_of d.now) c.args.definitions.now c.loop-i.i c.loop-i.judgements c.loop-i-test.false c.loop-i.invariant
