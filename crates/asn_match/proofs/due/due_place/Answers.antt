use Rattle.std.proofs.Common.{arith}
use Rattle.asn_rules.specs.Due.{due_later, header_pieces, body_pieces}
use Rattle.asn_rules.specs.Grammar.{rules_of}
use Rattle.asn_rules.proofs.Modules.{pieces_take}
use Rattle.asn_rules.proofs.Shapes.{shape_of}
use Rattle.asn_match.proofs.Dues.{due_behind, same_fault}
use Rattle.asn_match.proofs.due.due_place.Goals as goal

pub loop-end-smaller : goal.loop-end-smaller
loop-end-smaller g c =
    let w = rw c.in-Ok-Stands.field-0-is at c.in-Ok-Stands.ensures.walked in
    omega (arith, pieces_take (rules_of c.args.grammar) (header_pieces c.args.grammar) body_pieces (shape_of c.args.grammar) c.args.text.now c.args.depth c.loop-end.at c.in-Ok-Stands.end c.loop-end.invariant.within w.0, w.2)

pub loop-end-preserved : goal.loop-end-preserved
loop-end-preserved g c =
    let w = rw c.in-Ok-Stands.field-0-is at c.in-Ok-Stands.ensures.walked in
    let y = rw c.in-Ok-true.field-0-test at c.in-Ok-true.ensures.followed in
    record {
      on = λ p f q due. c.loop-end.invariant.on p f q (due_later w.0 y.1 y.2 due);
      back = λ p f q due. (due_behind (rules_of c.args.grammar) c.args.text.now c.args.depth p f q c.loop-end.invariant.within w.0 (c.loop-end.invariant.back p f q due)).1;
      within = w.2;
      holds = c.in-Ok-true.ensures.kept;
    }

pub returns-in-Ok-false-clause-never : goal.returns-in-Ok-false-clause-never
returns-in-Ok-false-clause-never g c =
    let w = rw c.in-Ok-Stands.field-0-is at c.in-Ok-Stands.ensures.walked in
    let n = rw c.in-Ok-false.field-0-test at c.in-Ok-false.ensures.followed in
    λ _ p f q due.
    let b = due_behind (rules_of c.args.grammar) c.args.text.now c.args.depth p f q c.loop-end.invariant.within w.0 (c.loop-end.invariant.back p f q due) in
    n b.0.0 b.0.1 b.0.2

pub returns-in-Err-is_followed-clause-never : goal.returns-in-Err-is_followed-clause-never
returns-in-Err-is_followed-clause-never g c =
    let w = rw c.in-Ok-Stands.field-0-is at c.in-Ok-Stands.ensures.walked in
    λ same p f q due.
    let b = due_behind (rules_of c.args.grammar) c.args.text.now c.args.depth p f q c.loop-end.invariant.within w.0 (c.loop-end.invariant.back p f q due) in
    c.in-Err-is_followed.ensures.never (same_fault c.in-Err-is_followed.fault same) b.0.0 b.0.1
