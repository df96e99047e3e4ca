use Rattle.std.proofs.Common.{◌≡◌, ◌<◌, ◌+◌, ℕ, List, ◌∷◌, length, get_or, drop, map, sym, ap, ◌∙◌, subst, arith}
use Rattle.std.proofs.lemmas.List.{drop_more, drop_all}
use Rattle.asn_rules.specs.Due.{Through, lacks, all_stand, at_end, piece}
use Rattle.asn_rules.specs.Grammar.{rules_of}
use Rattle.asn_rules.specs.declared.due.Piece as code
use Rattle.asn_match.proofs.Dues.{on_lacks, on_stands, behind_piece, deep_piece, same_fault}
use Rattle.asn_match.proofs.due.walk_pieces.Goals as goal

-- the piece at a place, and those behind it
left_at : (ws : List code.Piece) (i : ℕ) (w : code.Piece) → i < length ws → w ≡ get_or ws i w → map piece (drop i ws) ≡ piece w ∷ map piece (drop (i + 1) ws)
left_at ws i w lt at = ap (map piece) (drop_more ws i w lt) ∙ ap (λ x. piece x ∷ map piece (drop (i + 1) ws)) (sym at)

pub returns-in-Ok-Lacks-clause-walked : goal.returns-in-Ok-Lacks-clause-walked
returns-in-Ok-Lacks-clause-walked g c =
    let l = c.loop-one in
    let rules = rules_of c.args.grammar in
    let w = rw c.in-Ok-Lacks.field-0-is at c.in-Ok-Lacks.ensures.walked in
    let left = left_at c.args.wanted.now l.one-index c.one-item.result c.loop-one-test.true c.one-item.is in
    (l.invariant.on (lacks c.in-Ok-Lacks.lacking c.in-Ok-Lacks.tried) (subst (λ ps. Through rules c.args.text.now c.args.depth ps l.at (lacks c.in-Ok-Lacks.lacking c.in-Ok-Lacks.tried)) (sym left) (on_lacks rules c.args.text.now c.args.depth w.0)), w.1)

pub returns-in-Err-clause-never : goal.returns-in-Err-clause-never
returns-in-Err-clause-never g c =
    let l = c.loop-one in
    let rules = rules_of c.args.grammar in
    let left = left_at c.args.wanted.now l.one-index c.one-item.result c.loop-one-test.true c.one-item.is in
    λ same s t. deep_piece rules c.args.text.now c.args.depth (c.in-Err.ensures.never (same_fault c.in-Err.fault same)) s (subst (λ ps. Through rules c.args.text.now c.args.depth ps l.at s) left (l.invariant.back s t))

pub loop-one-preserved : goal.loop-one-preserved
loop-one-preserved g c =
    let l = c.loop-one in
    let rules = rules_of c.args.grammar in
    let w = rw c.in-Ok-Stands.field-0-is at c.in-Ok-Stands.ensures.walked in
    let left = left_at c.args.wanted.now l.one-index c.one-item.result c.loop-one-test.true c.one-item.is in
    record {
      on = λ s t. l.invariant.on s (subst (λ ps. Through rules c.args.text.now c.args.depth ps l.at s) (sym left) (on_stands rules c.args.text.now c.args.depth w.0 t));
      back = λ s t. behind_piece rules c.args.text.now c.args.depth s l.invariant.within w.0 (subst (λ ps. Through rules c.args.text.now c.args.depth ps l.at s) left (l.invariant.back s t));
      ordered = omega (arith, l.invariant.ordered, w.1);
      within = w.2;
      holds = c.in-Ok-Stands.ensures.kept;
    }

pub returns-clause-walked : goal.returns-clause-walked
returns-clause-walked g c =
    let l = c.loop-one in
    let rules = rules_of c.args.grammar in
    let none_left = drop_all l.one-index c.args.wanted.now (omega (arith, c.loop-one-test.false)) in
    (l.invariant.on (all_stand l.at) (subst (λ ps. Through rules c.args.text.now c.args.depth (map piece ps) l.at (all_stand l.at)) (sym none_left) at_end), l.invariant.ordered, l.invariant.within)
