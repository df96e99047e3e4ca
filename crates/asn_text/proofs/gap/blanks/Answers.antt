use Rattle.std.proofs.Common.{sym, ◌∙◌, arith}
use Rattle.std.proofs.lemmas.List.Sums.{prefix_len-drop_yes}
use Rattle.std.proofs.lemmas.Str.{IsCharBoundary-start, IsCharBoundary-after_ascii}
use Rattle.asn_rules_guards.specs.Lexical.{is_blank}
use Rattle.asn_text.proofs.Standing.{blank_small}
use Rattle.asn_text.proofs.gap.blanks.Goals as goal

pub loop-count-init : goal.loop-count-init
loop-count-init c = record {
  within = omega arith;
  passed = omega arith;
  boundary = IsCharBoundary-start c.as_bytes-bytes.result.now c.as_bytes-bytes.ensures.utf8;
}

pub loop-count-preserved : goal.loop-count-preserved
loop-count-preserved c =
    let bytes = c.as_bytes-bytes.result.now in
    let i = c.loop-count.count in
    let is = sym c.is_blank.ensures ∙ c.if-not-is_blank.false in
    record {
      within = omega arith;
      passed = omega (arith, prefix_len-drop_yes is_blank bytes i 0 c.loop-count-test.true is);
      boundary = IsCharBoundary-after_ascii bytes i c.as_bytes-bytes.ensures.utf8 c.loop-count-test.true (blank_small _ is);
    }
