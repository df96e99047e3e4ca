use Rattle.std.proofs.Common.{ap, Err}
use Rattle.asn_tool.proofs.Validity.{unmatched_output}
use Rattle.asn_tool.proofs.judging.read.Goals as goal

pub returns-in-Err-Lexer : goal.returns-in-Err-Lexer
returns-in-Err-Lexer c =
    let m = c.in-Err-Lexer.ensures.matching c.in-Err-Lexer.told (ap Err c.in-Err-Lexer.field-0-is) in
    unmatched_output c.args.depth c.args.source.now c.in-Err-Lexer.told c.unmatched.result (record { short = c.requires; utf8 = c.utf8.source; fails = m.0 }) m.1 c.unmatched.ensures
