use Rattle.asn_calls.proofs.SyntaxTokens.{is_flat}
use Rattle.asn_calls.proofs.laws.flat_syntax_has_the_tokens.Goals as goal

pub returns : goal.returns
returns c = is_flat
