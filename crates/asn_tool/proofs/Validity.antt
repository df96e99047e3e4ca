-- How long a text is, and one that does not match.
use Rattle.std.proofs.Common.{ℕ, ◌<◌, ◌≤◌, List, length, refl, sym, subst, inl, inr, arith}
use Rattle.asn_modules.specs.Whole.{IsMatchingError}
use Rattle.asn_text.specs.declared.report.LexerError.{LexerError}
use Rattle.asn_tool.specs.declared.judging.Output.{Output}
use Rattle.asn_tool.specs.declared.status.Status.TheVariants.{Matching}
use Rattle.asn_tool.specs.inner.Output.{IsOutputOf, IsLine}
use Rattle.asn_tool.specs.Run.{IsTooLong, IsUnmatched, place_line}
use Rattle.asn_streams.specs.Taking.{limit}

pub too_long : (text : List ℕ) → 2097152 < length text → IsTooLong text
unfolding limit
too_long text lt = omega arith

pub short_enough : (text : List ℕ) → length text ≤ 2097152 → length text < limit
unfolding limit
short_enough text le = omega arith

-- a text that does not match comes to the line of its place, or to want of memory
pub unmatched_output : (depth : ℕ) (text : List ℕ) (error : LexerError) (output : Output) → IsUnmatched depth text → IsMatchingError text depth error → IsLine Matching (place_line error) output → IsOutputOf depth text output
unmatched_output depth text error due u m (inl e) = subst (IsOutputOf depth text) (sym e) ((refl, refl), u, (error, m, refl))
unmatched_output depth text error due u m (inr e) = subst (IsOutputOf depth text) (sym e) ((refl, refl), refl)
