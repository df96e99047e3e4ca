use Rattle.std.proofs.Common.{◌≡◌, ◌++◌, drop}
use Rattle.asn_check_listing.specs.Words.{path_text}
use Rattle.asn_check_listing.proofs.words.write_path.Given as goal

abbrev pub invariant-loop-field : goal.invariant-loop-field
invariant-loop-field l = l.out ++ path_text (drop l.field-index l.path) ≡ l.initial.out ++ path_text l.path
