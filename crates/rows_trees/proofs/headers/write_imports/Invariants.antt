use Rattle.std.proofs.Common.{◌≡◌, ◌++◌, drop, map}
use Rattle.rows_trees.specs.Headers.{import_text}
use Rattle.asn_check_listing.specs.Parts.{joined}
use Rattle.rows_trees.proofs.headers.write_imports.Given as goal

abbrev pub invariant-loop-import : goal.invariant-loop-import
invariant-loop-import l = l.out ++ joined (map import_text (drop l.import-index l.imports)) ≡ l.initial.out ++ joined (map import_text l.imports)
