use Rattle.std.proofs.Common.{◌≡◌, ◌++◌, drop}
use Rattle.rows_trees.specs.Lines.{module_lines}
use Rattle.rows_trees.proofs.listing.write_listing.Given as goal

abbrev pub invariant-loop-header : goal.invariant-loop-header
invariant-loop-header l = l.out ++ module_lines (drop l.header-index l.modules) ≡ l.initial.out ++ module_lines l.modules
