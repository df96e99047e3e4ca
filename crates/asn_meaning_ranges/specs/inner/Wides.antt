-- The whole numbers that those of the code stand for which may lie beyond i128.
use Rattle.std.specs.Prelude.{ℤ, pos, negsuc, ◌+◌, ◌^◌, List, map}
use Rattle.asn_meaning_ranges.specs.declared.wide.Wide.{Wide}
use Rattle.asn_meaning_ranges.specs.declared.wide.Wide.TheVariants.{Within, Below, Above}

abbrev pub wide : Wide → ℤ
wide (Within i) = i
wide (Below n) = negsuc (2 ^ 127 + n)
wide (Above n) = pos (2 ^ 127 + n)

abbrev pub all_wide : List Wide → List ℤ
all_wide ws = map wide ws
