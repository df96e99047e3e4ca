-- The set of whole numbers of meaning that a set of the code stands for.
use Rattle.asn_meaning_ranges.specs.declared.sets.Numbers.{Numbers as OwnNumbers, Numbers-F, fold-Numbers}
use Rattle.asn_meaning.specs.Numbers.{Numbers, every_number, no_number, one_number, numbers_from, numbers_to, in_both, in_either, in_first, above_least, below_greatest}
use Rattle.asn_meaning.specs.Ranges.{numbers_among}

-- one level of a set, where the sets in it stand for these
abbrev pub numbers_of_level : Numbers-F Numbers → Numbers
numbers_of_level Numbers-F.Every = every_number
numbers_of_level Numbers-F.Nothing = no_number
numbers_of_level (Numbers-F.One i) = one_number i
numbers_of_level (Numbers-F.From left_out i) = numbers_from left_out i
numbers_of_level (Numbers-F.To left_out i) = numbers_to left_out i
numbers_of_level (Numbers-F.Among codes) = numbers_among codes
numbers_of_level (Numbers-F.Both a b) = in_both a b
numbers_of_level (Numbers-F.Either a b) = in_either a b
numbers_of_level (Numbers-F.Without a b) = in_first a b
numbers_of_level (Numbers-F.AboveLeast a) = above_least a
numbers_of_level (Numbers-F.BelowGreatest a) = below_greatest a

unfoldable pub shown_numbers : OwnNumbers → Numbers
shown_numbers = fold-Numbers Numbers numbers_of_level
