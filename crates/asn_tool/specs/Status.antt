-- The answers of a run.
use Rattle.std.specs.Prelude.{List, ℕ, Option, Some, None, codes}
use Rattle.asn_tool.specs.declared.status.Status.{Status}
use Rattle.asn_tool.specs.declared.status.Status.TheVariants.{Clean, Warned, Matching, TooDeep, NotUtf8, TooLong, ReadFault, WriteFault, Usage, OutOfMemory}

-- the number that the program ends with
abbrev pub number : Status → ℕ
number Clean = 0
number Warned = 1
number Matching = 2
number TooDeep = 3
number NotUtf8 = 4
number TooLong = 5
number ReadFault = 6
number WriteFault = 7
number Usage = 8
number OutOfMemory = 9

-- the line that is written under a status, where it is one line for every text
abbrev pub line : Status → Option (List ℕ)
line Clean = None
line Warned = None
line Matching = None
line TooDeep = None
line NotUtf8 = Some (codes "error utf8\n")
line TooLong = Some (codes "error long\n")
line ReadFault = Some (codes "error read\n")
line WriteFault = None
line Usage = Some (codes "error usage\n")
line OutOfMemory = Some (codes "error memory\n")
