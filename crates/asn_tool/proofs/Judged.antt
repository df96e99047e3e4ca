-- The course of a run whose bytes are judged.
use Rattle.std.proofs.Common.{◌≡◌, ℕ, List, Option, Some}
use Rattle.std.specs.Prelude.{String}
use Rattle.std.specs.Global.{Global}
use Rattle.asn_check.specs.declared.linked.Linked.{Linked}
use Rattle.asn_names.specs.Definitions.{Module}
use Rattle.asn_streams.specs.Stream.{StreamState}
use Rattle.asn_tool.specs.declared.status.Status.{Status}
use Rattle.asn_tool.specs.declared.status.Status.TheVariants.{Clean, Warned, Matching, TooDeep, NotUtf8, TooLong, ReadFault, WriteFault, Usage, OutOfMemory}
use Rattle.asn_tool.specs.Run.{Comes, Course, IsTaken}
use Rattle.asn_tool.specs.Words.{depth_of}

pub judged_course : (words : List (String Global)) (before after : StreamState) (status : Status) (reading : Option (List Module)) (linked : Option Linked) (out : List ℕ) (depth : ℕ) (taken : List ℕ) → depth_of words ≡ Some depth → IsTaken before taken after → Comes depth taken status reading linked out → Course words before after status reading linked out
judged_course words before after Clean reading linked out depth taken asked is c = (depth, asked, (taken, is, c))
judged_course words before after Warned reading linked out depth taken asked is c = (depth, asked, (taken, is, c))
judged_course words before after Matching reading linked out depth taken asked is c = (depth, asked, (taken, is, c))
judged_course words before after TooDeep reading linked out depth taken asked is c = (depth, asked, (taken, is, c))
judged_course words before after NotUtf8 reading linked out depth taken asked is c = (depth, asked, (taken, is, c))
judged_course words before after TooLong reading linked out depth taken asked is c = (depth, asked, (taken, is, c))
judged_course words before after ReadFault reading linked out depth taken asked is c = absurd c
judged_course words before after WriteFault reading linked out depth taken asked is c = absurd c
judged_course words before after Usage reading linked out depth taken asked is c = absurd c
judged_course words before after OutOfMemory reading linked out depth taken asked is c = (c.0, (depth, asked), is.no_fault, record { taken = taken; given = is.given; bounded = is.bounded }, c.1)
