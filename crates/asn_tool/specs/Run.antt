-- How a run goes: from the words and the bytes taken to a status, the trees and the text that is written.
use Rattle.std.specs.Prelude.{◌≡◌, ◌<◌, ◌≤◌, ℕ, List, [], ◌∷◌, Option, Some, None, IfSome, length, take, String}
use Rattle.std.specs.Global.{Global}
use Rattle.std.specs.Io.KnownBytes.{IsAtEnd}
use Rattle.std.specs.Str.{IsUtf8}
use Rattle.asn_check.specs.declared.linked.Linked.{Linked}
use Rattle.asn_check.specs.Linked.{IsLinkedOf}
use Rattle.asn_check.specs.Listing.{listing_of}
use Rattle.asn_read_nodes.specs.Derivation.{report_of}
use Rattle.asn_modules.specs.Whole.{IsMatchingError, IsReading}
use Rattle.asn_names.specs.Definitions.{Module}
use Rattle.asn_rules.specs.Valid.{Fails, IsDeeper, IsValid}
use Rattle.asn_rules.specs.Whole.{whole_rules}
use Rattle.asn_streams.specs.Faults.{HasCause}
use Rattle.asn_streams.specs.Giving.{TakesFront}
use Rattle.asn_streams.specs.Sink.{Takes}
use Rattle.asn_streams.specs.Source.{Gives}
use Rattle.asn_streams.specs.Stream.{StreamState}
use Rattle.asn_streams.specs.Taking.{limit, LosesFront}
use Rattle.asn_text.specs.declared.report.LexerError.{LexerError}
use Rattle.asn_tree_leaves.specs.declared.errors.LinkerError.{LinkerError}
use Rattle.asn_tool.specs.declared.ended.Ended.{Ended}
use Rattle.asn_tool.specs.declared.status.Status.{Status}
use Rattle.asn_tool.specs.declared.status.Status.TheVariants.{Clean, Warned, Matching, TooDeep, NotUtf8, TooLong, ReadFault, WriteFault, Usage, OutOfMemory}
use Rattle.asn_tool.specs.Lines.{depth_line, matching_line}
use Rattle.asn_tool.specs.Status.{line}
use Rattle.asn_tool.specs.Words.{depth_of}

-- ---- the bytes

-- A read or a write failed: the count of faults rose, or stands at its last value.
abbrev pub HasFailed : StreamState → StreamState → Type 0
HasFailed before after = HasCause before.faults after.faults

-- The bytes were taken from a source, and no read failed: all that it had left, or the first of them up to the limit.
pub record IsTaken (before : StreamState) (taken : List ℕ) (after : StreamState) : Type 0 where
  pub given : Gives before.bytes taken after.bytes
  pub bounded : length taken ≤ limit
  pub end : length taken < limit → IsAtEnd after.bytes
  pub front : IfSome before.bytes (λ all. taken ≡ take limit all)
  pub no_fault : after.faults ≡ before.faults

-- no text has so many bytes
abbrev pub IsTooLong : List ℕ → Type 0
IsTooLong text = limit ≤ length text

-- short enough, and no UTF-8
pub record IsNoUtf8 (text : List ℕ) : Type 0 where
  pub short : length text < limit
  pub other : IsUtf8 text → ⊥

-- short enough and UTF-8, and the calls of the grammar's rules lie deeper within each other than they may
pub record IsTooDeep (depth : ℕ) (text : List ℕ) : Type 0 where
  pub short : length text < limit
  pub utf8 : IsUtf8 text
  pub deeper : IsDeeper whole_rules text depth

-- short enough and UTF-8, and none of the grammar, which is seen within the depth
pub record IsUnmatched (depth : ℕ) (text : List ℕ) : Type 0 where
  pub short : length text < limit
  pub utf8 : IsUtf8 text
  pub fails : Fails whole_rules text depth

-- The text is short enough, is UTF-8, and is one or more modules by the grammar, within the depth.
pub record IsValidText (depth : ℕ) (text : List ℕ) : Type 0 where
  pub short : length text < limit
  pub utf8 : IsUtf8 text
  pub matches : IsValid whole_rules text depth

-- ---- the trees

abbrev pub status_by : List LinkerError → Status
status_by [] = Clean
status_by (w ∷ ws) = Warned

-- Warned where the linked answer has a warning, else Clean
abbrev pub status_of : Linked → Status
status_of linked = status_by linked.warnings

-- an error line is to be written: no trees are handed out
abbrev pub NoTrees : Option (List Module) → Option Linked → Type 0
NoTrees reading linked = (reading ≡ None) × (linked ≡ None)

-- The trees of a text: its reading, and the linked answer of that reading, whose listing is to be written.
pub record ListsText (depth : ℕ) (text : List ℕ) (status : Status) (reading : List Module) (linked : Linked) (out : List ℕ) : Type 0 where
  pub valid : IsValidText depth text
  pub reads : IsReading text reading
  pub links : IsLinkedOf reading linked
  pub status_is : status ≡ status_of linked
  pub listed : out ≡ listing_of linked

abbrev pub HasTrees : ℕ → List ℕ → Status → Option (List Module) → Option Linked → List ℕ → Type 0
HasTrees depth text status (Some reading) (Some linked) out = ListsText depth text status reading linked out
HasTrees depth text status (Some reading) None out = ⊥
HasTrees depth text status None linked out = ⊥

-- ---- what is written

abbrev pub or_nothing : Option (List ℕ) → List ℕ
or_nothing None = []
or_nothing (Some text) = text

-- the line of a text that does not match
abbrev pub place_line : LexerError → List ℕ
place_line error = matching_line (report_of error.kind).line (report_of error.kind).column

-- the line tells the place where a part of a module is due in the text
abbrev pub TellsPlace : ℕ → List ℕ → List ℕ → Type 0
TellsPlace depth text out = (error : LexerError) × IsMatchingError text depth error × (out ≡ place_line error)

-- What the text comes to under each status, and what is to be written.
abbrev pub Comes : ℕ → List ℕ → Status → Option (List Module) → Option Linked → List ℕ → Type 0
Comes depth text Clean reading linked out = HasTrees depth text Clean reading linked out
Comes depth text Warned reading linked out = HasTrees depth text Warned reading linked out
Comes depth text Matching reading linked out = NoTrees reading linked × IsUnmatched depth text × TellsPlace depth text out
Comes depth text TooDeep reading linked out = NoTrees reading linked × IsTooDeep depth text × (out ≡ depth_line depth)
Comes depth text NotUtf8 reading linked out = NoTrees reading linked × IsNoUtf8 text × (out ≡ or_nothing (line NotUtf8))
Comes depth text TooLong reading linked out = NoTrees reading linked × IsTooLong text × (out ≡ or_nothing (line TooLong))
Comes depth text OutOfMemory reading linked out = NoTrees reading linked × (out ≡ or_nothing (line OutOfMemory))
Comes depth text _ reading linked out = ⊥

-- the words ask for a depth, bytes were taken, and this holds of them
abbrev pub OfTaken : List (String Global) → StreamState → StreamState → (ℕ → List ℕ → Type 0) → Type 0
OfTaken words before after holds = (depth : ℕ) × (depth_of words ≡ Some depth) × ((taken : List ℕ) × IsTaken before taken after × holds depth taken)

-- the words ask for some depth
abbrev pub AreKnown : List (String Global) → Type 0
AreKnown words = (depth : ℕ) × (depth_of words ≡ Some depth)

-- How a run comes to each status of what is to be written. No read failed but under ReadFault.
module _ (words : List (String Global)) (before after : StreamState) where
  abbrev pub Judges : Status → Option (List Module) → Option Linked → List ℕ → Type 0
  Judges due reading linked out = OfTaken words before after (λ depth taken. Comes depth taken due reading linked out)

  abbrev pub Course : Status → Option (List Module) → Option Linked → List ℕ → Type 0
  Course Clean reading linked out = Judges Clean reading linked out
  Course Warned reading linked out = Judges Warned reading linked out
  Course Matching reading linked out = Judges Matching reading linked out
  Course TooDeep reading linked out = Judges TooDeep reading linked out
  Course NotUtf8 reading linked out = Judges NotUtf8 reading linked out
  Course TooLong reading linked out = Judges TooLong reading linked out
  Course ReadFault reading linked out = NoTrees reading linked × AreKnown words × HasFailed before after × LosesFront limit before.bytes after.bytes × (out ≡ or_nothing (line ReadFault))
  Course Usage reading linked out = NoTrees reading linked × (depth_of words ≡ None) × (after ≡ before) × (out ≡ or_nothing (line Usage))
  Course OutOfMemory reading linked out = NoTrees reading linked × AreKnown words × (after.faults ≡ before.faults) × LosesFront limit before.bytes after.bytes × (out ≡ or_nothing (line OutOfMemory))
  Course WriteFault reading linked out = ⊥

-- How what is to be written under a status reaches the sink, and the status that is answered. No write failed but under
-- WriteFault.
abbrev pub Delivered : Status → List ℕ → StreamState → StreamState → Status → Type 0
Delivered due text before after WriteFault = HasFailed before after × TakesFront before.bytes text after.bytes
Delivered due text before after status = (status ≡ due) × (after.faults ≡ before.faults) × Takes before.bytes text after.bytes

-- The whole of a run: its words, the source before and after, the sink before and after, and what the run answers.
pub record Ends (words : List (String Global)) (source source' sink sink' : StreamState) (ended : Ended) : Type 0 where
  -- the status of what was to be written, and the bytes of it
  pub due : Status
  pub out : List ℕ
  pub course : Course words source source' due ended.reading ended.linked out
  pub delivered : Delivered due out sink sink' ended.status

-- The answer of a run that found no memory for its words: the line of that status, or a failed write.
abbrev pub EndsWithoutWords : StreamState → StreamState → Status → Type 0
EndsWithoutWords sink sink' status = Delivered OutOfMemory (or_nothing (line OutOfMemory)) sink sink' status
