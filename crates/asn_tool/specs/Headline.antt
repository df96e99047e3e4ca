-- What a run promises its user.
use Rattle.std.specs.Prelude.{◌≡◌, ◌⊎◌, ℕ, List, Some, map, true}
use Rattle.asn_check.specs.declared.linked.Linked.{Linked}
use Rattle.asn_check.specs.Judged.{AreWithheld}
use Rattle.asn_check.specs.Listing.{listing_of}
use Rattle.asn_check.specs.KeptMeaning.{AcceptsAlike}
use Rattle.asn_check.specs.Needed.{WarnsOfFaults}
use Rattle.asn_check.specs.Warnings.{AreWarnings, said_by}
use Rattle.asn_link.specs.Linked.{Linking, is_clean, is_linked, linked_definitions}
use Rattle.asn_meaning.specs.Definitions.{type_named}
use Rattle.asn_meaning.specs.Plain.{IsPlain}
use Rattle.asn_modules.specs.Whole.{IsMatchingError, IsReading}
use Rattle.asn_names.specs.Definitions.{Definitions, Module, definitions_of}
use Rattle.asn_names.specs.Given.{given_definitions}
use Rattle.asn_streams.specs.Sink.{Takes}
use Rattle.asn_streams.specs.Stream.{StreamState}
use Rattle.asn_text.specs.declared.report.LexerError.{LexerError}
use Rattle.asn_tree.specs.declared.definitions.ToplevelTypeDefinition.{ToplevelTypeDefinition}
use Rattle.asn_tool.specs.declared.ended.Ended.{Ended}
use Rattle.asn_tool.specs.declared.status.Status.{Status}
use Rattle.asn_tool.specs.declared.status.Status.TheVariants.{Clean, Warned, Matching, TooDeep, NotUtf8, TooLong}
use Rattle.asn_tool.specs.Run.{IsNoUtf8, IsTooDeep, IsTooLong, IsUnmatched, IsValidText, NoTrees, place_line, status_of}

-- a listing was written
abbrev pub IsListing : Status → Type 0
IsListing status = (status ≡ Clean) ⊎ (status ≡ Warned)

-- Each clean type definition is in plain form among the linked definitions, and accepts there exactly the value trees that it
-- accepts in the reading.
abbrev pub MeansWhatIsRead : (reading : List Module) → Linking (given_definitions reading) → Definitions → Type 0
MeansWhatIsRead reading linking linked =
    (name : List ℕ) (d : ToplevelTypeDefinition) → type_named (definitions_of reading) name ≡ Some d → is_clean linking name ≡ true →
    (e : ToplevelTypeDefinition) × (type_named linked name ≡ Some e) × IsPlain linked e.ty
    × AcceptsAlike (definitions_of reading) d.ty linked e.ty

-- The listing of one linked answer of the text is written, and the answer means what the text says.
pub record Prints (depth : ℕ) (text : List ℕ) (sink sink' : StreamState) (ended : Ended) : Type 0 where
  pub reading : List Module
  pub linked : Linked
  -- the trees of this very run
  pub hands_out : (ended.reading ≡ Some reading) × (ended.linked ≡ Some linked)
  pub valid : IsValidText depth text
  pub reads : IsReading text reading
  -- the sink holds what it held, and then the listing
  pub printed : Takes sink.bytes (listing_of linked) sink'.bytes
  -- the headers of the modules, in order
  pub headers : linked.modules ≡ map (λ m. m.0) reading
  -- what linking makes of the definitions that stand, with their numbers and their modules' tagging environments
  pub linking : Linking (given_definitions reading)
  -- one definition for each name, the last of the name, in byte order of names, with the type that linking made of it, where it made one
  pub definitions : linked.definitions ≡ linked_definitions linking
  -- a definition in which a fault stands at a place, as far as it is judged, is given as it is read, and no other is for that
  pub withheld : AreWithheld (definitions_of reading) linking.standing linking.withheld
  -- each definition is warned exactly for its faults, and each name that is defined more than once for that, in byte
  -- order of names
  pub warned : AreWarnings (definitions_of reading) (is_linked linking) (map said_by linked.warnings)
  -- where linking judges all definitions whole, the warnings are the faults that stand, and Duplicate
  pub faults : WarnsOfFaults (definitions_of reading) (map said_by linked.warnings)
  pub means : MeansWhatIsRead reading linking linked.definitions
  pub status : ended.status ≡ status_of linked

-- The sink holds what it held, and then a line, and no trees are handed out.
pub record SaysAlone (out : List ℕ) (sink sink' : StreamState) (ended : Ended) : Type 0 where
  pub said : Takes sink.bytes out sink'.bytes
  pub no_trees : NoTrees ended.reading ended.linked

-- The text does not match, and the line tells the place where a part of a module is due.
pub record SaysPlace (depth : ℕ) (text : List ℕ) (sink sink' : StreamState) (ended : Ended) : Type 0 where
  pub unmatched : IsUnmatched depth text
  pub error : LexerError
  -- the first part of a module that does not stand, its place by line and column, its context and the reason
  pub due : IsMatchingError text depth error
  pub alone : SaysAlone (place_line error) sink sink' ended

-- What the text says decides the status, in this order: too long, no UTF-8, too deep, unmatched, and else a listing.
pub record Decides (depth : ℕ) (text : List ℕ) (status : Status) : Type 0 where
  pub long : IsTooLong text → status ≡ TooLong
  pub utf8 : IsNoUtf8 text → status ≡ NotUtf8
  pub deep : IsTooDeep depth text → status ≡ TooDeep
  pub unmatched : IsUnmatched depth text → status ≡ Matching
  pub valid : IsValidText depth text → IsListing status
