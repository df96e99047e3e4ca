-- What is to be written, while a run goes.
use Rattle.std.specs.Prelude.{◌≡◌, ◌⊎◌, ℕ, List, Option, Some, None}
use Rattle.asn_check.specs.Linked.{IsLinkedOf}
use Rattle.asn_check.specs.Listing.{listing_of}
use Rattle.asn_check.specs.declared.linked.Linked.{Linked}
use Rattle.asn_names.specs.Definitions.{Module}
use Rattle.asn_tool.specs.declared.judging.Output.{Output}
use Rattle.asn_tool.specs.declared.status.Status.{Status}
use Rattle.asn_tool.specs.declared.status.Status.TheVariants.{OutOfMemory}
use Rattle.asn_tool.specs.Run.{Comes, NoTrees, or_nothing, status_of}
use Rattle.asn_tool.specs.Status.{line}

-- an error line, that of the status
abbrev pub an_error : Status → Output
an_error status = record { status = status; reading = None; linked = None; text = None }

-- an error line with numbers in it
abbrev pub an_error_line : Status → List ℕ → Output
an_error_line status text = record { status = status; reading = None; linked = None; text = Some text }

-- the line, or that of want of memory
abbrev pub IsLine : Status → List ℕ → Output → Type 0
IsLine status text output = (output ≡ an_error_line status text) ⊎ (output ≡ an_error OutOfMemory)

abbrev text_or : Option (List ℕ) → List ℕ → List ℕ
text_or None other = other
text_or (Some text) other = text

-- what is to be written: the text that was made, or else the line of the status
abbrev pub bytes_of : Output → List ℕ
bytes_of output = text_or output.text (or_nothing (line output.status))

-- the trees of a reading, and the listing of the linked answer; or want of memory
abbrev pub IsLinkedOutput : List Module → Status → Option (List Module) → Option Linked → List ℕ → Type 0
IsLinkedOutput reading status (Some r) (Some l) out = (r ≡ reading) × IsLinkedOf reading l × (status ≡ status_of l) × (out ≡ listing_of l)
IsLinkedOutput reading status r l out = NoTrees r l × (status ≡ OutOfMemory) × (out ≡ or_nothing (line OutOfMemory))

-- what a reading comes to
abbrev pub IsOutputOfReading : List Module → Output → Type 0
IsOutputOfReading reading output = IsLinkedOutput reading output.status output.reading output.linked (bytes_of output)

-- what the bytes of a text come to
abbrev pub IsOutputOf : ℕ → List ℕ → Output → Type 0
IsOutputOf depth text output = Comes depth text output.status output.reading output.linked (bytes_of output)
