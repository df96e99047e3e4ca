-- What pieces of a module come to that are tried by a table. Only private contracts cite these.
use Rattle.std.specs.Prelude.{ℕ, ◌≤◌, ◌<◌, List, length, Bool, true, false}
use Rattle.asn_match.specs.Table.{at, Holds}
use Rattle.asn_match.specs.Table.{Ended as HasEnded}
use Rattle.asn_match.specs.declared.due.Attempt.{Attempt}
use Rattle.asn_match.specs.declared.due.Attempt.TheVariants.{End, Fail}
use Rattle.asn_match.specs.declared.due.Walk.{Walk}
use Rattle.asn_match.specs.declared.due.Walk.TheVariants.{Stands, Lacks}
use Rattle.asn_match.specs.declared.whole.Told.{Told}
use Rattle.asn_match.specs.declared.whole.Told.TheVariants.{Ended, Lacking}
use Rattle.asn_rules.specs.Due.{Piece, Comes, Through, Stop, all_stand, lacks, IsDue}
use Rattle.asn_rules.specs.Expression.{Expression, skip}
use Rattle.asn_rules.specs.Runs.{Ending, ends, fails}
use Rattle.asn_rules.specs.Valid.{Fails, IsValid}
use Rattle.asn_rules.specs.declared.due.DuePlace.{DuePlace}
use Rattle.asn_rules.specs.declared.due.ModulePart.{ModulePart}
use Rattle.asn_rules.specs.declared.names.TheConstants.{ASN_SPEC, SP}

module _ (rules : List Expression) (text : List ℕ) (depth : ℕ) where
  abbrev pub Came : Expression → ℕ → Attempt → Type 0
  Came e i (End j) = Comes rules text depth e i (ends j) × (i ≤ j) × (j ≤ length text)
  Came e i Fail = Comes rules text depth e i fails

  -- the expression comes to nothing within the depth
  abbrev pub Never : Expression → ℕ → Type 0
  Never e i = (o : Ending) → Comes rules text depth e i o → ⊥

  abbrev pub Walked : List Piece → ℕ → Walk → Type 0
  Walked ps i (Stands j) = Through rules text depth ps i (all_stand j) × (i ≤ j) × (j ≤ length text)
  Walked ps i (Lacks p j) = Through rules text depth ps i (lacks p j) × (j ≤ length text)

  -- and so do the pieces
  abbrev pub NoStop : List Piece → ℕ → Type 0
  NoStop ps i = (s : Stop) → Through rules text depth ps i s → ⊥

  -- whether blanks and comments end before the text does
  abbrev pub IsFollowed : ℕ → Bool → Type 0
  IsFollowed i true = (next : ℕ) × Comes rules text depth (skip SP) i (ends next) × (next < length text)
  IsFollowed i false = (next : ℕ) → Comes rules text depth (skip SP) i (ends next) → next < length text → ⊥

  -- what is due from the offset on, and where
  abbrev pub DueFrom : List Piece → ℕ → DuePlace → Type 0
  DueFrom pieces i d = IsDue rules text depth pieces i d.part d.module d.place × (d.module ≤ length text) × (d.place ≤ length text)

  abbrev pub NoneDue : List Piece → ℕ → Type 0
  NoneDue pieces i = (p : ModulePart) (first place : ℕ) → IsDue rules text depth pieces i p first place → ⊥

  -- the text is one of the grammar, and the table has all that it tries; or it is none, and lacks this
  abbrev pub Tells : List Piece → Told → Type 0
  Tells pieces (Ended t) = Holds rules text t × HasEnded (at t ASN_SPEC 0) × IsValid rules text depth
  Tells pieces (Lacking d) = Fails rules text depth × DueFrom pieces 0 d
