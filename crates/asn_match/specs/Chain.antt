-- Entries that each lead to an earlier one.
use Rattle.std.specs.Prelude.{◌≡◌, ℕ, zero, suc, ◌≤◌, List, Option, Some, None, nat_eq, if◌then◌else◌, slice_get}
use Rattle.asn_match.specs.declared.chains.Entry.{Entry}
use Rattle.asn_rules.specs.declared.run.Outcome.{Outcome}

-- a place is one more than the number of an entry, or 0
abbrev pub entry_at : List Entry → ℕ → Option Entry
entry_at entries zero = None
entry_at entries (suc k) = slice_get entries k

abbrev pub Falls : List Entry → Type 0
Falls entries = (k : ℕ) (e : Entry) → slice_get entries k ≡ Some e → e.next ≤ k

abbrev pub Starts : ℕ → List ℕ → Type 0
Starts n newest = (j place : ℕ) → slice_get newest j ≡ Some place → place ≤ n

abbrev pub or_next : (ℕ → Option Outcome) → ℕ → Option Entry → Option Outcome
or_next next r None = None
or_next next r (Some e) = if nat_eq e.rule r then Some e.outcome else next e.next

-- the newest entry of the rule, from the place on
abbrev pub walk : List Entry → ℕ → ℕ → ℕ → Option Outcome
walk entries r zero place = None
walk entries r (suc steps) place = or_next (walk entries r steps) r (entry_at entries place)

abbrev pub from_place : List Entry → ℕ → Option ℕ → Option Outcome
from_place entries r None = None
from_place entries r (Some place) = walk entries r place place
