-- A source and a sink in memory, of whose calls those fail that a list names.
use Rattle.std.specs.Prelude.{◌+◌, ◌-◌, ◌^◌, ◌||◌, ℕ, List, Bool, if◌then◌else◌, length, min, nat_eq}
use Rattle.std.specs.List.{list_any}

-- one more; a count stands still at 2^64 - 1
abbrev pub one_more : ℕ → ℕ
one_more count = min (count + 1) (2 ^ 64 - 1)

-- The calls of a source or a sink: the number of the last one, how many failed, and the numbers of those that shall.
pub record CallsView : Type 0 where
  pub number : ℕ
  pub faults : ℕ
  pub failing : List ℕ

-- no call yet; the first one has the number 1
abbrev pub no_calls : List ℕ → CallsView
no_calls failing = record { number = 0; faults = 0; failing = failing }

-- the list names the next call
abbrev pub is_listed : CallsView → Bool
is_listed calls = list_any (λ n. nat_eq n (one_more calls.number)) calls.failing

-- one more call, which failed or not
abbrev pub called : CallsView → Bool → CallsView
called calls failed =
    record {
      number = one_more calls.number;
      faults = if failed then one_more calls.faults else calls.faults;
      failing = calls.failing;
    }

-- What a caller sees of the source: the bytes that are left, how many a read gives at most, and the calls.
pub record ListSourceView : Type 0 where
  pub rest : List ℕ
  pub at_most : ℕ
  pub calls : CallsView

-- how many bytes a read gives to a buffer of that length, if it does not fail
abbrev pub given_to : ℕ → ListSourceView → ℕ
given_to buffer source = min buffer (min source.at_most (length source.rest))

-- What a caller sees of the sink: the bytes that were written, how many fit, how many a write takes at most, and the calls.
pub record ListSinkView : Type 0 where
  pub bytes : List ℕ
  pub capacity : ℕ
  pub at_most : ℕ
  pub calls : CallsView

-- how many bytes fit yet
abbrev pub room : ListSinkView → ℕ
room sink = sink.capacity - length sink.bytes

-- how many bytes a write takes of a piece of that length, if it does not fail
abbrev pub taken_of : ℕ → ListSinkView → ℕ
taken_of piece sink = min piece (min sink.at_most (room sink))

-- the next write fails: the list names it, or nothing fits
abbrev pub is_refused : ListSinkView → Bool
is_refused sink = is_listed sink.calls || nat_eq (room sink) 0
