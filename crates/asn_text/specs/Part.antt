-- A part of a source text, and the start of the context that it is read in.
use Rattle.std.specs.Cmp.Lexicographic.{pointwise}
use Rattle.std.specs.Prelude.{ℕ, ◌+◌, Bool, ◌&&◌, nat_eq, List, length, slice_range}
use Rattle.asn_text.specs.Position.{line_at}

-- the bytes of `source` from `start` up to `end`, and the line and the offset where the context begins
pub record Part : Type 0 where
  pub source : List ℕ
  pub start : ℕ
  pub end : ℕ
  pub context_line : ℕ
  pub context_start : ℕ

-- a whole text, its own context
abbrev pub whole : List ℕ → Part
whole text = record { source = text; start = 0; end = length text; context_line = 1; context_start = 0 }

-- the bytes that the part has
abbrev pub shown : Part → List ℕ
shown part = slice_range part.source part.start part.end

-- the part without its first n bytes
abbrev pub part_from : ℕ → Part → Part
part_from n part = record part { start = part.start + n }

-- the first n bytes of the part
abbrev pub part_to : ℕ → Part → Part
part_to n part = record part { end = part.start + n }

-- the part, with the context begun at its start
abbrev pub in_own_context : Part → Part
in_own_context part = record part { context_line = line_at part.source part.start; context_start = part.start }

-- whether two parts are the same
abbrev pub part_eq : Part → Part → Bool
part_eq a b =
    (((pointwise nat_eq a.source b.source && nat_eq a.start b.start) && nat_eq a.end b.end)
    && nat_eq a.context_line b.context_line)
    && nat_eq a.context_start b.context_start
