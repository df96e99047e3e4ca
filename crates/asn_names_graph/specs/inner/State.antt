-- The lists of a search, and its steps on them.
use Rattle.std.specs.Prelude.{ℕ, ◌+◌, nat_le, if◌then◌else◌, Option, Some, None, List, [], ◌∷◌, ◌++◌, length, take, drop, slice_index, slice_index_or, slice_set}
use Rattle.asn_names_graph.specs.declared.mark.Mark.{Mark}
use Rattle.asn_names_graph.specs.declared.mark.Mark.TheVariants.{New, OnPath, Done}

abbrev pub top_of : List ℕ → Option ℕ
top_of [] = None
top_of (x ∷ xs) = Some x

abbrev pub under : List ℕ → List ℕ
under [] = []
under (x ∷ xs) = xs

pub record State : Type 0 where
  pub marks : List Mark
  pub next : List ℕ
  pub path : List ℕ
  pub order : List ℕ
  pub calls : List ℕ
  pub bounds : List ℕ

-- the mark of a node
abbrev pub mark_of : List Mark → ℕ → Mark
mark_of marks x = slice_index_or marks x New

abbrev pub visited : State → ℕ → State
visited s x = record s {
  marks = slice_set s.marks x (OnPath (length s.path));
  path = s.path ++ x ∷ [];
  calls = length s.path ∷ s.calls;
  bounds = length s.path ∷ s.bounds;
}

abbrev pub passed : State → ℕ → State
passed s x = record s { next = slice_set s.next x (slice_index s.next x + 1) }

-- the bounds that are at most the place
abbrev pub down_to : ℕ → List ℕ → List ℕ
down_to q [] = []
down_to q (b ∷ bs) = if nat_le b q then b ∷ bs else down_to q bs

abbrev pub joined : State → ℕ → State
joined s q = record s { bounds = down_to q s.bounds }

abbrev pub left_behind : State → State
left_behind s = record s { calls = under s.calls }

-- the marks once these nodes came out as one part
abbrev pub closed_marks : ℕ → List ℕ → List Mark → List Mark
closed_marks part [] ms = ms
closed_marks part (x ∷ xs) ms = closed_marks part xs (slice_set ms x (Done part))

-- the part from the place on comes out
abbrev pub closed : State → ℕ → State
closed s place = record {
  marks = closed_marks (length s.order) (drop place s.path) s.marks;
  next = s.next;
  path = take place s.path;
  order = s.order ++ drop place s.path;
  calls = under s.calls;
  bounds = under s.bounds;
}
