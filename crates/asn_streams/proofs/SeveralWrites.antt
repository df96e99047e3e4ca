-- Several writes one after the other.
use Rattle.std.proofs.Common.{◌≡◌, ◌+◌, ◌-◌, length, ℕ, List, [], ◌++◌, Option, Some, None, refl, sym, ap, append_assoc, take, drop, ◌∙◌}
use Rattle.std.proofs.Math.Nat.{le_of_eq}
use Rattle.std.proofs.Math.Seq.{take-add}
use Rattle.std.proofs.lemmas.List.{append-nil, take_all, length-drop}
use Rattle.std.proofs.lemmas.Option.{none-some, same_Some}
use Rattle.asn_streams.specs.Sink.{Takes}

-- no bytes, before the first write
pub takes_none : (written : Option (List ℕ)) → Takes written [] written
takes_none None = record { last = λ all told. told }
takes_none (Some taken) = record { last = λ all told. ap Some (append-nil taken) ∙ told }

-- one write after another takes both pieces
two_writes : (before between after : Option (List ℕ)) (front piece : List ℕ) → Takes before front between → Takes between piece after → Takes before (front ++ piece) after
two_writes before None after front piece one more =
    record { last = λ all told. absurd (none-some all (more.last all told)) }
two_writes None (Some middle) after front piece one more =
    record { last = λ all told. absurd (none-some middle (one.last middle refl)) }
two_writes (Some taken) (Some middle) after front piece one more =
    record {
      last = λ all told. ap Some (sym (append_assoc taken front piece)
          ∙ (ap (λ so_far. so_far ++ piece) (same_Some (taken ++ front) middle (one.last middle refl))
          ∙ same_Some (middle ++ piece) all (more.last all told)));
    }

-- a slice from an index on is what is left after so many items
slice_from : (bytes : List ℕ) (count : ℕ) → take (length bytes - count) (drop count bytes) ≡ drop count bytes
slice_from bytes count = take_all (length bytes - count) (drop count bytes) (le_of_eq (length-drop count bytes))

-- the same of a piece from the front of what is not yet taken, as a slice of it
pub takes_more : (before between after : Option (List ℕ)) (bytes : List ℕ) (count more : ℕ) → Takes before (take count bytes) between → Takes between (take more (take (length bytes - count) (drop count bytes))) after → Takes before (take (count + more) bytes) after
takes_more before between after bytes count more one next =
    rw take-add (two_writes before between after (take count bytes) (take more (drop count bytes)) one (rw (slice_from bytes count) at next))
