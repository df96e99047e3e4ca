-- What a loop keeps that changes the items of a list, one after the other, where they lie.
use Rattle.std.proofs.Common.{◌≡◌, ℕ, ◌≤◌, List, map, length, get_or, take}

-- the items before the index are changed, and those from it on are as they were
abbrev pub ChangedUpTo : {A : Type 0} → ℕ → (A → A) → List A → List A → Type 0
ChangedUpTo {A = A} index change before now =
    record {
      same_length : length now ≡ length before;
      unchanged : (k : ℕ) (d : A) → index ≤ k → get_or now k d ≡ get_or before k d;
      changed : take index now ≡ map change (take index before);
    }
