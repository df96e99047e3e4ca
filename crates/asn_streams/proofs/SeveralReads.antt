-- Several reads one after the other.
use Rattle.std.proofs.Common.{◌≡◌, ◌<◌, ◌≤◌, ℕ, List, [], ◌++◌, length, take, Option, Some, None, refl, sym, ap, inl, inr, append_assoc, IfSome, option_map, ◌∙◌}
use Rattle.std.proofs.Math.Nat.{eq-or-lt_of_le}
use Rattle.std.proofs.Math.Seq.{take-append_seam}
use Rattle.std.proofs.lemmas.List.{append-nil, take_all}
use Rattle.std.proofs.lemmas.Option.{none-some, same_Some}
use Rattle.std.specs.Io.KnownBytes.{IsAtEnd}
use Rattle.asn_streams.specs.Source.{Gives}

-- no bytes, before the first read
pub gives_none : (left : Option (List ℕ)) → Gives left [] left
gives_none None = record { first = refl }
gives_none (Some all) = record { first = refl }

rest_after_both : (text piece : List ℕ) (left : Option (List ℕ)) → option_map (λ rest. text ++ rest) (option_map (λ rest. piece ++ rest) left) ≡ option_map (λ rest. (text ++ piece) ++ rest) left
rest_after_both text piece None = refl
rest_after_both text piece (Some rest) = ap Some (sym (append_assoc text piece rest))

-- one read after another gives both pieces
pub gives_more : (before between after : Option (List ℕ)) (text piece : List ℕ) → Gives before text between → Gives between piece after → Gives before (text ++ piece) after
gives_more before between after text piece one more =
    record { first = one.first ∙ (ap (λ left. option_map (λ rest. text ++ rest) left) more.first ∙ rest_after_both text piece after) }

-- a text to the end or of the greatest length is the front of what was left
front_of : (most : ℕ) (text rest : List ℕ) → length text ≤ most → (length text < most → rest ≡ []) → text ≡ take most (text ++ rest)
front_of most text rest bounded end =
    elim (eq-or-lt_of_le bounded) as (λ _. text ≡ take most (text ++ rest)) [
      | inl same ↦ rw (← same) (sym (take-append_seam text rest))
      | inr less ↦ rw (end less, append-nil text) (sym (take_all most text bounded))
    ]

-- the same, where the source tells what is left
pub text_is_front : (most : ℕ) (before after : Option (List ℕ)) (text : List ℕ) → Gives before text after → length text ≤ most → (length text < most → IsAtEnd after) → IfSome before (λ all. text ≡ take most all)
text_is_front most None after text given bounded end = tt
text_is_front most (Some all) None text given bounded end = absurd (none-some all (sym given.first))
text_is_front most (Some all) (Some rest) text given bounded end =
    rw (same_Some all (text ++ rest) given.first) (front_of most text rest bounded end)
