-- A walk over a text has one course.
use Rattle.std.proofs.Common.{◌≡◌, ℕ, ◌+◌, ◌<◌, List, length, sym, ◌∙◌, subst, refl, arith}
use Rattle.asn_text.specs.Until.{Walker, StopsAt, here, later, NeverStops, at_end, on}
use Rattle.asn_text.specs.declared.until.Step.TheVariants.{Stop, Pass}

module _ (walker : Walker) (text : List ℕ) where
  -- two steps from one place are one
  module _ (opened i n more m others : ℕ) (one : walker text opened i ≡ Pass n more) (another : walker text opened i ≡ Pass m others) where
    same_bytes : m ≡ n
    same_bytes = let e = sym another ∙ one in cc

    same_tags : others ≡ more
    same_tags = let e = sym another ∙ one in cc

  no_step : {opened i n more : ℕ} → walker text opened i ≡ Stop → walker text opened i ≡ Pass n more → ⊥
  no_step is step = let e = sym is ∙ step in cc

  stops_on : {opened i j : ℕ} → StopsAt walker text opened i j → (n more : ℕ) → walker text opened i ≡ Pass n more → StopsAt walker text more (i + n) j
  stops_on (here within is) n more step = absurd (no_step is step)
  stops_on {opened} {i} {j} (later {more = others} {n = m} within is rest) n more step =
      subst (λ k. StopsAt walker text more (i + k) j) (same_bytes opened i n more m others step is)
      (subst (λ k. StopsAt walker text k (i + m) j) (same_tags opened i n more m others step is) rest)

  stops_here : {opened i j : ℕ} → StopsAt walker text opened i j → walker text opened i ≡ Stop → i ≡ j
  stops_here (here within is) stop = refl
  stops_here (later within is rest) stop = absurd (no_step stop is)

  stops_within : {opened i j : ℕ} → StopsAt walker text opened i j → i < length text
  stops_within (here within is) = within
  stops_within (later within is rest) = within

  pub one_stop : {opened i j k : ℕ} → StopsAt walker text opened i j → StopsAt walker text opened i k → j ≡ k
  one_stop (here within is) other = stops_here other is
  one_stop (later {more = more} {n = n} within is rest) other = one_stop rest (stops_on other n more is)

  pub stop_or_end : {opened i j : ℕ} → NeverStops walker text opened i → StopsAt walker text opened i j → ⊥
  stop_or_end (at_end past) stops = let within = stops_within stops in absurd (omega (arith, within, past))
  stop_or_end (on {more = more} {n = n} within is rest) stops = stop_or_end rest (stops_on stops n more is)
