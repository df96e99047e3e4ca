-- Walks over a text from the left, until a tag is found.
use Rattle.std.specs.List.{starts_with}
use Rattle.std.specs.Prelude.{◌≡◌, ℕ, zero, suc, ◌+◌, ◌<◌, ◌≤◌, Bool, ◌||◌, nat_eq, List, length, take, drop, if◌then◌else◌}
use Rattle.asn_text.specs.Part.{Part, shown, part_from}
use Rattle.asn_text.specs.declared.until.Step.{Step}
use Rattle.asn_text.specs.declared.until.Step.TheVariants.{Stop, Pass}

-- the tag stands at the offset
abbrev pub stands_at : List ℕ → List ℕ → ℕ → Bool
stands_at tag text i = starts_with nat_eq (drop i text) tag

-- what a walk does over the text, with a number of open tags, at an offset: it stops there, or passes some bytes and
-- goes on with a number of open tags
abbrev pub Walker : Type 0
Walker = List ℕ → ℕ → ℕ → Step

-- From this offset, with this number of open tags, the walk stops at an offset.
pub data StopsAt (walker : Walker) (text : List ℕ) : ℕ → ℕ → ℕ → Type 0 where
  here : {open_tags i : ℕ} → i < length text → walker text open_tags i ≡ Stop → StopsAt walker text open_tags i i
  later : {open_tags more i n j : ℕ} → i < length text → walker text open_tags i ≡ Pass n more → StopsAt walker text more (i + n) j → StopsAt walker text open_tags i j

-- From this offset, with this number of open tags, the walk comes to the text's end.
pub data NeverStops (walker : Walker) (text : List ℕ) : ℕ → ℕ → Type 0 where
  at_end : {open_tags i : ℕ} → length text ≤ i → NeverStops walker text open_tags i
  on : {open_tags more i n : ℕ} → i < length text → walker text open_tags i ≡ Pass n more → NeverStops walker text more (i + n) → NeverStops walker text open_tags i

-- It stops at the first place where either tag stands.
abbrev pub until_either : List ℕ → List ℕ → Walker
until_either first second text open_tags i =
    if (stands_at first text i || stands_at second text i) then Stop else Pass 1 open_tags

-- It passes each tag that opens, and the tag that closes it, and stops at a closing tag that closes none.
abbrev pub closing_step : List ℕ → ℕ → Step
closing_step closing zero = Stop
closing_step closing (suc open_tags) = Pass (length closing) open_tags

abbrev pub until_unbalanced : List ℕ → List ℕ → Walker
until_unbalanced opening closing text open_tags i =
    if stands_at opening text i then Pass (length opening) (open_tags + 1)
    else if stands_at closing text i then closing_step closing open_tags
    else Pass 1 open_tags

-- It passes each tag that is excepted whole, and stops at the first other end.
abbrev pub until_and_not : List ℕ → List ℕ → Walker
until_and_not end excepted text open_tags i =
    if stands_at excepted text i then Pass (length excepted) open_tags
    else if stands_at end text i then Stop
    else Pass 1 open_tags

-- The walk over the part stops, and the rest and the text before it are given.
pub record StopsWith (walker : Walker) (part rest : Part) (before : List ℕ) : Type 0 where
  pub place : ℕ
  pub stops : StopsAt walker (shown part) 0 0 place
  pub rest_is : rest ≡ part_from place part
  pub before_is : before ≡ take place (shown part)
