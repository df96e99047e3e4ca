-- Texts, as what is written in strings gives them.
use Rattle.std.specs.Prelude.{ℕ, List}
use Rattle.std.specs.Str.{chars}

-- the characters' codes of a text
abbrev pub text_characters : List ℕ → List ℕ
text_characters text = chars text
