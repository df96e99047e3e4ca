-- In a text of characters nothing that is read is replaced, and what the rule of blanks takes, bytes tell as blanks too.
use Rattle.std.specs.Prelude.{◌≡◌, ℕ, List, Some, drop, encode_utf8_all}
use Rattle.std.specs.Str.{IsUtf8, IsCharBoundary, chars}
use Rattle.asn_rules.specs.Children.{StandsBy}
use Rattle.asn_rules.specs.Expression.{rule}
use Rattle.asn_rules.specs.Nodes.{child_of, the}
use Rattle.asn_rules.specs.Runs.{Runs, ends}
use Rattle.asn_rules_guards.specs.Outside.{outside}
use Rattle.asn_rules.specs.Whole.{whole_rules}
use Rattle.asn_rules.specs.declared.names.TheConstants.{QUOTED_BODY, SP, TIME_CHARS}
use Rattle.asn_rules.specs.declared.node.Node.{Node}
use Rattle.asn_rules.specs.declared.node.Node.TheViews.{out-Node}
use Rattle.asn_read_nodes.specs.Parts.{behind_blanks, name_of, taken}
use Rattle.asn_read_nodes.specs.Strings.{quoted_of, single, time_of}

-- a name that begins and ends between two characters is the bytes of its node behind the blanks
abbrev pub NamesAreExact : Type 0
NamesAreExact = (text : List ℕ) (n : Node) → IsUtf8 text → StandsBy whole_rules text n → IsCharBoundary text (out-Node n).start → IsCharBoundary text (out-Node n).end → name_of text n ≡ behind_blanks text n

-- a time is the bytes between its quotes
abbrev pub TimesAreExact : Type 0
TimesAreExact = (text : List ℕ) (n : Node) → IsUtf8 text → StandsBy whole_rules text n → IsCharBoundary text (out-Node n).start → time_of text n ≡ the (child_of n TIME_CHARS) (λ chars. Some (taken text chars))

-- a text in quotes is the bytes between its quotes with each doubled quote made single
abbrev pub QuotedBytesAreExact : Type 0
QuotedBytesAreExact = (text : List ℕ) (n : Node) → IsUtf8 text → StandsBy whole_rules text n → IsCharBoundary text (out-Node n).start → quoted_of text n ≡ the (child_of n QUOTED_BODY) (λ body. Some (single (taken text body)))

-- and so the characters between its quotes with each doubled quote made single
abbrev pub QuotedCharactersAreExact : Type 0
QuotedCharactersAreExact = (text : List ℕ) (n : Node) → IsUtf8 text → StandsBy whole_rules text n → IsCharBoundary text (out-Node n).start → quoted_of text n ≡ the (child_of n QUOTED_BODY) (λ body. Some (encode_utf8_all (single (chars (taken text body)))))

-- what the rule of blanks and comments takes, the walk over bytes that finds the first outside them passes over too
abbrev pub BlanksAreThoseOfBytes : Type 0
BlanksAreThoseOfBytes = (text : List ℕ) (i j h : ℕ) → Runs whole_rules text (rule SP) i (ends j) h → outside (drop i text) ≡ outside (drop j text)
