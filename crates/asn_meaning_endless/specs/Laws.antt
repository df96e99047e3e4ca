-- The laws of what comes back to itself.
use Rattle.std.specs.Prelude.{◌≡◌, ℕ, List, ◌++◌, false, None, Some}
use Rattle.asn_tree.specs.declared.definitions.ToplevelValueDefinition.{ToplevelValueDefinition}
use Rattle.asn_meaning.specs.Answers.{Denoted, once}
use Rattle.asn_meaning.specs.Definitions.{Definitions, value_named}
use Rattle.asn_meaning.specs.Denotes.{Read, defined_read, is_open, own_name, read_denoted}
use Rattle.asn_meaning.specs.Judge.{meaning}
use Rattle.asn_meaning.specs.Kinds.{kind_of}
use Rattle.asn_meaning.specs.Members.{members_of}
use Rattle.asn_meaning.specs.Scopes.{Place, bound_to}
use Rattle.asn_meaning.specs.ValueTrees.{ValueTree}
use Rattle.asn_meaning.specs.Written.{NameWritten, as_written}
use Rattle.asn_needs.specs.Dummies.{hangs}
use Rattle.asn_needs.specs.Edges.{arrival}
use Rattle.asn_needs.specs.Followed.{followed_to_head, named_by}
use Rattle.asn_needs.specs.Sites.{Node, seen}
use Rattle.asn_meaning_endless.specs.Endless.{ComesBack, IncludesItself}
use Rattle.asn_meaning_endless.specs.Keys.{Key, key}
use Rattle.asn_meaning_endless.specs.Rounds.{Among, Round}
use Rattle.asn_meaning_endless.specs.Values.{AsksForTree, AsksOn}

-- What goes by something that comes back to itself has no head, however many steps there are.
abbrev pub ComesBackHeadless : Type 0
ComesBackHeadless =
    (defs : Definitions) (goal : Key) → ComesBack defs goal → (p : Place) → key p ≡ Some goal → (n : ℕ) → (meaning defs n).head p ≡ None

-- Nor does following its names arrive at a dummy without an argument.
abbrev pub ComesBackUnhung : Type 0
ComesBackUnhung =
    (defs : Definitions) (goal : Key) → ComesBack defs goal → (p : Place) → key p ≡ Some goal → (n k : ℕ) →
    hangs defs (meaning defs n) k p ≡ false

-- What goes by something that includes itself has no members, however many steps there are for its head and for these.
abbrev pub IncludesMemberless : Type 0
IncludesMemberless =
    (defs : Definitions) (goal : Key) → IncludesItself defs goal → (p : Place) → key p ≡ Some goal → (n m : ℕ) →
    once None ((meaning defs m).head p) (members_of (meaning defs n)) ≡ None

-- What is followed from something that comes back to itself is its own name and what is followed once round, however many
-- steps there are.
abbrev pub FollowedOnceRound : Type 0
FollowedOnceRound =
    (defs : Definitions) (goal : Key) (c : ComesBack defs goal) (ys : List Node) → Round defs goal ys c.first → (p : Place) → key p ≡ Some goal →
    (n k : ℕ) (y : Node) → Among (followed_to_head defs (meaning defs n) k p) y → Among (named_by defs p.scope (kind_of p) ++ ys) y

-- Nor are other names met on the way to the plain name at which following names arrives.
abbrev pub ArrivalOnceRound : Type 0
ArrivalOnceRound =
    (defs : Definitions) (goal : Key) (c : ComesBack defs goal) (ys : List Node) → Round defs goal ys c.first → (p : Place) → key p ≡ Some goal →
    (n k : ℕ) (y : Node) → Among (arrival (seen defs n) k p) y → Among (named_by defs p.scope (kind_of p) ++ ys) y

-- A value whose tree is asked for again while it is looked for denotes no tree, however many steps there are.
abbrev pub AskedAgainTreeless : Type 0
AskedAgainTreeless =
    (defs : Definitions) (r : Read) → AsksOn defs r r → (n : ℕ) (t : ValueTree) → read_denoted (meaning defs n) r ≡ Denoted t → ⊥

-- A name that is no dummy, and no item or named number of the head, asks for the tree of the value that it names.
abbrev pub NameAsks : Type 0
NameAsks =
    (defs : Definitions) (r : Read) (k : ℕ) (h : Place) (name : List ℕ) (d : ToplevelValueDefinition) →
    (meaning defs k).head r.place ≡ Some h → is_open h ≡ false → as_written r.value ≡ NameWritten None name →
    bound_to r.scope name ≡ None → own_name h name ≡ None → value_named defs name ≡ Some d → AsksForTree defs r (defined_read d)
