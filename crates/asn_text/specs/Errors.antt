-- Trees of failures: what the calls make of them, and what they read from them.
use Rattle.std.specs.Prelude.{◌≡◌, ℕ, ◌-◌, Bool, true, false, nat_eq, List, [], ◌∷◌, ◌++◌, length, codes, slice_get, Option, Some, option_map}
use Rattle.std.specs.Option.{option_flatten}
use Rattle.asn_text.specs.Position.{line_at, column_at}
use Rattle.asn_text.specs.Part.{Part, shown}
use Rattle.asn_text.specs.Input.{part_of}
use Rattle.asn_text.specs.declared.input.Input.{Input}
use Rattle.asn_text.specs.declared.report.ReportData.{ReportData}
use Rattle.asn_text.specs.declared.errors.NomKind.{NomKind}
use Rattle.asn_text.specs.declared.errors.ErrorKind.{ErrorKind}
use Rattle.asn_text.specs.declared.errors.ErrorKind.TheVariants.{Nom, External}
use Rattle.asn_text.specs.declared.errors.ErrorLink.{ErrorLink}
use Rattle.asn_text.specs.declared.errors.ErrorLeaf.{ErrorLeaf}
use Rattle.asn_text.specs.declared.errors.ErrorTree.{ErrorTree, ErrorTree-F, roll-ErrorTree, out-ErrorTree, fold-ErrorTree}

-- the three forms of a tree
abbrev pub leaf : Input → ErrorKind → ErrorTree
leaf input kind = roll-ErrorTree (ErrorTree-F.Leaf input kind)

abbrev pub branch : ErrorTree → List ErrorLink → ErrorTree
branch tip links = roll-ErrorTree (ErrorTree-F.Branch tip links)

abbrev pub fork : List ErrorTree → ErrorTree
fork branches = roll-ErrorTree (ErrorTree-F.Fork branches)

-- the tree with one more link: a branch gets it behind its others, any other tree becomes the tip of a branch
abbrev pub linked_as : ErrorTree → ErrorLink → ErrorTree-F ErrorTree → ErrorTree
linked_as tree link (ErrorTree-F.Leaf input kind) = branch tree (link ∷ [])
linked_as tree link (ErrorTree-F.Branch tip links) = branch tip (links ++ link ∷ [])
linked_as tree link (ErrorTree-F.Fork branches) = branch tree (link ∷ [])

abbrev pub linked : ErrorTree → ErrorLink → ErrorTree
linked tree link = linked_as tree link (out-ErrorTree tree)

-- the tree with a link for the kind, but a fork under Alt is itself
abbrev pub appended_as : ErrorTree → ErrorLink → NomKind → ErrorTree-F ErrorTree → ErrorTree
appended_as tree link NomKind.Alt (ErrorTree-F.Fork branches) = tree
appended_as tree link kind form = linked_as tree link form

abbrev pub appended : ErrorTree → ErrorLink → NomKind → ErrorTree
appended tree link kind = appended_as tree link kind (out-ErrorTree tree)

-- the branches of a fork; any other tree counts as one branch
abbrev pub branches_as : ErrorTree → ErrorTree-F ErrorTree → List ErrorTree
branches_as tree (ErrorTree-F.Leaf input kind) = tree ∷ []
branches_as tree (ErrorTree-F.Branch tip links) = tree ∷ []
branches_as tree (ErrorTree-F.Fork branches) = branches

abbrev pub branches_of : ErrorTree → List ErrorTree
branches_of tree = branches_as tree (out-ErrorTree tree)

abbrev pub first_of : {A : Type 0} → List A → Option A
first_of items = slice_get items 0

abbrev pub last_of : {A : Type 0} → List A → Option A
last_of items = slice_get items (length items - 1)

-- the input of a leaf, of a branch's last link, of a fork's last branch
abbrev pub input_step : ErrorTree-F (Option Input) → Option Input
input_step (ErrorTree-F.Leaf input kind) = Some input
input_step (ErrorTree-F.Branch tip links) = option_map (λ link. link.input) (last_of links)
input_step (ErrorTree-F.Fork branches) = option_flatten (last_of branches)

unfoldable pub input_of : ErrorTree → Option Input
input_of = fold-ErrorTree (Option Input) input_step

abbrev pub as_leaf : Input → ErrorKind → ErrorLeaf
as_leaf input kind = record { input = input; kind = kind }

-- the leaf that a tree comes to by the tips of its branches and the first branches of its forks
abbrev pub first_leaf_step : ErrorTree-F (Option ErrorLeaf) → Option ErrorLeaf
first_leaf_step (ErrorTree-F.Leaf input kind) = Some (as_leaf input kind)
first_leaf_step (ErrorTree-F.Branch tip links) = tip
first_leaf_step (ErrorTree-F.Fork branches) = option_flatten (first_of branches)

unfoldable pub first_leaf : ErrorTree → Option ErrorLeaf
first_leaf = fold-ErrorTree (Option ErrorLeaf) first_leaf_step

-- the leaf that a tree comes to by the tips of its branches and the last branches of its forks
abbrev pub last_leaf_step : ErrorTree-F (Option ErrorLeaf) → Option ErrorLeaf
last_leaf_step (ErrorTree-F.Leaf input kind) = Some (as_leaf input kind)
last_leaf_step (ErrorTree-F.Branch tip links) = tip
last_leaf_step (ErrorTree-F.Fork branches) = option_flatten (last_of branches)

unfoldable pub last_leaf : ErrorTree → Option ErrorLeaf
last_leaf = fold-ErrorTree (Option ErrorLeaf) last_leaf_step

-- whether a reader found the text's end
abbrev pub is_eof : ErrorKind → Bool
is_eof (Nom NomKind.Eof) = true
is_eof (Nom kind) = false
is_eof (External name) = false

-- the reason that a kind tells
abbrev pub reason_of : ErrorKind → List ℕ
reason_of (Nom kind) = codes "parse failed"
reason_of (External reason) = reason.now

-- the report of a part's place, in its context
pub record IsReportOf (part : Part) (why : List ℕ) (report : ReportData) : Type 0 where
  pub line : report.line ≡ line_at part.source part.start
  pub column : report.column ≡ column_at part.source part.start
  pub offset : report.offset ≡ part.start
  pub context_start_line : report.context_start_line ≡ part.context_line
  pub context_start_offset : report.context_start_offset ≡ part.context_start
  pub reason : report.reason.now ≡ why
  pub unexpected_eof : report.unexpected_eof ≡ nat_eq (length (shown part)) 0

-- the report of a leaf
abbrev pub ReportsLeaf : ReportData → ErrorLeaf → Type 0
ReportsLeaf report failed = IsReportOf (part_of failed.input) (reason_of failed.kind) report
