-- How a reader fails.
use Rattle.std.specs.Prelude.{◌≡◌, ℕ, List}
use Rattle.asn_text.specs.declared.input.Input.{Input}
use Rattle.asn_text.specs.declared.errors.ErrorKind.{ErrorKind}
use Rattle.asn_text.specs.declared.errors.ErrorKind.TheVariants.{Nom, External}
use Rattle.asn_text.specs.declared.errors.ErrorTree.{ErrorTree, ErrorTree-F, out-ErrorTree}
use Rattle.asn_text.specs.declared.fault.ParseFault.{ParseFault}
use Rattle.asn_text.specs.declared.fault.ParseFault.TheVariants.{Fail, TooDeep, OutOfMemory}

-- the kind tells this name
abbrev pub Names : List ℕ → ErrorKind → Type 0
Names name (Nom kind) = ⊥
Names name (External reason) = reason.now ≡ name

-- a leaf with the input unchanged and the name
abbrev pub IsNamedLeaf : Input → List ℕ → ErrorTree-F ErrorTree → Type 0
IsNamedLeaf input name (ErrorTree-F.Leaf place kind) = (place ≡ input) × Names name kind
IsNamedLeaf input name (ErrorTree-F.Branch tip links) = ⊥
IsNamedLeaf input name (ErrorTree-F.Fork branches) = ⊥

-- The reader of this name fails at its input, neither too deep nor for want of memory.
abbrev pub FailsAt : Input → List ℕ → ParseFault → Type 0
FailsAt input name (Fail tree) = IsNamedLeaf input name (out-ErrorTree tree)
FailsAt input name TooDeep = ⊥
FailsAt input name OutOfMemory = ⊥
