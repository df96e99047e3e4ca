-- What errors tell, with each text as its bytes and each input as the part that it shows. `==` compares this.
use Rattle.std.specs.Cmp.Lexicographic.{pointwise}
use Rattle.std.specs.Prelude.{ℕ, Bool, true, false, ◌&&◌, nat_eq, List, [], ◌∷◌, map}
use Rattle.asn_text.specs.Part.{Part, part_eq}
use Rattle.asn_text.specs.Input.{part_of}
use Rattle.asn_text.specs.declared.errors.NomKind.{NomKind}
use Rattle.asn_text.specs.declared.errors.NomKind.TheVariants.{Alt, Eof, Tag, TakeUntil, Other}
use Rattle.asn_text.specs.declared.errors.ErrorKind.{ErrorKind}
use Rattle.asn_text.specs.declared.errors.ErrorKind.TheVariants.{Nom, External}
use Rattle.asn_text.specs.declared.errors.Context.{Context}
use Rattle.asn_text.specs.declared.errors.Context.TheVariants as context
use Rattle.asn_text.specs.declared.errors.ErrorLink.{ErrorLink}
use Rattle.asn_text.specs.declared.errors.ErrorLeaf.{ErrorLeaf}
use Rattle.asn_text.specs.declared.errors.MiscError.{MiscError}
use Rattle.asn_text.specs.declared.errors.ErrorTree.{ErrorTree, ErrorTree-F, fold-ErrorTree}
use Rattle.asn_text.specs.declared.fault.ParseFault.{ParseFault}
use Rattle.asn_text.specs.declared.fault.ParseFault.TheVariants.{Fail, TooDeep, OutOfMemory}

pub data Kind : Type 0 where
  nom : NomKind → Kind
  external : List ℕ → Kind

pub data Setting : Type 0 where
  name : List ℕ → Setting
  of_kind : Kind → Setting

pub record Link : Type 0 where
  pub part : Part
  pub setting : Setting

pub record Leaf : Type 0 where
  pub part : Part
  pub kind : Kind

abbrev pub kind_seen : ErrorKind → Kind
kind_seen (Nom kind) = nom kind
kind_seen (External reason) = external reason.now

abbrev pub context_seen : Context → Setting
context_seen (context.Name text) = name text.now
context_seen (context.ErrorKind kind) = of_kind (kind_seen kind)

abbrev pub link_seen : ErrorLink → Link
link_seen link = record { part = part_of link.input; setting = context_seen link.context }

abbrev pub leaf_seen : ErrorLeaf → Leaf
leaf_seen leaf = record { part = part_of leaf.input; kind = kind_seen leaf.kind }

abbrev pub misc_seen : MiscError → List ℕ
misc_seen error = error.0.now

-- the place of a kind in their order
abbrev pub rank : NomKind → ℕ
rank Alt = 0
rank Eof = 1
rank Tag = 2
rank TakeUntil = 3
rank Other = 4

abbrev pub nom_eq : NomKind → NomKind → Bool
nom_eq a b = nat_eq (rank a) (rank b)

abbrev pub kinds_eq : Kind → Kind → Bool
kinds_eq (nom a) (nom b) = nom_eq a b
kinds_eq (nom a) (external t) = false
kinds_eq (external s) (nom b) = false
kinds_eq (external s) (external t) = pointwise nat_eq s t

abbrev pub settings_eq : Setting → Setting → Bool
settings_eq (name s) (name t) = pointwise nat_eq s t
settings_eq (name s) (of_kind b) = false
settings_eq (of_kind a) (name t) = false
settings_eq (of_kind a) (of_kind b) = kinds_eq a b

abbrev pub links_eq : Link → Link → Bool
links_eq a b = part_eq a.part b.part && settings_eq a.setting b.setting

abbrev pub leaves_eq : Leaf → Leaf → Bool
leaves_eq a b = part_eq a.part b.part && kinds_eq a.kind b.kind

abbrev pub kind_eq : ErrorKind → ErrorKind → Bool
kind_eq a b = kinds_eq (kind_seen a) (kind_seen b)

abbrev pub context_eq : Context → Context → Bool
context_eq a b = settings_eq (context_seen a) (context_seen b)

abbrev pub link_eq : ErrorLink → ErrorLink → Bool
link_eq a b = links_eq (link_seen a) (link_seen b)

abbrev pub leaf_eq : ErrorLeaf → ErrorLeaf → Bool
leaf_eq a b = leaves_eq (leaf_seen a) (leaf_seen b)

abbrev pub misc_eq : MiscError → MiscError → Bool
misc_eq a b = pointwise nat_eq (misc_seen a) (misc_seen b)

-- a tree; the branches of a fork stand one before the others, and the last before none
pub data Tree : Type 0 where
  leaf : Part → Kind → Tree
  branch : Tree → List Link → Tree
  no_branch : Tree
  one_branch : Tree → Tree → Tree

abbrev pub forked : List Tree → Tree
forked [] = no_branch
forked (tree ∷ trees) = one_branch tree (forked trees)

abbrev pub seen_step : ErrorTree-F Tree → Tree
seen_step (ErrorTree-F.Leaf input kind) = leaf (part_of input) (kind_seen kind)
seen_step (ErrorTree-F.Branch tip links) = branch tip (map link_seen links)
seen_step (ErrorTree-F.Fork branches) = forked branches

unfoldable pub tree_seen : ErrorTree → Tree
tree_seen = fold-ErrorTree Tree seen_step

abbrev pub trees_eq : Tree → Tree → Bool
trees_eq (leaf p k) (leaf q l) = part_eq p q && kinds_eq k l
trees_eq (branch a links) (branch b others) = trees_eq a b && pointwise links_eq links others
trees_eq no_branch no_branch = true
trees_eq (one_branch a rest) (one_branch b others) = trees_eq a b && trees_eq rest others
trees_eq a b = false

abbrev pub tree_eq : ErrorTree → ErrorTree → Bool
tree_eq a b = trees_eq (tree_seen a) (tree_seen b)

-- why a reader gives nothing
pub data Failing : Type 0 where
  failing : Tree → Failing
  too_deep : Failing
  out_of_memory : Failing

abbrev pub fault_seen : ParseFault → Failing
fault_seen (Fail tree) = failing (tree_seen tree)
fault_seen TooDeep = too_deep
fault_seen OutOfMemory = out_of_memory

abbrev pub faults_eq : Failing → Failing → Bool
faults_eq (failing a) (failing b) = trees_eq a b
faults_eq too_deep too_deep = true
faults_eq out_of_memory out_of_memory = true
faults_eq a b = false

abbrev pub fault_eq : ParseFault → ParseFault → Bool
fault_eq a b = faults_eq (fault_seen a) (fault_seen b)
