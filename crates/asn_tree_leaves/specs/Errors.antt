-- Warnings and refusals: the warning that tells a refusal, and what it is for two of them to say the same. Their words are
-- texts that stand outside them: what the texts spell counts, and not where they stand.
use Rattle.std.specs.Prelude.{◌≡◌, ⊤, Some}
use Rattle.asn_tree_leaves.specs.declared.errors.LinkerErrorType.TheVariants.{Unknown}
use Rattle.asn_tree_leaves.specs.declared.errors.GrammarError.{GrammarError}
use Rattle.asn_tree_leaves.specs.declared.errors.LinkerError.{LinkerError}
use Rattle.asn_tree_leaves.specs.declared.errors.LinkFault.{LinkFault}
use Rattle.asn_tree_leaves.specs.declared.errors.LinkFault.TheVariants.{Grammar, OutOfMemory}

-- the same words, kind and name
abbrev pub SameRefusal : GrammarError → GrammarError → Type 0
SameRefusal x y = (x.details.now ≡ y.details.now) × (x.kind ≡ y.kind) × (x.pdu ≡ y.pdu)

-- the same name, words and kinds
abbrev pub SameWarning : LinkerError → LinkerError → Type 0
SameWarning x y = (x.pdu ≡ y.pdu) × (x.details.now ≡ y.details.now) × (x.kind ≡ y.kind) × (x.grammar ≡ y.grammar)

-- the same refusal, or want of memory twice
abbrev pub SameFault : LinkFault → LinkFault → Type 0
SameFault (Grammar x) (Grammar y) = SameRefusal x y
SameFault (Grammar x) OutOfMemory = ⊥
SameFault OutOfMemory (Grammar y) = ⊥
SameFault OutOfMemory OutOfMemory = ⊤

-- the warning that tells a refusal
abbrev pub warned : GrammarError → LinkerError
warned refusal =
    record {
      pdu = refusal.pdu;
      details = refusal.details;
      kind = Unknown;
      grammar = Some refusal.kind;
    }
