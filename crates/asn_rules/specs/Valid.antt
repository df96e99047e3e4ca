-- Whole texts: their rule from the start on.
use Rattle.std.specs.Prelude.{ℕ, ◌≤◌, ◌<◌, List}
use Rattle.asn_rules.specs.Expression.{Expression, rule}
use Rattle.asn_rules.specs.declared.names.TheConstants.{ASN_SPEC}
use Rattle.asn_rules.specs.Runs.{Ending, ends, fails, Runs}

-- The text is one of the grammar, at a height of at most the depth.
abbrev pub IsValid : List Expression → List ℕ → ℕ → Type 0
IsValid rules text depth = (j : ℕ) × (h : ℕ) × Runs rules text (rule ASN_SPEC) 0 (ends j) h × (h ≤ depth)

-- The text is none of the grammar, which is seen at a height of at most the depth.
abbrev pub Fails : List Expression → List ℕ → ℕ → Type 0
Fails rules text depth = (h : ℕ) × Runs rules text (rule ASN_SPEC) 0 fails h × (h ≤ depth)

-- The height exceeds the depth.
abbrev pub IsDeeper : List Expression → List ℕ → ℕ → Type 0
IsDeeper rules text depth = (o : Ending) (h : ℕ) → Runs rules text (rule ASN_SPEC) 0 o h → depth < h
