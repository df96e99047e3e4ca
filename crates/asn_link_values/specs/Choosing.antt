-- What code chooses that makes instances: values as literals and items, and each name stays that may.
use Rattle.std.specs.Prelude.{ℕ}
use Rattle.asn_meaning.specs.Definitions.{Definitions}
use Rattle.asn_link_instance.specs.Closed.{every_name}
use Rattle.asn_link_instance.specs.Instance.{Instances, instance}
use Rattle.asn_link_instance.specs.Literals.{literals}
use Rattle.asn_link_instance.specs.Subjects.{Choices}

abbrev pub chosen : Choices
chosen = literals every_name

-- what is found within so many levels, by what `n` steps tell
abbrev pub instances : Definitions → ℕ → ℕ → Instances
instances defs n levels = instance chosen defs n levels
