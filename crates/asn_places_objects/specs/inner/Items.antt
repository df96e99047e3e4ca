-- The first item of an object whose items do not follow their class's syntax.
use Rattle.std.specs.Prelude.{ℕ, List, Option, Some, None, if◌then◌else◌}
use Rattle.asn_tree.specs.declared.objects.SyntaxApplication.{SyntaxApplication, out-SyntaxApplication}
use Rattle.asn_meaning.specs.Answers.{once}
use Rattle.asn_meaning.specs.Definitions.{Definitions}
use Rattle.asn_needs.specs.PartsOfObjects.{is_object_or_set, item_name}

-- the name of an object or a set that an item is
abbrev pub set_named : Definitions → SyntaxApplication → Option (List ℕ)
set_named defs item = once None (item_name (out-SyntaxApplication item)) (λ name. if is_object_or_set defs name then Some name else None)
