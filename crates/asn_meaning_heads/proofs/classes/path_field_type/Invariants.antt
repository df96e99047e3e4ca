use Rattle.std.proofs.Common.{◌≡◌, drop, None}
use Rattle.std.specs.Option.{option_map}
use Rattle.asn_meaning_heads.specs.Classes.{path_type}
use Rattle.asn_names_index.specs.Classes.{shown_class}
use Rattle.asn_meaning_heads.specs.Kinds.{shown_type}
use Rattle.asn_meaning_heads.proofs.classes.path_field_type.Given as goal

abbrev pub invariant-loop-field : goal.invariant-loop-field
invariant-loop-field l = path_type (shown_class l.class) (option_map (option_map shown_type) l.so_far) (drop l.field-index l.path) ≡ path_type (shown_class l.class) None l.path
