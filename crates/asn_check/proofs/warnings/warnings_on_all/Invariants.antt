use Rattle.std.proofs.Common.{map, drop}
use Rattle.asn_check.specs.Warnings.{said_by}
use Rattle.asn_link.specs.Linked.{is_told}
use Rattle.asn_names_index.specs.Definitions.{name_of}
use Rattle.asn_check.proofs.Warned.{AreBegun}
use Rattle.asn_check.proofs.warnings.warnings_on_all.Given as goal

abbrev pub invariant-loop-i : goal.invariant-loop-i
invariant-loop-i l = AreBegun l.names.definitions.now (is_told (map (λ n. n.now) l.all) l.made) (map (λ d. name_of d.now) l.definitions) (map (λ d. name_of d.now) (drop l.i l.definitions)) (map said_by l.warnings)
