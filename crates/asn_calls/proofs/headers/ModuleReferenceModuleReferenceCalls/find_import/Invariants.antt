use Rattle.std.proofs.Common.{◌≡◌, drop}
use Rattle.std.specs.List.{find}
use Rattle.std.specs.Str.{bytes_eq}
use Rattle.asn_calls.specs.Headers.{imported}
use Rattle.asn_calls.proofs.headers.ModuleReferenceModuleReferenceCalls.find_import.Given as goal

abbrev pub invariant-loop-import : goal.invariant-loop-import
invariant-loop-import l =
    find (λ name. bytes_eq name l.identifier) (imported l.import-items) ≡ find (λ name. bytes_eq name l.identifier) (imported (drop l.import-index l.import-items))
