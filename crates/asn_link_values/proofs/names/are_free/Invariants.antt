use Rattle.std.proofs.Common.{◌≡◌, drop, map}
use Rattle.std.specs.List.{list_all}
use Rattle.std.specs.Prelude.{is_none}
use Rattle.asn_meaning_heads.specs.Scopes.{shown}
use Rattle.asn_meaning.specs.Scopes.{bound_to}
use Rattle.asn_link_values.proofs.names.are_free.Given as goal

abbrev pub invariant-loop-name : goal.invariant-loop-name
invariant-loop-name l =
    list_all (λ name. is_none (bound_to (shown l.scope) name)) (map (λ n. n.now) (drop l.name-index l.names))
    ≡ list_all (λ name. is_none (bound_to (shown l.scope) name)) (map (λ n. n.now) l.names)
