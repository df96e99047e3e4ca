use Rattle.std.proofs.Common.{◌≡◌, Result, Err, ap, subst, sym}
use Rattle.std.specs.List.{All}
use Rattle.asn_rules.specs.Children.{StandsBy}
use Rattle.asn_rules.specs.Whole.{whole_rules}
use Rattle.asn_read_nodes.specs.declared.errors.SpecError.{SpecError}
use Rattle.asn_read_nodes.specs.declared.errors.SpecError.TheVariants as fault
use Rattle.asn_read_nodes.proofs.Nodes.{whole_stands}
use Rattle.asn_modules.proofs.whole.asn_spec.Goals as goal

same_fault : {A : Type 0} (x y : SpecError) → ◌≡◌ {A = Result A SpecError} (Err x) (Err y) → x ≡ y
same_fault x y e = cc

pub read_modules-requires : goal.read_modules-requires
read_modules-requires c =
    let text = c.args.source.now in
    let stand = whole_stands whole_rules text c.in-Ok.node c.in-Ok.ensures.node in
    subst (λ t. All (StandsBy whole_rules t) c.as_slice.result.now) (sym c.as_bytes.ensures.value) (subst (All (StandsBy whole_rules text)) (sym c.as_slice.ensures) stand)

pub returns-clause-matching : goal.returns-clause-matching
returns-clause-matching c = λ e same. c.in-Err.ensures.matching e (ap Err (same_fault c.in-Err.why (fault.Lexer e) same))
