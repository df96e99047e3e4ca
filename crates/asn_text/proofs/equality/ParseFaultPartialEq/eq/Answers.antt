use Rattle.std.proofs.Common.{◌≡◌, sym, ap, ◌∙◌}
use Rattle.asn_text.specs.Seen.{fault_eq}
use Rattle.asn_text.specs.Deciding.{fault_eq_decides}
use Rattle.asn_text.specs.declared.fault.ParseFault.TheVariants.{Fail}
use Rattle.asn_text.proofs.equality.ParseFaultPartialEq.eq.Goals as goal

pub returns-in-Fail-other-clause-same : goal.returns-in-Fail-other-clause-same
returns-in-Fail-other-clause-same c =
    let one = c.args.self.now in
    let another = c.args.other.now in
    let decides = fault_eq_decides one another in
    let same : c.eq.result ≡ fault_eq one another =
    c.eq.ensures
    ∙ ap (λ fault. fault_eq fault (Fail c.in-Fail-other.another)) (sym c.in-Fail.is)
    ∙ ap (λ fault. fault_eq one fault) (sym c.in-Fail-other.is) in
    (λ is. decides.0 (sym same ∙ is), λ e. same ∙ decides.1 e)
