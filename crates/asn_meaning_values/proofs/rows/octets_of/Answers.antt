use Rattle.std.proofs.Common.{◌≡◌, ◌+◌, ◌*◌, ◌/◌, ◌%◌, ◌<◌, ap, arith, drop, length, refl, sym, ◌∙◌}
use Rattle.asn_meaning_values.proofs.Listing.{before}
use Rattle.asn_meaning_values.proofs.Rowing.{octets_lost, octets_next, octets_short}
use Rattle.asn_meaning_values.specs.inner.Rows.{first_octet}
use Rattle.asn_meaning.specs.Rows.{octets_of}
use Rattle.asn_meaning_values.proofs.rows.octets_of.Goals as goal

pub returns-in-None : goal.returns-in-None
returns-in-None c =
    let lt : c.loop-i.i < length c.args.bits.now / 8 = omega arith in
    absurd (octets_lost c.args.bits.now c.loop-i.i lt (ap first_octet (sym c.behind.ensures) ∙ sym c.first_octet.ensures ∙ c.in-None.is))

pub loop-i-preserved : goal.loop-i-preserved
loop-i-preserved c =
    ap (λ xs. before xs (octets_of (drop (8 * (c.loop-i.i + 1)) c.args.bits.now))) c.in_ok-add-in-Some.ensures.ok
    ∙ octets_next c.loop-i.octets c.args.bits.now c.loop-i.i c.in-Some.octet (ap first_octet (sym c.behind.ensures) ∙ sym c.first_octet.ensures ∙ c.in-Some.is)
    ∙ c.loop-i.invariant

pub returns-else-bits-eq0 : goal.returns-else-bits-eq0
returns-else-bits-eq0 c =
    let past : length c.args.bits.now / 8 ≡ c.loop-i.i = omega arith in
    sym (octets_short c.loop-i.octets c.args.bits.now c.loop-i.i past (omega arith)) ∙ c.loop-i.invariant
