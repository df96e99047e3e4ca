use Rattle.std.proofs.Common.{◌<◌, ap, arith, length, sym, ◌∙◌}
use Rattle.std.specs.Str.{bytes_eq}
use Rattle.asn_meaning_shapes.proofs.Membering.{member_here}
use Rattle.asn_meaning_shapes.proofs.members.member_named.Goals as goal

pub returns-then-eq : goal.returns-then-eq
returns-then-eq c =
    let lt : c.loop-member.member-index < length c.args.members.now = omega arith in
    sym (member_here c.args.members.now c.loop-member.member-index c.member-item.result c.args.name.now lt c.member-item.is
    (ap (λ n. bytes_eq n c.args.name.now) (sym c.as_str.ensures) ∙ sym c.eq.ensures ∙ c.if-eq.true))
    ∙ c.loop-member.invariant
