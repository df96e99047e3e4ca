use Rattle.std.proofs.Common.{◌∙◌, sym}
use Rattle.asn_check_listing.proofs.Here.{elsewhere, found, past}
use Rattle.asn_check_listing.proofs.components.name_here.Goals as goal

pub returns-then-cursor-places-clause-name : goal.returns-then-cursor-places-clause-name
returns-then-cursor-places-clause-name c = sym (past c.args.additional c.args.number c.args.names.now c.args.places.now c.args.cursor c.if-cursor-places.true)

pub returns-then-stands_here-clause-name : goal.returns-then-stands_here-clause-name
returns-then-stands_here-clause-name c =
    c.get.ensures.value
    ∙ sym (found c.args.additional c.args.number c.args.names.now c.args.places.now c.args.cursor c.place_at-place.result c.if-cursor-places.false c.place_at-place.ensures (sym c.stands_here.ensures ∙ c.if-stands_here.true))

pub returns-else-stands_here-clause-name : goal.returns-else-stands_here-clause-name
returns-else-stands_here-clause-name c =
    sym (elsewhere c.args.additional c.args.number c.args.names.now c.args.places.now c.args.cursor c.place_at-place.result c.if-cursor-places.false c.place_at-place.ensures (sym c.stands_here.ensures ∙ c.if-stands_here.false))
