use Rattle.std.proofs.Common.{◌<◌, length, Some, sym, ap, ◌∙◌, arith}
use Rattle.std.specs.Option.{option_map}
use Rattle.asn_meaning_heads.specs.Following.{earlier, named, shown_fields}
use Rattle.asn_meaning_heads.specs.Objects.{shown_given}
use Rattle.asn_meaning_heads.specs.Tokens.{shown_behind, shown_token}
use Rattle.asn_meaning_heads.proofs.Walking.{taken_is}
use Rattle.asn_meaning_heads.proofs.following.take_item.Goals as goal

pub returns-in-Some : goal.returns-in-Some
returns-in-Some c =
    let lt : 0 < length c.args.walk.left.now = omega arith in
    ap (λ found. Some (found, c.behind_first.result.now)) c.earlier.ensures
    ∙ ap (λ left. Some (earlier (option_map shown_given c.args.walk.found) (named c.args.name.now (shown_fields c.in-Some.given)), left)) c.behind_first.ensures
    ∙ taken_is c.args.name.now (option_map shown_given c.args.walk.found) (shown_token c.args.token) (shown_behind c.args.behind.now) c.args.walk.left.now c.item-item.result (shown_fields c.in-Some.given) lt c.item-item.is
    (sym (ap (option_map shown_fields) c.in-Some.is) ∙ c.item_at.ensures)
