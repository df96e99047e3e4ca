use Rattle.std.proofs.Common.{◌-◌, length, sym, ◌∙◌, ap, arith, length-drop}
use Rattle.std.proofs.lemmas.List.{take_all}
use Rattle.std.specs.Prelude.{nat_eq, drop}
use Rattle.std.specs.List.{starts_with}
use Rattle.asn_text.proofs.Standing.{behind_text}
use Rattle.asn_text.proofs.gap.begins_with.Goals as goal

pub returns-clause-boundary : goal.returns-clause-boundary
returns-clause-boundary c = λ is.
    let bytes = c.as_bytes.result.now in
    let place = c.args.place in
    let rest = take_all (length bytes - place) (drop place bytes) (omega (arith, length-drop place bytes)) in
    let stands =
    ap (λ shown. starts_with nat_eq (drop place shown) c.args.text.now) (sym c.as_bytes.ensures.value)
    ∙ ap (λ text. starts_with nat_eq (drop place bytes) text) (sym c.as_bytes-2.ensures.value)
    ∙ ap (λ shown. starts_with nat_eq shown c.as_bytes-2.result.now) (sym rest)
    ∙ sym c.starts_with.ensures.value
    ∙ is in
    behind_text c.args.shown.now c.args.text.now place c.utf8.shown c.utf8.text c.requires stands
