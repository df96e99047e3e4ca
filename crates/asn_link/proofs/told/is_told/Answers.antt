use Rattle.std.proofs.Common.{◌∙◌, map, sym}
use Rattle.std.proofs.lemmas.List.{length-map}
use Rattle.asn_link.proofs.ByName.{told_there}
use Rattle.asn_link.proofs.told.is_told.Goals as goal

pub returns-in-Some : goal.returns-in-Some
returns-in-Some c =
    sym (told_there (map (λ n. n.now) c.args.names.now) c.args.told.now c.args.name.now c.in-Some.place c.requires.ascend (c.requires.long ∙ sym (length-map c.args.names.now (λ n. n.now))) c.in-Some.ensures.found)
