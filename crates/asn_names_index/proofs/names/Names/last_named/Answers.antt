use Rattle.std.proofs.Common.{sym, ◌∙◌, subst}
use Rattle.asn_names_index.proofs.LastPlaces.{Tells, tells}
use Rattle.asn_names_index.proofs.names.Names.last_named.Goals as goal

pub returns-in-Some : goal.returns-in-Some
returns-in-Some c =
    let defs = c.args.self.now.definitions.now in
    let there = subst (Tells c.args.name.now defs) (sym (c.in-Some.ensures.value ∙ c.args.self.now.is_index c.args.name.now)) (tells c.args.name.now defs) in
    c.get-in-Some.ensures.value ∙ there.seen

pub returns-in-None : goal.returns-in-None
returns-in-None c =
    let defs = c.args.self.now.definitions.now in
    let nowhere = subst (Tells c.args.name.now defs) (sym (c.in-None.ensures.value ∙ c.args.self.now.is_index c.args.name.now)) (tells c.args.name.now defs) in
    sym nowhere.unseen
