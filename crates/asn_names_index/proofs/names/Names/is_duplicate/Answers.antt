use Rattle.std.proofs.Common.{sym, ap, ◌∙◌, subst}
use Rattle.std.specs.Prelude.{nat_lt}
use Rattle.asn_names_index.proofs.LastPlaces.{Tells, tells}
use Rattle.asn_names_index.proofs.names.Names.is_duplicate.Goals as goal

pub returns-in-Some : goal.returns-in-Some
returns-in-Some c =
    let defs = c.args.self.now.definitions.now in
    let there = subst (Tells c.args.name.now defs) (sym (c.in-Some.ensures.value ∙ c.args.self.now.is_index c.args.name.now)) (tells c.args.name.now defs) in
    there.repeated

pub returns-in-None : goal.returns-in-None
returns-in-None c =
    let defs = c.args.self.now.definitions.now in
    let nowhere = subst (Tells c.args.name.now defs) (sym (c.in-None.ensures.value ∙ c.args.self.now.is_index c.args.name.now)) (tells c.args.name.now defs) in
    sym (ap (nat_lt 1) nowhere.uncounted)
