use Rattle.std.proofs.Common.{refl, ap, ◌∙◌, arith, suc, length, ◌≡◌, ◌++◌, ◌∷◌, [], Some, length-append}
use Rattle.asn_match.specs.Chain.{from_place}
use Rattle.std.specs.Prelude.{slice_get, slice_set, nat_eq, ◌&&◌, if◌then◌else◌}
use Rattle.asn_match.specs.declared.chains.Entry.{Entry}
use Rattle.std.proofs.lemmas.Option.{slice_get_read}
use Rattle.asn_match.proofs.Walks.{set_place}
use Rattle.asn_match.proofs.chains.MatchTable.put.Goals as goal

pub returns-in-Ok-push-clause-sets : goal.returns-in-Ok-push-clause-sets
returns-in-Ok-push-clause-sets c s j =
    let old = c.reach.new.self in
    let next = c.index-next.result.now in
    let entry : Entry = record { rule = c.args.rule; outcome = c.args.outcome; next = next } in
    let before = slice_get_read old.newest.items _ c.args.offset next refl c.in-Ok.ensures.reached c.index-next.ensures in
    let items : c.push.new.self.items ≡ old.entries.items ++ entry ∷ [] = c.in-Ok-push.ensures.items in
    let len : c.len.result ≡ suc (length old.entries.items) = omega (arith, c.len.ensures, ap length items, length-append old.entries.items (entry ∷ [])) in
    ap (λ es. from_place es s (slice_get (slice_set old.newest.items c.args.offset c.len.result) j)) items
    ∙ ap (λ n. from_place (old.entries.items ++ entry ∷ []) s (slice_get (slice_set old.newest.items c.args.offset n) j)) len
    ∙ set_place old.entries.items old.newest.items entry c.args.offset old.falls old.starts c.in-Ok.ensures.reached before s j
    ∙ ap (λ o. if nat_eq c.args.rule s && nat_eq c.args.offset j then Some c.args.outcome else o) (c.in-Ok.ensures.same s j)
