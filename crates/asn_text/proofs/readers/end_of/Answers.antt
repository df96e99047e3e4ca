use Rattle.std.proofs.Common.{List, ℕ, subst}
use Rattle.std.proofs.lemmas.Str.{IsCharBoundary-start}
use Rattle.std.specs.Str.{IsCharBoundary}
use Rattle.asn_rules.specs.declared.grammar.Grammar.TheVariants.{Whole}
use Rattle.asn_text.proofs.readers.end_of.Goals as goal

pub returns-in-Ok-End-clause-boundary : goal.returns-in-Ok-End-clause-boundary
returns-in-Ok-End-clause-boundary c =
    let text = c.inner-text.result.now in
    let run = (rw c.in-Ok-End.field-0-is at c.in-Ok-End.ensures).0 in
    let Bounds : List ℕ → Type 0 = λ bytes. IsCharBoundary bytes c.in-Ok-End.offset in
    subst Bounds c.inner-text.ensures
    (c.ends_at_characters.ensures Whole text c.new.result.number 0 c.in-Ok-End.offset _ c.inner-text.utf8 (IsCharBoundary-start text c.inner-text.utf8) run)
