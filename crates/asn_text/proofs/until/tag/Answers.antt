use Rattle.std.proofs.Common.{sym, subst, List, ℕ}
use Rattle.std.proofs.lemmas.Str.{IsCharBoundary-start}
use Rattle.asn_text.specs.inner.Walks.{IsTag}
use Rattle.asn_text.proofs.until.tag.Goals as goal

pub returns-clause-tag : goal.returns-clause-tag
returns-clause-tag c =
    let Tag : List ℕ → Type 0 = λ bytes. IsTag bytes in
    subst Tag (sym c.as_bytes.ensures.value) (c.requires, IsCharBoundary-start c.args.text.now c.utf8.text)
