-- A text has at most one reading, by any table and any function that reads a node.
use Rattle.std.proofs.Common.{◌≡◌, Option, Some, None, List, [], ◌∷◌, ℕ, sym, ap, ◌∙◌}
use Rattle.asn_rules.specs.Derives.{OneTree}
use Rattle.asn_rules.specs.Expression.{Expression, rule}
use Rattle.asn_rules.specs.declared.names.TheConstants.{ASN_SPEC}
use Rattle.asn_rules.specs.declared.node.Node.{Node}
use Rattle.asn_read_nodes.specs.Derivation.{IsReadingBy}

module _ {Read : Type 0} (rules : List Expression) (read : List ℕ → Node → Option Read) (text : List ℕ) where
  abbrev first_reading : List Node → Option Read
  first_reading [] = None
  first_reading (n ∷ ns) = read text n

  same_reading : (r r' : Read) → ◌≡◌ {A = Option Read} (Some r) (Some r') → r ≡ r'
  same_reading r r' e = cc

  pub one_reading_by : OneTree rules text (rule ASN_SPEC) 0 → (r r' : Read) → IsReadingBy rules read text r → IsReadingBy rules read text r' → r ≡ r'
  one_reading_by one r r' p q =
      let same = one.only p.0 q.0 (p.1 ∷ []) (q.1 ∷ []) p.2 q.2 in
      same_reading r r' (sym p.3 ∙ ap first_reading same.1 ∙ q.3)
