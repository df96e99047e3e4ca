-- What a call refuses.
use Rattle.std.specs.Prelude.{◌≡◌, None}
use Rattle.asn_tree_leaves.specs.declared.errors.GrammarError.{GrammarError}
use Rattle.asn_tree_leaves.specs.declared.errors.GrammarErrorType.TheVariants.{UnpackingError}

-- the refusal of a form that a call can't unpack, in no definition yet
pub record IsUnpackingError (e : GrammarError) : Type 0 where
  pub kind_is : e.kind ≡ UnpackingError
  pub no_pdu : e.pdu ≡ None
