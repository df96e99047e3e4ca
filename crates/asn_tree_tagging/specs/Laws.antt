-- Laws of tagging environments.
use Rattle.std.specs.Prelude.{◌≡◌}
use Rattle.asn_tree_headers.specs.declared.headers.TaggingEnvironment.{TaggingEnvironment}
use Rattle.asn_tree_headers.specs.declared.headers.TaggingEnvironment.TheVariants.{Automatic}
use Rattle.asn_tree_headers.specs.Environments.{added}

-- A tagging environment that is added to another: the sums may be taken in any order, and the automatic one adds nothing.
pub record EnvironmentsAddUp : Type 0 where
  pub is_associative : (a b c : TaggingEnvironment) → added (added a b) c ≡ added a (added b c)
  pub nothing_before : (a : TaggingEnvironment) → added Automatic a ≡ a
  pub nothing_behind : (a : TaggingEnvironment) → added a Automatic ≡ a
