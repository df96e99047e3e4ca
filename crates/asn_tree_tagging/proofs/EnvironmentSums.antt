-- Tagging environments that are added.
use Rattle.std.proofs.Common.{◌≡◌, refl}
use Rattle.asn_tree_headers.specs.declared.headers.TaggingEnvironment.{TaggingEnvironment}
use Rattle.asn_tree_headers.specs.declared.headers.TaggingEnvironment.TheVariants.{Automatic, Implicit, Explicit}
use Rattle.asn_tree_headers.specs.Environments.{added}
use Rattle.asn_tree_tagging.specs.Laws.{EnvironmentsAddUp}

associative : (a b c : TaggingEnvironment) → added (added a b) c ≡ added a (added b c)
associative a b Automatic = refl
associative a b Implicit = refl
associative a b Explicit = refl

before : (a : TaggingEnvironment) → added Automatic a ≡ a
before Automatic = refl
before Implicit = refl
before Explicit = refl

-- the last of two that tells something stands
pub add_up : EnvironmentsAddUp
add_up = record { is_associative = associative; nothing_before = before; nothing_behind = λ a. refl }
