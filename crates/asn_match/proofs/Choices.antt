-- Of two alternatives the one that stands.
use Rattle.std.proofs.Common.{ℕ, ◌≤◌, List, length}
use Rattle.asn_rules.specs.Derives.{takes, turns_to}
use Rattle.asn_rules.specs.Expression.{Expression, choice}
use Rattle.asn_rules.specs.declared.run.Outcome.TheVariants.{End, Fail}
use Rattle.asn_match.specs.Table.{RunsTo}
use Rattle.asn_match.specs.inner.Given.{StandsFor}
use Rattle.asn_match.proofs.Grows.{choice_left, choice_right}

module _ (rules : List Expression) (text : List ℕ) where
  pub stands_left : (a b : Expression) (i k l : ℕ) → i ≤ length text → RunsTo rules text a i (End k l) → StandsFor rules text (choice a b) a i
  stands_left a b i k l le p = record {
    ends_so = λ h j x. choice_left rules text h a b i j k l le x p;
    derives = λ j n d. takes d;
  }

  pub stands_right : (a b : Expression) (i l : ℕ) → i ≤ length text → RunsTo rules text a i (Fail l) → StandsFor rules text (choice a b) b i
  stands_right a b i l le p = record {
    ends_so = λ h j x. choice_right rules text h a b i j l le x p;
    derives = λ j n d. turns_to p d;
  }

  pub stands_behind : (a b one : Expression) (i l : ℕ) → i ≤ length text → RunsTo rules text a i (Fail l) → StandsFor rules text b one i → StandsFor rules text (choice a b) one i
  stands_behind a b one i l le p s = record {
    ends_so = λ h j x. s.ends_so h j (choice_right rules text h a b i j l le x p);
    derives = λ j n d. turns_to p (s.derives j n d);
  }
