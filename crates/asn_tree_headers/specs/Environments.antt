-- The sum of tagging environments.
use Rattle.asn_tree_headers.specs.declared.headers.TaggingEnvironment.{TaggingEnvironment}
use Rattle.asn_tree_headers.specs.declared.headers.TaggingEnvironment.TheVariants.{Automatic, Implicit, Explicit}

-- A tag's own environment stands, unless it is automatic: then the module's does (X.680 31.2.7).
abbrev pub added : TaggingEnvironment → TaggingEnvironment → TaggingEnvironment
added home Automatic = home
added home Implicit = Implicit
added home Explicit = Explicit
