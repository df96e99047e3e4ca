-- What linking makes of definitions.
use Rattle.std.specs.Prelude.{ℕ, List, [], ◌∷◌, false, Option, Some, None, if◌then◌else◌}
use Rattle.asn_tree_headers.specs.declared.headers.AsnTag.{AsnTag}
use Rattle.asn_tree.specs.declared.definitions.Parameterization.{Parameterization}
use Rattle.asn_tree.specs.declared.definitions.ToplevelDefinition.{ToplevelDefinition}
use Rattle.asn_tree.specs.declared.definitions.ToplevelDefinition.TheVariants.{TypeDef, Value, Information}
use Rattle.asn_tree.specs.declared.definitions.ToplevelTypeDefinition.{ToplevelTypeDefinition}
use Rattle.asn_tree.specs.declared.types.ASN1Type.{ASN1Type}
use Rattle.asn_meaning.specs.Answers.{once}
use Rattle.asn_meaning.specs.Judge.{meaning}
use Rattle.asn_meaning.specs.Scopes.{Empty}
use Rattle.asn_meaning_unchanged.specs.Unchanged.{is_unchanged}
use Rattle.asn_names_index.specs.Definitions.{Definitions}
use Rattle.asn_link_all.specs.declared.ways.Way.{Way}
use Rattle.asn_link_all.specs.declared.ways.Way.TheVariants.{Whole, InCircles, AsRead}
use Rattle.asn_link_instance.specs.Closed.{every_name}
use Rattle.asn_link_instance.specs.Instance.{instance, placed_tag}
use Rattle.asn_link_instance.specs.Literals.{literals}

-- the instance of a definition's type, in which every name may stay
abbrev pub instance_of : Definitions → ℕ → ℕ → ToplevelTypeDefinition → Option ASN1Type
instance_of defs n k d = (instance (literals every_name) defs n k).of_type false Empty d.ty

-- the tag that stands before it: the written one, else the one that the type brings to its place
abbrev pub tag_of : Definitions → ℕ → ℕ → ToplevelTypeDefinition → Option (Option AsnTag)
tag_of defs n k d = placed_tag (literals every_name) defs (meaning defs n) (instance (literals every_name) defs n k) Empty d.tag d.ty

-- the instance, where its tag is told too
abbrev pub tagged_instance : Definitions → ℕ → ℕ → ToplevelTypeDefinition → Option ASN1Type
tagged_instance defs n k d = once None (tag_of defs n k d) (λ tag. instance_of defs n k d)

-- of a template there is none
abbrev pub unless_template : Option Parameterization → Option ASN1Type → Option ASN1Type
unless_template None made = made
unless_template (Some p) made = None

-- what linking makes of a definition that it does not leave as it is
abbrev pub made_of : Definitions → ℕ → ℕ → ToplevelDefinition → Option ASN1Type
made_of defs n k (TypeDef d) = unless_template d.parameterization (tagged_instance defs n k d)
made_of defs n k (Value d) = None
made_of defs n k (Information d) = None

-- the type as it stands
abbrev pub own_type : ToplevelDefinition → Option ASN1Type
own_type (TypeDef d) = Some d.ty
own_type (Value d) = None
own_type (Information d) = None

-- the instance within these steps and levels, or within as many of both as `c`; of what is given as read nothing is made
abbrev pub made_by : Definitions → ℕ → ℕ → ℕ → ToplevelDefinition → Way → Option ASN1Type
made_by defs n k c d Whole = made_of defs n k d
made_by defs n k c d InCircles = made_of defs c c d
made_by defs n k c d AsRead = None

-- A definition that linking leaves as it is keeps its type; of any other its instance is made as it is linked.
abbrev pub made_where : Definitions → ℕ → ℕ → ℕ → ToplevelDefinition → Way → Option ASN1Type
made_where defs n k c d way = if is_unchanged d then own_type d else made_by defs n k c d way

-- of each in its turn
abbrev pub made_each : Definitions → ℕ → ℕ → ℕ → Definitions → List Way → List (Option ASN1Type)
made_each defs n k c [] ways = []
made_each defs n k c (d ∷ ds) [] = []
made_each defs n k c (d ∷ ds) (way ∷ ways) = made_where defs n k c d way ∷ made_each defs n k c ds ways

-- ---- tags

-- the tag that a definition of a type gets; where none is told it keeps its own
abbrev pub new_tag : Definitions → ℕ → ℕ → ToplevelDefinition → Option AsnTag
new_tag defs n k (TypeDef d) = once d.tag (tag_of defs n k d) (λ tag. tag)
new_tag defs n k (Value d) = None
new_tag defs n k (Information d) = None

abbrev pub own_tag : ToplevelDefinition → Option AsnTag
own_tag (TypeDef d) = d.tag
own_tag (Value d) = None
own_tag (Information d) = None

-- the tag that is told within the steps and levels that the instance is made within
abbrev pub tag_by : Definitions → ℕ → ℕ → ℕ → ToplevelDefinition → Way → Option AsnTag
tag_by defs n k c d Whole = new_tag defs n k d
tag_by defs n k c d InCircles = new_tag defs c c d
tag_by defs n k c d AsRead = own_tag d

-- one that linking leaves as it is keeps its tag
abbrev pub tag_where : Definitions → ℕ → ℕ → ℕ → ToplevelDefinition → Way → Option AsnTag
tag_where defs n k c d way = if is_unchanged d then own_tag d else tag_by defs n k c d way

abbrev pub tag_each : Definitions → ℕ → ℕ → ℕ → Definitions → List Way → List (Option AsnTag)
tag_each defs n k c [] ways = []
tag_each defs n k c (d ∷ ds) [] = []
tag_each defs n k c (d ∷ ds) (way ∷ ways) = tag_where defs n k c d way ∷ tag_each defs n k c ds ways
