-- What following a syntax has found of the field that is looked for.
use Rattle.std.specs.Prelude.{ℕ, List, [], ◌∷◌, ◌++◌, Bool, true, false, Option, Some, None}
use Rattle.std.specs.List.{find}
use Rattle.std.specs.Option.{option_map}
use Rattle.std.specs.Str.{bytes_eq}
use Rattle.asn_tree_leaves.specs.declared.objects.SyntaxToken.{SyntaxToken}
use Rattle.asn_tree.specs.declared.objects.InformationObjectField.{InformationObjectField}
use Rattle.asn_tree.specs.declared.objects.SyntaxApplication.{SyntaxApplication}
use Rattle.asn_meaning_heads.specs.declared.following.Walk.{Walk}
use Rattle.asn_meaning_heads.specs.declared.objects.GivenField.{GivenField}
use Rattle.asn_meaning_heads.specs.Objects.{shown_given}
use Rattle.asn_tree_notation.specs.Syntax.{given_name, matches}

-- the fields that an item gives: one or none
abbrev pub shown_fields : Option GivenField → List InformationObjectField
shown_fields None = []
shown_fields (Some field) = shown_given field ∷ []

abbrev pub shown_alone : GivenField → List InformationObjectField
shown_alone field = shown_given field ∷ []

-- what is given where an item may stand
abbrev pub where_it : Bool → List InformationObjectField → Option (List InformationObjectField)
where_it true fields = Some fields
where_it false fields = None

-- the first field of the name
abbrev pub named : List ℕ → List InformationObjectField → Option InformationObjectField
named name fields = find (λ f. bytes_eq (given_name f) name) fields

abbrev pub earlier : Option InformationObjectField → Option InformationObjectField → Option InformationObjectField
earlier (Some field) later = Some field
earlier None later = later

-- the field that was found, where one was, and the items that are left
abbrev pub shown_walk : Walk → Option InformationObjectField × List SyntaxApplication
shown_walk w = (option_map shown_given w.found, w.left.now)

-- where items lead that give these fields and leave these items, behind a field that was found, where one was
abbrev pub walked : List ℕ → Option InformationObjectField → Option (List InformationObjectField × List SyntaxApplication) → Option (Option InformationObjectField × List SyntaxApplication)
walked name found None = None
walked name found (Some (fields, left)) = Some (earlier found (named name fields), left)

-- what was found, where no item is left
abbrev pub ended : Option InformationObjectField × List SyntaxApplication → Option InformationObjectField
ended (found, []) = found
ended (found, item ∷ items) = None

-- whether an item may stand at the first of these tokens; none where there is no token
abbrev pub at_first : List (Bool × SyntaxToken) → List (Bool × SyntaxToken) → SyntaxApplication → Option Bool
at_first [] behind item = None
at_first (token ∷ tokens) behind item = Some (matches item token.1 (token ∷ tokens ++ behind) 0)
