-- Where items of an object lead that follow a syntax, behind fields that were given before.
use Rattle.std.specs.Prelude.{List, [], ◌∷◌, ◌++◌, true, Option, Some, None, codes}
use Rattle.asn_tree_leaves.specs.declared.objects.ObjectFieldIdentifier.TheVariants.{SingleValue, MultipleValue}
use Rattle.asn_tree_leaves.specs.declared.objects.SyntaxToken.TheVariants.{Literal, Field}
use Rattle.asn_tree.specs.declared.objects.InformationObjectField.{InformationObjectField}
use Rattle.asn_tree.specs.declared.objects.SyntaxApplication.{SyntaxApplication}
use Rattle.asn_meaning_fields.specs.declared.walks.Walk.{Walk}
use Rattle.asn_meaning_fields.specs.Given.{shown_given_fields}
use Rattle.asn_meaning.specs.Answers.{once}
use Rattle.asn_meaning.specs.Objects.{take_item}

-- the fields that were given, and the items that are left
abbrev pub shown_walk : Walk → List InformationObjectField × List SyntaxApplication
shown_walk w = (shown_given_fields w.fields, w.left.now)

-- where items lead that give these fields and leave these items
abbrev pub walked : List InformationObjectField → Option (List InformationObjectField × List SyntaxApplication) → Option (List InformationObjectField × List SyntaxApplication)
walked before None = None
walked before (Some (fields, left)) = Some (before ++ fields, left)

-- the tokens of the built-in class in order, from the last back to all (X.681 A.2)
abbrev pub identifier_walked : List InformationObjectField → List SyntaxApplication → Option (List InformationObjectField × List SyntaxApplication)
identifier_walked before items = walked before (take_item (Field (SingleValue (codes "&id"))) [] items)

abbrev pub by_walked : List InformationObjectField → List SyntaxApplication → Option (List InformationObjectField × List SyntaxApplication)
by_walked before items = once None (walked before (take_item (Literal (codes "BY")) [] items)) (λ w. identifier_walked w.0 w.1)

abbrev pub identified_walked : List InformationObjectField → List SyntaxApplication → Option (List InformationObjectField × List SyntaxApplication)
identified_walked before items = once None (walked before (take_item (Literal (codes "IDENTIFIED")) [] items)) (λ w. by_walked w.0 w.1)

abbrev pub built_in_walked : List InformationObjectField → List SyntaxApplication → Option (List InformationObjectField × List SyntaxApplication)
built_in_walked before items =
    once None (walked before (take_item (Field (MultipleValue (codes "&Type"))) ((true, Literal (codes "IDENTIFIED")) ∷ []) items)) (λ w. identified_walked w.0 w.1)
