-- The syntax in which a class's objects are written (X.681 10.5).
use Rattle.std.specs.Prelude.{ℕ, List, map, Option, Some}
use Rattle.asn_rules.specs.declared.names.TheConstants.{MARK_COMMA, OBJECT_FIELD_IDENTIFIER, SYNTAX_GROUP, SYNTAX_ITEM, SYNTAX_LITERAL}
use Rattle.asn_rules.specs.declared.node.Node.{Node}
use Rattle.asn_rules.specs.Nodes.{Opened, para, at_child, child_among, made, made_all, the}
use Rattle.asn_tree_leaves.specs.declared.objects.InformationObjectSyntax.{InformationObjectSyntax}
use Rattle.asn_tree_leaves.specs.declared.objects.SyntaxExpression.{SyntaxExpression}
use Rattle.asn_tree_leaves.specs.declared.objects.SyntaxExpression.TheVariants.{Optional, Required}
use Rattle.asn_tree_leaves.specs.declared.objects.SyntaxToken.{SyntaxToken}
use Rattle.asn_tree_leaves.specs.declared.objects.SyntaxToken.TheVariants.{Comma, Field, Literal}
use Rattle.asn_read_nodes.specs.Parts.{all_some, of_some}
use Rattle.asn_read_pieces.specs.Fields.{capitals_of, field_of}

-- a token: a word in capitals, the name of a field, or a comma
abbrev pub token_among : List ℕ → List Node → Option SyntaxToken
token_among text ns =
    at_child (child_among ns SYNTAX_LITERAL) (at_child (child_among ns OBJECT_FIELD_IDENTIFIER) (the (child_among ns MARK_COMMA) (λ comma. Some Comma)) (λ field. of_some (field_of text field) (λ name. Some (Field name)))) (λ word. of_some (capitals_of text word) (λ w. Some (Literal w)))

-- What a node is as a part of a syntax, and what parts stand in it.
pub record Parsed : Type 0 where
  pub part : Option SyntaxExpression
  pub parts : Option (List SyntaxExpression)

abbrev pub nodes : List (Node × Parsed) → List Node
nodes cs = map (λ c. c.0) cs

abbrev pub required_with : Option SyntaxToken → Option SyntaxExpression
required_with token = of_some token (λ token. Some (Required token))

abbrev pub optional_with : Option (List SyntaxExpression) → Option SyntaxExpression
optional_with parts = of_some parts (λ parts. Some (Optional parts))

abbrev pub parsed_step : List ℕ → Opened Parsed → Parsed
parsed_step text x =
    record {
      part = made x.children SYNTAX_GROUP (required_with (token_among text (nodes x.children))) (λ group. optional_with group.parts);
      parts = all_some (made_all x.children SYNTAX_ITEM (λ item. item.part));
    }

abbrev pub parsed : List ℕ → Node → Parsed
parsed text = para Parsed (parsed_step text)

-- A part: a group in brackets, which may be left out (X.681 10.5), or a token, which stands in each object.
abbrev pub part_of : List ℕ → Node → Option SyntaxExpression
part_of text n = (parsed text n).part

-- the parts in brackets or braces, in order
abbrev pub parts_of : List ℕ → Node → Option (List SyntaxExpression)
parts_of text n = (parsed text n).parts

abbrev pub syntax_of : List ℕ → Node → Option InformationObjectSyntax
syntax_of text n = of_some (parts_of text n) (λ parts. Some (record { expressions = parts }))
