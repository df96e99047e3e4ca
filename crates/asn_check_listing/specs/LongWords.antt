-- Words of more than ten letters: each is seen as one thing, since a proof goes through such words letter by letter.
use Rattle.std.specs.Prelude.{codes}
use Rattle.asn_check_listing.specs.Parts.{Letters}

unfoldable pub octet_string_word : Letters
octet_string_word = codes "OCTET STRING"

unfoldable pub generalized_time_word : Letters
generalized_time_word = codes "GeneralizedTime"

unfoldable pub object_identifier_word : Letters
object_identifier_word = codes "OBJECT IDENTIFIER"

unfoldable pub components_of_word : Letters
components_of_word = codes "COMPONENTS OF "

unfoldable pub with_component_word : Letters
with_component_word = codes "WITH COMPONENT"

unfoldable pub with_components_word : Letters
with_components_word = codes "WITH COMPONENTS"

unfoldable pub containing_word : Letters
containing_word = codes "CONTAINING "

unfoldable pub encoded_by_word : Letters
encoded_by_word = codes "ENCODED BY "

unfoldable pub constrained_by_word : Letters
constrained_by_word = codes "CONSTRAINED BY {"

unfoldable pub with_syntax_word : Letters
with_syntax_word = codes " WITH SYNTAX {"
