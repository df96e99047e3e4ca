-- The constraints of types that no tree holds.
use Rattle.std.proofs.Common.{◌≡◌, [], ap, ◌∙◌}
use Rattle.std.specs.Option.{option_copied}
use Rattle.asn_tree.specs.declared.types.ASN1Type.TheVariants as type_of_kind
use Rattle.asn_tree_leaves.specs.declared.plain.CharacterStringType.TheVariants.{UTF8String}
use Rattle.asn_meaning_heads.specs.declared.kinds.TypeForm.{TypeForm}
use Rattle.asn_meaning_heads.specs.declared.kinds.TypeForm.TheVariants as form
use Rattle.asn_meaning_heads.specs.Kinds.{shown_type}
use Rattle.asn_meaning.specs.Placed.{listed}
use Rattle.asn_tree_notation.specs.Types.{constraints_at, constraints_of}

pub text_free : (ty : TypeForm) → ty ≡ form.Utf8String → listed (constraints_of (shown_type ty)) ≡ []
text_free ty e = ap (λ t. listed (constraints_of (shown_type t))) e ∙ ap (λ l. listed (constraints_at l)) (type_of_kind.outs-CharacterString (record { constraints = []; ty = UTF8String }))

pub identifier_free : (ty : TypeForm) → ty ≡ form.ObjectIdentifier → listed (constraints_of (shown_type ty)) ≡ []
identifier_free ty e = ap (λ t. listed (constraints_of (shown_type t))) e ∙ ap (λ l. listed (constraints_at l)) (type_of_kind.outs-ObjectIdentifier (record { constraints = [] }))

pub integer_free : (ty : TypeForm) (names : _) → ty ≡ form.Integer names → listed (constraints_of (shown_type ty)) ≡ []
integer_free ty names e =
    ap (λ t. listed (constraints_of (shown_type t))) e
    ∙ ap (λ l. listed (constraints_at l)) (type_of_kind.outs-Integer (record { constraints = []; distinguished_values = option_copied names }))
