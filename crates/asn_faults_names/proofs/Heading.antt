-- Heads that lack an option, a member, or are of another kind.
use Rattle.std.proofs.Common.{◌≡◌, ℕ, List, Bool, true, false, Option, Some, None, refl, sym, ap, ◌∙◌, if◌then◌else◌}
use Rattle.std.specs.Prelude.{not, is_none, is_some}
use Rattle.asn_meaning.specs.Answers.{once}
use Rattle.asn_meaning.specs.Layers.{StructLayer}
use Rattle.asn_meaning.specs.Meaning.{Meaning, Member}
use Rattle.asn_meaning.specs.Members.{member_named, members_of, struct_of}
use Rattle.asn_meaning.specs.Names.{option_named, options_of}
use Rattle.asn_meaning.specs.Scopes.{Place}
use Rattle.asn_needs.specs.Missing.{lists_unknown}

pub is_none_at_none : {A : Type 0} (o : Option A) → o ≡ None → is_none o ≡ true
is_none_at_none o e = ap is_none e

pub is_none_at_some : {A : Type 0} (o : Option A) (x : A) → o ≡ Some x → is_none o ≡ false
is_none_at_some o x e = ap is_none e

pub no_struct : (head : Place) (b : Bool) → b ≡ is_some (struct_of head) → not b ≡ is_none (struct_of head)
no_struct head b e = ap not e ∙ go (struct_of head)
  where
    go : (o : Option StructLayer) → not (is_some o) ≡ is_none o
    go None = refl
    go (Some x) = refl

-- ---- members

pub no_members : (M : Meaning) (head : Place) (name : List ℕ) → members_of M head ≡ None → once false (members_of M head) (λ ms. is_none (member_named ms name)) ≡ false
no_members M head name e = ap (λ o. once false o (λ ms. is_none (member_named ms name))) e

pub members_known : (M : Meaning) (head : Place) (name : List ℕ) (ms : List Member) → members_of M head ≡ Some ms →
    once false (members_of M head) (λ xs. is_none (member_named xs name)) ≡ is_none (member_named ms name)
members_known M head name ms e = ap (λ o. once false o (λ xs. is_none (member_named xs name))) e

-- what is unknown of a head, by whether it is a SEQUENCE or SET
abbrev unknown_by : Meaning → Place → List ℕ → Bool → Bool
unknown_by M head name b = if b then once false (members_of M head) (λ ms. is_none (member_named ms name)) else is_none (option_named (options_of head) name)

pub unknown_member : (M : Meaning) (head : Place) (name : List ℕ) (b lacks : Bool) → b ≡ is_some (struct_of head) → b ≡ true →
    lacks ≡ once false (members_of M head) (λ ms. is_none (member_named ms name)) → lacks ≡ lists_unknown M head name
unknown_member M head name b lacks e is l = l ∙ sym (ap (unknown_by M head name) (sym e ∙ is))

pub unknown_option : (M : Meaning) (head : Place) (name : List ℕ) (b lacks : Bool) → b ≡ is_some (struct_of head) → b ≡ false →
    lacks ≡ is_none (option_named (options_of head) name) → lacks ≡ lists_unknown M head name
unknown_option M head name b lacks e is l = l ∙ sym (ap (unknown_by M head name) (sym e ∙ is))
