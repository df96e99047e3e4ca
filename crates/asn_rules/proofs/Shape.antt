-- The shape that the rows of a table have, so far as due places need it. Of a given table each premise is computed.
use Rattle.std.proofs.Common.{◌≡◌, ℕ, zero, suc, List, [], ◌∷◌, ◌++◌, map, Bool, true, false}
use Rattle.std.specs.Prelude.{nat_eq, ◌&&◌, ◌||◌}
use Rattle.asn_rules.specs.Expression.{Expression, see, marked, seq, choice, many, never, guarded, rule, skip, Sight, bytes, word, one_of, rule_of}
use Rattle.asn_rules.specs.Forms.{literal, any, some, sp}
use Rattle.asn_rules.specs.Due.{Piece, optional, required}
use Rattle.asn_rules.specs.declared.names.TheConstants.{ASN_MODULE, ASN_SPEC, MODULE_REFERENCE, SP}
use Rattle.asn_rules.proofs.Total.{checked, takes_byte}

-- ---- expressions that never fail, and that begin with blanks

abbrev pub is_nothing : Sight → Bool
is_nothing (bytes []) = true
is_nothing (bytes (b ∷ bs)) = false
is_nothing (word w) = false
is_nothing (one_of c) = false

-- it never fails, where these rules never do
abbrev pub ends_by : (ℕ → Bool) → Expression → Bool
ends_by f (see s) = is_nothing s
ends_by f (marked m s) = false
ends_by f (seq a b) = ends_by f a && ends_by f b
ends_by f (choice a b) = ends_by f b
ends_by f (many a) = true
ends_by f (never a) = false
ends_by f (guarded a g) = false
ends_by f (rule r) = f r
ends_by f (skip r) = f r

-- the rule never fails, as so many levels of its calls show
abbrev pub row_ends : List Expression → ℕ → ℕ → Bool
row_ends rules zero r = false
row_ends rules (suc n) r = ends_by (row_ends rules n) (rule_of rules r)

abbrev pub is_blanks : Expression → Bool
is_blanks (rule r) = nat_eq r SP
is_blanks (skip r) = nat_eq r SP
is_blanks (see s) = false
is_blanks (marked m s) = false
is_blanks (seq a b) = false
is_blanks (choice a b) = false
is_blanks (many a) = false
is_blanks (never a) = false
is_blanks (guarded a g) = false

-- it begins with blanks and comments and takes a byte behind them, where these rules do
abbrev pub begins_by : List Bool → (ℕ → Bool) → Expression → Bool
begins_by t f (see s) = false
begins_by t f (marked m s) = false
begins_by t f (seq a b) = (is_blanks a && takes_byte t b) || begins_by t f a
begins_by t f (choice a b) = begins_by t f a && begins_by t f b
begins_by t f (many a) = false
begins_by t f (never a) = false
begins_by t f (guarded a g) = begins_by t f a
begins_by t f (rule r) = f r
begins_by t f (skip r) = f r

abbrev pub row_begins : List Expression → List Bool → ℕ → ℕ → Bool
row_begins rules t zero r = false
row_begins rules t (suc n) r = begins_by t (row_begins rules t n) (rule_of rules r)

-- ---- pieces

abbrev pub expression_of : Piece → Expression
expression_of (optional e) = e
expression_of (required p e) = e

-- one expression behind the other
abbrev pub in_sequence : List Expression → Expression
in_sequence [] = literal []
in_sequence (e ∷ []) = e
in_sequence (e ∷ f ∷ es) = seq e (in_sequence (f ∷ es))

-- What may stand never fails; a part that each module has begins with blanks and comments, and takes a byte.
abbrev pub is_fit : List Expression → List Bool → Piece → Bool
is_fit rules t (optional e) = ends_by (row_ends rules 3) e
is_fit rules t (required p e) = begins_by t (row_begins rules t 3) e && takes_byte t e

abbrev pub are_fit : List Expression → List Bool → List Piece → Bool
are_fit rules t [] = true
are_fit rules t (p ∷ ps) = is_fit rules t p && are_fit rules t ps

abbrev pub begins_with_part : List Piece → Bool
begins_with_part (required p e ∷ ps) = true
begins_with_part (optional e ∷ ps) = false
begins_with_part [] = false

-- The rows of headers, modules and whole texts are made of these pieces, and of no others.
pub record IsOfModules (rules : List Expression) (header body : List Piece) : Type 0 where
  -- which rules take a byte, and the ranks of all
  pub takes : List Bool
  pub ranks : List ℕ
  pub ranked : checked takes ranks rules takes ranks ≡ true
  pub header_row : rule_of rules MODULE_REFERENCE ≡ in_sequence (map expression_of header)
  pub module_row : rule_of rules ASN_MODULE ≡ seq (rule MODULE_REFERENCE) (in_sequence (map expression_of body))
  pub text_row : rule_of rules ASN_SPEC ≡ seq (some (rule ASN_MODULE)) (seq sp (never any))
  -- blanks and comments never fail, and a module takes a byte
  pub blanks_end : row_ends rules 1 SP ≡ true
  pub module_takes : takes_byte takes (rule ASN_MODULE) ≡ true
  pub fit : are_fit rules takes (header ++ body) ≡ true
  pub first_is_part : begins_with_part (header ++ body) ≡ true
