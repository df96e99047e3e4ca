-- Doubled quotes made single among the bytes of a text are doubled quotes made single among its characters.
use Rattle.std.proofs.Common.{◌≡◌, ℕ, suc, ◌<◌, ◌≤◌, Bool, true, false, cond, ◌&&◌, List, [], ◌∷◌, ◌++◌, length, get_or, IsUtf8, inl, inr, refl, sym, ap, ap₂, ◌∙◌, arith, append-nil}
use Rattle.std.specs.Prelude.{nat_eq, encode_utf8_all}
use Rattle.std.specs.Str.{chars}
use Rattle.std.proofs.lemmas.Bool.{and_parts, cases_lt}
use Rattle.std.proofs.lemmas.Str.{encode_ascii, encodes-chars, inside_one, length-encode, len_utf8_bounds}
use lib.Utf8.{scalar, scalars, encode, encodes}
use Rattle.asn_read_nodes.specs.Strings.{single, single_from}

no_quote : (b : ℕ) → 128 ≤ b → nat_eq b 34 ≡ false
no_quote b high = grind arith

-- a byte that is no quote is kept, and nothing is held behind it
other : (held : Bool) (b : ℕ) (bs : List ℕ) → 128 ≤ b → single_from held (b ∷ bs) ≡ b ∷ single_from false bs
other held b bs high = go held (nat_eq b 34) (no_quote b high)
  where
    go : (held t : Bool) → t ≡ false → cond (held && t) (single_from false bs) (b ∷ single_from t bs) ≡ b ∷ single_from false bs
    go true t e = rw e refl
    go false t e = rw e refl

others : (held : Bool) (b : ℕ) (bs more : List ℕ) → ((k : ℕ) → k < length (b ∷ bs) → 128 ≤ get_or (b ∷ bs) k 0) → single_from held ((b ∷ bs) ++ more) ≡ (b ∷ bs) ++ single_from false more
others held b [] more high = other held b more (high 0 (omega arith))
others held b (next ∷ bs) more high = other held b ((next ∷ bs) ++ more) (high 0 (omega arith)) ∙ ap (λ l. b ∷ l) (others false next bs more (λ k below. high (suc k) (omega arith)))

high_bytes : (c : ℕ) → 128 ≤ c → (k : ℕ) → k < length (encode c) → 128 ≤ get_or (encode c) k 0
high_bytes c big k below = elim (cases_lt (get_or (encode c) k 0) 128) [
  | inl low ↦ absurd (omega (arith, inside_one c [] (encode c) k (sym (append-nil _)) below low))
  | inr h ↦ h
]

-- a character that is not of ASCII is kept
character : (held : Bool) (c : ℕ) (more : List ℕ) → 128 ≤ c → single_from held (encode c ++ more) ≡ encode c ++ single_from false more
character held c more big = go (encode c) refl (high_bytes c big)
  where
    go : (bs : List ℕ) → encode c ≡ bs → ((k : ℕ) → k < length bs → 128 ≤ get_or bs k 0) → single_from held (bs ++ more) ≡ bs ++ single_from false more
    go [] e high = absurd (omega (arith, ap length e, length-encode c, (len_utf8_bounds c).0))
    go (b ∷ bs) e high = others held b bs more high

ascii : (c : ℕ) (more : List ℕ) → c < 128 → encode c ++ more ≡ c ∷ more
ascii c more small = ap (λ l. l ++ more) (encode_ascii c small)

single_encodes : (held : Bool) (cs : List ℕ) → single_from held (encodes cs) ≡ encodes (single_from held cs)
single_encodes held [] = refl
single_encodes held (c ∷ cs) = elim (cases_lt c 128) [
  | inl small ↦ ap (single_from held) (ascii c (encodes cs) small) ∙ go c cs (held && nat_eq c 34) (single_encodes false cs) (ap (λ l. c ∷ l) (single_encodes (nat_eq c 34) cs) ∙ sym (ascii c _ small))
  | inr big ↦ character held c (encodes cs) big ∙ ap (λ l. encode c ++ l) (single_encodes false cs) ∙ ap encodes (sym (other held c cs big))
]
  where
    go : (c : ℕ) (cs : List ℕ) (t : Bool) → single_from false (encodes cs) ≡ encodes (single_from false cs) → c ∷ single_from (nat_eq c 34) (encodes cs) ≡ encode c ++ encodes (single_from (nat_eq c 34) cs) → cond t (single_from false (encodes cs)) (c ∷ single_from (nat_eq c 34) (encodes cs)) ≡ encodes (cond t (single_from false cs) (c ∷ single_from (nat_eq c 34) cs))
    go c cs true e f = e
    go c cs false e f = f

single_scalars : (held : Bool) (cs : List ℕ) → scalars cs ≡ true → scalars (single_from held cs) ≡ true
single_scalars held [] s = refl
single_scalars held (c ∷ cs) s =
    let p = and_parts (scalar c) (scalars cs) s in
    go c cs (held && nat_eq c 34) (single_scalars false cs p.1) (ap₂ (λ (x y : Bool). x && y) p.0 (single_scalars (nat_eq c 34) cs p.1))
  where
    go : (c : ℕ) (cs : List ℕ) (t : Bool) → scalars (single_from false cs) ≡ true → (scalar c && scalars (single_from (nat_eq c 34) cs)) ≡ true → scalars (cond t (single_from false cs) (c ∷ single_from (nat_eq c 34) cs)) ≡ true
    go c cs true e f = e
    go c cs false e f = f

pub single_IsUtf8 : (bs : List ℕ) → IsUtf8 bs → IsUtf8 (single bs)
single_IsUtf8 bs u = (single u.0, (single_scalars false u.0 u.1.0, sym (single_encodes false u.0) ∙ ap single u.1.1))

pub single_chars : (bs : List ℕ) → IsUtf8 bs → single bs ≡ encode_utf8_all (single (chars bs))
single_chars bs u = ap single (sym (encodes-chars bs u)) ∙ single_encodes false (chars bs)
