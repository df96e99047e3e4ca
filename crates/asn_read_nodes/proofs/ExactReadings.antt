-- What lies between two characters is replaced nowhere.
use Rattle.std.proofs.Common.{◌≡◌, ℕ, ◌≤◌, List, [], ◌∷◌, Bool, true, false, Option, Some, None, refl, ap, subst, ◌∙◌, arith}
use Rattle.std.specs.Prelude.{nat_eq, cond, encode_utf8_all, slice_range}
use Rattle.std.specs.Str.{IsUtf8, IsCharBoundary, chars}
use Rattle.std.specs.Str.Lossy.{utf8_lossy}
use Rattle.std.proofs.lemmas.Str.{IsUtf8-between, utf8_lossy-IsUtf8}
use Rattle.asn_rules.specs.Children.{AtCharacters, Is, StandsBy}
use Rattle.asn_rules.specs.Nodes.{child_among, child_of, the}
use Rattle.asn_rules.specs.Whole.{whole_rules}
use Rattle.asn_rules.specs.declared.names.TheConstants.{QUOTED_BODY, SP, TIME_CHARS}
use Rattle.asn_rules.specs.declared.node.Node.{Node}
use Rattle.asn_rules.specs.declared.node.Node.TheViews.{out-Node}
use Rattle.asn_rules.proofs.Children.{child_inside, child_is}
use Rattle.asn_read_nodes.specs.Parts.{behind_blanks, name_of, of_some, taken}
use Rattle.asn_read_nodes.specs.Strings.{quoted_of, single, time_of}
use Rattle.asn_read_nodes.proofs.Quotes.{single_IsUtf8, single_chars}

-- a child that is found begins and ends between two characters
found_at : (text : List ℕ) (r : ℕ) (ns : List Node) (c : Node) → child_among ns r ≡ Some c → AtCharacters text ns → IsCharBoundary text (out-Node c).start × IsCharBoundary text (out-Node c).end
found_at text r [] c e a = absurd cc
found_at text r (n ∷ ns) c e a = go (nat_eq (out-Node n).rule r) (λ e. found_at text r ns c e a.2) e
  where
    go : (t : Bool) → (child_among ns r ≡ Some c → IsCharBoundary text (out-Node c).start × IsCharBoundary text (out-Node c).end) → cond t (Some n) (child_among ns r) ≡ Some c → IsCharBoundary text (out-Node c).start × IsCharBoundary text (out-Node c).end
    go true f e =
        let same : n ≡ c = cc in
        subst (λ c. IsCharBoundary text (out-Node c).start × IsCharBoundary text (out-Node c).end) same (a.0, a.1)
    go false f e = f e

exact : (text : List ℕ) (i j : ℕ) → IsUtf8 text → i ≤ j → IsCharBoundary text i → IsCharBoundary text j → utf8_lossy (slice_range text i j) ≡ slice_range text i j
exact text i j u le b e = utf8_lossy-IsUtf8 (slice_range text i j) (IsUtf8-between text i j u le b e)

pub name_exact : (text : List ℕ) (n : Node) → IsUtf8 text → StandsBy whole_rules text n → IsCharBoundary text (out-Node n).end → AtCharacters text (out-Node n).children → name_of text n ≡ behind_blanks text n
name_exact text n u is e kids = go (child_of n SP) refl
  where
    go : (o : Option Node) → child_of n SP ≡ o → of_some (the o (λ blanks. Some (slice_range text (out-Node blanks).end (out-Node n).end))) (λ bytes. Some (utf8_lossy bytes)) ≡ the o (λ blanks. Some (slice_range text (out-Node blanks).end (out-Node n).end))
    go None f = refl
    go (Some c) f = ap Some (exact text (out-Node c).end (out-Node n).end u (child_inside whole_rules text n c SP is f).1 (found_at text SP (out-Node n).children c f kids).1 e)

-- the bytes of a child that is found are those of a text
child_text : (text : List ℕ) (n c : Node) (r : ℕ) → IsUtf8 text → StandsBy whole_rules text n → AtCharacters text (out-Node n).children → child_of n r ≡ Some c → IsUtf8 (taken text c)
child_text text n c r u is kids f =
    let here : Is whole_rules text (out-Node n).rule n = record { stands_by = is; rule_is = refl } in
    let at = found_at text r (out-Node n).children c f kids in
    IsUtf8-between text (out-Node c).start (out-Node c).end u (child_is whole_rules text (out-Node n).rule r n c here f).stands_by.in_order at.0 at.1

pub time_exact : (text : List ℕ) (n : Node) → IsUtf8 text → StandsBy whole_rules text n → AtCharacters text (out-Node n).children → time_of text n ≡ the (child_of n TIME_CHARS) (λ chars. Some (taken text chars))
time_exact text n u is kids = go (child_of n TIME_CHARS) refl
  where
    go : (o : Option Node) → child_of n TIME_CHARS ≡ o → the o (λ chars. Some (utf8_lossy (taken text chars))) ≡ the o (λ chars. Some (taken text chars))
    go None f = refl
    go (Some c) f = ap Some (utf8_lossy-IsUtf8 (taken text c) (child_text text n c TIME_CHARS u is kids f))

pub quoted_exact : (text : List ℕ) (n : Node) → IsUtf8 text → StandsBy whole_rules text n → AtCharacters text (out-Node n).children → quoted_of text n ≡ the (child_of n QUOTED_BODY) (λ body. Some (single (taken text body)))
quoted_exact text n u is kids = go (child_of n QUOTED_BODY) refl
  where
    go : (o : Option Node) → child_of n QUOTED_BODY ≡ o → the o (λ body. Some (utf8_lossy (single (taken text body)))) ≡ the o (λ body. Some (single (taken text body)))
    go None f = refl
    go (Some c) f = ap Some (utf8_lossy-IsUtf8 (single (taken text c)) (single_IsUtf8 (taken text c) (child_text text n c QUOTED_BODY u is kids f)))

pub quoted_characters : (text : List ℕ) (n : Node) → IsUtf8 text → StandsBy whole_rules text n → AtCharacters text (out-Node n).children → quoted_of text n ≡ the (child_of n QUOTED_BODY) (λ body. Some (encode_utf8_all (single (chars (taken text body)))))
quoted_characters text n u is kids = quoted_exact text n u is kids ∙ go (child_of n QUOTED_BODY) refl
  where
    go : (o : Option Node) → child_of n QUOTED_BODY ≡ o → the o (λ body. Some (single (taken text body))) ≡ the o (λ body. Some (encode_utf8_all (single (chars (taken text body)))))
    go None f = refl
    go (Some c) f = ap Some (single_chars (taken text c) (child_text text n c QUOTED_BODY u is kids f))
