-- Texts one behind the other, with what stands before the first and between.
use Rattle.std.proofs.Common.{◌≡◌, List, [], ◌∷◌, ◌++◌, Bool, true, false, refl, sym, ap, ◌∙◌}
use Rattle.std.specs.Prelude.{codes}
use Rattle.asn_check_listing.specs.Parts.{Letters, either, led, nothing}

pub grouped : (a b c : Letters) → (a ++ b) ++ c ≡ a ++ (b ++ c)
grouped [] b c = refl
grouped (x ∷ a) b c = ap (λ l. x ∷ l) (grouped a b c)

pub nothing_behind : (xs : List Letters) → nothing false xs ≡ false
nothing_behind [] = refl
nothing_behind (x ∷ xs) = refl

pub nothing_both : (first : Bool) (xs ys : List Letters) → nothing first (xs ++ ys) ≡ nothing (nothing first xs) ys
nothing_both first [] ys = refl
nothing_both first (x ∷ xs) ys = sym (nothing_behind ys)

pub led_both : (opening between : Letters) (first : Bool) (xs ys : List Letters) → led opening between first (xs ++ ys) ≡ led opening between first xs ++ led opening between (nothing first xs) ys
led_both opening between first [] ys = refl
led_both opening between first (x ∷ xs) ys =
    let front = either first opening between ++ x in
    ap (λ l. front ++ l) (led_both opening between false xs ys ∙ ap (λ n. led opening between false xs ++ led opening between n ys) (nothing_behind xs))
    ∙ sym (grouped front (led opening between false xs) (led opening between false ys))

-- three runs of texts in braces, one behind the other
pub three_led : (out : Letters) (first none last : Bool) (xs ys zs : List Letters) → none ≡ nothing first xs → last ≡ nothing none ys →
    (out ++ led (codes " { ") (codes ", ") first xs) ++ led (codes " { ") (codes ", ") none ys ++ led (codes " { ") (codes ", ") last zs ≡ out ++ led (codes " { ") (codes ", ") first (xs ++ ys ++ zs)
three_led out first none last xs ys zs e f =
    let text = led (codes " { ") (codes ", ") in
    ap (λ l. l ++ text last zs) (grouped out (text first xs) (text none ys) ∙ ap (λ b. out ++ (text first xs ++ text b ys)) e ∙ ap (λ l. out ++ l) (sym (led_both (codes " { ") (codes ", ") first xs ys)))
    ∙ grouped out (text first (xs ++ ys)) (text last zs)
    ∙ ap (λ b. out ++ (text first (xs ++ ys) ++ text b zs)) (f ∙ ap (λ b. nothing b ys) e ∙ sym (nothing_both first xs ys))
    ∙ ap (λ l. out ++ l) (sym (led_both (codes " { ") (codes ", ") first (xs ++ ys) zs))
