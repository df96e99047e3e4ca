-- The items of an enumeration, as the code finds them.
use Rattle.std.proofs.Common.{◌≡◌, ℕ, ◌<◌, List, [], ◌∷◌, Bool, true, false, not, Option, ℤ, length, get_or, drop, refl, sym, ap, ◌∙◌, subst, arith, codes}
use Rattle.std.specs.Prelude.{nat_eq, ◌&&◌, ◌||◌, if◌then◌else◌}
use Rattle.std.proofs.lemmas.Bool.Decides.{Decides-eqb, nat_tests}
use Rattle.asn_rules_guards.specs.Lexical.{between, in_class, is_alnum, is_blank, first_in}
use Rattle.asn_rules_guards.specs.declared.asked.ByteClass.TheVariants.{Blank, Letter}
use Rattle.asn_rules_guards.specs.Guards.{Place, within, begins, onward, is_outside, bare}
use Rattle.asn_rules_guards.specs.Outside.{outside_from, starts_bare}
use Rattle.asn_rules_guards.specs.Enumerations.{behind_name, goes_on, in_parentheses, items_from, past_from}
use Rattle.asn_rules_guards.proofs.Bare.{outside_starts, outside_stays, passes_over}

outside_is : (bs : List ℕ) (b : ℕ) (rest : List ℕ) → outside_from (within 0) bs ≡ b ∷ rest → is_outside (within 0) (b ∷ rest) ≡ true
outside_is bs b rest e = subst (λ xs. starts_bare xs ≡ true) e (outside_starts (within 0) bs)

past_over : (mark : ℕ) (bs : List ℕ) → past_from (within 0) mark bs ≡ past_from (within 0) mark (outside_from (within 0) bs)
unfolding past_from
past_over mark bs = passes_over (λ p xs. past_from p mark xs) (λ p. refl) (λ p b more off. ap (λ t. if t && nat_eq b mark then more else past_from (onward p (b ∷ more)) mark more) off) (within 0) bs

pub past_none : (mark : ℕ) (bs : List ℕ) → outside_from (within 0) bs ≡ [] → past_from (within 0) mark bs ≡ []
unfolding past_from
past_none mark bs e = past_over mark bs ∙ ap (past_from (within 0) mark) e

past_byte : (mark : ℕ) (bs : List ℕ) (b : ℕ) (rest : List ℕ) → outside_from (within 0) bs ≡ b ∷ rest → past_from (within 0) mark bs ≡ (if nat_eq b mark then rest else past_from (within 0) mark rest)
unfolding past_from
past_byte mark bs b rest e =
    past_over mark bs
    ∙ ap (past_from (within 0) mark) e
    ∙ ap (λ t. if t && nat_eq b mark then rest else past_from (onward (within 0) (b ∷ rest)) mark rest) (outside_is bs b rest e)
    ∙ ap (λ p. if nat_eq b mark then rest else past_from p mark rest) (outside_stays b rest (outside_is bs b rest e))

pub past_here : (mark : ℕ) (bs : List ℕ) (b : ℕ) (rest : List ℕ) → outside_from (within 0) bs ≡ b ∷ rest → nat_eq b mark ≡ true → past_from (within 0) mark bs ≡ rest
past_here mark bs b rest e t = past_byte mark bs b rest e ∙ ap (λ t. if t then rest else past_from (within 0) mark rest) t

pub past_on : (mark : ℕ) (bs : List ℕ) (b : ℕ) (rest : List ℕ) → outside_from (within 0) bs ≡ b ∷ rest → nat_eq b mark ≡ false → past_from (within 0) mark bs ≡ past_from (within 0) mark rest
past_on mark bs b rest e t = past_byte mark bs b rest e ∙ ap (λ t. if t then rest else past_from (within 0) mark rest) t

-- Names.

abbrev names : ℕ → Bool
names b = is_alnum b || nat_eq b 45

-- one byte of a walk over items, by what it is
step : Place → Bool → List ℕ → Bool → Bool → Bool → Bool → List (Option ℤ)
step next in_name bs out dot letter goes =
    if out && dot then [] else
    if out && letter && not in_name then in_parentheses (bare (behind_name bs)) ∷ items_from next true bs else
    items_from next (in_name && goes) bs

stepped : (p : Place) (in_name : Bool) (b : ℕ) (bs : List ℕ) → items_from p in_name (b ∷ bs) ≡ step (onward p (b ∷ bs)) in_name bs (is_outside p (b ∷ bs)) (nat_eq b 46) (in_class Letter b) (goes_on p b bs)
unfolding items_from step
stepped p in_name b bs = refl

dot_names_nothing : (b : ℕ) → nat_eq b 46 ≡ true → names b ≡ false
dot_names_nothing b e = ap names ((Decides-eqb b 46).0 e)

letter_names : (b : ℕ) → in_class Letter b ≡ true → names b ≡ true
letter_names b e = go (between 48 57 b) (in_class Letter b) e
  where
    go : (x y : Bool) → y ≡ true → ((x || y) || nat_eq b 45) ≡ true
    go true y e = refl
    go false true e = refl
    go false false e = absurd cc

name_outside : (b : ℕ) (bs : List ℕ) → names b ≡ true → begins (codes "--") (b ∷ bs) ≡ false → is_outside (within 0) (b ∷ bs) ≡ true
name_outside b bs n e = go (begins (codes "--") (b ∷ bs)) (begins (codes "/*") (b ∷ bs)) (is_blank b) e slash blank
  where
    go : (x y z : Bool) → x ≡ false → y ≡ false → z ≡ false → not (x || (y || z)) ≡ true
    go true y z e f g = absurd cc
    go false true z e f g = absurd cc
    go false false true e f g = absurd cc
    go false false false e f g = refl

    differs : (x : Bool) → (x ≡ true → names b ≡ false) → x ≡ false
    differs true f = absurd (let no = f refl in cc)
    differs false f = refl

    slash : begins (codes "/*") (b ∷ bs) ≡ false
    slash = ap (λ t. t && begins (codes "*") bs) (differs (nat_eq 47 b) (λ t. ap names (sym ((Decides-eqb 47 b).0 t))))

    blank : is_blank b ≡ false
    blank = grind (arith, nat_tests, n)

-- what goes on with a name, or does not
name_byte : (b : ℕ) (bs : List ℕ) (out dot letter goes : Bool) → is_outside (within 0) (b ∷ bs) ≡ out → nat_eq b 46 ≡ dot → in_class Letter b ≡ letter → (letter ≡ true → goes ≡ true) → (dot ≡ true → goes ≡ false) → items_from (within 0) true bs ≡ items_from (within 0) false (behind_name bs) → step (onward (within 0) (b ∷ bs)) true bs out dot letter (out && goes) ≡ items_from (within 0) false (if out && goes then behind_name bs else b ∷ bs)
unfolding step
name_byte b bs true dot true true eo ed el l d h = go dot d
  where
    go : (dot : Bool) → (dot ≡ true → true ≡ false) → step (onward (within 0) (b ∷ bs)) true bs true dot true true ≡ items_from (within 0) false (behind_name bs)
    go true d = absurd (let no = d refl in cc)
    go false d = ap (λ p. items_from p true bs) (outside_stays b bs eo) ∙ h
name_byte b bs true dot false true eo ed el l d h = go dot d
  where
    go : (dot : Bool) → (dot ≡ true → true ≡ false) → step (onward (within 0) (b ∷ bs)) true bs true dot false true ≡ items_from (within 0) false (behind_name bs)
    go true d = absurd (let no = d refl in cc)
    go false d = ap (λ p. items_from p true bs) (outside_stays b bs eo) ∙ h
name_byte b bs out dot true false eo ed el l d h = absurd (let no = l refl in cc)
name_byte b bs true dot false false eo ed el l d h = sym (stepped (within 0) false b bs ∙ ap (λ o. step (onward (within 0) (b ∷ bs)) false bs o (nat_eq b 46) (in_class Letter b) (goes_on (within 0) b bs)) eo ∙ ap (λ o. step (onward (within 0) (b ∷ bs)) false bs true o (in_class Letter b) (goes_on (within 0) b bs)) ed ∙ ap (λ o. step (onward (within 0) (b ∷ bs)) false bs true dot o (goes_on (within 0) b bs)) el ∙ go dot)
  where
    go : (dot : Bool) → step (onward (within 0) (b ∷ bs)) false bs true dot false (goes_on (within 0) b bs) ≡ step (onward (within 0) (b ∷ bs)) true bs true dot false false
    go true = refl
    go false = refl
name_byte b bs false dot letter goes eo ed el l d h = sym (stepped (within 0) false b bs ∙ ap (λ o. step (onward (within 0) (b ∷ bs)) false bs o (nat_eq b 46) (in_class Letter b) (goes_on (within 0) b bs)) eo)

-- The items behind the first letter of a name are those behind the name.
pub behind_names : (bs : List ℕ) → items_from (within 0) true bs ≡ items_from (within 0) false (behind_name bs)
unfolding items_from
behind_names [] = refl
behind_names (b ∷ bs) =
    stepped (within 0) true b bs
    ∙ name_byte b bs (is_outside (within 0) (b ∷ bs)) (nat_eq b 46) (in_class Letter b) (names b) refl refl refl (letter_names b) (dot_names_nothing b) (behind_names bs)

-- What the code finds of names.

pub name_done : (bs : List ℕ) → length bs < 1 → behind_name bs ≡ bs
name_done [] lt = refl
name_done (b ∷ bs) lt = absurd (omega arith)

pub name_ends : (bs : List ℕ) (b : ℕ) → 0 < length bs → get_or bs 0 0 ≡ b → names b ≡ false → behind_name bs ≡ bs
name_ends [] b lt s e = refl
name_ends (x ∷ bs) b lt s e = go (is_outside (within 0) (x ∷ bs)) (names x) (ap names s ∙ e)
  where
    go : (o n : Bool) → n ≡ false → (if o && n then behind_name bs else x ∷ bs) ≡ x ∷ bs
    go true true e = absurd cc
    go true false e = refl
    go false n e = refl

pub comment_ends : (bs : List ℕ) → begins (codes "--") bs ≡ true → behind_name bs ≡ bs
comment_ends [] e = refl
comment_ends (x ∷ bs) e = ap (λ t. if not (t || (begins (codes "/*") (x ∷ bs) || first_in Blank (x ∷ bs))) && names x then behind_name bs else x ∷ bs) e

pub name_on : (bs : List ℕ) (b : ℕ) → 0 < length bs → get_or bs 0 0 ≡ b → names b ≡ true → begins (codes "--") bs ≡ false → behind_name bs ≡ behind_name (drop 1 bs)
name_on [] b lt s n e = refl
name_on (x ∷ bs) b lt s n e =
    let here : names x ≡ true = ap names s ∙ n in
    ap (λ o. if o && names x then behind_name bs else x ∷ bs) (name_outside x bs here e) ∙ ap (λ n. if n then behind_name bs else x ∷ bs) here

-- Items.

items_over : (bs : List ℕ) → items_from (within 0) false bs ≡ items_from (within 0) false (outside_from (within 0) bs)
unfolding items_from step
items_over bs =
    passes_over (λ p xs. items_from p false xs) (λ p. refl)
    (λ p b more off. stepped p false b more ∙ ap (λ t. step (onward p (b ∷ more)) false more t (nat_eq b 46) (in_class Letter b) (goes_on p b more)) off ∙ skipped (onward p (b ∷ more)) more (nat_eq b 46) (in_class Letter b) (goes_on p b more))
    (within 0) bs
  where
    skipped : (p : Place) (more : List ℕ) (dot letter goes : Bool) → step p false more false dot letter goes ≡ items_from p false more
    skipped p more dot letter goes = refl

pub items_none : (bs : List ℕ) → outside_from (within 0) bs ≡ [] → items_from (within 0) false bs ≡ []
unfolding items_from
items_none bs e = items_over bs ∙ ap (items_from (within 0) false) e

item_byte : (bs : List ℕ) (b : ℕ) (rest : List ℕ) (dot letter : Bool) → outside_from (within 0) bs ≡ b ∷ rest → nat_eq b 46 ≡ dot → in_class Letter b ≡ letter → items_from (within 0) false bs ≡ step (within 0) false rest true dot letter (goes_on (within 0) b rest)
item_byte bs b rest dot letter e ed el =
    items_over bs
    ∙ ap (items_from (within 0) false) e
    ∙ stepped (within 0) false b rest
    ∙ ap (λ p. step p false rest (is_outside (within 0) (b ∷ rest)) (nat_eq b 46) (in_class Letter b) (goes_on (within 0) b rest)) (outside_stays b rest (outside_is bs b rest e))
    ∙ ap (λ t. step (within 0) false rest t (nat_eq b 46) (in_class Letter b) (goes_on (within 0) b rest)) (outside_is bs b rest e)
    ∙ ap (λ t. step (within 0) false rest true t (in_class Letter b) (goes_on (within 0) b rest)) ed
    ∙ ap (λ t. step (within 0) false rest true dot t (goes_on (within 0) b rest)) el

pub items_end : (bs : List ℕ) (b : ℕ) (rest : List ℕ) → outside_from (within 0) bs ≡ b ∷ rest → nat_eq b 46 ≡ true → items_from (within 0) false bs ≡ []
unfolding step
items_end bs b rest e d = item_byte bs b rest true (in_class Letter b) e d refl

pub item_here : (bs : List ℕ) (b : ℕ) (rest after : List ℕ) → outside_from (within 0) bs ≡ b ∷ rest → nat_eq b 46 ≡ false → in_class Letter b ≡ true → after ≡ behind_name rest → items_from (within 0) false bs ≡ in_parentheses (bare after) ∷ items_from (within 0) false after
unfolding step
item_here bs b rest after e d l s =
    item_byte bs b rest false true e d l
    ∙ ap (λ is. in_parentheses (bare (behind_name rest)) ∷ is) (behind_names rest)
    ∙ ap (λ r. in_parentheses (bare r) ∷ items_from (within 0) false r) (sym s)

pub no_item : (bs : List ℕ) (b : ℕ) (rest : List ℕ) → outside_from (within 0) bs ≡ b ∷ rest → nat_eq b 46 ≡ false → in_class Letter b ≡ false → items_from (within 0) false bs ≡ items_from (within 0) false rest
unfolding step
no_item bs b rest e d l = item_byte bs b rest false false e d l
