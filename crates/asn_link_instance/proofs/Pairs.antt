-- What one side knows the other knows, by either way.
use Rattle.std.proofs.Common.{Bool, List, None, Option, Some, [], ap, false, refl, subst, sym, true, ℤ, ◌∷◌, ◌≡◌}
use Rattle.std.specs.Prelude.{if◌then◌else◌}
use Rattle.asn_meaning.specs.Answers.{Answer, Denotation, Denoted, No, Nothing, Refines, Settles, Unknown, Unsure, Within, Yes, both, each, once, unless_all}
use Rattle.asn_meaning.specs.Constraints.{compared, range_holds, side_holds}
use Rattle.asn_meaning.specs.Meaning.{CharactersOf, ValuesOf}
use Rattle.asn_meaning.specs.Numbers.{Joining, Numbers, answers, every_number, lifted, number_sets}
use Rattle.asn_meaning.specs.Ranges.{beside, number_denoted, one_character, parent_end, whole_number}
use Rattle.asn_meaning.specs.Scopes.{Place}
use Rattle.asn_meaning.specs.Shapes.{trees_judged}
use Rattle.asn_meaning.specs.ValueTrees.{ValueTree, ValueTrees, no_tree, tree}
use Rattle.asn_meaning.proofs.Answering.{both_refines, both_yes, once_refines, same_refines, same_within}
use Rattle.asn_meaning.proofs.Chains.{Keeps}
use Rattle.asn_meaning.proofs.MoreRanges.{answers_keep, beside_within, character_settles, lifted_within, number_denoted_within, number_sets_keep, parent_end_within, whole_settles}
use Rattle.asn_link_instance.specs.Ways.{Back, Forth, Known, Refined, Settled, Way}

-- ---- answers

pub same_refined : (way : Way) (a : Answer) → Refined way a a
same_refined Forth a = same_refines a
same_refined Back a = same_refines a

pub equal_refined : (way : Way) (a b : Answer) → b ≡ a → Refined way a b
equal_refined way a b e = subst (λ z. Refined way a z) (sym e) (same_refined way a)

pub refined_yes : (way : Way) (a b : Answer) → Refined way a b → Refined way a (both b Yes)
refined_yes way a b p = subst (λ z. Refined way a z) (sym (both_yes b)) p

pub both_refined : (way : Way) (a c b d : Answer) → Refined way a c → Refined way b d → Refined way (both a b) (both c d)
both_refined Forth a c b d p q = both_refines a c b d p q
both_refined Back a c b d p q = both_refines c a d b p q

pub given_refined : {A : Type 0} (way : Way) (u : Answer) (a : Option A) (f g : A → Answer) → ((x : A) → Refined way (f x) (g x)) → Refined way (once u a f) (once u a g)
given_refined way u None f g h = same_refined way u
given_refined way u (Some x) f g h = h x

pub each_refined : {A : Type 0} (way : Way) (f g : A → Answer) → ((x : A) → Refined way (f x) (g x)) → (xs : List A) → Refined way (each f xs) (each g xs)
each_refined way f g h [] = same_refined way Yes
each_refined way f g h (x ∷ xs) = both_refined way _ _ _ _ (h x) (each_refined way f g h xs)

pub trees_refined : (way : Way) (f g : ValueTree → Answer) → ((t : ValueTree) → Refined way (f t) (g t)) → (ts : ValueTrees) → Refined way (trees_judged f ts) (trees_judged g ts)
trees_refined way f g h no_tree = same_refined way Yes
trees_refined way f g h (tree t ts) = both_refined way _ _ _ _ (h t) (trees_refined way f g h ts)

unless_at : (a b x y : Answer) → Refines a b → (a ≡ No → b ≡ No → Refines x y) → Refines (unless_all Yes Unknown a x) (unless_all Yes Unknown b y)
unless_at Yes b x y p q = ap (λ z. unless_all Yes Unknown z y) p
unless_at No b x y p q = subst (λ z. Refines x (unless_all Yes Unknown z y)) (sym p) (q refl p)
unless_at Unknown b x y p q = tt

-- where neither is ALL, what is said of the trees that are denoted
pub unless_refined : (way : Way) (a b x y : Answer) → Refined way a b → (a ≡ No → b ≡ No → Refined way x y) → Refined way (unless_all Yes Unknown a x) (unless_all Yes Unknown b y)
unless_refined Forth a b x y p q = unless_at a b x y p q
unless_refined Back a b x y p q = unless_at b a y x p (λ e f. q f e)

-- the same condition on both sides
pub if_refined : (way : Way) (a b : Bool) (x y u v : Answer) → b ≡ a → Refined way x y → Refined way u v → Refined way (if a then x else u) (if b then y else v)
if_refined way a b x y u v e p q = subst (λ z. Refined way (if a then x else u) (if z then y else v)) (sym e) (at a)
  where
    at : (a : Bool) → Refined way (if a then x else u) (if a then y else v)
    at true = p
    at false = q

-- ---- what is found

pub same_known : {A : Type 0} (way : Way) (a : Option A) → Known way a a
same_known Forth a = same_within a
same_known Back a = same_within a

pub equal_known : {A : Type 0} (way : Way) (a b : Option A) → b ≡ a → Known way a b
equal_known way a b e = subst (λ z. Known way a z) (sym e) (same_known way a)

pub lifted_known : (way : Way) (f : Numbers → Numbers → Numbers) (a c b d : Option Numbers) → Known way a c → Known way b d → Known way (lifted f a b) (lifted f c d)
lifted_known Forth f a c b d p q = lifted_within f a c b d p q
lifted_known Back f a c b d p q = lifted_within f c a d b p q

pub if_known : (way : Way) (a b : Bool) (x y u v : Option Numbers) → b ≡ a → Known way x y → Known way u v → Known way (if a then x else u) (if b then y else v)
if_known way a b x y u v e p q = subst (λ z. Known way (if a then x else u) (if z then y else v)) (sym e) (at a)
  where
    at : (a : Bool) → Known way (if a then x else u) (if a then y else v)
    at true = p
    at false = q

unless_in : (a b : Answer) (x y : Option Numbers) → Refines a b → (a ≡ No → b ≡ No → Within x y) → Within (unless_all (Some every_number) None a x) (unless_all (Some every_number) None b y)
unless_in Yes b x y p q = ap (λ z. unless_all (Some every_number) None z y) p
unless_in No b x y p q = subst (λ z. Within x (unless_all (Some every_number) None z y)) (sym p) (q refl p)
unless_in Unknown b x y p q = tt

pub unless_known : (way : Way) (a b : Answer) (x y : Option Numbers) → Refined way a b → (a ≡ No → b ≡ No → Known way x y) → Known way (unless_all (Some every_number) None a x) (unless_all (Some every_number) None b y)
unless_known Forth a b x y p q = unless_in a b x y p q
unless_known Back a b x y p q = unless_in b a y x p (λ e f. q f e)

side_refined : (way : Way) (x y : Option Numbers) (i : ℤ) → Known way x y → Refined way (side_holds x i) (side_holds y i)
side_refined Forth x y i p = once_refines x y _ _ p (λ s. same_refines _)
side_refined Back x y i p = once_refines y x _ _ p (λ s. same_refines _)

pub range_refined : (way : Way) (x y u v : Option Numbers) (i : Option ℤ) → Known way x y → Known way u v → Refined way (range_holds x u i) (range_holds y v i)
range_refined way x y u v None p q = same_refined way No
range_refined way x y u v (Some i) p q = both_refined way _ _ _ _ (side_refined way x y i p) (side_refined way u v i q)

pub parent_end_known : (way : Way) (f : Numbers → Numbers) (is_open : Bool) (x y : Option Numbers) → Known way x y → Known way (parent_end f is_open x) (parent_end f is_open y)
parent_end_known Forth f is_open x y p = parent_end_within f is_open x y p
parent_end_known Back f is_open x y p = parent_end_within f is_open y x p

-- ---- what is denoted

pub whole_settled : (way : Way) (a b : Denotation ValueTree) → Settled way a b → Settled way (whole_number a) (whole_number b)
whole_settled Forth a b p = whole_settles a b p
whole_settled Back a b p = whole_settles b a p

pub character_settled : (way : Way) (a b : Denotation ValueTree) → Settled way a b → Settled way (one_character a) (one_character b)
character_settled Forth a b p = character_settles a b p
character_settled Back a b p = character_settles b a p

pub beside_known : (way : Way) (f : ℤ → Numbers) (a b : Denotation ℤ) → Settled way a b → Known way (beside f a) (beside f b)
beside_known Forth f a b p = beside_within f a b p
beside_known Back f a b p = beside_within f b a p

pub number_known : (way : Way) (a b : Denotation ValueTree) → Settled way a b → Known way (number_denoted a) (number_denoted b)
number_known Forth a b p = number_denoted_within a b p
number_known Back a b p = number_denoted_within b a p

values_at : (h k : Place) (x y : Option Numbers) (t : ValueTree) (a b : Denotation ValueTree) → Settles a b → Refines (compared (ValuesOf h x) t a) (compared (ValuesOf k y) t b)
values_at h k x y t (Denoted u) b p = subst (λ z. Refines (compared (ValuesOf h x) t (Denoted u)) (compared (ValuesOf k y) t z)) (sym p) (same_refines (compared (ValuesOf h x) t (Denoted u)))
values_at h k x y t Nothing b p = ap (compared (ValuesOf k y) t) p
values_at h k x y t Unsure b p = tt

characters_in : (c : Numbers) (t : ValueTree) (a b : Denotation ValueTree) → Settles a b → Refines (compared (CharactersOf c) t a) (compared (CharactersOf c) t b)
characters_in c t (Denoted u) b p = subst (λ z. Refines (compared (CharactersOf c) t (Denoted u)) (compared (CharactersOf c) t z)) (sym p) (same_refines (compared (CharactersOf c) t (Denoted u)))
characters_in c t Nothing b p = ap (compared (CharactersOf c) t) p
characters_in c t Unsure b p = tt

pub compared_values : (way : Way) (h k : Place) (x y : Option Numbers) (t : ValueTree) (a b : Denotation ValueTree) → Settled way a b → Refined way (compared (ValuesOf h x) t a) (compared (ValuesOf k y) t b)
compared_values Forth h k x y t a b p = values_at h k x y t a b p
compared_values Back h k x y t a b p = values_at k h y x t b a p

pub compared_characters : (way : Way) (c : Numbers) (t : ValueTree) (a b : Denotation ValueTree) → Settled way a b → Refined way (compared (CharactersOf c) t a) (compared (CharactersOf c) t b)
compared_characters Forth c t a b p = characters_in c t a b p
compared_characters Back c t a b p = characters_in c t b a p

-- ---- joining elements

flipped : {A : Type 0} (j : Joining A) (R : A → A → Type 0) → Keeps A A j j R → Keeps A A j j (λ a b. R b a)
flipped j R k = record {
  common = λ a c b d p q. k.common c a d b p q;
  joined = λ a c b d p q. k.joined c a d b p q;
  without = λ a c b d p q. k.without c a d b p q;
  empty = k.empty;
  everything = k.everything;
}

pub answers_refined : (way : Way) → Keeps Answer Answer answers answers (λ a b. Refined way a b)
answers_refined Forth = answers_keep
answers_refined Back = flipped answers (λ a b. Refines a b) answers_keep

pub number_sets_known : (way : Way) → Keeps (Option Numbers) (Option Numbers) number_sets number_sets (λ a b. Known way a b)
number_sets_known Forth = number_sets_keep
number_sets_known Back = flipped number_sets (λ a b. Within a b) number_sets_keep

-- ---- what is found on both sides

-- what the side that knows less has found, the other has found too, and they are related
abbrev pub Paired : {A B : Type 0} → Way → (A → B → Type 0) → Option A → Option B → Type 0
Paired Forth R None b = Unit {0}
Paired Forth R (Some x) b = (y : _) × (b ≡ Some y) × R x y
Paired Back R a None = Unit {0}
Paired Back R a (Some y) = (x : _) × (a ≡ Some x) × R x y

pub nothing_paired : {A B : Type 0} (way : Way) (R : A → B → Type 0) → Paired way R None None
nothing_paired Forth R = tt
nothing_paired Back R = tt

pub both_paired : {A B : Type 0} (way : Way) (R : A → B → Type 0) (x : A) (y : B) → R x y → Paired way R (Some x) (Some y)
both_paired Forth R x y r = (y, refl, r)
both_paired Back R x y r = (x, refl, r)

-- with what each is
pub paired_found : {A B : Type 0} (way : Way) (R : A → B → Type 0) (a : Option A) (b : Option B) → Paired way R a b → Paired way (λ x y. (a ≡ Some x) × (b ≡ Some y) × R x y) a b
paired_found Forth R None b p = tt
paired_found Forth R (Some x) b (y, e, r) = (y, e, (refl, e, r))
paired_found Back R a None p = tt
paired_found Back R a (Some y) (x, e, r) = (x, e, (e, refl, r))

pub paired_weaker : {A B : Type 0} (way : Way) (R S : A → B → Type 0) (a : Option A) (b : Option B) → ((x : A) (y : B) → R x y → S x y) → Paired way R a b → Paired way S a b
paired_weaker Forth R S None b h p = tt
paired_weaker Forth R S (Some x) b h (y, e, r) = (y, e, h x y r)
paired_weaker Back R S a None h p = tt
paired_weaker Back R S a (Some y) h (x, e, r) = (x, e, h x y r)

pub paired_refined : {A B : Type 0} (way : Way) (R : A → B → Type 0) (a : Option A) (b : Option B) (f : A → Answer) (g : B → Answer) → Paired way R a b → ((x : A) (y : B) → R x y → Refined way (f x) (g y)) →
    Refined way (once Unknown a f) (once Unknown b g)
paired_refined Forth R None b f g p h = tt
paired_refined Forth R (Some x) b f g (y, e, r) h = subst (λ z. Refines (f x) (once Unknown z g)) (sym e) (h x y r)
paired_refined Back R a None f g p h = tt
paired_refined Back R a (Some y) f g (x, e, r) h = subst (λ z. Refines (g y) (once Unknown z f)) (sym e) (h x y r)

pub paired_known : {A B D : Type 0} (way : Way) (R : A → B → Type 0) (a : Option A) (b : Option B) (f : A → Option D) (g : B → Option D) → Paired way R a b → ((x : A) (y : B) → R x y → Known way (f x) (g y)) →
    Known way (once None a f) (once None b g)
paired_known Forth R None b f g p h = tt
paired_known Forth R (Some x) b f g (y, e, r) h = subst (λ z. Within (f x) (once None z g)) (sym e) (h x y r)
paired_known Back R a None f g p h = tt
paired_known Back R a (Some y) f g (x, e, r) h = subst (λ z. Within (g y) (once None z f)) (sym e) (h x y r)

pub known_paired : {A : Type 0} (way : Way) (R : A → A → Type 0) (a b : Option A) → ((x : A) → R x x) → Known way a b → Paired way R a b
known_paired Forth R None b h p = tt
known_paired Forth R (Some x) b h p = (x, p, h x)
known_paired Back R a None h p = tt
known_paired Back R a (Some x) h p = (x, p, h x)

-- what is made of both
pub then_paired : {A B D E : Type 0} (way : Way) (R : A → B → Type 0) (S : D → E → Type 0) (a : Option A) (b : Option B) (f : A → D) (g : B → E) → Paired way R a b → ((x : A) (y : B) → R x y → S (f x) (g y)) →
    Paired way S (once None a (λ x. Some (f x))) (once None b (λ y. Some (g y)))
then_paired Forth R S None b f g p h = tt
then_paired Forth R S (Some x) b f g (y, e, r) h = (g y, ap (λ z. once None z (λ y. Some (g y))) e, h x y r)
then_paired Back R S a None f g p h = tt
then_paired Back R S a (Some y) f g (x, e, r) h = (f x, ap (λ z. once None z (λ x. Some (f x))) e, h x y r)

-- ---- what both sides have, or neither

abbrev pub Matched : {A B : Type 0} → (A → B → Type 0) → Option A → Option B → Type 0
Matched R None b = b ≡ None
Matched R (Some x) b = (y : _) × (b ≡ Some y) × R x y

pub same_matched : {A : Type 0} (R : A → A → Type 0) → ((x : A) → R x x) → (a : Option A) → Matched R a a
same_matched R h None = refl
same_matched R h (Some x) = (x, refl, h x)

pub matched_refined : {A B : Type 0} (way : Way) (u : Answer) (R : A → B → Type 0) (a : Option A) (b : Option B) (f : A → Answer) (g : B → Answer) → Matched R a b → ((x : A) (y : B) → R x y → Refined way (f x) (g y)) →
    Refined way (once u a f) (once u b g)
matched_refined way u R None b f g p h = equal_refined way u _ (ap (λ z. once u z g) p)
matched_refined way u R (Some x) b f g (y, e, r) h = subst (λ z. Refined way (f x) (once u z g)) (sym e) (h x y r)

pub matched_found : {A B : Type 0} (R : A → B → Type 0) (a : Option A) (b : Option B) → Matched R a b → Matched (λ x y. (a ≡ Some x) × R x y) a b
matched_found R None b p = p
matched_found R (Some x) b (y, e, r) = (y, e, (refl, r))

pub if_matched : {A B : Type 0} (R : A → B → Type 0) (a b : Bool) (x u : Option A) (y v : Option B) → b ≡ a → Matched R x y → Matched R u v → Matched R (if a then x else u) (if b then y else v)
if_matched R a b x u y v e p q = subst (λ z. Matched R (if a then x else u) (if z then y else v)) (sym e) (at a)
  where
    at : (a : Bool) → Matched R (if a then x else u) (if a then y else v)
    at true = p
    at false = q
