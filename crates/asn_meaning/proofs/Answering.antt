-- Answers, denotations and options that know more.
use Rattle.std.proofs.Common.{◌≡◌, Bool, true, false, List, [], ◌∷◌, Option, Some, None, refl, sym, subst, ap, ◌∙◌}
use Rattle.std.specs.Prelude.{if◌then◌else◌}
use Rattle.asn_meaning.specs.Answers.{Answer, Yes, No, Unknown, both, either, denied, each, once, Denotation, Denoted, Nothing, Unsure, together, made_of, provided, unless_all, Refines, Within, Settles}

pub same_refines : (a : Answer) → Refines a a
same_refines Yes = refl
same_refines No = refl
same_refines Unknown = tt

pub refines_through : (a b c : Answer) → Refines a b → Refines b c → Refines a c
refines_through Unknown b c p q = tt
refines_through Yes b c p q = subst (λ x. Refines x c) p q
refines_through No b c p q = subst (λ x. Refines x c) p q

both_no : (a : Answer) → both a No ≡ No
both_no Yes = refl
both_no No = refl
both_no Unknown = refl

pub both_yes : (a : Answer) → both a Yes ≡ a
both_yes Yes = refl
both_yes No = refl
both_yes Unknown = refl

pub both_through : (a b c : Answer) → both (both a b) c ≡ both a (both b c)
both_through Yes b c = refl
both_through No b c = refl
both_through Unknown Yes c = refl
both_through Unknown No c = refl
both_through Unknown Unknown Yes = refl
both_through Unknown Unknown No = refl
both_through Unknown Unknown Unknown = refl

pub both_refines : (a c b d : Answer) → Refines a c → Refines b d → Refines (both a b) (both c d)
both_refines Yes c b d p q = subst (λ x. Refines b (both x d)) (sym p) q
both_refines No c b d p q = ap (λ x. both x d) p
both_refines Unknown c Yes d p q = tt
both_refines Unknown c Unknown d p q = tt
both_refines Unknown c No d p q = subst (λ x. both c x ≡ No) (sym q) (both_no c)

either_yes : (a : Answer) → either a Yes ≡ Yes
either_yes Yes = refl
either_yes No = refl
either_yes Unknown = refl

pub either_refines : (a c b d : Answer) → Refines a c → Refines b d → Refines (either a b) (either c d)
either_refines No c b d p q = subst (λ x. Refines b (either x d)) (sym p) q
either_refines Yes c b d p q = ap (λ x. either x d) p
either_refines Unknown c No d p q = tt
either_refines Unknown c Unknown d p q = tt
either_refines Unknown c Yes d p q = subst (λ x. either c x ≡ Yes) (sym q) (either_yes c)

pub denied_refines : (b d : Answer) → Refines b d → Refines (denied b) (denied d)
denied_refines Yes d p = ap denied p
denied_refines No d p = ap denied p
denied_refines Unknown d p = tt

pub each_refines : {A : Type 0} (f g : A → Answer) → ((x : A) → Refines (f x) (g x)) → (xs : List A) → Refines (each f xs) (each g xs)
each_refines f g m [] = refl
each_refines f g m (x ∷ xs) = both_refines (f x) (g x) (each f xs) (each g xs) (m x) (each_refines f g m xs)

pub same_within : {A : Type 0} (a : Option A) → Within a a
same_within None = tt
same_within (Some x) = refl

pub within_through : {A : Type 0} (a b c : Option A) → Within a b → Within b c → Within a c
within_through None b c p q = tt
within_through (Some x) b c p q = subst (λ z. Within z c) p q

pub same_settles : {A : Type 0} (a : Denotation A) → Settles a a
same_settles (Denoted x) = refl
same_settles Nothing = refl
same_settles Unsure = tt

pub settles_through : {A : Type 0} (a b c : Denotation A) → Settles a b → Settles b c → Settles a c
settles_through Unsure b c p q = tt
settles_through (Denoted x) b c p q = subst (λ z. Settles z c) p q
settles_through Nothing b c p q = subst (λ z. Settles z c) p q

-- ---- once something is known

pub once_refines : {A : Type 0} (a b : Option A) (f g : A → Answer) → Within a b → ((x : A) → Refines (f x) (g x)) → Refines (once Unknown a f) (once Unknown b g)
once_refines None b f g p h = tt
once_refines (Some x) b f g p h = subst (λ z. Refines (f x) (once Unknown z g)) (sym p) (h x)

pub once_within : {A B : Type 0} (a b : Option A) (f g : A → Option B) → Within a b → ((x : A) → Within (f x) (g x)) → Within (once None a f) (once None b g)
once_within None b f g p h = tt
once_within (Some x) b f g p h = subst (λ z. Within (f x) (once None z g)) (sym p) (h x)

pub once_settles : {A B : Type 0} (a b : Option A) (f g : A → Denotation B) → Within a b → ((x : A) → Settles (f x) (g x)) → Settles (once Unsure a f) (once Unsure b g)
once_settles None b f g p h = tt
once_settles (Some x) b f g p h = subst (λ z. Settles (f x) (once Unsure z g)) (sym p) (h x)

-- what is known from the beginning
pub given_refines : {A : Type 0} (u : Answer) (a : Option A) (f g : A → Answer) → ((x : A) → Refines (f x) (g x)) → Refines (once u a f) (once u a g)
given_refines u None f g h = same_refines u
given_refines u (Some x) f g h = h x

pub given_within : {A B : Type 0} (a : Option A) (f g : A → Option B) → ((x : A) → Within (f x) (g x)) → Within (once None a f) (once None a g)
given_within None f g h = tt
given_within (Some x) f g h = h x

pub given_settles : {A B : Type 0} (u : Denotation B) (a : Option A) (f g : A → Denotation B) → ((x : A) → Settles (f x) (g x)) → Settles (once u a f) (once u a g)
given_settles u None f g h = same_settles u
given_settles u (Some x) f g h = h x

pub one_of : {A : Type 0} (a b c : Option A) (x y : A) → Within a c → Within b c → a ≡ Some x → b ≡ Some y → x ≡ y
one_of a b c x y p q e f =
    let u : c ≡ Some x = subst (λ z. Within z c) e p in
    let v : c ≡ Some y = subst (λ z. Within z c) f q in
    cc

-- ---- single values

pub unless_refines : (a b x y : Answer) → Refines a b → Refines x y → Refines (unless_all Yes Unknown a x) (unless_all Yes Unknown b y)
unless_refines Yes b x y p q = ap (λ z. unless_all Yes Unknown z y) p
unless_refines No b x y p q = subst (λ z. Refines x (unless_all Yes Unknown z y)) (sym p) q
unless_refines Unknown b x y p q = tt

pub unless_within : {A : Type 0} (every : A) (a b : Answer) (x y : Option A) → Refines a b → Within x y → Within (unless_all (Some every) None a x) (unless_all (Some every) None b y)
unless_within every Yes b x y p q = ap (λ z. unless_all (Some every) None z y) p
unless_within every No b x y p q = subst (λ z. Within x (unless_all (Some every) None z y)) (sym p) q
unless_within every Unknown b x y p q = tt

-- ---- denotations of parts

together_nothing : {A B C : Type 0} (f : A → B → C) (a : Denotation A) → together f a Nothing ≡ Nothing
together_nothing f (Denoted x) = refl
together_nothing f Nothing = refl
together_nothing f Unsure = refl

pub together_settles : {A B C : Type 0} (f : A → B → C) (a c : Denotation A) (b d : Denotation B) → Settles a c → Settles b d → Settles (together f a b) (together f c d)
together_settles f Nothing c b d p q = ap (λ z. together f z d) p
together_settles f (Denoted x) c (Denoted y) d p q = ap (λ z. together f z d) p ∙ ap (together f (Denoted x)) q
together_settles f (Denoted x) c Nothing d p q = ap (λ z. together f z d) p ∙ ap (together f (Denoted x)) q
together_settles f (Denoted x) c Unsure d p q = tt
together_settles f Unsure c Nothing d p q = ap (together f c) q ∙ together_nothing f c
together_settles f Unsure c (Denoted y) d p q = tt
together_settles f Unsure c Unsure d p q = tt

pub made_settles : {A B : Type 0} (f : A → B) (a c : Denotation A) → Settles a c → Settles (made_of f a) (made_of f c)
made_settles f (Denoted x) c p = ap (made_of f) p
made_settles f Nothing c p = ap (made_of f) p
made_settles f Unsure c p = tt

pub provided_settles : {A : Type 0} (a b : Answer) (x : A) → Refines a b → Settles (provided a x) (provided b x)
provided_settles Yes b x p = ap (λ z. provided z x) p
provided_settles No b x p = ap (λ z. provided z x) p
provided_settles Unknown b x p = tt

-- ---- tests

pub if_refines : (b : Bool) (x y u v : Answer) → Refines x y → Refines u v → Refines (if b then x else u) (if b then y else v)
if_refines true x y u v p q = p
if_refines false x y u v p q = q

pub if_within : {A : Type 0} (b : Bool) (x y u v : Option A) → Within x y → Within u v → Within (if b then x else u) (if b then y else v)
if_within true x y u v p q = p
if_within false x y u v p q = q

pub if_settles : {A : Type 0} (b : Bool) (x y u v : Denotation A) → Settles x y → Settles u v → Settles (if b then x else u) (if b then y else v)
if_settles true x y u v p q = p
if_settles false x y u v p q = q
