-- Sets of the code by their variant.
use Rattle.std.proofs.Common.{◌≡◌, ℕ, Bool, List, refl, sym, ap, ◌∙◌}
use Rattle.std.specs.Prelude.{ℤ, pos, not, ◌&&◌, ◌||◌}
use Rattle.std.specs.List.{list_any}
use Rattle.asn_meaning.specs.ValueTrees.{same_number}
use Rattle.asn_meaning_ranges.specs.declared.sets.Numbers.{Numbers as OwnNumbers, Numbers-F, out-Numbers, fold_out-Numbers, map-Numbers}
use Rattle.asn_meaning_ranges.specs.declared.sets.Numbers.TheVariants as own
use Rattle.asn_meaning_ranges.specs.Sets.{numbers_of_level, shown_numbers}
use Rattle.asn_meaning.specs.Numbers.{Numbers, every_number, no_number, one_number, numbers_from, numbers_to, in_both, in_either, in_first, above_least, below_greatest}
use Rattle.asn_meaning.specs.Ranges.{numbers_among}

level : Numbers-F OwnNumbers → Numbers
level Numbers-F.Every = every_number
level Numbers-F.Nothing = no_number
level (Numbers-F.One i) = one_number i
level (Numbers-F.From left_out i) = numbers_from left_out i
level (Numbers-F.To left_out i) = numbers_to left_out i
level (Numbers-F.Among codes) = numbers_among codes
level (Numbers-F.Both a b) = in_both (shown_numbers a) (shown_numbers b)
level (Numbers-F.Either a b) = in_either (shown_numbers a) (shown_numbers b)
level (Numbers-F.Without a b) = in_first (shown_numbers a) (shown_numbers b)
level (Numbers-F.AboveLeast a) = above_least (shown_numbers a)
level (Numbers-F.BelowGreatest a) = below_greatest (shown_numbers a)

shown_is : (s : OwnNumbers) → shown_numbers s ≡ level (out-Numbers s)
unfolding shown_numbers level
shown_is s = fold_out-Numbers Numbers numbers_of_level s ∙ go (out-Numbers s)
  where
    go : (x : Numbers-F OwnNumbers) → numbers_of_level (map-Numbers OwnNumbers Numbers shown_numbers x) ≡ level x
    go Numbers-F.Every = refl
    go Numbers-F.Nothing = refl
    go (Numbers-F.One i) = refl
    go (Numbers-F.From left_out i) = refl
    go (Numbers-F.To left_out i) = refl
    go (Numbers-F.Among codes) = refl
    go (Numbers-F.Both a b) = refl
    go (Numbers-F.Either a b) = refl
    go (Numbers-F.Without a b) = refl
    go (Numbers-F.AboveLeast a) = refl
    go (Numbers-F.BelowGreatest a) = refl

pub shown_every : (s : OwnNumbers) → s ≡ own.Every → shown_numbers s ≡ every_number
unfolding level
shown_every s e = shown_is s ∙ ap level (ap out-Numbers e ∙ own.outs-Every)

pub shown_nothing : (s : OwnNumbers) → s ≡ own.Nothing → shown_numbers s ≡ no_number
unfolding level
shown_nothing s e = shown_is s ∙ ap level (ap out-Numbers e ∙ own.outs-Nothing)

pub shown_one : (s : OwnNumbers) (i : ℤ) → s ≡ own.One i → shown_numbers s ≡ one_number i
unfolding level
shown_one s i e = shown_is s ∙ ap level (ap out-Numbers e ∙ own.outs-One i)

pub shown_from : (s : OwnNumbers) (left_out : Bool) (i : ℤ) → s ≡ own.From left_out i → shown_numbers s ≡ numbers_from left_out i
unfolding level
shown_from s left_out i e = shown_is s ∙ ap level (ap out-Numbers e ∙ own.outs-From left_out i)

pub shown_to : (s : OwnNumbers) (left_out : Bool) (i : ℤ) → s ≡ own.To left_out i → shown_numbers s ≡ numbers_to left_out i
unfolding level
shown_to s left_out i e = shown_is s ∙ ap level (ap out-Numbers e ∙ own.outs-To left_out i)

pub shown_among : (s : OwnNumbers) (codes : List ℕ) → s ≡ own.Among codes → shown_numbers s ≡ numbers_among codes
unfolding level
shown_among s codes e = shown_is s ∙ ap level (ap out-Numbers e ∙ own.outs-Among codes)

pub shown_both : (s a b : OwnNumbers) → s ≡ own.Both a b → shown_numbers s ≡ in_both (shown_numbers a) (shown_numbers b)
unfolding level
shown_both s a b e = shown_is s ∙ ap level (ap out-Numbers e ∙ own.outs-Both a b)

pub shown_either : (s a b : OwnNumbers) → s ≡ own.Either a b → shown_numbers s ≡ in_either (shown_numbers a) (shown_numbers b)
unfolding level
shown_either s a b e = shown_is s ∙ ap level (ap out-Numbers e ∙ own.outs-Either a b)

pub shown_without : (s a b : OwnNumbers) → s ≡ own.Without a b → shown_numbers s ≡ in_first (shown_numbers a) (shown_numbers b)
unfolding level
shown_without s a b e = shown_is s ∙ ap level (ap out-Numbers e ∙ own.outs-Without a b)

pub shown_above_least : (s a : OwnNumbers) → s ≡ own.AboveLeast a → shown_numbers s ≡ above_least (shown_numbers a)
unfolding level
shown_above_least s a e = shown_is s ∙ ap level (ap out-Numbers e ∙ own.outs-AboveLeast a)

pub shown_below_greatest : (s a : OwnNumbers) → s ≡ own.BelowGreatest a → shown_numbers s ≡ below_greatest (shown_numbers a)
unfolding level
shown_below_greatest s a e = shown_is s ∙ ap level (ap out-Numbers e ∙ own.outs-BelowGreatest a)

-- ---- what a set has

pub among_has : (s : OwnNumbers) (codes cs : List ℕ) (i : ℤ) (b : Bool) → s ≡ own.Among codes → cs ≡ codes → b ≡ list_any (λ c. same_number (pos c) i) cs → b ≡ (shown_numbers s).has i
among_has s codes cs i b e f g = g ∙ ap (list_any (λ c. same_number (pos c) i)) f ∙ sym (ap (λ (x : Numbers). x.has i) (shown_among s codes e))

pub both_has : (s a b : OwnNumbers) (i : ℤ) → s ≡ own.Both a b → (shown_numbers s).has i ≡ ((shown_numbers a).has i && (shown_numbers b).has i)
both_has s a b i e = ap (λ (x : Numbers). x.has i) (shown_both s a b e)

pub either_has : (s a b : OwnNumbers) (i : ℤ) → s ≡ own.Either a b → (shown_numbers s).has i ≡ ((shown_numbers a).has i || (shown_numbers b).has i)
either_has s a b i e = ap (λ (x : Numbers). x.has i) (shown_either s a b e)

pub without_has : (s a b : OwnNumbers) (i : ℤ) → s ≡ own.Without a b → (shown_numbers s).has i ≡ ((shown_numbers a).has i && not ((shown_numbers b).has i))
without_has s a b i e = ap (λ (x : Numbers). x.has i) (shown_without s a b e)
