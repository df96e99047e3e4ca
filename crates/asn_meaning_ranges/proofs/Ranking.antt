-- Elements joined by set operators, taken one by one.
use Rattle.std.proofs.Common.{◌≡◌, ℕ, ◌+◌, ◌<◌, ◌≤◌, List, ◌∷◌, drop, length, get_or, Option, refl, sym, ap, ◌∙◌}
use Rattle.std.specs.Prelude.{map}
use Rattle.std.proofs.lemmas.List.{drop_more, drop_all}
use Rattle.asn_tree_kinds.specs.declared.constraints.SetOperator.{SetOperator}
use Rattle.asn_tree_kinds.specs.declared.constraints.SetOperator.TheVariants.{Intersection, Union, Except}
use Rattle.asn_tree.specs.declared.constraints.SubtypeElement.{SubtypeElement}
use Rattle.asn_meaning_ranges.specs.declared.chains.Joined.{Joined}
use Rattle.asn_meaning_ranges.specs.Chains.{shown_joined}
use Rattle.asn_meaning_ranges.specs.inner.Joining.{Ranks, ranked_behind, ranks_with}
use Rattle.asn_meaning.specs.Numbers.{Numbers, in_both, in_either, lifted}

one_more : (f : SubtypeElement → Option Numbers) (r : Ranks) (op : SetOperator) (e : SubtypeElement) (others : List (SetOperator × SubtypeElement)) →
    ranked_behind f (ranks_with r op (f e)) others ≡ ranked_behind f r ((op, e) ∷ others)
one_more f r Except e others = refl
one_more f r Intersection e others = refl
one_more f r Union e others = refl

pub next : (f : SubtypeElement → Option Numbers) (r more : Ranks) (s : Option Numbers) (xs : List Joined) (i : ℕ) (x : Joined) → i < length xs → x ≡ get_or xs i x →
    s ≡ f x.element.now → more ≡ ranks_with r x.operator s → ranked_behind f more (map shown_joined (drop (i + 1) xs)) ≡ ranked_behind f r (map shown_joined (drop i xs))
next f r more s xs i x lt e at is =
    ap (λ m. ranked_behind f m (map shown_joined (drop (i + 1) xs))) (is ∙ ap (ranks_with r x.operator) at)
    ∙ one_more f r x.operator x.element.now (map shown_joined (drop (i + 1) xs))
    ∙ sym (ap (λ ys. ranked_behind f r (map shown_joined ys)) (drop_more xs i x lt ∙ ap (λ y. y ∷ drop (i + 1) xs) (sym e)))

pub done : (f : SubtypeElement → Option Numbers) (r : Ranks) (xs : List Joined) (i : ℕ) → length xs ≤ i →
    ranked_behind f r (map shown_joined (drop i xs)) ≡ lifted in_either r.united (lifted in_both r.met r.last)
done f r xs i le = ap (λ ys. ranked_behind f r (map shown_joined ys)) (drop_all i xs le)
